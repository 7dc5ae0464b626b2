-- What a library's calls answer.
use Rattle.std.specs.Prelude.{◌≡◌, ◌≢◌, ℕ, ◌+◌, ◌<◌, ◌≤◌, ◌==◌, if◌then◌else◌, suc, [], ◌∷◌, length, None}
use Rattle.lease_core.specs.declared.word.Standing.TheVariants.{Active, Released}
use Rattle.lease_core.specs.declared.word.Word.{Word}
use Rattle.lease_words.specs.declared.view.Shape.{Shape}
use Rattle.lease_words.specs.declared.view.LibrarySession.{LibrarySession}
use Rattle.lease_words.specs.declared.item.SendError.{SendError}
use Rattle.lease_words.specs.declared.item.SendError.TheVariants.{LaneFull, SendsSpent, Lost}
use Rattle.lease_words.specs.Leases.{Each, IsNotOlder, EndsLease, held_lease, held_count}
use Rattle.lease_core.specs.Word.{word_in}
use Rattle.lease_words.specs.declared.item.Item.{Item}
use Rattle.lease_words.specs.Layout.{slot_of}
use Rattle.lease_words.specs.Views.{library_view, first_library, library_session, with_library_session}
use Rattle.lease_words.specs.Sees.{after_taken_load, after_loss, after_send, with_sending}
use Rattle.lease_words.specs.Tells.{Seated, HasSent, HasLost, held_word}

-- the word of an active lease
abbrev pub active_word : ℕ → ℕ → ℕ → Word
active_word lease library count = record { lease = lease; owner = library; standing = Active; count = count }

-- the word of a lease that was given back: its owner is the heir, or the library itself where there is none
abbrev pub released_word : ℕ → ℕ → ℕ → Word
released_word lease owner count = record { lease = lease; owner = owner; standing = Released; count = count }

-- the count of beats at which a library's stays
abbrev pub most_beats : ℕ
most_beats = 18446744073709551615

abbrev pub next_beat : ℕ → ℕ
next_beat n = if n == most_beats then n else n + 1

-- A taken count that was loaded is no less than what was known of it, and no more than what was sent, which is more by what the lane has room for at most.
pub record HasLoaded (depth : ℕ) (ls : LibrarySession) (taken : ℕ) : Type 0 where
  pub later : ls.taken ≤ taken
  pub behind : taken ≤ length ls.items
  pub within : length ls.items ≤ taken + depth

-- Another word was found in the place of the held lease's: it names a later lease, or this one as taken back with the seat's count, and it is no
-- older than any word that was known.
pub record IsLoss (ls : LibrarySession) (seen : Word) : Type 0 where
  pub ends : EndsLease (held_lease ls.leases) (held_count ls.leases) seen
  pub later : Each (λ (w : Word). IsNotOlder w seen) ls.words

-- Why a send was refused, in the order in which the causes are tried: the lane was full by the taken count that was loaded, the lease has made
-- all its sends, or the exchange found another word than the lease's.
abbrev pub IsRefusal : Shape → LibrarySession → LibrarySession → ℕ → SendError → Type 0
IsRefusal shape ls after taken (LaneFull committed found) = (committed ≡ length ls.items) × (found ≡ taken) × (committed ≡ taken + shape.depth) × (after ≡ after_taken_load ls taken)
IsRefusal shape ls after taken (SendsSpent count) = (count ≡ held_count ls.leases) × (count ≡ shape.sends) × (length ls.items ≢ taken + shape.depth) × (after ≡ after_taken_load ls taken)
IsRefusal shape ls after taken (Lost seen) =
    IsLoss ls seen × (held_count ls.leases ≢ shape.sends) × (length ls.items ≢ taken + shape.depth) × (after ≡ after_loss (after_taken_load ls taken) seen)

-- A library's seat with an empty slot out, by which it is about to send, and the number of the lease's word.
pub record IsOffering (k : Shape) (s number slot word : ℕ) (me : Seated) : Type 0 where
  pub rests : me ≡ (library_view k (first_library me.0.libraries), (slot, None) ∷ [])
  pub filling : (first_library me.0.libraries).sending ≡ suc s
  pub number_is : number ≡ (first_library me.0.libraries).number
  pub place : slot ≡ slot_of k.libraries s number (length (library_session (first_library me.0.libraries) s).items)
  pub word_is : word ≡ held_word number (library_session (first_library me.0.libraries) s).leases
  pub held : 0 < held_lease (library_session (first_library me.0.libraries) s).leases
  pub room : held_count (library_session (first_library me.0.libraries) s).leases < k.sends

-- the seat once the item is sent, or was given back because of another word
abbrev pub HasOffered : Shape → ℕ → ℕ → ℕ → Item → Seated → Seated → Type 0
HasOffered k s number word item me me' =
    let l = first_library me.0.libraries in
    let ls = library_session l s in
    (me' ≡ (library_view k (with_sending (with_library_session l s (after_send ls (item ∷ []) (word_in (word + 1)))) 0), [])) × HasSent number ls (item ∷ []) (word + 1)

abbrev pub HasFailed : Shape → ℕ → ℕ → ℕ → Seated → Seated → Type 0
HasFailed k s number found me me' =
    let l = first_library me.0.libraries in
    let ls = library_session l s in
    (me' ≡ (library_view k (with_sending (with_library_session l s (after_loss ls (word_in found))) 0), [])) × HasLost number ls found
