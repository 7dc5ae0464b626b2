-- What a library did by its leases: by what its report says, by what its seat knows, and by what the lines of a session's leases tell.
use Rattle.std.specs.Prelude.{◌≡◌, ◌⊎◌, ℕ, ◌==◌, if◌then◌else◌, List, [], ◌∷◌, Ok, Err}
use Rattle.std.specs.List.{Contains, flat_map}
use Rattle.lease_core.specs.Deeds.{deeds_told_of}
use Rattle.lease_core.specs.Lines.{opening_word}
use Rattle.lease_core.specs.declared.lease.Deed.{Deed as Told}
use Rattle.lease_core.specs.declared.lease.Deed.TheVariants.{GaveBack, Sent, TookBack}
use Rattle.lease_core.specs.declared.lease.Line.{Line}
use Rattle.lease_core.specs.declared.word.Word.{Word}
use Rattle.lease_words.specs.Leases.{AreBelow}
use Rattle.lease_words.specs.declared.view.LibraryLease.{LibraryLease}
use Rattle.lease_words.specs.declared.view.LibrarySession.{LibrarySession}
use Rattle.library_api.specs.Calls.{Deed, did_give, did_send}
use Rattle.library_api.specs.declared.event.Event.{Event}
use Rattle.library_api.specs.declared.event.Event.TheVariants as events
use Rattle.library_api.specs.declared.refusal.HandRefusal.{HandRefusal}
use Rattle.library_api.specs.declared.refusal.HandRefusal.TheVariants as handing
use Rattle.library_api.specs.declared.refusal.ReleaseRefusal.{ReleaseRefusal}
use Rattle.library_api.specs.declared.refusal.ReleaseRefusal.TheVariants as releasing
use Rattle.library_api.specs.declared.refusal.SendRefusal.{SendRefusal}
use Rattle.library_api.specs.declared.refusal.SendRefusal.TheVariants as sending
use Rattle.run_report.specs.declared.calls.Call.{Call as Kept}
use Rattle.run_report.specs.declared.calls.Call.TheVariants as calls

-- what a call did with a session, where it was answered so: it sent by a lease, or gave the lease back
abbrev pub deed_kept : ℕ → Kept → List Deed
deed_kept s (calls.Send t body (Ok sent)) = if t == s then did_send sent.lease sent.ordinal ∷ [] else []
deed_kept s (calls.Send t body (Err why)) = []
deed_kept s (calls.Release t (Ok released)) = if t == s then did_give released.lease released.count 0 ∷ [] else []
deed_kept s (calls.Release t (Err why)) = []
deed_kept s (calls.Hand t heir (Ok released)) = if t == s then did_give released.lease released.count heir ∷ [] else []
deed_kept s (calls.Hand t heir (Err why)) = []
deed_kept s (calls.Request t from answer) = []
deed_kept s (calls.Poll event) = []
deed_kept s calls.Beat = []

abbrev pub deeds_kept : ℕ → List Kept → List Deed
deeds_kept s kept = flat_map (deed_kept s) kept

-- What was done by a lease, where the library did it: that the engine took the session back is none of its deeds.
abbrev pub own_deed : Told → List Deed
own_deed (Sent lease library ordinal) = did_send lease ordinal ∷ []
own_deed (GaveBack lease library count heir) = did_give lease count heir ∷ []
own_deed (TookBack lease library count) = []

abbrev pub own_deeds : List Told → List Deed
own_deeds told = flat_map own_deed told

-- what the lines of a session's leases tell that a library did: of each of its leases the sends, and then that it gave it back
abbrev pub deeds_in_lines : ℕ → List Line → List Deed
deeds_in_lines library lines = own_deeds (deeds_told_of library 1 lines)

-- the word by which a call found a lease lost
abbrev pub lost_sending : SendRefusal → List Word
lost_sending sending.NotHeld = []
lost_sending (sending.TooLong size) = []
lost_sending (sending.BadBody at) = []
lost_sending (sending.LaneFull committed taken) = []
lost_sending (sending.SendsSpent count) = []
lost_sending (sending.Lost seen) = seen ∷ []

abbrev pub lost_releasing : ReleaseRefusal → List Word
lost_releasing releasing.NotHeld = []
lost_releasing (releasing.Lost seen) = seen ∷ []

abbrev pub lost_handing : HandRefusal → List Word
lost_handing handing.NotHeld = []
lost_handing (handing.BadHeir heir) = []
lost_handing (handing.Lost seen) = seen ∷ []

-- of a poll with its session, since that stands in its event
abbrev pub lost_polling : ℕ → Event → List Word
lost_polling s events.Nothing = []
lost_polling s (events.NotYet t pos published) = []
lost_polling s (events.Granted nr t lease from start) = []
lost_polling s (events.Refused nr t why) = []
lost_polling s (events.Message t lease pos bytes) = []
lost_polling s (events.Stale t lease pos) = []
lost_polling s (events.LeaseLost t lease seen) = if t == s then seen ∷ [] else []

-- the word of a session that a call was answered with, where it found a lease of the session lost
abbrev pub word_kept : ℕ → Kept → List Word
word_kept s (calls.Send t body (Err why)) = if t == s then lost_sending why else []
word_kept s (calls.Send t body (Ok sent)) = []
word_kept s (calls.Release t (Err why)) = if t == s then lost_releasing why else []
word_kept s (calls.Release t (Ok released)) = []
word_kept s (calls.Hand t heir (Err why)) = if t == s then lost_handing why else []
word_kept s (calls.Hand t heir (Ok released)) = []
word_kept s (calls.Poll event) = lost_polling s event
word_kept s (calls.Request t from answer) = []
word_kept s calls.Beat = []

abbrev pub words_kept : ℕ → List Kept → List Word
words_kept s kept = flat_map (word_kept s) kept

-- of a library's leases, of which the latest is the first, each is above those that it had before
abbrev pub AreRising : List LibraryLease → Type 0
AreRising [] = Unit {0}
AreRising (h ∷ hs) = AreBelow h.lease hs × AreRising hs

-- the seat knows this word, or it is the one that stood there at first
abbrev pub IsKnownWord : LibrarySession → Word → Type 0
IsKnownWord known w = (w ≡ opening_word) ⊎ Contains known.words w
