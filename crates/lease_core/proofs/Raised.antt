-- What a word adds to a journal is what it adds to its lines.
use Rattle.std.proofs.Common.{◌≡◌, ℕ, zero, suc, add-zero, ◌+◌, ◌-◌, ◌<◌, ◌≤◌, true, false, cond, List, length, map, refl, sym, ap, ◌∙◌, subst, arith}
use Rattle.std.proofs.lemmas.List.{length-map}
use Rattle.std.proofs.lemmas.Bool.{and_parts, ltb-true, leb-true}
use Rattle.lease_core.specs.declared.entry.Entry.{Entry}
use Rattle.lease_core.specs.declared.lease.Ending.{Ending}
use Rattle.lease_core.specs.declared.lease.Ending.TheVariants.{GivenBack}
use Rattle.lease_core.specs.declared.lease.Lease.{Lease}
use Rattle.lease_core.specs.declared.word.Standing.{Standing}
use Rattle.lease_core.specs.declared.word.Standing.TheVariants.{Active, Released, Revoked}
use Rattle.lease_core.specs.declared.word.Word.{Word}
use Rattle.lease_core.specs.State.{state_of, with_last, last_or, last_lease, lease_with_send, lease_with_ending, no_lease, owner_in, owner_of}
use Rattle.lease_core.specs.Lines.{line_of, lines_of, heir_named, entries_after_sends, entries_after_standing, news_count, is_news, entries_after_word, raised_line, raises, raised}
use Rattle.lease_core.specs.Steps.{send_entry, release_entry, IsActive}
use Rattle.lease_core.specs.Runs.{owes_hold}
use Rattle.lease_core.proofs.Lasts.{last_or-with_last, with_last-alike, with_last-twice, with_last-same, map-with_last, last_or-map}
use Rattle.lease_core.proofs.Pushed.{state_of-push}
use Rattle.lease_core.proofs.Settled.{settled_by}
use Rattle.lease_core.proofs.Lawful.{some_lease}

abbrev more_sent : ℕ → Lease → Lease
more_sent n l = record l { sends = l.sends + n }

none_more : (l : Lease) → l ≡ more_sent 0 l
none_more l = rw (add-zero) refl

one_more_sent : (n : ℕ) (l : Lease) → lease_with_send (more_sent n l) ≡ more_sent (suc n) l
one_more_sent n l = let e : l.sends + n + 1 ≡ l.sends + suc n = omega arith in rw (e) refl

pub leases-with_sends : (n : ℕ) (entries : List Entry) → (state_of (entries_after_sends n entries)).leases ≡ with_last (more_sent n) (state_of entries).leases
leases-with_sends zero entries =
    let ls = (state_of entries).leases in
    sym (with_last-same ls) ∙ with_last-alike (λ l. l) (more_sent 0) no_lease ls (λ _. none_more (last_or no_lease ls))
leases-with_sends (suc n) entries =
    let ls = (state_of entries).leases in
    let before = entries_after_sends n entries in
    ap (λ s. s.leases) (state_of-push before (send_entry (state_of before)))
    ∙ ap (with_last lease_with_send) (leases-with_sends n entries)
    ∙ with_last-twice lease_with_send (more_sent n) ls
    ∙ with_last-alike (λ l. lease_with_send (more_sent n l)) (more_sent (suc n)) no_lease ls (λ _. one_more_sent n (last_or no_lease ls))

-- what the word makes of the last lease
abbrev ending_after : Standing → ℕ → ℕ → Ending → Ending
ending_after Released owner library ending = GivenBack (heir_named owner library)
ending_after Active owner library ending = ending
ending_after Revoked owner library ending = ending

abbrev lease_after : Standing → ℕ → ℕ → Lease → Lease
lease_after standing owner n l = record l { sends = l.sends + n; ending = ending_after standing owner l.library l.ending }

leases-given_back : (standing : Standing) (owner n : ℕ) (entries : List Entry) → 0 < length (state_of entries).leases → (state_of (entries_after_standing standing owner (entries_after_sends n entries))).leases ≡ with_last (lease_after standing owner n) (state_of entries).leases
leases-given_back Active owner n entries some = leases-with_sends n entries
leases-given_back Revoked owner n entries some = leases-with_sends n entries
leases-given_back Released owner n entries some =
    let ls = (state_of entries).leases in
    let sent = entries_after_sends n entries in
    let s = state_of sent in
    let heir = heir_named owner (last_lease s.leases).library in
    let all = leases-with_sends n entries in
    let same : (last_lease s.leases).library ≡ (last_lease ls).library = ap (λ k. (last_lease k).library) all ∙ ap (λ k. k.library) (last_or-with_last (more_sent n) no_lease ls some) in
    ap (λ t. t.leases) (state_of-push sent (release_entry s heir))
    ∙ ap (with_last (lease_with_ending (GivenBack heir))) all
    ∙ with_last-twice (lease_with_ending (GivenBack heir)) (more_sent n) ls
    ∙ with_last-alike (λ l. lease_with_ending (GivenBack heir) (more_sent n l)) (lease_after Released owner n) no_lease ls (λ _. ap (λ k. record { library = (last_lease ls).library; from = (last_lease ls).from; start = (last_lease ls).start; sends = (last_lease ls).sends + n; ending = GivenBack (heir_named owner k) }) same)

pub raises_alike : (entries : List Entry) (w : Word) → raises (lines_of entries) w ≡ is_news entries w
raises_alike entries w =
    let ls = (state_of entries).leases in
    let last = last_or-map line_of no_lease ls in
    let size = length-map ls line_of in
    rw (size, last) refl

raised_last : (w : Word) (l : Lease) → l.sends ≤ w.count → line_of (lease_after w.standing w.owner (w.count - l.sends) l) ≡ raised_line w (line_of l)
raised_last w l le = let full : l.sends + (w.count - l.sends) ≡ w.count = omega arith in rw (full) refl

raised_when : (entries : List Entry) (w : Word) → is_news entries w ≡ true → map line_of (state_of (entries_after_standing w.standing w.owner (entries_after_sends (news_count entries w) entries))).leases ≡ with_last (raised_line w) (map line_of (state_of entries).leases)
raised_when entries w h =
    let s = state_of entries in
    let parts = and_parts _ _ h in
    let both = and_parts _ _ parts.0 in
    let some = some_lease s.leases (ltb-true 0 (owner_of s) both.1) in
    let le = leb-true (last_lease s.leases).sends w.count parts.1 in
    ap (map line_of) (leases-given_back w.standing w.owner (news_count entries w) entries some)
    ∙ map-with_last line_of (lease_after w.standing w.owner (news_count entries w)) (raised_line w) no_lease s.leases (λ _. raised_last w (last_lease s.leases) le)

pub lines-extended : (entries : List Entry) (w : Word) → lines_of (entries_after_word entries w) ≡ raised (lines_of entries) w
unfolding entries_after_word raised
lines-extended entries w =
    rw (raises_alike entries w)
    (elim (is_news entries w) as (λ b. is_news entries w ≡ b → lines_of (cond b (entries_after_standing w.standing w.owner (entries_after_sends (news_count entries w) entries)) entries) ≡ cond b (with_last (raised_line w) (lines_of entries)) (lines_of entries)) [
      | true ↦ λ h. raised_when entries w h
      | false ↦ λ h. refl
    ] refl)

-- behind sends the lease is active still, with so many sends more
pub last-with_sends : (n : ℕ) (entries : List Entry) → IsActive (state_of entries) → last_lease (state_of (entries_after_sends n entries)).leases ≡ more_sent n (last_lease (state_of entries).leases)
last-with_sends n entries active = ap last_lease (leases-with_sends n entries) ∙ last_or-with_last (more_sent n) no_lease (state_of entries).leases (some_lease (state_of entries).leases active)

pub active-with_sends : (n : ℕ) (entries : List Entry) → IsActive (state_of entries) → IsActive (state_of (entries_after_sends n entries))
active-with_sends n entries active = subst (λ (l : Lease). 0 < owner_in l.ending l.library) (sym (last-with_sends n entries active)) active

pub library-with_sends : (n : ℕ) (entries : List Entry) → IsActive (state_of entries) → (last_lease (state_of (entries_after_sends n entries)).leases).library ≡ (last_lease (state_of entries).leases).library
library-with_sends n entries active = ap (λ (l : Lease). l.library) (last-with_sends n entries active)

pub sends-with_sends : (n : ℕ) (entries : List Entry) → IsActive (state_of entries) → (last_lease (state_of (entries_after_sends n entries)).leases).sends ≡ (last_lease (state_of entries).leases).sends + n
sends-with_sends n entries active = ap (λ (l : Lease). l.sends) (last-with_sends n entries active)

pub settled-with_sends : (n : ℕ) (entries : List Entry) → owes_hold (state_of entries).latest ≡ false → owes_hold (state_of (entries_after_sends n entries)).latest ≡ false
settled-with_sends zero entries settled = settled
settled-with_sends (suc n) entries settled = settled_by (entries_after_sends n entries) (send_entry (state_of (entries_after_sends n entries))) refl
