-- A session is given back, and waits for the heir where there is one.
use Rattle.std.proofs.Common.{◌≡◌, ℕ, ◌<◌, ◌⊎◌, inl, inr, true, false, Bool, cond, eqb, ltb, ◌&&◌, List, [], ◌∷◌, ◌++◌, refl, sym, ap, ◌∙◌, subst, arith}
use Rattle.std.proofs.lemmas.Bool.{eq-eqb, lt-ltb, le-ltb, le-leb, false≢true}
use Rattle.lease_core.specs.declared.entry.Entry.{Entry}
use Rattle.lease_core.specs.declared.lease.Ending.{Ending}
use Rattle.lease_core.specs.declared.lease.Ending.TheVariants.{Running, GivenBack, TakenBack}
use Rattle.lease_core.specs.declared.word.Standing.{Standing}
use Rattle.lease_core.specs.declared.word.Standing.TheVariants.{Active, Released, Revoked}
use Rattle.lease_core.specs.declared.word.Word.{Word}
use Rattle.lease_core.specs.Kept.{IsCurrent}
use Rattle.lease_core.specs.Showable.{NamesOwner}
use Rattle.lease_core.specs.State.{State, state_of, last_lease, lease_of, owner_in, owner_of}
use Rattle.lease_core.specs.declared.event.Event.TheVariants.{Releases, Holds}
use Rattle.lease_core.specs.Steps.{IsActive, IsLibrary, IsHeir, release_entry, hold_entry}
use Rattle.lease_core.specs.Runs.{owes_hold, IsNext}
use Rattle.lease_core.specs.Lines.{lines_of, raises, heir_named, entries_after_release, entries_after_standing, entries_after_hold, is_news, is_released, news_count, entries_after_sends, entries_after_word}
use Rattle.lease_core.proofs.Pushed.{state_of-push}
use Rattle.lease_core.proofs.Raised.{raises_alike, active-with_sends, settled-with_sends}
use Rattle.lease_core.proofs.Settled.{next_by}

-- whoever has the session by a lease is a library
pub owner_some : (ending : Ending) (library : ℕ) → 0 < owner_in ending library → 0 < library
owner_some Running library h = h
owner_some (GivenBack heir) library h = absurd (omega arith)
owner_some TakenBack library h = absurd (omega arith)

-- nobody, or another library than the lease's, which isn't the engine
is_heir : (s : State) (owner : ℕ) → 0 < (last_lease s.leases).library → (owner ≡ (last_lease s.leases).library) ⊎ IsLibrary owner → IsHeir s (heir_named owner (last_lease s.leases).library)
is_heir s owner some named =
    let library = (last_lease s.leases).library in
    elim (eqb owner library) as (λ b. eqb owner library ≡ b → IsHeir s (cond b 0 owner)) [
      | true ↦ λ same. record { to_last = omega arith; other = λ e. omega (arith, some, e) }
      | false ↦ λ other. record {
        to_last = elim named [ inl same ↦ absurd (false≢true (sym other ∙ eq-eqb owner library same)) | inr is ↦ is.to_last ];
        other = λ same. false≢true (sym other ∙ eq-eqb owner library same);
      }
    ] refl

pub next_release : (limit : ℕ) (s : State) (owner : ℕ) → IsActive s → (owner ≡ (last_lease s.leases).library) ⊎ IsLibrary owner → owes_hold s.latest ≡ false → IsNext limit s (release_entry s (heir_named owner (last_lease s.leases).library))
next_release limit s owner active named settled =
    let some = owner_some (last_lease s.leases).ending (last_lease s.leases).library active in
    next_by limit s (Releases (heir_named owner (last_lease s.leases).library)) (active, is_heir s owner some named) tt refl settled

pub owes_given_back : (owner : ℕ) (entries : List Entry) → owes_hold (state_of (entries_after_release owner entries)).latest ≡ ltb 0 (heir_named owner (last_lease (state_of entries).leases).library)
owes_given_back owner entries = ap (λ (s : State). owes_hold s.latest) (state_of-push entries (release_entry (state_of entries) (heir_named owner (last_lease (state_of entries).leases).library)))

pub next_hold : (limit : ℕ) (s : State) (until : ℕ) → owes_hold s.latest ≡ true → IsNext limit s (hold_entry s until)
next_hold limit s until owes = record {
  is_step = record { event = Holds until; can_happen = tt; entry = refl };
  connection = tt;
  hold = owes;
}

-- the hold follows where it is owed, and none is owed then
pub held_owed : (until : ℕ) (entries : List Entry) → owes_hold (state_of entries).latest ≡ true → entries_after_hold until entries ≡ entries ++ hold_entry (state_of entries) until ∷ []
held_owed until entries owes = rw owes refl

pub held_settled : (until : ℕ) (entries : List Entry) → owes_hold (state_of entries).latest ≡ false → entries_after_hold until entries ≡ entries
held_settled until entries settled = rw settled refl

true_right : (b : Bool) → (b && true) ≡ b
true_right true = refl
true_right false = refl

-- a word of the last lease is news while that lease is active
pub news_by_owner : (entries : List Entry) (w : Word) → IsCurrent (state_of entries) w → is_news entries w ≡ ltb 0 (owner_of (state_of entries))
news_by_owner entries w current =
    let same = eq-eqb w.lease (lease_of (state_of entries)) current.lease in
    let enough = le-leb (last_lease (state_of entries).leases).sends w.count current.count in
    rw (same, enough) (true_right (ltb 0 (owner_of (state_of entries))))

pub released_owner : (standing : Standing) (owner library : ℕ) → standing ≡ Released → NamesOwner standing owner library → (owner ≡ library) ⊎ IsLibrary owner
released_owner standing owner library is names = subst (λ t. NamesOwner t owner library) is names

-- nothing follows the sends where the library has the session still
pub not_given_back : (standing : Standing) (owner : ℕ) (entries : List Entry) → (standing ≡ Active) ⊎ (standing ≡ Revoked) → (entries_after_standing standing owner entries ≡ entries) × (is_released standing ≡ false)
not_given_back Active owner entries h = (refl, refl)
not_given_back Revoked owner entries h = (refl, refl)
not_given_back Released owner entries h = elim h [ inl active ↦ absurd cc | inr revoked ↦ absurd cc ]

-- what a word adds, by whether a library has the session
pub nothing_new : (entries : List Entry) (w : Word) (until : ℕ) → IsCurrent (state_of entries) w → owner_of (state_of entries) ≡ 0 → owes_hold (state_of entries).latest ≡ false → entries_after_hold until (entries_after_word entries w) ≡ entries
unfolding entries_after_word
nothing_new entries w until current none settled =
    let old = news_by_owner entries w current ∙ le-ltb 0 (owner_of (state_of entries)) (omega (arith, none)) in
    ap (λ b. entries_after_hold until (cond b (entries_after_standing w.standing w.owner (entries_after_sends (news_count entries w) entries)) entries)) old ∙ held_settled until entries settled

pub extended_by : (entries : List Entry) (w : Word) → IsCurrent (state_of entries) w → IsActive (state_of entries) → entries_after_word entries w ≡ entries_after_standing w.standing w.owner (entries_after_sends (news_count entries w) entries)
unfolding entries_after_word
extended_by entries w current active =
    let news = news_by_owner entries w current ∙ lt-ltb 0 (owner_of (state_of entries)) active in
    ap (λ b. cond b (entries_after_standing w.standing w.owner (entries_after_sends (news_count entries w) entries)) entries) news

pub not_released : (standing : Standing) → is_released standing ≡ false → (standing ≡ Active) ⊎ (standing ≡ Revoked)
not_released Active h = inl refl
not_released Revoked h = inr refl
not_released Released h = absurd (false≢true (sym h))

-- a library has the session still where its word doesn't say that it gave it back
pub still_active : (entries : List Entry) (w : Word) (until : ℕ) → IsCurrent (state_of entries) w → IsActive (state_of entries) → owes_hold (state_of entries).latest ≡ false → is_released w.standing ≡ false → IsActive (state_of (entries_after_hold until (entries_after_word entries w)))
still_active entries w until current active settled kept =
    let news = news_count entries w in
    let stays = not_given_back w.standing w.owner (entries_after_sends news entries) (not_released w.standing kept) in
    let same = extended_by entries w current active ∙ stays.0 in
    let all = ap (entries_after_hold until) same ∙ held_settled until (entries_after_sends news entries) (settled-with_sends news entries settled) in
    subst (λ es. IsActive (state_of es)) (sym all) (active-with_sends news entries active)

-- a word that can be shown raises the lines exactly while a library has the session
pub raises_owned : (entries : List Entry) (w : Word) → IsCurrent (state_of entries) w → IsActive (state_of entries) → raises (lines_of entries) w ≡ true
raises_owned entries w current active = raises_alike entries w ∙ news_by_owner entries w current ∙ lt-ltb 0 (owner_of (state_of entries)) active

pub raises_free : (entries : List Entry) (w : Word) → IsCurrent (state_of entries) w → owner_of (state_of entries) ≡ 0 → raises (lines_of entries) w ≡ false
raises_free entries w current none = raises_alike entries w ∙ news_by_owner entries w current ∙ le-ltb 0 (owner_of (state_of entries)) (omega (arith, none))
