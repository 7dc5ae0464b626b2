-- What holds and ends do to lines, and which words lines show.
use Rattle.std.proofs.Common.{◌≡◌, ℕ, ◌-◌, ◌<◌, ◌≤◌, inl, inr, true, false, cond, eqb, List, [], ◌∷◌, ◌++◌, length, map, Some, refl, sym, ap, ◌∙◌, subst, arith}
use Rattle.std.specs.List.{slice_get}
use Rattle.std.proofs.lemmas.Bool.{and_parts, eqb-true, ltb-true, leb-true, eq-eqb, false≢true}
use Rattle.lease_core.specs.declared.entry.Entry.{Entry}
use Rattle.lease_core.specs.declared.lease.Ending.{Ending}
use Rattle.lease_core.specs.declared.lease.Ending.TheVariants.{Running, GivenBack, TakenBack}
use Rattle.lease_core.specs.declared.lease.Line.{Line}
use Rattle.lease_core.specs.declared.limits.TheConstants.{MOST_LIBRARIES}
use Rattle.lease_core.specs.declared.word.Standing.{Standing}
use Rattle.lease_core.specs.declared.word.Standing.TheVariants.{Active, Released, Revoked}
use Rattle.lease_core.specs.declared.word.Word.{Word}
use Rattle.lease_core.specs.State.{State, state_of, with_last, last_or, lease_with_ending, no_lease, owner_in}
use Rattle.lease_core.specs.Steps.{IsActive, hold_entry, timeout_entry}
use Rattle.lease_core.specs.Runs.{owes_hold}
use Rattle.lease_core.specs.Lines.{line_of, lines_of, no_line, last_line, standing_of, shown_owner, word_of, FitsLine, IsShown, entries_after_hold, entries_after_timeout, entries_after_word, taken_back, taken_back_line, heir_named, ending_by, raised_line, raises, raised}
use Rattle.lease_core.specs.Showable.{NamesOwner, IsShowable, IsOwned, CanTimeOut}
use Rattle.lease_core.proofs.Lasts.{last_or-with_last, map-with_last}
use Rattle.lease_core.proofs.Pushed.{state_of-push}
use Rattle.lease_core.proofs.Raised.{lines-extended}
use Rattle.lease_core.proofs.Lawful.{owner_running}

pub lines-held : (entries : List Entry) (until : ℕ) → lines_of (entries_after_hold until entries) ≡ lines_of entries
lines-held entries until =
    elim (owes_hold (state_of entries).latest) as (λ b. lines_of (cond b (entries ++ hold_entry (state_of entries) until ∷ []) entries) ≡ lines_of entries) [
      | true ↦ ap (λ (s : State). map line_of s.leases) (state_of-push entries (hold_entry (state_of entries) until))
      | false ↦ refl
    ]

pub lines-shown : (entries : List Entry) (w : Word) (until : ℕ) → lines_of (entries_after_hold until (entries_after_word entries w)) ≡ raised (lines_of entries) w
lines-shown entries w until = lines-held (entries_after_word entries w) until ∙ lines-extended entries w

pub lines-timed_out : (entries : List Entry) (standing : Standing) → IsActive (state_of entries) → lines_of (entries_after_timeout standing entries) ≡ taken_back standing (lines_of entries)
lines-timed_out entries Active active =
    ap (λ (s : State). map line_of s.leases) (state_of-push entries (timeout_entry (state_of entries)))
    ∙ map-with_last line_of (lease_with_ending TakenBack) taken_back_line no_lease (state_of entries).leases (λ _. refl)
lines-timed_out entries Released active = refl
lines-timed_out entries Revoked active = refl

-- there is a line by which a library has the session
some_line : (lines : List Line) → IsOwned lines → 0 < length lines
some_line [] owned = absurd (omega arith)
some_line (l ∷ ls) owned = omega arith

-- the last of a list stands at its last place
last_at : (d : Line) (l : Line) (ls : List Line) → slice_get (l ∷ ls) (length ls) ≡ Some (last_or d (l ∷ ls))
last_at d l [] = refl
last_at d l (k ∷ ks) = last_at d k ks

fits_own : (ending : Ending) (l : Line) → l.ending ≡ ending → FitsLine (standing_of ending) (shown_owner ending l.library) l.sends l
fits_own Running l is = (refl, omega arith)
fits_own (GivenBack heir) l is = (ap standing_of is, refl, ap (λ e. shown_owner e l.library) (sym is))
fits_own TakenBack l is = (is, refl, refl)

pub words_shown : (lines : List Line) → IsShown lines (word_of lines)
words_shown [] = inl refl
words_shown (l ∷ ls) = inr (
  last_or no_line (l ∷ ls),
  record {
    lease = omega arith;
    line = let place : length (l ∷ ls) - 1 ≡ length ls = omega arith in rw place (last_at no_line l ls);
    fits = fits_own (last_or no_line (l ∷ ls)).ending (last_or no_line (l ∷ ls)) refl;
  },
)

-- a word by a line names the line's library, or its heir
names_own : (ending : Ending) (library : ℕ) → shown_owner ending library ≤ MOST_LIBRARIES → NamesOwner (standing_of ending) (shown_owner ending library) library
names_own Running library few = refl
names_own TakenBack library few = refl
names_own (GivenBack heir) library few =
    elim (eqb heir 0) as (λ b. eqb heir 0 ≡ b → cond b library heir ≤ MOST_LIBRARIES → NamesOwner Released (cond b library heir) library) [
      | true ↦ λ none few. inl refl
      | false ↦ λ some few. let other : heir ≡ 0 → ⊥ = λ same. false≢true (sym some ∙ eq-eqb heir 0 same) in inr (record { from_one = omega (arith, other); to_last = few })
    ] refl few

-- so does one that raised it
names_raised : (standing : Standing) (owner library : ℕ) → shown_owner (GivenBack (heir_named owner library)) library ≡ owner → owner ≤ MOST_LIBRARIES → NamesOwner Released owner library
names_raised standing owner library is few = subst (λ o. NamesOwner Released o library) is (names_own (GivenBack (heir_named owner library)) library (subst (λ o. o ≤ MOST_LIBRARIES) (sym is) few))

-- a word that adds nothing is the lines' own
kept_showable : (lines : List Line) (w : Word) → word_of lines ≡ w → w.owner ≤ MOST_LIBRARIES → IsShowable lines w
kept_showable lines w is few =
    let own : word_of lines ≡ w → IsShowable lines (word_of lines) = λ is. record {
      lease = refl;
      owner = names_own (last_line lines).ending (last_line lines).library (subst (λ (v : Word). v.owner ≤ MOST_LIBRARIES) (sym is) few);
      count = omega arith;
    } in
    subst (IsShowable lines) is (own is)

names_news : (standing : Standing) (owner library : ℕ) (ending : Ending) → ending ≡ Running → standing_of (ending_by standing owner library ending) ≡ standing → shown_owner (ending_by standing owner library ending) library ≡ owner → owner ≤ MOST_LIBRARIES → NamesOwner standing owner library
names_news Active owner library ending runs is named few = sym named ∙ ap (λ e. shown_owner e library) runs
names_news Released owner library ending runs is named few = names_raised Released owner library named few
names_news Revoked owner library ending runs is named few = absurd (let no : Active ≡ Revoked = ap standing_of (sym runs) ∙ is in cc)

-- a line stands for the word that raised it
raised_fits : (lines : List Line) (w : Word) → raises lines w ≡ true → word_of (with_last (raised_line w) lines) ≡ w → (standing_of (raised_line w (last_line lines)).ending ≡ w.standing) × (shown_owner (raised_line w (last_line lines)).ending (last_line lines).library ≡ w.owner) × ((last_line lines).ending ≡ Running)
raised_fits lines w news is =
    let l = last_line lines in
    let tests = and_parts _ _ news in
    let both = and_parts _ _ tests.0 in
    let active = ltb-true 0 (owner_in l.ending l.library) both.1 in
    let last = last_or-with_last (raised_line w) no_line lines (some_line lines active) in (
      sym (ap (λ (k : Line). standing_of k.ending) last) ∙ ap (λ (v : Word). v.standing) is,
      sym (ap (λ (k : Line). shown_owner k.ending k.library) last) ∙ ap (λ (v : Word). v.owner) is,
      owner_running l.ending l.library active,
    )

news_showable : (lines : List Line) (w : Word) → raises lines w ≡ true → word_of (with_last (raised_line w) lines) ≡ w → w.owner ≤ MOST_LIBRARIES → IsShowable lines w
news_showable lines w news is few =
    let l = last_line lines in
    let tests = and_parts _ _ news in
    let both = and_parts _ _ tests.0 in
    let fits = raised_fits lines w news is in
    record {
      lease = eqb-true w.lease (length lines) both.0;
      owner = names_news w.standing w.owner l.library l.ending fits.2 fits.0 fits.1 few;
      count = leb-true l.sends w.count tests.1;
    }

pub words_showable : (lines : List Line) (w : Word) → word_of (raised lines w) ≡ w → w.owner ≤ MOST_LIBRARIES → IsShowable lines w
unfolding raised
words_showable lines w =
    elim (raises lines w) as (λ b. raises lines w ≡ b → word_of (cond b (with_last (raised_line w) lines) lines) ≡ w → w.owner ≤ MOST_LIBRARIES → IsShowable lines w) [
      | true ↦ λ news. news_showable lines w news
      | false ↦ λ old. kept_showable lines w
    ] refl

-- a lease that runs is no revoked one
runs_on : (standing : Standing) (ending : Ending) → ending ≡ Running → standing_of ending ≡ standing → standing ≡ Revoked → ⊥
runs_on standing ending runs is revoked = let no : Active ≡ Revoked = ap standing_of (sym runs) ∙ is ∙ revoked in cc

raised_no_revoke : (standing : Standing) (owner library : ℕ) (ending : Ending) → ending ≡ Running → standing_of (ending_by standing owner library ending) ≡ standing → standing ≡ Revoked → ⊥
raised_no_revoke Active owner library ending runs is revoked = cc
raised_no_revoke Released owner library ending runs is revoked = cc
raised_no_revoke Revoked owner library ending runs is revoked = runs_on Revoked ending runs is refl

not_revoked : (lines : List Line) (w : Word) → word_of (raised lines w) ≡ w → IsOwned lines → w.standing ≡ Revoked → ⊥
unfolding raised
not_revoked lines w is owned revoked =
    let l = last_line lines in
    elim (raises lines w) as (λ b. raises lines w ≡ b → word_of (cond b (with_last (raised_line w) lines) lines) ≡ w → ⊥) [
      | true ↦ λ news is. let fits = raised_fits lines w news is in raised_no_revoke w.standing w.owner l.library l.ending fits.2 fits.0 revoked
      | false ↦ λ old is. runs_on w.standing l.ending (owner_running l.ending l.library owned) (ap (λ (v : Word). v.standing) is) revoked
    ] refl is

pub words_can_time_out : (lines : List Line) (w : Word) → word_of (raised lines w) ≡ w → w.owner ≤ MOST_LIBRARIES → IsOwned lines → CanTimeOut lines w
words_can_time_out lines w is few owned = record { showable = words_showable lines w is few; owned = owned; standing = not_revoked lines w is owned }
