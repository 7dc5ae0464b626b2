-- How the lease table is made of the sessions' journals.
use Rattle.std.proofs.Common.{◌≡◌, ℕ, ◌+◌, ◌<◌, ◌≤◌, false, List, [], ◌∷◌, ◌++◌, length, get_or, take, refl, sym, ap, subst, ◌∙◌, arith}
use Rattle.std.proofs.lemmas.List.{length-map, take_all, take_more}
use Rattle.engine_start.proofs.Places.{both_pushed}
use Rattle.engine_start.specs.Restarts.{lines_of_sessions}
use Rattle.lease_core.specs.Kept.{Kept as Journal}
use Rattle.lease_core.specs.Laws.{LeasesHaveLibraries, LinesTellLease, LinesTellOwner, OneOwner}
use Rattle.lease_core.specs.Lines.{last_line, lines_of}
use Rattle.lease_core.specs.Runs.{IsRun}
use Rattle.lease_core.specs.Showable.{owner_by}
use Rattle.lease_core.specs.State.{owner_in, owner_of, state_of}
use Rattle.lease_core.specs.Steps.{IsLibrary}
use Rattle.lease_core.specs.declared.entry.Entry.{Entry}
use Rattle.lease_core.specs.declared.lease.Ending.{Ending}
use Rattle.lease_core.specs.declared.lease.Ending.TheVariants.{GivenBack, Running, TakenBack}
use Rattle.lease_core.specs.declared.lease.Line.{Line}
use Rattle.lease_core.specs.declared.limits.TheConstants.{MOST_LEASES}
use Rattle.lease_words.specs.Leases.{Each, is_running, runs}
use Rattle.lease_words.specs.Registries.{IsEndedJournal, kept_lines, lines_of_each}
use Rattle.session_book.specs.Kept.{Kept}
use Rattle.switchboard.specs.Board.{no_session}

ended_by : (e : Ending) (library : ℕ) → 1 ≤ library → owner_in e library ≡ 0 → runs e ≡ false
ended_by Running library some none = absurd (omega arith)
ended_by (GivenBack heir) library some none = refl
ended_by TakenBack library some none = refl

none_runs : (lines : List Line) → (0 < length lines → IsLibrary (last_line lines).library) → owner_by lines ≡ 0 → is_running lines ≡ false
none_runs [] libraries none = refl
none_runs (l ∷ ls) libraries none =
    let last = last_line (l ∷ ls) in
    let library = libraries (omega arith) in
    ended_by last.ending last.library library.from_one none

-- the journal of a session that the engine has
pub is_ended : LeasesHaveLibraries → LinesTellOwner → LinesTellLease → OneOwner → (limit : ℕ) (entries : List Entry) (journal : Journal) → IsRun limit entries → limit ≤ MOST_LEASES
    → owner_of (state_of entries) ≡ 0 → kept_lines journal ≡ lines_of entries → IsEndedJournal journal
is_ended libraries owner lease one limit entries journal run few none same = record {
  ended = ap is_running same ∙ none_runs (lines_of entries) (libraries limit entries run) (owner entries ∙ none);
  few = (let count = ap (λ (ls : List Line). length ls) same ∙ lease entries in let most = (one limit entries run).1 in omega arith);
}

each_more : {A : Type 0} (P : A → Type 0) (xs : List A) (x : A) → Each P xs → P x → Each P (xs ++ x ∷ [])
each_more P [] x each last = (last, tt)
each_more P (y ∷ xs) x each last = (each.0, each_more P xs x each.1 last)

-- the journals of the first sessions
pub record AreJournals (sessions : List Kept) (count : ℕ) (journals : List Journal) : Type 0 where
  pub lines : lines_of_each journals ≡ lines_of_sessions (take count sessions)
  pub ended : Each IsEndedJournal journals

pub one_journal_more : (sessions : List Kept) (s : ℕ) (old new : List Journal) (journal : Journal) → s < length sessions → new ≡ old ++ journal ∷ [] → kept_lines journal ≡ lines_of (get_or sessions s no_session).book.entries
    → IsEndedJournal journal → AreJournals sessions s old → AreJournals sessions (s + 1) new
one_journal_more sessions s old new journal small is same ended are = record {
  lines = both_pushed kept_lines (λ (k : Kept). lines_of k.book.entries) old new (take s sessions) (take (s + 1) sessions) journal (get_or sessions s no_session) is (take_more sessions s no_session small) same are.lines;
  ended = subst (Each IsEndedJournal) (sym is) (each_more IsEndedJournal old journal are.ended ended);
}

pub all_journals : (sessions : List Kept) (count : ℕ) (journals : List Journal) → count ≡ length sessions → AreJournals sessions count journals → lines_of_each journals ≡ lines_of_sessions sessions
all_journals sessions count journals all are = are.lines ∙ ap lines_of_sessions (take_all count sessions (omega arith))

pub journal_count : (sessions : List Kept) (journals : List Journal) → lines_of_each journals ≡ lines_of_sessions sessions → length journals ≡ length sessions
journal_count sessions journals same =
    sym (length-map journals kept_lines) ∙ ap (λ (ls : List (List Line)). length ls) same ∙ length-map sessions (λ (k : Kept). lines_of k.book.entries)
