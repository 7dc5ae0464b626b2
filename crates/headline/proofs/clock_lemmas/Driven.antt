-- Over the turns of a run that is served sessions and connections stay in time, up to a moment that the clock told.
use Rattle.std.proofs.Common.{◌≡◌, inl, inr, ℕ, zero, suc, ◌+◌, ◌<◌, ◌≤◌, List, [], ◌∷◌, ◌++◌, get_or, length, map, Option, None, refl, sym, ap, subst, ◌∙◌, arith}
use Rattle.std.proofs.lemmas.Bool.{cases_lt}
use Rattle.std.proofs.lemmas.List.Elements.{All-append, All-cons, All-contains, All-filter, All-from_get_or, All-head, All-map, All-nil, All-tail, All-weaker}
use Rattle.std.proofs.lemmas.Option.{none-some}
use Rattle.std.specs.List.{All}
use Rattle.std.specs.Prelude.{max, min, not}
use Rattle.headline.proofs.Walking.{each_in_turn}
use Rattle.headline.proofs.clock_lemmas.Journals.{AreTimely, IsTimely}
use Rattle.headline.proofs.clock_lemmas.Lines.{AreInTime, IsInTime, IsTold, later_line}
use Rattle.headline.proofs.clock_lemmas.Opened.{AreOpened, IsOff}
use Rattle.headline.proofs.clock_lemmas.Phases.{HasHeard}
use Rattle.headline.proofs.clock_lemmas.Walk.{ClockLaws, IsClockedEngine, turn_clocked, turn_moment}
use Rattle.headline.specs.clock.Kept.{moment_at}
use Rattle.headline.specs.clock.TakenBack.{TimedOutInTime}
use Rattle.headline.specs.clock.Waited.{EndedInTime}
use Rattle.connection_core.specs.Connection.{ConnectionState}
use Rattle.connection_core.specs.Record.{record_of}
use Rattle.engine_config.specs.declared.config.Config.{Config}
use Rattle.engine_end.specs.Records.{SessionLeft, accepted_of, connection_records, dialled_of, left_in, left_of}
use Rattle.engine_loop.specs.declared.engine.Engine.{Engine}
use Rattle.engine_loop.specs.Starts.{StartsSessions}
use Rattle.gate_io.specs.Clock.{greatest_of}
use Rattle.gate_io.specs.declared.clocks.TheConstants.{LAST_MOMENT}
use Rattle.lease_core.specs.declared.entry.Entry.{Entry}
use Rattle.lease_core.specs.declared.entry.Entry.TheVariants.{Timeout}
use Rattle.serve_run.specs.Drives.{Drive, DrivesFor, DrivesOn, DrivesOnce}
use Rattle.session_book.specs.Book.{Book}
use Rattle.session_book.specs.Kept.{Kept}
use Rattle.session_book.specs.declared.reads.SessionRecord.{SessionRecord}
use Rattle.session_core.specs.State.{State}
use Rattle.session_core.specs.declared.causes.Cause.TheVariants.{Silent}
use Rattle.switchboard.specs.Board.{Board, book_at, no_session, place_at}

-- the greatest reading, once there is one more
greatest_more : (readings : List ℕ) (reading : ℕ) → greatest_of (readings ++ reading ∷ []) ≡ max (greatest_of readings) reading
greatest_more [] reading = omega arith
greatest_more (r ∷ rs) reading = (let rest = greatest_more rs reading in omega arith)

told_further : (old new r reading before after last : ℕ) → new ≡ max old (min r last) → after ≡ max before r → old ≤ min (max reading before) last → new ≤ min (max reading after) last
told_further old new r reading before after last moment greatest told = omega arith

pub told_first : (reading last : ℕ) → min reading last ≤ min (max reading 0) last
told_first reading last = omega arith

past_all : (places : List (Option ℕ)) (s : ℕ) → length places ≤ s → get_or places s None ≡ None
past_all [] s past = refl
past_all (p ∷ ps) zero past = absurd (omega arith)
past_all (p ∷ ps) (suc s) past = past_all ps s (omega arith)

from_zero : (n : ℕ) → 0 ≤ n
from_zero n = omega arith

-- as a run begins
module _ (start : ℕ → State) (first : ℕ) (config : Config) (board : Board) (starts : StartsSessions config board) where
  first_heard : (s : ℕ) → s < length board.sessions → HasHeard first first (book_at board s).machine
  first_heard s within =
      subst (λ (book : Book). HasHeard first first book.machine) (sym (starts.books s (subst (λ n. s < n) starts.count within)))
      (record { heard = λ on. absurd (on refl); past = from_zero first; tested = λ since is. absurd (none-some since is) })

  first_off : (s : ℕ) → s < length board.sessions → IsOff (get_or board.sessions s no_session)
  first_off s within none = ap (λ (book : Book). book.machine.phase) (starts.books s (subst (λ n. s < n) starts.count within))

  unplaced : (s : ℕ) → place_at board s ≡ None
  unplaced s = elim (cases_lt s (length board.sessions)) [
    | inl within ↦ starts.first.unplaced s within
    | inr past ↦ past_all board.places s (let places = starts.first.places in omega arith)
  ]

  first_told : (s : ℕ) → s < length board.sessions → IsTold start first config.timeout first (get_or board.sessions s no_session)
  first_told s within =
      subst (λ (book : Book). AreTimely first config.timeout first book.entries) (sym (starts.books s (subst (λ n. s < n) starts.count within))) (All-nil (IsTimely first config.timeout first))

  pub first_in_time : AreInTime start first config.timeout first board
  first_in_time = record {
    lines = subst (All (IsInTime start first config.timeout first)) (sym starts.first.connections) (All-nil (IsInTime start first config.timeout first));
    machines = All-from_get_or (λ (kept : Kept). HasHeard first first kept.book.machine) board.sessions no_session first_heard;
    journals = All-from_get_or (IsTold start first config.timeout first) board.sessions no_session first_told;
  }

  pub first_opened : AreOpened board
  first_opened = record {
    off = All-from_get_or IsOff board.sessions no_session first_off;
    opened = λ s k placed. absurd (none-some k (sym (unplaced s) ∙ placed));
  }

module _ (before : ℕ → List Entry) (start : ℕ → State) (first timeout : ℕ) (g : ClockLaws before start) where
  -- The engine's moment isn't before the first one, and is no greater than the greatest that the clock told.
  pub record IsClockedDrive (reading : ℕ) (drive : Drive) : Type 0 where
    pub begun : first ≤ drive.at.engine.moment
    pub clocked : IsClockedEngine before start first timeout g drive.at.engine.moment drive.at.engine
    pub told : drive.at.engine.moment ≤ moment_at (greatest_of (reading ∷ drive.readings))

  drove_once : (reading : ℕ) (old new : Drive) → DrivesOnce old new → IsClockedDrive reading old → IsClockedDrive reading new
  drove_once reading old new is was =
      let one = is.makes in
      let made : one.made.engine.moment ≡ max old.at.engine.moment (min is.reading LAST_MOMENT) = turn_moment before start first timeout g is.reading old.at one.made is.turn one.makes in
      let moment : new.at.engine.moment ≡ max old.at.engine.moment (min is.reading LAST_MOMENT) = ap (λ (e : Engine). e.moment) one.engine ∙ made in
      let begun = was.begun in
      record {
        begun = omega arith;
        clocked = subst (λ (e : Engine). IsClockedEngine before start first timeout g e.moment e) (sym one.engine)
            (turn_clocked before start first timeout g is.reading old.at one.made is.turn one.makes was.begun was.clocked);
        told = told_further old.at.engine.moment new.at.engine.moment is.reading reading (greatest_of old.readings) (greatest_of new.readings) LAST_MOMENT moment
            (ap greatest_of is.readings_are ∙ greatest_more old.readings is.reading) was.told;
      }

  pub drove_for : (reading connections libraries count : ℕ) (old new : Drive) → DrivesFor connections libraries count old new → IsClockedDrive reading old → IsClockedDrive reading new
  drove_for reading connections libraries count old new is was =
      each_in_turn (λ i. DrivesOn connections libraries) (λ a b. IsClockedDrive reading a → IsClockedDrive reading b) (λ d so. so) (λ a b c one two so. two (one so)) (λ i a b on. drove_once reading a b on.drives) count old new is was

-- what the records of connections that are in time have
line_record : (start : ℕ → State) (first timeout at last : ℕ) → at ≤ last → (c : ConnectionState) → IsInTime start first timeout at c → EndedInTime start first last (record_of c)
line_record start first timeout at last up_to c was since is = (later_line start first timeout at last up_to c was).ended (Silent since) is since refl

pub lines_recorded : (start : ℕ → State) (first timeout at last : ℕ) → at ≤ last → (cs : List ConnectionState) → All (IsInTime start first timeout at) cs → All (EndedInTime start first last) (connection_records cs)
lines_recorded start first timeout at last up_to cs all =
    let each = All-weaker (IsInTime start first timeout at) (λ (c : ConnectionState). EndedInTime start first last (record_of c)) (line_record start first timeout at last up_to) cs all in
    All-append (EndedInTime start first last) (map record_of (accepted_of cs)) (map record_of (dialled_of cs))
    (All-map (EndedInTime start first last) record_of (accepted_of cs) (All-filter (λ (c : ConnectionState). not c.dialled) (λ (c : ConnectionState). EndedInTime start first last (record_of c)) cs each))
    (All-map (EndedInTime start first last) record_of (dialled_of cs) (All-filter (λ (c : ConnectionState). c.dialled) (λ (c : ConnectionState). EndedInTime start first last (record_of c)) cs each))

-- what the records of sessions have whose journals tell nothing too early
session_record : (first timeout at last : ℕ) → at ≤ last → (r : SessionRecord) → AreTimely first timeout at r.registry.entries → TimedOutInTime first last timeout r
session_record first timeout at last up_to r all lease library count told = (
    let timely : first + timeout ≤ at = All-contains (IsTimely first timeout at) r.registry.entries (Timeout lease library count) all told in
    omega arith)

all_mapped : {X Y : Type 0} (P : Y → Type 0) (f : X → Y) (xs : List X) → All P (map f xs) → All (λ x. P (f x)) xs
all_mapped P f [] all = All-nil (λ x. P (f x))
all_mapped P f (x ∷ xs) all = All-cons (λ x. P (f x)) x xs (All-head P (f x) (map f xs) all) (all_mapped P f xs (All-tail P (f x) (map f xs) all))

pub sessions_recorded : (start : ℕ → State) (first timeout at last : ℕ) → at ≤ last → (sessions : List Kept) (records : List SessionRecord) → map left_in records ≡ map left_of sessions
    → All (IsTold start first timeout at) sessions → All (TimedOutInTime first last timeout) records
sessions_recorded start first timeout at last up_to sessions records left all =
    let Timely : SessionLeft → Type 0 = λ s. AreTimely first timeout at s.entries in
    All-weaker (λ (r : SessionRecord). Timely (left_in r)) (TimedOutInTime first last timeout) (session_record first timeout at last up_to) records
    (all_mapped Timely left_in records (subst (All Timely) (sym left) (All-map Timely left_of sessions all)))
