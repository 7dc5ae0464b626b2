-- What is done for a library: since when its beat stands is noted, and its sessions are taken back only where that is for as long as a library may be silent.
use Rattle.std.proofs.Common.{◌≡◌, inl, inr, ℕ, ◌+◌, ◌-◌, ◌≤◌, Bool, true, false, List, [], ◌∷◌, length, Some, refl, sym, ap, subst, ◌∙◌, arith}
use Rattle.std.proofs.lemmas.Bool.{cases_eq}
use Rattle.std.proofs.lemmas.List.{get_or-replicate, length-set}
use Rattle.std.proofs.lemmas.List.Elements.{All-cons}
use Rattle.std.proofs.lemmas.Option.{slice_get_within}
use Rattle.std.specs.Prelude.{◌==◌, if◌then◌else◌, slice_get}
use Rattle.headline.proofs.Walking.{each_in_turn}
use Rattle.headline.proofs.clock_lemmas.Lines as lines
use Rattle.headline.proofs.clock_lemmas.Lines.{GoesOnInTime, IsCalm}
use Rattle.engine_config.specs.declared.config.Config.{Config}
use Rattle.engine_loop.specs.Starts.{StartsDesk, StartsEngine}
use Rattle.lease_core.specs.declared.messages.Notice.{Notice}
use Rattle.lease_desk.specs.Desk.{InTurn, TakesBack, TakesBackFrom, bodies_of}
use Rattle.lease_desk.specs.declared.desk.LeaseDesk.{LeaseDesk}
use Rattle.library_clock.specs.Watched.{Watched, kept_of}
use Rattle.library_clock.specs.declared.kept.Kept.{Kept}
use Rattle.library_desk.specs.Serving.{Answers, Expires, Hears, IsSilent, LooksAt, PumpsTo, RepliesTo, Serves, TellsTo}
use Rattle.library_desk.specs.declared.desk.LibraryDesk.{LibraryDesk}
use Rattle.library_desk.specs.declared.ends.EngineEnds.{EngineEnds}
use Rattle.library_desk.specs.declared.serving.LibTurn.{LibTurn}
use Rattle.library_desk.specs.declared.serving.LibTurn.TheVariants.{Answered, Ended, NoCommand, NoRoom}
use Rattle.library_desk.specs.declared.shared.Shared.{Shared}
use Rattle.session_core.specs.State.{State}
use Rattle.switchboard.specs.Board.{Board}
use Rattle.switchboard.specs.Happenings.{requests, reserves, times_out}

-- the watch is the same one, over as many libraries
pub record IsWatchedAlike (old new : LibraryDesk) : Type 0 where
  pub watch : new.watch ≡ old.watch
  pub count : length new.ends.items ≡ length old.ends.items

pub same_alike : (old new : LibraryDesk) → new ≡ old → IsWatchedAlike old new
same_alike old new same = record { watch = ap (λ (d : LibraryDesk). d.watch) same; count = ap (λ (d : LibraryDesk). length d.ends.items) same }

-- the desk of leases alone changes
pub desk_alike : (old new : LibraryDesk) → new ≡ record old { desk = new.desk } → IsWatchedAlike old new
desk_alike old new rest = record { watch = ap (λ (d : LibraryDesk). d.watch) rest; count = ap (λ (d : LibraryDesk). length d.ends.items) rest }

alike_further : (one two three : LibraryDesk) → IsWatchedAlike one two → IsWatchedAlike two three → IsWatchedAlike one three
alike_further one two three first_alike second_alike = record { watch = second_alike.watch ∙ first_alike.watch; count = second_alike.count ∙ first_alike.count }

expired_alike : (library at until : ℕ) (watch : Watched) (beat : ℕ) (old new : LibraryDesk) → Expires library at until watch beat old new → IsWatchedAlike old new
expired_alike library at until watch beat old new expires = elim expires [
  | inl silent ↦ desk_alike old new silent.1.rest
  | inr same ↦ same_alike old new same.1
]

looked_alike : (library : ℕ) (next : _) (old new : LibraryDesk) → LooksAt library next old new → IsWatchedAlike old new
looked_alike library next old new looks = record {
  watch = ap (λ (d : LibraryDesk). d.watch) looks.rest;
  count = ap length looks.ends ∙ length-set old.ends.items (library - 1) looks.after;
}

told_alike : (library : ℕ) (notice : Notice) (old new : LibraryDesk) → TellsTo library notice old new → IsWatchedAlike old new
told_alike library notice old new tells = record {
  watch = ap (λ (d : LibraryDesk). d.watch) tells.rest;
  count = ap length tells.ends ∙ length-set old.ends.items (library - 1) tells.after;
}

replied_alike : (library nr s from : ℕ) (old new : LibraryDesk) (notice : Notice) → RepliesTo library nr s from old new notice → IsWatchedAlike old new
replied_alike library nr s from old new notice replies = elim replies [
  | inl answer ↦ record { watch = ap (λ (d : LibraryDesk). d.watch) answer.1.rest; count = ap (λ (d : LibraryDesk). length d.ends.items) answer.1.rest }
  | inr stray ↦ record { watch = ap (λ (d : LibraryDesk). d.watch) stray.1.rest; count = ap (λ (d : LibraryDesk). length d.ends.items) stray.1.rest }
]

answered_alike : (library : ℕ) (old new : LibraryDesk) (turn : LibTurn) → Answers library old new turn → IsWatchedAlike old new
answered_alike library old new (NoRoom pushed taken) looks = looked_alike library _ old new looks
answered_alike library old new NoCommand looks = looked_alike library _ old new looks
answered_alike library old new (Ended finished) looks = looked_alike library _ old new looks
answered_alike library old new (Answered nr) answer =
    alike_further old answer.popped new (looked_alike library _ old answer.popped answer.looks)
    (alike_further answer.popped answer.replied new (replied_alike library nr answer.s answer.from answer.popped answer.replied answer.notice answer.replies)
    (told_alike library answer.notice answer.replied new answer.tells))

pumped_to_alike : (library s : ℕ) (old new : LibraryDesk) → PumpsTo library s old new → IsWatchedAlike old new
pumped_to_alike library s old new pumps = elim pumps [
  | inl out ↦ (let one = out.1.0 in record {
    watch = ap (λ (d : LibraryDesk). d.watch) one.rest;
    count = ap length one.ends ∙ length-set old.ends.items (library - 1) one.after;
  })
  | inr same ↦ same_alike old new same.1
]

pumped_alike : (library count : ℕ) (old new : LibraryDesk) → InTurn (PumpsTo library) count old new → IsWatchedAlike old new
pumped_alike library count old new = each_in_turn (PumpsTo library) IsWatchedAlike (λ d. same_alike d d refl) alike_further (pumped_to_alike library) count old new

-- once its beat is heard, the rest that is done for a library changes nothing of that
behind_heard : (library at until : ℕ) (old new : LibraryDesk) (turn : LibTurn) (is : Serves library at until old new turn) → IsWatchedAlike is.heard new
behind_heard library at until old new turn is =
    alike_further is.heard is.expired new (expired_alike library at until old.watch is.beat is.heard is.expired is.expires)
    (alike_further is.expired is.answered new (answered_alike library is.expired is.answered turn is.answers)
    (pumped_alike library (length is.answered.desk.board.sessions) is.answered new is.pumps))

-- a library that is served is one of those that there are
looked_within : (library count : ℕ) (items : List EngineEnds) (before : EngineEnds) → slice_get items (library - 1) ≡ Some before → length items ≡ count → library ≤ count
looked_within library count items before found same = (let within = slice_get_within items (library - 1) before found in omega arith)

answers_within : (library count : ℕ) (old new : LibraryDesk) (turn : LibTurn) → length old.ends.items ≡ count → Answers library old new turn → library ≤ count
answers_within library count old new (NoRoom pushed taken) same looks = looked_within library count old.ends.items looks.before looks.found same
answers_within library count old new NoCommand same looks = looked_within library count old.ends.items looks.before looks.found same
answers_within library count old new (Ended finished) same looks = looked_within library count old.ends.items looks.before looks.found same
answers_within library count old new (Answered nr) same answer = looked_within library count old.ends.items answer.looks.before answer.looks.found same

heard_count : (library at beat : ℕ) (old new : LibraryDesk) → Hears library at beat old new → length new.ends.items ≡ length old.ends.items
heard_count library at beat old new is = ap (λ (d : LibraryDesk). length d.ends.items) is.rest

served_within : (library at until : ℕ) (old new : LibraryDesk) (turn : LibTurn) → Serves library at until old new turn → library ≤ length old.ends.items
served_within library at until old new turn is =
    let expired = expired_alike library at until old.watch is.beat is.heard is.expired is.expires in
    answers_within library (length old.ends.items) is.expired is.answered turn (expired.count ∙ heard_count library at is.beat old is.heard is.hears) is.answers

-- what is kept of a beat, whether it stands or moved
abbrev either_kept : Bool → Kept → ℕ → ℕ → Kept
either_kept stands kept beat at = if stands then kept else record { beat = beat; since = at }

kept_since : (first at : ℕ) → first ≤ at → (stands : Bool) (kept : Kept) (beat : ℕ) → first ≤ kept.since → first ≤ (either_kept stands kept beat at).since
kept_since first at within true kept beat was = was
kept_since first at within false kept beat was = within

-- A library may be silent for this timeout, and the beat that is kept of each stands since the first moment or later.
pub record IsWatched (first timeout : ℕ) (watch : Watched) (count : ℕ) : Type 0 where
  pub timeout_is : watch.timeout ≡ timeout
  pub since : (library : ℕ) → 1 ≤ library → library ≤ count → first ≤ (kept_of watch library).since

module _ (first timeout : ℕ) where
  abbrev pub AreWatched : LibraryDesk → Type 0
  AreWatched d = IsWatched first timeout d.watch (length d.ends.items)

  pub watched_alike : (old new : LibraryDesk) → IsWatchedAlike old new → AreWatched old → AreWatched new
  watched_alike old new alike was = record {
    timeout_is = ap (λ (w : Watched). w.timeout) alike.watch ∙ was.timeout_is;
    since = λ library from_one to_last.
        subst (λ (w : Watched). first ≤ (kept_of w library).since) (sym alike.watch) (was.since library from_one (subst (λ n. library ≤ n) alike.count to_last));
  }

  heard_watched : (library at beat : ℕ) (old new : LibraryDesk) → first ≤ at → Hears library at beat old new → AreWatched old → AreWatched new
  heard_watched library at beat old new within is was = record {
    timeout_is = is.timeout ∙ was.timeout_is;
    since = λ other from_one to_last.
        let there : other ≤ length old.ends.items = subst (λ n. other ≤ n) (heard_count library at beat old new is) to_last in
        elim (cases_eq other library) [
          | inl same ↦ subst (λ (kept : Kept). first ≤ kept.since) (sym (ap (kept_of new.watch) same ∙ is.kept))
              (kept_since first at within (beat == (kept_of old.watch library).beat) (kept_of old.watch library) beat (was.since library (omega arith) (omega arith)))
          | inr different ↦ subst (λ (kept : Kept). first ≤ kept.since) (sym (is.others other from_one different)) (was.since other from_one there)
        ];
  }

  pub served_watched : (library at until : ℕ) (old new : LibraryDesk) (turn : LibTurn) → first ≤ at → Serves library at until old new turn → AreWatched old → AreWatched new
  served_watched library at until old new turn within is was =
      watched_alike is.heard new (behind_heard library at until old new turn is) (heard_watched library at is.beat old is.heard within is.hears was)

  -- where a library is silent, the timeout has passed since the first moment
  silent_passed : (library at until beat : ℕ) (d : LibraryDesk) → 1 ≤ library → library ≤ length d.ends.items → IsSilent d.watch library at beat → AreWatched d → first + timeout ≤ at
  silent_passed library at until beat d from_one to_last silent was =
      (let since = was.since library from_one to_last in
      let waits = was.timeout_is in
      let waited = silent.waited in omega arith)

  -- as a run begins
  pub first_watched : (config : Config) (shared : Shared) (d : LibraryDesk) → config.timeout ≡ timeout → StartsDesk config first shared d → StartsEngine config shared d.ends.items → AreWatched d
  first_watched config shared d configured starts ends = record {
    timeout_is = ap (λ (w : Watched). w.timeout) starts.watch ∙ configured;
    since = λ library from_one to_last.
        let count = ends.count in
        let kept : kept_of d.watch library ≡ record { beat = 0; since = first } =
        ap (λ (w : Watched). kept_of w library) starts.watch ∙ get_or-replicate config.libraries (library - 1) (record { beat = 0; since = first }) (record { beat = 0; since = 0 }) (omega arith) in
        subst (λ (k : Kept). first ≤ k.since) (sym kept) (omega arith);
  }

module _ (start : ℕ → State) (first timeout at : ℕ) (within : first ≤ at) where
  abbrev InTime : Board → Board → Type 0
  InTime old new = GoesOnInTime start first timeout at within old new

  abbrev DeskInTime : LibraryDesk → LibraryDesk → Type 0
  DeskInTime old new = InTime old.desk.board new.desk.board

  same_board : (old new : LibraryDesk) → new.desk.board ≡ old.desk.board → DeskInTime old new
  same_board old new same = lines.unchanged start first timeout at within old.desk.board new.desk.board same

  same_desk : (old new : LibraryDesk) → new ≡ old → DeskInTime old new
  same_desk old new same = same_board old new (ap (λ (d : LibraryDesk). d.desk.board) same)

  -- where the timeout has passed, sessions are taken back
  taken : first + timeout ≤ at → (s until : ℕ) (old new : LeaseDesk) → TakesBack s at until old new → InTime old.board new.board
  taken passed s until old new takes =
      let ends = times_out s takes.word (bodies_of takes.items) at until in
      lines.reached start first timeout at within (reserves s ∷ ends ∷ []) old.board new.board
      (All-cons (IsCalm start first timeout at within) (reserves s) (ends ∷ []) tt (lines.one_calm start first timeout at within ends passed)) takes.reaches

  taken_from : first + timeout ≤ at → (library until s : ℕ) (old new : LeaseDesk) → TakesBackFrom library at until s old new → InTime old.board new.board
  taken_from passed library until s old new is = elim is [
    | inl back ↦ taken passed s until old new back.1
    | inr same ↦ lines.unchanged start first timeout at within old.board new.board (ap (λ (d : LeaseDesk). d.board) same.1)
  ]

  taken_back : first + timeout ≤ at → (library until count : ℕ) (old new : LeaseDesk) → InTurn (TakesBackFrom library at until) count old new → InTime old.board new.board
  taken_back passed library until count old new =
      each_in_turn (TakesBackFrom library at until) (λ a b. InTime a.board b.board) (λ d was. was) (λ a b c one two was. two (one was)) (taken_from passed library until) count old new

  expired : (library until : ℕ) (watch : Watched) (beat : ℕ) (old new : LibraryDesk) → (IsSilent watch library at beat → first + timeout ≤ at) → Expires library at until watch beat old new → DeskInTime old new
  expired library until watch beat old new passed expires = elim expires [
    | inl silent ↦ taken_back (passed silent.0) library until (length old.desk.board.sessions) old.desk new.desk silent.1.taken_back
    | inr same ↦ same_desk old new same.1
  ]

  replied : (library nr s from : ℕ) (old new : LibraryDesk) (notice : Notice) → RepliesTo library nr s from old new notice → DeskInTime old new
  replied library nr s from old new notice replies = elim replies [
    | inl answer ↦ lines.calm start first timeout at within (requests s library nr from) old.desk.board new.desk.board tt answer.1.happens
    | inr stray ↦ same_board old new (ap (λ (d : LibraryDesk). d.desk.board) stray.1.rest)
  ]

  answered : (library : ℕ) (old new : LibraryDesk) (turn : LibTurn) → Answers library old new turn → DeskInTime old new
  answered library old new (NoRoom pushed taken_count) looks = same_board old new (ap (λ (d : LibraryDesk). d.desk.board) looks.rest)
  answered library old new NoCommand looks = same_board old new (ap (λ (d : LibraryDesk). d.desk.board) looks.rest)
  answered library old new (Ended finished) looks = same_board old new (ap (λ (d : LibraryDesk). d.desk.board) looks.rest)
  answered library old new (Answered nr) answer = λ was.
      same_board answer.replied new (ap (λ (d : LibraryDesk). d.desk.board) answer.tells.rest)
      (replied library nr answer.s answer.from answer.popped answer.replied answer.notice answer.replies
      (same_board old answer.popped (ap (λ (d : LibraryDesk). d.desk.board) answer.looks.rest) was))

  pumped_to : (library s : ℕ) (old new : LibraryDesk) → PumpsTo library s old new → DeskInTime old new
  pumped_to library s old new pumps = elim pumps [
    | inl out ↦ same_board old new (ap (λ (d : LibraryDesk). d.desk.board) out.1.0.rest)
    | inr same ↦ same_desk old new same.1
  ]

  pumped : (library count : ℕ) (old new : LibraryDesk) → InTurn (PumpsTo library) count old new → DeskInTime old new
  pumped library count old new =
      each_in_turn (PumpsTo library) DeskInTime (λ d was. was) (λ a b c one two was. two (one was)) (pumped_to library) count old new

  pub served_in_time : (library until : ℕ) (old new : LibraryDesk) (turn : LibTurn) → 1 ≤ library → Serves library at until old new turn → AreWatched first timeout old → DeskInTime old new
  served_in_time library until old new turn from_one is watched was =
      let to_last = served_within library at until old new turn is in
      pumped library (length is.answered.desk.board.sessions) is.answered new is.pumps
      (answered library is.expired is.answered turn is.answers
      (expired library until old.watch is.beat is.heard is.expired (λ silent. silent_passed first timeout library at until is.beat old from_one to_last silent watched) is.expires
      (same_board old is.heard (ap (λ (d : LibraryDesk). d.desk.board) is.hears.rest) was)))
