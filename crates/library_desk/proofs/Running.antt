-- What is done for a library is a run of happenings at its moment.
use Rattle.std.proofs.Common.{◌≡◌, inl, inr, ℕ, zero, suc, ◌≤◌, List, [], ◌∷◌, ◌++◌, refl, ap, arith}
use Rattle.std.proofs.lemmas.List.Elements.{All-append, All-cons, All-head, All-nil, All-tail}
use Rattle.std.specs.List.{All}
use Rattle.lease_core.specs.declared.messages.Notice.{Notice}
use Rattle.lease_desk.specs.Desk.{InTurn, TakesBack, TakesBackFrom, bodies_of}
use Rattle.lease_desk.specs.declared.desk.LeaseDesk.{LeaseDesk}
use Rattle.library_clock.specs.Watched.{Watched}
use Rattle.library_desk.specs.declared.desk.LibraryDesk.{LibraryDesk}
use Rattle.library_desk.specs.declared.serving.LibTurn.{LibTurn}
use Rattle.library_desk.specs.declared.serving.LibTurn.TheVariants.{Answered, Ended, NoCommand, NoRoom}
use Rattle.library_desk.specs.Happening.{IsOfLibraries, RunsFor}
use Rattle.library_desk.specs.Serving.{Answers, Expires, PumpsTo, RepliesTo, Serves}
use Rattle.switchboard.specs.Board.{Board}
use Rattle.switchboard.specs.Brought.{Brought, TakeWhatIsInHand, brought_over}
use Rattle.switchboard.specs.Happenings.{Happening, Happens, Reaches, requests, reserves, times_out}
use Rattle.switchboard.specs.Told.{ComeInOrder, moment_over}

abbrev board_of : LibraryDesk → Board
board_of d = d.desk.board

-- nothing happens
pub stays : (at : ℕ) (old new : Board) → new ≡ old → RunsFor at old new
stays at old new same = record { happenings = []; all = All-nil (IsOfLibraries at); reaches = same }

-- one thing does
alone : (at : ℕ) (happening : Happening) → IsOfLibraries at happening → All (IsOfLibraries at) (happening ∷ [])
alone at happening is = All-cons (IsOfLibraries at) happening [] is (All-nil (IsOfLibraries at))

asked : (at s library nr from : ℕ) (old new : Board) → Happens (requests s library nr from) old new → RunsFor at old new
asked at s library nr from old new happened = record {
  happenings = requests s library nr from ∷ [];
  all = alone at (requests s library nr from) tt;
  reaches = (new, (happened, refl));
}

taken : (at until s : ℕ) (old new : LeaseDesk) → TakesBack s at until old new → RunsFor at old.board new.board
taken at until s old new takes =
    let ends = times_out s takes.word (bodies_of takes.items) at until in
    record {
      happenings = reserves s ∷ ends ∷ [];
      all = All-cons (IsOfLibraries at) (reserves s) (ends ∷ []) tt (alone at ends refl);
      reaches = takes.reaches;
    }

module _ (join : (first second : List Happening) (old between new : Board) → Reaches first old between → Reaches second between new → Reaches (first ++ second) old new) where
  pub one_behind_another : (at : ℕ) (first second third : Board) → RunsFor at first second → RunsFor at second third → RunsFor at first third
  one_behind_another at first second third run next = record {
    happenings = run.happenings ++ next.happenings;
    all = All-append (IsOfLibraries at) run.happenings next.happenings run.all next.all;
    reaches = join run.happenings next.happenings first second third run.reaches next.reaches;
  }

  taken_back : (library at until n : ℕ) (old new : LeaseDesk) → InTurn (TakesBackFrom library at until) n old new → RunsFor at old.board new.board
  taken_back library at until zero old new same = stays at old.board new.board (ap (λ (d : LeaseDesk). d.board) same)
  taken_back library at until (suc n) old new steps =
      let mid = steps.0 in
      one_behind_another at old.board mid.board new.board (taken_back library at until n old mid steps.1) (elim steps.2 [
        | inl back ↦ (let takes = back.1 in taken at until n mid new takes)
        | inr same ↦ stays at mid.board new.board (ap (λ (d : LeaseDesk). d.board) same.1)
      ])

  expired : (library at until : ℕ) (watch : Watched) (beat : ℕ) (old new : LibraryDesk) → Expires library at until watch beat old new → RunsFor at old.desk.board new.desk.board
  expired library at until watch beat old new expires = elim expires [
    | inl silent ↦ (let back = silent.1 in taken_back library at until _ old.desk new.desk back.taken_back)
    | inr same ↦ stays at old.desk.board new.desk.board (ap board_of same.1)
  ]

  replied : (at library nr s from : ℕ) (old new : LibraryDesk) (notice : Notice) → RepliesTo library nr s from old new notice → RunsFor at old.desk.board new.desk.board
  replied at library nr s from old new notice replies = elim replies [
    | inl replies ↦ (let answer = replies.1 in asked at s library nr from old.desk.board new.desk.board answer.happens)
    | inr strays ↦ (let stray = strays.1 in stays at old.desk.board new.desk.board (ap board_of stray.rest))
  ]

  answered : (at library : ℕ) (old new : LibraryDesk) (turn : LibTurn) → Answers library old new turn → RunsFor at old.desk.board new.desk.board
  answered at library old new (NoRoom pushed taken) looks = stays at old.desk.board new.desk.board (ap board_of looks.rest)
  answered at library old new NoCommand looks = stays at old.desk.board new.desk.board (ap board_of looks.rest)
  answered at library old new (Ended finished) looks = stays at old.desk.board new.desk.board (ap board_of looks.rest)
  answered at library old new (Answered nr) answer =
      let looks = answer.looks in
      let tells = answer.tells in
      one_behind_another at old.desk.board answer.popped.desk.board new.desk.board (stays at old.desk.board answer.popped.desk.board (ap board_of looks.rest))
      (one_behind_another at answer.popped.desk.board answer.replied.desk.board new.desk.board (replied at library nr answer.s answer.from answer.popped answer.replied answer.notice answer.replies)
      (stays at answer.replied.desk.board new.desk.board (ap board_of tells.rest)))

  pumped : (at library n : ℕ) (old new : LibraryDesk) → InTurn (PumpsTo library) n old new → RunsFor at old.desk.board new.desk.board
  pumped at library zero old new same = stays at old.desk.board new.desk.board (ap board_of same)
  pumped at library (suc n) old new steps =
      let mid = steps.0 in
      one_behind_another at old.desk.board mid.desk.board new.desk.board (pumped at library n old mid steps.1) (elim steps.2 [
        | inl pumps ↦ (let out = pumps.1.0 in stays at mid.desk.board new.desk.board (ap board_of out.rest))
        | inr same ↦ stays at mid.desk.board new.desk.board (ap board_of same.1)
      ])

  pub served : (library at until : ℕ) (old new : LibraryDesk) (turn : LibTurn) → Serves library at until old new turn → RunsFor at old.desk.board new.desk.board
  served library at until old new turn serves =
      let hears = serves.hears in
      one_behind_another at old.desk.board serves.heard.desk.board new.desk.board (stays at old.desk.board serves.heard.desk.board (ap board_of hears.rest))
      (one_behind_another at serves.heard.desk.board serves.expired.desk.board new.desk.board (expired library at until old.watch serves.beat serves.heard serves.expired serves.expires)
      (one_behind_another at serves.expired.desk.board serves.answered.desk.board new.desk.board (answered at library serves.expired serves.answered turn serves.answers)
      (pumped at library _ serves.answered new serves.pumps)))

-- moments come in order
pub come_in_order : (at moment : ℕ) (happenings : List Happening) → moment ≤ at → All (IsOfLibraries at) happenings → ComeInOrder moment happenings × (moment_over happenings moment ≤ at)
come_in_order at moment [] within all = (tt, within)
come_in_order at moment (times_out s w bodies now until ∷ happenings) within all =
    let same : now ≡ at = All-head (IsOfLibraries at) (times_out s w bodies now until) happenings all in
    let rest = come_in_order at now happenings (omega arith) (All-tail (IsOfLibraries at) (times_out s w bodies now until) happenings all) in
    ((omega arith, rest.0), rest.1)
come_in_order at moment (requests s library nr from ∷ happenings) within all =
    let rest = come_in_order at moment happenings within (All-tail (IsOfLibraries at) (requests s library nr from) happenings all) in
    ((omega arith, rest.0), rest.1)
come_in_order at moment (reserves s ∷ happenings) within all =
    let rest = come_in_order at moment happenings within (All-tail (IsOfLibraries at) (reserves s) happenings all) in
    ((omega arith, rest.0), rest.1)
come_in_order at moment (other ∷ happenings) within all = absurd (All-head (IsOfLibraries at) other happenings all)

-- and nothing is handled
pub nothing_handled : (at : ℕ) (happenings : List Happening) (old new : Board) (reached : Reaches happenings old new) (brought : ℕ → Brought) → All (IsOfLibraries at) happenings
    → TakeWhatIsInHand happenings old new reached brought × ((k : ℕ) → brought_over happenings old new reached brought k ≡ brought k)
nothing_handled at [] old new reached brought all = (tt, λ k. refl)
nothing_handled at (times_out s w bodies moment until ∷ happenings) old new reached brought all =
    let rest = nothing_handled at happenings reached.0 new reached.1.1 brought (All-tail (IsOfLibraries at) (times_out s w bodies moment until) happenings all) in
    ((tt, rest.0), rest.1)
nothing_handled at (requests s library nr from ∷ happenings) old new reached brought all =
    let rest = nothing_handled at happenings reached.0 new reached.1.1 brought (All-tail (IsOfLibraries at) (requests s library nr from) happenings all) in
    ((tt, rest.0), rest.1)
nothing_handled at (reserves s ∷ happenings) old new reached brought all =
    let rest = nothing_handled at happenings reached.0 new reached.1.1 brought (All-tail (IsOfLibraries at) (reserves s) happenings all) in
    ((tt, rest.0), rest.1)
nothing_handled at (other ∷ happenings) old new reached brought all = absurd (All-head (IsOfLibraries at) other happenings all)
