-- What is done for a library is accounted for.
use Rattle.std.proofs.Common.{◌≡◌, inl, inr, ℕ, [], ◌∷◌, length, refl, ap}
use Rattle.std.proofs.lemmas.List.Elements.{All-cons, All-nil, All-weaker}
use Rattle.engine_laws.specs.Account.{IsAside, all_done}
use Rattle.engine_laws.proofs.Accounting.{Keeping, StepLaws}
use Rattle.engine_laws.proofs.Walking.{each_in_turn}
use Rattle.engine_laws.proofs.Sessions.{alone, itself}
use Rattle.lease_core.specs.declared.messages.Notice.{Notice}
use Rattle.lease_desk.specs.Desk.{InTurn, TakesBackFrom, bodies_of}
use Rattle.lease_desk.specs.declared.desk.LeaseDesk.{LeaseDesk}
use Rattle.library_desk.specs.Happening.{IsOfLibraries, RunsFor}
use Rattle.library_desk.specs.Serving.{Answers, Expires, RepliesTo, Serves}
use Rattle.library_desk.specs.declared.desk.LibraryDesk.{LibraryDesk}
use Rattle.library_desk.specs.declared.serving.LibTurn.{LibTurn}
use Rattle.library_desk.specs.declared.serving.LibTurn.TheVariants.{Answered, Ended, NoCommand, NoRoom}
use Rattle.switchboard.specs.Board.{Board}
use Rattle.switchboard.specs.Happenings.{Happening, requests, reserves, times_out}

-- what is done for a library is aside
of_libraries_aside : (at : ℕ) (happening : Happening) → IsOfLibraries at happening → IsAside at happening
of_libraries_aside at (times_out s w bodies moment until) is = is
of_libraries_aside at (requests s library nr from) is = tt
of_libraries_aside at (reserves s) is = tt
of_libraries_aside at other is = absurd is

module _ {Keeps : Keeping} (g : StepLaws Keeps) where
  pub ran_for : (at : ℕ) (old new : Board) → RunsFor at old new → Keeps all_done all_done at old new
  ran_for at old new run = g.aside all_done at run.happenings old new (All-weaker (IsOfLibraries at) (IsAside at) (of_libraries_aside at) run.happenings run.all) run.reaches

  pub served : ((library at until : ℕ) (old new : LibraryDesk) (turn : LibTurn) → Serves library at until old new turn → RunsFor at old.desk.board new.desk.board)
      → (library at until : ℕ) (old new : LibraryDesk) (turn : LibTurn) → Serves library at until old new turn → Keeps all_done all_done at old.desk.board new.desk.board
  served serves library at until old new turn is = ran_for at old.desk.board new.desk.board (serves library at until old new turn is)

  same_desk : (at : ℕ) (old new : LeaseDesk) → new ≡ old → Keeps all_done all_done at old.board new.board
  same_desk at old new same = itself g all_done at old.board new.board (ap (λ (d : LeaseDesk). d.board) same)

  -- so many sessions of a silent library are taken back
  pub some_taken_back : (library at until count : ℕ) (old new : LeaseDesk) → InTurn (TakesBackFrom library at until) count old new → Keeps all_done all_done at old.board new.board
  some_taken_back library at until count old new steps =
      each_in_turn (TakesBackFrom library at until) (λ a b. Keeps all_done all_done at a.board b.board) (λ d. g.itself all_done at d.board)
      (λ a b c. g.further all_done all_done all_done at a.board b.board c.board)
      (λ s a b step. elim step [
        | inl takes ↦ (
            let is = takes.1 in
            let out = times_out s is.word (bodies_of is.items) at until in
            g.aside all_done at (reserves s ∷ out ∷ []) a.board b.board
            (All-cons (IsAside at) (reserves s) (out ∷ []) tt (All-cons (IsAside at) out [] refl (All-nil (IsAside at)))) is.reaches)
        | inr other ↦ same_desk at a b other.1
      ]) count old new steps

  -- its sessions are, where it fell silent
  pub expired : (library at until beat : ℕ) (first old new : LibraryDesk) → Expires library at until first.watch beat old new → Keeps all_done all_done at old.desk.board new.desk.board
  expired library at until beat first old new is = elim is [
    | inl silent ↦ some_taken_back library at until (length old.desk.board.sessions) old.desk new.desk silent.1.taken_back
    | inr beats ↦ same_desk at old.desk new.desk (ap (λ (d : LibraryDesk). d.desk) beats.1)
  ]

  replied : (library nr s from at : ℕ) (old new : LibraryDesk) (notice : Notice) → RepliesTo library nr s from old new notice → Keeps all_done all_done at old.desk.board new.desk.board
  replied library nr s from at old new notice is = elim is [
    | inl known ↦ alone g at (requests s library nr from) old.desk.board new.desk.board tt known.1.happens
    | inr stray ↦ same_desk at old.desk new.desk (ap (λ (d : LibraryDesk). d.desk) stray.1.rest)
  ]

  -- what became of its command
  pub answered : (library at : ℕ) (turn : LibTurn) (old new : LibraryDesk) → Answers library old new turn → Keeps all_done all_done at old.desk.board new.desk.board
  answered library at (NoRoom pushed taken) old new is = same_desk at old.desk new.desk (ap (λ (d : LibraryDesk). d.desk) is.rest)
  answered library at NoCommand old new is = same_desk at old.desk new.desk (ap (λ (d : LibraryDesk). d.desk) is.rest)
  answered library at (Ended finished) old new is = same_desk at old.desk new.desk (ap (λ (d : LibraryDesk). d.desk) is.rest)
  answered library at (Answered nr) old new is =
      let looks = is.looks in
      let tells = is.tells in
      let popped = is.popped in
      let replies = is.replied in
      g.further all_done all_done all_done at old.desk.board popped.desk.board new.desk.board (same_desk at old.desk popped.desk (ap (λ (d : LibraryDesk). d.desk) looks.rest))
      (g.further all_done all_done all_done at popped.desk.board replies.desk.board new.desk.board (replied library nr is.s is.from at popped replies is.notice is.replies)
      (same_desk at replies.desk new.desk (ap (λ (d : LibraryDesk). d.desk) tells.rest)))
