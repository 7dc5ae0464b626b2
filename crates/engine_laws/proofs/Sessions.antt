-- What a session does in a turn is accounted for.
use Rattle.std.proofs.Common.{◌≡◌, ℕ, List, [], ◌∷◌, ◌++◌, Option, None, Some, Result, Ok, Err, refl, sym, subst}
use Rattle.std.proofs.lemmas.List.Elements.{All-append, All-cons}
use Rattle.engine_laws.specs.Account.{IsAside, Progress, all_done, cutting, handling, only}
use Rattle.engine_laws.proofs.Accounting.{Keeping, StepLaws}
use Rattle.engine_laws.proofs.Endings.{answering_is, ending_is, lapsing_is, one_is, parting_is}
use Rattle.lease_core.specs.State.{state_of}
use Rattle.lease_desk.specs.Desk.{Gathers, bodies_of}
use Rattle.lease_desk.specs.declared.desk.LeaseDesk.{LeaseDesk}
use Rattle.session_book.specs.Records.{Pending}
use Rattle.session_core.specs.declared.causes.Cause.{Cause}
use Rattle.session_desk.specs.Steps.{DialsTo, GreetsAs, Hears, Ticks, answering, binding, ending, lapsing, parting}
use Rattle.switchboard.specs.Board.{Board, book_at, place_at}
use Rattle.switchboard.specs.Happenings.{Happening, Happens, Reaches, reserves, shows, ticks}

module _ {Keeps : Keeping} (g : StepLaws Keeps) where
  -- nothing happens
  pub itself : (progress : ℕ → Progress) (at : ℕ) (old new : Board) → new ≡ old → Keeps progress progress at old new
  itself progress at old new same = subst (λ board. Keeps progress progress at old board) (sym same) (g.itself progress at old)

  pub gathered : (progress : ℕ → Progress) (s at until : ℕ) (old new : LeaseDesk) → Gathers s at until old new → Keeps progress progress at old.board new.board
  gathered progress s at until old new is =
      let shown = shows s is.word (bodies_of is.items) at until in
      g.aside progress at (reserves s ∷ shown ∷ []) old.board new.board (All-cons (IsAside at) (reserves s) (shown ∷ []) tt (one_is (IsAside at) shown refl)) is.reaches

  pub heard : (s k : ℕ) (body : List ℕ) (at until : ℕ) (old new : LeaseDesk) (unkept_old unkept_new : List Pending) (end : Option Cause) → Hears s k body at until old new unkept_old unkept_new end
      → Keeps (only k (handling body)) (only k cutting) at old.board new.board
  heard s k body at until old new unkept_old unkept_new end is =
      let before = is.gathered in
      let follows = is.follows in
      let rest = All-append (IsAside at) (answering k end) (ending s (Some k) end) (answering_is (IsAside at) k end tt) (ending_is (IsAside at) s (Some k) end (λ k cause. tt)) in
      g.further (only k (handling body)) (only k (handling body)) (only k cutting) at old.board before.board new.board (gathered (only k (handling body)) s at until old before is.gathers)
      (g.further (only k (handling body)) (only k cutting) (only k cutting) at before.board follows.0 new.board (g.receives s k body at before.board follows.0 follows.1.0)
      (g.aside (only k cutting) at (answering k end ++ ending s (Some k) end) follows.0 new.board rest follows.1.1))

  pub bound_by : (s k : ℕ) (body : List ℕ) (at : ℕ) (end : Option Cause) (old new : Board) → Happens (binding s k body at end) old new → Keeps (only k (handling body)) (only k cutting) at old new
  bound_by s k body at None old new is = g.binds s k body at old new is
  bound_by s k body at (Some cause) old new is = g.binds_and_ends s k body at cause old new is

  pub greeted : (found : Result ℕ Cause) (k : ℕ) (body : List ℕ) (at until : ℕ) (old new : LeaseDesk) (unkept_old unkept_new : List Pending) (end : Option Cause)
      → GreetsAs found k body at until old new unkept_old unkept_new end → Keeps (only k (handling body)) (only k cutting) at old.board new.board
  greeted (Ok s) k body at until old new unkept_old unkept_new end is =
      let before = is.gathered in
      g.further (only k (handling body)) (only k (handling body)) (only k cutting) at old.board before.board new.board (gathered (only k (handling body)) s at until old before is.gathers)
      (bound_by s k body at end before.board new.board is.binds)
  greeted (Err cause) k body at until old new unkept_old unkept_new end is = g.refuses k body at cause old.board new.board is.ends

  -- its reservation lapses, where that is over
  pub lapsed : (progress : ℕ → Progress) (s : ℕ) (reserved : Option (ℕ × ℕ)) (at : ℕ) (old new : Board) → Reaches (lapsing s reserved at) old new → Keeps progress progress at old new
  lapsed progress s reserved at old new is = g.aside progress at (lapsing s reserved at) old new (lapsing_is (IsAside at) s reserved at tt) is

  pub ticked : (s at until : ℕ) (old new : LeaseDesk) (end : Option Cause) → Ticks s at until old new end → Keeps all_done all_done at old.board new.board
  ticked s at until old new end is =
      let before = is.gathered in
      let reserved = (state_of (book_at before.board s).entries).reserved in
      let last = ending s (place_at is.lapsed s) end in
      g.further all_done all_done all_done at old.board before.board new.board (gathered all_done s at until old before is.gathers)
      (g.further all_done all_done all_done at before.board is.lapsed new.board (lapsed all_done s reserved at before.board is.lapsed is.lapses)
      (g.aside all_done at (ticks s at ∷ last) is.lapsed new.board (All-cons (IsAside at) (ticks s at) last refl (ending_is (IsAside at) s (place_at is.lapsed s) end (λ k cause. tt))) is.follows))

  pub dialled_to : (s number at until : ℕ) (old new : LeaseDesk) → DialsTo s number at until old new → Keeps all_done all_done at old.board new.board
  dialled_to s number at until old new is =
      let before = is.gathered in
      g.further all_done all_done all_done at old.board before.board new.board (gathered all_done s at until old before is.gathers) (g.dials s number at before.board new.board is.dials)

  -- a happening aside
  pub alone : (at : ℕ) (happening : Happening) (old new : Board) → IsAside at happening → Happens happening old new → Keeps all_done all_done at old new
  alone at happening old new aside is = g.aside all_done at (happening ∷ []) old new (one_is (IsAside at) happening aside) (new, (is, refl))

  pub parted : (session : Option ℕ) (k : ℕ) (cause : Cause) (at : ℕ) (old new : Board) → Happens (parting session k cause) old new → Keeps all_done all_done at old new
  parted session k cause at old new is = alone at (parting session k cause) old new (parting_is (IsAside at) session k cause tt (λ s. tt)) is
