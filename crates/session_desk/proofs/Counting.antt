-- A session hears and greets, and no connection comes.
use Rattle.std.proofs.Common.{◌≡◌, ℕ, List, [], ◌∷◌, ◌++◌, length, Bool, true, false, Option, None, Some, Result, Ok, Err, refl, sym, ap, ◌∙◌}
use Rattle.std.specs.Prelude.{if◌then◌else◌, nat_lt}
use Rattle.lease_desk.specs.Desk.{Gathers, bodies_of}
use Rattle.lease_desk.specs.declared.desk.LeaseDesk.{LeaseDesk}
use Rattle.session_book.specs.Records.{Pending}
use Rattle.session_core.specs.declared.causes.Cause.{Cause}
use Rattle.session_desk.specs.Steps.{GreetsAs, Hears, Ticks, answering, binding, ending, is_answer, lapsing, parting}
use Rattle.lease_core.specs.State.{state_of}
use Rattle.switchboard.specs.Board.{Board, book_at, place_at}
use Rattle.switchboard.specs.Going.{is_coming}
use Rattle.switchboard.specs.Happenings.{Happening, Happens, Reaches, answers, ends_unbound, lapses, receives, reserves, shows, ticks}

-- none of the happenings is a connection that comes
abbrev NoneComes : List Happening → Type 0
NoneComes [] = Unit {0}
NoneComes (happening ∷ happenings) = (is_coming happening ≡ false) × NoneComes happenings

none_comes_further : (first second : List Happening) → NoneComes first → NoneComes second → NoneComes (first ++ second)
none_comes_further [] second one two = two
none_comes_further (happening ∷ first) second one two = (one.0, none_comes_further first second one.1 two)

answering_brings_none : (is : Bool) (k : ℕ) → NoneComes (if is then answers k ∷ [] else [])
answering_brings_none true k = (refl, tt)
answering_brings_none false k = tt

ending_brings_none : (s : ℕ) (place : Option ℕ) (end : Option Cause) → NoneComes (ending s place end)
ending_brings_none s None None = tt
ending_brings_none s None (Some cause) = tt
ending_brings_none s (Some k) None = tt
ending_brings_none s (Some k) (Some cause) = (refl, tt)

lapsing_at_once : (is : Bool) (s : ℕ) → NoneComes (if is then [] else lapses s ∷ [])
lapsing_at_once true s = tt
lapsing_at_once false s = (refl, tt)

lapsing_brings_none : (s : ℕ) (reserved : Option (ℕ × ℕ)) (at : ℕ) → NoneComes (lapsing s reserved at)
lapsing_brings_none s None at = tt
lapsing_brings_none s (Some reserved) at = lapsing_at_once (nat_lt at reserved.1) s

binding_brings_none : (s k : ℕ) (body : List ℕ) (at : ℕ) (end : Option Cause) → is_coming (binding s k body at end) ≡ false
binding_brings_none s k body at None = refl
binding_brings_none s k body at (Some cause) = refl

pub parting_brings_none : (session : Option ℕ) (k : ℕ) (cause : Cause) → is_coming (parting session k cause) ≡ false
parting_brings_none None k cause = refl
parting_brings_none (Some s) k cause = refl

module _ (law : (happening : Happening) (old new : Board) → is_coming happening ≡ false → Happens happening old new → length new.connections ≡ length old.connections) where
  run_count : (happenings : List Happening) (old new : Board) → NoneComes happenings → Reaches happenings old new → length new.connections ≡ length old.connections
  run_count [] old new none reached = ap (λ (b : Board). length b.connections) reached
  run_count (happening ∷ happenings) old new none reached = run_count happenings reached.0 new none.1 reached.1.1 ∙ law happening old reached.0 none.0 reached.1.0

  gather_count : (s at until : ℕ) (old new : LeaseDesk) → Gathers s at until old new → length new.board.connections ≡ length old.board.connections
  gather_count s at until old new gathers = run_count (reserves s ∷ shows s gathers.word (bodies_of gathers.items) at until ∷ []) old.board new.board (refl, (refl, tt)) gathers.reaches

  pub hear_count : (s k : ℕ) (body : List ℕ) (at until : ℕ) (old new : LeaseDesk) (unkept_old unkept_new : List Pending) (end : Option Cause) → Hears s k body at until old new unkept_old unkept_new end
      → length new.board.connections ≡ length old.board.connections
  hear_count s k body at until old new unkept_old unkept_new end hears =
      run_count (receives s k body at ∷ (answering k end ++ ending s (Some k) end)) hears.gathered.board new.board
      (refl, none_comes_further (answering k end) (ending s (Some k) end) (answering_brings_none (is_answer end) k) (ending_brings_none s (Some k) end)) hears.follows
      ∙ gather_count s at until old hears.gathered hears.gathers

  pub greet_count : (found : Result ℕ Cause) (k : ℕ) (body : List ℕ) (at until : ℕ) (old new : LeaseDesk) (unkept_old unkept_new : List Pending) (end : Option Cause)
      → GreetsAs found k body at until old new unkept_old unkept_new end → length new.board.connections ≡ length old.board.connections
  greet_count (Ok s) k body at until old new unkept_old unkept_new end is =
      law (binding s k body at end) is.gathered.board new.board (binding_brings_none s k body at end) is.binds ∙ gather_count s at until old is.gathered is.gathers
  greet_count (Err cause) k body at until old new unkept_old unkept_new end is = law (ends_unbound k cause) old.board new.board refl is.ends

  pub tick_count : (s at until : ℕ) (old new : LeaseDesk) (end : Option Cause) → Ticks s at until old new end → length new.board.connections ≡ length old.board.connections
  tick_count s at until old new end is =
      run_count (ticks s at ∷ ending s (place_at is.lapsed s) end) is.lapsed new.board (refl, ending_brings_none s (place_at is.lapsed s) end) is.follows
      ∙ run_count (lapsing s (state_of (book_at is.gathered.board s).entries).reserved at) is.gathered.board is.lapsed (lapsing_brings_none s (state_of (book_at is.gathered.board s).entries).reserved at) is.lapses
      ∙ gather_count s at until old is.gathered is.gathers
