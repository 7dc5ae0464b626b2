-- What is known of happenings, for whatever steps keep of a board.
use Rattle.std.proofs.Common.{◌≡◌, ◌≢◌, ℕ, ◌<◌, ◌≤◌, List, [], ◌∷◌, length, None}
use Rattle.std.specs.List.{All}
use Rattle.engine_laws.specs.Account.{IsAccountedFor, IsAside, KeepsAccount, Progress, StaysAccountedFor, all_done, cutting, handling, only}
use Rattle.lease_core.specs.declared.entry.Entry.{Entry}
use Rattle.session_core.specs.declared.causes.Cause.{Cause}
use Rattle.switchboard.specs.Board.{Board, book_at, connection_at}
use Rattle.switchboard.specs.Brought.{good_bodies}
use Rattle.switchboard.specs.Happenings.{Happening, Happens, Reaches, accepts, binds, binds_and_ends, dials, ends_unbound, gives, next_pieces, receives, takes}
use Rattle.switchboard.specs.Ready.{IsFirst}
use Rattle.switchboard.specs.Told.{machines_of}

-- what steps at a moment keep of a board, as the connections come from one progress to another
abbrev pub Keeping : Type 1
Keeping = (ℕ → Progress) → (ℕ → Progress) → ℕ → Board → Board → Type 0

pub record StepLaws (Keeps : Keeping) : Type 0 where
  pub itself : (progress : ℕ → Progress) (at : ℕ) (board : Board) → Keeps progress progress at board board
  pub further : (one two three : ℕ → Progress) (at : ℕ) (first second third : Board) → Keeps one two at first second → Keeps two three at second third → Keeps one three at first third
  pub aside : (progress : ℕ → Progress) (at : ℕ) (happenings : List Happening) (old new : Board) → All (IsAside at) happenings → Reaches happenings old new → Keeps progress progress at old new
  pub accepts : (number at : ℕ) (old new : Board) → Happens (accepts number at) old new → Keeps all_done all_done at old new
  pub dials : (s number at : ℕ) (old new : Board) → Happens (dials s number at) old new → Keeps all_done all_done at old new
  pub takes : (k : ℕ) (bytes : List ℕ) (at : ℕ) (old new : Board) → Happens (takes k bytes) old new → Keeps all_done (only k cutting) at old new
  pub gives_none : (k at : ℕ) (old new : Board) → Happens (gives k) old new → good_bodies (next_pieces (connection_at old k)) ≡ [] → Keeps (only k cutting) (only k cutting) at old new
  pub gives_one : (k at : ℕ) (body : List ℕ) (old new : Board) → Happens (gives k) old new → good_bodies (next_pieces (connection_at old k)) ≡ body ∷ [] → Keeps (only k cutting) (only k (handling body)) at old new
  pub gives_last : (k at : ℕ) (old new : Board) → Happens (gives k) old new → next_pieces (connection_at old k) ≡ [] → Keeps (only k cutting) all_done at old new
  pub stops : (k at : ℕ) (board : Board) → (connection_at board k).cause ≢ None → Keeps (only k cutting) all_done at board board
  pub receives : (s k : ℕ) (body : List ℕ) (at : ℕ) (old new : Board) → Happens (receives s k body at) old new → Keeps (only k (handling body)) (only k cutting) at old new
  pub binds : (s k : ℕ) (body : List ℕ) (at : ℕ) (old new : Board) → Happens (binds s k body at) old new → Keeps (only k (handling body)) (only k cutting) at old new
  pub binds_and_ends : (s k : ℕ) (body : List ℕ) (at : ℕ) (cause : Cause) (old new : Board) → Happens (binds_and_ends s k body at cause) old new → Keeps (only k (handling body)) (only k cutting) at old new
  pub refuses : (k : ℕ) (body : List ℕ) (at : ℕ) (cause : Cause) (old new : Board) → Happens (ends_unbound k cause) old new → Keeps (only k (handling body)) (only k cutting) at old new

-- steps that are accounted for
abbrev pub AccountLaws : Type 0
AccountLaws = StepLaws KeepsAccount

-- what the law of happenings says
abbrev pub HappeningLaws : Type 0
HappeningLaws = record {
  first : (before : ℕ → List Entry) (at : ℕ) (board : Board) → IsFirst before board → ((s : ℕ) → s < length board.sessions → (book_at board s).machine.sent ≤ at) → IsAccountedFor before (machines_of board) at board;
  itself : (progress : ℕ → Progress) (at : ℕ) (board : Board) → KeepsAccount progress progress at board board;
  further : (one two three : ℕ → Progress) (at : ℕ) (first second third : Board) → KeepsAccount one two at first second → KeepsAccount two three at second third → KeepsAccount one three at first third;
  aside : (progress : ℕ → Progress) (at : ℕ) (happenings : List Happening) (old new : Board) → All (IsAside at) happenings → Reaches happenings old new → KeepsAccount progress progress at old new;
  accepts : (number at : ℕ) (old new : Board) → Happens (accepts number at) old new → StaysAccountedFor at old new;
  dials : (s number at : ℕ) (old new : Board) → Happens (dials s number at) old new → StaysAccountedFor at old new;
  takes : (k : ℕ) (bytes : List ℕ) (at : ℕ) (old new : Board) → Happens (takes k bytes) old new → KeepsAccount all_done (only k cutting) at old new;
  gives_none : (k at : ℕ) (old new : Board) → Happens (gives k) old new → good_bodies (next_pieces (connection_at old k)) ≡ [] → KeepsAccount (only k cutting) (only k cutting) at old new;
  gives_one : (k at : ℕ) (body : List ℕ) (old new : Board) → Happens (gives k) old new → good_bodies (next_pieces (connection_at old k)) ≡ body ∷ [] → KeepsAccount (only k cutting) (only k (handling body)) at old new;
  gives_last : (k at : ℕ) (old new : Board) → Happens (gives k) old new → next_pieces (connection_at old k) ≡ [] → KeepsAccount (only k cutting) all_done at old new;
  stops : (k at : ℕ) (board : Board) → (connection_at board k).cause ≢ None → KeepsAccount (only k cutting) all_done at board board;
  receives : (s k : ℕ) (body : List ℕ) (at : ℕ) (old new : Board) → Happens (receives s k body at) old new → KeepsAccount (only k (handling body)) (only k cutting) at old new;
  binds : (s k : ℕ) (body : List ℕ) (at : ℕ) (old new : Board) → Happens (binds s k body at) old new → KeepsAccount (only k (handling body)) (only k cutting) at old new;
  binds_and_ends : (s k : ℕ) (body : List ℕ) (at : ℕ) (cause : Cause) (old new : Board) → Happens (binds_and_ends s k body at cause) old new → KeepsAccount (only k (handling body)) (only k cutting) at old new;
  refuses : (k : ℕ) (body : List ℕ) (at : ℕ) (cause : Cause) (old new : Board) → Happens (ends_unbound k cause) old new → KeepsAccount (only k (handling body)) (only k cutting) at old new;
}

pub account_laws : HappeningLaws → AccountLaws
account_laws are = record {
  itself = are.itself;
  further = are.further;
  aside = are.aside;
  accepts = are.accepts;
  dials = are.dials;
  takes = are.takes;
  gives_none = are.gives_none;
  gives_one = are.gives_one;
  gives_last = are.gives_last;
  stops = are.stops;
  receives = are.receives;
  binds = are.binds;
  binds_and_ends = are.binds_and_ends;
  refuses = are.refuses;
}
