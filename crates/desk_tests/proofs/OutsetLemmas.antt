-- How sessions, seat and cursors begin.
use Rattle.std.specs.Prelude.{IfSome, IsSome, slice_get}
use Rattle.std.proofs.Common.{◌≡◌, ℕ, zero, suc, ◌<◌, ◌≤◌, ◌+◌, List, [], ◌∷◌, ◌++◌, length, length-append, get_or, map, Option, None, Some, refl, sym, ap, subst, ◌∙◌, arith, rules}
use Rattle.catchup_pump.specs.declared.cursor.Cursor.{Cursor}
use Rattle.lease_core.specs.Lines.{lines_of}
use Rattle.lease_core.specs.State.{owner_of, state_of}
use Rattle.lease_core.specs.declared.entry.Entry.{Entry}
use Rattle.lease_core.specs.declared.limits.TheConstants.{MOST_LEASES, MOST_LIBRARIES}
use Rattle.lease_desk.specs.Desk.{Agrees, IsInStep, owner_at}
use Rattle.lease_words.specs.Tokens.{new_engine_seat}
use Rattle.lease_words.specs.Views.{EngineView, TableRef, engine_at, engine_session, new_engine, pending}
use Rattle.lease_words.specs.declared.view.EngineSession.{EngineSession}
use Rattle.lease_words.specs.declared.view.Shape.{Shape}
use Rattle.lease_words.specs.declared.layout.TheConstants.{LANE_SLOTS}
use Rattle.library_desk.specs.Serving.{AreCursors, IsCursorOf, IsLinked, cursor_at}
use Rattle.library_desk.specs.declared.desk.LibraryDesk.{LibraryDesk}
use Rattle.library_desk.specs.declared.ends.EngineEnds.{EngineEnds}
use Rattle.library_desk.specs.declared.shared.Shared.{Shared}
use Rattle.session_book.specs.Book.{Book}
use Rattle.session_book.specs.Records.{Pending}
use Rattle.session_core.specs.declared.names.Names.{Names}
use Rattle.session_core.specs.declared.routing.TheConstants.{MOST_SESSIONS}
use Rattle.session_desk.specs.Steps.{AreNoted, AreRoutes, IsRoute, IsSteady, nothing_noted, pending_at}
use Rattle.session_desk.specs.declared.routes.Routes.{Routes}
use Rattle.session_book.specs.Kept.{Kept}
use Rattle.switchboard.specs.Board.{Board, book_at, no_session, with_session_more}
use Rattle.switchboard.specs.Ready.{IsFirst, IsReady, entries_of}
use Rattle.switchboard.specs.Sound.{IsLawful, IsSound, bound_of}
use Rattle.desk_tests.specs.Outset.{IsFresh, dialler_of, outset_shape}
use Rattle.desk_tests.specs.Running.{IsDialler, IsRunning}
use Rattle.desk_tests.specs.declared.engine_desk.EngineDesk.{EngineDesk}

module _ (a b : Kept) (entries_a : a.book.entries ≡ []) (entries_b : b.book.entries ≡ []) (leases_a : a.book.leases ≤ MOST_LEASES) (leases_b : b.book.leases ≤ MOST_LEASES) where
  all_empty : (s : ℕ) → (get_or (a ∷ b ∷ []) s no_session).book.entries ≡ []
  all_empty zero = entries_a
  all_empty (suc zero) = entries_b
  all_empty (suc (suc s)) = refl

  all_few : (s : ℕ) → (get_or (a ∷ b ∷ []) s no_session).book.leases ≤ MOST_LEASES
  all_few zero = leases_a
  all_few (suc zero) = leases_b
  all_few (suc (suc s)) = omega arith

  pub fresh : (dials : Option ℕ) (none one two : Board) → none.sessions ≡ [] → one ≡ with_session_more a none → two ≡ with_session_more b one → a.book.machine.dials ≡ None → b.book.machine.dials ≡ dials
      → IsFirst (entries_of two) two → IsFresh dials two
  fresh dials none one two sessions first second accepts dials_so begins =
      let are : two.sessions ≡ a ∷ b ∷ [] =
      ap (λ (x : Board). x.sessions) second ∙ ap (λ (x : Board). x.sessions ++ b ∷ []) first ∙ ap (λ (xs : List Kept). (xs ++ a ∷ []) ++ b ∷ []) sessions in
      record {
        first = begins;
        count = ap (λ (xs : List Kept). length xs) are;
        entries = λ s. ap (λ (xs : List Kept). (get_or xs s no_session).book.entries) are ∙ all_empty s;
        leases = λ s. subst (λ (xs : List Kept). (get_or xs s no_session).book.leases ≤ MOST_LEASES) (sym are) (all_few s);
        accepts = ap (λ (xs : List Kept). (get_or xs 0 no_session).book.machine.dials) are ∙ accepts;
        dials_so = ap (λ (xs : List Kept). (get_or xs 1 no_session).book.machine.dials) are ∙ dials_so;
      }

-- what the laws say of the first boards
pub record FirstLaws : Type 0 where
  pub none : (board : Board) → board.sessions ≡ [] → board.places ≡ [] → board.connections ≡ [] → IsFirst (entries_of board) board
  pub add : (board : Board) (kept : Kept) → bound_of kept.book ≡ None → IsLawful kept.book → IsFirst (entries_of board) board → IsFirst (entries_of (with_session_more kept board)) (with_session_more kept board)

pub begins : FirstLaws → (none one two : Board) (a b : Kept) → none.sessions ≡ [] → none.places ≡ [] → none.connections ≡ [] → one ≡ with_session_more a none → two ≡ with_session_more b one
    → bound_of a.book ≡ None → bound_of b.book ≡ None → IsLawful a.book → IsLawful b.book → IsFirst (entries_of two) two
begins laws none one two a b sessions places connections first second free_a free_b lawful_a lawful_b =
    let start = laws.none none sessions places connections in
    let middle = subst (λ x. IsFirst (entries_of x) x) (sym first) (laws.add none a free_a lawful_a start) in
    subst (λ x. IsFirst (entries_of x) x) (sym second) (laws.add one b free_b lawful_b middle)

-- a seat that has done nothing
pub record IsNew (es : EngineSession) : Type 0 where
  pub lines : es.lines ≡ []
  pub taken : pending es ≡ 0
  pub published : es.published ≡ 0

new_session : (depth sends s : ℕ) → s < 2 → IsNew (engine_session (new_engine (outset_shape depth sends)) s)
new_session depth sends zero small = record { lines = refl; taken = refl; published = refl }
new_session depth sends (suc zero) small = record { lines = refl; taken = refl; published = refl }
new_session depth sends (suc (suc s)) small = absurd (omega arith)

pub fresh_in_step : (depth sends : ℕ) (leases : TableRef) (seat : EngineView) (board : Board) → leases.shape ≡ outset_shape depth sends → seat ≡ new_engine_seat leases → (dials : Option ℕ) → IsFresh dials board → IsSound board → IsInStep board seat
unfolding state_of
fresh_in_step depth sends leases seat board shape seat_is dials begun sound = record {
  sound = sound;
  agree = λ s small.
      let within : s < 2 = subst (λ n. s < n) begun.count small in
      let is : engine_at seat s ≡ engine_session (new_engine (outset_shape depth sends)) s = ap (λ (v : EngineView). engine_at v s) seat_is ∙ ap (λ (x : Shape). engine_session (new_engine x) s) shape in
      let new = new_session depth sends s within in
      record {
        lines = ap lines_of (begun.entries s) ∙ sym (ap (λ (es : EngineSession). es.lines) is ∙ new.lines);
        taken = ap pending is ∙ new.taken;
        published = (let none : (engine_at seat s).published ≡ 0 = ap (λ (es : EngineSession). es.published) is ∙ new.published in omega arith);
      };
  few = λ s small. begun.leases s;
}

nobody : (entries : List Entry) → entries ≡ [] → owner_of (state_of entries) ≡ 0
unfolding state_of
nobody entries none = ap (λ es. owner_of (state_of es)) none

abbrev first_cursor : Cursor
first_cursor = record { s = 0; lease = 0; at = 0 }

abbrev second_cursor : Cursor
second_cursor = record { s = 1; lease = 0; at = 0 }

outset_cursor : (board : Board) (dials : Option ℕ) → IsFresh dials board → (s : ℕ) → s < 2 → IsCursorOf board s (cursor_at (first_cursor ∷ second_cursor ∷ []) s)
outset_cursor board dials fresh zero small = record { session = refl; within = omega arith; lease = λ some. (let none = nobody (book_at board 0).entries (fresh.entries 0) in absurd (omega arith)) }
outset_cursor board dials fresh (suc zero) small = record { session = refl; within = omega arith; lease = λ some. (let none = nobody (book_at board 1).entries (fresh.entries 1) in absurd (omega arith)) }
outset_cursor board dials fresh (suc (suc s)) small = absurd (omega arith)

pub fresh_cursors : (board : Board) (cursors : List Cursor) (dials : Option ℕ) → IsFresh dials board → cursors ≡ first_cursor ∷ second_cursor ∷ [] → AreCursors board cursors
fresh_cursors board cursors dials fresh are = subst (AreCursors board) (sym are) (record {
  count = sym fresh.count;
  each = λ s small. outset_cursor board dials fresh s (subst (λ n. s < n) fresh.count small);
})

-- one pair more
one_pair_more : (P : ℕ → Names → Type 0) (sessions : List ℕ) (names : List Names) (s : ℕ) (pair : Names) → length sessions ≡ length names
    → ((j a : ℕ) (b : Names) → slice_get sessions j ≡ Some a → slice_get names j ≡ Some b → P a b) → P s pair
    → (j a : ℕ) (b : Names) → slice_get (sessions ++ s ∷ []) j ≡ Some a → slice_get (names ++ pair ∷ []) j ≡ Some b → P a b
one_pair_more P [] [] s pair count all this zero a b session named =
    let first : s ≡ a = (cc) in
    let second : pair ≡ b = (cc) in
    subst (λ x. P x b) first (subst (P s) second this)
one_pair_more P [] [] s pair count all this (suc j) a b session named = absurd (cc)
one_pair_more P [] (y ∷ names) s pair count all this j a b session named = absurd (omega arith)
one_pair_more P (x ∷ sessions) [] s pair count all this j a b session named = absurd (omega arith)
one_pair_more P (x ∷ sessions) (y ∷ names) s pair count all this zero a b session named = all zero a b session named
one_pair_more P (x ∷ sessions) (y ∷ names) s pair count all this (suc j) a b session named =
    one_pair_more P sessions names s pair (omega arith) (λ i. all (suc i)) this j a b session named

pub one_route_more : (board : Board) (old new : Routes) (s : ℕ) (pair : Names) → new.sessions.items ≡ old.sessions.items ++ s ∷ [] → new.names.items ≡ old.names.items ++ pair ∷ [] → IsRoute board s pair
    → AreRoutes board old → AreRoutes board new
one_route_more board old new s pair sessions names this are = record {
  count = ap (λ xs. length xs) sessions ∙ length-append old.sessions.items (s ∷ []) ∙ ap (λ n. n + 1) are.count ∙ sym (ap (λ xs. length xs) names ∙ length-append old.names.items (pair ∷ []));
  each = λ j a b session named.
      one_pair_more (IsRoute board) old.sessions.items old.names.items s pair are.count are.each this j a b
      (subst (λ xs. slice_get xs j ≡ Some a) sessions session) (subst (λ xs. slice_get xs j ≡ Some b) names named);
}

nothing_at : (s : ℕ) → pending_at (nothing_noted ∷ nothing_noted ∷ []) s ≡ nothing_noted
nothing_at zero = refl
nothing_at (suc zero) = refl
nothing_at (suc (suc s)) = refl

pub nothing_is_noted : (board : Board) (unkept : List Pending) → length board.sessions ≡ 2 → unkept ≡ nothing_noted ∷ nothing_noted ∷ [] → AreNoted unkept board
nothing_is_noted board unkept count are = record {
  count = ap (λ xs. length xs) are ∙ sym count;
  each = λ s small. (let none : pending_at unkept s ≡ nothing_noted = ap (λ xs. pending_at xs s) are ∙ nothing_at s in subst (λ (p : Pending). p.handed + length p.expected ≤ length (book_at board s).entries) (sym none) (omega arith));
}

-- the second session, where it dials
pub second_dials : (dials : Option ℕ) (board : Board) → IsFresh dials board → IfSome (dialler_of dials) (IsDialler board)
second_dials None board fresh = _
second_dials (Some heart) board fresh = record {
  session = (let count = fresh.count in omega arith);
  dials = subst IsSome (sym fresh.dials_so) (search rules);
}

pub fresh_is_steady : (dials : Option ℕ) (depth sends : ℕ) (leases : TableRef) (seat : EngineView) (board : Board) → ((before : ℕ → List Entry) (board : Board) → IsFirst before board → IsReady before board)
    → leases.shape ≡ outset_shape depth sends → seat ≡ new_engine_seat leases → IsFresh dials board → IsSteady board seat
fresh_is_steady dials depth sends leases seat board first shape seat_is fresh =
    let ready = first (entries_of board) board fresh.first in
    record { run = record { before = entries_of board; ready = ready }; in_step = fresh_in_step depth sends leases seat board shape seat_is dials fresh ready.sound }

-- A new seat, new cursors and sessions of which nothing was heard, with the rings at whose ends these are.
pub begins_running : ((before : ℕ → List Entry) (board : Board) → IsFirst before board → IsReady before board) → (dials : Option ℕ) (shared : Shared) (d : EngineDesk)
    → shared.leases.shape ≡ outset_shape shared.leases.shape.depth shared.leases.shape.sends → shared.leases.shape.depth ≤ LANE_SLOTS → d.libraries.desk.seat ≡ new_engine_seat shared.leases → IsFresh dials d.libraries.desk.board
    → length d.libraries.ends.items ≡ 2 → map (λ (e : EngineEnds). e.head.ring) d.libraries.ends.items ≡ shared.commands.items → map (λ (e : EngineEnds). e.tail.ring) d.libraries.ends.items ≡ shared.notices.items
    → length d.libraries.watch.kept ≡ 2 → d.libraries.cursors.items ≡ first_cursor ∷ second_cursor ∷ [] → AreRoutes d.libraries.desk.board d.routes → length d.routes.names.items ≤ 2 → AreNoted d.unkept.items d.libraries.desk.board
    → d.dialler ≡ dialler_of dials → IsRunning shared d
begins_running first dials shared d shape depth seat fresh count commands notices watched cursors routes few noted dialler =
    let board = d.libraries.desk.board in
    let table = shared.leases.shape in
    let sessions : table.sessions ≡ 2 = ap (λ (x : Shape). x.sessions) shape in
    let libraries : table.libraries ≡ 2 = ap (λ (x : Shape). x.libraries) shape in
    record {
      linked = record {
        table = ap (λ (v : EngineView). v.table) seat;
        depth = depth;
        sessions = fresh.count ∙ sym sessions;
        few = omega arith;
        libraries = count ∙ sym libraries;
        known = omega arith;
        watched = watched ∙ sym count;
        commands = commands;
        notices = notices;
      };
      steady = fresh_is_steady dials table.depth table.sends shared.leases d.libraries.desk.seat board first shape seat fresh;
      cursors = fresh_cursors board d.libraries.cursors.items dials fresh cursors;
      routes = routes;
      few = omega arith;
      noted = noted;
      dialler = subst (λ s. IfSome s (IsDialler board)) (sym dialler) (second_dials dials board fresh);
    }
