-- A session was pumped to the library that has it.
use Rattle.std.proofs.Common.{◌≡◌, ◌⊎◌, inl, inr, ℕ, zero, suc, ◌-◌, ◌<◌, ◌≤◌, List, [], ◌∷◌, ◌++◌, length, get_or, set, Some, refl, sym, ap, subst, ◌∙◌, arith}
use Rattle.std.specs.Prelude.{slice_get}
use Rattle.std.proofs.lemmas.List.{get_or-set_same}
use Rattle.catchup_pump.specs.Pump.{FoundFull, OnLogEnd, OnRingFull, messages_from}
use Rattle.catchup_pump.specs.declared.cursor.Cursor.{Cursor}
use Rattle.catchup_pump.specs.declared.cursor.Stop.{Stop}
use Rattle.catchup_pump.specs.declared.cursor.Stop.TheVariants.{LogEnd, RingFull}
use Rattle.lease_core.specs.declared.messages.Notice.{Notice}
use Rattle.lease_desk.specs.Desk.{owner_at}
use Rattle.ring_links.specs.Ends.{IsFull, TailView}
use Rattle.switchboard.specs.Board.{book_at}
use Rattle.library_desk.specs.declared.desk.LibraryDesk.{LibraryDesk}
use Rattle.library_desk.specs.declared.ends.EngineEnds.{EngineEnds}
use Rattle.library_desk.specs.Serving.{PumpsTo, cursor_at, no_cursor}

found_any : {T : Type 0} (xs : List T) (i : ℕ) (d e : T) → i < length xs → get_or xs i d ≡ get_or xs i e
found_any [] i d e small = absurd (omega arith)
found_any (x ∷ xs) zero d e small = refl
found_any (x ∷ xs) (suc i) d e small = found_any xs i d e (omega arith)

got : {T : Type 0} (xs : List T) (i : ℕ) (d : T) → i < length xs → slice_get xs i ≡ Some (get_or xs i d)
got [] i d small = absurd (omega arith)
got (x ∷ xs) zero d small = refl
got (x ∷ xs) (suc i) d small = got xs i d (omega arith)

-- why it stopped
stopped : (stop : Stop) (at end : ℕ) (before after : TailView Notice) → OnLogEnd stop (at ≡ end) → OnRingFull stop (FoundFull before after) → (at ≡ end) ⊎ FoundFull before after (length after.pushed) after.taken
stopped LogEnd at end before after ended full = inl ended
stopped (RingFull pushed taken) at end before after ended full = inr (record {
  loaded = full.loaded;
  pushed_is = refl;
  taken_is = refl;
  full = subst (λ n. IsFull after.ring.capacity n after.taken) full.pushed_is (subst (λ n. IsFull after.ring.capacity pushed n) full.taken_is full.full);
})

pub pumped : (library s place : ℕ) (old new : LibraryDesk) (before after : EngineEnds) (was now : Cursor) (log : List (List ℕ)) (stop : Stop) → place ≡ library - 1 → place < length old.ends.items
    → s < length old.cursors.items → owner_at old.desk.board s ≡ library → log ≡ (book_at old.desk.board s).inbound → before ≡ get_or old.ends.items place before → was ≡ get_or old.cursors.items s was
    → now ≡ record was { at = now.at } → was.at ≤ now.at → now.at ≤ length log → after.tail.pushed ≡ before.tail.pushed ++ messages_from was log (now.at - was.at) → after.head ≡ before.head
    → OnLogEnd stop (now.at ≡ length log) → OnRingFull stop (FoundFull before.tail after.tail)
    → new.ends.items ≡ set old.ends.items place after → new.cursors.items ≡ set old.cursors.items s now → new ≡ record old { cursors = new.cursors; ends = new.ends } → PumpsTo library s old new
pumped library s place old new before after was now log stop place_is within small owner log_is before_is was_is now_is forward inside pushed head ended full ends cursors rest =
    let first : cursor_at old.cursors.items s ≡ was = found_any old.cursors.items s no_cursor was small ∙ sym was_is in
    let last : cursor_at new.cursors.items s ≡ now = ap (λ (cs : List Cursor). get_or cs s no_cursor) cursors ∙ get_or-set_same old.cursors.items s now no_cursor small in
    let from : (cursor_at old.cursors.items s).at ≡ was.at = ap (λ (c : Cursor). c.at) first in
    let to : (cursor_at new.cursors.items s).at ≡ now.at = ap (λ (c : Cursor). c.at) last in
    let many : length log ≡ length (book_at old.desk.board s).inbound = ap (λ (l : List (List ℕ)). length l) log_is in
    inl (
      owner,
      (
        record {
          before = before;
          after = after;
          found = ap (slice_get old.ends.items) (sym place_is) ∙ got old.ends.items place before within ∙ ap (λ (e : EngineEnds). Some e) (sym before_is);
          ends = ends ∙ ap (λ n. set old.ends.items n after) place_is;
          cursors = cursors ∙ ap (λ (c : Cursor). set old.cursors.items s c) (sym last);
          cursor = last ∙ now_is ∙ ap (λ (c : Cursor). record c { at = now.at }) (sym first) ∙ ap (λ (c : Cursor). record (cursor_at old.cursors.items s) { at = c.at }) (sym last);
          forward = omega arith;
          within = omega arith;
          pushed = pushed
              ∙ ap (λ (w : Cursor). before.tail.pushed ++ messages_from w log (now.at - w.at)) (sym first)
              ∙ ap (λ (l : List (List ℕ)). before.tail.pushed ++ messages_from (cursor_at old.cursors.items s) l (now.at - (cursor_at old.cursors.items s).at)) log_is
              ∙ ap (λ (c : Cursor). before.tail.pushed ++ messages_from (cursor_at old.cursors.items s) (book_at old.desk.board s).inbound (c.at - (cursor_at old.cursors.items s).at)) (sym last);
          head = head;
          rest = rest;
        },
        elim (stopped stop now.at (length log) before.tail after.tail ended full) [ inl end ↦ inl (to ∙ end ∙ many) | inr found ↦ inr found ],
      ),
    )
