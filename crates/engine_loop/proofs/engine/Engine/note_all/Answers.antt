use Rattle.std.proofs.Common.{◌≡◌, inl, inr, List, add-one, sym, ap, subst, ◌∙◌, arith}
use Rattle.std.proofs.lemmas.List.{get_or-set_other}
use Rattle.session_book.specs.Records.{HasNotedAll, Pending, after_note}
use Rattle.session_desk.specs.Steps.{nothing_noted, pending_at}
use Rattle.switchboard.specs.Board.{Board, book_at}
use Rattle.engine_loop.specs.declared.engine.Engine.{Engine}
use Rattle.engine_loop.proofs.Coming.{before_or_last}
use Rattle.engine_loop.proofs.engine.Engine.note_all.Goals as goal

pub loop-s-preserved : goal.loop-s-preserved
loop-s-preserved c =
    let was = c.loop-s.invariant in
    let now = c.in_ok-note_session.ensures in
    let old = c.loop-s.self in
    let new = c.note_session.new.self in
    let board : new.sessions.desk.board ≡ old.sessions.desk.board = ap (λ (e : Engine). e.sessions.desk.board) c.note_session.ensures.rest in
    let s = c.loop-s.s in
    record {
      turn = rw add-one (old, was.turn, now.notes);
      noted = c.note_session.ensures.noted;
      all = λ j small. elim (before_or_last j s small) [
        | inl before ↦
            let same : pending_at new.lines.unkept.items j ≡ pending_at old.lines.unkept.items j = ap (λ (ps : List Pending). pending_at ps j) now.notes.0
            ∙ get_or-set_other old.lines.unkept.items s j (after_note (book_at old.sessions.desk.board s) (pending_at old.lines.unkept.items s)) nothing_noted (λ e. absurd (omega arith)) in
            subst (λ (b : Board). HasNotedAll (pending_at new.lines.unkept.items j) (book_at b j)) (sym board)
            (subst (λ (p : Pending). HasNotedAll p (book_at old.sessions.desk.board j)) (sym same) (was.all j before))
        | inr last ↦ subst (λ i. HasNotedAll (pending_at new.lines.unkept.items i) (book_at new.sessions.desk.board i)) (sym last) now.all
      ];
      rest = c.note_session.ensures.rest ∙ ap (λ (e : Engine). record e { lines = record (e.lines) { unkept = new.lines.unkept } }) was.rest;
    }
