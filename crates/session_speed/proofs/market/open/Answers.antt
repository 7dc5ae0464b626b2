use Rattle.std.proofs.Common.{◌≡◌, List, ◌∷◌, [], ◌++◌, get_or, length, sym, ap, subst, ◌∙◌, arith}
use Rattle.connection_core.specs.Connection.{ConnectionState, fresh}
use Rattle.session_book.specs.Book.{Book}
use Rattle.session_book.specs.Kept.{Kept}
use Rattle.switchboard.specs.Board.{Board, book_at, connection_at, no_session, with_session_more}
use Rattle.switchboard.specs.Happenings.{accepts}
use Rattle.switchboard.specs.Ready.{IsFirst, IsReady, entries_of}
use Rattle.session_speed.specs.declared.texts.TheConstants.{MORNING}
use Rattle.session_speed.proofs.market.open.Goals as goal

pub returns : goal.returns
returns c =
    let laws = c.boards_stay_ready.ensures in
    let none = c.new-board.result in
    let kept = c.in_ok-new.field-0 in
    let added = with_session_more kept none in
    let before = entries_of added in
    let first : IsFirst before added =
    laws.add none kept c.in_ok-new.ensures.unbound c.in_ok-add.ensures.lawful (laws.none none c.new-board.ensures.sessions c.new-board.ensures.places c.new-board.ensures.connections) in
    let ready : IsReady before c.add.new.self = subst (IsReady before) (sym c.in_ok-add.ensures.ok) (laws.first before added first) in
    let unlined : c.add.new.self.connections ≡ [] = ap (λ (b : Board). b.connections) c.in_ok-add.ensures.ok ∙ c.new-board.ensures.connections in
    let happens = c.in_ok-accept.ensures.happens (λ k small. absurd (let zero = ap (λ (cs : List ConnectionState). length cs) unlined in omega arith)) in
    let line = fresh 0 MORNING (connection_at c.accept.new.self c.in_ok-accept.field-0).out in
    record {
      before = before;
      ready = laws.happening before (accepts 0 MORNING) c.add.new.self c.accept.new.self happens ready;
      one = ap (λ (b : Board). length b.sessions) c.in_ok-accept.ensures.ok ∙ ap (λ (b : Board). length b.sessions) c.in_ok-add.ensures.ok
          ∙ ap (λ (ks : List Kept). length (ks ++ kept ∷ [])) c.new-board.ensures.sessions;
      line = ap (λ (b : Board). length b.connections) c.in_ok-accept.ensures.ok ∙ ap (λ (cs : List ConnectionState). length (cs ++ line ∷ [])) unlined;
      accepts = ap (λ (b : Board). (book_at b 0).machine.dials) c.in_ok-accept.ensures.ok ∙ ap (λ (b : Board). (book_at b 0).machine.dials) c.in_ok-add.ensures.ok
          ∙ ap (λ (ks : List Kept). (get_or (ks ++ kept ∷ []) 0 no_session).book.machine.dials) c.new-board.ensures.sessions
          ∙ ap (λ (b : Book). b.machine.dials) c.in_ok-new.ensures.book;
    }
