use Rattle.std.proofs.Common.{◌≡◌, ◌≤◌, ◌++◌, [], ◌∷◌, ℕ, List, length, refl, sym, ap, subst, ◌∙◌}
use Rattle.std.specs.Prelude.{if◌then◌else◌}
use Rattle.std.specs.Result.{is_ok}
use Rattle.connection_core.specs.Connection.{room}
use Rattle.connection_core.specs.declared.limits.TheConstants.{MOST_READ}
use Rattle.lease_words.specs.Views.{EngineView}
use Rattle.switchboard.specs.Board.{connection_at}
use Rattle.wire_desk.specs.Lines.{IsWired}
use Rattle.wire_desk.proofs.Accepted.{accepted_wired}
use Rattle.wire_desk.proofs.desk.WireDesk.accept.Goals as goal

pub returns-in_ok-k-clause-set_up : goal.returns-in_ok-k-clause-set_up
returns-in_ok-k-clause-set_up g c =
    let goes = c.in_ok-k.ensures.goes_on in
    let was = c.requires.set_up in
    c.lines_progress.ensures.set_up c.args.leases.now c.args.desk.now c.add.new.desk c.args.self.now _ goes (ap (λ (seat : EngineView). seat.table) c.add.ensures.seat) refl refl
    (c.lines_progress.ensures.noted c.args.desk.now.board c.add.new.desk.board c.args.self.now.unkept.items goes was.noted) c.add.ensures.steady was

pub returns-in_ok-k-clause-wired : goal.returns-in_ok-k-clause-wired
returns-in_ok-k-clause-wired g c =
    let old = c.args.desk.now.board in
    let new = c.add.new.desk.board in
    let k = c.in_ok-k.k in
    let at_end : k ≡ length old.connections = c.in_ok-k.ensures.place in
    let first = c.args.self.now.accepted.items in
    let last = c.args.self.now.dialled.items in
    let listed : c.push.new.self.items ≡ first ++ length old.connections ∷ [] =
    c.push.ensures.items
    ∙ ap (λ r. if is_ok r then c.reserve.new.self.items ++ k ∷ [] else c.reserve.new.self.items) c.unwrap.ensures
    ∙ ap (λ (xs : List ℕ). xs ++ k ∷ []) c.reserve.ensures.items
    ∙ ap (λ n. first ++ n ∷ []) at_end in
    let door = g.W.Wire.door in
    let links = g.W.Wire.link in
    let before = c.args.wire.now in
    let after = c.accept-accepted.new.self in
    subst (λ (xs : List ℕ). IsWired new (xs ++ last) (door after) (links after)) (sym listed)
    (accepted_wired c.in-New.number c.args.at old new first last (door before) (door after) (links before) (links after) c.requires.few c.in_ok-k.ensures.accepts
    (subst (λ n. MOST_READ ≤ room (connection_at new n)) at_end c.in_ok-k.ensures.room) c.in-New.ensures.accepts c.accept-accepted.ensures.others_stay c.requires.wired)
