use Rattle.std.proofs.Common.{rules, ◌≡◌, ◌≤◌, ap, sym, subst, ◌∙◌}
use Rattle.std.specs.Prelude.{replicate}
use Rattle.lease_words.specs.Views.{first_library, new_library}
use Rattle.lease_words.proofs.MeetingCalls.{some_words}
use Rattle.lease_words.proofs.MakingCalls.{new_library_row, dealt}
use Rattle.lease_words.proofs.Joining.{parts}
use Rattle.lease_words.proofs.leases.Leases.deal.Goals as goal

pub split_seat-seat-requires : goal.split_seat-seat-requires
split_seat-seat-requires c = (search rules, some_words _ _ _ _ _ _ c.self.invariant, parts _ _ _ (search rules))

pub invariant_of-result : goal.invariant_of-result
invariant_of-result c =
    let shape : c.engine.inside.seat.me.0.shape ≡ c.self.inside.table.shared.key = search rules in
    let first : first_library c.engine.inside.seat.me.0.libraries ≡ new_library c.self.inside.table.shared.key c.args.number = search rules in
    let blank = c.in_ok-rows.ensures.items_if_clones_equal (λ y e. e) ∙ ap (λ n. replicate n new_library_row) c.self.invariant.sessions_are in
    let most = subst (λ n. c.args.number ≤ n) (ap (λ t. t.shape.libraries) (sym c.self.view_is)) c.requires.number.1 in
    dealt _ _ _ _ c.engine.inside.seat.me.0 c.split_seat-seat.ensures.4 shape first blank c.requires.number.0 most c.self.invariant.shape.libraries
