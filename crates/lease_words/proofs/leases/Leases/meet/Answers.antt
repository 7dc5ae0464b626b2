use Rattle.std.proofs.Common.{rules, ◌≡◌, ◌<◌, [], sym, ap, subst, ◌∙◌}
use Rattle.lease_words.specs.Views.{first_library, without_first, first_alone}
use Rattle.lease_words.proofs.MeetingCalls.{some_words, joins_step, join_told, parts_step, meets_step, meet_told, met_engine, met_library, engine_session_met, library_session_met}
use Rattle.lease_words.proofs.LibraryCalls.{library_rests}
use Rattle.lease_words.proofs.EngineCalls.{engine_rests}
use Rattle.lease_words.proofs.leases.Leases.meet.Goals as goal

pub split_seat-moving-requires : goal.split_seat-moving-requires
split_seat-moving-requires c =
    let shape : c.library.inside.seat.me.0.shape ≡ c.self.inside.table.shared.key = search rules in
    let rests = library_rests _ _ _ _ _ c.library.invariant shape in
    (search rules, some_words _ _ _ _ _ _ c.self.invariant, parts_step _ _ _ _ _ (ap (λ m. m.0.libraries) rests))

pub join_seat-requires : goal.join_seat-requires
join_seat-requires c =
    let shape : c.library.inside.seat.me.0.shape ≡ c.self.inside.table.shared.key = search rules in
    let rests = library_rests _ _ _ _ _ c.library.invariant shape in
    let moving = c.split_seat-moving.ensures.4 in
    (search rules, search rules, search rules, some_words _ _ _ _ _ _ c.self.invariant, joins_step _ _ _ _ _ _ (ap (λ m. m.0.engine) c.engine.invariant.rests) (ap (λ m. m.0) moving ∙ (λ j. first_alone (rests j).0)))

pub load-requires : goal.load-requires
load-requires c =
    let shape : c.engine.inside.seat.me.0.shape ≡ c.self.inside.table.shared.key = search rules in
    let joined = join_told _ _ _ _ _ _ c.library.inside.seat.me.0 (engine_rests _ _ _ c.engine.invariant shape) c.split_seat-moving.ensures.4 c.join_seat.ensures.2 in
    (search rules, some_words _ _ _ _ _ _ c.self.invariant, meets_step _ _ _ _ _ _ _ joined c.engine.invariant.idle)

pub split_seat-requires : goal.split_seat-requires
split_seat-requires c =
    let shape : c.engine.inside.seat.me.0.shape ≡ c.self.inside.table.shared.key = search rules in
    let joined = join_told _ _ _ _ _ _ c.library.inside.seat.me.0 (engine_rests _ _ _ c.engine.invariant shape) c.split_seat-moving.ensures.4 c.join_seat.ensures.2 in
    let told = meet_told _ 0 0 _ _ _ _ _ joined c.load.ensures.2 in
    (search rules, some_words _ _ _ _ _ _ c.self.invariant, parts_step _ _ _ _ _ (ap (λ m. m.0.libraries) told.1))

pub invariant_of-engine : goal.invariant_of-engine
invariant_of-engine c =
    let shape : c.engine.inside.seat.me.0.shape ≡ c.self.inside.table.shared.key = search rules in
    let here : c.library.inside.seat.me.0.shape ≡ c.self.inside.table.shared.key = search rules in
    let joined = join_told _ _ _ _ _ _ c.library.inside.seat.me.0 (engine_rests _ _ _ c.engine.invariant shape) c.split_seat-moving.ensures.4 c.join_seat.ensures.2 in
    let told = meet_told _ 0 0 _ _ _ _ _ joined c.load.ensures.2 in
    met_engine _ _ _ _ (first_library c.library.inside.seat.me.0.libraries) _ c.engine.invariant shape (c.library.invariant.count ∙ ap (λ k. k.sessions) here) (c.split_seat.ensures.2 ∙ (λ j. (without_first (told.1 j).0, (told.1 j).1)))

pub invariant_of-library : goal.invariant_of-library
invariant_of-library c =
    let shape : c.engine.inside.seat.me.0.shape ≡ c.self.inside.table.shared.key = search rules in
    let here : c.library.inside.seat.me.0.shape ≡ c.self.inside.table.shared.key = search rules in
    let joined = join_told _ _ _ _ _ _ c.library.inside.seat.me.0 (engine_rests _ _ _ c.engine.invariant shape) c.split_seat-moving.ensures.4 c.join_seat.ensures.2 in
    let told = meet_told _ 0 0 _ _ _ _ _ joined c.load.ensures.2 in
    met_library c.library.inside.seat _ _ _ _ _ c.engine.inside.seat.me.0.knows c.library.invariant here (c.engine.invariant.count ∙ ap (λ k. k.sessions) shape) (c.split_seat.ensures.4 ∙ (λ j. (first_alone (told.1 j).0, [])))

pub returns-clause-engine_session : goal.returns-clause-engine_session
returns-clause-engine_session c s near =
    let shape : c.engine.inside.seat.me.0.shape ≡ c.self.inside.table.shared.key = search rules in
    let here : c.library.inside.seat.me.0.shape ≡ c.self.inside.table.shared.key = search rules in
    let joined = join_told _ _ _ _ _ _ c.library.inside.seat.me.0 (engine_rests _ _ _ c.engine.invariant shape) c.split_seat-moving.ensures.4 c.join_seat.ensures.2 in
    let told = meet_told _ 0 0 _ _ _ _ _ joined c.load.ensures.2 in
    engine_session_met _ _ _ _ c.engine.inside.seat.me.0.knows (first_library c.library.inside.seat.me.0.libraries) s
    (c.engine.invariant.count ∙ ap (λ k. k.sessions) shape) (c.library.invariant.count ∙ ap (λ k. k.sessions) here) (subst (λ n. s < n) (ap (λ t. t.shape.sessions) (sym c.self.view_is)) near)
    (ap (λ m. m.0.knows) (c.split_seat.ensures.2 ∙ (λ j. (without_first (told.1 j).0, (told.1 j).1)))) (ap (λ v. v.knows) c.engine.view_is) (ap (λ v. v.knows) c.library.view_is)

pub returns-clause-library_session : goal.returns-clause-library_session
returns-clause-library_session c s near =
    let shape : c.engine.inside.seat.me.0.shape ≡ c.self.inside.table.shared.key = search rules in
    let here : c.library.inside.seat.me.0.shape ≡ c.self.inside.table.shared.key = search rules in
    let joined = join_told _ _ _ _ _ _ c.library.inside.seat.me.0 (engine_rests _ _ _ c.engine.invariant shape) c.split_seat-moving.ensures.4 c.join_seat.ensures.2 in
    let told = meet_told _ 0 0 _ _ _ _ _ joined c.load.ensures.2 in
    library_session_met _ _ _ _ c.engine.inside.seat.me.0.knows (first_library c.library.inside.seat.me.0.libraries) s
    (c.engine.invariant.count ∙ ap (λ k. k.sessions) shape) (c.library.invariant.count ∙ ap (λ k. k.sessions) here) (subst (λ n. s < n) (ap (λ t. t.shape.sessions) (sym c.self.view_is)) near)
    (ap (λ m. first_library m.0.libraries) (c.split_seat.ensures.4 ∙ (λ j. (first_alone (told.1 j).0, [])))) (ap (λ v. v.knows) c.engine.view_is) (ap (λ v. v.knows) c.library.view_is)
