use Rattle.std.proofs.Common.{◌≡◌, ◌<◌, add-one, length, ap, subst, ◌∙◌, arith}
use Rattle.std.proofs.lemmas.List.{get_or_default}
use Rattle.std.specs.Prelude.{slice_index_or}
use Rattle.lease_desk.specs.Desk.{InTurn}
use Rattle.wire_desk.specs.Dials.{WaitsIfEnded}
use Rattle.wire_desk.specs.declared.dialling.Dialler.{Dialler}
use Rattle.wire_desk.proofs.dialling.Dialler.wait_behind_ended.Goals as goal

pub loop-i-preserved : goal.loop-i-preserved
loop-i-preserved c =
    let was = c.loop-i.invariant in
    let now = c.wait_if_ended.ensures in
    let board = c.args.desk.now.board in
    let new = c.wait_if_ended.new.self in
    let places = c.args.lines.now.dialled.items in
    let within : c.loop-i.i < length places = (let small = c.loop-i-test.true in let count = c.len-i-end.ensures in omega arith) in
    let at = c.index.ensures ∙ get_or_default places c.loop-i.i c.index.result.now 0 within in
    record {
      waits = rw add-one (c.loop-i.self, was.waits, subst (λ k. WaitsIfEnded board c.args.at k c.loop-i.self new) at now.waits);
      scheduled = now.scheduled;
      rest = now.rest ∙ ap (λ (d : Dialler). record d { next = new.next }) was.rest;
    }

pub returns-clause-waits : goal.returns-clause-waits
returns-clause-waits c =
    let places = c.args.lines.now.dialled.items in
    let all : c.loop-i.i ≡ length places = (let least = c.loop-i-test.false in let most = c.loop-i.auto.i-end in let count = c.len-i-end.ensures in omega arith) in
    subst (λ n. InTurn (λ i. WaitsIfEnded c.args.desk.now.board c.args.at (slice_index_or places i 0)) n c.args.self.now c.loop-i.self) all c.loop-i.invariant.waits
