use Rattle.std.proofs.Common.{◌≡◌, List, length, refl, ap, arith}
use Rattle.engine_start.proofs.Closings.{recovered_within, restarted_is, restarted_is_owned}
use Rattle.lease_core.specs.declared.entry.Entry.{Entry}
use Rattle.engine_start.proofs.closing.restart.Goals as goal

pub close-requires : goal.close-requires
close-requires c =
    let read = c.args.revived.revival in
    let book = restarted_is c.entries_decide_one_by_one.ensures.state c.args.names.now c.args.dialled.now c.args.until read c.args.revived.expected _ _ _ c.in_ok-book.ensures refl refl in
    let within = recovered_within c.args.names.now c.args.dialled.now c.args.until read c.args.revived.expected _ book in
    let count : length c.entries-recovered.result.now ≡ length read.entries = ap (λ (es : List Entry). length es) c.entries-recovered.ensures in
    omega arith

pub returns-clause-book : goal.returns-clause-book
returns-clause-book c =
    restarted_is c.entries_decide_one_by_one.ensures.state c.args.names.now c.args.dialled.now c.args.until c.args.revived.revival c.args.revived.expected _ _ _ c.in_ok-book.ensures refl c.in_ok-unkept.ensures.book

pub returns-clause-owned : goal.returns-clause-owned
returns-clause-owned c =
    restarted_is_owned c.entries_decide_one_by_one.ensures.state c.args.names.now c.args.dialled.now c.args.until c.args.revived.revival c.args.revived.expected _ _ _ c.in_ok-book.ensures refl c.in_ok-unkept.ensures.book
