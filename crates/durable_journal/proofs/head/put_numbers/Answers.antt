use Rattle.std.proofs.Common.{◌∷◌, ◌++◌, []}
use Rattle.std.specs.Int.{to_be_bytes, w64}
use Rattle.durable_journal.specs.RecordText.{numbers_text}
use Rattle.durable_journal.proofs.Heads.{written, five_written}
use Rattle.durable_journal.proofs.head.put_numbers.Goals as goal

pub returns-clause-text : goal.returns-clause-text
unfolding numbers_text
returns-clause-text c =
    let n = c.args.n in
    written c.args.text.now.items c.put.new.text.items c.put_u64-5.new.text.items (n.kind ∷ []) (to_be_bytes w64 n.a ++ (to_be_bytes w64 n.b ++ (to_be_bytes w64 n.c ++ (to_be_bytes w64 n.d ++ to_be_bytes w64 n.e)))) c.put.ensures.text
    (five_written c.put.new.text.items c.put_u64.new.text.items c.put_u64-2.new.text.items c.put_u64-3.new.text.items c.put_u64-4.new.text.items c.put_u64-5.new.text.items
    (to_be_bytes w64 n.a) (to_be_bytes w64 n.b) (to_be_bytes w64 n.c) (to_be_bytes w64 n.d) (to_be_bytes w64 n.e)
    c.put_u64.ensures.text c.put_u64-2.ensures.text c.put_u64-3.ensures.text c.put_u64-4.ensures.text c.put_u64-5.ensures.text)
