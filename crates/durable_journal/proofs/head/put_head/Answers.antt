use Rattle.std.specs.Int.{to_be_bytes, w16, w32, w64}
use Rattle.durable_journal.specs.RecordText.{head_text, numbers_text}
use Rattle.durable_journal.proofs.Heads.{five_written}
use Rattle.durable_journal.proofs.head.put_head.Goals as goal

pub returns-clause-text : goal.returns-clause-text
unfolding head_text
returns-clause-text c =
    let h = c.args.head in
    five_written c.args.text.now.items c.put_u16.new.text.items c.put_numbers.new.text.items c.put_u64.new.text.items c.put_u32.new.text.items c.put_u32-2.new.text.items
    (to_be_bytes w16 h.s) (numbers_text h.numbers) (to_be_bytes w64 h.at) (to_be_bytes w32 h.expected) (to_be_bytes w32 h.length)
    c.put_u16.ensures.text c.put_numbers.ensures.text c.put_u64.ensures.text c.put_u32.ensures.text c.put_u32-2.ensures.text
