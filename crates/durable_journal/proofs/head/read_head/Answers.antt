use Rattle.std.specs.Int.{to_be_bytes, w16, w32, w64}
use Rattle.durable_journal.specs.RecordText.{head_text, numbers_text}
use Rattle.durable_journal.proofs.Heads.{five_read}
use Rattle.durable_journal.proofs.head.read_head.Goals as goal

pub returns-clause-text : goal.returns-clause-text
unfolding head_text
returns-clause-text c =
    five_read (to_be_bytes w16 c.read_u16-s.result.0) (numbers_text c.read_numbers.result.0) (to_be_bytes w64 c.read_u64-at.result.0) (to_be_bytes w32 c.read_u32-expected.result.0) (to_be_bytes w32 c.read_u32-length.result.0)
    c.args.bytes.now c.read_u16-s.result.1.now c.read_numbers.result.1.now c.read_u64-at.result.1.now c.read_u32-expected.result.1.now c.read_u32-length.result.1.now
    c.read_u16-s.ensures.text c.read_numbers.ensures.text c.read_u64-at.ensures.text c.read_u32-expected.ensures.text c.read_u32-length.ensures.text
