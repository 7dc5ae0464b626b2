use Rattle.std.proofs.Common.{◌-◌, length, arith}
use Rattle.fix_frame.proofs.Rings.{ring-append_past, ring-append_near, ring-append_over}
use Rattle.fix_frame.proofs.ring.put.Goals as goal

pub returns-then-held-to_end : goal.returns-then-held-to_end
returns-then-held-to_end c =
    ring-append_past c.args.start c.args.held c.args.buffer.now c.args.piece.now _ (omega arith) (omega arith) (omega arith) c.write_at.ensures

pub returns-then-piece-to_end : goal.returns-then-piece-to_end
returns-then-piece-to_end c =
    ring-append_near c.args.start c.args.held c.args.buffer.now c.args.piece.now _ (omega arith) c.write_at-then-piece-to_end.ensures

pub returns-else-piece-to_end : goal.returns-else-piece-to_end
returns-else-piece-to_end c =
    ring-append_over c.args.start c.args.held (length c.args.buffer.now - c.args.start - c.args.held) c.args.buffer.now c.args.piece.now _ _ (omega arith) (omega arith) (omega arith)
    c.write_at-else-piece-to_end.ensures c.write_at-else-piece-to_end-2.ensures
