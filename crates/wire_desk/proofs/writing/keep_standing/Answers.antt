use Rattle.std.proofs.Common.{rules}
use Rattle.std.proofs.lemmas.Fn.{filter_same}
use Rattle.wire_desk.specs.Lines.{stands_at}
use Rattle.wire_desk.proofs.writing.keep_standing.Goals as goal

pub returns : goal.returns
returns c = filter_same _ (stands_at c.args.board.now) _ (λ k b f is. search rules) _ _ c.retain.ensures.filtered
