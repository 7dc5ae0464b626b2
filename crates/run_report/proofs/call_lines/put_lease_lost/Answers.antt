use Rattle.std.specs.Prelude.{[], ◌∷◌, codes, decimal}
use Rattle.run_report.specs.Calls.{lease_lost_words, seen_words}
use Rattle.run_report.proofs.Numbered.{line_in_parts}
use Rattle.run_report.proofs.call_lines.put_lease_lost.Goals as goal

pub returns : goal.returns
unfolding lease_lost_words
returns c =
    rw (c.in_ok-put_seen.ensures, c.in_ok-put_spaced.ensures, c.from.ensures, c.from-2.ensures)
    (line_in_parts c.args.out.now.items (codes "lease-lost" ∷ decimal c.args.s ∷ codes "lease" ∷ decimal c.args.lease ∷ []) (seen_words c.args.seen.now))
