use Rattle.std.proofs.Common.{◌≡◌, ◌+◌, ◌-◌, ◌++◌, List, ℕ, take, drop, map, sym, ap, ◌∙◌, subst, arith, append_assoc, take-add}
use Rattle.fix_frame.specs.Cut.{IsCutSoFar}
use Rattle.byte_tests.specs.Parts.{kept}
use Rattle.byte_tests.proofs.feeding.cut_part.Goals as goal

-- one more part of the bytes
more : (text part : List ℕ) (from count : ℕ) → (text ++ take from part) ++ take (from + count - from) (drop from part) ≡ text ++ take (from + count) part
more text part from count =
    append_assoc text (take from part) (take (from + count - from) (drop from part)) ∙ ap (λ (x : List ℕ). text ++ x) (ap (λ (i : ℕ). take from part ++ take i (drop from part)) {x = from + count - from} {y = count} (omega arith) ∙ sym (take-add from count part))

pub loop-from-preserved : goal.loop-from-preserved
loop-from-preserved c =
    let done = c.in_ok-drain.ensures in
    record {
      within = omega (arith, c.min-count.ensures);
      limit = done.limit ∙ (ap (λ s. s.limit) c.feed.ensures.held ∙ c.loop-from.invariant.limit);
      room = done.room;
      all = λ _. done.all;
      so_far = λ text before h.
          subst (λ (x : List ℕ). IsCutSoFar c.drain.new.cutter.limit x (before ++ map kept c.drain.new.given.items) c.drain.new.cutter.held) (more text c.args.part.now c.loop-from.from c.min-count.result)
          (done.so_far _ before (c.feed.ensures.so_far _ _ (c.loop-from.invariant.so_far text before h)));
    }
