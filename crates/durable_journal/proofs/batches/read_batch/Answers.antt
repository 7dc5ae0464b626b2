use Rattle.std.proofs.Common.{◌≡◌, ◌∙◌, ◌++◌, ◌+◌, [], List, ℕ, length, take, drop, ap, sym, subst, arith, rules}
use Rattle.std.specs.Prelude.{IfSome}
use Rattle.std.specs.Int.{to_be_bytes, w32}
use Rattle.std.proofs.lemmas.List.{nil_from_length, take_at}
use Rattle.durable_journal.specs.Disk.{bytes_of}
use Rattle.durable_journal.specs.Recovered.{IsWhole}
use Rattle.durable_journal.proofs.Wholes.{short_in, cut_in, whole_in, read_as}
use Rattle.durable_journal.proofs.batches.read_batch.Goals as goal

pub returns-then-behind-clause-cut_short : goal.returns-then-behind-clause-cut_short
returns-then-behind-clause-cut_short g c = λ _. short_in (g.D.Disk.history c.args.disk.now) c.args.gate c.args.end c.requires.told (omega (arith, c.if-behind.true))

pub returns-then-from-behind-clause-cut_short : goal.returns-then-from-behind-clause-cut_short
returns-then-from-behind-clause-cut_short g c = λ _.
    let size = c.read_u32-size.result.0 in
    let told = c.read_at.new.buf in
    let four : length told ≡ 4 = search rules in
    let rest_nil : c.read_u32-size.result.1.now ≡ [] = nil_from_length c.read_u32-size.result.1.now (omega (arith, c.read_u32-size.ensures.len, four)) in
    let tells : told ≡ to_be_bytes w32 size ++ [] = c.read_u32-size.ensures.text ∙ ap (λ (l : List ℕ). to_be_bytes w32 size ++ l) rest_nil in
    cut_in (g.D.Disk.history c.args.disk.now) c.args.gate c.args.end size told c.requires.told c.in_ok-read_at.ensures.bytes tells c.read_u32-size.ensures.range (omega (arith, c.if-behind.false)) (omega (arith, c.if-from-behind.true, c.from.ensures))

pub returns-clause-whole : goal.returns-clause-whole
returns-clause-whole g c = λ _.
    let h = g.D.Disk.history in
    let o = h c.args.disk.now in
    let size = c.read_u32-size.result.0 in
    let told = c.read_at.new.buf in
    let buf = c.read_at-2.new.buf in
    let four : length told ≡ 4 = search rules in
    let rest_nil : c.read_u32-size.result.1.now ≡ [] = nil_from_length c.read_u32-size.result.1.now (omega (arith, c.read_u32-size.ensures.len, four)) in
    let tells : told ≡ to_be_bytes w32 size ++ [] = c.read_u32-size.ensures.text ∙ ap (λ (l : List ℕ). to_be_bytes w32 size ++ l) rest_nil in
    let long : length c.as_mut_slice.result.now ≡ size + 1 = search rules in
    let is = read_as o (h c.read_at.new.self) (length c.as_mut_slice.result.now) (size + 1) (c.args.gate + 1 + 4) buf c.in_ok-read_at.ensures.nothing_done long c.in_ok-read_at-2.ensures.bytes in
    let text_is : take c.resize.new.self.len (buf ++ drop (length buf) c.resize.new.self.items) ≡ buf = take_at buf (drop (length buf) c.resize.new.self.items) c.resize.new.self.len (search rules) in
    subst (λ (l : List ℕ). IfSome o (λ t. IsWhole (drop (c.args.gate + 1) (bytes_of t)) l)) (sym text_is)
    (whole_in o c.args.gate c.args.end size told buf c.requires.told c.in_ok-read_at.ensures.bytes tells is c.read_u32-size.ensures.range (omega (arith, c.if-from-behind.false, c.from.ensures, c.if-behind.false)))
