use Rattle.std.proofs.Common.{length, ◌≤◌, take, arith, length-append}
use Rattle.std.proofs.lemmas.List.{length-take-le}
use Rattle.gate_io.proofs.WholeFacts.{HasGiven-none, HasGiven-more, IsAllOf-end, nothing_left-end, IsLongerThan-bytes}
use Rattle.gate_io.proofs.whole.read_all.Goals as goal

pub reading-init : goal.reading-init
reading-init g c = record {
  within = omega (arith, c.new-bytes.ensures.len);
  room = omega (arith, c.as_mut_slice-buf.ensures.len, c.in_ok-chunk.ensures);
  given = rw c.new-bytes.ensures.items (HasGiven-none (g.So.Source.left c.args.source.now));
  ends = omega arith;
  faults = omega arith;
}

pub returns-then-n-limit-clause-too_long : goal.returns-then-n-limit-clause-too_long
returns-then-n-limit-clause-too_long g c _ =
    IsLongerThan-bytes _ _ _ _ _ _ _ c.reading.invariant.given c.in-Bytes.ensures.content (omega (arith, c.reading.bytes.ok.0, c.len.ensures, c.if-n-limit.true))

pub returns-then-n-limit-clause-too_long_past : goal.returns-then-n-limit-clause-too_long_past
returns-then-n-limit-clause-too_long_past g c _ =
    let fits : c.in-Bytes.n ≤ length c.read.new.buf = omega (arith, c.in-Bytes.ensures.within) in
    let len = length-append c.reading.bytes.items (take c.in-Bytes.n c.read.new.buf) in
    (_, omega (arith, len, length-take-le c.in-Bytes.n c.read.new.buf fits, c.reading.bytes.ok.0, c.len.ensures, c.if-n-limit.true), HasGiven-more _ _ _ _ _ _ fits c.reading.invariant.given c.in-Bytes.ensures.content)

pub returns-in_err-extend_from_slice-in-Bytes-clause-no_memory_within : goal.returns-in_err-extend_from_slice-in-Bytes-clause-no_memory_within
returns-in_err-extend_from_slice-in-Bytes-clause-no_memory_within g c _ =
    let fits : c.in-Bytes.n ≤ length c.read.new.buf = omega (arith, c.in-Bytes.ensures.within) in
    let len = length-append c.reading.bytes.items (take c.in-Bytes.n c.read.new.buf) in
    (_, omega (arith, len, length-take-le c.in-Bytes.n c.read.new.buf fits, c.reading.bytes.ok.0, c.len.ensures, c.if-n-limit.false, c.reading.invariant.within), HasGiven-more _ _ _ _ _ _ fits c.reading.invariant.given c.in-Bytes.ensures.content)

pub reading-preserved : goal.reading-preserved
reading-preserved g c =
    let fits : c.in-Bytes.n ≤ length c.read.new.buf = omega (arith, c.in-Bytes.ensures.within) in
    let a = c.in_ok-extend_from_slice-in-Bytes.ensures.items in
    let d = c.in_ok-extend_from_slice-in-Bytes.ensures.len in
    record {
      within = omega (arith, c.if-n-limit.false, c.len.ensures, c.reading.invariant.within, d, length-take-le c.in-Bytes.n c.read.new.buf fits);
      room = omega (arith, c.reading.invariant.room, c.read.auto.buf);
      given = rw a (HasGiven-more _ _ _ _ _ _ fits c.reading.invariant.given c.in-Bytes.ensures.content);
      ends = omega (arith, c.reading.invariant.ends, c.in-Bytes.ensures.ends_kept);
      faults = omega (arith, c.reading.invariant.faults, c.in-Bytes.ensures.faults_kept);
    }

pub returns-in-End-clause-all : goal.returns-in-End-clause-all
returns-in-End-clause-all g c = IsAllOf-end _ _ _ _ _ c.reading.invariant.given c.in-End.ensures.content

pub returns-in-End-clause-nothing_left : goal.returns-in-End-clause-nothing_left
returns-in-End-clause-nothing_left g c = nothing_left-end _ _ _ _ _ c.reading.invariant.given c.in-End.ensures.content
