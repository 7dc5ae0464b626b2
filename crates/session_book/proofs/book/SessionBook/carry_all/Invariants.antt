use Rattle.std.proofs.Common.{◌≡◌, ◌++◌, length}
use Rattle.std.specs.Vec.Iter.{into_iter_items, into_iter_len}
use Rattle.lease_core.specs.State.{state_of}
use Rattle.session_book.specs.Acts.{CanCarry, after_acts}
use Rattle.session_book.specs.Book.{IsSameSession, with_outbox}
use Rattle.session_book.proofs.book.SessionBook.carry_all.Given as goal

-- the acts so far are carried out, and the others can be
abbrev pub invariant-loop-act : goal.invariant-loop-act
invariant-loop-act l = record {
  all : l.yielded ++ into_iter_items l.act-iterator ≡ into_iter_items l.initial.act-iterator;
  now : with_outbox l.self.book l.out.outgoing ≡ after_acts l.at l.yielded (with_outbox l.initial.self.book l.initial.out.outgoing);
  can : CanCarry l.self.book (into_iter_items l.act-iterator);
  bound : (state_of l.self.book.entries).bound ≡ (state_of l.initial.self.book.entries).bound;
  session : IsSameSession l.initial.self.book l.self.book;
  phase : l.self.book.machine.phase ≡ l.initial.self.book.machine.phase;
  len : into_iter_len l.act-iterator ≡ length (into_iter_items l.act-iterator);
}
