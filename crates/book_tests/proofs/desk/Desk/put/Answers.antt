use Rattle.std.proofs.lemmas.Bool.{false≢true}
use Rattle.std.proofs.Common.{[], ap, sym, subst, ◌∙◌}
use Rattle.connection_core.specs.Connection.{ConnectionState}
use Rattle.connection_core.specs.Items.{AreItemsOf}
use Rattle.session_book.specs.Waiting.{CanBeWritten, written_names}
use Rattle.book_tests.proofs.desk.Desk.put.Goals as goal

pub invariant_of-self-2 : goal.invariant_of-self-2
invariant_of-self-2 c =
    let book = c.self.inside.book.book in
    let known = c.self.invariant in
    let names = written_names book.machine.names in
    let none = ap (λ (k : ConnectionState). k.out.outgoing) c.replace-last.ensures.after ∙ c.requires in
    let last = c.replace-gone.ensures.after ∙ c.replace-last.ensures.value in
    record {
      accepts = known.accepts;
      asks = known.asks;
      standing = λ is. absurd (false≢true is);
      here = record { items = []; are = subst (AreItemsOf names book.outbound []) (sym none) (c.items_stay_queued.ensures.first names book.outbound) };
      there = subst (λ (k : ConnectionState). CanBeWritten book k.out.outgoing) (sym last) known.here;
      within = known.within;
    }
