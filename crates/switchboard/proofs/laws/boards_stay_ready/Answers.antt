use Rattle.std.proofs.Common.{List, []}
use Rattle.lease_core.specs.declared.entry.Entry.{Entry}
use Rattle.session_book.specs.Book.{Book}
use Rattle.session_book.specs.Sends.{AreSendsOf}
use Rattle.switchboard.specs.Ready.{GoOnFrom}
use Rattle.switchboard.proofs.Readies.{added_first, ended_at_once, first_ready, happening_ready, none_first, reached_further, reached_one, run_ready}
use Rattle.switchboard.proofs.TextLaws.{TextLaws}
use Rattle.switchboard.proofs.laws.boards_stay_ready.Goals as goal

-- what is known of a library's sends tells which entries came
go_on : (old : List Entry) (new : Book) {sends : List Rattle.session_book.specs.OutEntry.OutEntry} → AreSendsOf 0 old sends new → GoOnFrom old new.entries
go_on old new are = record { added = are.added; are = are.entries_are }

laws : goal.After-items_stay_queued → TextLaws
laws c =
    let told = c.texts_are_told.ensures in
    let stay = c.texts_stay.ensures in
    let sends = c.sends_are_told.ensures in
    record {
      message = λ at body desk is. record {
        text = λ names before k bound text. told.message names before k at body desk is bound text;
        others = λ names before k out apart text. stay.message names before k at body desk out is apart text;
        entries = go_on desk.book.entries _ (sends.message 0 desk.book.entries [] at body desk is (sends.first 0 desk.book));
      };
      tick = λ at desk is. record {
        text = λ names before k bound text. told.tick names before k at desk is bound text;
        others = λ names before k out apart text. stay.tick names before k at desk out is apart text;
        entries = go_on desk.book.entries _ (sends.tick 0 desk.book.entries [] at desk is (sends.first 0 desk.book));
      };
      word = λ at until w bodies desk is count. record {
        text = λ names before k bound text. told.word names before k at until w bodies desk is bound count text;
        others = λ names before k out apart text. stay.word names before k at until w bodies desk out apart text;
        entries = go_on desk.book.entries _ (sends.word 0 desk.book.entries [] at until w bodies desk is count (sends.first 0 desk.book));
      };
      timeout = λ at until w bodies desk is count. record {
        text = λ names before k bound text. told.timeout names before k at until w bodies desk is bound count text;
        others = λ names before k out apart text. stay.timeout names before k at until w bodies desk out apart text;
        entries = go_on desk.book.entries _ (sends.timeout 0 desk.book.entries [] at until w bodies desk is count (sends.first 0 desk.book));
      };
      request = λ library nr from desk is. record {
        text = λ names before k bound text. told.request names before k library nr from desk is bound text;
        others = λ names before k out apart text. stay.request names before k library nr from desk.book out apart text;
        entries = go_on desk.book.entries _ (sends.request 0 desk.book.entries [] library nr from desk.book (sends.first 0 desk.book));
      };
      lapse = λ desk is. record {
        text = λ names before k bound text. told.lapse names before k desk is bound text;
        others = λ names before k out apart text. stay.lapse names before k desk.book out apart text;
        entries = go_on desk.book.entries _ (sends.lapse 0 desk.book.entries [] desk.book (sends.first 0 desk.book));
      };
      binding = λ k at body desk is. record {
        text = λ names before first are none. told.bind names before first k at body desk is are none;
        others = λ names before other out apart text. stay.bind names before other k at body desk out is apart text;
        entries = go_on desk.book.entries _ (sends.bind 0 desk.book.entries [] k at body desk is (sends.first 0 desk.book));
      };
      dial = λ k at desk is. record {
        text = λ names before first are none. told.dial names before first k at desk is are none;
        others = λ names before other out apart text. stay.dial names before other k at desk out is apart text;
        entries = go_on desk.book.entries _ (sends.dial 0 desk.book.entries [] k at desk is (sends.first 0 desk.book));
      };
      leave = told.leave;
      kept = told.kept;
      first = c.items_stay_queued.ensures.first;
      make = c.items_stay_queued.ensures.make;
      write = c.items_stay_queued.ensures.write;
    }

pub returns-clause-first : goal.returns-clause-first
returns-clause-first c = first_ready

pub returns-clause-happening : goal.returns-clause-happening
returns-clause-happening c = happening_ready (laws c)

pub returns-clause-run : goal.returns-clause-run
returns-clause-run c = run_ready (laws c)

pub returns-clause-further : goal.returns-clause-further
returns-clause-further c = reached_further

pub returns-clause-none : goal.returns-clause-none
returns-clause-none c = none_first

pub returns-clause-add : goal.returns-clause-add
returns-clause-add c = added_first

pub returns-clause-one : goal.returns-clause-one
returns-clause-one c = reached_one

pub returns-clause-ends : goal.returns-clause-ends
returns-clause-ends c = ended_at_once
