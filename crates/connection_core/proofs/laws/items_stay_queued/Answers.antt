use Rattle.std.proofs.Common.{refl}
use Rattle.connection_core.proofs.Queue.{items_first, items_queue, items_makings, items_with_texts, items_first_alone, items_write, items_grow}
use Rattle.connection_core.proofs.laws.items_stay_queued.Goals as goal

pub returns-clause-first : goal.returns-clause-first
returns-clause-first c = λ names log. items_first names log

pub returns-clause-queue : goal.returns-clause-queue
returns-clause-queue c = λ names log items more out h named. items_queue names log items more out h named

pub returns-clause-make : goal.returns-clause-make
returns-clause-make c = λ names log items out count h. items_makings names log items out count h

pub returns-clause-prepare : goal.returns-clause-prepare
returns-clause-prepare c = λ names log items out limit h. items_with_texts names log items out.unmade out limit refl h

pub returns-clause-prepare_first : goal.returns-clause-prepare_first
returns-clause-prepare_first c = λ names log items out h. items_first_alone names log items out out.text h

pub returns-clause-write : goal.returns-clause-write
returns-clause-write c = λ names log items out n h most. items_write names log items out n h most

pub returns-clause-grow : goal.returns-clause-grow
returns-clause-grow c = λ names earlier later items out h on.
    items_grow names earlier later items out (λ item. c.items_stay.ensures.text earlier later names item on) (λ item. c.items_stay.ensures.named earlier later item on) h
