-- Lawful journals have adjoining holdings.
use Rattle.std.proofs.Common.{List}
use Rattle.std.proofs.lemmas.List.Elements.{All-weaker}
use Rattle.std.specs.List.{All}
use Rattle.engine_end.specs.Records.{HasLawfulJournal}
use Rattle.gateway_run.specs.Outcome.{HasAdjoiningHoldings}
use Rattle.lease_core.specs.Laws.{HoldingsAdjoin}
use Rattle.session_book.specs.declared.reads.SessionRecord.{SessionRecord}

pub all_adjoin : HoldingsAdjoin → (left : List SessionRecord) → All HasLawfulJournal left → All HasAdjoiningHoldings left
all_adjoin law left lawful = All-weaker HasLawfulJournal HasAdjoiningHoldings (λ r is. law r.registry.leases r.registry.entries is.run) left lawful
