use Rattle.headline.proofs.RefutedInPart.{misses, never_came, no_connection_bound, other_names, stops_twice}
use Rattle.headline.proofs.laws.wrong_records_are_refuted_in_part.Goals as goal

pub returns : goal.returns
returns c = record { missing = misses; other_names = other_names; no_connection = no_connection_bound; never_came = never_came; twice = stops_twice }
