use Rattle.headline.proofs.Refuted.{answers_unbound, at_home, back_from_nobody, elsewhere, for_another, left_standing, never_came, no_arrival, no_number, not_there, not_told, one_shared, one_twice, past_end, runs_on, skipped, twice, two_at_once, two_owners}
use Rattle.headline.proofs.RefutedDeeds.{by_itself, not_shown, other_lease}
use Rattle.headline.proofs.RefutedLogons.{beats_before, more_than_logon, sends_before}
use Rattle.headline.proofs.laws.wrong_records_are_refuted.Goals as goal

pub returns : goal.returns
returns c = record {
  no_arrival = no_arrival;
  no_number = no_number;
  two_owners = two_owners;
  back_from_nobody = back_from_nobody;
  answers_unbound = answers_unbound;
  two_at_once = two_at_once;
  one_twice = one_twice;
  one_shared = one_shared;
  not_there = not_there;
  not_told = not_told;
  more_than_logon = more_than_logon;
  send_first = sends_before;
  beat_first = beats_before;
  left_standing = left_standing;
  never_came = never_came;
  twice = twice;
  skipped = skipped;
  for_another = for_another;
  elsewhere = elsewhere;
  past_end = past_end;
  runs_on = runs_on;
  other_lease = other_lease;
  by_itself = by_itself;
  not_shown = not_shown;
  at_home = at_home;
}
