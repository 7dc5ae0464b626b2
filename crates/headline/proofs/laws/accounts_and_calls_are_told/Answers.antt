use Rattle.headline.proofs.laws.accounts_and_calls_are_told.Goals as goal

pub returns : goal.returns
returns c = record {
  accounts = record {
    stands = c.accounts_are_whole.ensures.stands;
    named = c.accounts_are_whole.ensures.named;
    unbound = c.accounts_are_whole.ensures.unbound;
    waiting = c.accounts_are_whole.ensures.waiting;
  };
  one_owner = c.one_owner_at_a_time.ensures;
  holdings = c.holdings_adjoin.ensures;
  libraries = record { pops = c.replies_close_requests.ensures.popped; lines_tell = c.lines_tell_deeds.ensures.library; handed = c.kept_calls_tell.ensures.notices };
}
