use Rattle.headline.proofs.runs.calls_are_answered.Goals as goal

pub returns : goal.returns
returns c = record {
  polls_pop = c.replies_close_requests.ensures.popped;
  polls_close = c.requests_are_numbered.ensures.closed;
  closed = c.replies_close_requests.ensures.closed;
  deeds_are_answered = c.deeds_are_answered.ensures;
  posts_are_sent = c.posts_are_sent.ensures;
  no_gap = c.reads_have_no_gap.ensures.reads;
  beginnings = c.reads_have_no_gap.ensures.beginnings;
  numbered = c.requests_are_numbered.ensures.numbers;
}
