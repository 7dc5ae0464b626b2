use Rattle.library_api.proofs.Posts.{all_posted}
use Rattle.library_api.proofs.laws.posts_are_sent.Goals as goal

pub returns : goal.returns
returns c = all_posted
