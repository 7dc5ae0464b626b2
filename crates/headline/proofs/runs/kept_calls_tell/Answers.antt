use Rattle.std.proofs.lemmas.List.Elements.{All-contains_itself}
use Rattle.std.specs.List.{Contains}
use Rattle.library_api.specs.Reads.{notices_of}
use Rattle.headline.proofs.run_lemmas.Told.{calls_given, positions_told, posts_told}
use Rattle.headline.proofs.runs.kept_calls_tell.Goals as goal

pub returns : goal.returns
returns c = record {
  posts = posts_told;
  positions = positions_told;
  notices = λ k made kept are. calls_given (Contains (notices_of k made)) k made kept are (All-contains_itself (notices_of k made));
}
