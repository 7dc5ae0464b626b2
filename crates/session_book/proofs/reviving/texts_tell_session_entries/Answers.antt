use Rattle.session_book.proofs.ReadingBack.{entries_told}
use Rattle.session_book.proofs.reviving.texts_tell_session_entries.Goals as goal

pub returns : goal.returns
returns c = entries_told
