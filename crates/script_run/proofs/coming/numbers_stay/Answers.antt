use Rattle.script_run.proofs.Made.{link_changed, room_made, there}
use Rattle.script_run.proofs.coming.numbers_stay.Goals as goal

pub returns : goal.returns
returns c = record { changed = link_changed; reserved = room_made; there = there }
