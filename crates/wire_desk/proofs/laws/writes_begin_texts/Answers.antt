use Rattle.wire_desk.proofs.Texts.{texts_begin}
use Rattle.wire_desk.proofs.laws.writes_begin_texts.Goals as goal

pub returns : goal.returns
returns c =
    let queued = c.items_stay_queued.ensures in
    texts_begin (record { make = queued.make; write = queued.write })
