use Rattle.engine_laws.proofs.library_lemmas.Stays.{happening_keeps}
use Rattle.engine_laws.proofs.libraries.replies_stay.Goals as goal

pub returns : goal.returns
returns c = record {
  happening = happening_keeps (record { desk = c.others_stay.ensures.desk; plug = c.others_stay.ensures.plug; session = c.others_stay.ensures.session; goes_on = c.boards_go_on.ensures.happening });
}
