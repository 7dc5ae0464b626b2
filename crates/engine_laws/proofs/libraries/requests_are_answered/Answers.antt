use Rattle.std.proofs.Common.{◌≡◌, ℕ, List, [], ◌∷◌, ◌++◌, false, refl, sym, ap, subst, ◌∙◌}
use Rattle.std.proofs.lemmas.List.{append-nil}
use Rattle.std.proofs.lemmas.List.Elements.{All-head, All-tail}
use Rattle.std.specs.List.{All, flat_map}
use Rattle.engine_end.specs.Finishing.{with_seats}
use Rattle.lease_core.specs.declared.entry.Entry.{Entry}
use Rattle.lease_core.specs.declared.messages.Notice.{Notice}
use Rattle.lease_desk.specs.Desk.{bodies_of, is_of_leases}
use Rattle.library_desk.specs.declared.desk.LibraryDesk.{LibraryDesk}
use Rattle.engine_laws.specs.libraries.Replies.{AreAnswered, KeepsReplies, answered_by, asked_by, replies_told, reply_of, stray_reply, stray_told}
use Rattle.engine_laws.proofs.library_lemmas.Served.{RepliesStay, board_goes_on, joined, met, served, unchanged}
use Rattle.engine_laws.proofs.library_lemmas.Stays.{unasked}
use Rattle.engine_laws.proofs.library_lemmas.Steps.{IsKept}
use Rattle.engine_laws.proofs.library_lemmas.Turns.{all_gathered, records_handed_out, turn_made, turn_taken}
use Rattle.engine_laws.proofs.libraries.requests_are_answered.Goals as goal
use Rattle.switchboard.specs.Board.{Board, book_at}
use Rattle.switchboard.specs.Happenings.{Happening, Reaches, reserves, shows}

-- what happens aside, one after another
ran_aside : goal.After-replies_stay → (happenings : List Happening) (old new : Board) → All (λ happening. is_of_leases happening ≡ false) happenings → Reaches happenings old new → KeepsReplies old new
ran_aside c [] old new all same = subst (KeepsReplies old) (sym same) (unchanged old)
ran_aside c (happening ∷ happenings) old new all reaches =
    let aside = λ (h : Happening). is_of_leases h ≡ false in
    joined old reaches.0 new (c.replies_stay.ensures.happening happening old reaches.0 (unasked happening (All-head aside happening happenings all)) reaches.1.0)
    (ran_aside c happenings reaches.0 new (All-tail aside happening happenings all) reaches.1.1)

kept : goal.After-replies_stay → IsKept RepliesStay
kept c = record {
  itself = λ desk. unchanged desk.board;
  further = λ first second third. joined first.board second.board third.board;
  gathers = λ s at until old new is.
      let ended = is.reaches.1.1 in
      joined old.board is.reaches.0 new.board (c.replies_stay.ensures.happening (reserves s) old.board is.reaches.0 refl is.reaches.1.0)
      (subst (KeepsReplies is.reaches.0) (sym ended.1.1) (c.replies_stay.ensures.happening (shows s is.word (bodies_of is.items) at until) is.reaches.0 ended.0 refl ended.1.0));
  aside = λ happenings old new all reaches seat. ran_aside c happenings old.board new.board all reaches;
  publishes = λ s count old new board seat. subst (KeepsReplies old.board) (sym board) (unchanged old.board);
  joins = c.boards_stay_ready.ensures.further;
}

pub returns-clause-first : goal.returns-clause-first
returns-clause-first c = λ config moment shared d desk engine library e from_one has.
    let ends = engine.each _ e has in
    let pushed : e.tail.pushed ≡ [] = ap (λ t. t.pushed) ends.tail in
    let popped : e.head.popped ≡ [] = ap (λ h. h.popped) ends.head in
    record {
      each = ap (flat_map answered_by) pushed ∙ sym (ap (flat_map asked_by) popped);
      told = λ s small. sym (ap (λ (ns : List Notice). replies_told library s (book_at d.desk.board s).entries ++ flat_map (reply_of s) ns) pushed ∙ append-nil (replies_told library s (book_at d.desk.board s).entries));
      strays_are = ap (flat_map (stray_told library)) desk.strays ∙ sym (ap (flat_map (stray_reply _)) pushed);
    }

pub returns-clause-serves : goal.returns-clause-serves
returns-clause-serves c = λ before library at until old new turn from_one is. served c.others_stay.ensures.session before (c.replies_stay.ensures.happening) library at until old new turn from_one is

goes_on : goal.After-replies_stay → (before : ℕ → List Entry) → (old new : LibraryDesk) → KeepsReplies old.desk.board new.desk.board → new ≡ record old { desk = new.desk } → AreAnswered before old → AreAnswered before new
goes_on c before old new keeps rest = board_goes_on c.others_stay.ensures.session before old new keeps (ap (λ (d : LibraryDesk). d.strays.items) rest) (ap (λ (d : LibraryDesk). d.ends.items) rest)

pub returns-clause-takes : goal.returns-clause-takes
returns-clause-takes c = λ before. turn_taken (AreAnswered before) RepliesStay (goes_on c before) (kept c) (served c.others_stay.ensures.session before c.replies_stay.ensures.happening)

pub returns-clause-turn : goal.returns-clause-turn
returns-clause-turn c = λ before. turn_made (AreAnswered before) RepliesStay (goes_on c before) (kept c) (served c.others_stay.ensures.session before c.replies_stay.ensures.happening)

pub returns-clause-hands_out : goal.returns-clause-hands_out
returns-clause-hands_out c = λ before. records_handed_out (AreAnswered before) RepliesStay (goes_on c before)

pub returns-clause-gathers : goal.returns-clause-gathers
returns-clause-gathers c = λ before seats at until old gathered gathers was. all_gathered (AreAnswered before) RepliesStay (goes_on c before) (kept c) at until (with_seats seats old) gathered gathers was

pub returns-clause-meets : goal.returns-clause-meets
returns-clause-meets c = λ before library old new tail_old tail_new head_old head_new from_one rings rest. met c.others_stay.ensures.session before library old new tail_old tail_new head_old head_new from_one rings rest
