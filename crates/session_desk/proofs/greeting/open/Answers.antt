use Rattle.std.proofs.Common.{◌≡◌, ◌⊎◌, inl, inr, List, Some, ap, ◌∙◌}
use Rattle.std.specs.Prelude.{length}
use Rattle.std.proofs.lemmas.List.{length-set}
use Rattle.session_book.specs.Acts.{after_binding}
use Rattle.session_book.specs.Book.{Desk}
use Rattle.session_book.specs.Kept.{Kept}
use Rattle.switchboard.specs.Board.{book_at, connection_at, desk_with, session_at}
use Rattle.session_desk.proofs.Agreeing.{Laws, agree_on, agree_where, made_keeps, opened_keeps}
use Rattle.session_desk.proofs.greeting.open.Goals as goal

pub returns-in_err-end-clause-agree : goal.returns-in_err-end-clause-agree
returns-in_err-end-clause-agree c =
    let old = c.args.desk.now.board in
    let new = c.bind.new.self in
    let s = c.args.s in
    let k = c.args.k in
    let laws : Laws = record { session = c.agreement_stays.ensures.session; desk = c.others_stay.ensures.desk } in
    agree_on laws s (Some k) old new c.args.desk.now.seat c.in_err-end.ensures.err
    (opened_keeps c.leases_stay.ensures.opened c.sessions_go_on.ensures.opened (connection_at old k).number c.args.at _ _ (desk_with old s (Some k)) (desk_with new s (Some k))
    (elim c.in_err-end.ensures.begun [ inl same ↦ inl (ap (λ (d : Desk). d.book) same) | inr begun ↦ inr begun ]))
    c.requires.steady.in_step.agree

pub returns-clause-agree : goal.returns-clause-agree
returns-clause-agree c =
    let old = c.args.desk.now.board in
    let new = c.bind.new.self in
    let s = c.args.s in
    let k = c.args.k in
    let number = (connection_at old k).number in
    let body = c.args.body.items in
    let desk = desk_with old s (Some k) in
    let plugged = c.in_ok-end.ensures.plugged in
    agree_where c.agreement_stays.ensures.session s old new c.args.desk.now.seat
    (ap (λ (xs : List Kept). length xs) plugged.sessions ∙ length-set old.sessions s (session_at new s))
    (λ j other. c.others_stay.ensures.plug s k j (Some k) old new other plugged)
    (made_keeps (book_at old s) (book_at new s) (after_binding c.args.at number body desk).book (ap (λ (d : Desk). d.book) c.in_ok-end.ensures.ok)
    (c.leases_stay.ensures.bind number c.args.at body desk) (c.sessions_go_on.ensures.bind number c.args.at body desk))
    c.requires.steady.in_step.agree
