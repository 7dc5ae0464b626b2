use Rattle.std.proofs.Common.{◌++◌, List, ℕ, ap, length, ◌∙◌, arith}
use Rattle.session_book.specs.Records.{Pending, after_bind_note, bind_numbers, new_count}
use Rattle.session_book.proofs.Handing.{bind_noted}
use Rattle.session_book.proofs.records.Unkept.note_bind.Goals as goal

pub returns-then-first-behind-clause-ok : goal.returns-then-first-behind-clause-ok
returns-then-first-behind-clause-ok c =
    let xs = c.self.inside.expected.items in
    let len_is = c.self.inside.expected.ok.0 in
    let inside : Pending = record { handed = c.self.inside.handed; expected = xs } in
    let entries = ap length c.entries.ensures.entries in
    let items =
    bind_noted xs _ _ c.args.before c.len-first.result _ _ _ c.in_ok-resize.ensures.items len_is (c.len-first.ensures ∙ len_is) c.if-first-behind.true (omega (arith, entries))
    ∙ ap (λ (n : ℕ). xs ++ bind_numbers c.args.before n (new_count inside c.args.book.now.book)) c.expected.ensures.number in
    let noted = ap (λ (ns : List ℕ). let p : Pending = record { handed = c.self.inside.handed; expected = ns } in p) items in
    noted ∙ ap (λ (p : Pending). after_bind_note c.args.before c.args.book.now.book p) c.self.view_is
