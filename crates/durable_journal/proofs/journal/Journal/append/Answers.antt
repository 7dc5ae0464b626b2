use Rattle.std.proofs.Common.{◌≡◌, inr, ◌∙◌, ◌+◌, ◌++◌, ◌∷◌, [], List, ℕ, length, ap, sym, subst, arith, rules}
use Rattle.std.specs.Prelude.{IfSome}
use Rattle.lease_core.specs.declared.record.Record.{Record}
use Rattle.durable_journal.specs.RecordText.{record_text}
use Rattle.durable_journal.specs.Files.{AreRuns, IsLawful}
use Rattle.durable_journal.specs.Journal.{JournalState, Keeps, IsAtRest, IsDraft, file_end}
use Rattle.durable_journal.proofs.Rests.{rest_more, draft_more, end_is, text_len}
use Rattle.durable_journal.proofs.journal.Journal.append.Goals as goal

pub invariant_of-self-2 : goal.invariant_of-self-2
invariant_of-self-2 g c =
    let h = g.D.Disk.history in
    let i = c.self.inside in
    let e = c.args.event in
    let new = c.put_record.new.text.items in
    let items : c.push.new.self.items ≡ i.waiting.items ++ e ∷ [] = search rules in
    let text : new ≡ i.text.items ++ record_text e = c.put_record.ensures.text ∙ ap (λ (l : List ℕ). l ++ record_text e) c.in_ok-reserve-2.ensures.items in
    let told : c.length_with-length.result ≡ file_end i.gate (i.waiting.items ++ e ∷ []) = subst (λ (v : JournalState g.row.D.Denot). c.length_with-length.result ≡ file_end v.gate (v.batch ++ e ∷ [])) (sym c.self.view_is) c.length_with-length.ensures in
    let total : c.length_with-length.result ≡ i.gate + 1 + length i.text.items + 1 + 59 + length e.body = told ∙ end_is i.gate i.waiting.items e i.text.items c.self.invariant.1 in
    let len : length new ≡ length i.text.items + 59 + length e.body = text_len i.text.items new e text in
    let lawful : IsLawful e = record { record_is = c.requires.is_record; entry_types = c.put_record.ensures.entry_types; head_types = c.put_record.ensures.head_types } in (
      subst (λ (l : List Record). IfSome (h i.disk) (IsAtRest i.sessions i.leases i.gate l)) (sym items)
          (rest_more i.sessions i.leases i.gate i.waiting.items e (h i.disk) c.self.invariant.0
          (λ kept k. subst (λ (v : JournalState g.row.D.Denot). AreRuns v.sessions v.leases (kept ++ (v.batch ++ e ∷ []))) (sym c.self.view_is) (c.requires.run kept (subst (λ (v : JournalState g.row.D.Denot). Keeps h v kept) c.self.view_is k)))),
      subst (λ (l : List Record). IsDraft l new) (sym items) (draft_more i.waiting.items e i.text.items new c.self.invariant.1 lawful text (omega (arith, total, len, c.if-length-gt-LONGEST_JOURNAL.false))),
      inr (omega (arith, total, len, c.if-length-gt-LONGEST_JOURNAL.false)),
      c.self.invariant.3,
      search rules,
    )
