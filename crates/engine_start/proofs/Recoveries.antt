-- What a journal's file stands for can be gone on from.
use Rattle.std.proofs.Common.{◌≡◌, ℕ, ◌<◌, ◌≤◌, ◌^◌, Bool, true, false, cond, List, [], ◌∷◌, length, refl, sym, ap, subst, ◌∙◌, arith}
use Rattle.std.specs.List.{AllByRecursion}
use Rattle.std.specs.Prelude.{◌==◌}
use Rattle.durable_journal.specs.Files.{IsLawful, entries_of}
use Rattle.durable_journal.specs.Numbers.{HasTypes}
use Rattle.durable_journal.specs.Records.{HasParts, IsPlainAdmin}
use Rattle.engine_start.specs.Recovered.{JournalsGoOn}
use Rattle.engine_start.specs.Restarts.{CanBeRevived, entries_in, records_of}
use Rattle.fix_fields.specs.Laws.{FitBodiesAreBodies}
use Rattle.fix_fields.specs.declared.limits.TheConstants.{LONGEST_APPLICATION_BODY}
use Rattle.fix_frame.specs.Frame.{IsBody}
use Rattle.lease_core.specs.Runs.{IsRun}
use Rattle.lease_core.specs.declared.entry.Entry.{Entry}
use Rattle.lease_core.specs.declared.entry.Entry.TheVariants.{Admin, Send}
use Rattle.lease_core.specs.declared.record.Record.{Record}
use Rattle.session_book.specs.Reviving.{CanBeSent}
use Rattle.session_core.specs.Admin.{admin_text}
use Rattle.session_core.specs.Laws.{TextsOfMessages}
use Rattle.session_core.specs.declared.acts.Admin as admins
use Rattle.session_core.specs.declared.admin_text.TheConstants.{LONGEST_ADMIN}

same_or_not : (r : Record) (b : Bool) (records : List Record) → cond b (r.entry ∷ entries_in records) (entries_in records) ≡ entries_in (cond b (r ∷ records) records)
same_or_not r true records = refl
same_or_not r false records = refl

same_entries : (s : ℕ) (records : List Record) → entries_of s records ≡ entries_in (records_of s records)
same_entries s [] = refl
same_entries s (r ∷ records) =
    ap (λ (es : List Entry). cond (r.s == s) (r.entry ∷ es) es) (same_entries s records) ∙ same_or_not r (r.s == s) (records_of s records)

-- the text of each session message of a record is short
abbrev TextsAreShort : Type 0
TextsAreShort = (admin : admins.Admin) (number : ℕ) → IsPlainAdmin admin → number < 2 ^ 64 → length (admin_text admin number) ≤ LONGEST_ADMIN

module _ (fit : FitBodiesAreBodies) (texts : TextsOfMessages) (short : TextsAreShort) where
  can_be_sent : (e : Entry) (at : ℕ) (body : List ℕ) → HasTypes e → HasParts e at body → CanBeSent e body
  can_be_sent (Admin number) at body types parts =
      let is = parts.1 in
      record {
        is_body = subst IsBody (sym is.text) (texts.body is.admin number);
        short = subst (λ (text : List ℕ). length text ≤ LONGEST_APPLICATION_BODY) (sym is.text) (let few = short is.admin number is.plain types in omega (arith, few));
      }
  can_be_sent (Send lease library ordinal number) at body types parts = record { is_body = fit body parts.1.fit; short = (let few = parts.1.short in omega arith) }
  can_be_sent _ at body types parts = tt

  can_be_revived : (sessions : ℕ) (r : Record) → r.s < sessions → IsLawful r → CanBeRevived sessions r
  can_be_revived sessions r small is = record {
    session = small;
    expected_from = is.record_is.expected_from;
    expected_to = (let most = is.record_is.expected_to in omega arith);
    body = can_be_sent r.entry r.at r.body is.entry_types is.record_is.parts;
  }

  each_can : (sessions : ℕ) (records : List Record) → AllByRecursion (λ (r : Record). r.s < sessions) records → AllByRecursion IsLawful records → AllByRecursion (CanBeRevived sessions) records
  each_can sessions [] small are = tt
  each_can sessions (r ∷ records) small are = (can_be_revived sessions r small.0 are.0, each_can sessions records small.1 are.1)

  pub journals_go_on : JournalsGoOn
  journals_go_on config records are runs = record {
    each = each_can _ records runs.in_sessions are;
    runs = λ s small. subst (IsRun config.leases) (same_entries s records) (runs.runs s);
  }
