-- What was written of the connections of a record is what the journals tell.
use Rattle.std.proofs.Common.{◌≡◌, ◌≢◌, inl, inr, ℕ, ◌<◌, ◌≤◌, false, true, List, [], ◌∷◌, ◌++◌, append_assoc, drop, length, Option, None, Some, refl, sym, ap, subst, ◌∙◌, arith}
use Rattle.std.proofs.lemmas.List.{length-take-le, take-append-drop}
use Rattle.std.specs.List.{Contains}
use Rattle.connection_core.specs.Items.{AreItemsOf, text_of}
use Rattle.connection_core.specs.Outgoing.{Outgoing, item_text, written_text}
use Rattle.connection_core.specs.Record.{record_of}
use Rattle.connection_core.specs.declared.records.ConnRecord.{ConnRecord}
use Rattle.engine_end.specs.Records.{IsLeftBy, SessionLeft, left_of}
use Rattle.gate_io.specs.Wire.{Link}
use Rattle.headline.proofs.Found.{IsConnectionAt, answered_one, connection_found, session_there}
use Rattle.headline.proofs.Lists.{middle_is, middle_within}
use Rattle.headline.specs.Headline.{EachConnection, IsCutOff, IsTaken, TookItsText, TookText, first_in, number_at, text_in}
use Rattle.headline.specs.Numbering.{AreInOrder}
use Rattle.lease_core.specs.declared.entry.Entry.{Entry}
use Rattle.lease_core.specs.declared.record.Record.{Record}
use Rattle.library_desk.specs.declared.desk.Stray.{Stray}
use Rattle.message_log.specs.declared.entry.OutEntry.{OutEntry}
use Rattle.resend_plan.specs.declared.item.Names2.{Names2}
use Rattle.resend_plan.specs.declared.item.WireItem.{WireItem}
use Rattle.headline.specs.runs.Accounted.{EndedTookTexts, no_entries}
use Rattle.headline.specs.runs.Sides.{Begins}
use Rattle.run_report.specs.declared.records.RunRecord.{RunRecord}
use Rattle.session_book.specs.Spells.{Spell, spell_items, spells_behind}
use Rattle.session_core.specs.declared.causes.Cause.{Cause}
use Rattle.switchboard.specs.Board.{Board, book_at, connection_at, names_at, session_at}
use Rattle.switchboard.specs.Ready.{HasTextOf, IsReady}
use Rattle.engine_laws.specs.texts.Taken.{IsCutShort, TookTextOf}

module _ (names : Names2) (log : List (List OutEntry)) where
  text_append : (first second : List WireItem) → text_of names log (first ++ second) ≡ text_of names log first ++ text_of names log second
  text_append [] second = refl
  text_append (item ∷ items) second =
      ap (λ bytes. item_text names log item ++ bytes) (text_append items second) ∙ sym (append_assoc (item_text names log item) (text_of names log items) (text_of names log second))

  -- what is written begins the text of all items
  written_begins : (items : List WireItem) (out : Outgoing) → AreItemsOf names log items out → Begins (written_text out) (text_of names log items)
  written_begins items out are =
      let rest = drop out.written out.text ++ text_of names log out.unmade in
      let all : text_of names log items ≡ out.text ++ text_of names log out.unmade =
      ap (text_of names log) (are.in_order ∙ sym (append_assoc are.past are.made out.unmade)) ∙ text_append (are.past ++ are.made) out.unmade ∙ ap (λ bytes. bytes ++ text_of names log out.unmade) (sym are.text) in
      record {
        rest = rest;
        is = sym (append_assoc (written_text out) (drop out.written out.text) (text_of names log out.unmade)) ∙ ap (λ bytes. bytes ++ text_of names log out.unmade) (take-append-drop out.written out.text) ∙ sym all;
      }

module _ (board : Board) (strays : List Stray) (accepted dialled : ℕ) (added : List Record) (left : RunRecord) (is_left : IsLeftBy board strays accepted added left.engine) (order : AreInOrder accepted dialled board.connections)
    (ready : IsReady no_entries board) (links : ℕ → Link) (texts : EndedTookTexts no_entries board links) where
  abbrev At : ℕ → ConnRecord → Type 0
  At place c = IsConnectionAt board strays accepted dialled added left is_left order place c

  -- the writing was cut short where the wire counted so, or as much is written
  cut_off : (k number : ℕ) → (connection_at board k).number ≡ number → (out_within : (connection_at board k).out.outgoing.written ≤ length (connection_at board k).out.outgoing.text)
      → IsCutShort (links (connection_at board k).number) (connection_at board k) → IsCutOff (links number) (record_of (connection_at board k))
  cut_off k number same out_within short = elim (subst (λ n. IsCutShort (links n) (connection_at board k)) same short) [
    | inl faults ↦ inl faults
    | inr rest ↦ elim rest [
      | inl blocks ↦ inr (inl blocks)
      | inr much ↦ inr (inr (let count = length-take-le (connection_at board k).out.outgoing.written (connection_at board k).out.outgoing.text out_within in let most = much.0 in omega arith))
    ]
  ]

  module _ (place k s : ℕ) (within : k < length board.connections) (number : (connection_at board k).number ≡ number_at left place) (names_it : (connection_at board k).session ≡ Some s)
      (answered : place < left.engine.accepted → (connection_at board k).answered ≡ true) where
    abbrev c_is : ConnRecord
    c_is = record_of (connection_at board k)

    abbrev session_is : SessionLeft
    session_is = left_of (session_at board s)

    -- by a text that the journal tells
    by : (told : HasTextOf no_entries board s k) → ((connection_at board k).cause ≢ None → IsTaken left links place c_is (text_in session_is told.spell) (first_in session_is told.spell)) → TookText left links place c_is session_is
    by told ended =
        let has : Contains (spells_behind [] told.added) told.spell =
        subst (λ (all : List Spell). Contains all told.spell) (sym told.spells) (length told.past, middle_within told.past told.later told.spell, middle_is told.past told.later told.spell told.spell) in
        record {
          spell = told.spell;
          told = subst (λ (es : List Entry). Contains (spells_behind [] es) told.spell) (sym told.entries_are) has;
          connection = told.connection ∙ number;
          begins = written_begins (names_at board s) (book_at board s).outbound (spell_items (book_at board s).outbound told.spell) (connection_at board k).out.outgoing told.items;
          ended = ended;
        }

    whole : (told : HasTextOf no_entries board s k) → written_text (connection_at board k).out.outgoing ≡ text_in session_is told.spell → TookText left links place c_is session_is
    whole told is = by told (λ ended. record { accepted = λ below. inl is; dialled = λ above. inl (inl is) })

    first_alone : (told : HasTextOf no_entries board s k) → (connection_at board k).answered ≡ false → written_text (connection_at board k).out.outgoing ≡ first_in session_is told.spell → TookText left links place c_is session_is
    first_alone told unanswered is = by told (λ ended. record {
      accepted = λ below. absurd (let clash : false ≡ true = sym unanswered ∙ answered below in cc);
      dialled = λ above. inl (inr is);
    })

    short : IsCutShort (links (connection_at board k).number) (connection_at board k) → TookText left links place c_is session_is
    short is =
        let told = ready.texts s k within names_it in
        let off = cut_off k (number_at left place) number told.items.within is in
        by told (λ ended. record { accepted = λ below. inr off; dialled = λ above. inr off })

    -- one that stands
    standing : (connection_at board k).cause ≡ None → TookText left links place c_is session_is
    standing stands = by (ready.texts s k within names_it) (λ ended. absurd (ended stands))

    took : (cause : Option Cause) → (connection_at board k).cause ≡ cause → TookText left links place c_is session_is
    took None stands = standing stands
    took (Some cause) ended = elim (texts k within (λ none. absurd (let clash : None ≡ Some cause = sym none ∙ ended in cc))) [
      | inl text ↦ (
          let told = subst (TookTextOf no_entries board k) names_it text in
          elim told [
            | inl all ↦ whole all.told all.whole
            | inr first ↦ first_alone first.1.told first.0 first.1.first
          ])
      | inr cut_short ↦ short cut_short
    ]

  pub took_its_text : EachConnection left (λ place c. TookItsText left links place c)
  took_its_text place c found =
      let one = connection_found board strays accepted dialled added left is_left order place c found in
      subst (TookItsText left links place) (sym one.is) (record {
        named = λ s names_it. (
          left_of (session_at board s),
          (
            session_there board strays accepted added left is_left s (ready.named s one.k one.within names_it),
            took place one.k s one.within one.number names_it (answered_one board strays accepted dialled added left is_left order place c one) (connection_at board one.k).cause refl,
          ),
        );
        unnamed = λ none. ap written_text (ready.silent one.k one.within none);
      })
