-- What a connection took is the text that the journal tells of it.
use Rattle.std.proofs.Common.{◌≡◌, inl, inr, ℕ, ◌^◌, ◌<◌, true, false, List, [], ◌∷◌, ◌++◌, append_assoc, drop, length, take, Option, None, Some, refl, sym, ap, ◌∙◌}
use Rattle.std.proofs.lemmas.List.{append-nil, take-append-drop}
use Rattle.connection_core.specs.Items.{AreItemsOf, text_of}
use Rattle.connection_core.specs.Outgoing.{Outgoing, item_text, waiting_text, written_text}
use Rattle.fix_frame.specs.Frame.{frame_of}
use Rattle.gate_io.specs.Wire.{Link}
use Rattle.lease_core.specs.declared.entry.Entry.{Entry}
use Rattle.message_log.specs.declared.entry.OutEntry.{OutEntry}
use Rattle.resend_plan.specs.Wire.{body_of}
use Rattle.resend_plan.specs.declared.item.Names2.{Names2}
use Rattle.resend_plan.specs.declared.item.WireItem.{WireItem}
use Rattle.session_book.specs.Spells.{spell_items}
use Rattle.session_book.specs.Texts.{outbound_text}
use Rattle.switchboard.specs.Board.{Board, book_at, connection_at, names_at}
use Rattle.switchboard.specs.Ready.{HasTextOf, IsReady}
use Rattle.engine_laws.proofs.text_lemmas.Frames.{one_frame}
use Rattle.engine_laws.specs.texts.Taken.{BeginsFirstOfText, HasOneTextAtMost, IsAllWritten, IsOneFrame, TookAsAnswered, TookItsText, TookTextOf, TookTheirTexts}

-- where nothing waits what has text is written
all_text : (out : Outgoing) → waiting_text out ≡ [] → written_text out ≡ out.text
all_text out none = sym (append-nil (written_text out)) ∙ ap (λ bytes. written_text out ++ bytes) (sym none) ∙ take-append-drop out.written out.text

module _ (names : Names2) (log : List (List OutEntry)) where
  text_append : (first second : List WireItem) → text_of names log (first ++ second) ≡ text_of names log first ++ text_of names log second
  text_append [] second = refl
  text_append (item ∷ items) second = ap (λ bytes. item_text names log item ++ bytes) (text_append items second) ∙ sym (append_assoc (item_text names log item) (text_of names log items) (text_of names log second))

  -- the text of all items is that of those that have text, and behind it that of the others
  all_items : (items : List WireItem) (out : Outgoing) → AreItemsOf names log items out → text_of names log items ≡ out.text ++ text_of names log out.unmade
  all_items items out are =
      ap (text_of names log) (are.in_order ∙ sym (append_assoc are.past are.made out.unmade)) ∙ text_append (are.past ++ are.made) out.unmade ∙ ap (λ bytes. bytes ++ text_of names log out.unmade) (sym are.text)

  -- items of which the text is one frame are the first alone
  first_items : (have rest : List WireItem) (body : List ℕ) → length body < 2 ^ 64 → text_of names log have ≡ frame_of body → text_of names log have ≡ text_of names log (take 1 (have ++ rest))
  first_items [] rest body short same = absurd (cc)
  first_items (item ∷ []) rest body short same = refl
  first_items (item ∷ (next ∷ items)) rest body short same =
      let none : item_text names log next ++ text_of names log items ≡ [] = one_frame (body_of names log item) body (item_text names log next ++ text_of names log items) short same in
      absurd (cc)

-- of a connection on which one item has text it is the first
first_told : (before : ℕ → List Entry) (board : Board) (s k : ℕ) (told : HasTextOf before board s k) → IsOneFrame (connection_at board k).out.outgoing.text
    → (connection_at board k).out.outgoing.text ≡ text_of (names_at board s) (book_at board s).outbound (take 1 (spell_items (book_at board s).outbound told.spell))
first_told before board s k told frame =
    let out = (connection_at board k).out.outgoing in
    let names_are = names_at board s in
    let log = (book_at board s).outbound in
    let items = told.items in
    let have = items.past ++ items.made in
    items.text ∙ first_items names_are log have out.unmade frame.body frame.short (sym items.text ∙ frame.are)
    ∙ ap (λ are. text_of names_are log (take 1 are)) (sym (items.in_order ∙ sym (append_assoc items.past items.made out.unmade)))

-- what is written where one item has text, or none
begins_by : (before : ℕ → List Entry) (board : Board) (s k : ℕ) (told : HasTextOf before board s k) → HasOneTextAtMost (connection_at board k).out.outgoing
    → (rest : List ℕ) × (text_of (names_at board s) (book_at board s).outbound (take 1 (spell_items (book_at board s).outbound told.spell)) ≡ written_text (connection_at board k).out.outgoing ++ rest)
begins_by before board s k told (inl none) =
    let out = (connection_at board k).out.outgoing in
    let first = text_of (names_at board s) (book_at board s).outbound (take 1 (spell_items (book_at board s).outbound told.spell)) in
    (drop out.written out.text ++ first, sym (sym (append_assoc (written_text out) (drop out.written out.text) first) ∙ ap (λ bytes. bytes ++ first) (take-append-drop out.written out.text ∙ none)))
begins_by before board s k told (inr one) =
    let out = (connection_at board k).out.outgoing in
    (drop out.written out.text, sym (first_told before board s k told one) ∙ sym (take-append-drop out.written out.text))

-- items that have no text are none
no_items : (names : Names2) (log : List (List OutEntry)) (items : List WireItem) → text_of names log items ≡ [] → items ≡ []
no_items names log [] none = refl
no_items names log (item ∷ items) none = absurd (cc)

-- what is written where all is, and one item has text, or none
all_first : (before : ℕ → List Entry) (board : Board) (s k : ℕ) (told : HasTextOf before board s k) → HasOneTextAtMost (connection_at board k).out.outgoing → IsAllWritten (connection_at board k).out.outgoing
    → written_text (connection_at board k).out.outgoing ≡ text_of (names_at board s) (book_at board s).outbound (take 1 (spell_items (book_at board s).outbound told.spell))
all_first before board s k told (inr one) all = all_text (connection_at board k).out.outgoing all.none_waits ∙ first_told before board s k told one
all_first before board s k told (inl none) all =
    let out = (connection_at board k).out.outgoing in
    let names_are = names_at board s in
    let log = (book_at board s).outbound in
    let items = told.items in
    let have : items.past ++ items.made ≡ [] = no_items names_are log (items.past ++ items.made) (sym items.text ∙ none) in
    let are : spell_items log told.spell ≡ [] =
    items.in_order ∙ sym (append_assoc items.past items.made out.unmade) ∙ ap (λ (front : List WireItem). front ++ out.unmade) have ∙ all.none_unmade in
    all_text out all.none_waits ∙ none ∙ sym (ap (λ (all_of : List WireItem). text_of names_are log (take 1 all_of)) are)

pub took_as_answered : (before : ℕ → List Entry) (board : Board) (links : ℕ → Link) → TookTheirTexts board links → (s k : ℕ) → k < length board.connections → (told : HasTextOf before board s k) → TookAsAnswered before board links s k told
took_as_answered before board links took s k within told = record {
  begins = λ unanswered. begins_by before board s k told (took.firsts k within unanswered);
  first = λ unanswered ended. elim (took.ended k within ended) [
    | inl text ↦ inl (elim text [
      | inl all ↦ all_first before board s k told (took.firsts k within unanswered) all
      | inr first ↦ all_text (connection_at board k).out.outgoing first.1.none_waits ∙ first_told before board s k told first.1.first
    ])
    | inr cut ↦ inr cut
  ];
  whole = λ answered ended. elim (took.ended k within ended) [
    | inl text ↦ inl (elim text [
      | inl all ↦ all_told before board s k told all
      | inr first ↦ absurd (let clash : true ≡ false = sym answered ∙ first.0 in cc)
    ])
    | inr cut ↦ inr cut
  ];
}
  where
    all_told : (before : ℕ → List Entry) (board : Board) (s k : ℕ) (told : HasTextOf before board s k) → IsAllWritten (connection_at board k).out.outgoing
        → written_text (connection_at board k).out.outgoing ≡ outbound_text (names_at board s) (book_at board s).outbound told.spell
    all_told before board s k told all =
        let out = (connection_at board k).out.outgoing in
        let names_are = names_at board s in
        let log = (book_at board s).outbound in
        all_text out all.none_waits ∙ sym (all_items names_are log _ out told.items ∙ ap (λ items. out.text ++ text_of names_are log items) all.none_unmade ∙ append-nil out.text)

pub begins_first : (before : ℕ → List Entry) (board : Board) (s k : ℕ) → IsReady before board → k < length board.connections → (connection_at board k).session ≡ Some s → HasOneTextAtMost (connection_at board k).out.outgoing
    → BeginsFirstOfText before board s k
begins_first before board s k ready within names (inl none) =
    let told = ready.texts s k within names in
    let out = (connection_at board k).out.outgoing in
    let first = text_of (names_at board s) (book_at board s).outbound (take 1 (spell_items (book_at board s).outbound told.spell)) in
    record {
      told = told;
      rest = drop out.written out.text ++ first;
      begins = sym (sym (append_assoc (written_text out) (drop out.written out.text) first) ∙ ap (λ bytes. bytes ++ first) (take-append-drop out.written out.text ∙ none));
    }
begins_first before board s k ready within names (inr one) =
    let told = ready.texts s k within names in
    let out = (connection_at board k).out.outgoing in
    record { told = told; rest = drop out.written out.text; begins = sym (first_told before board s k told one) ∙ sym (take-append-drop out.written out.text) }

pub took_text : (before : ℕ → List Entry) (board : Board) (k : ℕ) (session : Option ℕ) → IsReady before board → k < length board.connections → (connection_at board k).session ≡ session → TookItsText (connection_at board k) → TookTextOf before board k session
took_text before board k None ready within names took = ap written_text (ready.silent k within names)
took_text before board k (Some s) ready within names (inl all) =
    let told = ready.texts s k within names in
    let out = (connection_at board k).out.outgoing in
    let names_are = names_at board s in
    let log = (book_at board s).outbound in
    inl (record {
      told = told;
      whole = all_text out all.none_waits ∙ sym (all_items names_are log _ out told.items ∙ ap (λ items. out.text ++ text_of names_are log items) all.none_unmade ∙ append-nil out.text);
    })
took_text before board k (Some s) ready within names (inr first) =
    let told = ready.texts s k within names in
    let out = (connection_at board k).out.outgoing in
    inr (first.0, record { told = told; first = all_text out first.1.none_waits ∙ first_told before board s k told first.1.first })
