-- What the items that were queued tell of what is written and of what waits.
use Rattle.std.proofs.Common.{◌≡◌, ℕ, ◌+◌, ◌-◌, ◌≤◌, ◌<◌, List, [], ◌∷◌, ◌++◌, length, take, refl, sym, ap, subst, ◌∙◌, arith, append_assoc, append-nil, length-append, All}
use Rattle.std.proofs.lemmas.List.{take-append-le, take-append-drop, take_at, take_all}
use Rattle.std.proofs.lemmas.List.Elements.{All-head}
use Rattle.message_log.specs.declared.entry.OutEntry.{OutEntry}
use Rattle.resend_plan.specs.declared.item.Names2.{Names2}
use Rattle.resend_plan.specs.declared.item.WireItem.{WireItem}
use Rattle.resend_plan.specs.Wire.{NamesEntry}
use Rattle.fix_frame.specs.Cut.{CutPiece, Cut, cut, behind, IsCutSoFar}
use Rattle.connection_core.specs.Outgoing.{Outgoing, item_text, written_text, waiting_text, waiting_count}
use Rattle.connection_core.specs.Items.{AreItemsOf, text_of, ends_from, whole_items}
use Rattle.connection_core.proofs.Texts.{All-back, some_text, text-append, length-ends, whole-past, whole-none}

module _ (names : Names2) (log : List (List OutEntry)) (items : List WireItem) (out : Outgoing) (h : AreItemsOf names log items out) where
  -- the text of all items begins with the texts that are made
  whole_text : text_of names log items ≡ out.text ++ text_of names log out.unmade
  whole_text =
      ap (text_of names log) (h.in_order ∙ sym (append_assoc h.past h.made out.unmade))
      ∙ (text-append names log (h.past ++ h.made) out.unmade ∙ ap (λ (t : List ℕ). t ++ text_of names log out.unmade) (sym h.text))

  pub written_begins : written_text out ≡ take out.written (text_of names log items)
  written_begins = sym (ap (take out.written) whole_text ∙ take-append-le out.written out.text (text_of names log out.unmade) h.within)

  pub written_within : out.written ≤ length (text_of names log items)
  written_within = omega (arith, h.within, ap length whole_text, length-append out.text (text_of names log out.unmade))

  pub made_begins : written_text out ++ waiting_text out ≡ take (length out.text) (text_of names log items)
  made_begins = take-append-drop out.written out.text ∙ sym (ap (take (length out.text)) whole_text ∙ take_at out.text (text_of names log out.unmade) (length out.text) refl)

  pub unmade_named : All (NamesEntry log) out.unmade
  unmade_named = All-back (NamesEntry log) h.made out.unmade (All-back (NamesEntry log) h.past (h.made ++ out.unmade) (subst (All (NamesEntry log)) h.in_order h.named))

  none_left : (made unmade : List WireItem) → out.written ≤ length (text_of names log (h.past ++ made))
      → All (λ end. out.written < end) (ends_from names log (length (text_of names log h.past)) made)
      → whole_items names log (out.written - length (text_of names log h.past)) (made ++ unmade) ≡ 0
  none_left [] [] within wait = refl
  none_left [] (item ∷ unmade) within wait =
      let all = ap (λ (l : List WireItem). length (text_of names log l)) (append-nil h.past) in
      whole-none names log item unmade (out.written - length (text_of names log h.past)) (omega (arith, some_text names log item))
  none_left (item ∷ made) unmade within wait =
      let start = length (text_of names log h.past) in
      let end = start + length (item_text names log item) in
      let first : out.written < end = All-head (λ (e : ℕ). out.written < e) end (ends_from names log end made) wait in
      whole-none names log item (made ++ unmade) (out.written - start) (omega (arith, some_text names log item))

  pub waiting_counted : waiting_count out + whole_items names log out.written items ≡ length items
  waiting_counted =
      let start = length (text_of names log h.past) in
      let within : out.written ≤ length (text_of names log (h.past ++ h.made)) = omega (arith, h.within, ap length h.text) in
      let none = none_left h.made out.unmade within (subst (All (λ (end : ℕ). out.written < end)) h.ends h.ends_wait) in
      let whole = ap (whole_items names log out.written) h.in_order ∙ whole-past names log h.past (h.made ++ out.unmade) out.written h.past_whole in
      let made = ap length h.ends ∙ length-ends names log start h.made in
      omega (arith, none, whole, made, ap length h.in_order, length-append h.past (h.made ++ out.unmade), length-append h.made out.unmade)

  pub all_written : waiting_count out ≡ 0 → written_text out ≡ text_of names log items
  all_written none =
      let start = length (text_of names log h.past) in
      let made = ap length h.ends ∙ length-ends names log start h.made in
      let no_made = none_of h.made (omega arith) in
      let no_unmade = none_of out.unmade (omega arith) in
      let all_past : items ≡ h.past = h.in_order ∙ (ap (λ (l : List WireItem). h.past ++ (l ++ out.unmade)) no_made ∙ (ap (λ (l : List WireItem). h.past ++ l) no_unmade ∙ append-nil h.past)) in
      let long : length (text_of names log items) ≤ out.written = omega (arith, ap (λ (l : List WireItem). length (text_of names log l)) all_past, h.past_whole) in
      written_begins ∙ take_all out.written (text_of names log items) long
    where
      none_of : (l : List WireItem) → length l ≡ 0 → l ≡ []
      none_of [] e = refl
      none_of (item ∷ l) e = absurd (omega arith)

-- pieces that were handed out begin those of the cut
pub given_begin : (limit : ℕ) (taken more : List ℕ) (pieces : List CutPiece) (held : List ℕ)
    → cut limit (taken ++ more) ≡ behind (cut limit taken).pieces (cut limit ((cut limit taken).rest ++ more)) → IsCutSoFar limit taken pieces held
    → take (length pieces) (cut limit (taken ++ more)).pieces ≡ pieces
given_begin limit taken more pieces held goes_on h =
    let tail : Cut = cut limit ((cut limit taken).rest ++ more) in
    let begin : (cut limit taken).pieces ≡ pieces ++ (cut limit held).pieces = ap (λ (c : Cut). c.pieces) h.so_far in
    let whole : (cut limit (taken ++ more)).pieces ≡ pieces ++ ((cut limit held).pieces ++ tail.pieces) =
    ap (λ (c : Cut). c.pieces) goes_on ∙ (ap (λ (ps : List CutPiece). ps ++ tail.pieces) begin ∙ append_assoc pieces (cut limit held).pieces tail.pieces) in
    ap (take (length pieces)) whole ∙ take_at pieces ((cut limit held).pieces ++ tail.pieces) (length pieces) refl
