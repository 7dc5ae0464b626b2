-- Items and their texts as the log grows.
use Rattle.std.proofs.Common.{◌≡◌, ◌⊎◌, ℕ, List, [], ◌∷◌, ◌++◌, map, Option, Some, None, IsSome, is_some, refl, sym, ap, subst, ◌∙◌, inl, inr, unwrap_or}
use Rattle.std.specs.List.{All}
use Rattle.std.proofs.lemmas.Bool.{false≢true}
use Rattle.std.proofs.lemmas.List.Elements.{All-head, All-tail, All-weaker, All-push}
use Rattle.message_log.specs.declared.entry.OutEntry.{OutEntry}
use Rattle.message_log.specs.Series.{entry_at}
use Rattle.resend_plan.specs.declared.item.Names2.{Names2}
use Rattle.resend_plan.specs.declared.item.WireItem.{WireItem}
use Rattle.resend_plan.specs.declared.item.WireItem.TheVariants.{New, Again, GapFill}
use Rattle.resend_plan.specs.Wire.{type_field, behind_type, times, message, body_of, no_entry, NamesEntry}
use Rattle.resend_plan.specs.Fit.{IsFit, HasFitBodies}

-- the entries that the earlier log names are the same in the later one
module _ (earlier later : List (List OutEntry)) (stays : (series number : ℕ) → IsSome (entry_at earlier series number) → entry_at later series number ≡ entry_at earlier series number) where
  entry_named : (series number : ℕ) → IsSome (entry_at earlier series number) → IsSome (entry_at later series number)
  entry_named series number named = ap (λ (o : Option OutEntry). is_some o) (stays series number named) ∙ named

  pub named_stays : (item : WireItem) → NamesEntry earlier item → NamesEntry later item
  named_stays (New series number) named = entry_named series number named
  named_stays (Again series number at) named = entry_named series number named
  named_stays (GapFill series number to at) named = tt

  pub text_stays : (names : Names2) (item : WireItem) → NamesEntry earlier item → body_of names later item ≡ body_of names earlier item
  unfolding body_of
  text_stays names (New series number) named =
      ap (λ (o : Option OutEntry). let e = unwrap_or o no_entry in message names (type_field e.body) number (times e.at None) (behind_type e.body)) (stays series number named)
  text_stays names (Again series number at) named =
      ap (λ (o : Option OutEntry). let e = unwrap_or o no_entry in message names (type_field e.body) number (times at (Some e.at)) (behind_type e.body)) (stays series number named)
  text_stays names (GapFill series number to at) named = refl

  pub all_named_stay : (items : List WireItem) → All (NamesEntry earlier) items → All (NamesEntry later) items
  all_named_stay items all = All-weaker (NamesEntry earlier) (NamesEntry later) named_stays items all

  pub one_more_named : (items : List WireItem) (item : WireItem) → All (NamesEntry earlier) items → NamesEntry later item → All (NamesEntry later) (items ++ item ∷ [])
  one_more_named items item all named = All-push (NamesEntry later) items item (all_named_stay items all) named

  pub all_texts_stay : (names : Names2) (items : List WireItem) → All (NamesEntry earlier) items → map (body_of names later) items ≡ map (body_of names earlier) items
  all_texts_stay names [] all = refl
  all_texts_stay names (item ∷ items) all =
      ap (λ text. text ∷ map (body_of names later) items) (text_stays names item (All-head (NamesEntry earlier) item items all))
      ∙ ap (λ texts. body_of names earlier item ∷ texts) (all_texts_stay names items (All-tail (NamesEntry earlier) item items all))

pub fit_first : (log : List (List OutEntry)) → ((series number : ℕ) → entry_at log series number ≡ None) → HasFitBodies log
fit_first log none = λ series number named. absurd (false≢true (sym (ap (λ (o : Option OutEntry). is_some o) (none series number)) ∙ named))

-- each entry of the later log is one of the earlier, or the pushed one
pub fit_pushed : (earlier later : List (List OutEntry)) (entry : OutEntry)
    → ((series number : ℕ) → IsSome (entry_at later series number) → (entry_at later series number ≡ entry_at earlier series number) ⊎ (entry_at later series number ≡ Some entry))
    → HasFitBodies earlier → IsFit entry.body → HasFitBodies later
fit_pushed earlier later entry pushed fit is = λ series number named. elim (pushed series number named) [
  | inl old ↦ subst (λ (o : Option OutEntry). IsFit (unwrap_or o no_entry).body) (sym old) (fit series number (subst (λ (o : Option OutEntry). IsSome o) old named))
  | inr new ↦ subst (λ (o : Option OutEntry). IsFit (unwrap_or o no_entry).body) (sym new) is
]

pub fit_same : (earlier later : List (List OutEntry)) → ((series number : ℕ) → entry_at later series number ≡ entry_at earlier series number) → HasFitBodies earlier → HasFitBodies later
fit_same earlier later same fit = λ series number named.
    subst (λ (o : Option OutEntry). IsFit (unwrap_or o no_entry).body) (sym (same series number)) (fit series number (subst (λ (o : Option OutEntry). IsSome o) (same series number) named))
