-- The body of each kind of item.
use Rattle.std.proofs.Common.{◌≡◌, ℕ, List, codes, decimal, ◌++◌, Option, Some, None, refl, ap, unwrap_or}
use Rattle.message_log.specs.declared.entry.OutEntry.{OutEntry}
use Rattle.message_log.specs.Series.{entry_at}
use Rattle.resend_plan.specs.declared.item.Names2.{Names2}
use Rattle.resend_plan.specs.declared.item.WireItem.TheVariants.{New, Again, GapFill}
use Rattle.resend_plan.specs.Wire.{body_of, message, type_field, behind_type, times, field_of, reset_type, no_entry}

module _ (names : Names2) (log : List (List OutEntry)) (series number : ℕ) where
  pub new_body : (entry : OutEntry) → entry_at log series number ≡ Some entry → body_of names log (New series number) ≡ message names (type_field entry.body) number (times entry.at None) (behind_type entry.body)
  unfolding body_of
  new_body entry is = ap (λ (o : Option OutEntry). let e = unwrap_or o no_entry in message names (type_field e.body) number (times e.at None) (behind_type e.body)) is

  pub again_body : (at : ℕ) (entry : OutEntry) → entry_at log series number ≡ Some entry → body_of names log (Again series number at) ≡ message names (type_field entry.body) number (times at (Some entry.at)) (behind_type entry.body)
  unfolding body_of
  again_body at entry is = ap (λ (o : Option OutEntry). let e = unwrap_or o no_entry in message names (type_field e.body) number (times at (Some e.at)) (behind_type e.body)) is

  pub fill_body : (to at : ℕ) → body_of names log (GapFill series number to at) ≡ message names reset_type number (times at (Some at)) (field_of 123 (codes "Y") ++ field_of 36 (decimal to))
  unfolding body_of
  fill_body to at = refl
