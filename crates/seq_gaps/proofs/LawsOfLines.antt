-- The laws of the number line.
use Rattle.std.proofs.Common.{◌≡◌, ℕ, ◌+◌, ◌<◌, ◌≤◌, ◌⊎◌, Bool, true, false, cond, Option, Some, None, is_some, IsNone, nat_le, refl, sym, ap, ◌∙◌, subst, inl, inr, arith}
use Rattle.std.specs.Ordering.{nat_cmp, eq_by_cmp}
use Rattle.std.specs.Cmp.{unsigned_tied}
use Rattle.std.proofs.lemmas.Cmp.{nat_cmp_total}
use Rattle.std.proofs.lemmas.Bool.{ne_eqb}
use Rattle.std.specs.FinMap.{FinMap, get, insert, remove, len, contains_key, get-empty, get-insert, get-remove, get-retain_keys, len-empty, len-insert, nat_cmp-IsAntisymmetric}
use Rattle.seq_gaps.specs.declared.offered.Place.TheVariants.{Now}
use Rattle.seq_gaps.specs.Line.{Line, IsLine, IsNumber, IsNotHeld, after_taking}
use Rattle.seq_gaps.specs.Offers.{place_of, after_placing, after_offer, more_held}
use Rattle.seq_gaps.specs.Laws.{LinesStayLines, HeldItems, HeldCounts, ExpectedNumbers}
use Rattle.seq_gaps.proofs.Lines.{line_opening, line_counted, line_held, line_filled, line_taken, line_cleared}
use Rattle.seq_gaps.proofs.Maps.{len-remove_held, len-retain_keys}
use Rattle.seq_gaps.proofs.Places.{offer_cases, place-now, after_taking-some, after_taking-none, none_from}

len-one_more : (known : Bool) (n : ℕ) → cond known n (n + 1) ≤ n + 1
len-one_more true n = omega arith
len-one_more false n = omega arith

module _ {X : Type 0} where
  line_offered : (line : Line X) (n : ℕ) (x : X) → IsLine line → IsNumber n → IsLine (after_offer line n x)
  line_offered line n x is number =
      offer_cases line n x (λ place. IsLine (after_placing line n x place))
      (λ below. is)
      (λ held. is)
      (λ same none. line_counted line is (omega (arith, number.to_largest)) (ap (get line.held) (sym same) ∙ none))
      (λ early none room. line_held line n x is early number.to_largest none room)
      is

  ready_cases : (line : Line X) (P : Line X → Type 0) → (is_some (get line.held line.expected) ≡ true → P (record { expected = line.expected + 1; held = remove line.held line.expected; horizon = line.horizon })) → P line → P (after_taking line)
  ready_cases line P some none =
      elim (is_some (get line.held line.expected)) as (λ b. is_some (get line.held line.expected) ≡ b → P (after_taking line)) [
        | true ↦ λ is. subst P (sym (after_taking-some line is)) (some is)
        | false ↦ λ is. subst P (sym (after_taking-none line (none_from (get line.held line.expected) is))) none
      ] refl

  pub lines_stay_lines : LinesStayLines X
  lines_stay_lines = record {
    at_first = line_opening;
    offer = line_offered;
    fill = λ line to is forward end. line_filled line to is forward end;
    taking = λ line is. ready_cases line IsLine (λ some. line_taken line is some) is;
    clear = λ line is. line_cleared line is;
  }

  none_some : (o : Option X) (x : X) → o ≡ None → o ≡ Some x → ⊥
  none_some o x none some = cc

  cond_some : (b : Bool) (o : Option X) (x : X) → cond b None o ≡ Some x → o ≡ Some x
  cond_some true o x is = absurd cc
  cond_some false o x is = is

  cond_kept : (b : Bool) (o : Option X) (x : X) → cond b o None ≡ Some x → o ≡ Some x
  cond_kept true o x is = is
  cond_kept false o x is = absurd cc

  cond_new : (b : Bool) (o : Option X) (new x : X) → cond b (Some new) o ≡ Some x → (o ≡ Some x) ⊎ (x ≡ new)
  cond_new true o new x is = inr cc
  cond_new false o new x is = inl is

  held_offered : (line : Line X) (n : ℕ) (item : X) (k : ℕ) (x : X) → get (after_offer line n item).held k ≡ Some x → (get line.held k ≡ Some x) ⊎ (x ≡ item)
  held_offered line n item k x =
      offer_cases line n item (λ place. get (after_placing line n item place).held k ≡ Some x → (get line.held k ≡ Some x) ⊎ (x ≡ item))
      (λ below is. inl is)
      (λ held is. inl is)
      (λ same none is. inl is)
      (λ early none room is. cond_new (eq_by_cmp nat_cmp k n) (get line.held k) item x (sym (get-insert nat_cmp_total line.held n item k) ∙ is))
      (λ is. inl is)

  pub held_items : HeldItems X
  held_items = record {
    at_first = λ n. get-empty nat_cmp n;
    offer = held_offered;
    fill = λ line to k x is. cond_kept (nat_le to k) (get line.held k) x (sym (get-retain_keys line.held (nat_le to) k (λ y tied. ap (nat_le to) (sym (nat_cmp-IsAntisymmetric k y tied)))) ∙ is);
    taking = λ line k x. ready_cases line (λ after. get after.held k ≡ Some x → get line.held k ≡ Some x) (λ some is. cond_some (eq_by_cmp nat_cmp k line.expected) (get line.held k) x (sym (get-remove nat_cmp_total line.held line.expected k) ∙ is)) (λ is. is);
    clear = λ line k. get-empty nat_cmp k;
  }

  pub insert_count : (m : FinMap nat_cmp X) (n : ℕ) (item : X) → len (insert m n item) ≤ len m + 1
  insert_count m n item = rw (len-insert nat_cmp_total m n item) (len-one_more (contains_key m n) (len m))

  len-offered : (line : Line X) (n : ℕ) (item : X) → len (after_offer line n item).held ≤ len line.held + more_held (place_of line n item)
  len-offered line n item =
      offer_cases line n item (λ place. len (after_placing line n item place).held ≤ len line.held + more_held place)
      (λ below. omega arith)
      (λ held. omega arith)
      (λ same none. omega arith)
      (λ early none room. insert_count line.held n item)
      (omega arith)

  pub held_counts : HeldCounts X
  held_counts = record {
    at_first = len-empty nat_cmp X;
    offer = len-offered;
    fill = λ line to. len-retain_keys line.held (nat_le to);
    taking = λ line held. rw (after_taking-some line held) (len-remove_held line.held line.expected held);
    clear = λ line. len-empty nat_cmp X;
  }

  get-insert_early : (m : FinMap nat_cmp X) (n q : ℕ) (x : X) → q < n → IsNone (get m q) → IsNone (get (insert m n x) q)
  get-insert_early m n q x early none =
      subst (λ (o : Option X). IsNone o) (sym (get-insert nat_cmp_total m n x q ∙ ap (λ b. cond b (Some x) (get m q)) (unsigned_tied q n ∙ ne_eqb q n (λ same. omega arith)))) none

  stays_free : (line : Line X) (n : ℕ) (item : X) → IsNotHeld line line.expected → ((x : X) → place_of line n item ≡ Now x → ⊥) → IsNotHeld (after_offer line n item) (after_offer line n item).expected
  stays_free line n item free =
      offer_cases line n item (λ place. ((x : X) → place ≡ Now x → ⊥) → IsNotHeld (after_placing line n item place) (after_placing line n item place).expected)
      (λ below other. free)
      (λ held other. free)
      (λ same none other. absurd (other item refl))
      (λ early none room other. get-insert_early line.held n line.expected item early free)
      (λ other. free)

  is_expected : (line : Line X) (n : ℕ) (item x : X) → place_of line n item ≡ Now x → (n ≡ line.expected) × (x ≡ item)
  is_expected line n item x =
      offer_cases line n item (λ place. place ≡ Now x → (n ≡ line.expected) × (x ≡ item))
      (λ below is. absurd cc)
      (λ held is. absurd cc)
      (λ same none is. (same, cc))
      (λ early none room is. absurd cc)
      (λ is. absurd cc)

  pub expected_numbers : ExpectedNumbers X
  expected_numbers = record {
    now = λ line item free. place-now line line.expected item refl (none_from (get line.held line.expected) free);
    stays = stays_free;
    only_now = is_expected;
  }
