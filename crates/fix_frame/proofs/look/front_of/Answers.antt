use Rattle.std.proofs.Common.{◌≡◌, ◌+◌, ◌&&◌, ℕ, Bool, false, cond, eqb, length, get_or, drop, arith, sym, ap, ap₂, ◌∙◌, ne_eqb}
use Rattle.std.proofs.lemmas.Bool.{and_left, and_right}
use Rattle.fix_frame.specs.Frame.{number_of}
use Rattle.fix_frame.specs.Cut.{waiting, stray, digits_at, can_become, fits, behind_head}
use Rattle.fix_frame.proofs.Fronts.{front_other, front_short, front_long, front_from_behind, WholeHead}
use Rattle.fix_frame.proofs.look.front_of.Goals as goal
use Rattle.fix_frame.proofs.look.front_of.Goals.{then-at-ne-SOH-via-then-at-ne-SOH, then-at-ne-SOH-via-else-at-ne-SOH+then-not-fits}

pub returns-then-not-agrees : goal.returns-then-not-agrees
returns-then-not-agrees c = front_other c.args.limit c.args.held.now (sym c.if-not-agrees.ensures)

pub returns-then-can_become : goal.returns-then-can_become
returns-then-can_become c =
    let x = c.args.held.now in
    let field = c.length_field-field.ensures in (
      front_short c.args.limit x (sym c.if-not-agrees.ensures) (omega (arith, field.count)) ∙ ap (λ (b : Bool). cond b waiting stray) (ap₂ (λ (i j : ℕ). can_become c.args.limit i j) (sym field.count) (sym field.value) ∙ sym c.if-can_become.ensures),
      λ more h. absurd (omega arith),
    )

pub returns-then-end-len : goal.returns-then-end-len
returns-then-end-len c =
    let x = c.args.held.now in
    let field = c.length_field-field.ensures in
    front_short c.args.limit x (sym c.if-not-agrees.ensures) (omega (arith, field.count)) ∙ ap (λ (b : Bool). cond b waiting stray) (ap₂ (λ (i j : ℕ). can_become c.args.limit i j) (sym field.count) (sym field.value) ∙ sym c.if-can_become.ensures)

pub returns-then-at-ne-SOH : goal.returns-then-at-ne-SOH
returns-then-at-ne-SOH c =
    let x = c.args.held.now in
    let field = c.length_field-field.ensures in
    let f = digits_at 9 (drop 12 x) in
    let there : c.at.result ≡ get_or x (12 + length f) 0 = c.at.ensures ∙ ap (λ (i : ℕ). get_or x (12 + i) 0) field.count in
    let long = front_long c.args.limit x (sym c.if-not-agrees.ensures) (omega (arith, field.count)) in
    let fails : (eqb (get_or x (12 + length f) 0) 1 && fits c.args.limit (length f) (number_of f)) ≡ false =
    elim c.then-at-ne-SOH.branch [
      | then-at-ne-SOH-via-then-at-ne-SOH w ↦ and_left _ _ (ap (λ (b : ℕ). eqb b 1) (sym there) ∙ ne_eqb c.at.result 1 (λ e. w.if-at-ne-SOH.true e))
      | then-at-ne-SOH-via-else-at-ne-SOH+then-not-fits w ↦ and_right _ _ (ap₂ (λ (i j : ℕ). fits c.args.limit i j) (sym field.count) (sym field.value) ∙ sym w.if-not-fits.ensures)
    ] in
    long ∙ ap (λ (b : Bool). cond b (behind_head f (drop (12 + length f + 1) x)) stray) fails

pub returns : goal.returns
returns c =
    let x = c.args.held.now in
    let field = c.length_field-field.ensures in
    let f = digits_at 9 (drop 12 x) in
    let there : c.at.result ≡ get_or x (12 + length f) 0 = c.at.ensures ∙ ap (λ (i : ℕ). get_or x (12 + i) 0) field.count in
    let h : WholeHead c.args.limit x (12 + c.length_field-field.result.count + 1) c.length_field-field.result.value =
    record {
      agree = sym c.if-not-agrees.ensures;
      long = omega (arith, field.count);
      ends = sym there ∙ c.if-at-ne-SOH.false;
      fit = ap₂ (λ (i j : ℕ). fits c.args.limit i j) (sym field.count) (sym field.value) ∙ sym c.if-not-fits.ensures;
      place = ap (λ (i : ℕ). 12 + i + 1) field.count;
      number = field.value;
    } in
    front_from_behind c.args.limit x _ _ c.behind_head.result h c.behind_head.ensures
