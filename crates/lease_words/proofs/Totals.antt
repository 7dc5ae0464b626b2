-- How many sends lines show, as the last one goes on.
use Rattle.std.proofs.Common.{◌≡◌, ◌≢◌, ℕ, zero, suc, ◌+◌, ◌-◌, ◌<◌, ◌≤◌, ◌⊎◌, List, [], ◌∷◌, ◌++◌, length, Bool, true, false, eqb, cond, refl, sym, ap, ◌∙◌, subst, inl, inr, ⊎_elim, arith, length-append, true≢false, eq-eqb, ne_eqb}
use Rattle.std.specs.Prelude.{slice_get, Some}
use Rattle.lease_core.specs.declared.lease.Line.{Line}
use Rattle.lease_core.specs.State.{last_or}
use Rattle.lease_core.specs.Lines.{no_line}
use Rattle.lease_words.specs.Leases.{IsLineOf, AreLines, total, sends_of}
use Rattle.lease_words.specs.Views.{granted_lines}
use Rattle.lease_words.specs.Facts.{HasGoneOn, Follows}
use Rattle.lease_words.proofs.Lines.{as_front, last_of_push, get_push_here, granted_push, total_push, running_above}

abbrev pub granted_total : ℕ → ℕ → List Line → ℕ
granted_total base library lines = total library (granted_lines base lines)

pub granted_none : (base : ℕ) (lines : List Line) → length lines ≤ base → granted_lines base lines ≡ []
granted_none zero [] low = refl
granted_none zero (l ∷ ls) low = absurd (omega arith)
granted_none (suc base) [] low = refl
granted_none (suc base) (l ∷ ls) low = granted_none base ls (omega arith)

-- the sends of a last line above the base
pub total_last : (base library : ℕ) (front : List Line) (x : Line) → base ≤ length front → granted_total base library (front ++ x ∷ []) ≡ granted_total base library front + sends_of library x
total_last base library front x low =
    ap (total library) (granted_push base front x low) ∙ total_push library (granted_lines base front) x ∙ (let e : total library (x ∷ []) ≡ sends_of library x = omega arith in ap (λ n. granted_total base library front + n) e)

pub sends_own : (library : ℕ) (x : Line) → x.library ≡ library → sends_of library x ≡ x.sends
sends_own library x is = rw (eq-eqb x.library library is) refl

pub sends_none : (library : ℕ) (x : Line) → x.library ≢ library → sends_of library x ≡ 0
sends_none library x other = rw (ne_eqb x.library library other) refl

-- the last of lines above the base is one of the table's libraries
pub last_here : (base libraries : ℕ) (lines : List Line) → AreLines base libraries lines → base < length lines → IsLineOf libraries (last_or no_line lines)
last_here base libraries lines are some =
    let f = as_front lines (omega arith) in
    let front = f.0 in let x = f.1 in
    let long : length (front ++ x ∷ []) ≡ length front + 1 = length-append front (x ∷ []) in
    let size : length lines ≡ length (front ++ x ∷ []) = ap length f.2 in
    let at : slice_get lines (length front) ≡ Some x = ap (λ l. slice_get l (length front)) f.2 ∙ get_push_here front x in
    subst (IsLineOf libraries) (sym (ap (last_or no_line) f.2 ∙ last_of_push no_line front x)) (are.here (length front) x at (omega arith))

-- what the lines show of one library, once the last one has gone on
pub record HasGrown (base library : ℕ) (shown lines : List Line) : Type 0 where
  pub more : granted_total base library shown ≤ granted_total base library lines
  pub same : library ≢ (last_or no_line lines).library → granted_total base library shown ≡ granted_total base library lines
  pub own : library ≡ (last_or no_line lines).library → granted_total base library lines ≡ granted_total base library shown + ((last_or no_line lines).sends - (last_or no_line shown).sends)

grown_same : (base library : ℕ) (shown lines : List Line) → shown ≡ lines → HasGrown base library shown lines
grown_same base library shown lines is =
    subst (HasGrown base library shown) is (record { more = omega arith; same = λ _. refl; own = λ _. omega arith })

grown_on : (base libraries library : ℕ) (shown lines : List Line) → AreLines base libraries shown → HasGoneOn shown lines → HasGrown base library shown lines
grown_on base libraries library shown lines are g =
    let above : base ≤ length g.front = running_above base libraries g.front g.was (subst (AreLines base libraries) g.before are) g.ran in
    let a : granted_total base library shown ≡ granted_total base library g.front + sends_of library g.was = ap (granted_total base library) g.before ∙ total_last base library g.front g.was above in
    let b : granted_total base library lines ≡ granted_total base library g.front + sends_of library g.now = ap (granted_total base library) g.after ∙ total_last base library g.front g.now above in
    let last : last_or no_line lines ≡ g.now = ap (last_or no_line) g.after ∙ last_of_push no_line g.front g.now in
    let first : last_or no_line shown ≡ g.was = ap (last_or no_line) g.before ∙ last_of_push no_line g.front g.was in
    let more : g.was.sends ≤ g.now.sends = g.more in
    let whose : (last_or no_line lines).library ≡ g.now.library = ap (λ (l : Line). l.library) last in
    let sends : (last_or no_line lines).sends ≡ g.now.sends = ap (λ (l : Line). l.sends) last in
    let as_seen : (last_or no_line shown).sends ≡ g.was.sends = ap (λ (l : Line). l.sends) first in
    record {
      more = elim (Rattle.std.proofs.Common.eqb g.now.library library) as (λ c. eqb g.now.library library ≡ c → granted_total base library shown ≤ granted_total base library lines) [
        | true ↦ λ h.
            let is : g.now.library ≡ library = Rattle.std.proofs.lemmas.Bool.eqb-true g.now.library library h in
            let x : sends_of library g.now ≡ g.now.sends = sends_own library g.now is in
            let y : sends_of library g.was ≡ g.was.sends = sends_own library g.was (sym g.whose ∙ is) in
            omega arith
        | false ↦ λ h.
            let is : g.now.library ≢ library = λ same. true≢false (sym (eq-eqb g.now.library library same) ∙ h) in
            let x : sends_of library g.now ≡ 0 = sends_none library g.now is in
            let y : sends_of library g.was ≡ 0 = sends_none library g.was (λ same. is (g.whose ∙ same)) in
            omega arith
      ] refl;
      same = λ other.
          let is : g.now.library ≢ library = λ same. other (sym same ∙ sym whose) in
          let x : sends_of library g.now ≡ 0 = sends_none library g.now is in
          let y : sends_of library g.was ≡ 0 = sends_none library g.was (λ same. is (g.whose ∙ same)) in
          a ∙ ap (λ n. granted_total base library g.front + n) (y ∙ sym x) ∙ sym b;
      own = λ own.
          let is : g.now.library ≡ library = sym whose ∙ sym own in
          let x : sends_of library g.now ≡ g.now.sends = sends_own library g.now is in
          let y : sends_of library g.was ≡ g.was.sends = sends_own library g.was (sym g.whose ∙ is) in
          omega arith;
    }

pub follows_grown : (base libraries library : ℕ) (shown lines : List Line) → AreLines base libraries shown → Follows shown lines → HasGrown base library shown lines
follows_grown base libraries library shown lines are follows = ⊎_elim (λ is. grown_same base library shown lines is) (λ g. grown_on base libraries library shown lines are g) follows
