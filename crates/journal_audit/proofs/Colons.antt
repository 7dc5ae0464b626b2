-- A text is split at its last colon.
use Rattle.std.proofs.Common.{◌≡◌, ◌≢◌, ℕ, zero, suc, ◌<◌, ◌≤◌, cond, List, [], ◌∷◌, length, get_or, take, drop, Some, None, refl, ap, ◌∙◌, arith}
use Rattle.std.proofs.lemmas.Bool.{ne_eqb}
use Rattle.journal_audit.specs.Cut.{at_last_colon, colon_here, colon_later}

-- no colon stands at the place or behind it
abbrev pub NoneFrom : List ℕ → ℕ → Type 0
NoneFrom text i = (k : ℕ) → i ≤ k → k < length text → get_or text k 0 ≢ 58

behind : (b : ℕ) (bytes : List ℕ) (i : ℕ) → NoneFrom (b ∷ bytes) (suc i) → NoneFrom bytes i
behind b bytes i none k from to = none (suc k) (omega arith) (omega arith)

colon-cons : (b : ℕ) (bytes : List ℕ) → at_last_colon (b ∷ bytes) ≡ colon_later b bytes (at_last_colon bytes)
unfolding at_last_colon
colon-cons b bytes = refl

colon-nil : at_last_colon [] ≡ None
unfolding at_last_colon
colon-nil = refl

not-here : (b : ℕ) (bytes : List ℕ) → b ≢ 58 → colon_here b bytes ≡ None
not-here b bytes other = ap (λ v. cond v (Some (record { before = []; behind = bytes })) None) (ne_eqb b 58 other)

pub no_colon : (text : List ℕ) → NoneFrom text 0 → at_last_colon text ≡ None
no_colon [] none = colon-nil
no_colon (b ∷ bytes) none =
    colon-cons b bytes
    ∙ ap (colon_later b bytes) (no_colon bytes (behind b bytes 0 (λ k from to. none k (omega arith) to)))
    ∙ not-here b bytes (none 0 (omega arith) (omega arith))

pub colon_at : (text : List ℕ) (i : ℕ) → i < length text → get_or text i 0 ≡ 58 → NoneFrom text (suc i) → at_last_colon text ≡ Some (record { before = take i text; behind = drop (suc i) text })
colon_at [] i within found none = absurd (omega arith)
colon_at (b ∷ bytes) zero within found none =
    colon-cons b bytes
    ∙ ap (colon_later b bytes) (no_colon bytes (behind b bytes 0 none))
    ∙ ap (λ (c : ℕ). colon_here c bytes) found
colon_at (b ∷ bytes) (suc i) within found none =
    colon-cons b bytes
    ∙ ap (colon_later b bytes) (colon_at bytes i (omega arith) found (behind b bytes (suc i) none))
