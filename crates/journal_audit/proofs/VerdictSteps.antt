-- The verdict on lines, line by line.
use Rattle.std.proofs.Common.{◌≡◌, ℕ, ◌+◌, Bool, eqb, List, [], ◌∷◌, length, inl, inr, refl, sym, subst}
use Rattle.journal_audit.specs.Cut.{Cut, cut_of, with_line}
use Rattle.journal_audit.specs.Lines.{line_of}
use Rattle.journal_audit.specs.Rules.{limit_in}
use Rattle.journal_audit.specs.Seen.{Seen}
use Rattle.journal_audit.specs.Verdicts.{Gets, IsRight, IsRightRead, after, after_read, at_end, is_done}
use Rattle.journal_audit.specs.declared.auditing.Verdict.{Verdict}
use Rattle.journal_audit.specs.declared.auditing.Verdict.TheVariants.{No}
use Rattle.journal_audit.proofs.LineCuts.{last-is}

gets-right : (seen : Seen) (n : ℕ) (line : List ℕ) (lines : List (List ℕ)) (rest : List ℕ) (v : Verdict) → IsRight seen line lines rest → Gets (after line lines seen) (n + 1) lines rest v → Gets seen n (line ∷ lines) rest v
unfolding Gets
gets-right seen n line lines rest v right later = inl (right, later)

gets-wrong : (seen : Seen) (n : ℕ) (line : List ℕ) (lines : List (List ℕ)) (rest : List ℕ) → (IsRight seen line lines rest → ⊥) → Gets seen n (line ∷ lines) rest (No n)
unfolding Gets
gets-wrong seen n line lines rest wrong = inr (wrong, refl)

gets-none : (seen : Seen) (n : ℕ) (rest : List ℕ) → Gets seen n [] rest (at_end (is_done seen.place.part) n)
unfolding Gets
gets-none seen n rest = refl

-- the line isn't right
pub wrong_line : (seen : Seen) (n : ℕ) (cut : Cut) (text line : List ℕ) → cut ≡ with_line line (cut_of text) → (IsRightRead seen (eqb (length text) 0) (line_of line) → ⊥) → Gets seen n cut.lines cut.rest (No n)
wrong_line seen n cut text line e wrong =
    let behind = cut_of text in
    subst (λ (c : Cut). Gets seen n c.lines c.rest (No n)) (sym e)
    (gets-wrong seen n line behind.lines behind.rest
    (λ h. wrong (subst (λ (last : Bool). IsRightRead seen last (line_of line)) (last-is text) h)))

-- the line is right, and those behind it get the verdict
pub right_line : (seen next : Seen) (n : ℕ) (cut : Cut) (text line : List ℕ) (v : Verdict) → cut ≡ with_line line (cut_of text) → IsRightRead seen (eqb (length text) 0) (line_of line) → next ≡ after_read (limit_in (cut_of text).lines) (line_of line) seen → Gets next (n + 1) (cut_of text).lines (cut_of text).rest v → Gets seen n cut.lines cut.rest v
right_line seen next n cut text line v e right told later =
    let behind = cut_of text in
    subst (λ (c : Cut). Gets seen n c.lines c.rest v) (sym e)
    (gets-right seen n line behind.lines behind.rest v
    (subst (λ (last : Bool). IsRightRead seen last (line_of line)) (sym (last-is text)) right)
    (subst (λ (s : Seen). Gets s (n + 1) behind.lines behind.rest v) told later))

-- no line is left
pub no_line_left : (seen : Seen) (n : ℕ) (cut : Cut) (v : Verdict) → cut.lines ≡ [] → v ≡ at_end (is_done seen.place.part) n → Gets seen n cut.lines cut.rest v
no_line_left seen n cut v none is =
    subst (λ (lines : List (List ℕ)). Gets seen n lines cut.rest v) (sym none)
    (subst (λ (w : Verdict). Gets seen n [] cut.rest w) (sym is) (gets-none seen n cut.rest))
