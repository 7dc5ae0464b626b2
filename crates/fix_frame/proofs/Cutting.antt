-- The cut of bytes, piece by piece, and of bytes that come in parts.
use Rattle.std.proofs.Common.{◌≡◌, ℕ, zero, suc, ◌-◌, ◌≤◌, ◌<◌, List, [], ◌∷◌, ◌++◌, length, drop, Some, refl, sym, ap, ◌∙◌, arith, append_assoc, append-nil, length-append, length-drop}
use Rattle.std.proofs.lemmas.List.{drop-append-le}
use Rattle.std.specs.Option.{option_map_or}
use Rattle.fix_frame.specs.Frame.{stretch_of}
use Rattle.fix_frame.specs.Cut.{CutPiece, garbled, Found, Standing, waiting, stray, whole, standing_at, found_in, piece_of, piece_at, Cut, onto, cut_behind, cut, behind, IsCutSoFar}
use Rattle.fix_frame.proofs.Standing.{standing-whole, standing-stray, standing-stays}

-- the cut behind bytes that belong to a piece
pub cut_behind-drop : (limit k : ℕ) (x : List ℕ) → cut_behind limit k x ≡ cut limit (drop k x)
cut_behind-drop limit zero x = refl
cut_behind-drop limit (suc k) [] = refl
cut_behind-drop limit (suc k) (b ∷ x) = cut_behind-drop limit k x

-- bytes that wait are the rest
pub cut-waiting : (limit : ℕ) (x : List ℕ) → standing_at limit x ≡ waiting → cut limit x ≡ record { pieces = []; rest = x }
cut-waiting limit [] e = refl
cut-waiting limit (b ∷ x) e = rw e refl

-- a piece that stands at the beginning is the first, and the cut goes on behind it
pub cut-found : (limit : ℕ) (x : List ℕ) (f : Found) → 0 < length x → 0 < f.size → piece_at limit x ≡ Some f → cut limit x ≡ onto f.piece (cut limit (drop f.size x))
cut-found limit [] f some size e = absurd (omega arith)
cut-found limit (b ∷ x) f some size e =
    let go : option_map_or (λ found. onto found.piece (cut_behind limit (found.size - 1) x)) (piece_at limit (b ∷ x)) (record { pieces = []; rest = b ∷ x })
    ≡ onto f.piece (cut_behind limit (f.size - 1) x) = rw e refl in
    let rest : drop (f.size - 1) x ≡ drop f.size (b ∷ x) = ap (λ (k : ℕ). drop k (b ∷ x)) {x = suc (f.size - 1)} (omega arith) in
    go ∙ ap (λ (c : Cut). onto f.piece c) (cut_behind-drop limit (f.size - 1) x ∙ ap (λ (y : List ℕ). cut limit y) rest)

-- what is found has one byte at least, and lies within the bytes
pub record FitsIn (x : List ℕ) (size : ℕ) : Type 0 where
  pub least : 0 < size
  pub most : size ≤ length x

pub whole_fits : (limit : ℕ) (x f b d : List ℕ) → standing_at limit x ≡ whole f b d → FitsIn x (length (stretch_of f b d))
whole_fits limit x f b d e =
    let p = standing-whole limit x f b d e in
    record { least = omega arith; most = omega (arith, ap length p.text, length-append (stretch_of f b d) p.rest) }

-- what stands at the beginning stays the first piece with more bytes
cut-first : (limit : ℕ) (x more : List ℕ) (f : Found) → 0 < length x → FitsIn x f.size → piece_at limit x ≡ Some f → piece_at limit (x ++ more) ≡ Some f
    → (cut limit x ≡ onto f.piece (cut limit (drop f.size x))) × (cut limit (x ++ more) ≡ onto f.piece (cut limit (drop f.size x ++ more)))
cut-first limit x more f some fits here there = (
  cut-found limit x f some fits.least here,
  cut-found limit (x ++ more) f (omega (arith, length-append x more)) fits.least there ∙ ap (λ (y : List ℕ). onto f.piece (cut limit y)) (drop-append-le f.size x more fits.most),
)

-- two cuts that begin with one piece
step : (limit : ℕ) (x more : List ℕ) (f : Found) → (cut limit x ≡ onto f.piece (cut limit (drop f.size x))) × (cut limit (x ++ more) ≡ onto f.piece (cut limit (drop f.size x ++ more)))
    → cut limit (drop f.size x ++ more) ≡ behind (cut limit (drop f.size x)).pieces (cut limit ((cut limit (drop f.size x)).rest ++ more))
    → cut limit (x ++ more) ≡ behind (cut limit x).pieces (cut limit ((cut limit x).rest ++ more))
step limit x more f both later =
    both.1 ∙ (ap (λ (c : Cut). onto f.piece c) later ∙ ap (λ (c : Cut). behind c.pieces (cut limit (c.rest ++ more))) (sym both.0))

cut-append_by : (limit n : ℕ) (x more : List ℕ) (s : Standing) → length x ≤ n → standing_at limit x ≡ s → cut limit (x ++ more) ≡ behind (cut limit x).pieces (cut limit ((cut limit x).rest ++ more))
cut-append_by limit n [] more s h e = refl
cut-append_by limit zero (b ∷ x) more s h e = absurd (omega arith)
cut-append_by limit (suc n) (b ∷ x) more waiting h e =
    ap (λ (c : Cut). behind c.pieces (cut limit (c.rest ++ more))) (sym (cut-waiting limit (b ∷ x) e))
cut-append_by limit (suc n) (b ∷ x) more stray h e =
    let f : Found = record { piece = garbled 1; size = 1 } in
    let both = cut-first limit (b ∷ x) more f (omega arith) (record { least = omega arith; most = omega arith }) (ap found_in e) (ap found_in (standing-stray limit (b ∷ x) more e)) in
    step limit (b ∷ x) more f both (cut-append_by limit n x more (standing_at limit x) (omega arith) refl)
cut-append_by limit (suc n) (b ∷ x) more (whole g c d) h e =
    let size = length (stretch_of g c d) in
    let f : Found = record { piece = piece_of g c d; size = size } in
    let fits = whole_fits limit (b ∷ x) g c d e in
    let both = cut-first limit (b ∷ x) more f (omega arith) fits (ap found_in e) (ap found_in (standing-stays limit (b ∷ x) more g c d e)) in
    let rest = drop size (b ∷ x) in
    step limit (b ∷ x) more f both (cut-append_by limit n rest more (standing_at limit rest) (omega (arith, length-drop size (b ∷ x), fits.least, fits.most)) refl)

-- the pieces of a prefix are a prefix of the pieces, and the cut goes on with the rest of the prefix
pub cut-append : (limit : ℕ) (x more : List ℕ) → cut limit (x ++ more) ≡ behind (cut limit x).pieces (cut limit ((cut limit x).rest ++ more))
cut-append limit x more = cut-append_by limit (length x) x more (standing_at limit x) (omega arith) refl

-- ---- what was given so far

-- what was given to bytes that end in a rest goes on with more bytes
pub so_far-feed : (limit : ℕ) (text : List ℕ) (given : List CutPiece) (held more : List ℕ) → IsCutSoFar limit text given held → IsCutSoFar limit (text ++ more) given (held ++ more)
so_far-feed limit text given held more h =
    let tail : Cut = cut limit ((cut limit held).rest ++ more) in
    let whole_text : cut limit (text ++ more) ≡ behind (given ++ (cut limit held).pieces) tail =
    cut-append limit text more ∙ ap (λ (c : Cut). behind c.pieces (cut limit (c.rest ++ more))) h.so_far in
    let whole_held : behind given (cut limit (held ++ more)) ≡ behind given (behind (cut limit held).pieces tail) =
    ap (λ (c : Cut). behind given c) (cut-append limit held more) in
    let regroup : behind (given ++ (cut limit held).pieces) tail ≡ behind given (behind (cut limit held).pieces tail) =
    ap (λ (ps : List CutPiece). record { pieces = ps; rest = tail.rest }) (append_assoc given (cut limit held).pieces tail.pieces) in
    record { so_far = whole_text ∙ (regroup ∙ sym whole_held) }

pub so_far-take : (limit : ℕ) (text : List ℕ) (given : List CutPiece) (held : List ℕ) (piece : CutPiece) (left : List ℕ) → cut limit held ≡ onto piece (cut limit left)
    → IsCutSoFar limit text given held → IsCutSoFar limit text (given ++ piece ∷ []) left
so_far-take limit text given held piece left e h =
    let later : Cut = cut limit left in
    record {
      so_far = h.so_far ∙ (ap (λ (c : Cut). behind given c) e ∙ ap (λ (ps : List CutPiece). record { pieces = ps; rest = later.rest }) (sym (append_assoc given (piece ∷ []) later.pieces)));
    }

-- where what is held has no piece, all pieces were given
pub so_far-all : (limit : ℕ) (text : List ℕ) (given : List CutPiece) (held : List ℕ) → (cut limit held).pieces ≡ [] → IsCutSoFar limit text given held → (cut limit text).pieces ≡ given
so_far-all limit text given held e h =
    ap (λ (c : Cut). c.pieces) h.so_far ∙ (ap (λ (ps : List CutPiece). given ++ ps) e ∙ append-nil given)

pub so_far-start : (limit : ℕ) → IsCutSoFar limit [] [] []
so_far-start limit = record { so_far = refl }
