-- What a cutter gives next, and what it holds then.
use Rattle.std.proofs.Common.{◌≡◌, ℕ, ◌+◌, ◌-◌, ◌≤◌, ◌<◌, true, false, eqb, inl, inr, subst, List, [], ◌∷◌, ◌++◌, length, drop, Option, Some, None, option_map, refl, sym, ap, ◌∙◌, arith, length-append, length-drop, append_assoc, append-nil}
use Rattle.fix_frame.specs.declared.cutter.Piece.{Piece}
use Rattle.fix_frame.specs.Frame.{number_of, checksum, stretch_of, IsBody}
use Rattle.fix_frame.specs.Cut.{CutPiece, good, garbled, Found, Standing, waiting, stray, whole, standing_at, behind_start, behind_field, found_in, piece_of, piece_at, Cut, onto, cut, IsPiece, TakesPiece}
use Rattle.fix_frame.specs.Cutting.{lent_piece}
use Rattle.fix_frame.specs.Loans.{IsAfterNext}
use Rattle.fix_frame.specs.Look.{IsQuiet}
use Rattle.fix_frame.proofs.Digits.{one_more, fits_from}
use Rattle.fix_frame.proofs.Standing.{chosen, length-stretch, standing-whole, standing-waiting}
use Rattle.fix_frame.proofs.Cutting.{cut-waiting, cut-found, so_far-take, so_far-all, whole_fits}

-- nothing at all waits
pub nothing_waits : (limit : ℕ) → 32 ≤ limit → standing_at limit [] ≡ waiting
unfolding standing_at behind_start behind_field
nothing_waits limit least = rw (one_more limit 0 0 4 (omega arith) (fits_from limit 1 4 (omega arith) (omega arith) (omega arith) (omega arith))) refl

-- ---- where nothing stands yet

pub none_after : (limit : ℕ) (bytes : List ℕ) → standing_at limit bytes ≡ waiting → IsAfterNext (record { limit = limit; held = bytes }) None (record { limit = limit; held = bytes })
none_after limit bytes e =
    record { limit = refl; held = refl; so_far = λ text before h. so_far-all limit text before bytes (ap (λ (c : Cut). c.pieces) (cut-waiting limit bytes e)) h }

pub none_piece : (limit : ℕ) (bytes : List ℕ) → standing_at limit bytes ≡ waiting → None ≡ option_map (λ (f : Found). f.piece) (piece_at limit bytes)
none_piece limit bytes e = sym (ap (λ (s : Standing). option_map (λ (f : Found). f.piece) (found_in s)) e)

pub none_cut : (limit : ℕ) (bytes : List ℕ) → standing_at limit bytes ≡ waiting → (cut limit bytes).pieces ≡ []
none_cut limit bytes e = ap (λ (c : Cut). c.pieces) (cut-waiting limit bytes e)

pub none_room : (limit : ℕ) (bytes : List ℕ) → standing_at limit bytes ≡ waiting → 4096 ≤ limit + 4096 - length bytes
none_room limit bytes e =
    let w = standing-waiting limit bytes e in
    omega (arith, w.shaped.short, w.some, length-append bytes w.more)

-- ---- where a piece stands

some_by : (limit : ℕ) (bytes : List ℕ) (s : Standing) → 32 ≤ limit → standing_at limit bytes ≡ s → (s ≡ waiting → ⊥) → 0 < length bytes
some_by limit [] s least e other = absurd (other (sym e ∙ nothing_waits limit least))
some_by limit (b ∷ bytes) s least e other = omega arith

pub some_stray : (limit : ℕ) (bytes : List ℕ) → 32 ≤ limit → standing_at limit bytes ≡ stray → 0 < length bytes
some_stray limit bytes least e = some_by limit bytes stray least e (λ f. cc)

-- a piece and its size, among the bytes
pub record Stands (limit : ℕ) (bytes : List ℕ) (piece : CutPiece) (size : ℕ) : Type 0 where
  pub here : piece_at limit bytes ≡ Some (record { piece = piece; size = size })
  pub least : 0 < size
  pub most : size ≤ limit
  pub within : size ≤ length bytes
  pub garbled_size : (n : ℕ) → piece ≡ garbled n → n ≡ size
  pub good_body : (body : List ℕ) → piece ≡ good body → IsBody body × (length body < size)

garbled_good : {A : Type 0} (n : ℕ) (b : List ℕ) → garbled n ≡ good b → A
garbled_good n b e = absurd cc

pub stray_stands : (limit : ℕ) (bytes : List ℕ) → 32 ≤ limit → standing_at limit bytes ≡ stray → Stands limit bytes (garbled 1) 1
stray_stands limit bytes least e =
    record {
      here = ap found_in e;
      least = omega arith;
      most = omega arith;
      within = some_stray limit bytes least e;
      garbled_size = λ n same. cc;
      good_body = λ body same. garbled_good 1 body same;
    }

pub whole_stands : (limit : ℕ) (bytes f b d : List ℕ) → standing_at limit bytes ≡ whole f b d → Stands limit bytes (piece_of f b d) (length (stretch_of f b d))
whole_stands limit bytes f b d e =
    let fits = whole_fits limit bytes f b d e in
    let w = standing-whole limit bytes f b d e in
    let size = length (stretch_of f b d) in
    let right = eqb (number_of d) (checksum f b) in
    record {
      here = ap found_in e;
      least = fits.least;
      most = w.shaped.short;
      within = fits.most;
      garbled_size = λ n same.
          elim (chosen right (good b) (garbled size) (garbled n) same) [ inl other ↦ garbled_good n b (sym other.1) | inr this ↦ is_size n size this.1 ];
      good_body = λ body same.
          elim (chosen right (good b) (garbled size) (good body) same) [
            | inl this ↦
                let is : b ≡ body = is_body b body this.1 in
                (subst IsBody is w.shaped.is_body, omega (arith, ap length is, length-stretch f b d w.shaped.check_field.three))
            | inr other ↦ garbled_good size body other.1
          ];
    }
  where
    is_size : (n size : ℕ) → garbled size ≡ garbled n → n ≡ size
    is_size n size e = cc

    is_body : (b c : List ℕ) → good b ≡ good c → b ≡ c
    is_body b c e = cc

pub stands_cut : (limit : ℕ) (bytes : List ℕ) (piece : CutPiece) (size : ℕ) → Stands limit bytes piece size → cut limit bytes ≡ onto piece (cut limit (drop size bytes))
stands_cut limit bytes piece size h = cut-found limit bytes (record { piece = piece; size = size }) (omega (arith, h.least, h.within)) h.least h.here

pub some_piece : (limit : ℕ) (bytes : List ℕ) (piece : CutPiece) (size : ℕ) → Stands limit bytes piece size → Some piece ≡ option_map (λ (f : Found). f.piece) (piece_at limit bytes)
some_piece limit bytes piece size h = sym (ap (λ (o : Option Found). option_map (λ (f : Found). f.piece) o) h.here)

pub some_cut : (limit : ℕ) (bytes : List ℕ) (piece : CutPiece) (size : ℕ) → Stands limit bytes piece size → (cut limit bytes).pieces ≡ [] → true ≡ false
some_cut limit bytes piece size h none =
    let e : piece ∷ (cut limit (drop size bytes)).pieces ≡ [] = sym (ap (λ (c : Cut). c.pieces) (stands_cut limit bytes piece size h)) ∙ none in
    absurd cc

pub is_piece : (limit : ℕ) (bytes : List ℕ) (piece : CutPiece) (size : ℕ) → Stands limit bytes piece size → IsPiece limit piece
is_piece limit bytes (good body) size h =
    let p = h.good_body body refl in
    (p.0, omega (arith, p.1, h.most))
is_piece limit bytes (garbled n) size h =
    let e : n ≡ size = h.garbled_size n refl in
    (omega (arith, h.least), omega (arith, h.most))

pub some_takes : (limit : ℕ) (bytes : List ℕ) (piece : CutPiece) (size : ℕ) (given : CutPiece) (left : List ℕ) → Stands limit bytes piece size → given ≡ piece → left ≡ drop size bytes
    → TakesPiece limit bytes given left
some_takes limit bytes piece size given left h is e =
    record {
      size = size;
      found = h.here ∙ ap (λ (p : CutPiece). Some (record { piece = p; size = size })) (sym is);
      left = e;
      goes_on = stands_cut limit bytes piece size h ∙ (ap (λ (x : List ℕ). onto piece (cut limit x)) (sym e) ∙ ap (λ (p : CutPiece). onto p (cut limit left)) (sym is));
      least = h.least;
      most = h.most;
      adds_up = omega (arith, ap length e, length-drop size bytes, h.within);
      garbled_size = λ n same. h.garbled_size n (sym is ∙ same);
      good_body = λ body same. h.good_body body (sym is ∙ same);
    }

pub some_after : (limit : ℕ) (bytes : List ℕ) (piece : CutPiece) (size : ℕ) (given : Piece) (left : List ℕ) → Stands limit bytes piece size → lent_piece given ≡ piece → left ≡ drop size bytes
    → IsAfterNext (record { limit = limit; held = bytes }) (Some given) (record { limit = limit; held = left })
some_after limit bytes piece size given left h is e =
    let takes = some_takes limit bytes piece size (lent_piece given) left h is e in
    record { limit = refl; held = takes; so_far = λ text before k. so_far-take limit text before bytes (lent_piece given) left takes.goes_on k }

-- ---- what is known before bytes come

pub quiet-feed : (limit : ℕ) (bytes piece : List ℕ) (quiet : ℕ) → IsQuiet limit bytes quiet → IsQuiet limit (bytes ++ piece) quiet
quiet-feed limit bytes piece quiet h more short =
    ap (standing_at limit) (append_assoc bytes piece more) ∙ h (piece ++ more) (omega (arith, length-append bytes piece, length-append piece more))

pub quiet-now : (limit : ℕ) (bytes : List ℕ) (quiet : ℕ) → IsQuiet limit bytes quiet → length bytes < quiet → standing_at limit bytes ≡ waiting
quiet-now limit bytes quiet h short = ap (standing_at limit) (sym (append-nil bytes)) ∙ h [] (omega arith)
