-- What stands at the beginning of bytes, in the words of frames.
use Rattle.std.proofs.Common.{◌≡◌, ℕ, ◌+◌, ◌≤◌, ◌<◌, Bool, cond, eqb, List, [], ◌++◌, length, drop, Option, Some, None, refl, sym, ap, ap₂, ◌∙◌, subst, arith, inl, inr, ◌⊎◌, length-append, drop_at, eqb-true, eq-eqb, ne_eqb}
use Rattle.std.proofs.lemmas.Bool.{eqb-false}
use Rattle.fix_frame.specs.Frame.{number_of, checksum, stretch_of, IsFrame, BeginsFrame, BeginsMissummed, IsProperPrefix, IsStray}
use Rattle.fix_frame.specs.Cut.{CutPiece, good, garbled, Found, Standing, waiting, stray, whole, standing_at, found_in, piece_of, piece_at, onto, cut}
use Rattle.fix_frame.proofs.Standing.{chosen, length-stretch, standing-shaped, standing-whole, standing-waiting, standing-prefix}
use Rattle.fix_frame.proofs.Cutting.{FitsIn, cut-waiting, cut-found, whole_fits}
use Rattle.fix_frame.proofs.Nexts.{some_stray}

some_is : (f g : Found) → Some f ≡ Some g → f ≡ g
some_is f g e = cc

found : (p q : CutPiece) (m n : ℕ) → ◌≡◌ {A = Option Found} (Some (record { piece = p; size = m })) (Some (record { piece = q; size = n })) → (p ≡ q) × (m ≡ n)
found p q m n e =
    let same = some_is (record { piece = p; size = m }) (record { piece = q; size = n }) e in
    (ap (λ (f : Found). f.piece) same, ap (λ (f : Found). f.size) same)

garbled_good : {A : Type 0} (n : ℕ) (b : List ℕ) → garbled n ≡ good b → A
garbled_good n b e = absurd cc

good_is : (b c : List ℕ) → good b ≡ good c → b ≡ c
good_is b c e = cc

garbled_is : (m n : ℕ) → garbled m ≡ garbled n → m ≡ n
garbled_is m n e = cc

-- ---- a piece is good where a frame begins

good-by : (limit : ℕ) (bytes body : List ℕ) (size : ℕ) (s : Standing) → standing_at limit bytes ≡ s → found_in s ≡ Some (record { piece = good body; size = size }) → BeginsFrame limit bytes body size
good-by limit bytes body size waiting e h = absurd cc
good-by limit bytes body size stray e h = garbled_good 1 body (found (garbled 1) (good body) 1 size h).0
good-by limit bytes body size (whole f b d) e h =
    let p = found (piece_of f b d) (good body) (length (stretch_of f b d)) size h in
    let w = standing-whole limit bytes f b d e in
    elim (chosen (eqb (number_of d) (checksum f b)) (good b) (garbled (length (stretch_of f b d))) (good body) p.0) [
      | inl right ↦
          subst (λ (x : List ℕ). BeginsFrame limit bytes x size) (good_is b body right.1)
          (record {
            frame = stretch_of f b d;
            rest = w.rest;
            is_frame = record { field = f; digits = d; shaped = w.shaped; right = eqb-true _ _ right.0 };
            text = w.text;
            long = sym p.1;
          })
      | inr wrong ↦ garbled_good (length (stretch_of f b d)) body wrong.1
    ]

pub good-frame : (limit : ℕ) (bytes body : List ℕ) (size : ℕ) → piece_at limit bytes ≡ Some (record { piece = good body; size = size }) → BeginsFrame limit bytes body size
good-frame limit bytes body size h = good-by limit bytes body size (standing_at limit bytes) refl h

right_piece : (f b d : List ℕ) → number_of d ≡ checksum f b → piece_of f b d ≡ good b
right_piece f b d e = ap (λ (t : Bool). cond t (good b) (garbled (length (stretch_of f b d)))) (eq-eqb _ _ e)

wrong_piece : (f b d : List ℕ) → (number_of d ≡ checksum f b → ⊥) → piece_of f b d ≡ garbled (length (stretch_of f b d))
wrong_piece f b d e = ap (λ (t : Bool). cond t (good b) (garbled (length (stretch_of f b d)))) (ne_eqb _ _ e)

pub frame-good : (limit : ℕ) (bytes body : List ℕ) (size : ℕ) → BeginsFrame limit bytes body size → piece_at limit bytes ≡ Some (record { piece = good body; size = size })
frame-good limit bytes body size h =
    let f = h.is_frame.field in
    let d = h.is_frame.digits in
    let stands : standing_at limit bytes ≡ whole f body d = ap (standing_at limit) h.text ∙ standing-shaped limit h.frame f body d h.rest h.is_frame.shaped in
    let long : length (stretch_of f body d) ≡ size = sym (h.long ∙ ap length h.is_frame.shaped.whole) in
    ap found_in stands ∙ ap₂ (λ (p : CutPiece) (n : ℕ). Some (record { piece = p; size = n })) (right_piece f body d h.is_frame.right) long

-- ---- a whole stretch is garbled where its checksum is wrong

missummed-by : (limit : ℕ) (bytes : List ℕ) (size : ℕ) (s : Standing) → 1 < size → standing_at limit bytes ≡ s → found_in s ≡ Some (record { piece = garbled size; size = size }) → BeginsMissummed limit bytes size
missummed-by limit bytes size waiting more e h = absurd cc
missummed-by limit bytes size stray more e h =
    let one : 1 ≡ size = (found (garbled 1) (garbled size) 1 size h).1 in
    absurd (omega arith)
missummed-by limit bytes size (whole f b d) more e h =
    let p = found (piece_of f b d) (garbled size) (length (stretch_of f b d)) size h in
    let w = standing-whole limit bytes f b d e in
    elim (chosen (eqb (number_of d) (checksum f b)) (good b) (garbled (length (stretch_of f b d))) (garbled size) p.0) [
      | inl right ↦ garbled_good size b (sym right.1)
      | inr wrong ↦
          record {
            stretch = stretch_of f b d;
            rest = w.rest;
            is_missummed = record { field = f; body = b; digits = d; shaped = w.shaped; wrong = eqb-false _ _ wrong.0 };
            text = w.text;
            long = sym p.1;
          }
    ]

pub garbled-missummed : (limit : ℕ) (bytes : List ℕ) (size : ℕ) → 1 < size → piece_at limit bytes ≡ Some (record { piece = garbled size; size = size }) → BeginsMissummed limit bytes size
garbled-missummed limit bytes size more h = missummed-by limit bytes size (standing_at limit bytes) more refl h

pub missummed-garbled : (limit : ℕ) (bytes : List ℕ) (size : ℕ) → BeginsMissummed limit bytes size → piece_at limit bytes ≡ Some (record { piece = garbled size; size = size })
missummed-garbled limit bytes size h =
    let f = h.is_missummed.field in
    let b = h.is_missummed.body in
    let d = h.is_missummed.digits in
    let stands : standing_at limit bytes ≡ whole f b d = ap (standing_at limit) h.text ∙ standing-shaped limit h.stretch f b d h.rest h.is_missummed.shaped in
    let long : length (stretch_of f b d) ≡ size = sym (h.long ∙ ap length h.is_missummed.shaped.whole) in
    ap found_in stands ∙ ap₂ (λ (p : CutPiece) (n : ℕ). Some (record { piece = p; size = n })) (wrong_piece f b d h.is_missummed.wrong ∙ ap garbled long) long

-- ---- the rest is a proper prefix

rest-by : (limit : ℕ) (bytes : List ℕ) (s : Standing) → standing_at limit bytes ≡ s → found_in s ≡ None → IsProperPrefix limit bytes
rest-by limit bytes waiting e h = standing-waiting limit bytes e
rest-by limit bytes stray e h = absurd cc
rest-by limit bytes (whole f b d) e h = absurd cc

pub rest-prefix : (limit : ℕ) (bytes : List ℕ) → piece_at limit bytes ≡ None → IsProperPrefix limit bytes
rest-prefix limit bytes h = rest-by limit bytes (standing_at limit bytes) refl h

pub prefix-rest : (limit : ℕ) (bytes : List ℕ) → IsProperPrefix limit bytes → piece_at limit bytes ≡ None
prefix-rest limit bytes h = ap found_in (standing-prefix limit bytes h.more h.field h.body h.digits h.shaped h.some)

-- ---- and else one byte is garbled

none_some : (o : Option Found) (f : Found) → o ≡ None → o ≡ Some f → ⊥
none_some o f e h = cc

pub garbled-stray : (limit : ℕ) (bytes : List ℕ) → piece_at limit bytes ≡ Some (record { piece = garbled 1; size = 1 }) → IsStray limit bytes
garbled-stray limit bytes h =
    record {
      no_frame = λ body size k.
          garbled_good 1 body (sym (found (good body) (garbled 1) size 1 (sym (frame-good limit bytes body size k) ∙ h)).0);
      no_missummed = λ size k.
          let one : size ≡ 1 = (found (garbled size) (garbled 1) size 1 (sym (missummed-garbled limit bytes size k) ∙ h)).1 in
          let s = k.is_missummed in
          let long : size ≡ 20 + length s.field + length s.body = k.long ∙ (ap length s.shaped.whole ∙ length-stretch s.field s.body s.digits s.shaped.check_field.three) in
          absurd (omega arith);
      no_prefix = λ k. none_some (piece_at limit bytes) (record { piece = garbled 1; size = 1 }) (prefix-rest limit bytes k) h;
    }

whole_begins : (limit : ℕ) (bytes f b d : List ℕ) → standing_at limit bytes ≡ whole f b d
    → BeginsFrame limit bytes b (length (stretch_of f b d)) ⊎ BeginsMissummed limit bytes (length (stretch_of f b d))
whole_begins limit bytes f b d e =
    let w = standing-whole limit bytes f b d e in
    elim (chosen (eqb (number_of d) (checksum f b)) (good b) (garbled (length (stretch_of f b d))) (piece_of f b d) refl) [
      | inl right ↦
          inl (record { frame = stretch_of f b d; rest = w.rest; is_frame = record { field = f; digits = d; shaped = w.shaped; right = eqb-true _ _ right.0 }; text = w.text; long = refl })
      | inr wrong ↦
          inr (record { stretch = stretch_of f b d; rest = w.rest; is_missummed = record { field = f; body = b; digits = d; shaped = w.shaped; wrong = eqb-false _ _ wrong.0 }; text = w.text; long = refl })
    ]

stray-by : (limit : ℕ) (bytes : List ℕ) (s : Standing) → standing_at limit bytes ≡ s → IsStray limit bytes → found_in s ≡ Some (record { piece = garbled 1; size = 1 })
stray-by limit bytes waiting e h = absurd (h.no_prefix (standing-waiting limit bytes e))
stray-by limit bytes stray e h = refl
stray-by limit bytes (whole f b d) e h =
    elim (whole_begins limit bytes f b d e) [
      | inl frame ↦ absurd (h.no_frame b (length (stretch_of f b d)) frame)
      | inr missummed ↦ absurd (h.no_missummed (length (stretch_of f b d)) missummed)
    ]

pub stray-garbled : (limit : ℕ) (bytes : List ℕ) → IsStray limit bytes → piece_at limit bytes ≡ Some (record { piece = garbled 1; size = 1 })
stray-garbled limit bytes h = stray-by limit bytes (standing_at limit bytes) refl h

-- ---- the cut goes on behind each piece

size-by : (limit : ℕ) (bytes : List ℕ) (f : Found) (s : Standing) → 32 ≤ limit → standing_at limit bytes ≡ s → found_in s ≡ Some f → FitsIn bytes f.size
size-by limit bytes f waiting least e h = absurd cc
size-by limit bytes f stray least e h =
    let some = some_stray limit bytes least e in
    let one : 1 ≡ f.size = (found (garbled 1) f.piece 1 f.size h).1 in
    record { least = omega arith; most = omega arith }
size-by limit bytes f (whole g b d) least e h =
    let fits = whole_fits limit bytes g b d e in
    let long : length (stretch_of g b d) ≡ f.size = (found (piece_of g b d) f.piece (length (stretch_of g b d)) f.size h).1 in
    record { least = omega (arith, fits.least, long); most = omega (arith, fits.most, long) }

pub found_fits : (limit : ℕ) (bytes : List ℕ) (f : Found) → 32 ≤ limit → piece_at limit bytes ≡ Some f → FitsIn bytes f.size
found_fits limit bytes f least h = size-by limit bytes f (standing_at limit bytes) least refl h

pub found_cut : (limit : ℕ) (bytes : List ℕ) (f : Found) → 32 ≤ limit → piece_at limit bytes ≡ Some f → cut limit bytes ≡ onto f.piece (cut limit (drop f.size bytes))
found_cut limit bytes f least h =
    let fits = found_fits limit bytes f least h in
    cut-found limit bytes f (omega (arith, fits.least, fits.most)) fits.least h

rest_cut-by : (limit : ℕ) (bytes : List ℕ) (s : Standing) → standing_at limit bytes ≡ s → found_in s ≡ None → cut limit bytes ≡ record { pieces = []; rest = bytes }
rest_cut-by limit bytes waiting e h = cut-waiting limit bytes e
rest_cut-by limit bytes stray e h = absurd cc
rest_cut-by limit bytes (whole f b d) e h = absurd cc

pub rest_cut : (limit : ℕ) (bytes : List ℕ) → piece_at limit bytes ≡ None → cut limit bytes ≡ record { pieces = []; rest = bytes }
rest_cut limit bytes h = rest_cut-by limit bytes (standing_at limit bytes) refl h

-- ---- frames

pub frame-cut : (limit : ℕ) (frame body more : List ℕ) → IsFrame limit frame body → cut limit (frame ++ more) ≡ onto (good body) (cut limit more)
frame-cut limit frame body more h =
    let begins : BeginsFrame limit (frame ++ more) body (length frame) = record { frame = frame; rest = more; is_frame = h; text = refl; long = refl } in
    let here = frame-good limit (frame ++ more) body (length frame) begins in
    let long : length frame ≡ 20 + length h.field + length body = ap length h.shaped.whole ∙ length-stretch h.field body h.digits h.shaped.check_field.three in
    cut-found limit (frame ++ more) (record { piece = good body; size = length frame }) (omega (arith, length-append frame more)) (omega arith) here
    ∙ ap (λ (x : List ℕ). onto (good body) (cut limit x)) (drop_at frame more (length frame) refl)

pub one_body : (limit : ℕ) (frame b c : List ℕ) → IsFrame limit frame b → IsFrame limit frame c → b ≡ c
one_body limit frame b c h k =
    let e : whole h.field b h.digits ≡ whole k.field c k.digits = sym (standing-shaped limit frame h.field b h.digits [] h.shaped) ∙ standing-shaped limit frame k.field c k.digits [] k.shaped in
    body_is h.field b h.digits k.field c k.digits e
  where
    body_is : (f b d f' b' d' : List ℕ) → whole f b d ≡ whole f' b' d' → b ≡ b'
    body_is f b d f' b' d' e = cc
