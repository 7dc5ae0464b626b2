use Rattle.std.proofs.Common.{◌≡◌, ℕ, length, drop, refl, sym, subst, ap, ◌∙◌, arith, Some, length-take}
use Rattle.fix_frame.specs.Store.{Store}
use Rattle.fix_frame.specs.Frame.{stretch_of}
use Rattle.fix_frame.specs.Cut.{waiting, stray, standing_at, CutPiece, IsPiece, garbled, piece_of}
use Rattle.fix_frame.specs.Cutting.{lent_piece}
use Rattle.fix_frame.specs.Look.{IsStretch, IsStretchText}
use Rattle.fix_frame.proofs.Nexts.{none_after, none_piece, none_cut, none_room, some_stray, stray_stands, whole_stands, some_piece, some_cut, some_after, is_piece, quiet-now}
use Rattle.fix_frame.proofs.cutter.Cutter.next.Goals as goal

pub returns-then-len-self : goal.returns-then-len-self
returns-then-len-self c =
    let s = c.self.inside in
    let e : standing_at s.limit s.ring.bytes ≡ waiting = quiet-now s.limit s.ring.bytes s.quiet c.self.invariant.quiet (omega (arith, ap length c.held-held.ensures)) in
    rw (← c.self.view_is) (
      (refl, λ _. tt, none_after s.limit s.ring.bytes e),
      record {
        piece = none_piece s.limit s.ring.bytes e;
        none = (λ _. none_cut s.limit s.ring.bytes e, λ _. refl);
        room = none_room s.limit s.ring.bytes e;
        lawful = tt;
        after_loan = tt;
      },
    )

pub skip-requires : goal.skip-requires
skip-requires c =
    let s = c.self.inside in
    some_stray s.limit s.ring.bytes c.self.invariant.least (rw c.held-held.ensures at c.in-Stray.ensures)

pub returns-in-Rest : goal.returns-in-Rest
returns-in-Rest c =
    let s = c.self.inside in
    let e : standing_at s.limit s.ring.bytes ≡ waiting = rw c.held-held.ensures at c.in-Rest.ensures.0 in
    rw (← c.self.view_is) (
      (refl, λ _. tt, none_after s.limit s.ring.bytes e),
      record {
        piece = none_piece s.limit s.ring.bytes e;
        none = (λ _. none_cut s.limit s.ring.bytes e, λ _. refl);
        room = none_room s.limit s.ring.bytes e;
        lawful = tt;
        after_loan = tt;
      },
    )

pub returns-in-Stray : goal.returns-in-Stray
returns-in-Stray c =
    let s = c.self.inside in
    let e : standing_at s.limit s.ring.bytes ≡ stray = rw c.held-held.ensures at c.in-Stray.ensures in
    let h = stray_stands s.limit s.ring.bytes c.self.invariant.least e in
    rw (← c.self.view_is, c.skip.ensures) (
      (refl, λ _. tt, some_after s.limit s.ring.bytes (garbled 1) 1 _ (drop 1 s.ring.bytes) h refl refl),
      record {
        piece = some_piece s.limit s.ring.bytes (garbled 1) 1 h;
        none = (λ e. absurd cc, some_cut s.limit s.ring.bytes (garbled 1) 1 h);
        room = tt;
        lawful = is_piece s.limit s.ring.bytes (garbled 1) 1 h;
        after_loan = tt;
      },
    )

pub returns-in-Shaped : goal.returns-in-Shaped
returns-in-Shaped c =
    let s = c.self.inside in
    let p : IsStretch s.limit s.ring.bytes c.in-Shaped.body c.in-Shaped.length = rw c.held-held.ensures at c.in-Shaped.ensures in
    let h = whole_stands s.limit s.ring.bytes p.field p.body p.digits p.stands in
    let text : IsStretchText c.take.result.now c.in-Shaped.body p.field p.body p.digits = record { whole = c.take.ensures.value ∙ p.text; place = p.place; check_field = p.check_field } in
    let given : lent_piece c.piece_of.result ≡ piece_of p.field p.body p.digits = c.piece_of.ensures p.field p.body p.digits text in
    let size : c.in-Shaped.length ≡ length (stretch_of p.field p.body p.digits) = omega (arith, ap length p.text, length-take c.in-Shaped.length s.ring.bytes, p.within) in
    let left : c.take.follows.lender-at-none.bytes ≡ drop (length (stretch_of p.field p.body p.digits)) s.ring.bytes =
    ap (λ (r : Store). r.bytes) c.take.follows.holds-at-none ∙ ap (λ (i : ℕ). drop i s.ring.bytes) size in
    let piece = piece_of p.field p.body p.digits in
    let stretch = length (stretch_of p.field p.body p.digits) in
    rw (← c.self.view_is) (
      (refl, λ _. tt, some_after s.limit s.ring.bytes piece stretch c.piece_of.result c.take.follows.lender-at-none.bytes h given left),
      record {
        piece = ap (λ (q : CutPiece). Some q) given ∙ some_piece s.limit s.ring.bytes piece stretch h;
        none = (λ e. absurd cc, some_cut s.limit s.ring.bytes piece stretch h);
        room = tt;
        lawful = subst (IsPiece s.limit) (sym given) (is_piece s.limit s.ring.bytes piece stretch h);
        after_loan = tt;
      },
    )
