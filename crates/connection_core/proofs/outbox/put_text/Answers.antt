-- the frame of an item's body isn't too long
use Rattle.std.proofs.Common.{◌∙◌, ◌≤◌, Err, ap, arith, List, ℕ, length, subst, sym}
use Rattle.fix_frame.specs.Frame.{IsBody, frame_of}
use Rattle.connection_core.proofs.outbox.put_text.Goals as goal

pub unreachable-requires : goal.unreachable-requires
unreachable-requires c =
    let body = c.deref.result.now in
    let fits : IsBody body × (length (frame_of body) ≤ 65_536) =
    subst (λ (bytes : List ℕ). IsBody bytes × (length (frame_of bytes) ≤ 65_536)) (sym c.deref.ensures.value) (c.in_ok-fill_wire_body.ensures.frame c.requires.short c.requires.fit) in
    let long = (c.put_frame.ensures.too_long c.in-Err-TooLong.field-0-0).0 (c.in-Err-TooLong.is ∙ ap (λ fault. Err fault) c.in-Err-TooLong.field-0-is) in
    omega (arith, fits.1, long.0, long.1)
