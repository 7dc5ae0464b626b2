use Rattle.std.proofs.Common.{◌≡◌, ℕ, ◌≤◌, List, length, take, refl, ap, subst, ◌∙◌, arith}
use Rattle.std.proofs.lemmas.List.{length-take}
use Rattle.connection_core.specs.Connection.{ConnectionState}
use Rattle.connection_core.specs.Outgoing.{waiting_text}
use Rattle.connection_core.specs.declared.limits.TheConstants.{MOST_WRITTEN}
use Rattle.switchboard.specs.Happenings.{writes}
use Rattle.session_speed.proofs.market.wrote.Goals as goal

within : (n : ℕ) (xs ys : List ℕ) → xs ≡ take n ys → length xs ≤ length ys
within n xs ys is = let long = ap (λ l. length l) is ∙ length-take n ys in omega arith

pub wrote-requires-clause-within : goal.wrote-requires-clause-within
wrote-requires-clause-within c =
    let text = c.waiting-n.result.now in
    subst (λ (x : ConnectionState). length text ≤ length (waiting_text x.out.outgoing)) c.connection.ensures (within MOST_WRITTEN text (waiting_text c.connection.result.now.out.outgoing) c.waiting-n.ensures)

pub returns : goal.returns
returns c = record { market = c.markets_stay_open.ensures.stays (writes 0 (length c.waiting-n.result.now)) c.args.board.now c.wrote.new.self refl c.wrote.ensures.happens c.requires.market }
