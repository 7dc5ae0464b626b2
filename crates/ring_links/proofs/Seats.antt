-- What the other seats know stays so at each step.
use Rattle.std.proofs.Common.{◌≡◌, ◌≢◌, ℕ, ◌≤◌, List, ◌++◌, length, set, true, false, true≢false, sym, ◌∙◌, subst, ⊎_elim, le_trans, arith, length-append}
use mathlib.Core.Option.{some}
use lib.ListN.{get_elem?}
use Rattle.atomic_table.proofs.Lists.{at_set}
use Rattle.ring_links.specs.declared.view.Pushing.{Pushing}
use Rattle.ring_links.specs.declared.view.Popping.{Popping}
use Rattle.ring_links.specs.declared.view.View.{View}
use Rattle.ring_links.specs.Order.{TailKnows, HeadKnows, Knows, tail_view, head_view}
use Rattle.ring_links.proofs.Lists.{longer_prefix}

pub off : {P : Type 0} → false ≡ true → P
off e = absurd (true≢false (sym e))

module _ {T : Type 0} where
  abbrev pub Seats : List T → ℕ → ℕ → ℕ → ℕ → ℕ → List (View T) → Type 0
  Seats log taken filling emptying tail head views = (j : ℕ) (v : View T) → get_elem? views j ≡ some v → Knows log taken filling emptying tail head j v

  -- one seat's view is set
  pub seats_set : (log : List T) (taken filling emptying tail head : ℕ) (views : List (View T)) (me : ℕ) (w : View T) → Knows log taken filling emptying tail head me w
      → ((j : ℕ) (v : View T) → j ≢ me → get_elem? views j ≡ some v → Knows log taken filling emptying tail head j v) → Seats log taken filling emptying tail head (set views me w)
  seats_set log taken filling emptying tail head views me w mine others j v e =
      ⊎_elim
      (λ (x : (j ≡ me) × (w ≡ v)). subst (λ (y : ℕ × View T). Knows log taken filling emptying tail head y.0 y.1) (λ i. (sym x.0 i, x.1 i)) mine)
      (λ (x : (j ≢ me) × (get_elem? views j ≡ some v)). others j v x.0 x.1)
      (at_set views me j w v e)

  head_longer : (log more : List T) (taken emptying head j : ℕ) (h : Popping T) → HeadKnows log taken emptying head j h → HeadKnows (log ++ more) taken emptying head j h
  head_longer log more taken emptying head j h k = let l : h.pushed ≤ length log = k.loaded in record {
    here = k.here;
    begins = longer_prefix (h.items ++ h.told) log more k.begins;
    count = k.count;
    out = k.out;
    loaded = omega (arith, length-append log more);
  }

  tail_later : (log : List T) (taken taken' filling tail j : ℕ) (t : Pushing T) → taken ≤ taken' → TailKnows log taken filling tail j t → TailKnows log taken' filling tail j t
  tail_later log taken taken' filling tail j t more k = record { here = k.here; all = k.all; out = k.out; loaded = le_trans k.loaded more; heard = le_trans k.heard more }

  -- a step of the tail: what was pushed may have grown
  pub tail_moves : (log more : List T) (taken filling filling' emptying tail head : ℕ) (views : List (View T)) (me : ℕ) (t : Pushing T) → me ≡ tail → TailKnows (log ++ more) taken filling' tail me t
      → Seats log taken filling emptying tail head views → Seats (log ++ more) taken filling' emptying tail head (set views me (tail_view t))
  tail_moves log more taken filling filling' emptying tail head views me t is mine old =
      seats_set (log ++ more) taken filling' emptying tail head views me (tail_view t) ((λ _. mine), λ e. off e)
      (λ j v ne e. let k = old j v e in ((λ p. absurd (ne ((k.0 p).here ∙ sym is))), λ p. head_longer log more taken emptying head j v.head (k.1 p)))

  -- a step of the head: what was taken may have grown
  pub head_moves : (log : List T) (taken taken' filling emptying emptying' tail head : ℕ) (views : List (View T)) (me : ℕ) (h : Popping T) → taken ≤ taken' → me ≡ head → HeadKnows log taken' emptying' head me h
      → Seats log taken filling emptying tail head views → Seats log taken' filling emptying' tail head (set views me (head_view h))
  head_moves log taken taken' filling emptying emptying' tail head views me h more is mine old =
      seats_set log taken' filling emptying' tail head views me (head_view h) ((λ e. off e), λ _. mine)
      (λ j v ne e. let k = old j v e in ((λ p. tail_later log taken taken' filling tail j v.tail more (k.0 p)), λ p. absurd (ne ((k.1 p).here ∙ sym is))))
