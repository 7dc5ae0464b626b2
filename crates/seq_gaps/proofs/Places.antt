-- Where an offered item stands, by what is known of its number.
use Rattle.std.proofs.Common.{◌≡◌, ℕ, ◌+◌, ◌<◌, ◌≤◌, true, false, cond, eqb, ltb, Option, Some, None, is_some, max, refl, sym, ap, ◌∙◌, subst, inl, inr, arith}
use Rattle.std.specs.Ordering.{nat_cmp}
use Rattle.std.proofs.lemmas.Bool.{lt-ltb, le-ltb, eq-eqb, ne_eqb, ltb-true, or_right, cases_lt, cases_eq, false≢true}
use Rattle.std.specs.FinMap.{FinMap, get, insert, remove, len}
use Rattle.seq_gaps.specs.declared.offered.Place.TheVariants.{Now, Held, Known, NoRoom}
use Rattle.seq_gaps.specs.declared.offered.TheConstants.{HELD_LIMIT}
use Rattle.seq_gaps.specs.declared.offered.Place.{Place}
use Rattle.seq_gaps.specs.Line.{Line, after_taking}
use Rattle.seq_gaps.specs.Offers.{place_of, answer_to_offer, gap_below, gap_shown, after_placing, after_offer}
use Rattle.seq_gaps.specs.Early.{early_place}

module _ {X : Type 0} where
  pub place-below : (line : Line X) (n : ℕ) (x : X) → n < line.expected → place_of line n x ≡ Known x
  place-below line n x l = rw (lt-ltb n line.expected l)

  pub place-held : (line : Line X) (n : ℕ) (x : X) → is_some (get line.held n) ≡ true → place_of line n x ≡ Known x
  place-held line n x h = ap (λ b. cond b (Known x) (cond (eqb n line.expected) (Now x) (cond (ltb (len line.held) 256) Held (NoRoom x)))) (or_right (ltb n line.expected) (is_some (get line.held n)) h)

  pub place-now : (line : Line X) (n : ℕ) (x : X) → n ≡ line.expected → get line.held n ≡ None → place_of line n x ≡ Now x
  place-now line n x same none = rw (le-ltb n line.expected (omega arith), none, eq-eqb n line.expected same)

  pub place-early : (line : Line X) (n : ℕ) (x : X) → line.expected < n → place_of line n x ≡ early_place line.held n x
  place-early line n x l = rw (le-ltb n line.expected (omega arith), ne_eqb n line.expected (λ same. omega arith))

  pub offered-now : (line : Line X) (n : ℕ) (x : X) → n ≡ line.expected → get line.held n ≡ None → answer_to_offer line n x ≡ record { place = Now x; gap = None }
  offered-now line n x same none = ap (λ (p : Place X). record { place = p; gap = gap_shown line n p }) (place-now line n x same none)

  pub after_offer-now : (line : Line X) (n : ℕ) (x : X) → n ≡ line.expected → get line.held n ≡ None → after_offer line n x ≡ record { expected = line.expected + 1; held = line.held; horizon = line.horizon }
  after_offer-now line n x same none = ap (after_placing line n x) (place-now line n x same none)

  pub offered-known : (line : Line X) (n : ℕ) (x : X) → place_of line n x ≡ Known x → (answer_to_offer line n x ≡ record { place = Known x; gap = None }) × (after_offer line n x ≡ line)
  offered-known line n x e = (ap (λ (p : Place X). record { place = p; gap = gap_shown line n p }) e, ap (after_placing line n x) e)

  pub offered-full : (line : Line X) (n : ℕ) (x : X) → place_of line n x ≡ NoRoom x → (answer_to_offer line n x ≡ record { place = NoRoom x; gap = None }) × (after_offer line n x ≡ line)
  offered-full line n x e = (ap (λ (p : Place X). record { place = p; gap = gap_shown line n p }) e, ap (after_placing line n x) e)

  pub offered-held : (line : Line X) (n : ℕ) (x : X) → place_of line n x ≡ Held → (answer_to_offer line n x ≡ record { place = Held; gap = gap_below line n }) × (after_offer line n x ≡ record { expected = line.expected; held = insert line.held n x; horizon = max line.horizon n })
  offered-held line n x e = (ap (λ (p : Place X). record { place = p; gap = gap_shown line n p }) e, ap (after_placing line n x) e)

  pub after_taking-some : (line : Line X) → is_some (get line.held line.expected) ≡ true → after_taking line ≡ record { expected = line.expected + 1; held = remove line.held line.expected; horizon = line.horizon }
  after_taking-some line h = rw (h)

  -- taking changes nothing where the expected number isn't held
  pub after_taking-none : (line : Line X) → get line.held line.expected ≡ None → after_taking line ≡ line
  after_taking-none line h = rw (h)

  -- what is held now was not held before, and there was room
  pub was_free : (m : FinMap nat_cmp X) (n : ℕ) (x : X) → early_place m n x ≡ Held → (get m n ≡ None) × (len m < HELD_LIMIT)
  was_free m n x = elim (get m n) as (λ o. cond (is_some o) (Known x) (cond (ltb (len m) HELD_LIMIT) Held (NoRoom x)) ≡ Held → (o ≡ None) × (len m < HELD_LIMIT)) [
    | Some y ↦ λ e. cc
    | None ↦ λ e. (refl, elim (cases_lt (len m) HELD_LIMIT) [ inl less ↦ less | inr more ↦ (let full = le-ltb (len m) HELD_LIMIT more in absurd cc) ])
  ]

  pub none_from : (o : Option X) → is_some o ≡ false → o ≡ None
  none_from None h = refl
  none_from (Some x) h = absurd (false≢true (sym h))

  -- nothing that is new is held where there is no room
  pub place-free : (line : Line X) (n : ℕ) (x : X) → line.expected < n → get line.held n ≡ None → len line.held < HELD_LIMIT → place_of line n x ≡ Held
  place-free line n x l none room = place-early line n x l ∙ rw (none, lt-ltb (len line.held) HELD_LIMIT room)

  pub place-full : (line : Line X) (n : ℕ) (x : X) → line.expected < n → get line.held n ≡ None → HELD_LIMIT ≤ len line.held → place_of line n x ≡ NoRoom x
  place-full line n x l none full = place-early line n x l ∙ rw (none, le-ltb (len line.held) HELD_LIMIT full)

  -- the cases of an offer, with what is known in each
  pub offer_cases : (line : Line X) (n : ℕ) (x : X) (P : Place X → Type 0) → (n < line.expected → P (Known x)) → (is_some (get line.held n) ≡ true → P (Known x)) → (n ≡ line.expected → get line.held n ≡ None → P (Now x)) → (line.expected < n → get line.held n ≡ None → len line.held < HELD_LIMIT → P Held) → P (NoRoom x) → P (place_of line n x)
  offer_cases line n x P below held now early no_room =
      elim (cases_lt n line.expected) [
        | inl l ↦ subst P (sym (place-below line n x l)) (below l)
        | inr m ↦ elim (get line.held n) as (λ o. get line.held n ≡ o → P (place_of line n x)) [
          | Some y ↦ λ is. subst P (sym (place-held line n x (ap is_some is))) (held (ap is_some is))
          | None ↦ λ is. elim (cases_eq n line.expected) [
            | inl same ↦ subst P (sym (place-now line n x same is)) (now same is)
            | inr other ↦
                let e = place-early line n x (omega arith) in
                subst P (sym (e ∙ ap (λ b. cond b (Known x) (cond (ltb (len line.held) HELD_LIMIT) Held (NoRoom x))) (ap is_some is)))
                (elim (ltb (len line.held) HELD_LIMIT) as (λ b. ltb (len line.held) HELD_LIMIT ≡ b → P (cond b Held (NoRoom x))) [ true ↦ λ room. early (omega arith) is (ltb-true (len line.held) HELD_LIMIT room) | false ↦ λ full. no_room ] refl)
          ]
        ] refl
      ]
