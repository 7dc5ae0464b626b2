-- The law for whole lists of calls: offers and takings hand on the first offers in order.
use Rattle.std.proofs.Common.{◌≡◌, ℕ, zero, suc, ◌+◌, ◌<◌, ◌≤◌, true, cond, eqb, List, [], ◌∷◌, ◌++◌, take, drop, Option, Some, None, is_some, IsNone, refl, sym, ap, ◌∙◌, subst, inl, inr, arith}
use Rattle.std.specs.Ordering.{nat_cmp}
use Rattle.std.specs.Option.{option_to_list}
use Rattle.std.specs.Cmp.{unsigned_tied}
use Rattle.std.proofs.lemmas.Cmp.{nat_cmp_total}
use Rattle.std.proofs.lemmas.Bool.{eq-eqb, ne_eqb, cases_eq, false≢true}
use Rattle.std.specs.FinMap.{FinMap, get, insert, remove, get-empty, get-insert, get-remove}
use Rattle.seq_gaps.specs.declared.offered.Place.TheVariants.{Held}
use Rattle.seq_gaps.specs.declared.calls.Call.{Call}
use Rattle.seq_gaps.specs.declared.calls.Call.TheVariants.{Offer, Fill, TakeReady, Clear, Restart}
use Rattle.seq_gaps.specs.declared.calls.Answer.{Answer}
use Rattle.seq_gaps.specs.Line.{Line}
use Rattle.seq_gaps.specs.Offers.{after_placing}
use Rattle.seq_gaps.specs.Calls.{line_after, line_after_all, answers_to, first_offered, AreFirstOffers, OnlyOfferOrTake, HasRoom, AllHaveRoom, item_now, items_handed_on, IsPlainRun}
use Rattle.seq_gaps.proofs.Places.{offer_cases}

module _ {X : Type 0} where
  -- the first of two, where it is there
  abbrev or_else : Option X → Option X → Option X
  or_else None o = o
  or_else (Some x) o = Some x

  -- for each number from n on, up to the first without a value, these are the values
  abbrev AreFrom : (ℕ → Option X) → ℕ → List X → Type 0
  AreFrom f n [] = IsNone (f n)
  AreFrom f n (x ∷ xs) = (f n ≡ Some x) × AreFrom f (n + 1) xs

  AreFrom-alike : (f g : ℕ → Option X) (n : ℕ) (xs : List X) → ((m : ℕ) → n ≤ m → f m ≡ g m) → AreFrom f n xs → AreFrom g n xs
  AreFrom-alike f g n [] e h = sym (ap is_some (e n (omega arith))) ∙ h
  AreFrom-alike f g n (x ∷ xs) e h = (sym (e n (omega arith)) ∙ h.0, AreFrom-alike f g (n + 1) xs (λ m l. e m (omega arith)) h.1)

  first_offers : (calls : List (Call X)) (n : ℕ) (xs : List X) → AreFrom (first_offered calls) n xs → AreFirstOffers calls n xs
  first_offers calls n [] h = h
  first_offers calls n (x ∷ xs) h = (h.0, first_offers calls (n + 1) xs h.1)

  -- what stands of each number: the held item, and else the first offer to come
  abbrev stands : Line X → List (Call X) → ℕ → Option X
  stands line calls m = or_else (get line.held m) (first_offered calls m)

  get-insert_is : (m : FinMap nat_cmp X) (n : ℕ) (x : X) (q : ℕ) → get (insert m n x) q ≡ cond (eqb q n) (Some x) (get m q)
  get-insert_is m n x q = get-insert nat_cmp_total m n x q ∙ ap (λ b. cond b (Some x) (get m q)) (unsigned_tied q n)

  get-remove_above : (m : FinMap nat_cmp X) (n q : ℕ) → n < q → get (remove m n) q ≡ get m q
  get-remove_above m n q l = get-remove nat_cmp_total m n q ∙ ap (λ b. cond b None (get m q)) (unsigned_tied q n ∙ ne_eqb q n (λ same. omega arith))

  -- an offer of another number, or of one that is held, changes nothing of what stands
  stands_known : (line : Line X) (n : ℕ) (x : X) (calls : List (Call X)) (m : ℕ) → (m ≡ n → is_some (get line.held m) ≡ true) → stands line calls m ≡ stands line (Offer n x ∷ calls) m
  stands_known line n x calls m h =
      elim (get line.held m) as (λ o. (m ≡ n → is_some o ≡ true) → or_else o (first_offered calls m) ≡ or_else o (cond (eqb n m) (Some x) (first_offered calls m))) [
        | Some y ↦ λ h. refl
        | None ↦ λ h. sym (ap (λ b. cond b (Some x) (first_offered calls m)) (ne_eqb n m (λ same. false≢true (h (sym same)))))
      ] h

  -- an early offer stands as a held item as it stood among the offers to come
  stands_held : (line : Line X) (n : ℕ) (x : X) (calls : List (Call X)) (m : ℕ) → get line.held n ≡ None → or_else (get (insert line.held n x) m) (first_offered calls m) ≡ stands line (Offer n x ∷ calls) m
  stands_held line n x calls m none =
      ap (λ o. or_else o (first_offered calls m)) (get-insert_is line.held n x m)
      ∙ elim (cases_eq m n) [
        | inl same ↦
            let absent = ap (get line.held) same ∙ none in
            rw (eq-eqb m n same, eq-eqb n m (sym same), absent)
        | inr other ↦ rw (ne_eqb m n other, ne_eqb n m (λ same. other (sym same)))
      ]

  -- From any line, offers and takings that find room hand on what stands, from the expected number on.
  law : (line : Line X) (calls : List (Call X)) → OnlyOfferOrTake calls → AllHaveRoom (answers_to line calls) → IsNone (get (line_after_all line calls).held (line_after_all line calls).expected) → AreFrom (stands line calls) line.expected (items_handed_on (answers_to line calls))
  law line [] only room last = elim (get line.held line.expected) as (λ o. IsNone o → IsNone (or_else o None)) [ Some y ↦ λ h. h | None ↦ λ h. h ] last
  law line (Offer n x ∷ calls) only room last =
      offer_cases line n x (λ p. HasRoom p × AllHaveRoom (answers_to (after_placing line n x p) calls) → IsNone (get (line_after_all (after_placing line n x p) calls).held (line_after_all (after_placing line n x p) calls).expected) → AreFrom (stands line (Offer n x ∷ calls)) line.expected (item_now p ++ items_handed_on (answers_to (after_placing line n x p) calls)))
      (λ below room last. AreFrom-alike _ _ line.expected _ (λ m l. stands_known line n x calls m (λ same. absurd (omega arith))) (law line calls only room.1 last))
      (λ held room last. AreFrom-alike _ _ line.expected _ (λ m l. stands_known line n x calls m (λ same. ap (λ k. is_some (get line.held k)) same ∙ held)) (law line calls only room.1 last))
      (λ same none room last.
      let absent = ap (get line.held) (sym same) ∙ none in
      (rw (absent, eq-eqb n line.expected same), AreFrom-alike _ _ (line.expected + 1) _ (λ m l. stands_known line n x calls m (λ equal. absurd (omega arith))) (law (record { expected = line.expected + 1; held = line.held; horizon = line.horizon }) calls only room.1 last)))
      (λ early none free room last. AreFrom-alike _ _ line.expected _ (λ m l. stands_held line n x calls m none) (law (after_placing line n x Held) calls only room.1 last))
      (λ room last. absurd room.0)
      room last
  law line (TakeReady ∷ calls) only room last =
      let taken : Line X = record { expected = line.expected + 1; held = remove line.held line.expected; horizon = line.horizon } in
      elim (get line.held line.expected) as (λ o. get line.held line.expected ≡ o → AllHaveRoom (answers_to (cond (is_some o) taken line) calls) → IsNone (get (line_after_all (cond (is_some o) taken line) calls).held (line_after_all (cond (is_some o) taken line) calls).expected) → AreFrom (stands line (TakeReady ∷ calls)) line.expected (option_to_list o ++ items_handed_on (answers_to (cond (is_some o) taken line) calls))) [
        | Some y ↦ λ is room last. (rw (is), AreFrom-alike _ _ (line.expected + 1) _ (λ m l. ap (λ o. or_else o (first_offered calls m)) (get-remove_above line.held line.expected m (omega arith))) (law taken calls only room last))
        | None ↦ λ is room last. law line calls only room last
      ] refl room last
  law line (Fill to ∷ calls) only room last = absurd only
  law line (Clear ∷ calls) only room last = absurd only
  law line (Restart ∷ calls) only room last = absurd only

  -- where nothing is held at first, what stands are the first offers
  pub law_at_first : (line : Line X) (calls : List (Call X)) → IsPlainRun line calls (answers_to line calls) (line_after_all line calls) → AreFirstOffers calls line.expected (items_handed_on (answers_to line calls))
  law_at_first line calls run =
      first_offers calls line.expected _ (AreFrom-alike _ _ line.expected _ (λ m l. ap (λ o. or_else o (first_offered calls m)) (ap (λ (h : FinMap nat_cmp X). get h m) run.nothing_held ∙ get-empty nat_cmp m)) (law line calls run.offers_and_takings run.room run.none_ready))

  -- the answers from call k on are those from the line before it
  pub drop-answers_to : (line : Line X) (calls : List (Call X)) (k : ℕ) → drop k (answers_to line calls) ≡ answers_to (line_after_all line (take k calls)) (drop k calls)
  drop-answers_to line calls zero = refl
  drop-answers_to line [] (suc k) = refl
  drop-answers_to line (call ∷ calls) (suc k) = drop-answers_to (line_after line call) calls k

  pub line_after_all-split : (line : Line X) (calls : List (Call X)) (k : ℕ) → line_after_all line calls ≡ line_after_all (line_after_all line (take k calls)) (drop k calls)
  line_after_all-split line calls zero = refl
  line_after_all-split line [] (suc k) = refl
  line_after_all-split line (call ∷ calls) (suc k) = line_after_all-split (line_after line call) calls k

  -- from any call on before which nothing is held
  pub law_from : (line : Line X) (calls : List (Call X)) (answers : List (Answer X)) (behind : Line X) (k : ℕ) → answers ≡ answers_to line calls → behind ≡ line_after_all line calls → IsPlainRun (line_after_all line (take k calls)) (drop k calls) (drop k answers) behind → AreFirstOffers (drop k calls) (line_after_all line (take k calls)).expected (items_handed_on (drop k answers))
  law_from line calls answers behind k a b run =
      let from = line_after_all line (take k calls) in
      let answered : drop k answers ≡ answers_to from (drop k calls) = ap (drop k) a ∙ drop-answers_to line calls k in
      let last : behind ≡ line_after_all from (drop k calls) = b ∙ line_after_all-split line calls k in
      rw (answered) (law_at_first from (drop k calls) (subst (λ l. IsPlainRun from (drop k calls) (answers_to from (drop k calls)) l) last (subst (λ (r : List (Answer X)). IsPlainRun from (drop k calls) r behind) answered run)))
