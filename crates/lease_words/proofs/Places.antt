-- The words and slots of a table are apart from each other.
use Rattle.std.proofs.Common.{◌≡◌, ◌≢◌, ℕ, suc, ◌+◌, ◌-◌, ◌*◌, ◌/◌, ◌%◌, ◌<◌, ◌≤◌, List, [], ◌∷◌, ◌++◌, length, get_or, set, eqb, Option, Some, None, refl, sym, ap, ◌∙◌, subst, ⊎_elim, arith, cond, eq-eqb, ne_eqb, lt_of_not-le, mul-le-mul_right, suc-mul, length-append, length-set}
use Rattle.std.proofs.lemmas.List.{get_or-set_same, get_or-set_other, set-get_or}
use Rattle.std.proofs.lemmas.Nat.{div-mul-add, mod-mul-add}
use native.Mathlib.Nat.{add-mod_right}
use native.Mathlib.Decide.{dec_le, ℕ_discrete}
use mathlib.Core.Option.{none, some, some-injective, some-ne-none}
use mathlib.Core.Option as place
use lib.ListN.{get_elem?}
use Rattle.atomic_table.proofs.Lists.{one_turn, set_here, set_else}
use Rattle.lease_core.specs.Lines.{word_of}
use Rattle.lease_core.specs.Word.{word_in}
use Rattle.lease_words.specs.declared.item.Item.{Item}
use Rattle.lease_words.specs.declared.view.Shape.{Shape}
use Rattle.lease_words.specs.Layout.{lease_word, published_word, taken_word, beat_word, word_count, session_at, lane_at, beating_at, lane_of, slot_of, slot_count}
use Rattle.lease_words.specs.Facts.{Lane, Session}
use Rattle.lease_words.proofs.Lists.{there, below_length, at_end}
use Rattle.lease_words.specs.Rule.{Truth, IsShape, WordsFit, SlotsFit}

-- one of a function's values is changed
abbrev pub updated : {A : Type 0} → (ℕ → A) → ℕ → A → ℕ → A
updated f s x i = cond (eqb i s) x (f i)

pub updated_all : {A : Type 0} (P : ℕ → A → Type 0) (f : ℕ → A) (s : ℕ) (x : A) → P s x → ((i : ℕ) → i ≢ s → P i (f i)) → (i : ℕ) → P i (updated f s x i)
updated_all P f s x here others i = elim (ℕ_discrete i s) [
  | yes e ↦ subst (λ b. P i (cond b x (f i))) (sym (eq-eqb i s e)) (subst (λ (j : ℕ). P j x) (sym e) here)
  | no ne ↦ subst (λ b. P i (cond b x (f i))) (sym (ne_eqb i s ne)) (others i ne)
]

pub updated_here : {A : Type 0} (f : ℕ → A) (s : ℕ) (x : A) → updated f s x s ≡ x
updated_here f s x = ap (λ b. cond b x (f s)) (eq-eqb s s refl)

pub updated_else : {A : Type 0} (f : ℕ → A) (s i : ℕ) (x : A) → i ≢ s → updated f s x i ≡ f i
updated_else f s i x other = ap (λ b. cond b x (f i)) (ne_eqb i s other)

-- whose word each is
pub session-lease_word : (s : ℕ) → session_at (lease_word s) ≡ s
session-lease_word s = omega arith

pub session-published_word : (s : ℕ) → session_at (published_word s) ≡ s
session-published_word s = omega arith

pub session-taken_word : (s library : ℕ) → library ≤ 16 → session_at (taken_word s library) ≡ s
session-taken_word s library few = omega arith

pub lane-taken_word : (s library : ℕ) → library ≤ 16 → lane_at (taken_word s library) ≡ library
lane-taken_word s library few = omega arith

pub beating-beat_word : (sessions library : ℕ) → beating_at sessions (beat_word sessions library) ≡ library
beating-beat_word sessions library = omega arith

-- two lanes are apart
pub lanes_apart : (libraries s library s' library' : ℕ) → 1 ≤ library → library ≤ libraries → 1 ≤ library' → library' ≤ libraries → lane_of libraries s library ≡ lane_of libraries s' library' → (s ≡ s') × (library ≡ library')
lanes_apart libraries s library s' library' a b c d e = (
  sym (div-mul-add s libraries (library - 1) (omega arith)) ∙ (ap (λ (n : ℕ). n / libraries) e ∙ div-mul-add s' libraries (library' - 1) (omega arith)),
  let same : library - 1 ≡ library' - 1 = sym (mod-mul-add s libraries (library - 1) (omega arith)) ∙ (ap (λ (n : ℕ). n % libraries) e ∙ mod-mul-add s' libraries (library' - 1) (omega arith)) in omega arith,
)

-- a slot lies in the table
pub slot_within : (sessions libraries s library p : ℕ) → s < sessions → 1 ≤ library → library ≤ libraries → slot_of libraries s library p < slot_count sessions libraries
slot_within sessions libraries s library p a b c = in_lane (s * libraries) (sessions * libraries) libraries (library - 1) (p % 16) (further s sessions libraries a) (omega arith) (omega arith)
  where
    further : (x y n : ℕ) → x < y → x * n + n ≤ y * n
    further x y n h = let a : suc x * n ≤ y * n = mul-le-mul_right n h in omega (arith, suc-mul x n)

    in_lane : (x y n l r : ℕ) → x + n ≤ y → l < n → r < 16 → (x + l) * 16 + r < y * 16
    in_lane x y n l r h a b = omega arith

-- two slots of different lanes are apart, and so are two of one lane whose numbers differ by less than 16
pub slots_apart : (libraries s library p s' library' p' : ℕ) → 1 ≤ library → library ≤ libraries → 1 ≤ library' → library' ≤ libraries → ((s ≡ s') × (library ≡ library') → ⊥) → slot_of libraries s library p ≢ slot_of libraries s' library' p'
slots_apart libraries s library p s' library' p' a b c d e same = e (lanes_apart libraries s library s' library' a b c d (one_lane (lane_of libraries s library) (lane_of libraries s' library') (p % 16) (p' % 16) (omega arith) (omega arith) same))
  where
    one_lane : (x y r q : ℕ) → r < 16 → q < 16 → x * 16 + r ≡ y * 16 + q → x ≡ y
    one_lane x y r q a b e = omega arith

pub slots_in_turn : (libraries s library p q : ℕ) → p < q → q < p + 16 → slot_of libraries s library q ≢ slot_of libraries s library p
slots_in_turn libraries s library p q a b same = let e : p ≡ q = one_turn p q 16 (omega arith) b (one_place (lane_of libraries s library) (p % 16) (q % 16) (sym same)) in omega arith
  where
    one_place : (x r q : ℕ) → x * 16 + r ≡ x * 16 + q → r ≡ q
    one_place x r q e = omega arith

pub slot_again : (libraries s library p : ℕ) → slot_of libraries s library (p + 16) ≡ slot_of libraries s library p
slot_again libraries s library p = ap (λ (r : ℕ). lane_of libraries s library * 16 + r) (add-mod_right p 16)

-- What is in the words stays so where what is so changes in other ways.
pub record SameWords (k : Shape) (t t' : Truth) : Type 0 where
  pub lines : (s : ℕ) → s < k.sessions → (t'.sessions s).lines ≡ (t.sessions s).lines
  pub published : (s : ℕ) → s < k.sessions → (t'.sessions s).published ≡ (t.sessions s).published
  pub taken : (s library : ℕ) → s < k.sessions → 1 ≤ library → library ≤ k.libraries → ((t'.sessions s).lanes library).taken ≡ ((t.sessions s).lanes library).taken
  pub beats : (library : ℕ) → 1 ≤ library → library ≤ k.libraries → t'.beats library ≡ t.beats library

module _ (k : Shape) (words : List ℕ) (t : Truth) (shape : IsShape k) (fit : WordsFit k words t) where
  -- a load changes no word
  pub words_stay : (t' : Truth) (i : ℕ) → SameWords k t t' → WordsFit k (set words i (get_or words i 0)) t'
  words_stay t' i same = subst (λ ws. WordsFit k ws t') (sym (set-get_or words i 0)) record {
    count = fit.count;
    unused = fit.unused;
    leases = λ s h. fit.leases s h ∙ ap word_of (sym (same.lines s h));
    published = λ s h. fit.published s h ∙ sym (same.published s h);
    taken = λ s library h a b. fit.taken s library h a b ∙ sym (same.taken s library h a b);
    beats = λ library a b. fit.beats library a b ∙ sym (same.beats library a b);
  }

  -- another word stays
  stays : (i n j : ℕ) → j ≢ i → get_or (set words i n) j 0 ≡ get_or words j 0
  stays i n j ne = get_or-set_other words i j n 0 ne

  changes : (i n : ℕ) → i < word_count k.sessions k.libraries → get_or (set words i n) i 0 ≡ n
  changes i n h = get_or-set_same words i n 0 (subst (λ (l : ℕ). i < l) (sym fit.count) h)

  abbrev pub with_session : ℕ → Session → Truth
  with_session s x = record { sessions = updated t.sessions s x; beats = t.beats; engine = t.engine; libraries = t.libraries }

  -- a lease word changes, a published count, a taken count, or a count of beats
  pub words_lease : (s n : ℕ) (x : Session) → s < k.sessions → word_in n ≡ word_of x.lines → x.published ≡ (t.sessions s).published
      → ((library : ℕ) → 1 ≤ library → library ≤ k.libraries → (x.lanes library).taken ≡ ((t.sessions s).lanes library).taken)
      → WordsFit k (set words (lease_word s) n) (with_session s x)
  words_lease s n x here is published taken = record {
    count = length-set words (lease_word s) n ∙ fit.count;
    unused = stays (lease_word s) n 0 (λ e. omega arith) ∙ fit.unused;
    leases = updated_all (λ i (y : Session). i < k.sessions → word_in (get_or (set words (lease_word s) n) (lease_word i) 0) ≡ word_of y.lines) t.sessions s x
        (λ h. ap word_in (changes (lease_word s) n (omega arith)) ∙ is)
        (λ i ne h. ap word_in (stays (lease_word s) n (lease_word i) (λ e. omega arith)) ∙ fit.leases i h);
    published = updated_all (λ i (y : Session). i < k.sessions → get_or (set words (lease_word s) n) (published_word i) 0 ≡ y.published) t.sessions s x
        (λ h. stays (lease_word s) n (published_word s) (λ e. omega arith) ∙ (fit.published s h ∙ sym published))
        (λ i ne h. stays (lease_word s) n (published_word i) (λ e. omega arith) ∙ fit.published i h);
    taken = λ i library. updated_all (λ i (y : Session). i < k.sessions → 1 ≤ library → library ≤ k.libraries → get_or (set words (lease_word s) n) (taken_word i library) 0 ≡ (y.lanes library).taken) t.sessions s x
        (λ h a b. let few : k.libraries ≤ 16 = shape.libraries in stays (lease_word s) n (taken_word s library) (λ e. omega arith) ∙ (fit.taken s library h a b ∙ sym (taken library a b)))
        (λ i ne h a b. let few : k.libraries ≤ 16 = shape.libraries in stays (lease_word s) n (taken_word i library) (λ e. omega arith) ∙ fit.taken i library h a b) i;
    beats = λ library a b. stays (lease_word s) n (beat_word k.sessions library) (λ e. omega arith) ∙ fit.beats library a b;
  }

  pub words_published : (s n : ℕ) (x : Session) → s < k.sessions → n ≡ x.published → x.lines ≡ (t.sessions s).lines
      → ((library : ℕ) → 1 ≤ library → library ≤ k.libraries → (x.lanes library).taken ≡ ((t.sessions s).lanes library).taken)
      → WordsFit k (set words (published_word s) n) (with_session s x)
  words_published s n x here is lines taken = record {
    count = length-set words (published_word s) n ∙ fit.count;
    unused = stays (published_word s) n 0 (λ e. omega arith) ∙ fit.unused;
    leases = updated_all (λ i (y : Session). i < k.sessions → word_in (get_or (set words (published_word s) n) (lease_word i) 0) ≡ word_of y.lines) t.sessions s x
        (λ h. ap word_in (stays (published_word s) n (lease_word s) (λ e. omega arith)) ∙ (fit.leases s h ∙ ap word_of (sym lines)))
        (λ i ne h. ap word_in (stays (published_word s) n (lease_word i) (λ e. omega arith)) ∙ fit.leases i h);
    published = updated_all (λ i (y : Session). i < k.sessions → get_or (set words (published_word s) n) (published_word i) 0 ≡ y.published) t.sessions s x
        (λ h. changes (published_word s) n (omega arith) ∙ is)
        (λ i ne h. stays (published_word s) n (published_word i) (λ e. omega arith) ∙ fit.published i h);
    taken = λ i library. updated_all (λ i (y : Session). i < k.sessions → 1 ≤ library → library ≤ k.libraries → get_or (set words (published_word s) n) (taken_word i library) 0 ≡ (y.lanes library).taken) t.sessions s x
        (λ h a b. let few : k.libraries ≤ 16 = shape.libraries in stays (published_word s) n (taken_word s library) (λ e. omega arith) ∙ (fit.taken s library h a b ∙ sym (taken library a b)))
        (λ i ne h a b. let few : k.libraries ≤ 16 = shape.libraries in stays (published_word s) n (taken_word i library) (λ e. omega arith) ∙ fit.taken i library h a b) i;
    beats = λ library a b. stays (published_word s) n (beat_word k.sessions library) (λ e. omega arith) ∙ fit.beats library a b;
  }

  pub words_taken : (s lane n : ℕ) (x : Session) → s < k.sessions → 1 ≤ lane → lane ≤ k.libraries → n ≡ (x.lanes lane).taken → x.lines ≡ (t.sessions s).lines → x.published ≡ (t.sessions s).published
      → ((library : ℕ) → library ≢ lane → 1 ≤ library → library ≤ k.libraries → (x.lanes library).taken ≡ ((t.sessions s).lanes library).taken)
      → WordsFit k (set words (taken_word s lane) n) (with_session s x)
  words_taken s lane n x here one most is lines published taken =
      let few : k.libraries ≤ 16 = shape.libraries in record {
        count = length-set words (taken_word s lane) n ∙ fit.count;
        unused = stays (taken_word s lane) n 0 (λ e. omega arith) ∙ fit.unused;
        leases = updated_all (λ i (y : Session). i < k.sessions → word_in (get_or (set words (taken_word s lane) n) (lease_word i) 0) ≡ word_of y.lines) t.sessions s x
            (λ h. ap word_in (stays (taken_word s lane) n (lease_word s) (λ e. omega arith)) ∙ (fit.leases s h ∙ ap word_of (sym lines)))
            (λ i ne h. ap word_in (stays (taken_word s lane) n (lease_word i) (λ e. omega arith)) ∙ fit.leases i h);
        published = updated_all (λ i (y : Session). i < k.sessions → get_or (set words (taken_word s lane) n) (published_word i) 0 ≡ y.published) t.sessions s x
            (λ h. stays (taken_word s lane) n (published_word s) (λ e. omega arith) ∙ (fit.published s h ∙ sym published))
            (λ i ne h. stays (taken_word s lane) n (published_word i) (λ e. omega arith) ∙ fit.published i h);
        taken = λ i library. updated_all (λ i (y : Session). i < k.sessions → 1 ≤ library → library ≤ k.libraries → get_or (set words (taken_word s lane) n) (taken_word i library) 0 ≡ (y.lanes library).taken) t.sessions s x
            (λ h a b. elim (ℕ_discrete library lane) [
              | yes e ↦ subst (λ (j : ℕ). get_or (set words (taken_word s lane) n) (taken_word s j) 0 ≡ (x.lanes j).taken) (sym e) (changes (taken_word s lane) n (omega arith) ∙ is)
              | no ne ↦ stays (taken_word s lane) n (taken_word s library) (λ e. omega arith) ∙ (fit.taken s library h a b ∙ sym (taken library ne a b))
            ])
            (λ i ne h a b. let few : k.libraries ≤ 16 = shape.libraries in stays (taken_word s lane) n (taken_word i library) (λ e. omega arith) ∙ fit.taken i library h a b) i;
        beats = λ library a b. stays (taken_word s lane) n (beat_word k.sessions library) (λ e. omega arith) ∙ fit.beats library a b;
      }

  pub words_beat : (library n : ℕ) → 1 ≤ library → library ≤ k.libraries → WordsFit k (set words (beat_word k.sessions library) n) record { sessions = t.sessions; beats = updated t.beats library n; engine = t.engine; libraries = t.libraries }
  words_beat library n one most = record {
    count = length-set words (beat_word k.sessions library) n ∙ fit.count;
    unused = stays (beat_word k.sessions library) n 0 (λ e. omega arith) ∙ fit.unused;
    leases = λ i h. ap word_in (stays (beat_word k.sessions library) n (lease_word i) (λ e. omega arith)) ∙ fit.leases i h;
    published = λ i h. stays (beat_word k.sessions library) n (published_word i) (λ e. omega arith) ∙ fit.published i h;
    taken = λ i lane h a b. let few : k.libraries ≤ 16 = shape.libraries in stays (beat_word k.sessions library) n (taken_word i lane) (λ e. omega arith) ∙ fit.taken i lane h a b;
    beats = updated_all (λ i (y : ℕ). 1 ≤ i → i ≤ k.libraries → get_or (set words (beat_word k.sessions library) n) (beat_word k.sessions i) 0 ≡ y) t.beats library n
        (λ a b. changes (beat_word k.sessions library) n (omega arith))
        (λ i ne a b. stays (beat_word k.sessions library) n (beat_word k.sessions i) (λ e. omega arith) ∙ fit.beats i a b);
  }

abbrev pub Homes : Type 0
Homes = List (place.Option (Option Item))

module _ (k : Shape) (homes : Homes) (s library : ℕ) (one : 1 ≤ library) (most : library ≤ k.libraries) where
  -- another slot of the lane stays
  near : (p q : ℕ) (x : place.Option (Option Item)) → p ≢ q → p < q + 16 → q < p + 16 → get_elem? (set homes (slot_of k.libraries s library q) x) (slot_of k.libraries s library p) ≡ get_elem? homes (slot_of k.libraries s library p)
  near p q x ne a b = set_else homes (slot_of k.libraries s library q) (slot_of k.libraries s library p) x (elim (dec_le p q) [
    | yes low ↦ λ e. slots_in_turn k.libraries s library p q (omega arith) b (sym e)
    | no high ↦ slots_in_turn k.libraries s library q p (lt_of_not-le high) a
  ])

  -- the item is the old lane's too
  kept : (lane lane' : Lane) (p : ℕ) (x : Item) → lane'.items ≡ lane.items → get_elem? lane'.items p ≡ some x → get_elem? lane.items p ≡ some x
  kept lane lane' p x items e = ap (λ l. get_elem? l p) (sym items) ∙ e

  -- a slot of another lane changes
  pub slots_else : (s' library' p : ℕ) (x : place.Option (Option Item)) (lane : Lane) → 1 ≤ library' → library' ≤ k.libraries → ((s ≡ s') × (library ≡ library') → ⊥) → SlotsFit k homes s library lane
      → SlotsFit k (set homes (slot_of k.libraries s' library' p) x) s library lane
  slots_else s' library' p x lane a b other fit = record {
    filled = λ q y low e. away q ∙ fit.filled q y low e;
    vacant = λ q low high. away q ∙ fit.vacant q low high;
  }
    where
      away : (q : ℕ) → get_elem? (set homes (slot_of k.libraries s' library' p) x) (slot_of k.libraries s library q) ≡ get_elem? homes (slot_of k.libraries s library q)
      away q = set_else homes (slot_of k.libraries s' library' p) (slot_of k.libraries s library q) x (slots_apart k.libraries s library q s' library' p one most a b other)

  -- the lane's own slots do not change, nor what they have to be
  pub slots_stay : (lane lane' : Lane) → lane'.items ≡ lane.items → lane'.taken ≡ lane.taken → lane'.filling ≡ lane.filling → lane'.emptying ≡ lane.emptying → SlotsFit k homes s library lane → SlotsFit k homes s library lane'
  slots_stay lane lane' items taken filling emptying fit =
      let same : length lane'.items ≡ length lane.items = ap length items in
      record {
        filled = λ p x a e. let low : lane'.taken + lane'.emptying ≤ p = a in fit.filled p x (omega arith) (kept lane lane' p x items e);
        vacant = λ p a b. let low : length lane'.items + lane'.filling ≤ p = a in let high : p < lane'.taken + 16 = b in fit.vacant p (omega arith) (omega arith);
      }

  -- the next slot goes out to be filled
  pub slots_claim : (lane lane' : Lane) → lane.filling ≡ 0 → lane.taken + lane.emptying ≤ length lane.items → length lane.items < lane.taken + 16
      → lane'.items ≡ lane.items → lane'.taken ≡ lane.taken → lane'.filling ≡ 1 → lane'.emptying ≡ lane.emptying → SlotsFit k homes s library lane
      → (get_elem? homes (slot_of k.libraries s library (length lane.items)) ≡ some (some None)) × SlotsFit k (set homes (slot_of k.libraries s library (length lane.items)) none) s library lane'
  slots_claim lane lane' empty behind room items taken filling emptying fit =
      let same : length lane'.items ≡ length lane.items = ap length items in (
        fit.vacant (length lane.items) (omega arith) room,
        record {
          filled = λ p y a e.
              let low : lane'.taken + lane'.emptying ≤ p = a in
              let old = kept lane lane' p y items e in
              let short : p < length lane.items = below_length lane.items p y old in
              near p (length lane.items) none (λ at. omega arith) (omega arith) (omega arith) ∙ fit.filled p y (omega arith) old;
          vacant = λ p a b.
              let low : length lane'.items + lane'.filling ≤ p = a in
              let high : p < lane'.taken + 16 = b in
              near p (length lane.items) none (λ at. omega arith) (omega arith) (omega arith) ∙ fit.vacant p (omega arith) (omega arith);
        },
      )

  -- it comes back with the item, which joins the others, or empty
  pub slots_filled : (item : Item) (lane lane' : Lane) → lane.filling ≡ 1 → lane.taken + lane.emptying ≤ length lane.items → length lane.items < lane.taken + 16 → slot_of k.libraries s library (length lane.items) < length homes
      → lane'.items ≡ lane.items ++ item ∷ [] → lane'.taken ≡ lane.taken → lane'.filling ≡ 0 → lane'.emptying ≡ lane.emptying → SlotsFit k homes s library lane
      → SlotsFit k (set homes (slot_of k.libraries s library (length lane.items)) (some (Some item))) s library lane'
  slots_filled item lane lane' full behind room within items taken filling emptying fit =
      let longer : length lane'.items ≡ length lane.items + 1 = ap length items ∙ length-append lane.items (item ∷ []) in
      record {
        filled = λ p y a e.
            let low : lane'.taken + lane'.emptying ≤ p = a in
            ⊎_elim
            (λ was.
            let short : p < length lane.items = below_length lane.items p y was in
            near p (length lane.items) (some (Some item)) (λ at. omega arith) (omega arith) (omega arith) ∙ fit.filled p y (omega arith) was)
            (λ (h : (p ≡ length lane.items) × (item ≡ y)).
            subst (λ (j : ℕ). get_elem? (set homes (slot_of k.libraries s library (length lane.items)) (some (Some item))) (slot_of k.libraries s library j) ≡ some (some (Some y))) (sym h.0)
            (set_here homes (slot_of k.libraries s library (length lane.items)) (some (Some item)) within ∙ ap (λ (z : Item). some (some (Some z))) h.1))
            (at_end lane.items item p y (ap (λ l. get_elem? l p) (sym items) ∙ e));
        vacant = λ p a b.
            let low : length lane'.items + lane'.filling ≤ p = a in
            let high : p < lane'.taken + 16 = b in
            near p (length lane.items) (some (Some item)) (λ at. omega arith) (omega arith) (omega arith) ∙ fit.vacant p (omega arith) (omega arith);
      }

  pub slots_unused : (lane lane' : Lane) → lane.filling ≡ 1 → lane.taken + lane.emptying ≤ length lane.items → length lane.items < lane.taken + 16 → slot_of k.libraries s library (length lane.items) < length homes
      → lane'.items ≡ lane.items → lane'.taken ≡ lane.taken → lane'.filling ≡ 0 → lane'.emptying ≡ lane.emptying → SlotsFit k homes s library lane
      → SlotsFit k (set homes (slot_of k.libraries s library (length lane.items)) (some None)) s library lane'
  slots_unused lane lane' full behind room within items taken filling emptying fit =
      let same : length lane'.items ≡ length lane.items = ap length items in
      record {
        filled = λ p y a e.
            let low : lane'.taken + lane'.emptying ≤ p = a in
            let old = kept lane lane' p y items e in
            let short : p < length lane.items = below_length lane.items p y old in
            near p (length lane.items) (some None) (λ at. omega arith) (omega arith) (omega arith) ∙ fit.filled p y (omega arith) old;
        vacant = λ p a b.
            let low : length lane'.items + lane'.filling ≤ p = a in
            let high : p < lane'.taken + 16 = b in
            elim (ℕ_discrete p (length lane.items)) [
              | yes e ↦ subst (λ (j : ℕ). get_elem? (set homes (slot_of k.libraries s library (length lane.items)) (some None)) (slot_of k.libraries s library j) ≡ some (some None)) (sym e)
                  (set_here homes (slot_of k.libraries s library (length lane.items)) (some None) within)
              | no ne ↦ near p (length lane.items) (some None) ne (omega arith) (omega arith) ∙ fit.vacant p (omega arith) (omega arith)
            ];
      }

  -- the slot of the next item goes out to be emptied
  pub slots_fetch : (lane lane' : Lane) → lane.emptying ≡ 0 → lane.taken < length lane.items → length lane.items + lane.filling ≤ lane.taken + 16
      → lane'.items ≡ lane.items → lane'.taken ≡ lane.taken → lane'.filling ≡ lane.filling → lane'.emptying ≡ 1 → SlotsFit k homes s library lane
      → (x : Item) × (get_elem? lane.items lane.taken ≡ some x) × (get_elem? homes (slot_of k.libraries s library lane.taken) ≡ some (some (Some x))) × SlotsFit k (set homes (slot_of k.libraries s library lane.taken) none) s library lane'
  slots_fetch lane lane' empty more within items taken filling emptying fit =
      let same : length lane'.items ≡ length lane.items = ap length items in
      let next = there lane.items lane.taken more in (
        next.0,
        next.1,
        fit.filled lane.taken next.0 (omega arith) next.1,
        record {
          filled = λ p y a e.
              let low : lane'.taken + lane'.emptying ≤ p = a in
              let old = kept lane lane' p y items e in
              let short : p < length lane.items = below_length lane.items p y old in
              near p lane.taken none (λ at. omega arith) (omega arith) (omega arith) ∙ fit.filled p y (omega arith) old;
          vacant = λ p a b.
              let low : length lane'.items + lane'.filling ≤ p = a in
              let high : p < lane'.taken + 16 = b in
              near p lane.taken none (λ at. omega arith) (omega arith) (omega arith) ∙ fit.vacant p (omega arith) (omega arith);
        },
      )

  -- it comes back empty
  pub slots_emptied : (lane lane' : Lane) → lane.emptying ≡ 1 → lane.taken < length lane.items → length lane.items + lane.filling ≤ lane.taken + 16 → slot_of k.libraries s library lane.taken < length homes
      → lane'.items ≡ lane.items → lane'.taken ≡ lane.taken + 1 → lane'.filling ≡ lane.filling → lane'.emptying ≡ 0 → SlotsFit k homes s library lane
      → SlotsFit k (set homes (slot_of k.libraries s library lane.taken) (some None)) s library lane'
  slots_emptied lane lane' out more within here items taken filling emptying fit =
      let same : length lane'.items ≡ length lane.items = ap length items in
      record {
        filled = λ p y a e.
            let low : lane'.taken + lane'.emptying ≤ p = a in
            let old = kept lane lane' p y items e in
            let short : p < length lane.items = below_length lane.items p y old in
            near p lane.taken (some None) (λ at. omega arith) (omega arith) (omega arith) ∙ fit.filled p y (omega arith) old;
        vacant = λ p a b.
            let low : length lane'.items + lane'.filling ≤ p = a in
            let high : p < lane'.taken + 16 = b in
            elim (ℕ_discrete p (lane.taken + 16)) [
              | yes e ↦
                  let again : slot_of k.libraries s library p ≡ slot_of k.libraries s library lane.taken = ap (λ (j : ℕ). slot_of k.libraries s library j) e ∙ slot_again k.libraries s library lane.taken in
                  subst (λ (z : ℕ). get_elem? (set homes (slot_of k.libraries s library lane.taken) (some None)) z ≡ some (some None)) (sym again)
                  (set_here homes (slot_of k.libraries s library lane.taken) (some None) here)
              | no ne ↦ near p lane.taken (some None) (λ at. omega arith) (omega arith) (omega arith) ∙ fit.vacant p (omega arith) (omega arith)
            ];
      }
