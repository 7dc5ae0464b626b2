-- What the images of a journal's file stand for.
use Rattle.std.proofs.Common.{◌≡◌, ◌≢◌, ◌⊎◌, inl, inr, ℕ, ◌+◌, ◌≤◌, List, [], ◌∷◌, ◌++◌, length, take, drop, get_or, refl, sym, ap, subst, ◌∙◌, arith, append_assoc, length-append, take-append-drop}
use Rattle.std.specs.List.{AllByRecursion}
use Rattle.std.proofs.lemmas.Bool.{cases_eq}
use Rattle.std.proofs.lemmas.Grind.{flat_map-append}
use Rattle.std.proofs.lemmas.List.{append-nil, take_at, drop_at, drop_more}
use Rattle.lease_core.specs.declared.record.Record.{Record}
use Rattle.durable_journal.specs.Disk.{IsTorn}
use Rattle.durable_journal.specs.Batches.{with_batch, with_open_gate, IsBatchImage}
use Rattle.durable_journal.specs.Files.{IsBatch, AreBatches, AreRuns, HoldsBatches, Stands, IsDamaged, batch_text, file_text, all_of}
use Rattle.durable_journal.proofs.Once.{batches_behind, cons_tail}
use Rattle.durable_journal.proofs.Runs.{runs_front}

pub file_append : (bs cs : List (List Record)) → file_text (bs ++ cs) ≡ file_text bs ++ file_text cs
file_append bs cs = flat_map-append (λ batch. 1 ∷ batch_text batch) bs cs

pub all_append : (bs cs : List (List Record)) → all_of (bs ++ cs) ≡ all_of bs ++ all_of cs
all_append bs cs = flat_map-append (λ batch. batch) bs cs

pub all_more : (bs : List (List Record)) (b : List Record) → all_of (bs ++ b ∷ []) ≡ all_of bs ++ b
all_more bs b = all_append bs (b ∷ []) ∙ ap (λ (l : List Record). all_of bs ++ l) (append-nil b)

pub file_more : (bs : List (List Record)) (b : List Record) (rest : List ℕ) → file_text bs ++ 1 ∷ (batch_text b ++ rest) ≡ file_text (bs ++ b ∷ []) ++ rest
file_more bs b rest =
    sym (append_assoc (file_text bs) (1 ∷ batch_text b) rest)
    ∙ ap (λ (l : List ℕ). (file_text bs ++ l) ++ rest) (sym (append-nil (1 ∷ batch_text b)))
    ∙ ap (λ (l : List ℕ). l ++ rest) (sym (file_append bs (b ∷ [])))

pub each_more : (bs : List (List Record)) (b : List Record) → AllByRecursion IsBatch bs → IsBatch b → AllByRecursion IsBatch (bs ++ b ∷ [])
each_more [] b each is = (is, tt)
each_more (c ∷ bs) b each is = (each.0, each_more bs b each.1 is)

each_front : (bs cs : List (List Record)) → AllByRecursion IsBatch (bs ++ cs) → AllByRecursion IsBatch bs
each_front [] cs each = tt
each_front (b ∷ bs) cs each = (each.0, each_front bs cs each.1)

pub batches_front : (sessions leases : ℕ) (bs cs : List (List Record)) → AreBatches sessions leases (bs ++ cs) → AreBatches sessions leases bs
batches_front sessions leases bs cs are = record {
  each = each_front bs cs are.each;
  runs = runs_front sessions leases (all_of bs) (all_of cs) (subst (AreRuns sessions leases) (all_append bs cs) are.runs);
}

-- ---- one file stands for one list, or is damaged

pub short_none : (sessions leases : ℕ) (file : List ℕ) (records : List Record) → length file ≤ 1 → HoldsBatches sessions leases file records → records ≡ []
short_none sessions leases file records short holds = by_cases holds.batches holds.is_file.text holds.records_are
  where
    by_cases : (bs : List (List Record)) → file ≡ file_text bs ++ holds.is_file.gate ∷ holds.is_file.behind → records ≡ all_of bs → records ≡ []
    by_cases [] text are = are
    by_cases (b ∷ bs) text are =
        let len : length file ≡ length ((1 ∷ (batch_text b ++ file_text bs)) ++ holds.is_file.gate ∷ holds.is_file.behind) = ap (λ (l : List ℕ). length l) text in
        absurd (omega (arith, len, short, length-append (batch_text b ++ file_text bs) (holds.is_file.gate ∷ holds.is_file.behind)))

no_more : (more : List (List Record)) (gate : ℕ) (behind : List ℕ) (h : ℕ) (rest : List ℕ) → gate ≢ 1 → gate ∷ behind ≡ file_text more ++ h ∷ rest → more ≡ []
no_more [] gate behind h rest closed is = refl
no_more (b ∷ more) gate behind h rest closed is = absurd (closed (grind (arith, is)))

holds_once : (sessions leases : ℕ) (file : List ℕ) (a b : List Record) → HoldsBatches sessions leases file a → HoldsBatches sessions leases file b → a ≡ b
holds_once sessions leases file a b ha hb =
    let fa = ha.is_file in
    let fb = hb.is_file in
    let more = batches_behind ha.batches hb.batches fb.gate fb.behind (fa.gate ∷ fa.behind) fb.closed fa.lawful.each fb.lawful.each (sym fa.text ∙ fb.text) in
    let none : more.more ≡ [] = no_more more.more fa.gate fa.behind fb.gate fb.behind fa.closed more.text in
    let same : hb.batches ≡ ha.batches = more.is ∙ ap (λ (l : List (List Record)). ha.batches ++ l) none ∙ append-nil ha.batches in
    ha.records_are ∙ ap all_of (sym same) ∙ sym hb.records_are

pub stands_once : (sessions leases : ℕ) (file : List ℕ) (a b : List Record) → Stands sessions leases file a → Stands sessions leases file b → a ≡ b
stands_once sessions leases file a b (inl sa) (inl sb) = sa.1 ∙ sym sb.1
stands_once sessions leases file a b (inl sa) (inr hb) = sa.1 ∙ sym (short_none sessions leases file b sa.0 hb)
stands_once sessions leases file a b (inr ha) (inl sb) = short_none sessions leases file a sb.0 ha ∙ sym sb.1
stands_once sessions leases file a b (inr ha) (inr hb) = holds_once sessions leases file a b ha hb

-- what stands behind the batches, as its first byte and the rest
record Parts (tail : List ℕ) : Type 0 where
  first : ℕ
  rest : List ℕ
  is : tail ≡ first ∷ rest

parts_of : (more : List (List Record)) (h : ℕ) (rest : List ℕ) → Parts (file_text more ++ h ∷ rest)
parts_of [] h rest = record { first = h; rest = rest; is = refl }
parts_of (b ∷ more) h rest = record { first = 1; rest = (batch_text b ++ file_text more) ++ h ∷ rest; is = refl }

pub stands_undamaged : (sessions leases : ℕ) (file : List ℕ) (records : List Record) (place : ℕ) → Stands sessions leases file records → IsDamaged sessions leases file place → ⊥
stands_undamaged sessions leases file records place (inl short) damaged = omega (arith, short.0, damaged.long)
stands_undamaged sessions leases file records place (inr holds) damaged =
    let f = holds.is_file in
    let more = batches_behind damaged.batches holds.batches f.gate f.behind (1 ∷ damaged.more) f.closed damaged.lawful.each f.lawful.each (sym damaged.text ∙ f.text) in
    by_cases more.more more.is more.text
  where
    by_cases : (ds : List (List Record)) → holds.batches ≡ damaged.batches ++ ds → 1 ∷ damaged.more ≡ file_text ds ++ holds.is_file.gate ∷ holds.is_file.behind → ⊥
    by_cases [] is text = holds.is_file.closed (grind (arith, text))
    by_cases (d ∷ ds) is text =
        let parts = parts_of ds holds.is_file.gate holds.is_file.behind in
        let behind : damaged.more ≡ batch_text d ++ parts.first ∷ parts.rest =
        cons_tail 1 1 damaged.more ((batch_text d ++ file_text ds) ++ holds.is_file.gate ∷ holds.is_file.behind) text
        ∙ append_assoc (batch_text d) (file_text ds) (holds.is_file.gate ∷ holds.is_file.behind) ∙ ap (λ (l : List ℕ). batch_text d ++ l) parts.is in
        let regrouped : holds.batches ≡ (damaged.batches ++ d ∷ []) ++ ds = is ∙ sym (append_assoc damaged.batches (d ∷ []) ds) in
        damaged.no_batch d parts.first parts.rest behind (batches_front sessions leases (damaged.batches ++ d ∷ []) ds (subst (AreBatches sessions leases) regrouped holds.is_file.lawful))

-- ---- a batch that is written

module _ (sessions leases gate : ℕ) (bytes behind : List ℕ) (first : ℕ) (batches : List (List Record)) (batch : List Record)
    (text_is : bytes ≡ file_text batches ++ first ∷ behind) (closed : first ≢ 1) (place_is : gate ≡ length (file_text batches))
    (lawful : AreBatches sessions leases (batches ++ batch ∷ [])) where
  abbrev text : List ℕ
  text = batch_text batch ++ 0 ∷ []

  abbrev tail : List ℕ
  tail = drop (gate + 1 + length text) bytes

  lawful_before : AreBatches sessions leases batches
  lawful_before = batches_front sessions leases batches (batch ∷ []) lawful

  regrouped : bytes ≡ (file_text batches ++ first ∷ []) ++ behind
  regrouped = text_is ∙ sym (append_assoc (file_text batches) (first ∷ []) behind)

  length-front : length (file_text batches ++ first ∷ []) ≡ gate + 1
  length-front = omega (arith, length-append (file_text batches) (first ∷ []), place_is)

  front_is : take (gate + 1) bytes ≡ file_text batches ++ first ∷ []
  front_is = ap (take (gate + 1)) regrouped ∙ take_at (file_text batches ++ first ∷ []) behind (gate + 1) length-front

  -- with the batch behind the closed gate
  pub staged_is : with_batch gate text bytes ≡ file_text batches ++ first ∷ (batch_text batch ++ 0 ∷ tail)
  staged_is =
      ap (λ (l : List ℕ). l ++ (text ++ tail)) front_is
      ∙ append_assoc (file_text batches) (first ∷ []) (text ++ tail)
      ∙ ap (λ (l : List ℕ). file_text batches ++ first ∷ l) (append_assoc (batch_text batch) (0 ∷ []) tail)

  pub stands_before : (image : List ℕ) (g : ℕ) (rest : List ℕ) → g ≢ 1 → image ≡ file_text batches ++ g ∷ rest → Stands sessions leases image (all_of batches)
  stands_before image g rest shut is = inr (record {
    batches = batches;
    is_file = record { gate = g; behind = rest; text = is; closed = shut; lawful = lawful_before };
    records_are = refl;
  })

  pub stands_behind : (image rest : List ℕ) → image ≡ file_text batches ++ 1 ∷ (batch_text batch ++ 0 ∷ rest) → Stands sessions leases image (all_of batches ++ batch)
  stands_behind image rest is = inr (record {
    batches = batches ++ batch ∷ [];
    is_file = record { gate = 0; behind = rest; text = is ∙ file_more batches batch (0 ∷ rest); closed = omega arith; lawful = lawful };
    records_are = sym (all_more batches batch);
  })

  torn_batch : (image : List ℕ) → IsTorn (gate + 1) (length text) bytes image → Stands sessions leases image (all_of batches)
  torn_batch image torn =
      stands_before image first (drop (gate + 1) image) closed
      (sym (take-append-drop (gate + 1) image) ∙ ap (λ (l : List ℕ). l ++ drop (gate + 1) image) (torn.before ∙ front_is) ∙ append_assoc (file_text batches) (first ∷ []) (drop (gate + 1) image))

  torn_gate : (image : List ℕ) → IsTorn gate 1 (with_batch gate text bytes) image → Stands sessions leases image (all_of batches) ⊎ Stands sessions leases image (all_of batches ++ batch)
  torn_gate image torn =
      let staged = with_batch gate text bytes in
      let rest = batch_text batch ++ 0 ∷ tail in
      let g = get_or image gate 0 in
      let long : gate + 1 ≤ length staged = omega (arith, ap (λ (l : List ℕ). length l) staged_is, length-append (file_text batches) (first ∷ rest), place_is) in
      let front : take gate image ≡ file_text batches = torn.before ∙ ap (take gate) staged_is ∙ take_at (file_text batches) (first ∷ rest) gate (sym place_is) in
      let back : drop (gate + 1) image ≡ rest = torn.behind ∙ ap (drop (gate + 1)) (staged_is ∙ sym (append_assoc (file_text batches) (first ∷ []) rest)) ∙ drop_at (file_text batches ++ first ∷ []) rest (gate + 1) length-front in
      let whole : image ≡ file_text batches ++ g ∷ rest =
      sym (take-append-drop gate image)
      ∙ ap (λ (l : List ℕ). l ++ drop gate image) front
      ∙ ap (λ (l : List ℕ). file_text batches ++ l) (drop_more image gate 0 (omega (arith, torn.no_shorter, long)) ∙ ap (λ (l : List ℕ). g ∷ l) back) in
      elim (cases_eq g 1) [
        | inl open_gate ↦ inr (stands_behind image tail (whole ∙ ap (λ (n : ℕ). file_text batches ++ n ∷ rest) open_gate))
        | inr shut ↦ inl (stands_before image g rest shut whole)
      ]

  pub batch_image : (image : List ℕ) → IsBatchImage gate text bytes image → Stands sessions leases image (all_of batches) ⊎ Stands sessions leases image (all_of batches ++ batch)
  batch_image image (inl torn) = inl (torn_batch image torn)
  batch_image image (inr torn) = torn_gate image torn

  -- and once all is on the disk
  pub written_is : with_open_gate gate text bytes ≡ file_text (batches ++ batch ∷ []) ++ 0 ∷ tail
  written_is =
      let staged = with_batch gate text bytes in
      let rest = batch_text batch ++ 0 ∷ tail in
      let front : take gate staged ≡ file_text batches = ap (take gate) staged_is ∙ take_at (file_text batches) (first ∷ rest) gate (sym place_is) in
      let back : drop (gate + 1) staged ≡ rest = ap (drop (gate + 1)) (staged_is ∙ sym (append_assoc (file_text batches) (first ∷ []) rest)) ∙ drop_at (file_text batches ++ first ∷ []) rest (gate + 1) length-front in
      ap (λ (l : List ℕ). l ++ ((1 ∷ []) ++ drop (gate + 1) staged)) front
      ∙ ap (λ (l : List ℕ). file_text batches ++ 1 ∷ l) back
      ∙ file_more batches batch (0 ∷ tail)
