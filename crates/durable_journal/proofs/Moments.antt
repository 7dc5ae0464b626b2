-- What a crash leaves at each moment while a batch is written.
use Rattle.std.proofs.Common.{◌≡◌, inl, inr, ℕ, ◌+◌, ◌≤◌, List, [], ◌∷◌, ◌++◌, length, take, drop, Option, Some, None, refl, sym, ap, subst, ◌∙◌, arith, append_assoc, length-append, length-drop}
use Rattle.std.specs.Prelude.{max, IfSome}
use Rattle.std.specs.Option.{option_map}
use Rattle.std.proofs.lemmas.List.{take_at, drop_at, length-take-le}
use Rattle.durable_journal.specs.Disk.{Step, Write, Sync, History, bytes_of, with_piece, after_step, IsTorn, AllImages, AllMoments, CrashesLeave, FailsToWrite}
use Rattle.durable_journal.specs.Batches.{IsReadyFor, with_batch, IsBatchImage, BatchLeaves, HasBatchOnDisk, BatchStands, after_batch}

pub torn_same : (at size : ℕ) (b : List ℕ) → IsTorn at size b b
torn_same at size b = record { before = refl; behind = refl; no_shorter = omega arith; no_longer = omega arith }

pub length-with_piece : (b : List ℕ) (at : ℕ) (p : List ℕ) → at ≤ length b → length (with_piece b at p) ≡ max (length b) (at + length p)
length-with_piece b at p inside =
    let rest = drop (at + length p) b in
    omega (arith, length-append (take at b) (p ++ rest), length-append p rest, length-take-le at b inside, length-drop (at + length p) b)

pub torn_piece : (at : ℕ) (b p : List ℕ) → at ≤ length b → IsTorn at (length p) b (with_piece b at p)
torn_piece at b p inside =
    let rest = drop (at + length p) b in
    let front : length (take at b) ≡ at = length-take-le at b inside in
    record {
      before = take_at (take at b) (p ++ rest) at front;
      behind = ap (drop (at + length p)) (sym (append_assoc (take at b) p rest)) ∙ drop_at (take at b ++ p) rest (at + length p) (omega (arith, length-append (take at b) p, front));
      no_shorter = omega (arith, length-with_piece b at p inside);
      no_longer = omega (arith, length-with_piece b at p inside);
    }

module _ (gate : ℕ) (text : List ℕ) (told : History) (ready : IsReadyFor gate told) where
  abbrev old : List ℕ
  old = bytes_of told

  abbrev P : List ℕ → Type 0
  P = IsBatchImage gate text (bytes_of told)

  abbrev staged : List ℕ
  staged = with_batch gate text (bytes_of told)

  abbrev first_write : List ℕ → Step
  first_write piece = Write (gate + 1) (length text) piece

  abbrev synced_steps : List Step
  synced_steps = Sync ∷ (Write (gate + 1) (length text) text ∷ told.steps)

  at0 : AllImages P told.first told.steps
  at0 image is = inl (subst (λ (x : List ℕ). IsTorn (gate + 1) (length text) old x) (sym (ready.synced image is)) (torn_same (gate + 1) (length text) old))

  at1 : (piece : List ℕ) → AllImages P told.first (Write (gate + 1) (length text) piece ∷ told.steps)
  at1 piece image is = inl (subst (λ (x : List ℕ). IsTorn (gate + 1) (length text) x image) (ready.synced is.0 is.1) is.2)

  inside : gate + 1 ≤ length old
  inside = omega (arith, ready.inside)

  at2 : AllImages P told.first synced_steps
  at2 image is = inl (subst (λ (x : List ℕ). IsTorn (gate + 1) (length text) old x) (sym is) (torn_piece (gate + 1) old text inside))

  at3 : (piece : List ℕ) → AllImages P told.first (Write gate 1 piece ∷ synced_steps)
  at3 piece image is = inr (subst (λ (x : List ℕ). IsTorn gate 1 x image) is.1 is.2)

  inside_staged : gate ≤ length staged
  inside_staged = omega (arith, length-with_piece old (gate + 1) text inside, inside)

  at4 : AllImages P told.first (Sync ∷ (Write gate 1 (1 ∷ []) ∷ synced_steps))
  at4 image is = inr (subst (λ (x : List ℕ). IsTorn gate 1 staged x) (sym is) (torn_piece gate staged (1 ∷ []) inside_staged))

  abbrev told1 : List ℕ → History
  told1 piece = after_step (Write (gate + 1) (length text) piece) told

  abbrev told2 : History
  told2 = after_step Sync (after_step (Write (gate + 1) (length text) text) told)

  abbrev told3 : List ℕ → History
  told3 piece = after_step (Write gate 1 piece) (after_step Sync (after_step (Write (gate + 1) (length text) text) told))

  abbrev told4 : History
  told4 = after_step Sync (after_step (Write gate 1 (1 ∷ [])) (after_step Sync (after_step (Write (gate + 1) (length text) text) told)))

  leave0 : CrashesLeave P told told
  leave0 = record { steps = []; first = refl; goes_on = refl; moments = at0 }

  leave1 : (piece : List ℕ) → CrashesLeave P told (told1 piece)
  leave1 piece = record { steps = Write (gate + 1) (length text) piece ∷ []; first = refl; goes_on = refl; moments = (at1 piece, at0) }

  leave2 : CrashesLeave P told told2
  leave2 = record { steps = Sync ∷ (Write (gate + 1) (length text) text ∷ []); first = refl; goes_on = refl; moments = (at2, (at1 text, at0)) }

  leave3 : (piece : List ℕ) → CrashesLeave P told (told3 piece)
  leave3 piece = record { steps = Write gate 1 piece ∷ (Sync ∷ (Write (gate + 1) (length text) text ∷ [])); first = refl; goes_on = refl; moments = (at3 piece, (at2, (at1 text, at0))) }

  leave4 : CrashesLeave P told told4
  leave4 = record { steps = Sync ∷ (Write gate 1 (1 ∷ []) ∷ (Sync ∷ (Write (gate + 1) (length text) text ∷ []))); first = refl; goes_on = refl; moments = (at4, (at3 (1 ∷ []), (at2, (at1 text, at0)))) }

  stands4 : HasBatchOnDisk gate text told told4
  stands4 = record { bytes = refl; synced = λ image is. is }

-- the steps of a disk that tells its history, or nothing
abbrev wrote : ℕ → ℕ → List ℕ → Option History → Option History
wrote at size piece o = option_map (after_step (Write at size piece)) o

abbrev synced : Option History → Option History
synced o = option_map (after_step Sync) o

pub first_inside : (gate : ℕ) (o : Option History) → IfSome o (IsReadyFor gate) → IfSome o (λ told. gate + 1 ≤ length (bytes_of told))
first_inside gate None ready = tt
first_inside gate (Some told) ready = omega (arith, ready.inside)

pub second_inside : (gate : ℕ) (text : List ℕ) (o h1 h2 : Option History) → IfSome o (IsReadyFor gate) → h1 ≡ wrote (gate + 1) (length text) text o → h2 ≡ synced h1 → IfSome h2 (λ told. gate ≤ length (bytes_of told))
second_inside gate text None h1 h2 ready e1 e2 = subst (λ (h : Option History). IfSome h (λ told. gate ≤ length (bytes_of told))) (sym (e2 ∙ ap synced e1)) tt
second_inside gate text (Some told) h1 h2 ready e1 e2 =
    subst (λ (h : Option History). IfSome h (λ told. gate ≤ length (bytes_of told))) (sym (e2 ∙ ap synced e1)) (omega (arith, ready.inside, length-with_piece (bytes_of told) (gate + 1) text (omega (arith, ready.inside))))

pub first_fails : (gate : ℕ) (text : List ℕ) (o h1 : Option History) → IfSome o (IsReadyFor gate) → FailsToWrite (gate + 1) (length text) o h1 → BatchLeaves gate text o h1
first_fails gate text None h1 ready fails = fails
first_fails gate text (Some told) h1 ready (inl e) = subst (BatchLeaves gate text (Some told)) (sym e) (leave0 gate text told ready)
first_fails gate text (Some told) h1 ready (inr piece) = subst (BatchLeaves gate text (Some told)) (sym piece.2) (leave1 gate text told ready piece.0)

pub second_fails : (gate : ℕ) (text : List ℕ) (o h1 h2 : Option History) → IfSome o (IsReadyFor gate) → h1 ≡ wrote (gate + 1) (length text) text o → h2 ≡ h1 → BatchLeaves gate text o h2
second_fails gate text None h1 h2 ready e1 e2 = e2 ∙ e1
second_fails gate text (Some told) h1 h2 ready e1 e2 = subst (BatchLeaves gate text (Some told)) (sym (e2 ∙ e1)) (leave1 gate text told ready text)

pub third_fails : (gate : ℕ) (text : List ℕ) (o h1 h2 h3 : Option History) → IfSome o (IsReadyFor gate) → h1 ≡ wrote (gate + 1) (length text) text o → h2 ≡ synced h1 → FailsToWrite gate 1 h2 h3 → BatchLeaves gate text o h3
third_fails gate text None h1 h2 h3 ready e1 e2 fails = subst (λ (h : Option History). FailsToWrite gate 1 h h3) (e2 ∙ ap synced e1) fails
third_fails gate text (Some told) h1 h2 h3 ready e1 e2 fails = by_cases (subst (λ (h : Option History). FailsToWrite gate 1 h h3) (e2 ∙ ap synced e1) fails)
  where
    by_cases : FailsToWrite gate 1 (Some (told2 gate text told ready)) h3 → BatchLeaves gate text (Some told) h3
    by_cases (inl e) = subst (BatchLeaves gate text (Some told)) (sym e) (leave2 gate text told ready)
    by_cases (inr piece) = subst (BatchLeaves gate text (Some told)) (sym piece.2) (leave3 gate text told ready piece.0)

pub fourth_fails : (gate : ℕ) (text : List ℕ) (o h1 h2 h3 h4 : Option History) → IfSome o (IsReadyFor gate) → h1 ≡ wrote (gate + 1) (length text) text o → h2 ≡ synced h1 → h3 ≡ wrote gate 1 (1 ∷ []) h2 → h4 ≡ h3 → BatchLeaves gate text o h4
fourth_fails gate text None h1 h2 h3 h4 ready e1 e2 e3 e4 = e4 ∙ e3 ∙ ap (wrote gate 1 (1 ∷ [])) (e2 ∙ ap synced e1)
fourth_fails gate text (Some told) h1 h2 h3 h4 ready e1 e2 e3 e4 =
    subst (BatchLeaves gate text (Some told)) (sym (e4 ∙ e3 ∙ ap (wrote gate 1 (1 ∷ [])) (e2 ∙ ap synced e1))) (leave3 gate text told ready (1 ∷ []))

pub all_leaves : (gate : ℕ) (text : List ℕ) (o h1 h2 h3 h4 : Option History) → IfSome o (IsReadyFor gate) → h1 ≡ wrote (gate + 1) (length text) text o → h2 ≡ synced h1 → h3 ≡ wrote gate 1 (1 ∷ []) h2 → h4 ≡ synced h3 → BatchLeaves gate text o h4
all_leaves gate text None h1 h2 h3 h4 ready e1 e2 e3 e4 = e4 ∙ ap synced (e3 ∙ ap (wrote gate 1 (1 ∷ [])) (e2 ∙ ap synced e1))
all_leaves gate text (Some told) h1 h2 h3 h4 ready e1 e2 e3 e4 =
    subst (BatchLeaves gate text (Some told)) (sym (e4 ∙ ap synced (e3 ∙ ap (wrote gate 1 (1 ∷ [])) (e2 ∙ ap synced e1)))) (leave4 gate text told ready)

pub all_stands : (gate : ℕ) (text : List ℕ) (o h1 h2 h3 h4 : Option History) → IfSome o (IsReadyFor gate) → h1 ≡ wrote (gate + 1) (length text) text o → h2 ≡ synced h1 → h3 ≡ wrote gate 1 (1 ∷ []) h2 → h4 ≡ synced h3 → BatchStands gate text o h4
all_stands gate text None h1 h2 h3 h4 ready e1 e2 e3 e4 = e4 ∙ ap synced (e3 ∙ ap (wrote gate 1 (1 ∷ [])) (e2 ∙ ap synced e1))
all_stands gate text (Some told) h1 h2 h3 h4 ready e1 e2 e3 e4 =
    subst (BatchStands gate text (Some told)) (sym (e4 ∙ ap synced (e3 ∙ ap (wrote gate 1 (1 ∷ [])) (e2 ∙ ap synced e1)))) (stands4 gate text told ready)

-- how a batch that can be left at each moment is told in other words
pub moments_map : (P Q : List ℕ → Type 0) (first : List ℕ) (older steps : List Step) → ((image : List ℕ) → P image → Q image) → AllMoments P first older steps → AllMoments Q first older steps
moments_map P Q first older [] f all = λ image is. f image (all image is)
moments_map P Q first older (step ∷ steps) f all = (λ image is. f image (all.0 image is), moments_map P Q first older steps f all.1)

pub leaves_map : (P Q : List ℕ → Type 0) (old new : History) → ((image : List ℕ) → P image → Q image) → CrashesLeave P old new → CrashesLeave Q old new
leaves_map P Q old new f l = record { steps = l.steps; first = l.first; goes_on = l.goes_on; moments = moments_map P Q old.first old.steps l.steps f l.moments }

pub all_steps : (gate : ℕ) (text : List ℕ) (o h1 h2 h3 h4 : Option History) → h1 ≡ wrote (gate + 1) (length text) text o → h2 ≡ synced h1 → h3 ≡ wrote gate 1 (1 ∷ []) h2 → h4 ≡ synced h3 → h4 ≡ option_map (after_batch gate text) o
all_steps gate text None h1 h2 h3 h4 e1 e2 e3 e4 = e4 ∙ ap synced (e3 ∙ ap (wrote gate 1 (1 ∷ [])) (e2 ∙ ap synced e1))
all_steps gate text (Some told) h1 h2 h3 h4 e1 e2 e3 e4 = e4 ∙ ap synced (e3 ∙ ap (wrote gate 1 (1 ∷ [])) (e2 ∙ ap synced e1))
