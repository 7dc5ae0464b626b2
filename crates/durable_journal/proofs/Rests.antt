-- A journal at rest: how recovery comes to it, and how a record and a batch more leave it.
use Rattle.std.proofs.Common.{◌≡◌, inl, inr, ℕ, ◌+◌, ◌<◌, ◌≤◌, List, [], ◌∷◌, ◌++◌, length, take, drop, Option, Some, None, refl, sym, ap, subst, ◌∙◌, arith, append_assoc, length-append, length-drop}
use Rattle.std.specs.Prelude.{IfSome, Result, Err, IsErrOf}
use Rattle.std.specs.Option.{option_map}
use Rattle.std.specs.Int.{to_be_bytes, w32}
use Rattle.std.specs.List.{AllByRecursion}
use Rattle.std.proofs.lemmas.Grind.{flat_map-append}
use Rattle.std.proofs.lemmas.List.{append-nil, drop_all, drop-append-le, length-take}
use Rattle.lease_core.specs.declared.record.Record.{Record}
use Rattle.durable_journal.specs.declared.limits.TheConstants.{LONGEST_JOURNAL}
use Rattle.durable_journal.specs.RecordText.{record_text, records_text, head_text, head_of}
use Rattle.durable_journal.specs.Disk.{Write, Sync, History, bytes_of, after_step, with_piece, IsTorn, AllImages, CrashesLeave, CrashesLeaveIn, IsSynced, FailsToWrite}
use Rattle.durable_journal.specs.Batches.{IsReadyFor, BatchLeaves, BatchStands, HasBatchOnDisk, with_open_gate}
use Rattle.durable_journal.specs.Files.{IsLawful, IsBatch, AreBatches, AreRuns, Stands, IsDamaged, batch_text, file_text, all_of}
use Rattle.durable_journal.specs.Recovered.{IsReadToEnd}
use Rattle.durable_journal.specs.Journal.{TellsThat, IsLeftOrSame, IsBeforeOrBehind, IsAtRest, IsDraft, IsWithin, IsFound, LeavesSame, SettlesIn, file_end}
use Rattle.durable_journal.proofs.Heads.{length-head_text}
use Rattle.durable_journal.proofs.Moments.{leaves_map}
use Rattle.durable_journal.proofs.Images.{short_none, stands_once, all_more, each_more, batch_image, written_is, file_more}
use Rattle.durable_journal.proofs.Runs.{runs_front}

-- a file of at most one byte stands for nothing, whatever the byte
short_same : (sessions leases : ℕ) (bytes image : List ℕ) → length bytes ≤ 1 → length image ≤ 1 → (records : List Record) → Stands sessions leases bytes records → Stands sessions leases image records
short_same sessions leases bytes image short small records (inl stands) = inl (small, stands.1)
short_same sessions leases bytes image short small records (inr holds) = inl (small, short_none sessions leases bytes records short holds)

-- ---- before the file is read

module _ (sessions leases : ℕ) (told : History) where
  abbrev P : List ℕ → Type 0
  P = IsLeftOrSame sessions leases told

  abbrev after_sync : History
  after_sync = after_step Sync told

  at0 : AllImages P told.first told.steps
  at0 image is = inl is

  at1 : AllImages P told.first (Sync ∷ told.steps)
  at1 image is = inr (λ records stands. subst (λ (b : List ℕ). Stands sessions leases b records) (sym is) stands)

  at2 : (piece : List ℕ) → length (bytes_of told) ≤ 1 → AllImages P told.first (Write 0 1 piece ∷ (Sync ∷ told.steps))
  at2 piece short image is = inr (short_same sessions leases (bytes_of told) image short (small (subst (λ (b : List ℕ). IsTorn 0 1 b image) is.1 is.2)))
    where
      small : IsTorn 0 1 (bytes_of told) image → length image ≤ 1
      small torn = omega (arith, torn.no_longer, short)

  gated : length (bytes_of told) ≤ 1 → with_piece (bytes_of told) 0 (0 ∷ []) ≡ 0 ∷ []
  gated short = ap (λ (l : List ℕ). 0 ∷ l) (drop_all 1 (bytes_of told) short)

  at3 : length (bytes_of told) ≤ 1 → AllImages P told.first (Sync ∷ (Write 0 1 (0 ∷ []) ∷ (Sync ∷ told.steps)))
  at3 short image is = inr (short_same sessions leases (bytes_of told) image short (omega (arith, ap (λ (l : List ℕ). length l) (is ∙ gated short))))

  leave0 : CrashesLeave P told told
  leave0 = record { steps = []; first = refl; goes_on = refl; moments = at0 }

  leave1 : CrashesLeave P told (after_step Sync told)
  leave1 = record { steps = Sync ∷ []; first = refl; goes_on = refl; moments = (at1, at0) }

  leave2 : (piece : List ℕ) → length (bytes_of told) ≤ 1 → CrashesLeave P told (after_step (Write 0 1 piece) (after_step Sync told))
  leave2 piece short = record { steps = Write 0 1 piece ∷ (Sync ∷ []); first = refl; goes_on = refl; moments = (at2 piece short, (at1, at0)) }

  leave3 : length (bytes_of told) ≤ 1 → CrashesLeave P told (after_step Sync (after_step (Write 0 1 (0 ∷ [])) (after_step Sync told)))
  leave3 short = record { steps = Sync ∷ (Write 0 1 (0 ∷ []) ∷ (Sync ∷ [])); first = refl; goes_on = refl; moments = (at3 short, (at2 (0 ∷ []) short, (at1, at0))) }

abbrev synced : Option History → Option History
synced o = option_map (after_step Sync) o

abbrev gate_written : Option History → Option History
gate_written o = option_map (after_step (Write 0 1 (0 ∷ []))) o

pub same_start : (sessions leases : ℕ) (o h : Option History) → h ≡ o → LeavesSame sessions leases o h
same_start sessions leases None h is = is
same_start sessions leases (Some told) h is = subst (LeavesSame sessions leases (Some told)) (sym is) (leave0 sessions leases told)

pub same_synced : (sessions leases : ℕ) (o h : Option History) → h ≡ synced o → LeavesSame sessions leases o h
same_synced sessions leases None h is = is
same_synced sessions leases (Some told) h is = subst (LeavesSame sessions leases (Some told)) (sym is) (leave1 sessions leases told)

pub same_torn : (sessions leases : ℕ) (o h h' : Option History) (end : ℕ) → h ≡ synced o → IfSome o (λ told. end ≡ length (bytes_of told)) → end ≤ 1 → FailsToWrite 0 1 h h' → LeavesSame sessions leases o h'
same_torn sessions leases None h h' end is ends short fails = subst (λ (x : Option History). FailsToWrite 0 1 x h') is fails
same_torn sessions leases (Some told) h h' end is ends short fails = by_cases (subst (λ (x : Option History). FailsToWrite 0 1 x h') is fails)
  where
    by_cases : FailsToWrite 0 1 (Some (after_step Sync told)) h' → LeavesSame sessions leases (Some told) h'
    by_cases (inl e) = subst (LeavesSame sessions leases (Some told)) (sym e) (leave1 sessions leases told)
    by_cases (inr piece) = subst (LeavesSame sessions leases (Some told)) (sym piece.2) (leave2 sessions leases told piece.0 (omega (arith, ends, short)))

pub same_written : (sessions leases : ℕ) (o h h' : Option History) (end : ℕ) → h ≡ synced o → IfSome o (λ told. end ≡ length (bytes_of told)) → end ≤ 1 → h' ≡ gate_written h → LeavesSame sessions leases o h'
same_written sessions leases None h h' end is ends short written = written ∙ ap gate_written is
same_written sessions leases (Some told) h h' end is ends short written =
    subst (LeavesSame sessions leases (Some told)) (sym (written ∙ ap gate_written is)) (leave2 sessions leases told (0 ∷ []) (omega (arith, ends, short)))

pub same_gated : (sessions leases : ℕ) (o h h' h'' : Option History) (end : ℕ) → h ≡ synced o → IfSome o (λ told. end ≡ length (bytes_of told)) → end ≤ 1 → h' ≡ gate_written h → h'' ≡ synced h' → LeavesSame sessions leases o h''
same_gated sessions leases None h h' h'' end is ends short written last = last ∙ ap synced (written ∙ ap gate_written is)
same_gated sessions leases (Some told) h h' h'' end is ends short written last =
    subst (LeavesSame sessions leases (Some told)) (sym (last ∙ ap synced (written ∙ ap gate_written is))) (leave3 sessions leases told (omega (arith, ends, short)))

pub settles_gated : (o h h' h'' : Option History) (end : ℕ) → h ≡ synced o → IfSome o (λ told. end ≡ length (bytes_of told)) → end ≤ 1 → h' ≡ gate_written h → h'' ≡ synced h' → SettlesIn o h''
settles_gated None h h' h'' end is ends short written last = last ∙ ap synced (written ∙ ap gate_written is)
settles_gated (Some told) h h' h'' end is ends short written last = subst (SettlesIn (Some told)) (sym (last ∙ ap synced (written ∙ ap gate_written is))) (record {
  synced = λ image e. e;
  long = λ more. absurd (omega (arith, ends, short, more));
  short = λ small. gated 0 0 told small;
})

pub settles_synced : (o h : Option History) (end : ℕ) → h ≡ synced o → IfSome o (λ told. end ≡ length (bytes_of told)) → 1 < end → SettlesIn o h
settles_synced None h end is ends long = is
settles_synced (Some told) h end is ends long = subst (SettlesIn (Some told)) (sym is) (record {
  synced = λ image e. e;
  long = λ more. refl;
  short = λ small. absurd (omega (arith, ends, long, small));
})

-- the calls' conditions
pub end_after : (o h : Option History) (end : ℕ) → h ≡ synced o → IfSome h (λ told. end ≡ length (bytes_of told)) → IfSome o (λ told. end ≡ length (bytes_of told))
end_after None h end is ends = tt
end_after (Some told) h end is ends = subst (λ (x : Option History). IfSome x (λ t. end ≡ length (bytes_of t))) is ends

pub at_zero : (h : Option History) → IfSome h (λ told. 0 ≤ length (bytes_of told))
at_zero None = tt
at_zero (Some told) = omega arith

-- ---- what was found

pub rest_stands : (sessions leases gate : ℕ) (batch : List Record) (told : History) (rest : IsAtRest sessions leases gate batch told) → Stands sessions leases (bytes_of told) (all_of rest.batches)
rest_stands sessions leases gate batch told rest = inr (record {
  batches = rest.batches;
  is_file = record {
    gate = rest.first;
    behind = rest.behind;
    text = rest.text;
    closed = rest.closed;
    lawful = record { each = rest.each; runs = runs_front sessions leases (all_of rest.batches) batch rest.runs };
  };
  records_are = refl;
})

found_stands : (sessions leases gate : ℕ) (records : List Record) (told : History) → IsFound sessions leases gate records told → Stands sessions leases (bytes_of told) records
found_stands sessions leases gate records told found = subst (Stands sessions leases (bytes_of told)) (sym found.records_are) (rest_stands sessions leases gate [] told found.rest)

pub keeps_in : (sessions leases gate : ℕ) (records : List Record) (o n : Option History) → LeavesSame sessions leases o n → IfSome n (IsFound sessions leases gate records) → IfSome o (λ _. TellsThat n (λ told. Stands sessions leases (bytes_of told) records))
keeps_in sessions leases gate records None n leaves found = tt
keeps_in sessions leases gate records (Some old) None leaves found = absurd leaves
keeps_in sessions leases gate records (Some old) (Some new) leaves found = found_stands sessions leases gate records new found

pub found_rest : (sessions leases gate : ℕ) (records : List Record) (n : Option History) → IfSome n (IsFound sessions leases gate records) → IfSome n (IsAtRest sessions leases gate [])
found_rest sessions leases gate records None found = tt
found_rest sessions leases gate records (Some told) found = found.rest

-- a file of at most one byte
pub found_short : (sessions leases end : ℕ) (o n : Option History) → SettlesIn o n → IfSome o (λ told. end ≡ length (bytes_of told)) → end ≤ 1 → AreRuns sessions leases [] → IfSome n (IsFound sessions leases 0 [])
found_short sessions leases end None n settles ends short runs = subst (λ (x : Option History). IfSome x (IsFound sessions leases 0 [])) (sym settles) tt
found_short sessions leases end (Some old) None settles ends short runs = tt
found_short sessions leases end (Some old) (Some new) settles ends short runs = record {
  rest = record {
    batches = [];
    first = 0;
    behind = [];
    text = settles.short (omega (arith, ends, short));
    closed = omega arith;
    place_is = refl;
    each = tt;
    runs = runs;
    synced = settles.synced;
  };
  records_are = refl;
}

pub stands_short : (sessions leases end : ℕ) (o : Option History) → IfSome o (λ told. end ≡ length (bytes_of told)) → end ≤ 1 → IfSome o (λ told. Stands sessions leases (bytes_of told) [])
stands_short sessions leases end None ends short = tt
stands_short sessions leases end (Some told) ends short = inl (omega (arith, ends, short), refl)

pub end_settled : (end : ℕ) (o n : Option History) → SettlesIn o n → IfSome o (λ told. end ≡ length (bytes_of told)) → 1 < end → IfSome n (λ told. end ≡ length (bytes_of told))
end_settled end None n settles ends long = subst (λ (x : Option History). IfSome x (λ told. end ≡ length (bytes_of told))) (sym settles) tt
end_settled end (Some old) None settles ends long = tt
end_settled end (Some old) (Some new) settles ends long = ends ∙ ap (λ (l : List ℕ). length l) (sym (settles.long (omega (arith, ends, long))))

read_found : (sessions leases gate : ℕ) (records : List Record) (told : History) → IsSynced told → IsReadToEnd sessions leases (bytes_of told) gate records → IsFound sessions leases gate records told
read_found sessions leases gate records told is_synced end = record {
  rest = record {
    batches = end.read.batches;
    first = end.gate;
    behind = end.read.behind;
    text = end.read.text;
    closed = end.closed;
    place_is = end.read.place_is;
    each = end.read.each;
    runs = subst (AreRuns sessions leases) (end.read.records_are ∙ sym (append-nil (all_of end.read.batches))) end.runs;
    synced = is_synced;
  };
  records_are = end.read.records_are;
}

pub found_read : (sessions leases gate : ℕ) (records : List Record) (o n m : Option History) → SettlesIn o n → m ≡ n → IfSome n (λ told. IsReadToEnd sessions leases (bytes_of told) gate records) → IfSome m (IsFound sessions leases gate records)
found_read sessions leases gate records None n m settles same end = subst (λ (x : Option History). IfSome x (IsFound sessions leases gate records)) (sym (same ∙ settles)) tt
found_read sessions leases gate records (Some old) None m settles same end = absurd settles
found_read sessions leases gate records (Some old) (Some new) m settles same end =
    subst (λ (x : Option History). IfSome x (IsFound sessions leases gate records)) (sym same) (read_found sessions leases gate records new settles.synced end)

pub stands_read : (sessions leases gate : ℕ) (records : List Record) (end : ℕ) (o n : Option History) → SettlesIn o n → IfSome o (λ told. end ≡ length (bytes_of told)) → 1 < end → IfSome n (λ told. IsReadToEnd sessions leases (bytes_of told) gate records) → IfSome o (λ told. Stands sessions leases (bytes_of told) records)
stands_read sessions leases gate records end None n settles ends long read = tt
stands_read sessions leases gate records end (Some old) None settles ends long read = absurd settles
stands_read sessions leases gate records end (Some old) (Some new) settles ends long read =
    subst (λ (b : List ℕ). Stands sessions leases b records) (settles.long (omega (arith, ends, long))) (found_stands sessions leases gate records new (read_found sessions leases gate records new settles.synced read))

pub damaged_read : (sessions leases place end : ℕ) (o n : Option History) → SettlesIn o n → IfSome o (λ told. end ≡ length (bytes_of told)) → 1 < end → IfSome n (λ told. IsDamaged sessions leases (bytes_of told) place) → IfSome o (λ told. IsDamaged sessions leases (bytes_of told) place)
damaged_read sessions leases place end None n settles ends long damaged = tt
damaged_read sessions leases place end (Some old) None settles ends long damaged = absurd settles
damaged_read sessions leases place end (Some old) (Some new) settles ends long damaged =
    subst (λ (b : List ℕ). IsDamaged sessions leases b place) (settles.long (omega (arith, ends, long))) damaged

-- ---- one record more

pub rest_more : (sessions leases gate : ℕ) (batch : List Record) (event : Record) (o : Option History) → IfSome o (IsAtRest sessions leases gate batch)
    → ((kept : List Record) → TellsThat o (λ told. Stands sessions leases (bytes_of told) kept) → AreRuns sessions leases (kept ++ (batch ++ event ∷ [])))
    → IfSome o (IsAtRest sessions leases gate (batch ++ event ∷ []))
rest_more sessions leases gate batch event None rest run = tt
rest_more sessions leases gate batch event (Some told) rest run = record {
  batches = rest.batches;
  first = rest.first;
  behind = rest.behind;
  text = rest.text;
  closed = rest.closed;
  place_is = rest.place_is;
  each = rest.each;
  runs = run (all_of rest.batches) (rest_stands sessions leases gate batch told rest);
  synced = rest.synced;
}

records_push : (xs : List Record) (r : Record) → records_text (xs ++ r ∷ []) ≡ records_text xs ++ record_text r
records_push xs r = flat_map-append record_text xs (r ∷ []) ∙ ap (λ (l : List ℕ). records_text xs ++ l) (append-nil (record_text r))

lawful_push : (xs : List Record) (r : Record) → AllByRecursion IsLawful xs → IsLawful r → AllByRecursion IsLawful (xs ++ r ∷ [])
lawful_push [] r all one = (one, tt)
lawful_push (x ∷ xs) r all one = (all.0, lawful_push xs r all.1 one)

pub draft_more : (batch : List Record) (event : Record) (text new : List ℕ) → IsDraft batch text → IsLawful event → new ≡ text ++ record_text event → length new ≤ LONGEST_JOURNAL → IsDraft (batch ++ event ∷ []) new
draft_more batch event text new draft lawful is short = record {
  records = ap (drop 4) is ∙ drop-append-le 4 text (record_text event) draft.four ∙ ap (λ (l : List ℕ). l ++ record_text event) draft.records ∙ sym (records_push batch event);
  four = omega (arith, ap (λ (l : List ℕ). length l) is, length-append text (record_text event), draft.four);
  short = short;
  lawful = lawful_push batch event draft.lawful lawful;
}

pub end_is : (gate : ℕ) (batch : List Record) (event : Record) (text : List ℕ) → IsDraft batch text → file_end gate (batch ++ event ∷ []) ≡ gate + 1 + length text + 1 + 59 + length event.body
end_is gate batch event text draft =
    omega (
      arith,
      length-append (to_be_bytes w32 (length (records_text (batch ++ event ∷ [])))) (records_text (batch ++ event ∷ [])),
      ap (λ (l : List ℕ). length l) (records_push batch event),
      length-append (records_text batch) (record_text event),
      length-append (head_text (head_of event)) event.body,
      length-head_text (head_of event),
      ap (λ (l : List ℕ). length l) draft.records,
      length-drop 4 text,
      draft.four,
    )

-- ---- a batch that is put on the disk

pub rest_ready : (sessions leases gate : ℕ) (batch : List Record) (o : Option History) → IfSome o (IsAtRest sessions leases gate batch) → IfSome o (IsReadyFor gate)
rest_ready sessions leases gate batch None rest = tt
rest_ready sessions leases gate batch (Some told) rest = record {
  inside = omega (arith, rest.place_is, ap (λ (l : List ℕ). length l) rest.text, length-append (file_text rest.batches) (rest.first ∷ rest.behind));
  synced = rest.synced;
}

pub sealed_is : (batch : List Record) (text sealed : List ℕ) → IsDraft batch text → sealed ≡ to_be_bytes w32 (length (drop 4 text)) ++ (drop 4 text ++ 0 ∷ []) → sealed ≡ batch_text batch ++ 0 ∷ []
sealed_is batch text sealed draft is =
    is ∙ ap (λ (l : List ℕ). to_be_bytes w32 (length l) ++ (l ++ 0 ∷ [])) draft.records ∙ sym (append_assoc (to_be_bytes w32 (length (records_text batch))) (records_text batch) (0 ∷ []))

draft_batch : (batch : List Record) (text : List ℕ) → IsDraft batch text → IsBatch batch
draft_batch batch text draft = record { lawful = draft.lawful; short = omega (arith, draft.short, ap (λ (l : List ℕ). length l) draft.records, length-drop 4 text) }

module _ (sessions leases gate : ℕ) (batch : List Record) (text sealed : List ℕ) (draft : IsDraft batch text) (is : sealed ≡ to_be_bytes w32 (length (drop 4 text)) ++ (drop 4 text ++ 0 ∷ [])) where
  lawful_with : (told : History) (rest : IsAtRest sessions leases gate batch told) → AreBatches sessions leases (rest.batches ++ batch ∷ [])
  lawful_with told rest = record {
    each = each_more rest.batches batch rest.each (draft_batch batch text draft);
    runs = subst (AreRuns sessions leases) (sym (all_more rest.batches batch)) rest.runs;
  }

  seal_text : sealed ≡ batch_text batch ++ 0 ∷ []
  seal_text = sealed_is batch text sealed draft is

  written : (old new : History) (rest : IsAtRest sessions leases gate batch old) → HasBatchOnDisk gate sealed old new → bytes_of new ≡ file_text (rest.batches ++ batch ∷ []) ++ 0 ∷ drop (gate + 1 + length (batch_text batch ++ 0 ∷ [])) (bytes_of old)
  written old new rest has =
      has.bytes
      ∙ ap (λ (l : List ℕ). with_open_gate gate l (bytes_of old)) seal_text
      ∙ written_is sessions leases gate (bytes_of old) rest.behind rest.first rest.batches batch rest.text rest.closed rest.place_is (lawful_with old rest)

  lengths : (old : History) (rest : IsAtRest sessions leases gate batch old) → gate + length sealed ≡ length (file_text (rest.batches ++ batch ∷ []))
  lengths old rest =
      omega (
        arith,
        rest.place_is,
        ap (λ (l : List ℕ). length l) seal_text,
        length-append (batch_text batch) (0 ∷ []),
        ap (λ (l : List ℕ). length l) (file_more rest.batches batch []),
        length-append (file_text (rest.batches ++ batch ∷ [])) [],
        length-append (file_text rest.batches) (1 ∷ (batch_text batch ++ [])),
        length-append (batch_text batch) [],
      )

  pub rest_written : (o n : Option History) → IfSome o (IsAtRest sessions leases gate batch) → BatchStands gate sealed o n → IfSome n (IsAtRest sessions leases (gate + length sealed) [])
  rest_written None n rest stands = subst (λ (x : Option History). IfSome x (IsAtRest sessions leases (gate + length sealed) [])) (sym stands) tt
  rest_written (Some old) None rest stands = tt
  rest_written (Some old) (Some new) rest stands = record {
    batches = rest.batches ++ batch ∷ [];
    first = 0;
    behind = drop (gate + 1 + length (batch_text batch ++ 0 ∷ [])) (bytes_of old);
    text = written old new rest stands;
    closed = omega arith;
    place_is = lengths old rest;
    each = (lawful_with old rest).each;
    runs = subst (AreRuns sessions leases) (sym (append-nil (all_of (rest.batches ++ batch ∷ [])))) (lawful_with old rest).runs;
    synced = stands.synced;
  }

  same_kept : (old : History) (rest : IsAtRest sessions leases gate batch old) (kept : List Record) → Stands sessions leases (bytes_of old) kept → kept ≡ all_of rest.batches
  same_kept old rest kept stands = stands_once sessions leases (bytes_of old) kept (all_of rest.batches) stands (rest_stands sessions leases gate batch old rest)

  pub kept_written : (o n : Option History) → IfSome o (IsAtRest sessions leases gate batch) → BatchStands gate sealed o n → (kept : List Record) → TellsThat o (λ told. Stands sessions leases (bytes_of told) kept) → TellsThat n (λ told. Stands sessions leases (bytes_of told) (kept ++ batch))
  kept_written None n rest stands kept keeps = absurd keeps
  kept_written (Some old) None rest stands kept keeps = absurd stands
  kept_written (Some old) (Some new) rest stands kept keeps = inr (record {
    batches = rest.batches ++ batch ∷ [];
    is_file = record { gate = 0; behind = drop (gate + 1 + length (batch_text batch ++ 0 ∷ [])) (bytes_of old); text = written old new rest stands; closed = omega arith; lawful = lawful_with old rest };
    records_are = ap (λ (l : List Record). l ++ batch) (same_kept old rest kept keeps) ∙ sym (all_more rest.batches batch);
  })

  pub moments_written : (o n : Option History) → IfSome o (IsAtRest sessions leases gate batch) → BatchLeaves gate sealed o n → (kept : List Record) → TellsThat o (λ told. Stands sessions leases (bytes_of told) kept) → CrashesLeaveIn (IsBeforeOrBehind sessions leases kept batch) o n
  moments_written None n rest leaves kept keeps = absurd keeps
  moments_written (Some old) None rest leaves kept keeps = absurd leaves
  moments_written (Some old) (Some new) rest leaves kept keeps =
      leaves_map _ _ old new
      (λ image left. subst (λ (l : List Record). IsBeforeOrBehind sessions leases l batch image) (sym (same_kept old rest kept keeps))
      (batch_image sessions leases gate (bytes_of old) rest.behind rest.first rest.batches batch rest.text rest.closed rest.place_is (lawful_with old rest) image
      left))
      (subst (λ (l : List ℕ). BatchLeaves gate l (Some old) (Some new)) seal_text leaves)

-- an empty batch leaves all as it is
pub idle_kept : (sessions leases gate : ℕ) (batch : List Record) (o : Option History) → IfSome o (IsAtRest sessions leases gate batch) → batch ≡ [] → (kept : List Record) → TellsThat o (λ told. Stands sessions leases (bytes_of told) kept) → TellsThat o (λ told. Stands sessions leases (bytes_of told) (kept ++ batch))
idle_kept sessions leases gate batch None rest none kept keeps = absurd keeps
idle_kept sessions leases gate batch (Some told) rest none kept keeps = subst (Stands sessions leases (bytes_of told)) (sym (ap (λ (l : List Record). kept ++ l) none ∙ append-nil kept)) keeps

pub idle_moments : (sessions leases gate : ℕ) (batch : List Record) (o : Option History) → IfSome o (IsAtRest sessions leases gate batch) → (kept : List Record) → TellsThat o (λ told. Stands sessions leases (bytes_of told) kept) → CrashesLeaveIn (IsBeforeOrBehind sessions leases kept batch) o o
idle_moments sessions leases gate batch None rest kept keeps = absurd keeps
idle_moments sessions leases gate batch (Some told) rest kept keeps = record {
  steps = [];
  first = refl;
  goes_on = refl;
  moments = λ image is. inl (subst (λ (b : List ℕ). Stands sessions leases b kept) (sym (rest.synced image is)) keeps);
}

pub draft_none : (text : List ℕ) → 4 ≤ length text → IsDraft [] (take 4 text)
draft_none text long = record {
  records = drop_all 4 (take 4 text) (omega (arith, length-take 4 text));
  four = omega (arith, length-take 4 text, long);
  short = omega (arith, length-take 4 text);
  lawful = tt;
}

pub text_len : (text new : List ℕ) (event : Record) → new ≡ text ++ record_text event → length new ≡ length text + 59 + length event.body
text_len text new event is =
    omega (arith, ap (λ (l : List ℕ). length l) is, length-append text (record_text event), length-append (head_text (head_of event)) event.body, length-head_text (head_of event))

pub within_some : (gate : ℕ) (batch : List Record) (text : List ℕ) → IsWithin gate batch text → 0 < length batch → gate + length text + 1 ≤ LONGEST_JOURNAL
within_some gate batch text (inl none) some = omega (arith, some, ap (λ (l : List Record). length l) none)
within_some gate batch text (inr within) some = within

-- an error that is handed on is the same one
pub err_same : {T S E : Type 0} (r : Result T E) (y e x : E) → r ≡ Err y → y ≡ e → r ≡ Err x → IsErrOf {T = S} (Err e) x
err_same {T} {S} {E} r y e x was same is =
    let injected : y ≡ x = grind (arith, was, is) in
    let all : e ≡ x = sym same ∙ injected in
    subst (λ (z : E). IsErrOf {T = S} (Err e) z) all refl
