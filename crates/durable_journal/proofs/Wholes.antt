-- What is read behind an open gate.
use Rattle.std.proofs.Common.{◌≡◌, ◌≢◌, ℕ, ◌+◌, ◌-◌, ◌<◌, ◌≤◌, ◌^◌, List, [], ◌∷◌, ◌++◌, length, take, drop, get_or, Option, Some, None, refl, sym, ap, subst, ◌∙◌, arith, append_assoc, length-append, length-drop, take-append-drop}
use Rattle.std.specs.Prelude.{IfSome}
use Rattle.std.specs.Int.{to_be_bytes, w32}
use Rattle.std.specs.List.{AllByRecursion}
use Rattle.std.proofs.lemmas.List.{append-nil, take_at, drop-drop, drop_more, drop_all, length-take}
use Rattle.lease_core.specs.declared.record.Record.{Record}
use Rattle.durable_journal.specs.RecordText.{records_text}
use Rattle.durable_journal.specs.Disk.{History, bytes_of}
use Rattle.durable_journal.specs.Files.{IsBatch, AreRuns, IsDamaged, batch_text, file_text}
use Rattle.durable_journal.specs.Recovered.{ReadSoFar, GoesOn, GoesNowhere, IsWhole, IsCutShort, HasBatch, TakesBatch, TakesNone, IsReadTo, IsReadToEnd}
use Rattle.durable_journal.proofs.Heads.{same_front, same_rest, once_32}
use Rattle.durable_journal.proofs.Images.{file_more, all_more, each_more}

-- four bytes tell how many follow, and these and one more are there
whole_text : (more told text : List ℕ) (size : ℕ) → told ≡ take 4 more → told ≡ to_be_bytes w32 size ++ [] → text ≡ take (size + 1) (drop 4 more) → size < 2 ^ 32 → size + 5 ≤ length more → IsWhole more text
whole_text more told text size front tells is small long = record {
  size = size;
  behind = drop (size + 1) (drop 4 more);
  told = small;
  length_is = omega (arith, ap (λ (l : List ℕ). length l) is, length-take (size + 1) (drop 4 more), length-drop 4 more, long);
  bytes =
      sym (take-append-drop 4 more)
      ∙ ap (λ (l : List ℕ). l ++ drop 4 more) (sym front ∙ tells ∙ append-nil (to_be_bytes w32 size))
      ∙ ap (λ (l : List ℕ). to_be_bytes w32 size ++ l) (sym (take-append-drop (size + 1) (drop 4 more)) ∙ ap (λ (l : List ℕ). l ++ drop (size + 1) (drop 4 more)) (sym is));
}

pub whole_in : (h : Option History) (gate end size : ℕ) (told text : List ℕ) → IfSome h (λ t. end ≡ length (bytes_of t)) → IfSome h (λ t. told ≡ take 4 (drop (gate + 1) (bytes_of t))) → told ≡ to_be_bytes w32 size ++ []
    → IfSome h (λ t. text ≡ take (size + 1) (drop (gate + 1 + 4) (bytes_of t))) → size < 2 ^ 32 → gate + size + 6 ≤ end → IfSome h (λ t. IsWhole (drop (gate + 1) (bytes_of t)) text)
whole_in None gate end size told text ends front tells is small long = tt
whole_in (Some t) gate end size told text ends front tells is small long =
    whole_text (drop (gate + 1) (bytes_of t)) told text size front tells (is ∙ ap (take (size + 1)) (sym (drop-drop 4 (gate + 1) (bytes_of t)))) small (omega (arith, ends, long, length-drop (gate + 1) (bytes_of t)))

pub short_in : (h : Option History) (gate end : ℕ) → IfSome h (λ t. end ≡ length (bytes_of t)) → end ≤ gate + 1 + 4 → IfSome h (λ t. IsCutShort (drop (gate + 1) (bytes_of t)))
short_in None gate end ends short = tt
short_in (Some t) gate end ends short = λ records g behind small is.
    omega (arith, ends, short, length-drop (gate + 1) (bytes_of t), ap (λ (l : List ℕ). length l) is, length-append records (g ∷ behind), length-append (to_be_bytes w32 (length records)) (records ++ g ∷ behind))

pub cut_in : (h : Option History) (gate end size : ℕ) (told : List ℕ) → IfSome h (λ t. end ≡ length (bytes_of t)) → IfSome h (λ t. told ≡ take 4 (drop (gate + 1) (bytes_of t))) → told ≡ to_be_bytes w32 size ++ [] → size < 2 ^ 32
    → gate + 1 + 4 < end → end ≤ gate + size + 5 → IfSome h (λ t. IsCutShort (drop (gate + 1) (bytes_of t)))
cut_in None gate end size told ends front tells small some short = tt
cut_in (Some t) gate end size told ends front tells small some short = λ records g behind fits is.
    let more = drop (gate + 1) (bytes_of t) in
    let told_is : to_be_bytes w32 (length records) ≡ to_be_bytes w32 size =
    sym (take_at (to_be_bytes w32 (length records)) (records ++ g ∷ behind) 4 refl) ∙ ap (take 4) (sym is) ∙ sym front ∙ tells ∙ append-nil (to_be_bytes w32 size) in
    let same : length records ≡ size = once_32 (length records) size fits small told_is in
    omega (arith, ends, short, same, length-drop (gate + 1) (bytes_of t), ap (λ (l : List ℕ). length l) is, length-append records (g ∷ behind), length-append (to_be_bytes w32 (length records)) (records ++ g ∷ behind))

-- the records of a whole text, and the gate behind them
last_of : (text : List ℕ) (n : ℕ) → length text ≡ n + 1 → text ≡ take n text ++ get_or text n 0 ∷ []
last_of text n long =
    sym (take-append-drop n text) ∙ ap (λ (l : List ℕ). take n text ++ l) (drop_more text n 0 (omega (arith, long)) ∙ ap (λ (l : List ℕ). get_or text n 0 ∷ l) (drop_all (n + 1) text (omega (arith, long))))

takes : (more text : List ℕ) (next : ℕ) (old new : ReadSoFar) → IsWhole more text → next ≡ get_or text (length text - 1) 0 → GoesOn (take (length text - 1) text) old new → TakesBatch more next (length text - 1) old new
takes more text next old new whole gate goes =
    let n : length text - 1 ≡ whole.size = omega (arith, whole.length_is) in
    let records : take whole.size text ≡ records_text goes.batch = ap (λ (k : ℕ). take k text) (sym n) ∙ goes.text in
    let size_is : whole.size ≡ length (records_text goes.batch) = omega (arith, whole.length_is, ap (λ (l : List ℕ). length l) records, length-take whole.size text) in
    let gate_is : get_or text whole.size 0 ≡ next = ap (λ (k : ℕ). get_or text k 0) (sym n) ∙ sym gate in
    let text_is : text ≡ records_text goes.batch ++ next ∷ [] = last_of text whole.size whole.length_is ∙ (λ i. records i ++ gate_is i ∷ []) in
    record {
      batch = goes.batch;
      found = record {
        behind = whole.behind;
        text =
            whole.bytes
            ∙ (λ i. to_be_bytes w32 (size_is i) ++ (text_is i ++ whole.behind))
            ∙ ap (λ (l : List ℕ). to_be_bytes w32 (length (records_text goes.batch)) ++ l) (append_assoc (records_text goes.batch) (next ∷ []) whole.behind)
            ∙ sym (append_assoc (to_be_bytes w32 (length (records_text goes.batch))) (records_text goes.batch) (next ∷ whole.behind));
        is_batch = record { lawful = goes.lawful; short = omega (arith, whole.told, size_is) };
      };
      size_is = n ∙ size_is;
      records = goes.records;
    }

pub takes_in : (h : Option History) (gate : ℕ) (text : List ℕ) (next : ℕ) (old new : ReadSoFar) → IfSome h (λ t. IsWhole (drop (gate + 1) (bytes_of t)) text) → next ≡ get_or text (length text - 1) 0 → GoesOn (take (length text - 1) text) old new → IfSome h (λ t. TakesBatch (drop (gate + 1) (bytes_of t)) next (length text - 1) old new)
takes_in None gate text next old new whole is goes = tt
takes_in (Some t) gate text next old new whole is goes = takes (drop (gate + 1) (bytes_of t)) text next old new whole is goes

batch_behind : (more : List ℕ) (g : ℕ) (batch : List Record) (found : HasBatch more g batch) → more ≡ to_be_bytes w32 (length (records_text batch)) ++ (records_text batch ++ g ∷ found.behind)
batch_behind more g batch found = found.text ∙ append_assoc (to_be_bytes w32 (length (records_text batch))) (records_text batch) (g ∷ found.behind)

pub none_cut_in : (h : Option History) (gate : ℕ) (old : ReadSoFar) → IfSome h (λ t. IsCutShort (drop (gate + 1) (bytes_of t))) → IfSome h (λ t. TakesNone (drop (gate + 1) (bytes_of t)) old)
none_cut_in None gate old cut = tt
none_cut_in (Some t) gate old cut = λ batch g found runs. cut (records_text batch) g found.behind found.is_batch.short (batch_behind (drop (gate + 1) (bytes_of t)) g batch found)

none_nowhere : (more text : List ℕ) (old : ReadSoFar) → IsWhole more text → GoesNowhere (take (length text - 1) text) old → TakesNone more old
none_nowhere more text old whole nowhere batch g found runs =
    let na = to_be_bytes w32 whole.size in
    let nb = to_be_bytes w32 (length (records_text batch)) in
    let is : na ++ (text ++ whole.behind) ≡ nb ++ (records_text batch ++ g ∷ found.behind) = sym whole.bytes ∙ batch_behind more g batch found in
    let size_is : whole.size ≡ length (records_text batch) = once_32 whole.size (length (records_text batch)) whole.told found.is_batch.short (same_front na nb (text ++ whole.behind) (records_text batch ++ g ∷ found.behind) refl is) in
    let behind : text ++ whole.behind ≡ records_text batch ++ g ∷ found.behind = same_rest na nb (text ++ whole.behind) (records_text batch ++ g ∷ found.behind) refl is in
    let n : length text - 1 ≡ whole.size = omega (arith, whole.length_is) in
    let split : text ≡ take whole.size text ++ get_or text whole.size 0 ∷ [] = last_of text whole.size whole.length_is in
    let apart : take whole.size text ++ (get_or text whole.size 0 ∷ whole.behind) ≡ records_text batch ++ g ∷ found.behind =
    sym (append_assoc (take whole.size text) (get_or text whole.size 0 ∷ []) whole.behind) ∙ ap (λ (l : List ℕ). l ++ whole.behind) (sym split) ∙ behind in
    let records : take whole.size text ≡ records_text batch =
    same_front (take whole.size text) (records_text batch) (get_or text whole.size 0 ∷ whole.behind) (g ∷ found.behind) (omega (arith, size_is, whole.length_is, length-take whole.size text)) apart in
    nowhere batch found.is_batch.lawful (ap (λ (k : ℕ). take k text) n ∙ records) runs

pub none_nowhere_in : (h : Option History) (gate : ℕ) (text : List ℕ) (old : ReadSoFar) → IfSome h (λ t. IsWhole (drop (gate + 1) (bytes_of t)) text) → GoesNowhere (take (length text - 1) text) old → IfSome h (λ t. TakesNone (drop (gate + 1) (bytes_of t)) old)
none_nowhere_in None gate text old whole nowhere = tt
none_nowhere_in (Some t) gate text old whole nowhere = none_nowhere (drop (gate + 1) (bytes_of t)) text old whole nowhere

-- ---- batch by batch

-- at the file's first byte
pub read_first : (h : Option History) (byte : List ℕ) → IfSome h (λ t. 0 < length (bytes_of t)) → IfSome h (λ t. byte ≡ take 1 (drop 0 (bytes_of t))) → IfSome h (λ t. IsReadTo (bytes_of t) 0 (get_or byte 0 0) [])
read_first None byte some is = tt
read_first (Some t) byte some is = record {
  batches = [];
  behind = drop 1 (bytes_of t);
  text = drop_more (bytes_of t) 0 0 some ∙ ap (λ (n : ℕ). n ∷ drop 1 (bytes_of t)) first;
  place_is = refl;
  each = tt;
  records_are = refl;
}
  where
    cells : take 1 (bytes_of t) ≡ get_or (bytes_of t) 0 0 ∷ []
    cells = ap (take 1) (drop_more (bytes_of t) 0 0 some)

    first : get_or (bytes_of t) 0 0 ≡ get_or byte 0 0
    first = ap (λ (l : List ℕ). get_or l 0 0) (sym cells ∙ sym is)

behind_gate : (file : List ℕ) (place gate : ℕ) (records : List Record) (read : IsReadTo file place gate records) → drop (place + 1) file ≡ read.behind
behind_gate file place gate records read =
    ap (drop (place + 1)) (read.text ∙ sym (append_assoc (file_text read.batches) (gate ∷ []) read.behind))
    ∙ dropped (file_text read.batches ++ gate ∷ []) read.behind (place + 1) (omega (arith, read.place_is, length-append (file_text read.batches) (gate ∷ [])))
  where
    dropped : (p q : List ℕ) (n : ℕ) → length p ≡ n → drop n (p ++ q) ≡ q
    dropped p q n len = sym (same_rest p (take n (p ++ q)) q (drop n (p ++ q)) (len ∙ omega (arith, len, length-take n (p ++ q), length-append p q)) (sym (take-append-drop n (p ++ q))))

step : (file : List ℕ) (place next size : ℕ) (old new : ReadSoFar) → IsReadTo file place 1 old.records → TakesBatch (drop (place + 1) file) next size old new → IsReadTo file (place + 4 + (size + 1)) next new.records
step file place next size old new read takes = record {
  batches = read.batches ++ takes.batch ∷ [];
  behind = takes.found.behind;
  text =
      read.text
      ∙ ap (λ (l : List ℕ). file_text read.batches ++ 1 ∷ l) (sym (behind_gate file place 1 old.records read) ∙ takes.found.text)
      ∙ file_more read.batches takes.batch (next ∷ takes.found.behind);
  place_is = omega (arith, read.place_is, takes.size_is, lengths);
  each = each_more read.batches takes.batch read.each takes.found.is_batch;
  records_are = takes.records ∙ ap (λ (l : List Record). l ++ takes.batch) read.records_are ∙ sym (all_more read.batches takes.batch);
}
  where
    long : length (batch_text takes.batch) ≡ 4 + length (records_text takes.batch)
    long = omega (arith, length-append (to_be_bytes w32 (length (records_text takes.batch))) (records_text takes.batch))

    lengths : length (file_text (read.batches ++ takes.batch ∷ [])) ≡ length (file_text read.batches) + 5 + length (records_text takes.batch)
    lengths = omega (arith, long, ap (λ (l : List ℕ). length l) (file_more read.batches takes.batch []), length-append (file_text (read.batches ++ takes.batch ∷ [])) [], length-append (file_text read.batches) (1 ∷ (batch_text takes.batch ++ [])), length-append (batch_text takes.batch) [])

pub step_in : (h : Option History) (place next size : ℕ) (old new : ReadSoFar) (then_place : ℕ) → IfSome h (λ t. IsReadTo (bytes_of t) place 1 old.records) → IfSome h (λ t. TakesBatch (drop (place + 1) (bytes_of t)) next size old new) → then_place ≡ place + 4 + (size + 1) → IfSome h (λ t. IsReadTo (bytes_of t) then_place next new.records)
step_in None place next size old new then_place read takes is = tt
step_in (Some t) place next size old new then_place read takes is = subst (λ (n : ℕ). IsReadTo (bytes_of t) n next new.records) (sym is) (step (bytes_of t) place next size old new read takes)

damages : (file : List ℕ) (place : ℕ) (old : ReadSoFar) → 1 < length file → IsReadTo file place 1 old.records → AreRuns old.sessions old.leases old.records → TakesNone (drop (place + 1) file) old → IsDamaged old.sessions old.leases file place
damages file place old long read runs none = record {
  batches = read.batches;
  more = drop (place + 1) file;
  text = read.text ∙ ap (λ (l : List ℕ). file_text read.batches ++ 1 ∷ l) (sym (behind_gate file place 1 old.records read));
  long = long;
  place_is = read.place_is;
  lawful = record { each = read.each; runs = subst (AreRuns old.sessions old.leases) read.records_are runs };
  no_batch = λ batch g behind is are.
      none batch g (record { behind = behind; text = is; is_batch = last_batch read.batches batch are.each })
      (subst (AreRuns old.sessions old.leases) (all_more read.batches batch ∙ ap (λ (l : List Record). l ++ batch) (sym read.records_are)) are.runs);
}
  where
    last_batch : (bs : List (List Record)) (b : List Record) → AllByRecursion IsBatch (bs ++ b ∷ []) → IsBatch b
    last_batch [] b each = each.0
    last_batch (c ∷ bs) b each = last_batch bs b each.1

pub damages_in : (h : Option History) (place end : ℕ) (old : ReadSoFar) → 1 < end → IfSome h (λ t. end ≡ length (bytes_of t)) → IfSome h (λ t. IsReadTo (bytes_of t) place 1 old.records) → AreRuns old.sessions old.leases old.records → IfSome h (λ t. TakesNone (drop (place + 1) (bytes_of t)) old) → IfSome h (λ t. IsDamaged old.sessions old.leases (bytes_of t) place)
damages_in None place end old long ends read runs none = tt
damages_in (Some t) place end old long ends read runs none = damages (bytes_of t) place old (omega (arith, long, ends)) read runs none

pub ends_in : (h : Option History) (place gate : ℕ) (old : ReadSoFar) → gate ≢ 1 → IfSome h (λ t. IsReadTo (bytes_of t) place gate old.records) → AreRuns old.sessions old.leases old.records → IfSome h (λ t. IsReadToEnd old.sessions old.leases (bytes_of t) place old.records)
ends_in None place gate old closed read runs = tt
ends_in (Some t) place gate old closed read runs = record { gate = gate; closed = closed; read = read; runs = runs }

-- a read of a disk with which nothing was done in between
pub read_as : (o n : Option History) (len size at : ℕ) (buf : List ℕ) → n ≡ o → len ≡ size → IfSome n (λ t. buf ≡ take len (drop at (bytes_of t))) → IfSome o (λ t. buf ≡ take size (drop at (bytes_of t)))
read_as o n len size at buf same is read =
    subst (λ (k : ℕ). IfSome o (λ t. buf ≡ take k (drop at (bytes_of t)))) is (subst (λ (x : Option History). IfSome x (λ t. buf ≡ take len (drop at (bytes_of t)))) same read)

pub some_bytes : (h : Option History) (end : ℕ) → IfSome h (λ t. end ≡ length (bytes_of t)) → 1 < end → IfSome h (λ t. 0 < length (bytes_of t))
some_bytes None end ends long = tt
some_bytes (Some t) end ends long = omega (arith, ends, long)
