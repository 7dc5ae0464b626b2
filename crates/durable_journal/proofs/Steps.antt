-- What a disk in memory records of its steps.
use Rattle.std.proofs.Common.{◌≡◌, ℕ, zero, suc, ◌+◌, ◌-◌, ◌≤◌, List, [], ◌∷◌, ◌++◌, length, take, drop, refl, sym, ap, ◌∙◌, arith, length-append, length-drop, take-append-drop, Option, Some, Bool, true, false}
use Rattle.std.specs.Prelude.{if◌then◌else◌, ◌==◌, nat_lt}
use Rattle.std.specs.List.{list_any}
use Rattle.gate_io.specs.Counts.{one_more}
use Rattle.std.proofs.lemmas.List.{append-nil, take-append-le, drop-append-le, take_all, nil_from_length}
use Rattle.durable_journal.specs.declared.memory.DiskStep.{DiskStep}
use Rattle.durable_journal.specs.declared.memory.DiskStep.TheVariants.{Wrote, Synced}
use Rattle.durable_journal.specs.Disk.{Step, Write, Sync, History, bytes_after, with_piece}
use Rattle.durable_journal.specs.Memory.{MemoryState, fails_now, after_call, after_fault, after_write, with_step, step_of, steps_of, written_by, written_in, IsMemory}

step_within : (row : DiskStep) (w p : List ℕ) → written_by row ≤ length w → step_of row (w ++ p) ≡ step_of row w
step_within (Wrote at size len) w p le = ap (Write at size) (take-append-le len w p le)
step_within Synced w p le = refl

steps_push : (before : List Step) (rows : List DiskStep) (row : DiskStep) (w p : List ℕ) → length w ≡ written_in rows → steps_of before (rows ++ row ∷ []) (w ++ p) ≡ step_of row p ∷ steps_of before rows w
steps_push before [] row w p len = ap (λ (l : List ℕ). step_of row (l ++ p) ∷ before) (nil_from_length w len)
steps_push before (r ∷ rows) row w p len =
    let within : written_by r ≤ length w = omega (arith, len) in
    ap (λ (s : Step). steps_of (s ∷ before) (rows ++ row ∷ []) (drop (written_by r) (w ++ p))) (step_within r w p within)
    ∙ ap (λ (l : List ℕ). steps_of (step_of r w ∷ before) (rows ++ row ∷ []) l) (drop-append-le (written_by r) w p within)
    ∙ steps_push (step_of r w ∷ before) rows row (drop (written_by r) w) p (omega (arith, len, length-drop (written_by r) w))

pub written_push : (rows : List DiskStep) (row : DiskStep) → written_in (rows ++ row ∷ []) ≡ written_in rows + written_by row
written_push [] row = omega arith
written_push (r ∷ rows) row = omega (arith, written_push rows row)

-- a step that wrote nothing
steps_idle : (rows : List DiskStep) (row : DiskStep) (w : List ℕ) → length w ≡ written_in rows → steps_of [] (rows ++ row ∷ []) w ≡ step_of row [] ∷ steps_of [] rows w
steps_idle rows row w len = ap (steps_of [] (rows ++ row ∷ [])) (sym (append-nil w)) ∙ steps_push [] rows row w [] len

take_none : (n : ℕ) → take {A = ℕ} n [] ≡ []
take_none zero = refl
take_none (suc n) = refl

pub steps_synced : (first bytes w : List ℕ) (rows : List DiskStep) → IsMemory first bytes w rows → steps_of [] (rows ++ Synced ∷ []) w ≡ Sync ∷ steps_of [] rows w
steps_synced first bytes w rows is = steps_idle rows Synced w is.written_are

pub steps_torn : (first bytes w : List ℕ) (rows : List DiskStep) (at size : ℕ) → IsMemory first bytes w rows → steps_of [] (rows ++ Wrote at size 0 ∷ []) w ≡ Write at size [] ∷ steps_of [] rows w
steps_torn first bytes w rows at size is = steps_idle rows (Wrote at size 0) w is.written_are

pub steps_wrote : (first bytes w : List ℕ) (rows : List DiskStep) (at size : ℕ) (p : List ℕ) → IsMemory first bytes w rows → steps_of [] (rows ++ Wrote at size (length p) ∷ []) (w ++ p) ≡ Write at size p ∷ steps_of [] rows w
steps_wrote first bytes w rows at size p is = steps_push [] rows (Wrote at size (length p)) w p is.written_are ∙ ap (λ (l : List ℕ). Write at size l ∷ steps_of [] rows w) (take_all (length p) p (omega arith))

pub memory_synced : (first bytes w : List ℕ) (rows : List DiskStep) → IsMemory first bytes w rows → IsMemory first bytes w (rows ++ Synced ∷ [])
memory_synced first bytes w rows is = record {
  bytes_are = is.bytes_are ∙ ap (bytes_after first) (sym (steps_synced first bytes w rows is));
  written_are = omega (arith, is.written_are, written_push rows Synced);
}

with_nothing : (bytes : List ℕ) (at : ℕ) → bytes ≡ with_piece bytes at []
with_nothing bytes at = sym (take-append-drop at bytes) ∙ ap (λ (n : ℕ). take at bytes ++ drop n bytes) (omega arith)

pub memory_torn : (first bytes w : List ℕ) (rows : List DiskStep) (at size : ℕ) → IsMemory first bytes w rows → IsMemory first bytes w (rows ++ Wrote at size 0 ∷ [])
memory_torn first bytes w rows at size is = record {
  bytes_are = is.bytes_are ∙ with_nothing (bytes_after first (steps_of [] rows w)) at ∙ ap (bytes_after first) (sym (steps_torn first bytes w rows at size is));
  written_are = omega (arith, is.written_are, written_push rows (Wrote at size 0));
}

pub memory_wrote : (first bytes w : List ℕ) (rows : List DiskStep) (at size : ℕ) (p : List ℕ) → IsMemory first bytes w rows → IsMemory first (with_piece bytes at p) (w ++ p) (rows ++ Wrote at size (length p) ∷ [])
memory_wrote first bytes w rows at size p is = record {
  bytes_are = ap (λ (l : List ℕ). with_piece l at p) is.bytes_are ∙ ap (bytes_after first) (sym (steps_wrote first bytes w rows at size p is));
  written_are = omega (arith, is.written_are, length-append w p, written_push rows (Wrote at size (length p)));
}

abbrev pub history_of : List ℕ → List Step → Option History
history_of first steps = Some (record { first = first; steps = steps })

abbrev pub after_sync : MemoryState → MemoryState
after_sync s = if fails_now s then after_fault s else with_step Sync (after_call s)

-- a state with these steps and this count of calls, and one place less for a step
abbrev pub made : MemoryState → List Step → ℕ → MemoryState
made s steps calls = record { history = record { first = s.history.first; steps = steps }; room = s.room; spare = s.spare - 1; fails = s.fails; calls = calls; faults = s.faults }

pub after_sync_is : (s : MemoryState) → fails_now s ≡ false → (steps : List Step) → steps ≡ Sync ∷ s.history.steps → (calls : ℕ) → calls ≡ one_more s.calls → made s steps calls ≡ after_sync s
after_sync_is s works steps steps_are calls calls_are =
    (λ i. made s (steps_are i) (calls_are i)) ∙ ap (λ (b : Bool). if b then after_fault s else with_step Sync (after_call s)) (sym works)

abbrev pub torn_state : MemoryState → List Step → ℕ → ℕ → MemoryState
torn_state s steps calls faults = record { history = record { first = s.history.first; steps = steps }; room = s.room; spare = s.spare - 1; fails = s.fails; calls = calls; faults = faults }

pub after_torn_is : (s : MemoryState) (at : ℕ) (piece : List ℕ) → (s.spare == 0) ≡ false → list_any (λ call. call == s.calls) s.fails ≡ true → (steps : List Step) → steps ≡ Write at (length piece) [] ∷ s.history.steps → (calls : ℕ) → calls ≡ one_more s.calls → (faults : ℕ) → faults ≡ one_more s.faults → torn_state s steps calls faults ≡ after_write s at piece
after_torn_is s at piece some listed steps steps_are calls calls_are faults faults_are =
    (λ i. torn_state s (steps_are i) (calls_are i) (faults_are i)) ∙ (λ i. if sym some i then after_fault s else (if sym listed i then with_step (Write at (length piece) []) (after_fault s) else (if nat_lt s.room (length piece) then after_fault s else with_step (Write at (length piece) piece) (record (after_call s) { room = s.room - length piece }))))

abbrev pub written_state : MemoryState → List Step → ℕ → ℕ → MemoryState
written_state s steps calls room = record { history = record { first = s.history.first; steps = steps }; room = room; spare = s.spare - 1; fails = s.fails; calls = calls; faults = s.faults }

pub after_wrote_is : (s : MemoryState) (at : ℕ) (piece : List ℕ) → (s.spare == 0) ≡ false → list_any (λ call. call == s.calls) s.fails ≡ false → nat_lt s.room (length piece) ≡ false → (steps : List Step) → steps ≡ Write at (length piece) piece ∷ s.history.steps → (calls : ℕ) → calls ≡ one_more s.calls → written_state s steps calls (s.room - length piece) ≡ after_write s at piece
after_wrote_is s at piece some listed room steps steps_are calls calls_are =
    (λ i. written_state s (steps_are i) (calls_are i) (s.room - length piece)) ∙ (λ i. if sym some i then after_fault s else (if sym listed i then with_step (Write at (length piece) []) (after_fault s) else (if sym room i then after_fault s else with_step (Write at (length piece) piece) (record (after_call s) { room = s.room - length piece }))))
