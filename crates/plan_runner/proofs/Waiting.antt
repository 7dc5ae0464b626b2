-- How often in a row a library waited for the same.
use Rattle.std.proofs.Common.{◌≡◌, ℕ, zero, suc, ◌+◌, ◌<◌, ◌≤◌, Bool, true, false, if◌then◌else◌, refl, ap, ◌∙◌, arith}
use Rattle.library_api.specs.Waits.{Waits, count_after, most_waits, next_count, same_kind}
use Rattle.library_api.specs.declared.waited.WaitKind.{WaitKind}
use Rattle.library_api.specs.declared.waited.WaitKind.TheVariants.{Free, Event, Lane, Asks, Done}

-- a kind that is waited by
abbrev pub IsWait : WaitKind → Type 0
IsWait Free = ⊥
IsWait Event = Unit {0}
IsWait Lane = Unit {0}
IsWait Asks = Unit {0}
IsWait Done = Unit {0}

next_more : (i n : ℕ) → i ≤ n → i + 1 ≤ most_waits → i + 1 ≤ next_count n
next_more i n within most = grind arith

first_counts : (b : Bool) (n : ℕ) → 1 ≤ (if b then next_count n else 1)
first_counts true n = next_more 0 n (omega arith) (omega arith)
first_counts false n = omega arith

pub same_counts : (kind : WaitKind) (n : ℕ) → IsWait kind → count_after kind (record { kind = kind; count = n }) ≡ next_count n
same_counts Free n waits = absurd waits
same_counts Event n waits = refl
same_counts Lane n waits = refl
same_counts Asks n waits = refl
same_counts Done n waits = refl

pub some_count : (kind : WaitKind) (w : Waits) → IsWait kind → 1 ≤ count_after kind w
some_count Free w waits = absurd waits
some_count Event w waits = first_counts (same_kind Event w.kind) w.count
some_count Lane w waits = first_counts (same_kind Lane w.kind) w.count
some_count Asks w waits = first_counts (same_kind Asks w.kind) w.count
some_count Done w waits = first_counts (same_kind Done w.kind) w.count

-- so many waits in a row are at least counted
pub counts : (kind : WaitKind) (i : ℕ) (w : Waits) → IsWait kind → (0 < i → (w.kind ≡ kind) × (i ≤ w.count)) → i + 1 ≤ most_waits → i + 1 ≤ count_after kind w
counts kind zero w waits was most = omega (arith, some_count kind w waits)
counts kind (suc i) w waits was most =
    let on : (w.kind ≡ kind) × (suc i ≤ w.count) = was (omega arith) in
    let same : count_after kind w ≡ next_count w.count = ap (λ (k : WaitKind). count_after kind (record { kind = k; count = w.count })) on.0 ∙ same_counts kind w.count waits in
    omega (arith, same, next_more (suc i) w.count on.1 most)
