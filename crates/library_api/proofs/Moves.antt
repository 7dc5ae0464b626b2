-- What a call does to a lease of a session, and what that comes to where its notices are in order.
use Rattle.std.proofs.Common.{◌≡◌, ◌≢◌, ℕ, ◌+◌, ◌⊎◌, List, [], ◌∷◌, Bool, true, false, if◌then◌else◌, sym, ap, ◌∙◌, subst, inl, inr, ⊎_elim}
use Rattle.std.specs.Prelude.{Option, Some, None}
use Rattle.lease_core.specs.declared.messages.Notice.{Notice}
use Rattle.lease_core.specs.declared.messages.Notice.TheVariants as notices
use Rattle.library_api.specs.declared.reading.Reading.{Reading}
use Rattle.library_api.specs.Reads.{is_of, concerns, next_after, ComesNext, AreInOrder, start_of, granted_from}

-- What a call does to a lease of a session: to the reading of it, to the positions that were read, and to the notices that are kept or will be popped.
pub data Move (s lease : ℕ) (r r' : Reading) (reads : List ℕ) (ns ns' : List Notice) : Type 0 where
  stays : r' ≡ r → reads ≡ [] → ns ≡ ns' → Move s lease r r' reads ns ns'
  loses : r'.lease ≢ lease → reads ≡ [] → ns ≡ ns' → Move s lease r r' reads ns ns'
  passes : (n : Notice) → concerns s lease n ≡ false → (r' ≡ r) ⊎ (r'.lease ≢ lease) → reads ≡ [] → ns ≡ n ∷ ns' → Move s lease r r' reads ns ns'
  grants : (nr t other from start : ℕ) → is_of s lease t other ≡ true → (r' ≡ record { lease = lease; next = from }) ⊎ (r'.lease ≢ lease) → reads ≡ []
      → ns ≡ notices.Granted nr t other from start ∷ ns' → Move s lease r r' reads ns ns'
  goes_on : (t other pos : ℕ) (bytes : List ℕ) → is_of s lease t other ≡ true → r.lease ≡ lease → r' ≡ record { lease = lease; next = pos + 1 } → reads ≡ pos ∷ []
      → ns ≡ notices.Message t other pos bytes ∷ ns' → Move s lease r r' reads ns ns'
  skips : (t other pos : ℕ) (bytes : List ℕ) → is_of s lease t other ≡ true → r'.lease ≢ lease → reads ≡ []
      → ns ≡ notices.Message t other pos bytes ∷ ns' → Move s lease r r' reads ns ns'

-- a lease that was granted has its messages in order, whatever comes next
pub record OnCourse (s lease : ℕ) (ns : List Notice) : Type 0 where
  pub next : ℕ
  pub order : AreInOrder s lease (Some next) ns

some_none : (n : ℕ) → Some n ≡ None → ⊥
some_none n e = cc

none_some : (n : ℕ) → None ≡ Some n → ⊥
none_some n e = cc

same_some : (a b : ℕ) → Some a ≡ Some b → a ≡ b
same_some a b e = cc

-- the order from behind a notice on
behind : (s lease : ℕ) (next : Option ℕ) (n : Notice) (ns ns' : List Notice) (b : Bool) → concerns s lease n ≡ b → ns ≡ n ∷ ns' → AreInOrder s lease next ns
    → ComesNext b next n × AreInOrder s lease (next_after b next n) ns'
behind s lease next n ns ns' b is split order =
    subst (λ (c : Bool). ComesNext c next n × AreInOrder s lease (next_after c next n) ns') is (subst (λ (xs : List Notice). AreInOrder s lease next xs) split order)

pub over_move : (s lease : ℕ) (r r' : Reading) (reads : List ℕ) (ns ns' : List Notice) → Move s lease r r' reads ns ns' → r.lease ≢ lease → OnCourse s lease ns
    → (reads ≡ []) × (r'.lease ≢ lease) × OnCourse s lease ns'
over_move s lease r r' reads ns ns' (stays same none left) over course =
    (none, subst (λ (x : Reading). x.lease ≢ lease) (sym same) over, subst (λ (xs : List Notice). OnCourse s lease xs) left course)
over_move s lease r r' reads ns ns' (loses lost none left) over course = (none, lost, subst (λ (xs : List Notice). OnCourse s lease xs) left course)
over_move s lease r r' reads ns ns' (passes n other reading none split) over course = (
  none,
  ⊎_elim (λ same. subst (λ (x : Reading). x.lease ≢ lease) (sym same) over) (λ lost. lost) reading,
  record { next = course.next; order = (behind s lease (Some course.next) n ns ns' false other split course.order).1 },
)
over_move s lease r r' reads ns ns' (grants nr t other from start is reading none split) over course =
    absurd (some_none course.next (behind s lease (Some course.next) (notices.Granted nr t other from start) ns ns' true is split course.order).0)
over_move s lease r r' reads ns ns' (goes_on t other pos bytes is has goes one split) over course = absurd (over has)
over_move s lease r r' reads ns ns' (skips t other pos bytes is lost none split) over course =
    (none, lost, record { next = pos + 1; order = (behind s lease (Some course.next) (notices.Message t other pos bytes) ns ns' true is split course.order).1 })

-- a lease that is read stays so, goes on by a position, or is over
abbrev ReadsOn : ℕ → ℕ → ℕ → Reading → List ℕ → List Notice → Type 0
ReadsOn s lease next r' reads ns' =
    ((reads ≡ []) × (r' ≡ record { lease = lease; next = next }) × AreInOrder s lease (Some next) ns')
    ⊎ (((reads ≡ next ∷ []) × (r' ≡ record { lease = lease; next = next + 1 }) × AreInOrder s lease (Some (next + 1)) ns')
    ⊎ ((reads ≡ []) × (r'.lease ≢ lease) × OnCourse s lease ns'))

pub read_move : (s lease next : ℕ) (r r' : Reading) (reads : List ℕ) (ns ns' : List Notice) → Move s lease r r' reads ns ns'
    → r ≡ record { lease = lease; next = next } → AreInOrder s lease (Some next) ns → ReadsOn s lease next r' reads ns'
read_move s lease next r r' reads ns ns' (stays same none left) at order = inl (none, same ∙ at, subst (λ (xs : List Notice). AreInOrder s lease (Some next) xs) left order)
read_move s lease next r r' reads ns ns' (loses lost none left) at order =
    inr (inr (none, lost, record { next = next; order = subst (λ (xs : List Notice). AreInOrder s lease (Some next) xs) left order }))
read_move s lease next r r' reads ns ns' (passes n other reading none split) at order =
    let rest = (behind s lease (Some next) n ns ns' false other split order).1 in
    ⊎_elim (λ same. inl (none, same ∙ at, rest)) (λ lost. inr (inr (none, lost, record { next = next; order = rest }))) reading
read_move s lease next r r' reads ns ns' (grants nr t other from start is reading none split) at order =
    absurd (some_none next (behind s lease (Some next) (notices.Granted nr t other from start) ns ns' true is split order).0)
read_move s lease next r r' reads ns ns' (goes_on t other pos bytes is has goes one split) at order =
    let on = behind s lease (Some next) (notices.Message t other pos bytes) ns ns' true is split order in
    let here : pos ≡ next = sym (same_some next pos on.0) in
    inr (inl (one ∙ ap (λ (p : ℕ). p ∷ []) here, goes ∙ ap (λ (p : ℕ). record { lease = lease; next = p + 1 }) here, subst (λ (p : ℕ). AreInOrder s lease (Some (p + 1)) ns') here on.1))
read_move s lease next r r' reads ns ns' (skips t other pos bytes is lost none split) at order =
    inr (inr (none, lost, record { next = pos + 1; order = (behind s lease (Some next) (notices.Message t other pos bytes) ns ns' true is split order).1 }))

-- a lease that isn't granted yet stays so, is granted, or is over
abbrev WaitsOn : ℕ → ℕ → ℕ → Reading → List Notice → Type 0
WaitsOn s lease from r' ns' =
    ((r'.lease ≢ lease) × AreInOrder s lease None ns' × (from ≡ granted_from s lease ns'))
    ⊎ (((r' ≡ record { lease = lease; next = from }) × AreInOrder s lease (Some from) ns')
    ⊎ ((r'.lease ≢ lease) × OnCourse s lease ns'))

-- the position of the grant, by whether the first notice is it
from_of : (s lease : ℕ) (n : Notice) (ns ns' : List Notice) (b : Bool) → concerns s lease n ≡ b → ns ≡ n ∷ ns' → granted_from s lease ns ≡ (if b then start_of n else granted_from s lease ns')
from_of s lease n ns ns' b is split =
    ap (λ (xs : List Notice). granted_from s lease xs) split ∙ ap (λ (c : Bool). if c then start_of n else granted_from s lease ns') is

pub wait_move : (s lease : ℕ) (r r' : Reading) (reads : List ℕ) (ns ns' : List Notice) → Move s lease r r' reads ns ns' → r.lease ≢ lease → AreInOrder s lease None ns
    → (reads ≡ []) × WaitsOn s lease (granted_from s lease ns) r' ns'
wait_move s lease r r' reads ns ns' (stays same none left) un order =
    (none, inl (subst (λ (x : Reading). x.lease ≢ lease) (sym same) un, subst (λ (xs : List Notice). AreInOrder s lease None xs) left order, ap (λ (xs : List Notice). granted_from s lease xs) left))
wait_move s lease r r' reads ns ns' (loses lost none left) un order =
    (none, inl (lost, subst (λ (xs : List Notice). AreInOrder s lease None xs) left order, ap (λ (xs : List Notice). granted_from s lease xs) left))
wait_move s lease r r' reads ns ns' (passes n other reading none split) un order = (
  none,
  inl (
    ⊎_elim (λ same. subst (λ (x : Reading). x.lease ≢ lease) (sym same) un) (λ lost. lost) reading,
    (behind s lease None n ns ns' false other split order).1,
    from_of s lease n ns ns' false other split,
  ),
)
wait_move s lease r r' reads ns ns' (grants nr t other from start is reading none split) un order =
    let n = notices.Granted nr t other from start in
    let here : granted_from s lease ns ≡ from = from_of s lease n ns ns' true is split in
    let rest : AreInOrder s lease (Some from) ns' = (behind s lease None n ns ns' true is split order).1 in (
      none,
      ⊎_elim
          (λ granted. inr (inl (granted ∙ ap (λ (p : ℕ). record { lease = lease; next = p }) (sym here), subst (λ (p : ℕ). AreInOrder s lease (Some p) ns') (sym here) rest)))
          (λ lost. inr (inr (lost, record { next = from; order = rest }))) reading,
    )
wait_move s lease r r' reads ns ns' (goes_on t other pos bytes is has goes one split) un order = absurd (un has)
wait_move s lease r r' reads ns ns' (skips t other pos bytes is lost none split) un order =
    absurd (none_some pos (behind s lease None (notices.Message t other pos bytes) ns ns' true is split order).0)
