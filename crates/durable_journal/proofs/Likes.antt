-- The entry that may have some numbers is the one that has them.
use Rattle.std.specs.Prelude.{◌==◌, ◌&&◌, false}
use Rattle.std.proofs.lemmas.Bool.Decides.{nat_tests}
use Rattle.std.proofs.Common.{◌≡◌, ℕ, ◌<◌, ◌^◌, Some, refl, ap, sym, subst, arith}
use Rattle.lease_core.specs.declared.entry.Entry.{Entry}
use Rattle.lease_core.specs.declared.entry.Entry.TheVariants.{Arrive, Admin, Bind, Plan, Leave, Reset, Granted, Refused, Send, Release, Timeout, Hold, Lapse}
use Rattle.lease_core.specs.declared.entry.Why.TheVariants.{UnknownSession, OtherOwner, Reserved, LeasesSpent, MissingMessages}
use Rattle.durable_journal.specs.declared.numbers.Numbers.{Numbers}
use Rattle.durable_journal.specs.Numbers.{numbers_of, HasTypes, HasMoment, low_8, low_16, low_32, entry_like}

pub low_8_is : (n : ℕ) → n < 2 ^ 8 → low_8 n ≡ n
low_8_is n small = omega arith

pub low_16_is : (n : ℕ) → n < 2 ^ 16 → low_16 n ≡ n
low_16_is n small = omega arith

pub low_32_is : (n : ℕ) → n < 2 ^ 32 → low_32 n ≡ n
low_32_is n small = omega arith

like_of : (e : Entry) (at : ℕ) → HasTypes e → HasMoment at e → entry_like (numbers_of e) at ≡ Some e
unfolding entry_like
like_of (Arrive pos) at types moment = refl
like_of (Admin number) at types moment = refl
like_of (Bind c) at types moment = rw (low_32_is c types) refl
like_of (Plan begin last own) at types moment = ap (λ (m : ℕ). Some (Plan begin last m)) (sym moment)
like_of (Leave c) at types moment = rw (low_32_is c types) refl
like_of (Granted library nr lease from start) at types moment = rw (low_8_is library types.0, low_32_is nr types.1, low_32_is lease types.2) refl
like_of (Refused library nr (UnknownSession s)) at types moment = rw (low_8_is library types.0, low_32_is nr types.1, low_16_is s types.2) refl
like_of (Refused library nr (OtherOwner owner lease)) at types moment = rw (low_8_is library types.0, low_32_is nr types.1, low_8_is owner types.2.0, low_32_is lease types.2.1) refl
like_of (Refused library nr (Reserved heir until)) at types moment = rw (low_8_is library types.0, low_32_is nr types.1, low_8_is heir types.2.0) refl
like_of (Refused library nr (LeasesSpent lease)) at types moment = rw (low_8_is library types.0, low_32_is nr types.1, low_32_is lease types.2) refl
like_of (Refused library nr (MissingMessages asked logged)) at types moment = rw (low_8_is library types.0, low_32_is nr types.1) refl
like_of (Send lease library ordinal number) at types moment = rw (low_32_is lease types.0, low_8_is library types.1, low_32_is ordinal types.2) refl
like_of (Release lease library count heir) at types moment = rw (low_32_is lease types.0, low_8_is library types.1, low_32_is count types.2, low_8_is heir types.3) refl
like_of (Timeout lease library count) at types moment = rw (low_32_is lease types.0, low_8_is library types.1, low_32_is count types.2) refl
like_of (Hold lease until) at types moment = rw (low_32_is lease types.0) refl
like_of (Lapse lease) at types moment = rw (low_32_is lease types) refl
like_of (Reset series) at types moment = rw (low_32_is series types) refl

pub like_by : (n : Numbers) (at : ℕ) (e : Entry) → HasTypes e → HasMoment at e → numbers_of e ≡ n → entry_like n at ≡ Some e
like_by n at e types moment is = subst (λ (m : Numbers). entry_like m at ≡ Some e) is (like_of e at types moment)

-- numbers that are the same don't differ in any
pub differs : (m n : Numbers) → m ≡ n → ((m.kind == n.kind) && ((m.a == n.a) && ((m.b == n.b) && ((m.c == n.c) && ((m.d == n.d) && (m.e == n.e)))))) ≡ false → ⊥
differs m n same is =
    let kind : m.kind ≡ n.kind = λ i. (same i).kind in
    let a : m.a ≡ n.a = λ i. (same i).a in
    let b : m.b ≡ n.b = λ i. (same i).b in
    let c : m.c ≡ n.c = λ i. (same i).c in
    let d : m.d ≡ n.d = λ i. (same i).d in
    let e : m.e ≡ n.e = λ i. (same i).e in
    grind (arith, nat_tests, kind, a, b, c, d, e, is)
