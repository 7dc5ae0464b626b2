-- The number line of one direction of a session (FIX 4.4, volume 2, "Ordered Message Processing").
use Rattle.std.specs.Prelude.{◌≡◌, ℕ, ◌+◌, ◌<◌, ◌≤◌, refl, IsSome, IsNone, None, is_some, nat_le, if◌then◌else◌}
use Rattle.std.specs.Ordering.{nat_cmp}
use Rattle.std.specs.FinMap.{FinMap, code, empty, get, remove, retain_keys, len}
use Rattle.std.specs.Coded.{Coded, code_by, coded×, coded_ℕ}
use Rattle.seq_gaps.specs.declared.offered.TheConstants.{MAX_NUMBER, HELD_LIMIT}

-- the number that is expected next, the early items by their numbers, and the number below which gaps were asked for
pub record Line (T : Type 0) : Type 0 where
  pub expected : ℕ
  pub held : FinMap nat_cmp T
  pub horizon : ℕ

-- as nested pairs
abbrev pub line_code : {T : Type 0} → Coded T → Coded (Line T)
line_code {T} t =
    code_by (ℕ × (FinMap nat_cmp T × ℕ)) (coded× coded_ℕ (coded× (code coded_ℕ t) coded_ℕ)) (λ l. (l.expected, (l.held, l.horizon))) (λ p. record { expected = p.0; held = p.1.0; horizon = p.1.1 }) (λ _. refl)

-- a MsgSeqNum
pub record IsNumber (n : ℕ) : Type 0 where
  pub from_one : 1 ≤ n
  pub to_largest : n ≤ MAX_NUMBER

-- what holds of every line
pub record IsLine {T : Type 0} (line : Line T) : Type 0 where
  pub from_one : 1 ≤ line.expected
  pub to_end : line.expected ≤ MAX_NUMBER + 1
  pub none_below : (n : ℕ) → n < line.expected → get line.held n ≡ None
  pub none_above : (n : ℕ) → line.horizon < n → get line.held n ≡ None
  pub few : len line.held ≤ HELD_LIMIT
  pub horizon : line.horizon ≤ MAX_NUMBER

abbrev pub IsHeld : {T : Type 0} → Line T → ℕ → Type 0
IsHeld line n = IsSome (get line.held n)

abbrev pub IsNotHeld : {T : Type 0} → Line T → ℕ → Type 0
IsNotHeld line n = IsNone (get line.held n)

-- before the first message, and behind a reset
abbrev pub fresh_line : {T : Type 0} → Line T
fresh_line = record { expected = 1; held = empty; horizon = 0 }

-- The numbers below `to` are counted as a whole. What is held of them is dropped, and what is held from `to` on stays.
abbrev pub after_fill : {T : Type 0} → Line T → ℕ → Line T
after_fill line to = record line { expected = to; held = retain_keys line.held (nat_le to) }

-- what is held of the expected number is handed on, and the number is counted
abbrev pub after_taking : {T : Type 0} → Line T → Line T
after_taking line =
    if is_some (get line.held line.expected)
    then record line { expected = line.expected + 1; held = remove line.held line.expected }
    else line

-- the connection ended: nothing is held, and no gap was asked for
abbrev pub after_clear : {T : Type 0} → Line T → Line T
after_clear line = record line { held = empty; horizon = 0 }
