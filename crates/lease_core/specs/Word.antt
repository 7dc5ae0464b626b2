-- The lease word as one number.
use Rattle.std.specs.Prelude.{◌≡◌, ℕ, ◌+◌, ◌*◌, ◌/◌, ◌%◌, ◌^◌, ◌==◌, if◌then◌else◌}
use Rattle.lease_core.specs.declared.word.Standing.{Standing}
use Rattle.lease_core.specs.declared.word.Standing.TheVariants.{Active, Released, Revoked}
use Rattle.lease_core.specs.declared.word.Word.{Word}

-- bit 32 is set as the library gives the session back, bit 33 as the engine takes it back
abbrev pub flag_of : Standing → ℕ
flag_of Active = 0
flag_of Released = 2 ^ 32
flag_of Revoked = 2 ^ 33

-- the lease from bit 40 on, the owner from bit 34 on, a flag, and the count
unfoldable pub number_of : Word → ℕ
number_of w = w.lease * 2 ^ 40 + w.owner * 2 ^ 34 + flag_of w.standing + w.count

abbrev pub is_set : ℕ → ℕ → ℕ
is_set n flag = n / flag % 2

-- a word that was given back reads so, whether or not it was also taken back
abbrev pub standing_in : ℕ → Standing
standing_in n =
    if is_set n (2 ^ 32) == 1 then Released
    else (if is_set n (2 ^ 33) == 1 then Revoked
    else Active)

unfoldable pub word_in : ℕ → Word
word_in n = record { lease = n / 2 ^ 40; owner = n / 2 ^ 34 % 64; standing = standing_in n; count = n % 2 ^ 32 }

-- both flags are set
abbrev pub HasBothFlags : ℕ → Type 0
HasBothFlags n = (is_set n (2 ^ 32) ≡ 1) × (is_set n (2 ^ 33) ≡ 1)
