-- The configuration of a drill is lawful, and its lines have their numbers in order.
use Rattle.std.proofs.Common.{append-nil, ◌≡◌, ◌≢◌, ℕ, zero, suc, ◌+◌, ◌-◌, ◌<◌, ◌≤◌, false, List, [], ◌∷◌, ◌++◌, length, map, get_or, All, Option, None, append_assoc, refl, sym, ap, subst, ◌∙◌, arith}
use Rattle.std.proofs.lemmas.List.Elements.{All-from_recursion, All-get_or, All-nil, All-push}
use Rattle.std.proofs.lemmas.List.Quantifiers.{all_pairs_push}
use Rattle.std.specs.List.{AllPairs, range_with_len}
use Rattle.std.specs.Fmt.{digits}
use Rattle.std.specs.Prelude.{IfSome, IsTrue, codes, decimal}
use Rattle.drill_maker.specs.Drill.{accepts, config_of_drills, names_of as counterparty_names}
use Rattle.drill_maker.proofs.Ranges.{range_more}
use Rattle.engine_config.specs.Config.{AreNames as AreShortNames, IsConfig, IsDial, IsWithin, dial_of, names_of}
use Rattle.engine_config.specs.declared.config.DialTo.{DialTo}
use Rattle.script_text.specs.Lawful.{AreNames, IsAddressed, IsLawfulConfig}
use Rattle.script_text.specs.Words.{is_name}
use Rattle.session_core.specs.declared.names.Names.{Names}

-- what holds of each of the first eight numbers
by_eight : (P : ℕ → Type 0) → P 0 → P 1 → P 2 → P 3 → P 4 → P 5 → P 6 → P 7 → (s : ℕ) → s < 8 → P s
by_eight P a b c d e f g h zero few = a
by_eight P a b c d e f g h (suc zero) few = b
by_eight P a b c d e f g h (suc (suc zero)) few = c
by_eight P a b c d e f g h (suc (suc (suc zero))) few = d
by_eight P a b c d e f g h (suc (suc (suc (suc zero)))) few = e
by_eight P a b c d e f g h (suc (suc (suc (suc (suc zero))))) few = f
by_eight P a b c d e f g h (suc (suc (suc (suc (suc (suc zero)))))) few = g
by_eight P a b c d e f g h (suc (suc (suc (suc (suc (suc (suc zero))))))) few = h
by_eight P a b c d e f g h (suc (suc (suc (suc (suc (suc (suc (suc s)))))))) few = absurd (omega arith)

-- a name of four bytes, and one of two
four : (n : ℕ) → n ≡ 4 → IsWithin 1 32 n
four n is = record { from_least = omega arith; to_most = omega arith }

two : (n : ℕ) → n ≡ 2 → IsWithin 1 32 n
two n is = record { from_least = omega arith; to_most = omega arith }

names_are_short : (us them : List ℕ) → length us ≡ 4 → length them ≡ 2 → AreShortNames (record { us = us; them = them })
names_are_short us them long short = record { us = four (length us) long; them = two (length them) short }

short_names : (s : ℕ) → s < 8 → AreShortNames (names_of config_of_drills s)
unfolding config_of_drills digits
short_names = by_eight (λ s. AreShortNames (names_of config_of_drills s)) (named_short 0 refl) (named_short 1 refl) (named_short 2 refl) (named_short 3 refl) (named_short 4 refl) (named_short 5 refl) (named_short 6 refl) (named_short 7 refl) where
  named_short : (c : ℕ) → length (decimal c) ≡ 1 → AreShortNames (counterparty_names c)
  named_short c one = names_are_short (codes "GATE") (codes "P" ++ decimal c) refl (ap (λ n. suc n) one)

-- the number of a counterparty, by its name
abbrev number_in : List ℕ → ℕ
number_in [] = 0
number_in (letter ∷ []) = 0
number_in (letter ∷ digit ∷ more) = digit - 48

numbered : (s : ℕ) → s < 8 → number_in (names_of config_of_drills s).them ≡ s
unfolding config_of_drills digits
numbered = by_eight (λ s. number_in (names_of config_of_drills s).them ≡ s) refl refl refl refl refl refl refl refl

different : (s t : ℕ) → s < 8 → t < 8 → names_of config_of_drills s ≡ names_of config_of_drills t → s ≡ t
different s t one other same = sym (numbered s one) ∙ ap (λ (names : Names). number_in names.them) same ∙ numbered t other

no_dial : (s : ℕ) → s < 8 → IfSome (dial_of config_of_drills s) IsDial
unfolding config_of_drills
no_dial = by_eight (λ s. IfSome (dial_of config_of_drills s) IsDial) (tt {0}) (tt {0}) (tt {0}) (tt {0}) (tt {0}) (tt {0}) (tt {0}) (tt {0})

named : All AreNames (config_of_drills).names
unfolding config_of_drills is_name digits
named = All-from_recursion AreNames (config_of_drills).names ((refl, refl), ((refl, refl), ((refl, refl), ((refl, refl), ((refl, refl), ((refl, refl), ((refl, refl), ((refl, refl), tt {0}))))))))

addressed : All IsAddressed (config_of_drills).dialled
unfolding config_of_drills
addressed = All-from_recursion IsAddressed (config_of_drills).dialled (tt {0}, (tt {0}, (tt {0}, (tt {0}, (tt {0}, (tt {0}, (tt {0}, (tt {0}, tt {0}))))))))

pub configured : IsLawfulConfig config_of_drills
unfolding config_of_drills
configured = record {
  fits = record {
    sessions = omega arith;
    names = short_names;
    different = different;
    libraries = omega arith;
    connections = omega arith;
    lane = record { from_least = omega arith; to_most = omega arith };
    leases = record { from_least = omega arith; to_most = omega arith };
    sends = omega arith;
    asks = omega arith;
    timeout = record { from_least = omega arith; to_most = omega arith };
    hold = record { from_least = omega arith; to_most = omega arith };
    dialled = refl;
    each_dial = no_dial;
    dials = omega arith;
  };
  named = named;
  addressed = addressed;
  sends = omega arith;
  asks = omega arith;
}

-- numbers that are in order, and below the next one
abbrev Below : ℕ → ℕ → Type 0
Below limit m = m < limit

pub record InOrder (limit : ℕ) (numbers : List ℕ) : Type 0 where
  pub pairs : AllPairs (λ (m n : ℕ). m < n) numbers
  pub below : All (Below limit) numbers

higher : (limit more : ℕ) (numbers : List ℕ) → limit ≤ more → All (Below limit) numbers → All (Below more) numbers
higher limit more numbers least below = λ k d within. (let low = below k d within in omega (arith, low, least))

one_more : (limit : ℕ) (numbers : List ℕ) → InOrder limit numbers → InOrder (limit + 1) (numbers ++ limit ∷ [])
one_more limit numbers was = record {
  pairs = all_pairs_push (λ (m n : ℕ). m < n) numbers limit was.pairs (λ k d within. All-get_or (Below limit) numbers k d within was.below);
  below = All-push (Below (limit + 1)) numbers limit (higher limit (limit + 1) numbers (omega arith) was.below) (omega arith);
}

pub with_range : (limit count : ℕ) (numbers : List ℕ) → InOrder limit numbers → InOrder (limit + count) (numbers ++ range_with_len limit count)
with_range limit zero numbers was =
    let none = append-nil numbers in
    let same : limit + 0 ≡ limit = omega arith in
    subst (λ n. InOrder n (numbers ++ range_with_len limit 0)) (sym same) (subst (InOrder limit) (sym none) was)
with_range limit (suc count) numbers was =
    let so_far = one_more (limit + count) (numbers ++ range_with_len limit count) (with_range limit count numbers was) in
    let next : limit + count + 1 ≡ limit + suc count = omega arith in
    let longer : count + 1 ≡ suc count = omega arith in
    let list : (numbers ++ range_with_len limit count) ++ (limit + count) ∷ [] ≡ numbers ++ range_with_len limit (suc count) =
    append_assoc numbers (range_with_len limit count) ((limit + count) ∷ []) ∙ ap (λ xs. numbers ++ xs) (sym (range_more limit count) ∙ ap (range_with_len limit) longer) in
    subst (λ n. InOrder n (numbers ++ range_with_len limit (suc count))) next (subst (InOrder (limit + count + 1)) list so_far)

pub raised : (limit more : ℕ) (numbers : List ℕ) → limit ≤ more → InOrder limit numbers → InOrder more numbers
raised limit more numbers least was = record { pairs = was.pairs; below = higher limit more numbers least was.below }

pub none_in_order : (limit : ℕ) → InOrder limit []
none_in_order limit = record { pairs = λ i j d before within. absurd (omega arith); below = All-nil (Below limit) }
