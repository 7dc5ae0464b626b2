-- A Logon is heard, whatever its number is.
use Rattle.std.proofs.Common.{◌≡◌, ℕ, true, false, refl, if◌then◌else◌}
use Rattle.std.specs.Prelude.{nat_lt}
use Rattle.seq_gaps.specs.Line.{Line}
use Rattle.session_core.specs.Receive.{outcome_of_logon, outcome_of_low, outcome_of_welcome, expected_at, outcome_of_answer, outcome_of_low_answer, outcome_of_good_answer}
use Rattle.session_core.specs.declared.routing.Terms.{Terms}
use Rattle.session_core.specs.declared.phases.Phase.TheVariants.{On}
use Rattle.session_core.specs.declared.tasks.Task.{Task}

pub logged_on_heard : (line : Line Task) (terms : Terms) → (outcome_of_logon line terms).heard ≡ true
unfolding outcome_of_logon
logged_on_heard line terms =
    elim (nat_lt terms.number (expected_at line terms)) as (λ low. (if low then outcome_of_low line terms else outcome_of_welcome line terms).heard ≡ true)
    [ true ↦ refl | false ↦ refl ]

pub answer_heard : (line : Line Task) (heart n : ℕ) → ((outcome_of_answer line heart n).heard ≡ true) × ((outcome_of_answer line heart n).phase ≡ On heart)
unfolding outcome_of_answer
answer_heard line heart n =
    elim (nat_lt n line.expected) as (λ low. ((if low then outcome_of_low_answer line heart n else outcome_of_good_answer line heart n).heard ≡ true) × ((if low then outcome_of_low_answer line heart n else outcome_of_good_answer line heart n).phase ≡ On heart))
    [ true ↦ (refl, refl) | false ↦ (refl, refl) ]
