-- A drill is a lawful script.
use Rattle.std.proofs.Common.{◌≡◌, ◌↔◌, ℕ, zero, suc, ◌+◌, ◌*◌, ◌<◌, ◌≤◌, ◌^◌, false, true, List, [], ◌∷◌, ◌++◌, length, map, get_or, All, length-append, refl, sym, ap, subst, ◌∙◌, arith}
use Rattle.std.proofs.lemmas.Fmt.{length-decimal-le}
use Rattle.std.proofs.lemmas.List.Elements.{All-append, All-cons, All-get_or, All-nil, All-push}
use Rattle.std.proofs.lemmas.List.Quantifiers.{all_pairs_push}
use Rattle.std.specs.List.{AllPairs, range_with_len}
use Rattle.std.specs.Prelude.{codes, decimal}
use Rattle.drill_maker.specs.Bodies.{answer_of, field, logon_of, order_of}
use Rattle.drill_maker.specs.Drill.{asked_from, asked_session, config_of_drills, connect_steps, drill_of, finish_steps, first_step_line, for_counterparties, for_each, for_libraries, logon_steps, order_steps, poll_count, poll_steps, request_steps, round_steps, steps_of, turn_steps, work_steps}
use Rattle.drill_maker.specs.declared.limits.TheConstants.{MOMENT, MOST_ROUNDS}
use Rattle.drill_maker.proofs.Configured.{configured, none_in_order, raised, with_range}
use Rattle.engine_config.specs.Config.{AreNames as AreShortNames, IsConfig, dial_of, names_of}
use Rattle.fix_fields.specs.Field.{Field, field_text, text_of}
use Rattle.fix_frame.specs.Frame.{IsBody, frame_of}
use Rattle.fix_frame.specs.declared.layout.TheConstants.{LONGEST_BODY, LONGEST_FRAME}
use Rattle.gate_io.specs.declared.wires.TheConstants.{FIRST_DIALLED}
use Rattle.script_text.specs.Lawful.{IsLawful, IsLawfulConfig, IsMade, StepFits, StepsFit, connects_in}
use Rattle.script_text.specs.declared.numbers.NextNumbers.{NextNumbers}
use Rattle.script_text.specs.declared.steps.LibStep.TheVariants as act
use Rattle.script_text.specs.declared.steps.Step.{Step}
use Rattle.script_text.specs.declared.steps.Step.TheVariants as step

-- what comes next once all connections were made
abbrev made : NextNumbers
made = record { connect = 8; take = FIRST_DIALLED }

-- a step that makes no connection and doesn't set the clock, and fits behind those that made all
abbrev Fits : Step → Type 0
Fits (step.At moment) = ⊥
Fits step.Connect = ⊥
Fits step.Take = ⊥
Fits line = StepFits false 4 made MOMENT line

-- and so each
abbrev AllFit : List Step → Type 0
AllFit [] = Unit {0}
AllFit (line ∷ lines) = Fits line × AllFit lines

fit_append : (xs ys : List Step) → AllFit xs → AllFit ys → AllFit (xs ++ ys)
fit_append [] ys one two = two
fit_append (x ∷ xs) ys one two = (one.0, fit_append xs ys one.1 two)

-- those that are made number by number
each_fits : (first count limit : ℕ) (lines : ℕ → List Step) → first + count ≤ limit → ((k : ℕ) → first ≤ k → k < limit → AllFit (lines k)) → AllFit (for_each first count lines)
each_fits first zero limit lines few fits = tt
each_fits first (suc count) limit lines few fits = fit_append (lines first) (for_each (first + 1) count lines) (fits first (omega arith) (omega arith))
    (each_fits (first + 1) count limit lines (omega arith) (λ k from to. fits k (omega arith) to))

-- such steps follow one another
behind : (lines : List Step) → AllFit lines → StepsFit false 4 made MOMENT lines
behind [] fits = tt
behind (step.At moment ∷ lines) fits = absurd fits.0
behind (step.Connect ∷ lines) fits = absurd fits.0
behind (step.Take ∷ lines) fits = absurd fits.0
behind (step.Bytes c bytes ∷ lines) fits = (fits.0, behind lines fits.1)
behind (step.Frame c body ∷ lines) fits = (fits.0, behind lines fits.1)
behind (step.Finish c ∷ lines) fits = (fits.0, behind lines fits.1)
behind (step.FailRead c ∷ lines) fits = (fits.0, behind lines fits.1)
behind (step.FailWrite c after ∷ lines) fits = (fits.0, behind lines fits.1)
behind (step.Block c after ∷ lines) fits = (fits.0, behind lines fits.1)
behind (step.Unblock c ∷ lines) fits = (fits.0, behind lines fits.1)
behind (step.Turn ∷ lines) fits = (fits.0, behind lines fits.1)
behind (step.Lib library what ∷ lines) fits = (fits.0, behind lines fits.1)

small : (n : ℕ) → n < 1000 → length (decimal n) ≤ 3
small n few = length-decimal-le 3 n (omega arith) (omega arith) (omega arith)

-- a field of these has at most so many bytes
field_short : (tag : ℕ) (value : List ℕ) → tag < 1000 → length value ≤ 21 → length (field_text (field tag value)) ≤ 30
field_short tag value few short =
    let of_tag = small tag few in
    let front = length-append (decimal tag) (61 ∷ value) in
    let whole = length-append (decimal tag ++ (61 ∷ value)) (1 ∷ []) in
    omega (arith, of_tag, whole, front)

-- and each
abbrev AreShort : List Field → Type 0
AreShort [] = Unit {0}
AreShort (first ∷ fields) = (length (field_text first) ≤ 30) × AreShort fields

texts_short : (fields : List Field) → AreShort fields → length (text_of fields) ≤ length fields * 30
texts_short [] short = omega arith
texts_short (first ∷ fields) short =
    let one = short.0 in
    let rest = texts_short fields short.1 in
    let whole = length-append (field_text first) (text_of fields) in
    omega (arith, one, rest, whole)

counterparty_short : (c : ℕ) → c < 8 → length (codes "P" ++ decimal c) ≤ 21
counterparty_short c few = (let digits = small c (omega arith) in let whole = length-append (codes "P") (decimal c) in omega (arith, digits, whole))

number_short : (n : ℕ) → n < 1000 → length (decimal n) ≤ 21
number_short n few = (let digits = small n few in omega (arith, digits))

is_made : (c : ℕ) → c < 8 → IsMade made c
is_made c few = record { comes = λ small. few; dialled = λ great. absurd (omega arith) }

module _ (longest : (body : List ℕ) → (length (frame_of body) ≤ LONGEST_FRAME) ↔ (length body ≤ LONGEST_BODY)) (typed : (type : Field) (fields : List Field) → type.tag ≡ 35 → IsBody (text_of (type ∷ fields))) where
  fits_in : (body : List ℕ) (n : ℕ) → length body ≤ n → n ≤ 1000 → length (frame_of body) ≤ LONGEST_FRAME
  fits_in body n short few = (longest body).1 (omega arith)

  logon_fits : (c : ℕ) → c < 8 → AllFit (logon_steps c)
  unfolding logon_of
  logon_fits c few =
      let fields : List Field = field 49 (codes "P" ++ decimal c) ∷ field 56 (codes "GATE") ∷ field 34 (codes "1") ∷ field 52 (codes "20260105-09:30:00.000") ∷ field 98 (codes "0") ∷ field 108 (codes "30") ∷ [] in
      let short = texts_short (field 35 (codes "A") ∷ fields) (
        field_short 35 (codes "A") (omega arith) (omega arith),
        (
          field_short 49 (codes "P" ++ decimal c) (omega arith) (counterparty_short c few),
          (
            field_short 56 (codes "GATE") (omega arith) (omega arith),
            (
              field_short 34 (codes "1") (omega arith) (omega arith),
              (
                field_short 52 (codes "20260105-09:30:00.000") (omega arith) (omega arith),
                (
                  field_short 98 (codes "0") (omega arith) (omega arith),
                  (field_short 108 (codes "30") (omega arith) (omega arith), tt),
                ),
              ),
            ),
          ),
        ),
      ) in
      ((refl, is_made c few, typed (field 35 (codes "A")) fields refl, fits_in (logon_of c) 210 short (omega arith)), tt)

  order_fits : (round c : ℕ) → round < 500 → c < 8 → AllFit (order_steps round c)
  unfolding order_of
  order_fits round c early few =
      let fields : List Field = field 49 (codes "P" ++ decimal c) ∷ field 56 (codes "GATE") ∷ field 34 (decimal (round + 2)) ∷ field 52 (codes "20260105-09:30:00.000") ∷ field 11 (decimal round) ∷ [] in
      let short = texts_short (field 35 (codes "D") ∷ fields) (
        field_short 35 (codes "D") (omega arith) (omega arith),
        (
          field_short 49 (codes "P" ++ decimal c) (omega arith) (counterparty_short c few),
          (
            field_short 56 (codes "GATE") (omega arith) (omega arith),
            (
              field_short 34 (decimal (round + 2)) (omega arith) (number_short (round + 2) (omega arith)),
              (
                field_short 52 (codes "20260105-09:30:00.000") (omega arith) (omega arith),
                (field_short 11 (decimal round) (omega arith) (number_short round (omega arith)), tt),
              ),
            ),
          ),
        ),
      ) in
      ((refl, is_made c few, typed (field 35 (codes "D")) fields refl, fits_in (order_of c round) 180 short (omega arith)), tt)

  work_fits : (round library : ℕ) → 1 ≤ library → library < 5 → AllFit (work_steps round library)
  unfolding work_steps
  work_fits round library least most =
      let known : library ≤ 4 = omega arith in
      fit_append (for_each 0 (poll_count round) (poll_steps library)) _
      (each_fits 0 (poll_count round) (poll_count round) (poll_steps library) (omega arith) (λ k from to. ((least, known, tt), tt)))
      ((least, known, tt), ((least, known, tt), tt))

  round_fits : (round : ℕ) → round < 500 → AllFit (round_steps round)
  unfolding round_steps
  round_fits round early =
      let turn : List Step = step.Turn ∷ [] in
      let works : AllFit (for_libraries (work_steps round) ++ turn) = fit_append (for_libraries (work_steps round)) turn (each_fits 1 4 5 (work_steps round) (omega arith) (λ l from to. work_fits round l from to)) (refl, tt) in
      let orders : AllFit (for_counterparties (order_steps round) ++ turn ++ for_libraries (work_steps round) ++ turn) =
      fit_append (for_counterparties (order_steps round)) (turn ++ for_libraries (work_steps round) ++ turn) (each_fits 0 8 8 (order_steps round) (omega arith) (λ c from to. order_fits round c early to)) (refl, works) in
      fit_append (for_libraries (request_steps round)) (turn ++ for_counterparties (order_steps round) ++ turn ++ for_libraries (work_steps round) ++ turn)
      (each_fits 1 4 5 (request_steps round) (omega arith) (λ l from to. ((from, omega arith, tt), tt))) (refl, orders)

  -- what stands behind the first moment and the connections
  abbrev lines_behind : ℕ → List Step
  lines_behind n = for_counterparties logon_steps ++ for_counterparties turn_steps ++ for_each 0 n round_steps ++ for_counterparties finish_steps ++ step.Turn ∷ []

  behind_fit : (n : ℕ) → n ≤ 500 → AllFit (lines_behind n)
  behind_fit n few =
      let logons = for_counterparties logon_steps in
      let turns = for_counterparties turn_steps in
      let rounds = for_each 0 n round_steps in
      let finishes = for_counterparties finish_steps in
      let first : AllFit (logons ++ turns) = fit_append logons turns (each_fits 0 8 8 logon_steps (omega arith) (λ c from to. logon_fits c to)) (each_fits 0 8 8 turn_steps (omega arith) (λ c from to. (refl, tt))) in
      let second : AllFit ((logons ++ turns) ++ rounds) = fit_append (logons ++ turns) rounds first (each_fits 0 n n round_steps (omega arith) (λ r from to. round_fits r (omega arith))) in
      let third : AllFit (((logons ++ turns) ++ rounds) ++ finishes) =
      fit_append ((logons ++ turns) ++ rounds) finishes second (each_fits 0 8 8 finish_steps (omega arith) (λ c from to. ((refl, is_made c to), tt))) in
      fit_append (((logons ++ turns) ++ rounds) ++ finishes) (step.Turn ∷ []) third (refl, tt)

  steps_fit : (n : ℕ) → n ≤ 500 → StepsFit false 4 (record { connect = 0; take = FIRST_DIALLED }) 0 (steps_of n)
  unfolding steps_of
  steps_fit n few = (
    (refl, omega arith, omega arith),
    (
      (refl, omega arith),
      (
        (refl, omega arith),
        (
          (refl, omega arith),
          (
            (refl, omega arith),
            (
              (refl, omega arith),
              (
                (refl, omega arith),
                (
                  (refl, omega arith),
                  (
                    (refl, omega arith),
                    behind (lines_behind n) (behind_fit n few),
                  ),
                ),
              ),
            ),
          ),
        ),
      ),
    ),
  )

-- none of them makes a connection
no_connect : (lines : List Step) → AllFit lines → connects_in lines ≡ 0
no_connect [] fits = refl
no_connect (step.At moment ∷ lines) fits = absurd fits.0
no_connect (step.Connect ∷ lines) fits = absurd fits.0
no_connect (step.Take ∷ lines) fits = absurd fits.0
no_connect (step.Bytes c bytes ∷ lines) fits = no_connect lines fits.1
no_connect (step.Frame c body ∷ lines) fits = no_connect lines fits.1
no_connect (step.Finish c ∷ lines) fits = no_connect lines fits.1
no_connect (step.FailRead c ∷ lines) fits = no_connect lines fits.1
no_connect (step.FailWrite c after ∷ lines) fits = no_connect lines fits.1
no_connect (step.Block c after ∷ lines) fits = no_connect lines fits.1
no_connect (step.Unblock c ∷ lines) fits = no_connect lines fits.1
no_connect (step.Turn ∷ lines) fits = no_connect lines fits.1
no_connect (step.Lib library what ∷ lines) fits = no_connect lines fits.1

-- the lines have their numbers in order
in_order : (n : ℕ) → AllPairs (λ (a b : ℕ). a < b) ((drill_of n).session_lines ++ (drill_of n).step_lines)
unfolding drill_of
in_order n =
    let sessions = with_range 1 8 [] (none_in_order 1) in
    (with_range 10 (length (steps_of n)) (range_with_len 1 8) (raised 9 10 (range_with_len 1 8) (omega arith) sessions)).pairs

range_long : (first count : ℕ) → length (range_with_len first count) ≡ count
range_long first zero = refl
range_long first (suc count) = ap (λ k. suc k) (range_long (first + 1) count)

module _ (longest : (body : List ℕ) → (length (frame_of body) ≤ LONGEST_FRAME) ↔ (length body ≤ LONGEST_BODY)) (typed : (type : Field) (fields : List Field) → type.tag ≡ 35 → IsBody (text_of (type ∷ fields))) where
  all_connect : (n : ℕ) → n ≤ 500 → 8 ≡ connects_in (steps_of n)
  unfolding steps_of
  all_connect n few = (let none = no_connect (lines_behind longest typed n) (behind_fit longest typed n few) in omega (arith, none))

  pub lawful : (n : ℕ) → n ≤ MOST_ROUNDS → IsLawful false (drill_of n)
  unfolding drill_of config_of_drills
  lawful n few = record {
    config = configured;
    replays = λ replays. record { connections = all_connect n few; dials = refl };
    steps = steps_fit longest typed n few;
    session_lines = refl;
    step_lines = range_long 10 (length (steps_of n));
    in_order = in_order n;
  }
