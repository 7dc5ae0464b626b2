-- What holds of a line with its tasks, and of the acts so far, is kept as messages are carried out.
use Rattle.std.proofs.Common.{◌≡◌, ℕ, zero, suc, ◌+◌, ◌≤◌, true, false, List, [], ◌∷◌, ◌++◌, ap, sym, subst, refl, inl, inr, arith, if◌then◌else◌}
use Rattle.std.specs.Prelude.{Option, None, Some, nat_le, ◌&&◌}
use Rattle.std.specs.FinMap.{get}
use Rattle.std.proofs.lemmas.Bool.Decides.{nat_tests}
use Rattle.seq_gaps.specs.declared.offered.Gap.{Gap}
use Rattle.seq_gaps.specs.declared.offered.Offered.{Offered}
use Rattle.seq_gaps.specs.declared.offered.Place.{Place}
use Rattle.seq_gaps.specs.declared.offered.Place.TheVariants.{Now, Held, Known, NoRoom}
use Rattle.seq_gaps.specs.declared.offered.TheConstants.{HELD_LIMIT, MAX_NUMBER}
use Rattle.seq_gaps.specs.Line.{Line, IsLine, IsNumber, IsNotHeld, after_fill}
use Rattle.seq_gaps.specs.Offers.{answer_to_offer, after_offer, after_placing, gap_shown, place_of}
use Rattle.session_core.specs.declared.acts.Act.{Act}
use Rattle.session_core.specs.declared.acts.Act.TheVariants.{Send}
use Rattle.session_core.specs.declared.acts.Admin.TheVariants.{ResendRequest}
use Rattle.session_core.specs.declared.tasks.Task.{Task}
use Rattle.session_core.specs.declared.tasks.Task.TheVariants.{Nothing, Do, Fill}
use Rattle.session_core.specs.Carry.{Progress, with_request, after_carrying, after_ready, while_ready, after_fill_to, after_draining, on_place, after_handling}
use Rattle.session_core.specs.Laws.{ExpectedIsCarriedOut}
use Rattle.session_core.specs.Lines.{LineLaws}
use Rattle.session_core.specs.State.{HoldsTasks}
use Rattle.session_core.specs.Tasks.{IsReply, IsTask}
use Rattle.session_core.proofs.Left.{leaves_none_ready}

both_tests : (a b c d : ℕ) → (nat_le a b && nat_le c d) ≡ true → (a ≤ b) × (c ≤ d)
both_tests a b c d both = (grind (arith, nat_tests, both), grind (arith, nat_tests, both))

-- a fill is made, or nothing changes
pub fill_cases : (line : Line Task) (to : ℕ) (P : Line Task → Type 0) → (line.expected ≤ to → to ≤ MAX_NUMBER + 1 → P (after_fill line to)) → P line → P (after_fill_to line to)
unfolding after_fill_to
fill_cases line to P made stays =
    elim (nat_le line.expected to && nat_le to (MAX_NUMBER + 1)) as (λ b. (nat_le line.expected to && nat_le to (MAX_NUMBER + 1)) ≡ b → P (if b then after_fill line to else line)) [
      | true ↦ λ is. let both = both_tests line.expected to to (MAX_NUMBER + 1) is in made both.0 both.1
      | false ↦ λ is. stays
    ] refl

-- a line with lawful tasks, and acts of which P holds
pub record IsGood (P : List Act → Type 0) (p : Progress) : Type 0 where
  pub line : IsLine p.line
  pub tasks : HoldsTasks p.line
  pub acts : P p.acts

-- P goes on to hold as a reply follows
abbrev pub Grows : (List Act → Type 0) → Type 0
Grows P = (acts : List Act) (act : Act) → P acts → IsReply act → P (acts ++ act ∷ [])

abbrev pub NoneReady : Progress → Type 0
NoneReady p = IsNotHeld p.line p.line.expected

abbrev behind_offer : Progress → ℕ → Task → Progress
behind_offer p n task = record p { line = after_offer p.line n task }

module _ (laws : LineLaws) where
  pub line_filled_to : (line : Line Task) (to : ℕ) → IsLine line → IsLine (after_fill_to line to)
  line_filled_to line to is = fill_cases line to IsLine (λ forward end. laws.lines.fill line to is forward end) is

  pub tasks_filled_to : (line : Line Task) (to : ℕ) → HoldsTasks line → HoldsTasks (after_fill_to line to)
  tasks_filled_to line to all = fill_cases line to HoldsTasks (λ forward end n task is. all n task (laws.items.fill line to n task is)) all

  good-carried : (P : List Act → Type 0) → Grows P → (p : Progress) (task : Task) → IsGood P p → IsTask task → IsGood P (after_carrying p task)
  good-carried P grow p Nothing good is = good
  good-carried P grow p (Do act) good is = record { line = good.line; tasks = good.tasks; acts = grow p.acts act good.acts is }
  good-carried P grow p (Fill to) good is = record { line = line_filled_to p.line to good.line; tasks = tasks_filled_to p.line to good.tasks; acts = good.acts }

  good-ready : (P : List Act → Type 0) (p : Progress) → IsGood P p → IsGood P (after_ready p)
  good-ready P p good = record {
    line = laws.lines.taking p.line good.line;
    tasks = λ n task is. good.tasks n task (laws.items.taking p.line n task is);
    acts = good.acts;
  }

  good-while : (P : List Act → Type 0) → Grows P → (go_on : Progress → Progress) (p : Progress) (ready : Option Task) → get p.line.held p.line.expected ≡ ready → IsGood P p → ((q : Progress) → IsGood P q → IsGood P (go_on q)) → IsGood P (while_ready go_on p ready)
  good-while P grow go_on p None is good rest = good
  good-while P grow go_on p (Some task) is good rest =
      rest (after_carrying (after_ready p) task) (good-carried P grow (after_ready p) task (good-ready P p good) (good.tasks p.line.expected task is))

  pub good-drained : (P : List Act → Type 0) → Grows P → (most : ℕ) (p : Progress) → IsGood P p → IsGood P (after_draining most p)
  unfolding after_draining
  good-drained P grow zero p good = good
  good-drained P grow (suc most) p good = good-while P grow (after_draining most) p (get p.line.held p.line.expected) refl good (good-drained P grow most)

  acts-requested : (P : List Act → Type 0) → Grows P → (acts : List Act) (gap : Option Gap) → P acts → P (with_request acts gap)
  acts-requested P grow acts None holds = holds
  acts-requested P grow acts (Some gap) holds = grow acts (Send (ResendRequest gap.from gap.to)) holds (record { short = tt; no_tick = refl; no_reset = refl })

  task_offered : (line : Line Task) (n : ℕ) (task : Task) → HoldsTasks line → IsTask task → HoldsTasks (after_offer line n task)
  task_offered line n task all is k other held =
      elim (laws.items.offer line n task k other held) [ inl before ↦ all k other before | inr same ↦ subst IsTask (sym same) is ]

  good-placed : (P : List Act → Type 0) → Grows P → (p : Progress) (answer : Offered Task) (place : Place Task) → IsGood P p → ((task : Task) → place ≡ Now task → IsTask task) → IsGood P (on_place p answer place)
  good-placed P grow p answer (Now task) good is = good-drained P grow HELD_LIMIT (after_carrying p task) (good-carried P grow p task good (is task refl))
  good-placed P grow p answer Held good is = record { line = good.line; tasks = good.tasks; acts = acts-requested P grow p.acts answer.gap good.acts }
  good-placed P grow p answer (Known task) good is = good
  good-placed P grow p answer (NoRoom task) good is = good

  good-offered : (P : List Act → Type 0) (p : Progress) (n : ℕ) (task : Task) → IsGood P p → IsNumber n → IsTask task → IsGood P (behind_offer p n task)
  good-offered P p n task good number is = record { line = laws.lines.offer p.line n task good.line number; tasks = task_offered p.line n task good.tasks is; acts = good.acts }

  pub good-handled : (P : List Act → Type 0) → Grows P → (p : Progress) (n : ℕ) (task : Task) → IsGood P p → IsNumber n → IsTask task → IsGood P (after_handling p n task)
  unfolding after_handling
  good-handled P grow p n task good number is =
      good-placed P grow (behind_offer p n task) (answer_to_offer p.line n task) (place_of p.line n task) (good-offered P p n task good number is)
      (λ other now. subst IsTask (sym (laws.numbers.only_now p.line n task other now).1) is)

  -- none is ready behind a run over the held messages
  pub free-drained : (p : Progress) → IsLine p.line → NoneReady (after_draining HELD_LIMIT p)
  free-drained p line = leaves_none_ready laws p line.few

  free-placed : (p : Progress) (answer : Offered Task) (place : Place Task) → ((task : Task) → place ≡ Now task → IsLine (after_carrying p task).line) → (((task : Task) → place ≡ Now task → ⊥) → NoneReady p) → NoneReady (on_place p answer place)
  free-placed p answer (Now task) line free = free-drained (after_carrying p task) (line task refl)
  free-placed p answer Held line free = free (λ task is. cc)
  free-placed p answer (Known task) line free = free (λ other is. cc)
  free-placed p answer (NoRoom task) line free = free (λ other is. cc)

  any_acts : Grows (λ acts. Unit {0})
  any_acts acts act holds is = tt

  pub free-handled : (p : Progress) (n : ℕ) (task : Task) → IsLine p.line → HoldsTasks p.line → NoneReady p → IsNumber n → IsTask task → NoneReady (after_handling p n task)
  unfolding after_handling
  free-handled p n task line tasks free number is =
      let good : IsGood (λ acts. Unit {0}) p = record { line = line; tasks = tasks; acts = tt } in
      free-placed (behind_offer p n task) (answer_to_offer p.line n task) (place_of p.line n task)
      (λ other now. (good-carried (λ acts. Unit {0}) any_acts (behind_offer p n task) other (good-offered (λ acts. Unit {0}) p n task good number is) (subst IsTask (sym (laws.numbers.only_now p.line n task other now).1) is)).line)
      (laws.numbers.stays p.line n task free)

  pub expected_is_carried_out : ExpectedIsCarriedOut
  unfolding after_handling
  expected_is_carried_out p task free =
      let now = laws.numbers.now p.line task free in
      ap (λ (place : Place Task). on_place (record p { line = after_placing p.line p.line.expected task place }) (record { place = place; gap = gap_shown p.line p.line.expected place }) place) now
