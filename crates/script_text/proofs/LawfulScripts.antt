-- Each script that is read is lawful.
use Rattle.std.proofs.Common.{◌≡◌, ℕ, suc, ◌+◌, ◌<◌, ◌≤◌, Bool, true, false, not, List, [], ◌∷◌, ◌++◌, length, Option, Ok, Err, All, IsTrue, refl, sym, ap, ◌∙◌, arith, subst, append_assoc, append-nil}
use Rattle.std.proofs.lemmas.List.{length_push}
use Rattle.std.proofs.lemmas.List.Elements.{All-nil, All-push}
use Rattle.std.proofs.lemmas.List.Quantifiers.{all_pairs_push}
use Rattle.std.specs.List.{AllPairs}
use Rattle.std.specs.Prelude.{nat_lt, if◌then◌else◌}
use Rattle.engine_config.specs.declared.config.Config.{Config}
use Rattle.engine_config.specs.declared.config.DialTo.{DialTo}
use Rattle.fix_fields.specs.Laws.{MomentsHaveABound}
use Rattle.gate_io.specs.declared.wires.TheConstants.{MOST_CONNECTIONS}
use Rattle.session_core.specs.declared.names.Names.{Names}
use Rattle.script_text.specs.Grammar.{line_of}
use Rattle.script_text.specs.Lawful.{IsLawful, StepFits, StepsFit, connects_in, line_numbers}
use Rattle.script_text.specs.Meaning.{lines_of, read_on, script_from, script_of}
use Rattle.script_text.specs.SoFar.{SoFar, config_with, first_numbers, moment_with, no_lines, numbers_with, replay_with, said_with, script_said, setting_with, step_with}
use Rattle.script_text.specs.declared.kinds.ScriptError.TheVariants.{Fault}
use Rattle.script_text.specs.declared.kinds.ScriptKind.TheVariants.{TooLong}
use Rattle.script_text.specs.declared.lines.Line.{Line}
use Rattle.script_text.specs.declared.lines.Line.TheVariants as line
use Rattle.script_text.specs.declared.lines.Setting.{Setting}
use Rattle.script_text.specs.declared.lines.Setting.TheVariants as setting
use Rattle.script_text.specs.declared.numbers.NextNumbers.{NextNumbers}
use Rattle.script_text.specs.declared.steps.Script.{Script}
use Rattle.script_text.specs.declared.steps.Step.{Step}
use Rattle.script_text.specs.declared.steps.Step.TheVariants as step
use Rattle.script_text.proofs.LawfulConfigs.{ConfigSoFar, config_with-so_far, no_config-so_far, replay_with-so_far, so_far-lawful}
use Rattle.script_text.proofs.LineFacts.{LineFits, SettingFits, line_of-fits}
use Rattle.script_text.proofs.Meanings.{from-cons, from-nil}

-- ---- the steps

-- the next numbers and the present moment behind steps
abbrev pub numbers_behind : NextNumbers → List Step → NextNumbers
numbers_behind next [] = next
numbers_behind next (first ∷ rest) = numbers_behind (numbers_with first next) rest

abbrev pub moment_behind : ℕ → List Step → ℕ
moment_behind present [] = present
moment_behind present (first ∷ rest) = moment_behind (moment_with first present) rest

numbers_behind-push : (next : NextNumbers) (steps : List Step) (what : Step) → numbers_behind next (steps ++ what ∷ []) ≡ numbers_with what (numbers_behind next steps)
numbers_behind-push next [] what = refl
numbers_behind-push next (first ∷ rest) what = numbers_behind-push (numbers_with first next) rest what

moment_behind-push : (present : ℕ) (steps : List Step) (what : Step) → moment_behind present (steps ++ what ∷ []) ≡ moment_with what (moment_behind present steps)
moment_behind-push present [] what = refl
moment_behind-push present (first ∷ rest) what = moment_behind-push (moment_with first present) rest what

fit-push : (serving : Bool) (libraries : ℕ) (next : NextNumbers) (present : ℕ) (steps : List Step) (what : Step) → StepsFit serving libraries next present steps → StepFits serving libraries (numbers_behind next steps) (moment_behind present steps) what → StepsFit serving libraries next present (steps ++ what ∷ [])
fit-push serving libraries next present [] what all fits = (fits, tt)
fit-push serving libraries next present (first ∷ rest) what all fits =
    (all.0, fit-push serving libraries (numbers_with first next) (moment_with first present) rest what all.1 fits)

fit-none : (serving : Bool) (libraries : ℕ) (next : NextNumbers) (present : ℕ) (steps : List Step) → length steps ≡ 0 → StepsFit serving libraries next present steps
fit-none serving libraries next present [] none = tt
fit-none serving libraries next present (first ∷ rest) none = absurd (omega arith)

-- the connections that come behind steps are those before them and one for each `connect`
connects-count : (next : NextNumbers) (steps : List Step) → (numbers_behind next steps).connect ≡ next.connect + connects_in steps
connects-count next [] = omega arith
connects-count next (step.At now ∷ rest) = connects-count next rest
connects-count next (step.Connect ∷ rest) = omega (arith, connects-count (record next { connect = next.connect + 1 }) rest)
connects-count next (step.Take ∷ rest) = connects-count (record next { take = next.take + 1 }) rest
connects-count next (step.Bytes c bytes ∷ rest) = connects-count next rest
connects-count next (step.Frame c body ∷ rest) = connects-count next rest
connects-count next (step.Finish c ∷ rest) = connects-count next rest
connects-count next (step.FailRead c ∷ rest) = connects-count next rest
connects-count next (step.FailWrite c after ∷ rest) = connects-count next rest
connects-count next (step.Block c after ∷ rest) = connects-count next rest
connects-count next (step.Unblock c ∷ rest) = connects-count next rest
connects-count next (step.Turn ∷ rest) = connects-count next rest
connects-count next (step.Lib library what ∷ rest) = connects-count next rest

-- a step that fits leaves no more connections than may come
few-step : (serving : Bool) (libraries : ℕ) (next : NextNumbers) (present : ℕ) (what : Step) → next.connect ≤ MOST_CONNECTIONS → StepFits serving libraries next present what → (numbers_with what next).connect ≤ MOST_CONNECTIONS
few-step serving libraries next present (step.At now) few fits = few
few-step serving libraries next present step.Connect few fits = let below : next.connect < MOST_CONNECTIONS = fits.1 in omega arith
few-step serving libraries next present step.Take few fits = few
few-step serving libraries next present (step.Bytes c bytes) few fits = few
few-step serving libraries next present (step.Frame c body) few fits = few
few-step serving libraries next present (step.Finish c) few fits = few
few-step serving libraries next present (step.FailRead c) few fits = few
few-step serving libraries next present (step.FailWrite c after) few fits = few
few-step serving libraries next present (step.Block c after) few fits = few
few-step serving libraries next present (step.Unblock c) few fits = few
few-step serving libraries next present step.Turn few fits = few
few-step serving libraries next present (step.Lib library what) few fits = few

-- ---- the lines so far

-- what holds of the lines before line n, and what is kept beside the script is that of its steps
pub record Kept (serving : Bool) (n : ℕ) (said : SoFar) : Type 0 where
  pub config : ConfigSoFar said.script.config
  pub steps : StepsFit serving said.script.config.libraries first_numbers 0 said.script.steps
  pub session_lines : length said.script.session_lines ≡ length said.script.config.names
  pub step_lines : length said.script.step_lines ≡ length said.script.steps
  pub in_order : AllPairs (λ (a b : ℕ). a < b) (line_numbers said.script)
  pub next : said.next ≡ numbers_behind first_numbers said.script.steps
  pub few : said.next.connect ≤ MOST_CONNECTIONS
  pub moment : said.moment ≡ moment_behind 0 said.script.steps
  pub below : All (λ m. m < n) (line_numbers said.script)

kept_start : (serving : Bool) → Kept serving 1 no_lines
kept_start serving =
    record {
      config = no_config-so_far;
      steps = tt;
      session_lines = refl;
      step_lines = refl;
      in_order = λ i j d h within. absurd (omega arith);
      next = refl;
      few = omega arith;
      moment = refl;
      below = All-nil (λ m. m < 1);
    }

later-below : (n : ℕ) (numbers : List ℕ) → All (λ m. m < n) numbers → All (λ m. m < suc n) numbers
later-below n numbers below k d within = let before = below k d within in omega (arith, before)

more-below : (n : ℕ) (numbers : List ℕ) → All (λ m. m < n) numbers → All (λ m. m < suc n) (numbers ++ n ∷ [])
more-below n numbers below = All-push (λ m. m < suc n) numbers n (later-below n numbers below) (omega arith)

more-in_order : (n : ℕ) (numbers : List ℕ) → All (λ m. m < n) numbers → AllPairs (λ (a b : ℕ). a < b) numbers → AllPairs (λ (a b : ℕ). a < b) (numbers ++ n ∷ [])
more-in_order n numbers below in_order = all_pairs_push (λ (a b : ℕ). a < b) numbers n in_order below

no_items : {X : Type 0} (xs : List X) → length xs ≡ 0 → xs ≡ []
no_items [] none = refl
no_items (x ∷ xs) none = absurd (omega arith)

-- one more session line, where no step stands
numbers-session : (sessions steps : List ℕ) (n : ℕ) → length steps ≡ 0 → (sessions ++ n ∷ []) ++ steps ≡ (sessions ++ steps) ++ n ∷ []
numbers-session sessions steps n none =
    ap (λ (xs : List ℕ). (sessions ++ n ∷ []) ++ xs) (no_items steps none) ∙ append-nil (sessions ++ n ∷ [])
    ∙ ap (λ (xs : List ℕ). xs ++ n ∷ []) (sym (append-nil sessions))
    ∙ ap (λ (xs : List ℕ). (sessions ++ xs) ++ n ∷ []) (sym (no_items steps none))

kept_session : (serving : Bool) (n : ℕ) (said : SoFar) (names : Names) (to : Option DialTo) → Kept serving n said → length said.script.steps ≡ 0 → SettingFits serving said.script.config.names (setting.Session names to) → Kept serving (suc n) (setting_with n (setting.Session names to) said)
kept_session serving n said names to kept none fits =
    let no_numbers : length said.script.step_lines ≡ 0 = omega (arith, kept.step_lines) in
    let numbers = numbers-session said.script.session_lines said.script.step_lines n no_numbers in
    record {
      config = config_with-so_far serving said.script.config (setting.Session names to) kept.config fits;
      steps = fit-none serving _ first_numbers 0 said.script.steps none;
      session_lines = omega (arith, kept.session_lines, length_push said.script.session_lines n, length_push said.script.config.names names);
      step_lines = kept.step_lines;
      in_order = subst (AllPairs (λ (a b : ℕ). a < b)) (sym numbers) (more-in_order n _ kept.below kept.in_order);
      next = kept.next;
      few = kept.few;
      moment = kept.moment;
      below = subst (All (λ m. m < suc n)) (sym numbers) (more-below n _ kept.below);
    }

-- another configuration with the same sessions, where no step stands
kept_config : (serving : Bool) (n : ℕ) (said : SoFar) (config : Config) → Kept serving n said → length said.script.steps ≡ 0 → ConfigSoFar config → length said.script.config.names ≡ length config.names → Kept serving (suc n) (record said { script = record said.script { config = config } })
kept_config serving n said config kept none so_far same =
    record {
      config = so_far;
      steps = fit-none serving _ first_numbers 0 said.script.steps none;
      session_lines = kept.session_lines ∙ same;
      step_lines = kept.step_lines;
      in_order = kept.in_order;
      next = kept.next;
      few = kept.few;
      moment = kept.moment;
      below = later-below n _ kept.below;
    }

kept_setting : (serving : Bool) (n : ℕ) (said : SoFar) (what : Setting) → Kept serving n said → length said.script.steps ≡ 0 → SettingFits serving said.script.config.names what → Kept serving (suc n) (setting_with n what said)
kept_setting serving n said (setting.Session names to) kept none fits = kept_session serving n said names to kept none fits
kept_setting serving n said (setting.Libraries x) kept none fits =
    kept_config serving n said _ kept none (config_with-so_far serving said.script.config (setting.Libraries x) kept.config fits) refl
kept_setting serving n said (setting.Connections x) kept none fits =
    kept_config serving n said _ kept none (config_with-so_far serving said.script.config (setting.Connections x) kept.config fits) refl
kept_setting serving n said (setting.Dials x) kept none fits =
    kept_config serving n said _ kept none (config_with-so_far serving said.script.config (setting.Dials x) kept.config fits) refl
kept_setting serving n said (setting.Lane x) kept none fits =
    kept_config serving n said _ kept none (config_with-so_far serving said.script.config (setting.Lane x) kept.config fits) refl
kept_setting serving n said (setting.Leases x) kept none fits =
    kept_config serving n said _ kept none (config_with-so_far serving said.script.config (setting.Leases x) kept.config fits) refl
kept_setting serving n said (setting.Sends x) kept none fits =
    kept_config serving n said _ kept none (config_with-so_far serving said.script.config (setting.Sends x) kept.config fits) refl
kept_setting serving n said (setting.Asks x) kept none fits =
    kept_config serving n said _ kept none (config_with-so_far serving said.script.config (setting.Asks x) kept.config fits) refl
kept_setting serving n said (setting.Timeout x) kept none fits =
    kept_config serving n said _ kept none (config_with-so_far serving said.script.config (setting.Timeout x) kept.config fits) refl
kept_setting serving n said (setting.Hold x) kept none fits =
    kept_config serving n said _ kept none (config_with-so_far serving said.script.config (setting.Hold x) kept.config fits) refl

kept_step : (serving : Bool) (n : ℕ) (said : SoFar) (what : Step) → Kept serving n said → StepFits serving said.script.config.libraries said.next said.moment what → Kept serving (suc n) (step_with n what said)
kept_step serving n said what kept fits =
    let script = said.script in
    let numbers : script.session_lines ++ (script.step_lines ++ n ∷ []) ≡ (script.session_lines ++ script.step_lines) ++ n ∷ [] = sym (append_assoc script.session_lines script.step_lines (n ∷ [])) in
    let behind = subst (λ m. StepFits serving script.config.libraries (numbers_behind first_numbers script.steps) m what) kept.moment (subst (λ (next : NextNumbers). StepFits serving script.config.libraries next said.moment what) kept.next fits) in
    record {
      config = kept.config;
      steps = fit-push serving script.config.libraries first_numbers 0 script.steps what kept.steps behind;
      session_lines = kept.session_lines;
      step_lines = omega (arith, kept.step_lines, length_push script.step_lines n, length_push script.steps what);
      in_order = subst (AllPairs (λ (a b : ℕ). a < b)) (sym numbers) (more-in_order n _ kept.below kept.in_order);
      next = ap (numbers_with what) kept.next ∙ sym (numbers_behind-push first_numbers script.steps what);
      few = few-step serving script.config.libraries said.next said.moment what kept.few fits;
      moment = ap (moment_with what) kept.moment ∙ sym (moment_behind-push 0 script.steps what);
      below = subst (All (λ m. m < suc n)) (sym numbers) (more-below n _ kept.below);
    }

kept_line : (serving : Bool) (n : ℕ) (said : SoFar) (what : Line) → Kept serving n said → LineFits serving said what → Kept serving (suc n) (said_with n what said)
unfolding said_with
kept_line serving n said line.Blank kept fits =
    record {
      config = kept.config;
      steps = kept.steps;
      session_lines = kept.session_lines;
      step_lines = kept.step_lines;
      in_order = kept.in_order;
      next = kept.next;
      few = kept.few;
      moment = kept.moment;
      below = later-below n _ kept.below;
    }
kept_line serving n said (line.Config what) kept fits = kept_setting serving n said what kept fits.0 fits.1
kept_line serving n said (line.Step what) kept fits = kept_step serving n said what kept fits

-- ---- whole scripts

lawful-said : (serving : Bool) (n : ℕ) (said : SoFar) → Kept serving n said → IsLawful serving (script_said serving said)
lawful-said true n said kept =
    record {
      config = so_far-lawful said.script.config kept.config;
      replays = λ replays. absurd (cc);
      steps = kept.steps;
      session_lines = kept.session_lines;
      step_lines = kept.step_lines;
      in_order = kept.in_order;
    }
lawful-said false n said kept =
    record {
      config = so_far-lawful _ (replay_with-so_far said.next.connect said.script.config kept.few kept.config);
      replays = λ _. record { connections = ap (λ (next : NextNumbers). next.connect) kept.next ∙ connects-count first_numbers said.script.steps ∙ omega arith; dials = refl };
      steps = kept.steps;
      session_lines = kept.session_lines;
      step_lines = kept.step_lines;
      in_order = kept.in_order;
    }

lawful-from : MomentsHaveABound → (serving : Bool) (n : ℕ) (said : SoFar) (texts : List (List ℕ)) (script : Script) → Kept serving n said → script_from serving n said texts ≡ Ok script → IsLawful serving script
lawful-from bound serving n said [] script kept e =
    let same : script_said serving said ≡ script = cc (from-nil serving n said) in
    subst (IsLawful serving) same (lawful-said serving n said kept)
lawful-from bound serving n said (text ∷ texts) script kept e =
    elim (line_of serving said text) as (λ v. line_of serving said text ≡ v → read_on n (λ line. script_from serving (suc n) (said_with n line said) texts) v ≡ Ok script → IsLawful serving script) [
      | Ok what ↦ λ read s. lawful-from bound serving (suc n) (said_with n what said) texts script (kept_line serving n said what kept (line_of-fits bound serving said text what read)) s
      | Err kind ↦ λ _ s. cc
    ] refl (sym (from-cons serving n said text texts) ∙ e)

pub lawful-script : MomentsHaveABound → (serving : Bool) (text : List ℕ) (script : Script) → script_of serving text ≡ Ok script → IsLawful serving script
unfolding script_of
lawful-script bound serving text script e =
    elim (nat_lt 16_777_216 (length text)) as (λ v. (if v then Err (Fault 0 TooLong) else script_from serving 1 no_lines (lines_of text)) ≡ Ok script → IsLawful serving script) [
      | true ↦ λ s. cc
      | false ↦ λ s. lawful-from bound serving 1 no_lines (lines_of text) script (kept_start serving) s
    ] e
