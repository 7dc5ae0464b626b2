-- What serving leaves, by how the writing of its report ended and whose turns were spent.
use Rattle.std.proofs.Common.{◌≡◌, ◌⊎◌, inl, inr, ℕ, Bool, List, [], Option, None, Some, refl, ap, subst, ◌∙◌}
use Rattle.std.specs.List.{All}
use Rattle.command_words.specs.declared.words.Chosen.{Chosen}
use Rattle.command_words.specs.declared.words.Chosen.TheVariants as chosen
use Rattle.engine_end.specs.Records.{HasLawfulJournal}
use Rattle.gate_io.specs.Wire.{Door, Link}
use Rattle.gate_io.specs.declared.wires.Listened.{Listened}
use Rattle.gate_io.specs.declared.wires.Listened.TheVariants.{Ready}
use Rattle.gateway_run.specs.Outcome.{Writes}
use Rattle.gateway_run.specs.Served.{Anyhow, EndsServing, IsServed, IsServedInPart, IsUnasked, LeavesWhatWasServed, ListensAt, ServesSo, WireServes, with_spent}
use Rattle.gateway_run.specs.declared.statuses.Status.{Status}
use Rattle.gateway_run.specs.declared.statuses.Status.TheVariants as status
use Rattle.headline.specs.InPart.{HeadlineInPart}
use Rattle.run_report.specs.declared.records.RunRecord.{RunRecord}
use Rattle.run_report.specs.Records.{no_run}
use Rattle.script_text.specs.declared.steps.Script.{Script}
use Rattle.headline.specs.serving.Served.{AnyReadings}
use Rattle.headline.specs.Serves.{Serves}
use Rattle.headline.specs.InPart.{ServesInPart}

module _ (Is : Script → Type 0) (turns : ℕ) (Serving : Script → ℕ → RunRecord → Option ℕ → Type 0) (InPart : RunRecord → Type 0) (Unasked : Type 0) (text : List ℕ) (old new : Option (List ℕ)) (risen same : Type 0) where
  pub served_by : (ended : Status) (spent : Option ℕ) (run : RunRecord) → IsServed Is turns Serving run spent → All HasLawfulJournal run.engine.sessions → Writes text old new risen same ended → ServesSo Is turns Serving InPart Unasked (with_spent ended turns spent) run
  served_by status.Ok None run served journals writes = served
  served_by status.Ok (Some library) run served journals writes = (refl, served)
  served_by status.WriteFault spent run served journals writes = (spent, served)
  served_by status.OutOfMemory spent run served journals writes = record { lawful = journals; is = inr (inr (spent, served)) }
  served_by status.Usage spent run served journals writes = absurd writes
  served_by status.ReadFault spent run served journals writes = absurd writes
  served_by (status.ScriptFault line kind) spent run served journals writes = absurd writes
  served_by (status.TurnsSpent made library) spent run served journals writes = absurd writes
  served_by status.ListenFault spent run served journals writes = absurd writes

  pub ends_by : (refuses : Status → Type 0) (listen : Type 0) (ended : Status) (spent : Option ℕ) → Writes text old new risen same ended → EndsServing refuses listen text old new risen same (with_spent ended turns spent)
  ends_by refuses listen status.Ok None writes = writes
  ends_by refuses listen status.Ok (Some library) writes = writes
  ends_by refuses listen status.WriteFault spent writes = writes
  ends_by refuses listen status.OutOfMemory spent writes = writes
  ends_by refuses listen status.Usage spent writes = absurd writes
  ends_by refuses listen status.ReadFault spent writes = absurd writes
  ends_by refuses listen (status.ScriptFault line kind) spent writes = absurd writes
  ends_by refuses listen (status.TurnsSpent made library) spent writes = absurd writes
  ends_by refuses listen status.ListenFault spent writes = absurd writes

  -- where nothing stood in the way before
  pub ends_as : (refuses : Status → Type 0) (listen : Type 0) (ended : Status) → EndsServing (λ s. ⊥) ⊥ text old new risen same ended → EndsServing refuses listen text old new risen same ended
  ends_as refuses listen status.Ok ends = ends
  ends_as refuses listen status.WriteFault ends = ends
  ends_as refuses listen status.OutOfMemory ends = ends
  ends_as refuses listen status.Usage ends = absurd ends
  ends_as refuses listen status.ReadFault ends = absurd ends.0
  ends_as refuses listen (status.ScriptFault line kind) ends = absurd ends.0
  ends_as refuses listen (status.TurnsSpent made library) ends = ends
  ends_as refuses listen status.ListenFault ends = absurd ends.0

-- what is served, whatever was read of the clock
abbrev pub whatever_read : (script : Script) (turns : ℕ) (wide : Bool) (Read : List ℕ → Type 0) (old new : Door) (old_links new_links : ℕ → Link) (run : RunRecord) (spent : Option ℕ)
    → Serves script turns wide Read old new old_links new_links run spent → Serves script turns wide AnyReadings old new old_links new_links run spent
whatever_read script turns wide Read old new old_links new_links run spent served = (
    let drives = served.drives in
    record {
      shared = served.shared;
      reading = served.reading;
      first = served.first;
      last = served.last;
      begun = served.begun;
      worked = served.worked;
      over = served.over;
      starts = served.starts;
      libraries = served.libraries;
      drives = record { count = drives.count; few = drives.few; last = drives.last; at = drives.at; drives = drives.drives; reads = tt; ended = drives.ended; spent = drives.spent };
      works = served.works;
      concludes = served.concludes;
    })

-- no turns were spent
pub none_spent : (script : Script) (turns : ℕ) (wide : Bool) (old new : Door) (old_links new_links : ℕ → Link) (run : RunRecord) (spent : Option ℕ) → spent ≡ None
    → Serves script turns wide AnyReadings old new old_links new_links run spent → Serves script turns wide AnyReadings old new old_links new_links run None
none_spent script turns wide old new old_links new_links run spent none served = subst (Serves script turns wide AnyReadings old new old_links new_links run) none served

-- what is served of a script that is one of these, over a wire as it was before
module _ (Is Known : Script → Type 0) (turns : ℕ) (Serving Served : Script → ℕ → RunRecord → Option ℕ → Type 0) (InPart KnownInPart : RunRecord → Type 0) (Unasked KnownUnasked : Type 0) (run : RunRecord) (is : (script : Script) → Is script → Known script)
    (goes : (script : Script) (spent : Option ℕ) → Serving script turns run spent → Served script turns run spent) (part : InPart run → KnownInPart run) (unasked : Unasked → KnownUnasked) where
  whole_as : (spent : Option ℕ) → IsServed Is turns Serving run spent → IsServed Known turns Served run spent
  whole_as spent served = record { script = served.script; is = is served.script served.is; serves = goes served.script spent served.serves }

  pub serves_as : (ended : Status) → ServesSo Is turns Serving InPart Unasked ended run → ServesSo Known turns Served KnownInPart KnownUnasked ended run
  serves_as status.Ok served = whole_as None served
  serves_as (status.TurnsSpent spent library) served = (served.0, whole_as (Some library) served.1)
  serves_as status.WriteFault served = (served.0, whole_as served.0 served.1)
  serves_as status.OutOfMemory served = record {
    lawful = served.lawful;
    is = elim served.is [ inl none ↦ inl (none.0, unasked none.1) | inr begun ↦ inr (elim begun [ inl some ↦ inl (part some) | inr whole ↦ inr (whole.0, whole_as whole.0 whole.1) ]) ];
  }
  serves_as status.Usage served = served
  serves_as status.ReadFault served = served
  serves_as (status.ScriptFault line kind) served = served
  serves_as status.ListenFault served = served

-- where memory was wanting as one was served
pub served_in_part : {W : Type 0} (door : W → Door) (link : W → ℕ → Link) (before after : W) (turns : ℕ) (Serving : Script → ℕ → RunRecord → Option ℕ → Type 0) (wide : Bool) (old : Door) (links : ℕ → Link) (script : Script) (run : RunRecord)
    → All HasLawfulJournal run.engine.sessions → (ServesInPart script turns wide old links run → HeadlineInPart script.config run)
    → ((run ≡ no_run) × (after ≡ before)) ⊎ ServesInPart script turns wide old links run
    → LeavesWhatWasServed (λ said. said ≡ script) turns Serving (IsServedInPart (λ said. said ≡ script) turns wide old) (IsUnasked (door before) (door after) (link before) (link after)) run
served_in_part door link before after turns Serving wide old links script run journals headline left = record {
  lawful = journals;
  is = elim left [ inl none ↦ inl (none.0, record { door = ap door none.1; links = λ c. ap (λ w. link w c) none.1 }) | inr serves ↦ inr (inl (record { script = script; is = refl; links = links; serves = serves; headline = headline serves })) ];
}

-- of a script that is known, over a wire that tells as before
pub in_part_as : (Is Known : Script → Type 0) (turns : ℕ) (wide : Bool) (old before : Door) (run : RunRecord) → ((script : Script) → Is script → Known script) → old ≡ before → IsServedInPart Is turns wide old run
    → IsServedInPart Known turns wide before run
in_part_as Is Known turns wide old before run is same served = subst (λ (d : Door). IsServedInPart Known turns wide d run) same (record {
  script = served.script;
  is = is served.script served.is;
  links = served.links;
  serves = served.serves;
  headline = served.headline;
})

-- nothing was asked of a wire that came to listen
pub unasked_behind : (first ready last : Door) (first_links ready_links last_links : ℕ → Link) → ready ≡ first → ((c : ℕ) → ready_links c ≡ first_links c) → IsUnasked ready last ready_links last_links
    → IsUnasked first last first_links last_links
unasked_behind first ready last first_links ready_links last_links door links unasked = record { door = unasked.door ∙ door; links = λ c. unasked.links c ∙ links c }

-- over a wire that came to listen so
pub behind_listen : {W : Type 0} (gives : W → List ℕ → Listened → W → Type 0) (link : W → ℕ → Link) (first ready : W) (address : List ℕ) (wide : Bool) (Read : List ℕ → Type 0) (before old new : Door) (new_links : ℕ → Link)
    (script : Script) (turns : ℕ) (run : RunRecord) (spent : Option ℕ) → gives first address Ready ready → old ≡ before → ((c : ℕ) → link ready c ≡ link first c)
    → WireServes Anyhow wide Read old new (link ready) new_links script turns run spent → WireServes (ListensAt gives link first address) wide Read before new (link first) new_links script turns run spent
behind_listen gives link first ready address wide Read before old new new_links script turns run spent listens door links served =
    subst (λ (d : Door). WireServes (ListensAt gives link first address) wide Read d new (link first) new_links script turns run spent) door (record {
      links = served.links;
      listening = record { wire = ready; listens = listens; tells = served.same };
      same = λ c. served.same c ∙ links c;
      serves = served.serves;
      headline = served.headline;
      finished = served.finished;
      clock = served.clock;
    })

-- what is served at an address, for so many turns, whichever way these are told
pub served_at : {W : Type 0} (Is : Script → Type 0) (gives : W → List ℕ → Listened → W → Type 0) (link : W → ℕ → Link) (first : W) (wide : Bool) (Read : List ℕ → Type 0) (old new : Door) (old_links new_links : ℕ → Link) (Unasked : Type 0) (ended : Status) (run : RunRecord)
    (address told : List ℕ) (turns count : ℕ) → address ≡ told → turns ≡ count
    → ServesSo Is turns (WireServes (ListensAt gives link first address) wide Read old new old_links new_links) (IsServedInPart Is turns wide old) Unasked ended run
    → ServesSo Is count (WireServes (ListensAt gives link first told) wide Read old new old_links new_links) (IsServedInPart Is count wide old) Unasked ended run
served_at Is gives link first wide Read old new old_links new_links Unasked ended run address told turns count same many served =
    subst (λ (n : ℕ). ServesSo Is n (WireServes (ListensAt gives link first told) wide Read old new old_links new_links) (IsServedInPart Is n wide old) Unasked ended run) many
    (subst (λ (text : List ℕ). ServesSo Is turns (WireServes (ListensAt gives link first text) wide Read old new old_links new_links) (IsServedInPart Is turns wide old) Unasked ended run) same served)

-- the address that a command of `serve` gives
abbrev pub address_in : Chosen → List ℕ
address_in (chosen.Serve path address turns) = address
address_in (chosen.Replay path) = []
address_in (chosen.Drill n) = []

-- the turns that a command of `serve` gives
abbrev pub turns_in : Chosen → ℕ
turns_in (chosen.Serve path address turns) = turns
turns_in (chosen.Replay path) = 0
turns_in (chosen.Drill n) = n
