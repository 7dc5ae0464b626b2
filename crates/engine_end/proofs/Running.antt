-- The last gathering is a run of happenings at its moment.
use Rattle.std.proofs.Common.{◌≡◌, ℕ, zero, suc, ◌<◌, ◌≤◌, true, List, [], ◌∷◌, ◌++◌, length, refl, sym, ap, subst, ◌∙◌, arith}
use Rattle.std.proofs.lemmas.List.Elements.{All-append, All-cons, All-head, All-nil, All-tail}
use Rattle.std.specs.List.{All}
use Rattle.connection_core.specs.Connection.{ConnectionState}
use Rattle.engine_end.specs.Finishing.{GathersSome}
use Rattle.engine_end.specs.Happening.{IsOfGathering, RunsGathering}
use Rattle.lease_core.specs.declared.entry.Entry.{Entry}
use Rattle.lease_desk.specs.Desk.{Gathers, InTurn, bodies_of}
use Rattle.lease_desk.specs.declared.desk.LeaseDesk.{LeaseDesk}
use Rattle.switchboard.specs.Board.{Board, connection_at}
use Rattle.switchboard.specs.Brought.{Brought, TakeWhatIsInHand, brought_over}
use Rattle.switchboard.specs.Going.{GoesOnTo, KeepsBytes, is_quiet}
use Rattle.switchboard.specs.Happenings.{Happening, Happens, Reaches, reserves, shows}
use Rattle.switchboard.specs.Ready.{IsReady}
use Rattle.switchboard.specs.Told.{ComeInOrder, moment_over}

module _ (at until : ℕ) where
  -- nothing happens
  stays : (old new : Board) → new ≡ old → RunsGathering at until old new
  stays old new same = record { happenings = []; all = All-nil (IsOfGathering at until); reaches = same }

  -- room is made
  made_room : (s : ℕ) (old new : Board) → Happens (reserves s) old new → RunsGathering at until old new
  made_room s old new happened = record {
    happenings = reserves s ∷ [];
    all = All-cons (IsOfGathering at until) (reserves s) [] tt (All-nil (IsOfGathering at until));
    reaches = (new, (happened, refl));
  }

  one_gathered : (s : ℕ) (old new : LeaseDesk) → Gathers s at until old new → RunsGathering at until old.board new.board
  one_gathered s old new gathers =
      let shown = shows s gathers.word (bodies_of gathers.items) at until in
      record {
        happenings = reserves s ∷ shown ∷ [];
        all = All-cons (IsOfGathering at until) (reserves s) (shown ∷ []) tt (All-cons (IsOfGathering at until) shown [] (refl, refl) (All-nil (IsOfGathering at until)));
        reaches = gathers.reaches;
      }

  module _ (join : (first second : List Happening) (old between new : Board) → Reaches first old between → Reaches second between new → Reaches (first ++ second) old new) where
    further : (first second third : Board) → RunsGathering at until first second → RunsGathering at until second third → RunsGathering at until first third
    further first second third run next = record {
      happenings = run.happenings ++ next.happenings;
      all = All-append (IsOfGathering at until) run.happenings next.happenings run.all next.all;
      reaches = join run.happenings next.happenings first second third run.reaches next.reaches;
    }

    pub gathered : (n : ℕ) (old new : LeaseDesk) → InTurn (λ s. Gathers s at until) n old new → RunsGathering at until old.board new.board
    gathered zero old new same = stays old.board new.board (ap (λ (d : LeaseDesk). d.board) same)
    gathered (suc n) old new steps = further old.board steps.0.board new.board (gathered n old steps.0 steps.1) (one_gathered n steps.0 new steps.2)

    pub some_gathered : (old new : LeaseDesk) → GathersSome at until old new → RunsGathering at until old.board new.board
    some_gathered old new some =
        let between = some.between in
        let rests = some.rests in
        further old.board between.board new.board (gathered some.count old between some.gathers) (made_room some.count between.board new.board rests.happens)

  -- moments come in order
  pub come_in_order : (moment : ℕ) (happenings : List Happening) → moment ≤ at → All (IsOfGathering at until) happenings → ComeInOrder moment happenings × (moment_over happenings moment ≤ at)
  come_in_order moment [] within all = (tt, within)
  come_in_order moment (shows s w bodies now limit ∷ happenings) within all =
      let same : now ≡ at = (All-head (IsOfGathering at until) (shows s w bodies now limit) happenings all).0 in
      let rest = come_in_order now happenings (omega arith) (All-tail (IsOfGathering at until) (shows s w bodies now limit) happenings all) in
      ((omega arith, rest.0), rest.1)
  come_in_order moment (reserves s ∷ happenings) within all =
      let rest = come_in_order moment happenings within (All-tail (IsOfGathering at until) (reserves s) happenings all) in
      ((omega arith, rest.0), rest.1)
  come_in_order moment (other ∷ happenings) within all = absurd (All-head (IsOfGathering at until) other happenings all)

  -- and nothing is handled
  pub nothing_handled : (happenings : List Happening) (old new : Board) (reached : Reaches happenings old new) (brought : ℕ → Brought) → All (IsOfGathering at until) happenings
      → TakeWhatIsInHand happenings old new reached brought × ((k : ℕ) → brought_over happenings old new reached brought k ≡ brought k)
  nothing_handled [] old new reached brought all = (tt, λ k. refl)
  nothing_handled (shows s w bodies now limit ∷ happenings) old new reached brought all =
      let rest = nothing_handled happenings reached.0 new reached.1.1 brought (All-tail (IsOfGathering at until) (shows s w bodies now limit) happenings all) in
      ((tt, rest.0), rest.1)
  nothing_handled (reserves s ∷ happenings) old new reached brought all =
      let rest = nothing_handled happenings reached.0 new reached.1.1 brought (All-tail (IsOfGathering at until) (reserves s) happenings all) in
      ((tt, rest.0), rest.1)
  nothing_handled (other ∷ happenings) old new reached brought all = absurd (All-head (IsOfGathering at until) other happenings all)

  -- each of them is quiet
  quiet : (happening : Happening) → IsOfGathering at until happening → is_quiet happening ≡ true
  quiet (shows s w bodies now limit) is = refl
  quiet (reserves s) is = refl
  quiet other is = absurd is

same_bytes : (c : ConnectionState) → KeepsBytes c c
same_bytes c = record { taken = refl; held = refl; garbled = refl; written = refl }

bytes_further : (first second third : ConnectionState) → KeepsBytes first second → KeepsBytes second third → KeepsBytes first third
bytes_further first second third one two = record {
  taken = two.taken ∙ one.taken;
  held = two.held ∙ one.held;
  garbled = two.garbled ∙ one.garbled;
  written = two.written ∙ one.written;
}

-- what boards keep in one happening
pub record Laws (before : ℕ → List Entry) : Type 0 where
  pub ready : (happening : Happening) (old new : Board) → Happens happening old new → IsReady before old → IsReady before new
  pub goes_on : (happening : Happening) (old new : Board) → Happens happening old new → GoesOnTo old new
  pub quiet_bytes : (happening : Happening) (old new : Board) → is_quiet happening ≡ true → Happens happening old new → IsReady before old
      → (k : ℕ) → k < length old.connections → KeepsBytes (connection_at old k) (connection_at new k)

pub keeps_bytes : (before : ℕ → List Entry) → Laws before → (at until : ℕ) (happenings : List Happening) (old new : Board) → All (IsOfGathering at until) happenings → Reaches happenings old new → IsReady before old
    → (k : ℕ) → k < length old.connections → KeepsBytes (connection_at old k) (connection_at new k)
keeps_bytes before l at until [] old new all same ready k within = subst (λ (b : Board). KeepsBytes (connection_at old k) (connection_at b k)) (sym same) (same_bytes (connection_at old k))
keeps_bytes before l at until (happening ∷ happenings) old new all reached ready k within =
    let between = reached.0 in
    let happens = reached.1.0 in
    let is_quiet = quiet at until happening (All-head (IsOfGathering at until) happening happenings all) in
    let goes = l.goes_on happening old between happens in
    bytes_further (connection_at old k) (connection_at between k) (connection_at new k) (l.quiet_bytes happening old between is_quiet happens ready k within)
    (keeps_bytes before l at until happenings between new (All-tail (IsOfGathering at until) happening happenings all) reached.1.1 (l.ready happening old between happens ready) k (let more = goes.more in omega arith))
