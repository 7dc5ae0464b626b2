-- Each of the wrong records of runs for which memory was wanting is refuted.
use Rattle.std.proofs.Common.{◌≡◌, inl, inr, ℕ, false, List, [], ◌∷◌, ◌++◌, get_or, Option, None, Some, refl, sym, ap, subst, ◌∙◌}
use Rattle.std.proofs.lemmas.List.{append-nil}
use Rattle.std.proofs.lemmas.List.Elements.{All-head}
use Rattle.std.proofs.lemmas.Option.{none-some}
use Rattle.std.specs.List.{All, slice_get}
use Rattle.engine_config.specs.declared.config.Config.{Config}
use Rattle.fix_frame.specs.Cut.{cut}
use Rattle.fix_frame.specs.declared.layout.TheConstants.{LONGEST_FRAME}
use Rattle.headline.proofs.Refuted.{no_pieces}
use Rattle.headline.specs.InPart.{IsHandledSoFar, TellsAll}
use Rattle.headline.specs.WrongInPart.{BindsNoConnection, DidNotLogOn, HasOtherNames, IsRefutedInPart, MissesSession, StopsTwice, TellsWhatNeverCame}
use Rattle.lease_core.specs.State.{State as Totals}
use Rattle.lease_core.specs.declared.entry.Entry.{Entry}
use Rattle.lease_core.specs.declared.entry.Entry.TheVariants.{Arrive}
use Rattle.message_log.specs.declared.entry.OutEntry.{OutEntry}
use Rattle.headline.specs.runs.Accounted.{first_machines}
use Rattle.run_report.specs.declared.records.RunRecord.{RunRecord}
use Rattle.session_book.specs.Runs.{Handled, TellEach, TellRuns, bodies_of}
use Rattle.session_book.specs.Spells.{Placed, Spell, act_entries, new_spell, placed, spells_behind}
use Rattle.session_core.specs.Ask.{ask, logon_effects}
use Rattle.session_core.specs.Runs.{after_connections, connection_acts}
use Rattle.session_core.specs.State.{State}
use Rattle.session_core.specs.declared.acts.Act.{Act}
use Rattle.session_core.specs.declared.acts.Act.TheVariants.{Send}
use Rattle.session_core.specs.declared.acts.Admin.TheVariants.{Logon}
use Rattle.switchboard.specs.Brought.{good_bodies}

pub misses : IsRefutedInPart MissesSession
misses config left wrong h = wrong h.count

pub other_names : IsRefutedInPart HasOtherNames
other_names config left wrong h = wrong.other (h.names wrong.s wrong.session wrong.has)

-- where there is no connection nothing was handled
none_handled : (left : RunRecord) (accepted s : ℕ) (handled : List Handled) → left.engine.connections ≡ [] → All (IsHandledSoFar left accepted s) handled → handled ≡ []
none_handled left accepted s [] none each = refl
none_handled left accepted s (h ∷ hs) none each = (let one = All-head (IsHandledSoFar left accepted s) h hs each in absurd (none-some one.c (ap (λ all. slice_get all one.place) (sym none) ∙ one.at)))

no_end : {A : Type 0} (xs : List A) (x : A) → [] ≡ xs ++ x ∷ [] → ⊥
no_end [] x same = (cc)
no_end (y ∷ ys) x same = (cc)

pub no_connection_bound : IsRefutedInPart (λ config left. BindsNoConnection left)
no_connection_bound config left wrong h =
    let acts = h.acts wrong.s wrong.session wrong.has in
    let session = wrong.session in
    let none = none_handled left h.accepted wrong.s (h.handled wrong.s) wrong.none acts.each in
    elim acts.told [
      | inl all ↦ subst (λ spells. TellRuns session.inbound session.outbound (first_machines config wrong.s) [] spells) wrong.spells
          (subst (λ handled. TellRuns session.inbound session.outbound (first_machines config wrong.s) handled (spells_behind [] session.entries)) none all.told)
      | inr begun ↦ no_end begun.past begun.last (sym none ∙ begun.handled_are)
    ]

-- where nothing came no message was handled
nothing_left : {A : Type 0} (first rest : List A) → first ++ rest ≡ [] → first ≡ []
nothing_left [] rest is = refl
nothing_left (x ∷ xs) rest is = absurd (cc)

abbrev HandledNothing : Handled → Type 0
HandledNothing h = h.bodies ≡ []

handled_nothing : (left : RunRecord) (accepted s : ℕ) (wrong : TellsWhatNeverCame left) (h : Handled) → IsHandledSoFar left accepted s h → HandledNothing h
handled_nothing left accepted s wrong h of =
    let taken = wrong.nothing of.place of.c of.at in
    let pieces = no_pieces of.pieces of.begin.rest (of.begin.is ∙ ap (λ (bytes : List ℕ). (cut LONGEST_FRAME bytes).pieces) taken) in
    nothing_left h.bodies of.good.rest (of.good.is ∙ ap good_bodies pieces)

-- a connection on which nothing is handled begins with no arrival
asks_no_arrival : (inbound : List (List ℕ)) (log : List (List OutEntry)) (dials : Option ℕ) (done left : List Act) (before : Totals) (position : ℕ) (more : List Placed) → (logon_effects dials).acts ≡ done ++ left
    → TellEach inbound log done (placed before (Arrive position) ∷ more) → ⊥
asks_no_arrival inbound log dials [] left before position more are told = absurd told
asks_no_arrival inbound log None (act ∷ done) left before position more are told = absurd (cc)
asks_no_arrival inbound log (Some heart) (act ∷ done) left before position more are told =
    let first : Send (Logon heart false) ≡ act = cc in
    let tells = subst (λ (a : Act). TellEach inbound log (a ∷ done) (placed before (Arrive position) ∷ more)) (sym first) told in
    absurd (let entry = tells.0.1.0 in cc)

first_told : (inbound : List (List ℕ)) (log : List (List OutEntry)) (machine : State) (bodies : List (List ℕ)) (done left : List Act) (spell : Spell) (before : Totals) (position : ℕ) (more : List Placed) → bodies ≡ []
    → act_entries log spell ≡ placed before (Arrive position) ∷ more → connection_acts machine bodies ≡ done ++ left → TellEach inbound log done (act_entries log spell) → ⊥
first_told inbound log machine bodies done left spell before position more none arrives are told =
    let asked : (logon_effects machine.dials).acts ≡ done ++ left = sym (append-nil (ask machine).acts) ∙ (ap (connection_acts machine) (sym none) ∙ are) in
    asks_no_arrival inbound log machine.dials done left before position more asked (subst (λ (ps : List Placed). TellEach inbound log done ps) arrives told)

whole_told : (inbound : List (List ℕ)) (log : List (List OutEntry)) (machine : State) (handled : List Handled) (first : Spell) (later : List Spell) (before : Totals) (position : ℕ) (more : List Placed)
    → act_entries log first ≡ placed before (Arrive position) ∷ more → All HandledNothing handled → TellRuns inbound log machine handled (first ∷ later) → ⊥
whole_told inbound log machine [] first later before position more arrives none told = absurd told
whole_told inbound log machine (h ∷ hs) first later before position more arrives none told =
    first_told inbound log machine h.bodies (connection_acts machine h.bodies) [] first before position more (All-head HandledNothing h hs none) arrives (sym (append-nil (connection_acts machine h.bodies))) told.1

begun_told : (inbound : List (List ℕ)) (log : List (List OutEntry)) (machine : State) (past : List Handled) (last : Handled) (front : List Spell) (spell : Spell) (done left : List Act) (first : Spell) (later : List Spell) (before : Totals) (position : ℕ)
    (more : List Placed) → act_entries log first ≡ placed before (Arrive position) ∷ more → All HandledNothing (past ++ last ∷ []) → front ++ spell ∷ [] ≡ first ∷ later → TellRuns inbound log machine past front
    → connection_acts (after_connections machine (bodies_of past)) last.bodies ≡ done ++ left → TellEach inbound log done (act_entries log spell) → ⊥
begun_told inbound log machine [] last [] spell done left first later before position more arrives none spells told are begun =
    let same : spell ≡ first = cc in
    first_told inbound log machine last.bodies done left spell before position more (All-head HandledNothing last [] none) (ap (λ (x : Spell). act_entries log x) same ∙ arrives) are begun
begun_told inbound log machine [] last (f ∷ fs) spell done left first later before position more arrives none spells told are begun = absurd told
begun_told inbound log machine (p ∷ ps) last [] spell done left first later before position more arrives none spells told are begun = absurd told
begun_told inbound log machine (p ∷ ps) last (f ∷ fs) spell done left first later before position more arrives none spells told are begun =
    let same : f ≡ first = cc in
    first_told inbound log machine p.bodies (connection_acts machine p.bodies) [] f before position more (All-head HandledNothing p (ps ++ last ∷ []) none) (ap (λ (x : Spell). act_entries log x) same ∙ arrives)
    (sym (append-nil (connection_acts machine p.bodies))) told.1

pub never_came : IsRefutedInPart (λ config left. TellsWhatNeverCame left)
never_came config left wrong h =
    let s = wrong.s in
    let session = wrong.session in
    let machine = first_machines config s in
    let acts = h.acts s session wrong.has in
    let none : All HandledNothing (h.handled s) = λ i d within. handled_nothing left h.accepted s wrong (get_or (h.handled s) i d) (acts.each i d within) in
    elim acts.told [
      | inl all ↦ whole_told session.inbound session.outbound machine (h.handled s) wrong.spell wrong.later wrong.before wrong.position wrong.more wrong.arrives none
          (subst (λ (spells : List Spell). TellRuns session.inbound session.outbound machine (h.handled s) spells) wrong.spells all.told)
      | inr is ↦ begun_told session.inbound session.outbound machine is.past is.last is.front is.spell is.done is.left wrong.spell wrong.later wrong.before wrong.position wrong.more wrong.arrives
          (subst (All HandledNothing) is.handled_are none) (sym is.spells ∙ wrong.spells) is.told is.acts_are is.begun
    ]

-- a session that dials logs on
asks : (inbound : List (List ℕ)) (log : List (List OutEntry)) (dials : Option ℕ) (heart : ℕ) (rest : List Act) → dials ≡ Some heart → TellEach inbound log ((logon_effects dials).acts ++ rest) [] → ⊥
asks inbound log None heart rest is told = none-some heart is
asks inbound log (Some other) heart rest is told = absurd told

only_bound : (inbound : List (List ℕ)) (log : List (List OutEntry)) (machine : State) (handled : List Handled) (number heart : ℕ) → machine.dials ≡ Some heart → TellRuns inbound log machine handled (new_spell number ∷ []) → ⊥
only_bound inbound log machine [] number heart dials told = absurd told
only_bound inbound log machine (h ∷ hs) number heart dials told = asks inbound log machine.dials heart _ dials told.1

tells_no_logon : (config : Config) (left : RunRecord) (s : ℕ) (handled : List Handled) (wrong : DidNotLogOn config left s) → TellsAll config s wrong.session handled → ⊥
tells_no_logon config left s handled wrong told =
    let session = wrong.session in
    let machine = first_machines config s in
    only_bound session.inbound session.outbound machine handled wrong.number wrong.heart wrong.dials
    (subst (λ (es : List Entry). TellRuns session.inbound session.outbound machine handled (spells_behind [] es)) wrong.entries told.told)

pub stops_twice : IsRefutedInPart StopsTwice
stops_twice config left wrong h = elim (h.one wrong.s wrong.t wrong.one.session wrong.other.session wrong.one.has wrong.other.has wrong.apart) [
  | inl one ↦ tells_no_logon config left wrong.s (h.handled wrong.s) wrong.one one
  | inr other ↦ tells_no_logon config left wrong.t (h.handled wrong.t) wrong.other other
]
