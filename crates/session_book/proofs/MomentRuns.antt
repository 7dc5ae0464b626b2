-- A run up to a moment goes on with what an event makes.
use Rattle.std.proofs.Common.{◌≡◌, ℕ, ◌+◌, ◌≤◌, List, [], ◌∷◌, ◌++◌, Option, None, Some, is_some, refl, sym, ap, subst, ◌∙◌}
use Rattle.std.specs.List.{All, flat_map}
use Rattle.std.proofs.lemmas.Bool.{false≢true}
use Rattle.std.proofs.lemmas.Grind.{flat_map-append}
use Rattle.std.proofs.lemmas.List.{append_cancel_left}
use Rattle.std.proofs.lemmas.List.Elements.{All-append, All-nil}
use Rattle.lease_core.specs.State.{State as Totals, state_after, state_of}
use Rattle.lease_core.specs.declared.entry.Entry.{Entry}
use Rattle.lease_core.specs.declared.entry.Entry.TheVariants.{Bind, Leave}
use Rattle.message_log.specs.declared.entry.OutEntry.{OutEntry}
use Rattle.resend_plan.specs.Wire.{NamesEntry}
use Rattle.resend_plan.specs.declared.item.WireItem.{WireItem}
use Rattle.session_core.specs.Runs.{after_connections}
use Rattle.session_core.specs.State.{State}
use Rattle.session_book.specs.Book.{Book}
use Rattle.session_book.specs.Moments.{AreEarlier, BeatsBehind, IsTimed, IsTimedRun, TimedRuns, item_moment, wait_of}
use Rattle.session_book.specs.Runs.{Handled, IsRunOver, bodies_of, handled_of}
use Rattle.session_book.specs.Spells.{items_at, new_spell, placed_from, spell_items, spell_with, spells_behind, spells_from}
use Rattle.session_book.specs.Texts.{WasSent}
use Rattle.session_book.specs.Grounds.{RunGrounds}
use Rattle.session_book.proofs.Moments.{earlier_stay, earlier_yet, join_timed, last_timed, same_last, timed_more, timed_runs_stay}
use Rattle.session_book.proofs.Runs.{Makes, bound_new, entries_behind, last_run, spells_on}
use Rattle.session_book.proofs.Spells.{Keeps, spells_within, spells_without}
use Rattle.session_book.proofs.TextRuns.{items_stand}

-- What is to be known of the entries of an event: their items can be written, were made up to the moment of the last sending, and each Heartbeat among
-- them comes where nothing was made for so long before the event.
pub record Batch (log : List (List OutEntry)) (wait at old_sent new_sent : ℕ) (s : Totals) (added : List Entry) : Type 0 where
  pub sent : All (WasSent log) (placed_from s added)
  pub named : All (NamesEntry log) (flat_map (items_at log) (placed_from s added))
  pub made : AreEarlier log 0 new_sent (flat_map (items_at log) (placed_from s added))
  pub later : old_sent ≤ new_sent
  pub up_to : new_sent ≤ at
  pub beats : (earlier : List WireItem) → AreEarlier log 0 old_sent earlier → BeatsBehind log wait earlier (placed_from s added)

module _ (r : RunGrounds) (before : List Entry) (start : State) where
  added_is : (first : List Entry) (old new : Book) (added all : List Entry) → old.entries ≡ before ++ first → Makes r old new added → new.entries ≡ before ++ all → all ≡ first ++ added
  added_is first old new added all are makes all_are = append_cancel_left before all (first ++ added) (sym all_are ∙ entries_behind r before first old new added are makes)

  -- on a bound session
  pub batch_on : (past : List Handled) (c : ℕ) (bodies later : List (List ℕ)) (moment at : ℕ) (old new : Book) (added : List Entry)
      → IsTimedRun before start (past ++ handled_of c bodies ∷ []) moment old → (state_of old.entries).bound ≡ Some c → Makes r old new added → All Keeps added
      → IsRunOver before start (past ++ handled_of c later ∷ []) new
      → wait_of (after_connections start (bodies_of past)) (handled_of c later) ≡ wait_of (after_connections start (bodies_of past)) (handled_of c bodies)
      → Batch new.outbound (wait_of (after_connections start (bodies_of past)) (handled_of c bodies)) at old.machine.sent new.machine.sent (state_of old.entries) added
      → IsTimedRun before start (past ++ handled_of c later ∷ []) at new
  batch_on past c bodies later moment at old new added tr bound makes keep run wait_same batch =
      let s = state_of old.entries in
      let m = after_connections start (bodies_of past) in
      let log = new.outbound in
      let wait = wait_of m (handled_of c bodies) in
      let more = placed_from s added in
      let was = last_run old.inbound old.outbound start past (handled_of c bodies) (spells_behind before tr.run.added) tr.run.told in
      let last = spell_with more was.last in
      let spells : spells_behind before run.added ≡ was.front ++ last ∷ [] =
      ap (spells_behind before) (added_is tr.run.added old new added run.added tr.run.entries_are makes run.entries_are)
      ∙ spells_on r before tr.run.added old added tr.run.entries_are
      ∙ ap (λ found. spells_from found s added) was.are
      ∙ spells_within was.front was.last s c added bound keep in
      let then_timed = last_timed old.outbound start past (handled_of c bodies) was.front was.last (subst (λ found. TimedRuns old.outbound start (past ++ handled_of c bodies ∷ []) found) was.are tr.timed) in
      let items : AreEarlier log 0 old.machine.sent (flat_map (items_at log) was.last.entries) =
      subst (λ found. AreEarlier log 0 old.machine.sent found) (sym (items_stand r old.outbound log was.last.entries makes.outbound then_timed.timed.sent))
      (earlier_stay r old.outbound log makes.outbound 0 old.machine.sent (flat_map (items_at old.outbound) was.last.entries) then_timed.timed.named
      (tr.last (ap (λ (b : Option ℕ). is_some b) bound) was.front was.last was.are)) in
      let timed : IsTimed log wait (was.last.entries ++ more) =
      timed_more r old.outbound log makes.outbound wait was.last.entries more then_timed.timed batch.sent batch.named (batch.beats (flat_map (items_at log) was.last.entries) items) in
      let all_items : AreEarlier log 0 new.machine.sent (spell_items log last) =
      subst (λ found. AreEarlier log 0 new.machine.sent found) (sym (flat_map-append (items_at log) was.last.entries more))
      (All-append (λ item. item_moment log item + 0 ≤ new.machine.sent) (flat_map (items_at log) was.last.entries) (flat_map (items_at log) more)
      (earlier_yet log old.machine.sent new.machine.sent (flat_map (items_at log) was.last.entries) batch.later items) batch.made) in
      record {
        run = run;
        timed = subst (λ found. TimedRuns log start (past ++ handled_of c later ∷ []) found) (sym spells)
            (join_timed log start past (handled_of c later) was.front last (timed_runs_stay r old.outbound log makes.outbound start past was.front then_timed.past_timed)
            (subst (λ w. IsTimed log w (was.last.entries ++ more)) (sym wait_same) timed));
        last = λ some front spell e. subst (λ found. AreEarlier log 0 new.machine.sent (spell_items log found)) (same_last was.front front last spell (sym spells ∙ e)) all_items;
        up_to = batch.up_to;
      }

  -- on a session that is bound to no connection
  pub unbound_on : (handled : List Handled) (moment at : ℕ) (old new : Book) (added : List Entry) → IsTimedRun before start handled moment old → (state_of old.entries).bound ≡ None → Makes r old new added → All Keeps added
      → IsRunOver before start handled new → new.machine.sent ≤ at → IsTimedRun before start handled at new
  unbound_on handled moment at old new added tr none makes keep run up_to =
      let spells : spells_behind before run.added ≡ spells_behind before tr.run.added =
      ap (spells_behind before) (added_is tr.run.added old new added run.added tr.run.entries_are makes run.entries_are)
      ∙ spells_on r before tr.run.added old added tr.run.entries_are
      ∙ spells_without (spells_behind before tr.run.added) (state_of old.entries) added none keep in
      let still : (state_of new.entries).bound ≡ None = bound_new r old new added makes keep ∙ none in
      record {
        run = run;
        timed = subst (λ found. TimedRuns new.outbound start handled found) (sym spells) (timed_runs_stay r old.outbound new.outbound makes.outbound start handled (spells_behind before tr.run.added) tr.timed);
        last = λ some front spell e. absurd (false≢true (sym (ap (λ (b : Option ℕ). is_some b) still) ∙ some));
        up_to = up_to;
      }

  -- a connection more
  pub opening_on : (handled : List Handled) (c : ℕ) (bodies : List (List ℕ)) (moment at : ℕ) (old new : Book) (added : List Entry) → IsTimedRun before start handled moment old → Makes r old new (Bind c ∷ added) → All Keeps added
      → IsRunOver before start (handled ++ handled_of c bodies ∷ []) new
      → Batch new.outbound (wait_of (after_connections start (bodies_of handled)) (handled_of c bodies)) at old.machine.sent new.machine.sent (state_after (state_of old.entries) (Bind c)) added
      → IsTimedRun before start (handled ++ handled_of c bodies ∷ []) at new
  opening_on handled c bodies moment at old new added tr makes keep run batch =
      let t = state_after (state_of old.entries) (Bind c) in
      let log = new.outbound in
      let past = spells_behind before tr.run.added in
      let last = spell_with (placed_from t added) (new_spell c) in
      let spells : spells_behind before run.added ≡ past ++ last ∷ [] =
      ap (spells_behind before) (added_is tr.run.added old new (Bind c ∷ added) run.added tr.run.entries_are makes run.entries_are)
      ∙ spells_on r before tr.run.added old (Bind c ∷ added) tr.run.entries_are
      ∙ spells_within past (new_spell c) t c added refl keep in
      record {
        run = run;
        timed = subst (λ found. TimedRuns log start (handled ++ handled_of c bodies ∷ []) found) (sym spells)
            (join_timed log start handled (handled_of c bodies) past last (timed_runs_stay r old.outbound log makes.outbound start handled past tr.timed)
            (record { sent = batch.sent; named = batch.named; beats = batch.beats [] (All-nil _) }));
        last = λ some front spell e. subst (λ found. AreEarlier log 0 new.machine.sent (spell_items log found)) (same_last past front last spell (sym spells ∙ e)) batch.made;
        up_to = batch.up_to;
      }

  -- the connection ended
  pub ending_on : (handled : List Handled) (c moment at : ℕ) (old new : Book) → IsTimedRun before start handled moment old → Makes r old new (Leave c ∷ []) → IsRunOver before start handled new → new.machine.sent ≤ at
      → IsTimedRun before start handled at new
  ending_on handled c moment at old new tr makes run up_to =
      let spells : spells_behind before run.added ≡ spells_behind before tr.run.added =
      ap (spells_behind before) (added_is tr.run.added old new (Leave c ∷ []) run.added tr.run.entries_are makes run.entries_are) ∙ spells_on r before tr.run.added old (Leave c ∷ []) tr.run.entries_are in
      let none : (state_of new.entries).bound ≡ None = ap (λ es. (state_of es).bound) makes.entries_are ∙ ap (λ found. found.bound) (r.logs.decide old.entries (Leave c)) in
      record {
        run = run;
        timed = subst (λ found. TimedRuns new.outbound start handled found) (sym spells) (timed_runs_stay r old.outbound new.outbound makes.outbound start handled (spells_behind before tr.run.added) tr.timed);
        last = λ some front spell e. absurd (false≢true (sym (ap (λ (b : Option ℕ). is_some b) none) ∙ some));
        up_to = up_to;
      }
