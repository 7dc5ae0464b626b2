-- Behind each happening a told board is told.
use Rattle.std.proofs.Common.{◌≡◌, ◌≢◌, inl, inr, ℕ, ◌<◌, ◌≤◌, cond, List, [], ◌∷◌, get_or, length, set, Some, refl, sym, ap, subst, ◌∙◌, arith}
use Rattle.std.proofs.lemmas.Bool.{eq-eqb, ne_eqb}
use Rattle.connection_core.specs.Connection.{ConnectionState}
use Rattle.connection_core.specs.Outgoing.{no_outgoing}
use Rattle.lease_core.specs.declared.entry.Entry.{Entry}
use Rattle.session_book.specs.OutEntry.{OutEntry}
use Rattle.session_core.specs.State.{State}
use Rattle.session_core.specs.declared.causes.Cause.{Cause}
use Rattle.session_book.specs.Book.{Book, Desk, with_outbox}
use Rattle.session_book.specs.Kept.{Kept}
use Rattle.session_book.specs.Moments.{IsTimedRun}
use Rattle.session_book.specs.Runs.{Handled, handled_of}
use Rattle.session_book.specs.Sends.{AreSendsOf, new_sends}
use Rattle.switchboard.specs.Board.{Board, book_at, connection_at, desk_at, desk_with, no_session, session_at}
use Rattle.switchboard.specs.Happenings.{BindsTo, ConnectionChanges, EndsBound, Happening, Happens, Reaches, SessionGoesOn, accepts, answers, binds, binds_and_ends, dials, ends_bound, ends_unbound, gives, lapses, prepares, receives, requests, reserves, shows, takes, ticks, times_out, writes}
use Rattle.switchboard.specs.Ready.{IsFirst, IsReady}
use Rattle.switchboard.specs.Sound.{bound_of}
use Rattle.switchboard.specs.Told.{ComeInOrder, History, IsTold, changed_at, history_after, history_over, machines_of, moment_after, moment_over, no_history, with_further, with_handled, with_message}
use Rattle.switchboard.proofs.Readies.{all_shown, book_goes_on, ready_plugged}
use Rattle.switchboard.proofs.RunLaws.{RunLaws, Tells, as_handled, as_sent, handled_next, sent_next}
use Rattle.switchboard.proofs.Sounds.{same_or_other}
use Rattle.switchboard.proofs.Turns.{set_books, set_sessions}

pub changed_here : {T : Type 0} (s : ℕ) (change : T → T) (all : ℕ → T) → changed_at s change all s ≡ change (all s)
changed_here s change all = ap (λ b. cond b (change (all s)) (all s)) (eq-eqb s s refl)

pub changed_there : {T : Type 0} (s : ℕ) (change : T → T) (all : ℕ → T) (j : ℕ) → j ≢ s → changed_at s change all j ≡ all j
changed_there s change all j other = ap (λ b. cond b (change (all j)) (all j)) (ne_eqb j s other)

-- the history of one session changes in these ways
record Adds (s : ℕ) (handled_by : List Handled → List Handled) (sent_by : (ℕ → List OutEntry) → ℕ → List OutEntry) (old new : History) : Type 0 where
  handled_here : new.handled s ≡ handled_by (old.handled s)
  handled_there : (j : ℕ) → j ≢ s → new.handled j ≡ old.handled j
  sends_here : new.sends s ≡ sent_by (old.sends s)
  sends_there : (j : ℕ) → j ≢ s → new.sends j ≡ old.sends j

adds_none : (s : ℕ) (history : History) → Adds s as_handled as_sent history history
adds_none s history = record { handled_here = refl; handled_there = λ j other. refl; sends_here = refl; sends_there = λ j other. refl }

adds_handled : (s : ℕ) (change : List Handled → List Handled) (history : History) → Adds s change as_sent history (record history { handled = changed_at s change history.handled })
adds_handled s change history = record {
  handled_here = changed_here s change history.handled;
  handled_there = changed_there s change history.handled;
  sends_here = refl;
  sends_there = λ j other. refl;
}

adds_sends : (s : ℕ) (more : ℕ → List OutEntry) (history : History) → Adds s as_handled (sent_next more) history (with_further s more history)
adds_sends s more history = record {
  handled_here = refl;
  handled_there = λ j other. refl;
  sends_here = changed_here s (sent_next more) history.sends;
  sends_there = changed_there s (sent_next more) history.sends;
}

module _ (g : RunLaws) (before : ℕ → List Entry) (start : ℕ → State) where
  -- no session changes
  told_same : (history : History) (moment at : ℕ) (old new : Board) → new.sessions ≡ old.sessions → moment ≤ at → IsTold before start history moment old → IsTold before start history at new
  told_same history moment at old new same later told = record {
    runs = λ s within.
        let small = subst (λ (sessions : List Kept). s < length sessions) same within in
        g.later (before s) (start s) (history.handled s) moment at (book_at new s) later
        (subst (λ book. IsTimedRun (before s) (start s) (history.handled s) moment book) (ap (λ (sessions : List Kept). (get_or sessions s no_session).book) (sym same)) (told.runs s small));
    sends = λ s library within.
        let small = subst (λ (sessions : List Kept). s < length sessions) same within in
        subst (λ book. AreSendsOf library (before s) (history.sends s library) book) (ap (λ (sessions : List Kept). (get_or sessions s no_session).book) (sym same)) (told.sends s library small);
  }

  -- one session changes
  module _ (s : ℕ) (handled_by : List Handled → List Handled) (sent_by : (ℕ → List OutEntry) → ℕ → List OutEntry) (moment at : ℕ) (history further : History) (old new : Board)
      (adds : Adds s handled_by sent_by history further) (sessions : new.sessions ≡ set old.sessions s (session_at new s)) (later : moment ≤ at)
      (tells : Tells handled_by sent_by at (book_at old s) (book_at new s)) (told : IsTold before start history moment old) where
    small_as : (j : ℕ) → j < length new.sessions → j < length old.sessions
    small_as j within = subst (λ n. j < n) (set_sessions s old new sessions) within

    run_here : s < length old.sessions → IsTimedRun (before s) (start s) (further.handled s) at (book_at new s)
    run_here small =
        subst (λ handled. IsTimedRun (before s) (start s) handled at (book_at new s)) (sym adds.handled_here) (tells.run (before s) (start s) (history.handled s) moment later (told.runs s small))

    run_there : (j : ℕ) → j ≢ s → j < length old.sessions → IsTimedRun (before j) (start j) (further.handled j) at (book_at new j)
    run_there j other small =
        g.later (before j) (start j) (further.handled j) moment at (book_at new j) later
        (subst (λ handled. IsTimedRun (before j) (start j) handled moment (book_at new j)) (sym (adds.handled_there j other))
        (subst (λ book. IsTimedRun (before j) (start j) (history.handled j) moment book) (sym (set_books s old new sessions j other)) (told.runs j small)))

    sends_here : (library : ℕ) → s < length old.sessions → AreSendsOf library (before s) (further.sends s library) (book_at new s)
    sends_here library small =
        subst (λ (sends : ℕ → List OutEntry). AreSendsOf library (before s) (sends library) (book_at new s)) (sym adds.sends_here) (tells.sends (before s) (history.sends s) library (told.sends s library small))

    sends_there : (j library : ℕ) → j ≢ s → j < length old.sessions → AreSendsOf library (before j) (further.sends j library) (book_at new j)
    sends_there j library other small =
        subst (λ (sends : ℕ → List OutEntry). AreSendsOf library (before j) (sends library) (book_at new j)) (sym (adds.sends_there j other))
        (subst (λ book. AreSendsOf library (before j) (history.sends j library) book) (sym (set_books s old new sessions j other)) (told.sends j library small))

    told_on : IsTold before start further at new
    told_on = record {
      runs = λ j within. elim (same_or_other j s) [
        | inl e ↦ subst (λ n. IsTimedRun (before n) (start n) (further.handled n) at (book_at new n)) (sym e) (run_here (subst (λ n. n < length old.sessions) e (small_as j within)))
        | inr other ↦ run_there j other (small_as j within)
      ];
      sends = λ j library within. elim (same_or_other j s) [
        | inl e ↦ subst (λ n. AreSendsOf library (before n) (further.sends n library) (book_at new n)) (sym e) (sends_here library (subst (λ n. n < length old.sessions) e (small_as j within)))
        | inr other ↦ sends_there j library other (small_as j within)
      ];
    }

  -- a session goes on to this desk
  goes_on_told : (s : ℕ) (handled_by : List Handled → List Handled) (sent_by : (ℕ → List OutEntry) → ℕ → List OutEntry) (moment at : ℕ) (history further : History) (old new : Board) (book : Book)
      → Adds s handled_by sent_by history further → SessionGoesOn s old new → book_at new s ≡ book → Tells handled_by sent_by at (book_at old s) book → moment ≤ at
      → IsTold before start history moment old → IsTold before start further at new
  goes_on_told s handled_by sent_by moment at history further old new book adds goes is tells later told =
      told_on s handled_by sent_by moment at history further old new adds goes.others.sessions later (subst (λ b. Tells handled_by sent_by at (book_at old s) b) (sym is) tells) told

  changes_told : (k : ℕ) (c : ConnectionState) (history : History) (moment : ℕ) (old new : Board) → ConnectionChanges k c old new → IsTold before start history moment old → IsTold before start history moment new
  changes_told k c history moment old new changes told = told_same history moment moment old new (ap (λ (b : Board). b.sessions) changes.others) (omega arith) told

  bind_told : (s k : ℕ) (body : List ℕ) (moment at : ℕ) (history : History) (old new : Board) → BindsTo s k body at old new → IsReady before old → moment ≤ at → IsTold before start history moment old
      → IsTold before start (with_handled s (handled_of (connection_at old k).number (body ∷ [])) history) at new
  bind_told s k body moment at history old new is ready later told =
      let next = handled_of (connection_at old k).number (body ∷ []) in
      let lawful = ready.books s is.within in
      told_on s (handled_next next) as_sent moment at history (with_handled s next history) old new (adds_handled s (handled_next next) history) is.plugged.sessions later
      (subst (λ b. Tells (handled_next next) as_sent at (book_at old s) b) (sym (ap (λ (d : Desk). d.book) is.desk))
      (g.binding (connection_at old k).number at body (desk_with old s (Some k)) lawful.is_book lawful.is_state is.free is.accepts))
      told

  end_told : (s k : ℕ) (cause : Cause) (moment : ℕ) (history : History) (old new : Board) → EndsBound s k cause old new → bound_of (book_at old s) ≡ Some (connection_at old k).number → IsTold before start history moment old
      → IsTold before start history moment new
  end_told s k cause moment history old new is bound told =
      told_on s as_handled as_sent moment moment history history old new (adds_none s history) is.unplugged.sessions (omega arith)
      (subst (λ b. Tells as_handled as_sent moment (book_at old s) b) (sym is.book) (g.leave (connection_at old k).number moment (book_at old s) bound)) told

  pub happening_told : (happening : Happening) (history : History) (moment : ℕ) (old new : Board) → Happens happening old new → IsReady before old → moment ≤ moment_after happening moment
      → IsTold before start history moment old → IsTold before start (history_after happening old history) (moment_after happening moment) new
  happening_told (accepts number at) history moment old new is ready later told = told_same history moment at old new (ap (λ (b : Board). b.sessions) is.connection) later told
  happening_told (dials s number at) history moment old new is ready later told =
      let next = handled_of number [] in
      told_on s (handled_next next) as_sent moment at history (with_handled s next history) old new (adds_handled s (handled_next next) history) is.sessions later
      (subst (λ b. Tells (handled_next next) as_sent at (book_at old s) b) (sym (ap (λ (d : Desk). d.book) is.desk))
      (g.dial number at (with_outbox (book_at old s) no_outgoing) (ready.books s is.within).is_book is.free))
      told
  happening_told (takes k bytes) history moment old new is ready later told = changes_told k _ history moment old new is.changes told
  happening_told (gives k) history moment old new is ready later told = changes_told k _ history moment old new is.changes told
  happening_told (binds s k body at) history moment old new is ready later told = bind_told s k body moment at history old new is.binding ready later told
  happening_told (binds_and_ends s k body at cause) history moment old new is ready later told =
      let binding = is.binding in
      let number = ap (λ (c : ConnectionState). c.number) binding.connection in
      end_told s k cause at _ is.between new is.leaves (binding.bound ∙ ap (λ n. Some n) (sym number)) (bind_told s k body moment at history old is.between binding ready later told)
  happening_told (receives s k body at) history moment old new is ready later told =
      let goes = is.goes_on in
      let lawful = ready.books s goes.within in
      let plugged = ready_plugged before old s k ready goes.within is.placed in
      goes_on_told s _ as_sent moment at history (with_message s body history) old new _ (adds_handled s _ history) goes (ap (λ (d : Desk). d.book) is.desk)
      (g.message (connection_at old k).number at body (desk_at old s) lawful.is_book lawful.is_state plugged.bound (ready.on s k goes.within is.placed)) later told
  happening_told (answers k) history moment old new is ready later told = changes_told k _ history moment old new is told
  happening_told (ticks s at) history moment old new is ready later told =
      goes_on_told s as_handled as_sent moment at history history old new _ (adds_none s history) is.goes_on (ap (λ (d : Desk). d.book) is.desk) (g.tick at (desk_at old s) (ready.books s is.goes_on.within).is_book) later told
  happening_told (shows s w bodies at until) history moment old new is ready later told =
      goes_on_told s as_handled _ moment at history _ old new _ (adds_sends s (λ library. new_sends library (book_at old s) at bodies) history) is.goes_on (ap (λ (d : Desk). d.book) is.desk)
      (g.word at until w bodies (desk_at old s) (ready.books s is.goes_on.within).is_book is.bodies_are) later told
  happening_told (times_out s w bodies at until) history moment old new is ready later told =
      goes_on_told s as_handled _ moment at history _ old new _ (adds_sends s (λ library. new_sends library (book_at old s) at bodies) history) is.goes_on (ap (λ (d : Desk). d.book) is.desk)
      (g.timeout at until w bodies (desk_at old s) (ready.books s is.goes_on.within).is_book (is.bodies_are ∙ sym (all_shown (book_at old s).entries w is.can))) later told
  happening_told (requests s library nr from) history moment old new is ready later told =
      goes_on_told s as_handled as_sent moment moment history history old new _ (adds_none s history) (book_goes_on s _ old new is) is.becomes
      (g.request moment library nr from (desk_at old s) (ready.books s is.within).is_book) later told
  happening_told (lapses s) history moment old new is ready later told =
      goes_on_told s as_handled as_sent moment moment history history old new _ (adds_none s history) (book_goes_on s _ old new is) is.becomes (g.lapse moment (desk_at old s) (ready.books s is.within).is_book) later told
  happening_told (ends_unbound k cause) history moment old new is ready later told = changes_told k _ history moment old new is.changes told
  happening_told (ends_bound s k cause) history moment old new is ready later told = end_told s k cause moment history old new is (ready_plugged before old s k ready is.within is.placed).bound told
  happening_told (prepares s k) history moment old new is ready later told = changes_told k _ history moment old new is.changes told
  happening_told (writes k n) history moment old new is ready later told = changes_told k _ history moment old new is.changes told
  happening_told (reserves s) history moment old new is ready later told =
      goes_on_told s as_handled as_sent moment moment history history old new (book_at old s) (adds_none s history) is.goes_on (ap (λ (d : Desk). d.book) is.desk)
      (record { run = λ first from handled earlier within run. g.later first from handled earlier moment (book_at old s) within run; sends = λ first sends library are. are }) later told

  pub run_told : ((happening : Happening) (old new : Board) → Happens happening old new → IsReady before old → IsReady before new)
      → (happenings : List Happening) (history : History) (moment : ℕ) (old new : Board) (reached : Reaches happenings old new) → IsReady before old → ComeInOrder moment happenings
      → IsTold before start history moment old → IsTold before start (history_over happenings old new reached history) (moment_over happenings moment) new
  run_told stays [] history moment old new reached ready in_order told = subst (λ board. IsTold before start history moment board) (sym reached) told
  run_told stays (happening ∷ happenings) history moment old new reached ready in_order told =
      run_told stays happenings (history_after happening old history) (moment_after happening moment) reached.0 new reached.1.1 (stays happening old reached.0 reached.1.0 ready) in_order.1
      (happening_told happening history moment old reached.0 reached.1.0 ready in_order.0 told)

pub first_told : RunLaws → (before : ℕ → List Entry) (moment : ℕ) (board : Board) → IsFirst before board → ((s : ℕ) → s < length board.sessions → (book_at board s).machine.sent ≤ moment)
    → IsTold before (machines_of board) no_history moment board
first_told g before moment board first sent = record {
  runs = λ s within. subst (λ entries. IsTimedRun entries (machines_of board s) [] moment (book_at board s)) (first.entries s within) (g.first (book_at board s) moment (first.unbound s within) (sent s within));
  sends = λ s library within. subst (λ entries. AreSendsOf library entries [] (book_at board s)) (first.entries s within) (g.none_sent library (book_at board s));
}
