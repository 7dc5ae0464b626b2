-- The messages of a lease that are handed on have no gap.
use Rattle.std.proofs.Common.{◌≡◌, ◌≢◌, ℕ, ◌+◌, ◌<◌, ◌==◌, List, [], ◌∷◌, ◌++◌, length, length-set, Bool, true, false, if◌then◌else◌, refl, sym, ap, ◌∙◌, subst, ⊎_elim}
use Rattle.std.specs.Prelude.{Option, Some, None, Ok, Err}
use Rattle.lease_core.specs.declared.messages.Notice.{Notice}
use Rattle.lease_words.specs.declared.view.LibraryLease.{LibraryLease}
use Rattle.lease_words.specs.Leases.{held_lease}
use Rattle.lease_words.specs.Sees.{after_taken_load, after_send, after_release, after_loss}
use Rattle.lease_words.specs.Answers.{active_word, released_word}
use Rattle.library_api.specs.declared.reading.Message.{Message}
use Rattle.library_api.specs.declared.reading.Reading.{Reading}
use Rattle.library_api.specs.declared.refusal.SendRefusal.TheVariants as sending
use Rattle.library_api.specs.declared.refusal.ReleaseRefusal.TheVariants as releasing
use Rattle.library_api.specs.declared.refusal.HandRefusal.TheVariants as handing
use Rattle.library_api.specs.declared.refusal.AskError.TheVariants as asking
use Rattle.library_api.specs.Ends.{seat_after_beat}
use Rattle.library_api.specs.Known.{Known, no_reading, reading_count, reading_at, held, sends_made, session_at, with_seat}
use Rattle.library_api.specs.Polls.{Polled, with_none_kept, after_pop, after_poll, event_of}
use Rattle.library_api.specs.Calls.{Call, asks, polls, sends, send_refused, gives_back, release_refused, hand_refused, beats, is_done, meets, after_call, IsLawful, AreLawful}
use Rattle.library_api.specs.Reads.{concerns, next_after, AreInOrder, granted_from, first_position, numbers_from, reads_in, reads_of, notices_of, IsAt, IsSeated}
use Rattle.library_api.proofs.Unmoved.{Unmoved, on_poll}
use Rattle.library_api.proofs.Readings.{set_at, follow}
use Rattle.library_api.proofs.Moves.{Move, stays, loses, OnCourse, over_move, read_move, wait_move}
use Rattle.library_api.proofs.TakenMoves.{poll_moves, was_lost}
use Rattle.library_api.proofs.Seated.{leases_at, poll_leases, both_same, event_seated, forgotten_seated, known_seated, one_send}

-- what is asked of a library at each call
record Fits (s : ℕ) (k : Known) : Type 0 where
  within : s < reading_count
  records : length k.readings ≡ reading_count
  seated : IsSeated s k

in_records : (s : ℕ) (k : Known) → Fits s k → s < length k.readings
in_records s k fits = subst (λ (n : ℕ). s < n) (sym fits.records) fits.within

count_unmoved : Unmoved ℕ (λ k. length k.readings)
count_unmoved = record {
  word = λ k s w. refl;
  count = λ k s n. refl;
  reading = λ k s r. length-set k.readings s r;
  keep = λ k m. refl;
  close = λ k. refl;
  wait = λ k kind. refl;
}

taking_readings : (k : Known) (kept : Option Message) (pushed : ℕ) (popped : Option Notice)
    → (with_none_kept (after_pop kept (with_seat k (seat_after_beat k.ends.seat)) pushed popped)).readings ≡ k.readings
taking_readings k (Some m) pushed popped = refl
taking_readings k None pushed popped = refl

poll_records : (k : Known) (o : Polled) → length (after_poll k o).readings ≡ length k.readings
poll_records k o = on_poll ℕ (λ x. length x.readings) count_unmoved k o ∙ ap (λ (rs : List Reading). length rs) (taking_readings k k.kept o.pushed o.popped)

-- a library after a call, and the call's move
record Called (s lease : ℕ) (k : Known) (c : Call) (cs : List Call) : Type 0 where
  fits : Fits s (after_call k c)
  move : Move s lease (reading_at k s) (reading_at (after_call k c) s) (reads_in s lease k c) (notices_of k (c ∷ cs)) (notices_of (after_call k c) cs)

lost_move : (s lease : ℕ) (r r' : Reading) (ns : List Notice) (here : Bool) → 0 < lease → r' ≡ (if here then no_reading else r) → Move s lease r r' [] ns ns
lost_move s lease r r' ns true some goes = loses (was_lost lease r' some goes) refl refl
lost_move s lease r r' ns false some goes = stays goes refl refl

call_moves : (s lease : ℕ) (k : Known) (c : Call) (cs : List Call) → 0 < lease → Fits s k → IsLawful k c → Called s lease k c cs
call_moves s lease k (asks t from taken (Ok nr)) cs some f lawful = record { fits = record { within = f.within; records = f.records; seated = f.seated }; move = stays refl refl refl }
call_moves s lease k (asks t from taken (Err (asking.Outstanding nr))) cs some f lawful = record { fits = record { within = f.within; records = f.records; seated = f.seated }; move = stays refl refl refl }
call_moves s lease k (asks t from taken (Err (asking.AsksSpent count))) cs some f lawful = record { fits = record { within = f.within; records = f.records; seated = f.seated }; move = stays refl refl refl }
call_moves s lease k (asks t from taken (Err (asking.RingFull pushed found))) cs some f lawful = record { fits = record { within = f.within; records = f.records; seated = f.seated }; move = stays refl refl refl }
call_moves s lease k (polls o) cs some f lawful = record {
  fits = record {
    within = f.within;
    records = poll_records k o ∙ f.records;
    seated = event_seated s k (after_poll k o) (event_of k o) f.within lawful (follow s k o (in_records s k f)) (poll_leases s k o) f.seated;
  };
  move = poll_moves s lease k o cs some (in_records s k f) f.seated;
}
call_moves s lease k (sends t taken body items) cs some f lawful = record {
  fits = record {
    within = f.within;
    records = f.records;
    seated = known_seated s t k (after_send (after_taken_load (session_at k t) taken) items (active_word (held k t) k.ends.seat.knows.number (sends_made k t + 1))) (one_send (leases_at t k)) f.seated;
  };
  move = stays refl refl refl;
}
call_moves s lease k (send_refused t taken sending.NotHeld) cs some f lawful = record { fits = record { within = f.within; records = f.records; seated = f.seated }; move = stays refl refl refl }
call_moves s lease k (send_refused t taken (sending.TooLong size)) cs some f lawful = record { fits = record { within = f.within; records = f.records; seated = f.seated }; move = stays refl refl refl }
call_moves s lease k (send_refused t taken (sending.BadBody at)) cs some f lawful = record { fits = record { within = f.within; records = f.records; seated = f.seated }; move = stays refl refl refl }
call_moves s lease k (send_refused t taken (sending.LaneFull committed found)) cs some f lawful = record {
  fits = record { within = f.within; records = f.records; seated = known_seated s t k (after_taken_load (session_at k t) taken) refl f.seated };
  move = stays refl refl refl;
}
call_moves s lease k (send_refused t taken (sending.SendsSpent count)) cs some f lawful = record {
  fits = record { within = f.within; records = f.records; seated = known_seated s t k (after_taken_load (session_at k t) taken) refl f.seated };
  move = stays refl refl refl;
}
call_moves s lease k (send_refused t taken (sending.Lost seen)) cs some f lawful = record {
  fits = record {
    within = f.within;
    records = length-set k.readings t no_reading ∙ f.records;
    seated = forgotten_seated s t k (after_loss (after_taken_load (session_at k t) taken) seen) (in_records s k f) f.seated;
  };
  move = lost_move s lease (reading_at k s) (reading_at (after_call k (send_refused t taken (sending.Lost seen))) s) (notices_of k (send_refused t taken (sending.Lost seen) ∷ cs)) (t == s) some
      (set_at k.readings t s no_reading no_reading (in_records s k f));
}
call_moves s lease k (gives_back t heir owner) cs some f lawful = record {
  fits = record {
    within = f.within;
    records = length-set k.readings t no_reading ∙ f.records;
    seated = forgotten_seated s t k (after_release (session_at k t) heir (released_word (held k t) owner (sends_made k t))) (in_records s k f) f.seated;
  };
  move = lost_move s lease (reading_at k s) (reading_at (after_call k (gives_back t heir owner)) s) (notices_of k (gives_back t heir owner ∷ cs)) (t == s) some
      (set_at k.readings t s no_reading no_reading (in_records s k f));
}
call_moves s lease k (release_refused t releasing.NotHeld) cs some f lawful = record { fits = record { within = f.within; records = f.records; seated = f.seated }; move = stays refl refl refl }
call_moves s lease k (release_refused t (releasing.Lost seen)) cs some f lawful = record {
  fits = record {
    within = f.within;
    records = length-set k.readings t no_reading ∙ f.records;
    seated = forgotten_seated s t k (after_loss (session_at k t) seen) (in_records s k f) f.seated;
  };
  move = lost_move s lease (reading_at k s) (reading_at (after_call k (release_refused t (releasing.Lost seen))) s) (notices_of k (release_refused t (releasing.Lost seen) ∷ cs)) (t == s) some
      (set_at k.readings t s no_reading no_reading (in_records s k f));
}
call_moves s lease k (hand_refused t handing.NotHeld) cs some f lawful = record { fits = record { within = f.within; records = f.records; seated = f.seated }; move = stays refl refl refl }
call_moves s lease k (hand_refused t (handing.BadHeir heir)) cs some f lawful = record { fits = record { within = f.within; records = f.records; seated = f.seated }; move = stays refl refl refl }
call_moves s lease k (hand_refused t (handing.Lost seen)) cs some f lawful = record {
  fits = record {
    within = f.within;
    records = length-set k.readings t no_reading ∙ f.records;
    seated = forgotten_seated s t k (after_loss (session_at k t) seen) (in_records s k f) f.seated;
  };
  move = lost_move s lease (reading_at k s) (reading_at (after_call k (hand_refused t (handing.Lost seen))) s) (notices_of k (hand_refused t (handing.Lost seen) ∷ cs)) (t == s) some
      (set_at k.readings t s no_reading no_reading (in_records s k f));
}
call_moves s lease k beats cs some f lawful = record { fits = record { within = f.within; records = f.records; seated = f.seated }; move = stays refl refl refl }
call_moves s lease k (is_done finished taken (Ok unit)) cs some f lawful = record { fits = record { within = f.within; records = f.records; seated = f.seated }; move = stays refl refl refl }
call_moves s lease k (is_done finished taken (Err full)) cs some f lawful = record { fits = record { within = f.within; records = f.records; seated = f.seated }; move = stays refl refl refl }
call_moves s lease k (meets ends) cs some f met = record {
  fits = record {
    within = f.within;
    records = f.records;
    seated = both_same s k (record k { ends = ends }) refl (ap (λ (hs : List LibraryLease). held_lease hs) (met.leases s)) f.seated;
  };
  move = stays refl refl refl;
}

over : (s lease : ℕ) (k : Known) (calls : List Call) → 0 < lease → Fits s k → AreLawful k calls → (reading_at k s).lease ≢ lease → OnCourse s lease (notices_of k calls) → reads_of s lease k calls ≡ []
over s lease k [] some f lawful un course = refl
over s lease k (c ∷ cs) some f lawful un course =
    let called = call_moves s lease k c cs some f lawful.0 in
    let k' = after_call k c in
    let on = over_move s lease (reading_at k s) (reading_at k' s) (reads_in s lease k c) (notices_of k (c ∷ cs)) (notices_of k' cs) called.move un course in
    ap (λ (ps : List ℕ). ps ++ reads_of s lease k' cs) on.0 ∙ over s lease k' cs some called.fits lawful.1 on.1 on.2

-- positions without a gap, with none, one or none more before them
none_before : (n : ℕ) (rs ps : List ℕ) → rs ≡ [] → ps ≡ numbers_from n (length ps) → rs ++ ps ≡ numbers_from n (length (rs ++ ps))
none_before n rs ps none are = subst (λ (xs : List ℕ). xs ++ ps ≡ numbers_from n (length (xs ++ ps))) (sym none) are

one_before : (n : ℕ) (rs ps : List ℕ) → rs ≡ n ∷ [] → ps ≡ numbers_from (n + 1) (length ps) → rs ++ ps ≡ numbers_from n (length (rs ++ ps))
one_before n rs ps one are = subst (λ (xs : List ℕ). xs ++ ps ≡ numbers_from n (length (xs ++ ps))) (sym one) (ap (λ (xs : List ℕ). n ∷ xs) are)

no_positions : (n : ℕ) (ps : List ℕ) → ps ≡ [] → ps ≡ numbers_from n (length ps)
no_positions n ps none = subst (λ (xs : List ℕ). xs ≡ numbers_from n (length xs)) (sym none) refl

read : (s lease next : ℕ) (k : Known) (calls : List Call) → 0 < lease → Fits s k → AreLawful k calls → reading_at k s ≡ record { lease = lease; next = next } → AreInOrder s lease (Some next) (notices_of k calls)
    → reads_of s lease k calls ≡ numbers_from next (length (reads_of s lease k calls))
read s lease next k [] some f lawful at order = refl
read s lease next k (c ∷ cs) some f lawful at order =
    let called = call_moves s lease k c cs some f lawful.0 in
    let k' = after_call k c in
    let rs = reads_in s lease k c in
    let ps = reads_of s lease k' cs in
    ⊎_elim (λ on. none_before next rs ps on.0 (read s lease next k' cs some called.fits lawful.1 on.1 on.2))
    (λ more. ⊎_elim (λ on. one_before next rs ps on.0 (read s lease (next + 1) k' cs some called.fits lawful.1 on.1 on.2))
    (λ on. none_before next rs ps on.0 (no_positions next ps (over s lease k' cs some called.fits lawful.1 on.1 on.2))) more)
    (read_move s lease next (reading_at k s) (reading_at k' s) rs (notices_of k (c ∷ cs)) (notices_of k' cs) called.move at order)

ungranted : (s lease : ℕ) (k : Known) (calls : List Call) → 0 < lease → Fits s k → AreLawful k calls → (reading_at k s).lease ≢ lease → AreInOrder s lease None (notices_of k calls)
    → reads_of s lease k calls ≡ numbers_from (granted_from s lease (notices_of k calls)) (length (reads_of s lease k calls))
ungranted s lease k [] some f lawful un order = refl
ungranted s lease k (c ∷ cs) some f lawful un order =
    let called = call_moves s lease k c cs some f lawful.0 in
    let k' = after_call k c in
    let rs = reads_in s lease k c in
    let ps = reads_of s lease k' cs in
    let from = granted_from s lease (notices_of k (c ∷ cs)) in
    let on = wait_move s lease (reading_at k s) (reading_at k' s) rs (notices_of k (c ∷ cs)) (notices_of k' cs) called.move un order in
    none_before from rs ps on.0
    (⊎_elim (λ waits. subst (λ (n : ℕ). ps ≡ numbers_from n (length ps)) (sym waits.2) (ungranted s lease k' cs some called.fits lawful.1 waits.0 waits.1))
    (λ more. ⊎_elim (λ granted. read s lease from k' cs some called.fits lawful.1 granted.0 granted.1)
    (λ lost. no_positions from ps (over s lease k' cs some called.fits lawful.1 lost.0 lost.1)) more) on.1)

pub gapless : (s lease : ℕ) (next : Option ℕ) (k : Known) (calls : List Call) → 0 < lease → s < reading_count → length k.readings ≡ reading_count
    → AreLawful k calls → IsSeated s k → IsAt s lease next k → AreInOrder s lease next (notices_of k calls)
    → reads_of s lease k calls ≡ numbers_from (first_position s lease next (notices_of k calls)) (length (reads_of s lease k calls))
gapless s lease None k calls some within records lawful seated at order = ungranted s lease k calls some (record { within = within; records = records; seated = seated }) lawful at order
gapless s lease (Some next) k calls some within records lawful seated at order = read s lease next k calls some (record { within = within; records = records; seated = seated }) lawful at order

pub beginning : (s lease : ℕ) (next : Option ℕ) (popped told : List Notice) → AreInOrder s lease next (popped ++ told) → AreInOrder s lease next popped
beginning s lease next [] told order = tt
beginning s lease next (n ∷ ns) told order = (order.0, beginning s lease (next_after (concerns s lease n) next n) ns told order.1)
