-- What a kept call is of a library's calls; that its seat keeps its number and its sessions; that its leases rise; and that it knows the words that it saw.
use Rattle.std.proofs.Common.{◌≡◌, ◌≢◌, ◌<◌, inl, inr, ℕ, List, [], ◌∷◌, true, false, refl, sym, ap, subst, Bool, Option, None, Some, Result, Ok, Err, ◌∙◌, arith, length}
use Rattle.std.proofs.lemmas.Bool.{cases_eq, eq-eqb, ne_eqb}
use Rattle.std.proofs.lemmas.List.{length-set}
use Rattle.std.proofs.lemmas.List.Elements.{All-cons}
use Rattle.std.specs.Prelude.{◌↔◌, ◌==◌, nat_lt, nat_le, if◌then◌else◌, slice_set}
use Rattle.lease_core.specs.declared.messages.Notice.{Notice}
use Rattle.lease_core.specs.declared.messages.Notice.TheVariants as notices
use Rattle.lease_core.specs.declared.word.Word.{Word}
use Rattle.lease_words.specs.Sees.{after_arrival, after_loss, after_see, after_taken_load}
use Rattle.lease_words.specs.Views.{LibraryView, library_at, with_library_at}
use Rattle.lease_words.specs.declared.item.Sent.{Sent}
use Rattle.lease_words.specs.declared.view.LibrarySession.{LibrarySession}
use Rattle.library_api.specs.Calls.{Call, IsLawful, after_call, asks, beats, gives_back, hand_refused, polls, release_refused, send_refused, sends}
use Rattle.library_api.specs.Ends.{seat_after_beat, with_session}
use Rattle.library_api.specs.Known.{Known, after_waiting, held, holds, with_seat}
use Rattle.library_api.specs.Polls.{Found, HasHold, OnHolding, Polled, after_grant, after_message, after_notice, after_poll, after_pop, after_published, after_taking_up, polled, saw_published, saw_word, session_of, shows, taken_up, with_none_kept, with_request_closed}
use Rattle.library_api.specs.Releases.{IsHandNotHeld, IsReleaseNotHeld, after_giving_back, after_hand_refused, after_release_refused}
use Rattle.library_api.specs.Requests.{after_asking, after_request}
use Rattle.library_api.specs.Sends.{SendCause, after_refusing, after_send_refused, after_sent, items_since, taken_seen}
use Rattle.library_api.specs.declared.event.Event.{Event}
use Rattle.library_api.specs.declared.reading.Message.{Message}
use Rattle.library_api.specs.declared.refusal.AskError.{AskError}
use Rattle.library_api.specs.declared.refusal.AskError.TheVariants as asking
use Rattle.library_api.specs.declared.refusal.HandRefusal.{HandRefusal}
use Rattle.library_api.specs.declared.refusal.HandRefusal.TheVariants as handing
use Rattle.library_api.specs.declared.refusal.ReleaseRefusal.{ReleaseRefusal}
use Rattle.library_api.specs.declared.refusal.ReleaseRefusal.TheVariants as releasing
use Rattle.library_api.specs.declared.refusal.Released.{Released}
use Rattle.library_api.specs.declared.refusal.SendRefusal.{SendRefusal}
use Rattle.library_api.specs.declared.refusal.SendRefusal.TheVariants as sending
use Rattle.library_api.specs.declared.waited.WaitKind.TheVariants.{Free}
use Rattle.headline.specs.runs.Deeds.{IsKnownWord, lost_handing, lost_polling, lost_releasing, lost_sending, word_kept}
use Rattle.headline.specs.runs.Lives.{IsKeptAs, SeatStays}
use Rattle.headline.proofs.run_lemmas.Seats.{AreKnown, SeatKeeps, asked_keeps, event_known, given_keeps, held_there, last_known, loaded_keeps, lost_keeps, lost_known, lost_sending_keeps, none_known, one_keeps, polled_keeps, seat_itself, sent_keeps}
use Rattle.run_report.specs.declared.calls.Call.{Call as Kept}
use Rattle.run_report.specs.declared.calls.Call.TheVariants as calls
use Rattle.script_run.specs.Calls.{Hands, MakesCall, Polls, Releases, Requests, SendsTo}
use Rattle.script_text.specs.declared.steps.LibStep.{LibStep}
use Rattle.script_text.specs.declared.steps.LibStep.TheVariants as act

stays_further : (first second third : Known) → SeatStays first second → SeatStays second third → SeatStays first third
stays_further first second third one two = record { number = two.number ∙ one.number; sessions = two.sessions ∙ one.sessions }

-- what is known of one session changes, if the table has it
in_session : (there : Bool) (k : Known) (s : ℕ) (ls : LibrarySession) (seat : LibraryView)
    → SeatStays k (record k { ends = record (k.ends) { seat = if there then record (k.ends.seat) { knows = record (k.ends.seat.knows) { sessions = slice_set k.ends.seat.knows.sessions s ls } } else k.ends.seat } })
in_session true k s ls seat = record { number = refl; sessions = length-set k.ends.seat.knows.sessions s ls }
in_session false k s ls seat = record { number = refl; sessions = refl }

saw : (k : Known) (s : ℕ) (ls : LibrarySession) → SeatStays k (record k { ends = record (k.ends) { seat = with_session k.ends.seat s ls } })
saw k s ls = in_session (nat_lt s k.ends.seat.table.shape.sessions) k s ls k.ends.seat

granted : (k : Known) (s lease from : ℕ) (is : Bool) → SeatStays k (after_grant k s lease from is)
granted k s lease from true = record { number = refl; sessions = refl }
granted k s lease from false = record { number = refl; sessions = refl }

published : (k : Known) (m : Message) (is : Bool) → SeatStays k (after_published k m is)
published k m true = record { number = refl; sessions = refl }
published k m false = record { number = refl; sessions = refl }

early : (is : Bool) (k : Known) (m : Message) (shown : Bool) (found : Found)
    → SeatStays k (if is then record (saw_published k m.s found.published) { kept = Some m } else after_published (saw_word (saw_published k m.s found.published) m.s found.word) m shown)
early true k m shown found = (let x = saw k m.s (after_arrival (library_at k.ends.seat m.s) found.published) in record { number = x.number; sessions = x.sessions })
early false k m shown found =
    let one = saw_published k m.s found.published in
    let two = saw_word one m.s found.word in
    stays_further k one (after_published two m shown) (saw k m.s (after_arrival (library_at k.ends.seat m.s) found.published))
    (stays_further one two (after_published two m shown) (saw one m.s (after_see one.ends.seat.knows.number (library_at one.ends.seat m.s) found.word)) (published two m shown))

messaged : (k : Known) (m : Message) (is_held shown : Bool) (found : Found) → SeatStays k (after_message k m is_held shown found)
messaged k m false shown found = record { number = refl; sessions = refl }
messaged k m true shown found = early (nat_le found.published m.pos) k m shown found

noticed : (k : Known) (found : Found) (n : Option Notice) → SeatStays k (after_notice k found n)
noticed k found None = record { number = refl; sessions = refl }
noticed k found (Some (notices.Granted nr s lease from start)) =
    let closed = with_request_closed k in
    let two = saw_word closed s found.word in
    stays_further k two (after_grant two s lease from (shows k.ends.seat.knows.number lease found.word))
    (let x = saw closed s (after_see closed.ends.seat.knows.number (library_at closed.ends.seat s) found.word) in record { number = x.number; sessions = x.sessions })
    (granted two s lease from (shows k.ends.seat.knows.number lease found.word))
noticed k found (Some (notices.Refused nr s why)) = record { number = refl; sessions = refl }
noticed k found (Some (notices.Message s lease pos bytes)) =
    messaged k (record { s = s; lease = lease; pos = pos; bytes = bytes }) (holds k s lease) (shows k.ends.seat.knows.number lease found.word) found

popped_or_kept : (kept : Option Message) (k : Known) (pushed : ℕ) (popped : Option Notice) → SeatStays k (with_none_kept (after_pop kept (with_seat k (seat_after_beat k.ends.seat)) pushed popped))
popped_or_kept (Some m) k pushed popped = record { number = refl; sessions = refl }
popped_or_kept None k pushed popped = record { number = refl; sessions = refl }

polled_stays : (k : Known) (o : Polled) → SeatStays k (after_poll k o)
polled_stays k o =
    let up = after_taking_up k o.pushed o.popped in
    let x = stays_further k up (after_notice up o.found (taken_up k.kept o.popped)) (popped_or_kept k.kept k o.pushed o.popped) (noticed up o.found (taken_up k.kept o.popped)) in
    record { number = x.number; sessions = x.sessions }

asked_stays : (k : Known) (s from taken : ℕ) (answer : Result ℕ AskError) → SeatStays k (after_asking k s from taken answer)
asked_stays k s from taken (Ok nr) = record { number = refl; sessions = refl }
asked_stays k s from taken (Err (asking.Outstanding nr)) = record { number = refl; sessions = refl }
asked_stays k s from taken (Err (asking.AsksSpent count)) = record { number = refl; sessions = refl }
asked_stays k s from taken (Err (asking.RingFull pushed found)) = record { number = refl; sessions = refl }

refused_stays : (k : Known) (s taken : ℕ) (why : SendRefusal) → SeatStays k (after_refusing k s taken why)
refused_stays k s taken sending.NotHeld = record { number = refl; sessions = refl }
refused_stays k s taken (sending.TooLong size) = record { number = refl; sessions = refl }
refused_stays k s taken (sending.BadBody at) = record { number = refl; sessions = refl }
refused_stays k s taken (sending.LaneFull committed found) = record { number = refl; sessions = length-set k.ends.seat.knows.sessions s _ }
refused_stays k s taken (sending.SendsSpent count) = record { number = refl; sessions = length-set k.ends.seat.knows.sessions s _ }
refused_stays k s taken (sending.Lost seen) = record { number = refl; sessions = length-set k.ends.seat.knows.sessions s _ }

release_refused_stays : (k : Known) (s : ℕ) (why : ReleaseRefusal) → SeatStays k (after_release_refused k s why)
release_refused_stays k s releasing.NotHeld = record { number = refl; sessions = refl }
release_refused_stays k s (releasing.Lost seen) = record { number = refl; sessions = length-set k.ends.seat.knows.sessions s _ }

hand_refused_stays : (k : Known) (s : ℕ) (why : HandRefusal) → SeatStays k (after_hand_refused k s why)
hand_refused_stays k s handing.NotHeld = record { number = refl; sessions = refl }
hand_refused_stays k s (handing.BadHeir heir) = record { number = refl; sessions = refl }
hand_refused_stays k s (handing.Lost seen) = record { number = refl; sessions = length-set k.ends.seat.knows.sessions s _ }

-- a refusal, and the word that it has
refused_keeps : (k : Known) (s taken : ℕ) (why : SendRefusal) → SeatKeeps k.ends.seat (after_refusing k s taken why).ends.seat
refused_keeps k s taken sending.NotHeld = seat_itself k.ends.seat
refused_keeps k s taken (sending.TooLong size) = seat_itself k.ends.seat
refused_keeps k s taken (sending.BadBody at) = seat_itself k.ends.seat
refused_keeps k s taken (sending.LaneFull committed found) = one_keeps k.ends.seat s _ (loaded_keeps (library_at k.ends.seat s) taken)
refused_keeps k s taken (sending.SendsSpent count) = one_keeps k.ends.seat s _ (loaded_keeps (library_at k.ends.seat s) taken)
refused_keeps k s taken (sending.Lost seen) = one_keeps k.ends.seat s _ (lost_sending_keeps (library_at k.ends.seat s) taken seen)

release_refused_keeps : (k : Known) (s : ℕ) (why : ReleaseRefusal) → SeatKeeps k.ends.seat (after_release_refused k s why).ends.seat
release_refused_keeps k s releasing.NotHeld = seat_itself k.ends.seat
release_refused_keeps k s (releasing.Lost seen) = one_keeps k.ends.seat s _ (lost_keeps (library_at k.ends.seat s) seen)

hand_refused_keeps : (k : Known) (s : ℕ) (why : HandRefusal) → SeatKeeps k.ends.seat (after_hand_refused k s why).ends.seat
hand_refused_keeps k s handing.NotHeld = seat_itself k.ends.seat
hand_refused_keeps k s (handing.BadHeir heir) = seat_itself k.ends.seat
hand_refused_keeps k s (handing.Lost seen) = one_keeps k.ends.seat s _ (lost_keeps (library_at k.ends.seat s) seen)

-- A kept call is this one of the library.
pub record IsMade (call : Kept) (old new : Known) : Type 0 where
  pub made : Call
  pub after : new ≡ after_call old made
  pub lawful : IsLawful old made
  pub kept : IsKeptAs old made (call ∷ [])
  pub stays : SeatStays old new
  pub keeps : SeatKeeps old.ends.seat new.ends.seat
  pub words : (s : ℕ) → AreKnown new.ends.seat s (word_kept s call)

-- what it did to the seat
behind : (old new now : Known) → new ≡ now → SeatStays old now → SeatStays old new
behind old new now is stays = subst (SeatStays old) (sym is) stays

keeps_behind : (old new now : Known) → new ≡ now → SeatKeeps old.ends.seat now.ends.seat → SeatKeeps old.ends.seat new.ends.seat
keeps_behind old new now is keeps = subst (λ (k : Known). SeatKeeps old.ends.seat k.ends.seat) (sym is) keeps

-- the word that a refusal has of a session
known_behind : (new now : Known) (words : List Word) (t s : ℕ) → new ≡ now → (t ≡ s → AreKnown now.ends.seat s words) → AreKnown new.ends.seat s (if t == s then words else [])
known_behind new now words t s is known = elim (cases_eq t s) [
  | inl same ↦ subst (λ (b : Bool). AreKnown new.ends.seat s (if b then words else [])) (sym (eq-eqb t s same)) (subst (λ (k : Known). AreKnown k.ends.seat s words) (sym is) (known same))
  | inr other ↦ subst (λ (b : Bool). AreKnown new.ends.seat s (if b then words else [])) (sym (ne_eqb t s other)) (none_known new.ends.seat s)
]

-- the one word of a lease that was lost
lost_one : (seat : LibraryView) (t s : ℕ) (known : LibrarySession) (seen : Word) → t < length seat.knows.sessions → t ≡ s → AreKnown (with_library_at seat t (after_loss known seen)) s (seen ∷ [])
lost_one seat t s known seen here same =
    let now = with_library_at seat t (after_loss known seen) in
    subst (λ k. AreKnown now k (seen ∷ [])) same (All-cons (IsKnownWord (library_at now t)) seen [] (lost_known seat t known seen here) (none_known now t))

above_none : (n : ℕ) → 0 < n → n ≢ 0
above_none n above is = omega arith

refused_known : (k : Known) (t s : ℕ) (body : List ℕ) (taken : ℕ) (why : SendRefusal) → SendCause k t body taken why → t ≡ s → AreKnown (after_send_refused k t taken why).ends.seat s (lost_sending why)
refused_known k t s body taken sending.NotHeld cause same = none_known k.ends.seat s
refused_known k t s body taken (sending.TooLong size) cause same = none_known k.ends.seat s
refused_known k t s body taken (sending.BadBody at) cause same = none_known k.ends.seat s
refused_known k t s body taken (sending.LaneFull committed found) cause same = none_known (after_refusing k t taken (sending.LaneFull committed found)).ends.seat s
refused_known k t s body taken (sending.SendsSpent count) cause same = none_known (after_refusing k t taken (sending.SendsSpent count)).ends.seat s
refused_known k t s body taken (sending.Lost seen) cause same =
    lost_one k.ends.seat t s (after_taken_load (library_at k.ends.seat t) taken) seen (held_there k t (above_none (held k t) cause.0.holding)) same

release_known : (k : Known) (t s : ℕ) (why : ReleaseRefusal) → (IsReleaseNotHeld why ↔ (held k t ≡ 0)) → t ≡ s → AreKnown (after_release_refused k t why).ends.seat s (lost_releasing why)
release_known k t s releasing.NotHeld cause same = none_known k.ends.seat s
release_known k t s (releasing.Lost seen) cause same = lost_one k.ends.seat t s (library_at k.ends.seat t) seen (held_there k t (λ none. cause.1 none)) same

hand_known : (k : Known) (t s : ℕ) (why : HandRefusal) → (IsHandNotHeld why ↔ (held k t ≡ 0)) → t ≡ s → AreKnown (after_hand_refused k t why).ends.seat s (lost_handing why)
hand_known k t s handing.NotHeld cause same = none_known k.ends.seat s
hand_known k t s (handing.BadHeir heir) cause same = none_known k.ends.seat s
hand_known k t s (handing.Lost seen) cause same = lost_one k.ends.seat t s (library_at k.ends.seat t) seen (held_there k t (λ none. cause.1 none)) same

requested : (s from : ℕ) (answer : Result ℕ AskError) (old new : Known) → Requests s from answer old new → IsMade (calls.Request s from answer) old new
requested s from answer old new is = record {
  made = asks s from new.ends.tail.taken answer;
  after = is.library;
  lawful = (is.carries, is.outstanding);
  kept = refl;
  stays = behind old new (after_request old s from new.ends.tail.taken answer) is.library
      (let x = asked_stays old s from new.ends.tail.taken answer in record { number = x.number; sessions = x.sessions });
  keeps = keeps_behind old new (after_request old s from new.ends.tail.taken answer) is.library (asked_keeps old s from new.ends.tail.taken answer);
  words = λ t. none_known new.ends.seat t;
}

found_by_poll : (event : Event) (old new : Known) → Polls event old new → IsMade (calls.Poll event) old new
found_by_poll event old new is =
    let o = polled old new in
    record {
      made = polls o;
      after = is.library;
      lawful = subst (λ e. OnHolding e (HasHold (after_poll old o))) is.event_is (subst (λ (k : Known). OnHolding event (HasHold k)) is.library is.held);
      kept = ap (λ e. calls.Poll e ∷ []) is.event_is;
      stays = behind old new (after_poll old o) is.library (polled_stays old o);
      keeps = keeps_behind old new (after_poll old o) is.library (polled_keeps old o is.lease);
      words = λ s. subst (λ e. AreKnown new.ends.seat s (lost_polling s e)) (sym is.event_is)
          (event_known new.ends.seat s old o.found (taken_up old.kept o.popped) (last_known new.ends.seat (session_of (taken_up old.kept o.popped))));
    }

sent_as : (s : ℕ) (body : List ℕ) (answer : Result Sent SendRefusal) (old new : Known) → SendsTo s body answer old new → IsMade (calls.Send s body answer) old new
sent_as s body (Ok sent) old new is = record {
  made = sends s (taken_seen new s) body (items_since old new s);
  after = is.0;
  lawful = (is.4.holding, is.3);
  kept = λ i. calls.Send s body (Ok (record { lease = is.1 i; ordinal = is.2 i })) ∷ [];
  stays = behind old new (after_sent old s (taken_seen new s) (items_since old new s)) is.0 (record { number = refl; sessions = length-set old.ends.seat.knows.sessions s _ });
  keeps = keeps_behind old new (after_sent old s (taken_seen new s) (items_since old new s)) is.0
      (one_keeps old.ends.seat s _ (sent_keeps (library_at old.ends.seat s) (taken_seen new s) (items_since old new s) _));
  words = λ t. none_known new.ends.seat t;
}
sent_as s body (Err why) old new is = record {
  made = send_refused s (taken_seen new s) why;
  after = is.0;
  lawful = tt;
  kept = (body, refl);
  stays = behind old new (after_send_refused old s (taken_seen new s) why) is.0 (let x = refused_stays old s (taken_seen new s) why in record { number = x.number; sessions = x.sessions });
  keeps = keeps_behind old new (after_send_refused old s (taken_seen new s) why) is.0 (refused_keeps old s (taken_seen new s) why);
  words = λ t. known_behind new (after_send_refused old s (taken_seen new s) why) (lost_sending why) s t is.0 (refused_known old s t body (taken_seen new s) why is.1);
}

released_as : (s : ℕ) (answer : Result Released ReleaseRefusal) (old new : Known) → Releases s answer old new → IsMade (calls.Release s answer) old new
released_as s (Ok released) old new is = record {
  made = gives_back s 0 old.ends.seat.knows.number;
  after = is.0;
  lawful = is.1;
  kept = inl (refl, λ i. calls.Release s (Ok (record { lease = is.2 i; count = is.3 i })) ∷ []);
  stays = behind old new (after_giving_back old s 0 old.ends.seat.knows.number) is.0 (record { number = refl; sessions = length-set old.ends.seat.knows.sessions s _ });
  keeps = keeps_behind old new (after_giving_back old s 0 old.ends.seat.knows.number) is.0 (one_keeps old.ends.seat s _ (given_keeps (library_at old.ends.seat s) 0 _));
  words = λ t. none_known new.ends.seat t;
}
released_as s (Err why) old new is = record {
  made = release_refused s why;
  after = is.0;
  lawful = tt;
  kept = refl;
  stays = behind old new (after_release_refused old s why) is.0 (release_refused_stays old s why);
  keeps = keeps_behind old new (after_release_refused old s why) is.0 (release_refused_keeps old s why);
  words = λ t. known_behind new (after_release_refused old s why) (lost_releasing why) s t is.0 (release_known old s t why is.1);
}

handed_as : (s heir : ℕ) (answer : Result Released HandRefusal) (old new : Known) → Hands s heir answer old new → IsMade (calls.Hand s heir answer) old new
handed_as s heir (Ok released) old new is = record {
  made = gives_back s heir heir;
  after = is.0;
  lawful = is.1;
  kept = inr (λ i. calls.Hand s heir (Ok (record { lease = is.2 i; count = is.3 i })) ∷ []);
  stays = behind old new (after_giving_back old s heir heir) is.0 (record { number = refl; sessions = length-set old.ends.seat.knows.sessions s _ });
  keeps = keeps_behind old new (after_giving_back old s heir heir) is.0 (one_keeps old.ends.seat s _ (given_keeps (library_at old.ends.seat s) heir _));
  words = λ t. none_known new.ends.seat t;
}
handed_as s heir (Err why) old new is = record {
  made = hand_refused s why;
  after = is.0;
  lawful = tt;
  kept = (heir, refl);
  stays = behind old new (after_hand_refused old s why) is.0 (hand_refused_stays old s why);
  keeps = keeps_behind old new (after_hand_refused old s why) is.0 (hand_refused_keeps old s why);
  words = λ t. known_behind new (after_hand_refused old s why) (lost_handing why) s t is.0 (hand_known old s t why is.1);
}

pub call_made : (what : LibStep) (call : Kept) (old new : Known) → MakesCall what call old new → IsMade call old new
call_made (act.Request s from) call old new is = subst (λ c. IsMade c old new) (sym is.1) (requested s from is.0 old new is.2)
call_made act.Poll call old new is = subst (λ c. IsMade c old new) (sym is.1) (found_by_poll is.0 old new is.2)
call_made (act.Send s body) call old new is = subst (λ c. IsMade c old new) (sym is.1) (sent_as s body is.0 old new is.2.sends)
call_made (act.Release s) call old new is = subst (λ c. IsMade c old new) (sym is.1) (released_as s is.0 old new is.2)
call_made act.Beat call old new is = subst (λ c. IsMade c old new) (sym is.0) (record {
  made = beats;
  after = is.1;
  lawful = tt;
  kept = refl;
  stays = behind old new (after_waiting Free (with_seat old (seat_after_beat old.ends.seat))) is.1 (record { number = refl; sessions = refl });
  keeps = keeps_behind old new (after_waiting Free (with_seat old (seat_after_beat old.ends.seat))) is.1 (seat_itself old.ends.seat);
  words = λ t. none_known new.ends.seat t;
})
call_made (act.Hand s heir) call old new is = subst (λ c. IsMade c old new) (sym is.1) (handed_as s heir is.0 old new is.2)
call_made act.Answer call old new is = absurd is
call_made (act.Read count) call old new is = absurd is
