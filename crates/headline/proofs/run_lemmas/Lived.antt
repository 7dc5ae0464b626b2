-- The libraries of a run live on, step by step.
use Rattle.std.proofs.Common.{◌≡◌, ◌≢◌, inl, inr, ℕ, zero, suc, ◌+◌, ◌-◌, ◌<◌, ◌≤◌, Bool, List, [], ◌∷◌, ◌++◌, length, None, Some, Result, Ok, Err, refl, ap, subst, sym, ◌∙◌, arith}
use Rattle.std.proofs.lemmas.Bool.{cases_lt}
use Rattle.std.proofs.lemmas.Grind.{flat_map-append}
use Rattle.std.proofs.lemmas.List.{append-nil, append_assoc, length-replicate}
use Rattle.std.proofs.lemmas.List.Elements.{All-append, All-weaker}
use Rattle.std.proofs.lemmas.Option.{slice_get_within}
use Rattle.std.specs.List.{flat_map}
use Rattle.std.specs.Prelude.{replicate, slice_get, slice_index_or, slice_set}
use Rattle.engine_config.specs.declared.config.Config.{Config}
use Rattle.engine_end.specs.Meeting.{RingsMeet, SeatsMeet}
use Rattle.engine_loop.specs.declared.engine.Engine.{Engine}
use Rattle.lease_words.specs.Tells.{library_sessions_after_meeting}
use Rattle.lease_words.specs.Views.{EngineView, LibraryView, TableRef, library_at, no_library_session}
use Rattle.lease_words.specs.declared.view.EngineSession.{EngineSession}
use Rattle.lease_words.specs.declared.view.LibrarySession.{LibrarySession}
use Rattle.lease_core.specs.declared.entry.Entry.{Entry}
use Rattle.lease_core.specs.declared.messages.Command.{Command}
use Rattle.lease_core.specs.declared.messages.Command.TheVariants as commands
use Rattle.lease_core.specs.declared.messages.Notice.{Notice}
use Rattle.library_api.specs.Calls.{AreLawful, AreNumbered, Call, HasMet, IsLawful, after_call, after_calls, is_done, meets, numbers_in, numbers_to}
use Rattle.library_api.specs.Ends.{EndsView}
use Rattle.library_api.specs.Known.{Known, new_library}
use Rattle.library_api.specs.Laws.{RequestsAreNumbered}
use Rattle.library_api.specs.Replies.{AreReplies, HoldsThroughout, replies_in}
use Rattle.library_api.specs.Requests.{after_done}
use Rattle.script_run.specs.Calls.{MakesCall}
use Rattle.library_desk.specs.declared.desk.LibraryDesk.{LibraryDesk}
use Rattle.library_desk.specs.declared.ends.EngineEnds.{EngineEnds}
use Rattle.library_desk.specs.declared.shared.Shared.{Shared}
use Rattle.engine_laws.specs.libraries.Replies.{AreAnswered, answered_by, asked_by}
use Rattle.ring_links.specs.Ends.{HeadView, TailView}
use Rattle.ring_links.specs.declared.queue.Full.{Full}
use Rattle.headline.specs.runs.Accounted.{IsAccountedRun}
use Rattle.headline.specs.runs.Deeds.{AreRising, IsKnownWord, word_kept, words_kept}
use Rattle.headline.specs.runs.Lives.{AreKept, AreUnused, DesksMeet, HasLived, HaveLived, IsInVain, IsKeptAs, IsLibraryOf, IsRepliedInOrder, IsReportedAs, IsServedAt, Life, life_of}
use Rattle.script_run.specs.declared.callers.Caller.{Caller}
use Rattle.script_run.specs.declared.run.Run.{Run}
use Rattle.headline.proofs.run_lemmas.Calls.{call_made}
use Rattle.headline.proofs.run_lemmas.Carried.{called_between as account_called, carried as account_carried, met as account_met}
use Rattle.headline.proofs.run_lemmas.GoingOn.{made_turn}
use Rattle.headline.proofs.run_lemmas.Numbers.{answers_met, replies_met}
use Rattle.headline.proofs.run_lemmas.Places.{OfEach, each_behind, get_set_other, get_set_same}
use Rattle.headline.proofs.run_lemmas.Seats.{AreKnown, SeatKeeps, SessionKeeps, met_keeps, none_known, seat_itself}
use Rattle.headline.proofs.run_lemmas.Sides.{begins_further, begins_itself}
use Rattle.headline.proofs.run_lemmas.Starts.{past_end}
use Rattle.headline.proofs.Carrying.{each_step}
use Rattle.headline.proofs.Walking.{each_in_turn}
use Rattle.headline.specs.Needed.{RunLaws}
use Rattle.run_report.specs.declared.calls.Call.{Call as Kept}
use Rattle.script_run.specs.Calls.{CallsAs}
use Rattle.script_run.specs.Means.{StartsRun}
use Rattle.script_run.specs.Runs.{CallsAt, CallsBetween, Carries, CarriesAt, CarriesOut, Meets, MeetsCaller, TurnsOver, with_room}
use Rattle.session_core.specs.State.{State}
use Rattle.script_text.specs.declared.steps.LibStep.{LibStep}
use Rattle.script_text.specs.declared.steps.Step.{Step}

-- calls, and calls behind them
pub after_append : (k : Known) (calls more : List Call) → after_calls k (calls ++ more) ≡ after_calls (after_calls k calls) more
after_append k [] more = refl
after_append k (call ∷ calls) more = after_append (after_call k call) calls more

pub lawful_append : (k : Known) (calls more : List Call) → AreLawful k calls → AreLawful (after_calls k calls) more → AreLawful k (calls ++ more)
lawful_append k [] more first then = then
lawful_append k (call ∷ calls) more first then = (first.0, lawful_append (after_call k call) calls more first.1 then)

pub kept_append : (Keeps : Known → Call → List Kept → Type 0) (k : Known) (calls more : List Call) (first then : List Kept) → AreKept Keeps k calls first → AreKept Keeps (after_calls k calls) more then
    → AreKept Keeps k (calls ++ more) (first ++ then)
kept_append Keeps k [] more first then none is = subst (λ kept. AreKept Keeps k more (kept ++ then)) (sym none) is
kept_append Keeps k (call ∷ calls) more first then are is =
    (are.0, are.1 ++ then, ap (λ kept. kept ++ then) are.2 ∙ append_assoc are.0 are.1 then, are.3, kept_append Keeps (after_call k call) calls more are.1 then are.4 is)

-- the words that were seen before and in this call
pub words_on : (s : ℕ) (old new : LibraryView) (calls kept : List Kept) → SessionKeeps (library_at old s) (library_at new s) → AreKnown old s (words_kept s calls) → AreKnown new s (words_kept s kept)
    → AreKnown new s (words_kept s (calls ++ kept))
words_on s old new calls kept keeps before now =
    subst (AreKnown new s) (sym (flat_map-append (word_kept s) calls kept))
    (All-append (IsKnownWord (library_at new s)) (words_kept s calls) (words_kept s kept)
    (All-weaker (IsKnownWord (library_at old s)) (IsKnownWord (library_at new s)) keeps.words (words_kept s calls) before) now)

one_seen : (seat : LibraryView) (s : ℕ) (call : Kept) → AreKnown seat s (word_kept s call) → AreKnown seat s (words_kept s (call ∷ []))
one_seen seat s call known = subst (AreKnown seat s) (sym (append-nil (word_kept s call))) known

-- one call more
abbrev pub lived_on : (Keeps : Known → Call → List Kept → Type 0) (requests : ℕ) (old new : Life) (call : Call) (kept : List Kept) → new.library ≡ after_call old.library call → IsLawful old.library call → Keeps old.library call kept
    → new.calls ≡ old.calls ++ kept → SeatKeeps old.library.ends.seat new.library.ends.seat → ((s : ℕ) → AreKnown new.library.ends.seat s (words_kept s kept)) → HasLived Keeps requests old → HasLived Keeps requests new
lived_on Keeps requests old new call kept after lawful is_kept calls keeps words was =
    let k = new_library was.first requests in
    let last = after_calls k was.made in
    record {
      first = was.first;
      unused = was.unused;
      made = was.made ++ call ∷ [];
      lawful = lawful_append k was.made (call ∷ []) was.lawful (subst (λ (now : Known). IsLawful now call) was.known lawful, tt);
      known = after ∙ (ap (λ (now : Known). after_call now call) was.known ∙ sym (after_append k was.made (call ∷ [])));
      kept = subst (AreKept Keeps k (was.made ++ call ∷ [])) (sym calls)
          (kept_append Keeps k was.made (call ∷ []) old.calls kept was.kept (kept, [], sym (append-nil kept), subst (λ (now : Known). Keeps now call kept) was.known is_kept, refl));
      rising = λ s. (keeps s).rising (was.rising s);
      words = λ s. subst (λ all. AreKnown new.library.ends.seat s (words_kept s all)) (sym calls) (words_on s old.library.ends.seat new.library.ends.seat old.calls kept (keeps s) (was.words s) (words s));
    }

-- nothing is kept of it
abbrev none_seen : (life : Life) (s : ℕ) → AreKnown life.library.ends.seat s []
none_seen life s = none_known life.library.ends.seat s

-- a meeting gives a seat no session
met_sessions : (library : ℕ) (es : List EngineSession) (ls : List LibrarySession) → length (library_sessions_after_meeting library es ls) ≤ length ls
met_sessions library [] ls = omega arith
met_sessions library (x ∷ xs) [] = omega arith
met_sessions library (x ∷ xs) (y ∷ ys) = (let rest = met_sessions library xs ys in omega arith)

seat_met : (engine_old engine_new : EngineView) (library_old library_new : LibraryView) → SeatsMeet engine_old engine_new library_old library_new → length library_new.knows.sessions ≤ length library_old.knows.sessions
seat_met engine_old engine_new library_old library_new is =
    subst (λ (v : LibraryView). length v.knows.sessions ≤ length library_old.knows.sessions) (sym is.library) (met_sessions library_old.knows.number engine_old.knows.sessions library_old.knows.sessions)

-- what a meeting leaves of each session
session_met : {T : Type 0} (part : LibrarySession → T) (engine_old engine_new : EngineView) (library_old library_new : LibraryView) → SeatsMeet engine_old engine_new library_old library_new
    → length library_old.knows.sessions ≤ engine_old.table.shape.sessions
    → ((s : ℕ) → s < engine_old.table.shape.sessions → part (library_at library_new s) ≡ part (library_at library_old s)) → (s : ℕ) → part (library_at library_new s) ≡ part (library_at library_old s)
session_met part engine_old engine_new library_old library_new is within small s = elim (cases_lt s engine_old.table.shape.sessions) [
  | inl here ↦ small s here
  | inr past ↦ (
      let shorter = seat_met engine_old engine_new library_old library_new is in
      ap part (past_end library_new.knows.sessions s no_library_session (omega arith) ∙ sym (past_end library_old.knows.sessions s no_library_session (omega arith))))
]

-- the ends of a library that meets the engine
module _ (number : ℕ) (engine_old engine_new : LibraryDesk) (old new : EndsView) (seats : SeatsMeet engine_old.desk.seat engine_new.desk.seat old.seat new.seat)
    (rings : RingsMeet number engine_old engine_new old.tail new.tail old.head new.head) (within : length old.seat.knows.sessions ≤ engine_old.desk.seat.table.shape.sessions) where
  pub has_met : HasMet old new
  has_met = record {
    leases = session_met (λ ls. ls.leases) engine_old.desk.seat engine_new.desk.seat old.seat new.seat seats within (λ s small. ap (λ (ls : LibrarySession). ls.leases) (seats.library_session s small));
    items = session_met (λ ls. ls.items) engine_old.desk.seat engine_new.desk.seat old.seat new.seat seats within (λ s small. ap (λ (ls : LibrarySession). ls.items) (seats.library_session s small));
    pushed = ap (λ tail. tail.pushed) rings.commands.tail;
    popped = ap (λ head. head.popped) rings.notices.head;
  }

  pub has_kept : SeatKeeps old.seat new.seat
  has_kept = met_keeps engine_old.desk.seat engine_new.desk.seat old.seat new.seat seats
      (λ s past.
      (let shorter = seat_met engine_old.desk.seat engine_new.desk.seat old.seat new.seat seats in
      past_end new.seat.knows.sessions s no_library_session (omega arith) ∙ sym (past_end old.seat.knows.sessions s no_library_session (omega arith))))

abbrev meeting_lived : (requests : ℕ) (engine_old engine_new : Engine) (old new : Caller) → MeetsCaller engine_old engine_new old new → length old.library.ends.seat.knows.sessions ≤ engine_old.sessions.desk.seat.table.shape.sessions
    → HasLived IsKeptAs requests (life_of old) → HasLived IsKeptAs requests (life_of new)
meeting_lived requests engine_old engine_new old new is within was =
    lived_on IsKeptAs requests (life_of old) (life_of new) (meets new.library.ends) [] (ap (λ (c : Caller). c.library) is.caller)
    (has_met old.number engine_old.sessions engine_new.sessions old.library.ends new.library.ends is.seats is.rings within) refl
    (ap (λ (c : Caller). c.calls.items) is.caller ∙ sym (append-nil old.calls.items))
    (has_kept old.number engine_old.sessions engine_new.sessions old.library.ends new.library.ends is.seats is.rings within) (none_seen (life_of new)) was

-- what holds of each library, where that at one place may have popped what its meeting tells
record IsAlmost (requests : ℕ) (d : LibraryDesk) (place j : ℕ) (caller : Caller) : Type 0 where
  number : caller.number ≡ j + 1
  lived : HasLived IsKeptAs requests (life_of caller)
  replied : j ≢ place → IsRepliedInOrder requests (life_of caller) lived
  pending : AreReplies caller.library → IsRepliedInOrder requests (life_of caller) lived
  seat : length caller.library.ends.seat.knows.sessions ≤ d.desk.seat.table.shape.sessions
  served : j ≢ place → IsServedAt d.ends.items j (life_of caller)

-- what each library of a run is
abbrev OfRun : ℕ → LibraryDesk → ℕ → Caller → Type 0
OfRun requests d place caller = IsLibraryOf requests d place (life_of caller)

-- ends at another place
pub served_beside : (ends : List EngineEnds) (place j : ℕ) (after : EngineEnds) (life : Life) → j ≢ place → IsServedAt ends j life → IsServedAt (slice_set ends place after) j life
served_beside ends place j after life other was = record { side = was.side; found = get_set_other ends place j after other ∙ was.found; popped = was.popped; heard = was.heard; asked = was.asked; kept = was.kept; answers = was.answers }

pub place_is : (number place : ℕ) → number ≡ place + 1 → number - 1 ≡ place
place_is number place is = omega arith

-- a library's side is found by its number
slice_side : (place number : ℕ) (side : EngineEnds) (ends : List EngineEnds) → number ≡ place + 1 → slice_get ends place ≡ Some side → slice_get ends (number - 1) ≡ Some side
slice_side place number side ends is found = subst (λ j. slice_get ends j ≡ Some side) (sym (place_is number place is)) found

-- A library that met the engine is served at its place.
module _ (before : ℕ → List Entry) (place number : ℕ) (engine_old engine_new : LibraryDesk) (tail_old : TailView Command) (head_old : HeadView Notice) (life : Life)
    (rings : RingsMeet number engine_old engine_new tail_old life.library.ends.tail head_old life.library.ends.head) (number_is : number ≡ place + 1) (answered : AreAnswered before engine_new) where
  found_there : slice_get engine_new.ends.items place ≡ Some rings.after
  found_there =
      let at : number - 1 ≡ place = place_is number place number_is in
      let found : slice_get engine_old.ends.items place ≡ Some rings.before = subst (λ k. slice_get engine_old.ends.items k ≡ Some rings.before) at rings.found in
      let ends : engine_new.ends.items ≡ slice_set engine_old.ends.items place rings.after = rings.ends ∙ ap (λ k. slice_set engine_old.ends.items k rings.after) at in
      ap (λ all. slice_get all place) ends ∙ get_set_same engine_old.ends.items place rings.after (slice_get_within engine_old.ends.items place rings.before found)

  pub each_answered : flat_map answered_by rings.after.tail.pushed ≡ flat_map asked_by rings.after.head.popped
  each_answered = (answered number rings.after (omega arith) (slice_side place number rings.after engine_new.ends.items number_is found_there)).each

  pub met_served : IsServedAt engine_new.ends.items place life
  met_served = record {
    side = rings.after;
    found = found_there;
    popped = record { rest = life.library.ends.head.told; is = rings.notices.pushed };
    heard = rings.after.head.popped;
    asked = record { rest = rings.after.head.told; is = rings.commands.pushed };
    kept = begins_itself rings.after.head.popped;
    answers = answers_met life.library.ends.head.popped life.library.ends.head.told rings.after.tail.pushed rings.after.head.popped rings.after.head.told life.library.ends.tail.pushed
        rings.notices.pushed rings.commands.pushed each_answered;
  }

-- one call more, behind which the replies are in order
replied_on : (k : Known) (calls : List Call) (call : Call) → HoldsThroughout AreReplies k calls → AreReplies (after_calls k (calls ++ call ∷ [])) → HoldsThroughout AreReplies k (calls ++ call ∷ [])
replied_on k [] call here then = (here, then)
replied_on k (c ∷ calls) call here then = (here.0, replied_on (after_call k c) calls call here.1 then)

-- the replies are in order as those are of the same notices and requests
same_replies : (old new : Known) → new.ends.head.popped ≡ old.ends.head.popped → new.asked ≡ old.asked → AreReplies new → AreReplies old
same_replies old new popped asked are = record {
  numbers = ap replies_in (sym popped) ∙ (are.numbers ∙ ap (λ ns. numbers_to (length (replies_in ns))) popped);
  asked = subst (λ n. length (replies_in old.ends.head.popped) ≤ n) asked (subst (λ ns. length (replies_in ns) ≤ new.asked) popped are.asked);
}

-- the requests of a library are numbered
pub requests_numbered : RequestsAreNumbered → (Keeps : Known → Call → List Kept → Type 0) (requests : ℕ) (life : Life) → HasLived Keeps requests life → AreNumbered life.library
requests_numbered law Keeps requests life lived =
    let k = new_library lived.first requests in
    subst AreNumbered (sym lived.known) (law k lived.made lived.lawful (record {
      numbers = ap numbers_in lived.unused.pushed;
      last = λ nr none. absurd (let impossible : None ≡ Some nr = none in cc);
    }))

abbrev meets_at : Caller → Call
meets_at caller = meets caller.library.ends

module _ (numbered : RequestsAreNumbered) (before : ℕ → List Entry) (start : ℕ → State) (laws : RunLaws before start) where
  met : (requests place : ℕ) (old new : Run) → Meets place old new → AreAnswered before new.engine.sessions → OfEach (IsAlmost requests old.engine.sessions place) old → HaveLived requests new
  met requests place old new is answered was =
      let one = is.caller in
      let meets = one.changes in
      let rings = meets.rings in
      let own = was place one.before one.found in
      let number : one.before.number ≡ place + 1 = own.number in
      let table : new.engine.sessions.desk.seat.table ≡ old.engine.sessions.desk.seat.table = ap (λ (v : EngineView). v.table) meets.seats.engine in
      let ends : new.engine.sessions.ends.items ≡ slice_set old.engine.sessions.ends.items place rings.after = rings.ends ∙ ap (λ k. slice_set old.engine.sessions.ends.items k rings.after) (place_is one.before.number place number) in
      each_behind (IsAlmost requests old.engine.sessions place) (OfRun requests new.engine.sessions) (MeetsCaller old.engine new.engine) place old new one
      (λ j caller other is. record {
        number = is.number;
        lived = is.lived;
        replied = is.replied other;
        seat = subst (λ (t : TableRef). length caller.library.ends.seat.knows.sessions ≤ t.shape.sessions) (sym table) is.seat;
        served = subst (λ all. IsServedAt all j (life_of caller)) (sym ends) (served_beside old.engine.sessions.ends.items place j rings.after (life_of caller) other (is.served other));
      })
      (λ is. record {
        number = ap (λ (c : Caller). c.number) meets.caller ∙ is.number;
        lived = meeting_lived requests old.engine new.engine one.before one.after meets is.seat is.lived;
        replied =
            let on = meeting_lived requests old.engine new.engine one.before one.after meets is.seat is.lived in
            let each = each_answered before place one.before.number old.engine.sessions new.engine.sessions _ _ (life_of one.after) rings number answered in
            let now : AreReplies one.after.library = replies_met one.after.library one.after.library.ends.head.told rings.after.tail.pushed rings.after.head.popped rings.after.head.told
            (requests_numbered numbered IsKeptAs requests (life_of one.after) on) rings.notices.pushed rings.commands.pushed each in
            let then : AreReplies one.before.library = same_replies one.before.library one.after.library (ap (λ head. head.popped) rings.notices.head) (ap (λ (c : Caller). c.library.asked) meets.caller) now in
            replied_on (new_library is.lived.first requests) is.lived.made (meets_at one.after) (is.pending then) (subst AreReplies on.known now);
        seat = (let shorter = seat_met old.engine.sessions.desk.seat new.engine.sessions.desk.seat one.before.library.ends.seat one.after.library.ends.seat meets.seats in
            subst (λ (t : TableRef). length one.after.library.ends.seat.knows.sessions ≤ t.shape.sessions) (sym table) (omega (arith, is.seat)));
        served = met_served before place one.before.number old.engine.sessions new.engine.sessions _ _ (life_of one.after) rings number answered;
      }) was

  called : (what : LibStep) (requests place : ℕ) (old new : Run) → CallsAt what place old new → HaveLived requests old → OfEach (IsAlmost requests new.engine.sessions place) new
  called what requests place old new is was =
      let one = is.caller in
      let calls = one.changes in
      let engine : new.engine ≡ old.engine = ap (λ (run : Run). run.engine) is.rest in
      let made = call_made what calls.call one.before.library one.after.library calls.makes in
      subst (λ (e : Engine). OfEach (IsAlmost requests e.sessions place) new) (sym engine)
      (each_behind (OfRun requests old.engine.sessions) (IsAlmost requests old.engine.sessions place) (CallsAs what) place old new one
      (λ j caller other is. record { number = is.number; lived = is.lived; replied = λ beside. is.replied; pending = λ now. is.replied; seat = is.seat; served = λ beside. is.served })
      (λ is. record {
        number = ap (λ (c : Caller). c.number) calls.rest ∙ is.number;
        lived = lived_on IsKeptAs requests (life_of one.before) (life_of one.after) made.made (calls.call ∷ []) made.after made.lawful made.kept calls.told made.keeps (λ s. one_seen one.after.library.ends.seat s calls.call (made.words s)) is.lived;
        replied = λ beside. absurd (beside refl);
        pending = λ now.
            let on = lived_on IsKeptAs requests (life_of one.before) (life_of one.after) made.made (calls.call ∷ []) made.after made.lawful made.kept calls.told made.keeps (λ s. one_seen one.after.library.ends.seat s calls.call (made.words s)) is.lived in
            replied_on (new_library is.lived.first requests) is.lived.made made.made is.replied (subst AreReplies on.known now);
        seat = subst (λ n. n ≤ old.engine.sessions.desk.seat.table.shape.sessions) (sym made.stays.sessions) is.seat;
        served = λ beside. absurd (beside refl);
      }) was)

  almost : (requests place : ℕ) (run : Run) → HaveLived requests run → OfEach (IsAlmost requests run.engine.sessions place) run
  almost requests place run was j caller found =
      let is = was j caller found in
      record { number = is.number; lived = is.lived; replied = λ beside. is.replied; pending = λ now. is.replied; seat = is.seat; served = λ beside. is.served }

  called_between : (what : LibStep) (requests place : ℕ) (old new : Run) (is : CallsBetween what place old new) → AreAnswered before is.met.engine.sessions → AreAnswered before new.engine.sessions → HaveLived requests old → HaveLived requests new
  called_between what requests place old new is answered answered_new was =
      met requests place is.called new is.meets_again answered_new (called what requests place is.met is.called is.calls (met requests place old is.met is.meets answered (almost requests place old was)))

  -- the engine and the libraries stay
  untouched : (requests : ℕ) (old new : Run) → new.engine ≡ old.engine → new.callers ≡ old.callers → HaveLived requests old → HaveLived requests new
  untouched requests old new engine callers was place caller found =
      subst (λ (e : Engine). IsLibraryOf requests e.sessions place (life_of caller)) (sym engine) (was place caller (subst (λ vec. slice_get vec.items place ≡ Some caller) callers found))

  turned : (requests : ℕ) (old new : Run) → TurnsOver old new → HaveLived requests old → HaveLived requests new
  turned requests old new is was place caller found =
      let sides = (made_turn laws.going old.clock.moment _ _ is.turn is.turns).sides in
      let there = was place caller (subst (λ (run : Run). slice_get run.callers.items place ≡ Some caller) is.rest found) in
      let served = there.served in
      let on = sides.each place served.side served.found in
      record {
        number = there.number;
        lived = there.lived;
        replied = there.replied;
        seat = subst (λ (t : TableRef). length caller.library.ends.seat.knows.sessions ≤ t.shape.sessions) (sym sides.table) there.seat;
        served = record {
          side = on.ends;
          found = on.found;
          popped = begins_further caller.library.ends.head.popped served.side.tail.pushed on.ends.tail.pushed served.popped on.pushed;
          heard = served.heard;
          asked = served.asked;
          kept = begins_further served.heard served.side.head.popped on.ends.head.popped served.kept on.popped;
          answers = served.answers;
        };
      }

  pub carried : (requests : ℕ) (what : Step) (old new : Run) → Carries what old new → IsAccountedRun before start old → HaveLived requests old → HaveLived requests new
  carried requests = each_step (λ old new. IsAccountedRun before start old → HaveLived requests old → HaveLived requests new)
      (λ old new is account. untouched requests old new is.engine is.callers)
      (λ old new is account was. turned requests (with_room old) new is (untouched requests old (with_room old) refl refl was))
      (λ what place old new is account.
      called_between what requests place old new is (account_met before start laws place old is.met is.meets account).engine.answered (account_called before start laws what place old new is account).engine.answered)

  pub carried_out : (requests : ℕ) (steps : List Step) (count : ℕ) (old new : Run) → CarriesOut steps count old new → IsAccountedRun before start old → HaveLived requests old → HaveLived requests new
  carried_out requests steps count old new is account was =
      (each_in_turn (CarriesAt steps) (λ (a b : Run). (IsAccountedRun before start a × HaveLived requests a) → (IsAccountedRun before start b × HaveLived requests b)) (λ run both. both) (λ a b c one two both. two (one both))
      (λ i a b at both. (account_carried before start laws at.what a b at.carries both.0, carried requests at.what a b at.carries both.0 both.1)) count old new is (account, was)).1

-- As a run begins its libraries did nothing, and were pushed nothing.
pub none_there : {X : Type 0} (n i : ℕ) (d : X) → slice_index_or (replicate n d) i d ≡ d
none_there zero i d = refl
none_there (suc n) zero d = refl
none_there (suc n) (suc i) d = none_there n i d

some_there : {X : Type 0} (xs : List X) (place : ℕ) → place < length xs → (x : X) × (slice_get xs place ≡ Some x)
some_there [] place small = absurd (omega arith)
some_there (x ∷ xs) zero small = (x, refl)
some_there (x ∷ xs) (suc place) small = some_there xs place (omega arith)

pub first_lived : (config : Config) (moment : ℕ) (shared : Shared) (run : Run) → StartsRun config moment shared run → HaveLived config.asks run
first_lived config moment shared run starts place caller found =
    let one = starts.callers.each place caller found in
    let engine = starts.engine in
    let shape = shared.leases.shape in
    let within : place < length run.callers.items = slice_get_within run.callers.items place caller found in
    let side = some_there run.engine.sessions.ends.items place (omega (arith, starts.callers.count, engine.table.rings.commands, engine.ends.count)) in
    let popped : caller.library.ends.head.popped ≡ [] = ap (λ head. head.popped) one.head in
    record {
      number = one.is.number;
      lived = record {
        first = caller.library.ends;
        unused = record {
          sessions = λ s. ap (λ (v : LibraryView). library_at v s) one.seat ∙ none_there shape.sessions s no_library_session;
          pushed = ap (λ tail. tail.pushed) one.tail;
          popped = popped;
        };
        made = [];
        lawful = tt;
        known = one.library;
        kept = one.calls;
        rising = λ s. subst (λ (known : LibrarySession). AreRising known.leases) (sym (ap (λ (v : LibraryView). library_at v s) one.seat ∙ none_there shape.sessions s no_library_session)) tt;
        words = λ s. subst (λ all. AreKnown caller.library.ends.seat s (words_kept s all)) (sym one.calls) (none_known caller.library.ends.seat s);
      };
      replied = record {
        numbers = ap replies_in popped ∙ sym (ap (λ ns. numbers_to (length (replies_in ns))) popped);
        asked = subst (λ ns. length (replies_in ns) ≤ 0) (sym popped) (omega arith);
      };
      seat =
          let count : length caller.library.ends.seat.knows.sessions ≡ shape.sessions = ap (λ (v : LibraryView). length v.knows.sessions) one.seat ∙ length-replicate shape.sessions no_library_session in
          let table : run.engine.sessions.desk.seat.table.shape.sessions ≡ shape.sessions = ap (λ (v : EngineView). v.table.shape.sessions) engine.desk.seat in
          omega arith;
      served = record {
        side = side.0;
        found = side.1;
        popped = record { rest = side.0.tail.pushed; is = ap (λ front. front ++ side.0.tail.pushed) popped };
        heard = [];
        asked = record { rest = caller.library.ends.tail.pushed; is = refl };
        kept = record { rest = side.0.head.popped; is = refl };
        answers = record { rest = flat_map asked_by caller.library.ends.tail.pushed; is = ap (λ ns. flat_map answered_by ns ++ flat_map asked_by caller.library.ends.tail.pushed) popped };
      };
    }

-- A library's life, whoever makes its calls.
pub lives : (requests : ℕ) (life : Life) → AreUnused life.library.ends → life.library ≡ new_library life.library.ends requests → life.calls ≡ [] → HasLived IsReportedAs requests life
lives requests life unused is none = record {
  first = life.library.ends;
  unused = unused;
  made = [];
  lawful = tt;
  known = is;
  kept = none;
  rising = λ s. subst (λ (known : LibrarySession). AreRising known.leases) (sym (unused.sessions s)) tt;
  words = λ s. subst (λ all. AreKnown life.library.ends.seat s (words_kept s all)) (sym none) (none_known life.library.ends.seat s);
}

pub reported : (requests : ℕ) (what : LibStep) (call : Kept) (old new : Life) → MakesCall what call old.library new.library → new.calls ≡ old.calls ++ call ∷ [] → HasLived IsReportedAs requests old → HasLived IsReportedAs requests new
reported requests what call old new makes calls was =
    let made = call_made what call old.library new.library makes in
    lived_on IsReportedAs requests old new made.made (call ∷ []) made.after made.lawful (inl made.kept) calls made.keeps (λ s. one_seen new.library.ends.seat s call (made.words s)) was

-- what isn't kept
none_more : (old new : Life) → new.calls ≡ old.calls → new.calls ≡ old.calls ++ []
none_more old new same = same ∙ sym (append-nil old.calls)

pub waited : (requests : ℕ) (what : LibStep) (call : Kept) (old new : Life) → MakesCall what call old.library new.library → IsInVain call → new.calls ≡ old.calls → HasLived IsReportedAs requests old → HasLived IsReportedAs requests new
waited requests what call old new makes vain same was =
    let made = call_made what call old.library new.library makes in
    lived_on IsReportedAs requests old new made.made [] made.after made.lawful (inr (inl (record { one = call; is = made.kept; vain = vain; none = refl }))) (none_more old new same) made.keeps (none_seen new) was

done_keeps : (k : Known) (command : Command) (taken : ℕ) (answer : Result (Unit {0}) (Full Command)) → SeatKeeps k.ends.seat (after_done k command taken answer).ends.seat
done_keeps k command taken (Ok unit) = seat_itself k.ends.seat
done_keeps k command taken (Err full) = seat_itself k.ends.seat

pub told_end : (requests : ℕ) (finished : Bool) (taken : ℕ) (answer : Result (Unit {0}) (Full Command)) (old new : Life) → new.library ≡ after_done old.library (commands.Done finished) taken answer → new.calls ≡ old.calls
    → HasLived IsReportedAs requests old → HasLived IsReportedAs requests new
told_end requests finished taken answer old new is same was =
    lived_on IsReportedAs requests old new (is_done finished taken answer) [] is tt (inr (inr (record { finished = finished; taken = taken; answer = answer; is = refl; none = refl }))) (none_more old new same)
    (subst (λ (k : Known). SeatKeeps old.library.ends.seat k.ends.seat) (sym is) (done_keeps old.library (commands.Done finished) taken answer)) (none_seen new) was

pub met_lived : (requests number : ℕ) (engine_old engine_new : LibraryDesk) (old new : Life) → DesksMeet number engine_old engine_new old.library.ends new.library.ends
    → length old.library.ends.seat.knows.sessions ≤ engine_old.desk.seat.table.shape.sessions → new.library ≡ record (old.library) { ends = new.library.ends } → new.calls ≡ old.calls
    → HasLived IsReportedAs requests old → HasLived IsReportedAs requests new
met_lived requests number engine_old engine_new old new is within library same was =
    lived_on IsReportedAs requests old new (meets new.library.ends) [] library (has_met number engine_old engine_new old.library.ends new.library.ends is.seats is.rings within) (inl refl) (none_more old new same)
    (has_kept number engine_old engine_new old.library.ends new.library.ends is.seats is.rings within) (none_seen new) was

pub met_beside : (place j number : ℕ) (engine_old engine_new : LibraryDesk) (tail_old tail_new : TailView Command) (head_old head_new : HeadView Notice) (life : Life) → j ≢ place
    → RingsMeet number engine_old engine_new tail_old tail_new head_old head_new → number ≡ place + 1 → IsServedAt engine_old.ends.items j life → IsServedAt engine_new.ends.items j life
met_beside place j number engine_old engine_new tail_old tail_new head_old head_new life other rings number_is was =
    let ends : engine_new.ends.items ≡ slice_set engine_old.ends.items place rings.after = rings.ends ∙ ap (λ k. slice_set engine_old.ends.items k rings.after) (place_is number place number_is) in
    subst (λ all. IsServedAt all j life) (sym ends) (served_beside engine_old.ends.items place j rings.after life other was)
