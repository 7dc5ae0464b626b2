-- What the reports of libraries say is borne out by the record.
use Rattle.std.proofs.Common.{◌≡◌, inl, inr, ℕ, zero, suc, ◌+◌, ◌-◌, ◌<◌, ◌≤◌, Bool, true, false, List, [], ◌∷◌, ◌++◌, get_or, length, map, Some, Ok, Err, refl, sym, ap, subst, ◌∙◌, arith}
use Rattle.std.proofs.lemmas.Bool.{cases_lt, eq-eqb, leb-true}
use Rattle.std.proofs.lemmas.Grind.{flat_map-append}
use Rattle.std.proofs.lemmas.List.{length-append, length-map}
use Rattle.std.proofs.lemmas.List.Elements.{All-append, All-cons, All-contains, All-contains_itself, All-nil, All-weaker, Contains-append_left, Contains-append_right}
use Rattle.std.proofs.lemmas.Option.{none-some}
use Rattle.std.specs.List.{All, Contains, flat_map, slice_get}
use Rattle.std.specs.Prelude.{if◌then◌else◌, nat_le}
use Rattle.engine_config.specs.declared.config.Config.{Config}
use Rattle.engine_end.specs.Records.{SessionLeft, left_of}
use Rattle.engine_loop.specs.declared.engine.Engine.{Engine}
use Rattle.gate_io.specs.Wire.{Link}
use Rattle.headline.proofs.Deeds.{told_as_called}
use Rattle.headline.proofs.Found.{session_count, session_found, session_there}
use Rattle.headline.proofs.Lists.{past_end, there_is}
use Rattle.headline.proofs.Within.{lies_in}
use Rattle.headline.specs.Headline.{EachLibrary, EachSession, GivesBack, HasSession, IsLawfulRun, IsRepliedTo, IsReplyTold, IsSent, IsStray, IsTold, ReadsPrefixes, sends_of, sessions_of}
use Rattle.headline.specs.Within.{IsWithinHolding}
use Rattle.lease_core.specs.Lines.{IsShown, lines_of}
use Rattle.lease_core.specs.declared.entry.Entry.{Entry}
use Rattle.lease_core.specs.declared.entry.Why.TheVariants.{UnknownSession}
use Rattle.lease_core.specs.declared.messages.Notice.{Notice}
use Rattle.lease_core.specs.declared.messages.Notice.TheVariants as notices
use Rattle.lease_words.specs.Views.{LibraryView}
use Rattle.library_api.specs.Calls.{numbers_to, popped_of}
use Rattle.library_api.specs.Known.{Known, new_library, reading_count}
use Rattle.library_api.specs.Reads.{notices_of}
use Rattle.library_api.specs.Replies.{replies_in}
use Rattle.library_api.specs.declared.event.Event.{Event}
use Rattle.library_api.specs.declared.event.Event.TheVariants as events
use Rattle.library_desk.specs.declared.desk.LibraryDesk.{LibraryDesk}
use Rattle.library_desk.specs.declared.desk.Stray.{Stray}
use Rattle.engine_laws.specs.libraries.Replies.{Ask, IsAnswered, answered_by, replies_told, reply_of, stray_reply, stray_told}
use Rattle.engine_laws.specs.libraries.Sends.{logged_bodies}
use Rattle.engine_laws.specs.libraries.Spans.{LiesWithin}
use Rattle.headline.specs.runs.Accounted.{LeavesAccounted, first_machines, no_entries}
use Rattle.headline.specs.runs.Deeds.{deeds_in_lines, deeds_kept, words_kept}
use Rattle.headline.specs.runs.Lives.{HasLived, IsReportedAs, Life}
use Rattle.headline.specs.runs.Reports.{AreFromGrant, GivesBack as GivesBackOn, HandsOn, IsBorneOut, IsGivenBack, IsReported, IsTold as IsToldOn, OnNotice, asks_kept, positions_kept, posts_kept}
use Rattle.headline.specs.runs.Sides.{Begins}
use Rattle.headline.specs.Needed.{LibraryLaws}
use Rattle.run_report.specs.declared.calls.Call.{Call as Kept}
use Rattle.run_report.specs.declared.calls.Call.TheVariants as calls
use Rattle.run_report.specs.declared.records.LibReport.{LibReport}
use Rattle.run_report.specs.declared.records.RunRecord.{RunRecord}
use Rattle.session_book.specs.Sends.{HasSend, sent_at}
use Rattle.session_book.specs.Spells.{placed_from}
use Rattle.lease_core.specs.State.{state_of}
use Rattle.switchboard.specs.Board.{Board, book_at, no_session, session_at}
use Rattle.session_book.specs.Kept.{Kept as KeptSession}

-- what follows from a fact of each notice that is handed on
on_notice : (P Q : Notice → Type 0) → ((n : Notice) → P n → Q n) → (event : Event) → OnNotice P event → OnNotice Q event
on_notice P Q gives (events.Granted nr s lease from start) is = gives (notices.Granted nr s lease from start) is
on_notice P Q gives (events.Refused nr s why) is = gives (notices.Refused nr s why) is
on_notice P Q gives (events.Message s lease pos bytes) is = gives (notices.Message s lease pos bytes) is
on_notice P Q gives events.Nothing is = tt
on_notice P Q gives (events.NotYet s pos published) is = tt
on_notice P Q gives (events.Stale s lease pos) is = tt
on_notice P Q gives (events.LeaseLost s lease seen) is = tt

handed_on : (P Q : Notice → Type 0) → ((n : Notice) → P n → Q n) → (call : Kept) → HandsOn P call → HandsOn Q call
handed_on P Q gives (calls.Poll event) is = on_notice P Q gives event is
handed_on P Q gives (calls.Send t body answer) is = tt
handed_on P Q gives (calls.Request t from answer) is = tt
handed_on P Q gives (calls.Release t answer) is = tt
handed_on P Q gives (calls.Hand t heir answer) is = tt
handed_on P Q gives calls.Beat is = tt

numbers_count : (n : ℕ) → length (numbers_to n) ≡ n
numbers_count zero = refl
numbers_count (suc n) = length-append (numbers_to n) (suc n ∷ []) ∙ ap (λ k. k + 1) (numbers_count n) ∙ omega arith

-- as many replies as requests that are answered
as_many_replies : (ns : List Notice) → length (replies_in ns) ≡ length (flat_map answered_by ns)
as_many_replies [] = refl
as_many_replies (notices.Granted nr s lease from start ∷ ns) = ap suc (as_many_replies ns)
as_many_replies (notices.Refused nr s why ∷ ns) = ap suc (as_many_replies ns)
as_many_replies (notices.Message s lease pos bytes ∷ ns) = as_many_replies ns

-- a reply of none of so many sessions
abbrev IsFar : ℕ → Notice → Type 0
IsFar count (notices.Granted nr s lease from start) = count ≤ s
IsFar count (notices.Refused nr s why) = count ≤ s
IsFar count (notices.Message s lease pos bytes) = Unit {0}

chosen_far : (count s : ℕ) (n : Notice) → (count ≤ s → IsFar count n) → (b : Bool) → nat_le count s ≡ b → All (IsFar count) (if b then n ∷ [] else [])
chosen_far count s n far true is = All-cons (IsFar count) n [] (far (leb-true count s is)) (All-nil (IsFar count))
chosen_far count s n far false is = All-nil (IsFar count)

one_far : (count : ℕ) (n : Notice) → All (IsFar count) (stray_reply count n)
one_far count (notices.Granted nr s lease from start) = chosen_far count s (notices.Granted nr s lease from start) (λ far. far) (nat_le count s) refl
one_far count (notices.Refused nr s why) = chosen_far count s (notices.Refused nr s why) (λ far. far) (nat_le count s) refl
one_far count (notices.Message s lease pos bytes) = All-nil (IsFar count)

all_far : (count : ℕ) (ns : List Notice) → All (IsFar count) (flat_map (stray_reply count) ns)
all_far count [] = All-nil (IsFar count)
all_far count (n ∷ ns) = All-append (IsFar count) (stray_reply count n) (flat_map (stray_reply count) ns) (one_far count n) (all_far count ns)

-- what an item of a list tells is among what all tell
among : {A B : Type 0} (f : A → List B) (xs : List A) (x : A) (y : B) → f x ≡ y ∷ [] → Contains xs x → Contains (flat_map f xs) y
among f [] x y one has = absurd (let none = has.1 in omega arith)
among {A} {B} f (z ∷ zs) x y one (zero, within, is) =
    Contains-append_left (f z) (flat_map f zs) y (subst (λ (ys : List B). Contains ys y) (sym (ap f is ∙ one)) (0, omega arith, refl))
among f (z ∷ zs) x y one (suc n, within, is) = Contains-append_right (f z) (flat_map f zs) y (among f zs x y one (n, omega arith, is))

-- as a run begins no journal has a line
no_lines : lines_of [] ≡ []
unfolding state_of
no_lines = refl

-- what is reported of each library of a record is what it did, and is borne out
abbrev pub AllReported : ℕ → Board → LibraryDesk → RunRecord → Type 0
AllReported requests board d left = (place : ℕ) (report : LibReport) → slice_get left.libraries place ≡ Some report → IsReported requests no_entries board d place report

module _ (config : Config) (engine : Engine) (links : ℕ → Link) (seats : List LibraryView) (reports : List LibReport) (left : RunRecord) (leaves : LeavesAccounted no_entries (first_machines config) engine links seats reports left)
    (reported : AllReported config.asks leaves.gathered.board engine.sessions left) (few : length leaves.gathered.board.sessions ≤ reading_count) (laws : LibraryLaws) where
  abbrev board : Board
  board = leaves.gathered.board

  abbrev strays : List Stray
  strays = engine.sessions.strays.items

  found : (s : ℕ) (session : SessionLeft) → HasSession left s session → (s < length board.sessions) × (session ≡ left_of (session_at board s))
  found s session has = (let one = session_found board strays engine.accepted left.engine.added left leaves.leaves s session has in (one.within, one.is))

  there : (s : ℕ) → s < length board.sessions → HasSession left s (left_of (session_at board s))
  there s within = session_there board strays engine.accepted left.engine.added left leaves.leaves s within

  count_is : length left.engine.sessions ≡ length board.sessions
  count_is = session_count board strays engine.accepted left.engine.added left leaves.leaves

  -- what is told by the board is told by the record
  reply_told : (library s : ℕ) (reply : Notice) → (s < length board.sessions → Contains (replies_told library s (book_at board s).entries) reply)
      → (length board.sessions ≤ s → Contains (flat_map (stray_told library) strays) reply) → IsReplyTold left library s reply
  reply_told library s reply journal stray = record {
    journal = λ session has. (let one = found s session has in subst (λ (x : SessionLeft). Contains (replies_told library s x.entries) reply) (sym one.1) (journal one.0));
    stray = λ past. subst (λ all. Contains (flat_map (stray_told library) all) reply) (sym leaves.leaves.strays_are) (stray (let count = count_is in omega arith));
  }

  none_past : (s pos : ℕ) (bytes : List ℕ) → length board.sessions ≤ s → slice_get (book_at board s).inbound pos ≡ Some bytes → ⊥
  none_past s pos bytes past is =
      let none : (book_at board s).inbound ≡ [] = ap (λ (session : KeptSession). session.book.inbound) (past_end board.sessions s no_session past) in
      none-some bytes (ap (λ (log : List (List ℕ)). slice_get log pos) (sym none) ∙ is)

  told_in : (library : ℕ) (n : Notice) → IsToldOn board strays library n → IsTold left library n
  told_in library (notices.Granted nr s lease from start) is = reply_told library s (notices.Granted nr s lease from start) is.0 is.1
  told_in library (notices.Refused nr s why) is = reply_told library s (notices.Refused nr s why) is.0 is.1
  told_in library (notices.Message s lease pos bytes) is = elim (cases_lt s (length board.sessions)) [
    | inl small ↦ (left_of (session_at board s), (there s small, is))
    | inr past ↦ absurd (none_past s pos bytes past is)
  ]

  reads_prefixes : EachSession left (λ s session. IsLawfulRun session) → (report : LibReport) → IsBorneOut no_entries board strays report → ReadsPrefixes left report
  reads_prefixes runs report borne = record {
    reads = λ s session has lease some.
        let one = found s session has in
        let small = one.0 in
        let here = borne.reads s lease some (omega arith) one.0 in
        elim here [
          | inl none ↦ inl none
          | inr grant ↦ inr (subst (λ (x : SessionLeft). AreFromGrant (replies_told report.number s x.entries) s lease (positions_kept s lease report.calls)) (sym one.1) grant)
        ];
    told = All-weaker (HandsOn (IsToldOn board strays report.number)) (HandsOn (IsTold left report.number))
        (λ call is. handed_on (IsToldOn board strays report.number) (IsTold left report.number) (told_in report.number) call is) report.calls borne.told;
    within = All-weaker (HandsOn (LiesWithin board report.number)) (HandsOn (IsWithinHolding (sessions_of left) report.number))
        (λ call is. handed_on (LiesWithin board report.number) (IsWithinHolding (sessions_of left) report.number)
        (lies_in board strays engine.accepted left.engine.added left leaves.leaves runs report.number) call is) report.calls borne.within;
  }

  given_back : (library : ℕ) (call : Kept) → GivesBackOn board library call → GivesBack left library call
  given_back library (calls.Release s (Ok released)) is = λ session has.
      (let one = found s session has in subst (λ (x : SessionLeft). IsGivenBack (lines_of x.entries) library released.lease released.count 0) (sym one.1) (is one.0))
  given_back library (calls.Hand s heir (Ok released)) is = λ session has.
      (let one = found s session has in subst (λ (x : SessionLeft). IsGivenBack (lines_of x.entries) library released.lease released.count heir) (sym one.1) (is one.0))
  given_back library (calls.Release s (Err why)) is = tt
  given_back library (calls.Hand s heir (Err why)) is = tt
  given_back library (calls.Poll event) is = tt
  given_back library (calls.Send s body answer) is = tt
  given_back library (calls.Request s from answer) is = tt
  given_back library calls.Beat is = tt

  bodies_sent : (report : LibReport) → IsBorneOut no_entries board strays report → EachSession left (λ s session. logged_bodies (sends_of report.number session) ≡ map (λ post. post.body) (posts_kept s report.calls))
  bodies_sent report borne s session has =
      let one = found s session has in
      let posts = borne.sends s one.0 in
      let sent = posts.sends_are in
      subst (λ (x : SessionLeft). logged_bodies (sends_of report.number x) ≡ map (λ post. post.body) (posts_kept s report.calls)) (sym one.1)
      (ap (λ (es : List Entry). logged_bodies (flat_map (sent_at report.number (book_at board s).outbound) (placed_from (state_of []) es))) sent.entries_are ∙ ap logged_bodies sent.sends_are ∙ posts.bodies)

  all_sent : EachSession left (λ s session. IsLawfulRun session) → (report : LibReport) → IsBorneOut no_entries board strays report → IsSent left report
  all_sent lawful report borne = record {
    logged = λ s session has.
        let one = found s session has in
        let posts = borne.sends s one.0 in
        let sent = posts.sends_are in
        subst (λ (x : SessionLeft). All (HasSend x.outbound) (placed_from (state_of []) x.entries)) (sym one.1)
        (subst (λ (es : List Entry). All (HasSend (book_at board s).outbound) (placed_from (state_of []) es)) (sym sent.entries_are) sent.logged);
    bodies = bodies_sent report borne;
    given_back = All-weaker (GivesBackOn board report.number) (GivesBack left report.number) (given_back report.number) report.calls borne.given_back;
    deeds = λ s session has.
        let one = found s session has in
        told_as_called laws.lines_tell report.number s session report.calls (lawful s session has).run
        (subst (λ (x : SessionLeft). deeds_in_lines report.number (lines_of x.entries) ≡ deeds_kept s report.calls) (sym one.1) (borne.deeds s one.0 no_lines)) (bodies_sent report borne s session has);
    lost = λ s session has.
        let one = found s session has in
        subst (λ (x : SessionLeft). All (IsShown (lines_of x.entries)) (words_kept s report.calls)) (sym one.1) (borne.words s one.0);
  }

  -- what a library popped
  popped_is : (life : Life) (one : HasLived IsReportedAs config.asks life) → notices_of (new_library one.first config.asks) one.made ≡ life.library.ends.head.popped
  popped_is life one =
      let k = new_library one.first config.asks in
      sym (ap (λ (now : Known). now.ends.head.popped) one.known ∙ (laws.pops k one.made one.lawful ∙ ap (λ popped. popped ++ popped_of k one.made) one.unused.popped))

  side_at : (place : ℕ) (report : LibReport) (of : IsReported config.asks no_entries board engine.sessions place report) → IsAnswered no_entries board strays (place + 1) of.is.served.side
  side_at place report of =
      leaves.accounted.answered (place + 1) of.is.served.side (omega arith) (subst (λ j. slice_get engine.sessions.ends.items j ≡ Some of.is.served.side) (omega arith) of.is.served.found)

  life_replied : (place : ℕ) (report : LibReport) (of : IsReported config.asks no_entries board engine.sessions place report) → IsRepliedTo left report
  life_replied place report of =
      let life = of.life in
      let end = of.replied in
      let served = of.is.served in
      let popped = life.library.ends.head.popped in
      let asks = asks_kept life.calls in
      let asked : life.library.asked ≡ length asks =
      sym (numbers_count life.library.asked) ∙ ap length (sym end.numbers) ∙ length-map asks (λ (ask : Ask). ask.nr) in
      let number : report.number ≡ place + 1 = of.number ∙ of.is.number in
      let answered : IsAnswered no_entries board strays report.number served.side = subst (λ n. IsAnswered no_entries board strays n served.side) (sym number) (side_at place report of) in
      let replies = as_many_replies popped in
      let count = count_is in
      let most = end.few in
      record {
        heard = popped;
        handed_on = subst (λ calls. All (HandsOn (Contains popped)) calls) (sym of.calls) (subst (λ (ns : List Notice). All (HandsOn (Contains ns)) life.calls) (popped_is life of.is.lived)
            (laws.handed (new_library of.is.lived.first config.asks) of.is.lived.made life.calls of.is.lived.kept));
        numbers = subst (λ calls. map (λ (ask : Ask). ask.nr) (asks_kept calls) ≡ numbers_to (length (asks_kept calls))) (sym of.calls) (end.numbers ∙ ap numbers_to asked);
        answers = subst (λ calls. Begins (flat_map answered_by popped) (asks_kept calls)) (sym of.calls) end.answers;
        at_most_one_open = subst (λ calls. length (asks_kept calls) ≤ length (flat_map answered_by popped) + 1) (sym of.calls) (omega arith);
        replies = λ s session has.
            let here = found s session has in
            let told = end.replies s here.0 in
            subst (λ (x : SessionLeft). Begins (flat_map (reply_of s) popped) (replies_told report.number s x.entries)) (sym here.1)
            (subst (λ n. Begins (flat_map (reply_of s) popped) (replies_told n s (book_at board s).entries)) (sym of.number) (record { rest = told.rest; is = sym told.are }));
        strays = record {
          rest = flat_map (stray_reply (length left.engine.sessions)) served.popped.rest;
          is = sym (flat_map-append (stray_reply (length left.engine.sessions)) popped served.popped.rest) ∙ ap (flat_map (stray_reply (length left.engine.sessions))) served.popped.is
              ∙ ap (λ n. flat_map (stray_reply n) served.side.tail.pushed) count ∙ sym answered.strays_are ∙ ap (flat_map (stray_told report.number)) (sym leaves.leaves.strays_are);
        };
      }

  -- each library of the record
  each : (P : LibReport → Type 0) → ((place : ℕ) (report : LibReport) → IsReported config.asks no_entries board engine.sessions place report → P report) → EachLibrary left P
  each P holds place report at = (let of = reported place report at in (of.number ∙ of.is.number, holds place report of))

  pub prefix_reads : EachSession left (λ s session. IsLawfulRun session) → EachLibrary left (λ report. ReadsPrefixes left report)
  prefix_reads runs = each (ReadsPrefixes left) (λ place report of. reads_prefixes runs report of.borne_out)

  pub every_send : EachSession left (λ s session. IsLawfulRun session) → EachLibrary left (λ report. IsSent left report)
  every_send lawful = each (IsSent left) (λ place report of. all_sent lawful report of.borne_out)

  pub every_reply : EachLibrary left (λ report. IsRepliedTo left report)
  every_reply = each (IsRepliedTo left) life_replied

  -- a stray of one of the libraries
  one_stray : (stray : Stray) → Contains left.engine.strays stray → IsStray left stray
  one_stray stray has = record {
    unknown = λ from to.
        let there = there_is left.libraries (stray.library - 1) (omega arith) in
        let of = reported (stray.library - 1) there.0 there.1 in
        let side = of.is.served.side in
        let answered : IsAnswered no_entries board strays stray.library side =
        subst (λ n. IsAnswered no_entries board strays n side) (omega arith) (side_at (stray.library - 1) there.0 of) in
        let refusal = notices.Refused stray.nr stray.s (UnknownSession stray.s) in
        let tells : stray_told stray.library stray ≡ refusal ∷ [] = ap (λ (b : Bool). if b then refusal ∷ [] else []) (eq-eqb stray.library stray.library refl) in
        let told : Contains (flat_map (stray_told stray.library) left.engine.strays) refusal = among (stray_told stray.library) left.engine.strays stray refusal tells has in
        let replied_so : Contains (flat_map (stray_reply (length board.sessions)) side.tail.pushed) refusal =
        subst (λ (ns : List Notice). Contains ns refusal) (ap (flat_map (stray_told stray.library)) leaves.leaves.strays_are ∙ answered.strays_are) told in
        let far : length board.sessions ≤ stray.s = All-contains (IsFar (length board.sessions)) (flat_map (stray_reply (length board.sessions)) side.tail.pushed) refusal (all_far (length board.sessions) side.tail.pushed) replied_so in
        let count = count_is in
        omega arith;
  }

  pub strays_are : All (IsStray left) left.engine.strays
  strays_are i d within = one_stray (get_or left.engine.strays i d) (All-contains_itself left.engine.strays i d within)
