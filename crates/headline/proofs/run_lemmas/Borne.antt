-- The sessions' logs at the end of a run bear out what a library's kept calls say.
use Rattle.std.proofs.Common.{◌≡◌, ◌≢◌, ◌⊎◌, inl, inr, ℕ, zero, suc, ◌+◌, ◌-◌, ◌<◌, ◌≤◌, Bool, true, false, List, [], ◌∷◌, ◌++◌, get_or, length, map, None, Some, Ok, Err, refl, ap, subst, sym, ◌∙◌, arith}
use Rattle.std.proofs.lemmas.Bool.{eq-eqb, le-leb}
use Rattle.std.proofs.lemmas.Grind.{flat_map-append}
use Rattle.std.proofs.lemmas.List.{length-replicate}
use Rattle.std.proofs.lemmas.List.Elements.{All-cons, All-contains, All-contains_itself, All-head, All-nil, All-tail, Contains-append_left, Contains-append_right}
use Rattle.std.proofs.lemmas.Option.{same_Some}
use Rattle.std.specs.List.{All, Contains, flat_map}
use Rattle.std.specs.Prelude.{nat_le, ◌==◌, if◌then◌else◌, slice_get}
use Rattle.engine_loop.specs.declared.engine.Engine.{Engine}
use Rattle.gate_io.specs.MemWire.{link_at}
use Rattle.gate_io.specs.Wire.{Link}
use Rattle.lease_core.specs.Lines.{IsShown, lines_of}
use Rattle.lease_core.specs.declared.entry.Entry.{Entry}
use Rattle.lease_core.specs.declared.lease.Line.{Line}
use Rattle.lease_core.specs.declared.messages.Notice.{Notice}
use Rattle.lease_core.specs.declared.messages.Notice.TheVariants as notices
use Rattle.lease_desk.specs.Desk.{bodies_of}
use Rattle.lease_words.specs.Leases.{Each, OthersRest, Stands, held_lease}
use Rattle.lease_words.specs.Views.{LibraryView, library_at}
use Rattle.lease_words.specs.declared.item.Item.{Item}
use Rattle.lease_words.specs.declared.view.LibrarySession.{LibrarySession}
use Rattle.library_api.specs.Calls.{Call, after_call, deeds_by, deeds_of, did_give, popped_of}
use Rattle.library_api.specs.Known.{Known, held, lease_in, new_library, no_reading, reading_at, reading_count, session_at}
use Rattle.library_api.specs.Laws.{BeginningsAreInOrder, DeedsAreAnswered, PollsPop, PostsAreSent, ReadsHaveNoGap, RepliesCloseRequests}
use Rattle.library_api.specs.Posts.{posts_by, posts_of}
use Rattle.library_api.specs.Reads.{AreInOrder, granted_from, numbers_from, reads_of}
use Rattle.library_api.specs.Replies.{AreReplies, HoldsThroughout, IsRepliedTo, replies_in}
use Rattle.library_desk.specs.declared.desk.Stray.{Stray}
use Rattle.library_desk.specs.declared.ends.EngineEnds.{EngineEnds}
use Rattle.engine_laws.specs.libraries.Feeds.{IsFed, IsLogged}
use Rattle.engine_laws.specs.libraries.Replies.{Ask, IsAnswered, answered_by, asked_by, replies_told, reply_of, stray_reply}
use Rattle.engine_laws.specs.libraries.Sends.{AreLogged}
use Rattle.engine_laws.specs.libraries.Spans.{LiesWithin}
use Rattle.headline.specs.runs.Accounted.{AreNumbered, LeasesStand, LeavesAccounted, RunLeavesAccounted}
use Rattle.headline.specs.runs.Deeds.{deeds_in_lines, deeds_kept, words_kept}
use Rattle.headline.specs.runs.Lives.{AreKept, HasLived, HaveLived, IsKeptAs, IsLifeAt, IsReportedAs, Life, life_of}
use Rattle.script_run.specs.declared.callers.Caller.{Caller}
use Rattle.script_run.specs.declared.run.Run.{Run}
use Rattle.headline.specs.runs.Records.{AllAreReplied}
use Rattle.headline.specs.runs.Reports.{AreFromGrant, ArePostsLogged, AreRepliesTold, GivesBack, HandsOn, IsBorneOut, IsRepliedAtEnd, IsReplyTold, IsReported, IsTold, asks_kept, positions_kept, posts_kept}
use Rattle.headline.specs.runs.Sides.{Begins}
use Rattle.headline.proofs.run_lemmas.Asked.{calls_ask}
use Rattle.headline.proofs.run_lemmas.Deeds.{all_shown, deeds_told, lines_tell}
use Rattle.headline.proofs.run_lemmas.Given.{DidBy, OnGiven, calls_gave, gave_so}
use Rattle.headline.proofs.run_lemmas.Grants.{IsBeside, first_grant, none_given}
use Rattle.headline.proofs.run_lemmas.Lived.{none_there, requests_numbered}
use Rattle.headline.proofs.run_lemmas.Numbers.{numbers_asked}
use Rattle.headline.proofs.run_lemmas.Open.{at_most_one_open}
use Rattle.headline.proofs.run_lemmas.Told.{calls_given, positions_told, posts_told}
use Rattle.headline.specs.Needed.{ApiLaws}
use Rattle.run_report.specs.declared.calls.Call.{Call as Kept}
use Rattle.run_report.specs.declared.calls.Call.TheVariants as calls
use Rattle.run_report.specs.declared.records.LibReport.{LibReport}
use Rattle.run_report.specs.declared.records.RunRecord.{RunRecord}
use Rattle.script_run.specs.Means.{report_of, seat_of}
use Rattle.session_book.specs.Book.{Book}
use Rattle.session_core.specs.State.{State}
use Rattle.switchboard.specs.Board.{Board, book_at}

-- the library at a place has its seat among the seats
seat_there : (callers : List Caller) (place : ℕ) (caller : Caller) → slice_get callers place ≡ Some caller → Contains (map seat_of callers) (seat_of caller)
seat_there [] place caller found = absurd cc
seat_there (c ∷ callers) zero caller found = (0, omega arith, ap seat_of (same_Some c caller found))
seat_there (c ∷ callers) (suc place) caller found = (let there = seat_there callers place caller found in (suc there.0, omega arith, there.2))

-- a report of the libraries is that of one of them
mapped_at : {A B : Type 0} (f : A → B) (xs : List A) (place : ℕ) (y : B) → slice_get (map f xs) place ≡ Some y → (x : A) × ((slice_get xs place ≡ Some x) × (f x ≡ y))
mapped_at f [] place y found = absurd cc
mapped_at f (x ∷ xs) zero y found = (x, (refl, same_Some (f x) y found))
mapped_at f (x ∷ xs) (suc place) y found = mapped_at f xs place y found

bodies_posted : (items : List Item) → bodies_of items ≡ map (λ post. post.body) (posts_by items)
bodies_posted [] = refl
bodies_posted (item ∷ items) = ap (λ bodies. item.body ∷ bodies) (bodies_posted items)

-- what holds of each library's report holds of all
all_reported : (P : LibReport → Type 0) (callers : List Caller) → ((place : ℕ) (caller : Caller) → slice_get callers place ≡ Some caller → P (report_of caller)) → All P (map report_of callers)
all_reported P [] each = All-nil P
all_reported P (caller ∷ callers) each = All-cons P (report_of caller) (map report_of callers) (each 0 caller refl) (all_reported P callers (λ place. each (suc place)))

-- what holds of all holds of what begins them
of_front : {T : Type 0} (P : T → Type 0) (xs ys : List T) → All P (xs ++ ys) → All P xs
of_front P [] ys each = All-nil P
of_front P (x ∷ xs) ys each = All-cons P x xs (All-head P x (xs ++ ys) each) (of_front P xs ys (All-tail P x (xs ++ ys) each))

of_begun : {T : Type 0} (P : T → Type 0) (first rest all : List T) → first ++ rest ≡ all → All P all → All P first
of_begun P first rest all is holding = of_front P first rest (subst (All P) (sym is) holding)

module _ (polls_pop : PollsPop) (closed : RepliesCloseRequests) (deeds_are_answered : DeedsAreAnswered) (posts_are_sent : PostsAreSent) (no_gap : ReadsHaveNoGap) (beginnings : BeginningsAreInOrder) where
  module _ (requests : ℕ) (life : Life) (lived : HasLived IsReportedAs requests life) where
    abbrev k : Known
    k = new_library lived.first requests

    -- what was popped is what its polls popped
    popped_is : popped_of k lived.made ≡ life.library.ends.head.popped
    popped_is =
        sym (ap (λ (now : Known). now.ends.head.popped) lived.known ∙ (polls_pop k lived.made lived.lawful ∙ ap (λ popped. popped ++ popped_of k lived.made) lived.unused.popped))

    posts_are : (s : ℕ) → posts_by (library_at life.library.ends.seat s).items ≡ posts_kept s life.calls
    posts_are s =
        ap (λ (now : Known). posts_by (session_at now s).items) lived.known ∙ (posts_are_sent s k lived.made lived.lawful
        ∙ (ap (λ (ls : LibrarySession). posts_by ls.items ++ posts_of s k lived.made) (lived.unused.sessions s) ∙ sym (posts_told s k lived.made life.calls lived.kept)))

    logged_posts : (library s : ℕ) (before : List Entry) (book : Book) → AreLogged library before book (library_at life.library.ends.seat s).items → ArePostsLogged library before book (posts_kept s life.calls)
    logged_posts library s before book is = record {
      sends = is.sends;
      sends_are = is.sends_are;
      bodies = is.bodies ∙ (bodies_posted (library_at life.library.ends.seat s).items ∙ ap (map (λ post. post.body)) (posts_are s));
    }

    nothing_held : (is : Bool) → ◌≡◌ {A = ℕ} (if is then 0 else 0) 0
    nothing_held true = refl
    nothing_held false = refl

    nothing_read : (s : ℕ) → reading_at k s ≡ no_reading
    nothing_read s = none_there reading_count s no_reading

    positions_are : (s lease : ℕ) → 0 < lease → s < reading_count → AreInOrder s lease None life.library.ends.head.popped
        → positions_kept s lease life.calls ≡ numbers_from (granted_from s lease life.library.ends.head.popped) (length (positions_kept s lease life.calls))
    positions_are s lease some small in_order =
        let told = positions_told s lease k lived.made life.calls lived.kept in
        let seated : held k s ≡ (reading_at k s).lease =
        ap (λ r. lease_in r.lease (held_lease (session_at k s).leases)) (nothing_read s) ∙ (nothing_held (0 == held_lease (session_at k s).leases) ∙ sym (ap (λ r. r.lease) (nothing_read s))) in
        let at : (reading_at k s).lease ≢ lease = λ same. (let zero_is = ap (λ r. r.lease) (nothing_read s) in omega arith) in
        let reads = no_gap s lease None k lived.made some small (length-replicate reading_count no_reading) lived.lawful seated at (subst (AreInOrder s lease None) (sym popped_is) in_order) in
        told ∙ (reads ∙ (ap (λ ns. numbers_from (granted_from s lease ns) (length (reads_of s lease k lived.made))) popped_is
        ∙ ap (λ positions. numbers_from (granted_from s lease life.library.ends.head.popped) (length positions)) (sym told)))

    -- its requests are those that its calls made
    asks_are : asks_kept life.calls ≡ flat_map asked_by life.library.ends.tail.pushed
    asks_are = sym (ap (λ (now : Known). flat_map asked_by now.ends.tail.pushed) lived.known ∙ (calls_ask k lived.made life.calls lived.lawful lived.kept
        ∙ ap (λ pushed. flat_map asked_by pushed ++ asks_kept life.calls) lived.unused.pushed))

    -- its requests were replied to
    replied_to : HoldsThroughout AreReplies k lived.made → IsRepliedTo life.library
    replied_to throughout =
        subst IsRepliedTo (sym lived.known) (closed k lived.made lived.lawful throughout (inl (sym (ap (λ ns. length (replies_in ns)) lived.unused.popped), refl)))

    -- what its leases say that it did is what its calls answered
    deeds_are : (s : ℕ) → deeds_of s k lived.made ≡ deeds_by (library_at life.library.ends.seat s).leases
    deeds_are s = sym (ap (λ (now : Known). deeds_by (session_at now s).leases) lived.known ∙ (deeds_are_answered s k lived.made lived.lawful
        ∙ ap (λ (ls : LibrarySession). deeds_by ls.leases ++ deeds_of s k lived.made) (lived.unused.sessions s)))

    -- and what the kept ones say
    kept_deeds_are : (s : ℕ) → deeds_kept s life.calls ≡ deeds_by (library_at life.library.ends.seat s).leases
    kept_deeds_are s = deeds_told s k lived.made life.calls lived.kept ∙ deeds_are s

    -- all that it knows stands in the journals
    module _ (before : ℕ → List Entry) (board : Board)
        (stand : (s : ℕ) → s < length board.sessions → LeasesStand (length (lines_of (before s))) (lines_of (book_at board s).entries) life.number (library_at life.library.ends.seat s)) where
      given_so : (call : Kept) → OnGiven (DidBy k lived.made) call → GivesBack board life.number call
      given_so (calls.Release s (Ok released)) did = λ small.
          gave_so (length (lines_of (before s))) (lines_of (book_at board s).entries) life.number (library_at life.library.ends.seat s).leases (stand s small).each released.lease released.count 0
          (subst (λ deeds. Contains deeds (did_give released.lease released.count 0)) (deeds_are s) did)
      given_so (calls.Hand s heir (Ok released)) did = λ small.
          gave_so (length (lines_of (before s))) (lines_of (book_at board s).entries) life.number (library_at life.library.ends.seat s).leases (stand s small).each released.lease released.count heir
          (subst (λ deeds. Contains deeds (did_give released.lease released.count heir)) (deeds_are s) did)
      given_so (calls.Release s (Err why)) did = tt
      given_so (calls.Hand s heir (Err why)) did = tt
      given_so (calls.Poll event) did = tt
      given_so (calls.Send s body answer) did = tt
      given_so (calls.Request s from answer) did = tt
      given_so calls.Beat did = tt

      all_given : All (GivesBack board life.number) life.calls
      all_given i d within = given_so (get_or life.calls i d) (calls_gave k lived.made life.calls lived.kept i d within)

      all_done : (s : ℕ) → s < length board.sessions → lines_of (before s) ≡ [] → deeds_in_lines life.number (lines_of (book_at board s).entries) ≡ deeds_kept s life.calls
      all_done s small none =
          let lines = lines_of (book_at board s).entries in
          let leases = (library_at life.library.ends.seat s).leases in
          let here = stand s small in
          let base : length (lines_of (before s)) ≡ 0 = ap (λ (ls : List Line). length ls) none in
          lines_tell life.number lines leases (lived.rising s) (subst (λ n. Each (Stands n lines life.number) leases) base here.each) (subst (λ n. OthersRest n lines life.number leases) base here.others)
          ∙ sym (kept_deeds_are s)

      all_seen : (s : ℕ) → s < length board.sessions → All (IsShown (lines_of (book_at board s).entries)) (words_kept s life.calls)
      all_seen s small = all_shown (lines_of (book_at board s).entries) (library_at life.library.ends.seat s) (words_kept s life.calls) (stand s small).words (lived.words s)

    handed_on : (P : Notice → Type 0) → All P life.library.ends.head.popped → All (HandsOn P) life.calls
    handed_on P all = calls_given P k lived.made life.calls lived.kept (subst (All P) (sym popped_is) all)

-- a notice that answers is among those that a list of notices tells
chosen : {A : Type 0} (test : Bool) (xs : List A) → test ≡ true → (if test then xs else []) ≡ xs
chosen {A} test xs is = ap (λ (b : Bool). if b then xs else []) is

among : {A B : Type 0} (f : A → List B) (xs : List A) (x : A) (y : B) → f x ≡ y ∷ [] → Contains xs x → Contains (flat_map f xs) y
among f [] x y one has = absurd (let none = has.1 in omega arith)
among {A} {B} f (z ∷ zs) x y one (zero, within, is) =
    Contains-append_left (f z) (flat_map f zs) y (subst (λ (ys : List B). Contains ys y) (sym (ap f is ∙ one)) (0, omega arith, refl))
among f (z ∷ zs) x y one (suc n, within, is) = Contains-append_right (f z) (flat_map f zs) y (among f zs x y one (n, omega arith, is))

module _ (before : ℕ → List Entry) (board : Board) (strays : List Stray) (library : ℕ) (e : EngineEnds) (answered : IsAnswered before board strays library e) where
  reply_is_told : (s : ℕ) (n : Notice) → reply_of s n ≡ n ∷ [] → (length board.sessions ≤ s → stray_reply (length board.sessions) n ≡ n ∷ []) → Contains e.tail.pushed n → IsReplyTold board strays library s n
  reply_is_told s n own stray has = (
    (λ small. subst (λ ns. Contains ns n) (sym (answered.told s small))
        (Contains-append_right (replies_told library s (before s)) (flat_map (reply_of s) e.tail.pushed) n (among (reply_of s) e.tail.pushed n n own has))),
    (λ past. subst (λ ns. Contains ns n) (sym answered.strays_are) (among (stray_reply (length board.sessions)) e.tail.pushed n n (stray past) has)),
  )

  notice_is_told : (n : Notice) → IsLogged board n → Contains e.tail.pushed n → IsTold board strays library n
  notice_is_told (notices.Granted nr s lease from start) logged has =
      reply_is_told s (notices.Granted nr s lease from start) (chosen (s == s) _ (eq-eqb s s refl)) (λ past. chosen (nat_le (length board.sessions) s) _ (le-leb (length board.sessions) s past)) has
  notice_is_told (notices.Refused nr s why) logged has =
      reply_is_told s (notices.Refused nr s why) (chosen (s == s) _ (eq-eqb s s refl)) (λ past. chosen (nat_le (length board.sessions) s) _ (le-leb (length board.sessions) s past)) has
  notice_is_told (notices.Message s lease pos bytes) logged has = logged

  all_told : All (IsLogged board) e.tail.pushed → All (IsTold board strays library) e.tail.pushed
  all_told logged i d within = notice_is_told (get_or e.tail.pushed i d) (logged i d within) (All-contains_itself e.tail.pushed i d within)

-- A call that a script keeps is kept.
pub kept_weaker : (k : Known) (made : List Call) (kept : List Kept) → AreKept IsKeptAs k made kept → AreKept IsReportedAs k made kept
kept_weaker k [] kept none = none
kept_weaker k (call ∷ made) kept are = (are.0, are.1, are.2, inl are.3, kept_weaker (after_call k call) made are.1 are.4)

abbrev pub lived_weaker : (requests : ℕ) (life : Life) → HasLived IsKeptAs requests life → HasLived IsReportedAs requests life
lived_weaker requests life was = record {
  first = was.first;
  unused = was.unused;
  made = was.made;
  lawful = was.lawful;
  known = was.known;
  kept = kept_weaker (new_library was.first requests) was.made life.calls was.kept;
  rising = was.rising;
  words = was.words;
}

module _ (laws : ApiLaws) (before : ℕ → List Entry) (start : ℕ → State) (requests : ℕ) (engine : Engine) (links : ℕ → Link) (seats : List LibraryView) (reports : List LibReport) (left : RunRecord)
    (leaves : LeavesAccounted before start engine links seats reports left) (place : ℕ) (life : Life) (one : IsLifeAt requests engine.sessions place life) where
  abbrev board : Board
  board = leaves.gathered.board

  abbrev strays : List Stray
  strays = engine.sessions.strays.items

  abbrev library : ℕ
  library = place + 1

  abbrev side : EngineEnds
  side = one.served.side

  abbrev popped : List Notice
  popped = life.library.ends.head.popped

  at_side : slice_get engine.sessions.ends.items (library - 1) ≡ Some side
  at_side = subst (λ j. slice_get engine.sessions.ends.items j ≡ Some side) (omega arith) one.served.found

  fed : IsFed board engine.sessions.cursors.items library side.tail.pushed
  fed = leaves.accounted.fed.fed library side (omega arith) at_side

  answered : IsAnswered before board strays library side
  answered = leaves.accounted.answered library side (omega arith) at_side

  popped_told : All (IsTold board strays life.number) popped
  popped_told =
      subst (λ n. All (IsTold board strays n) popped) (sym one.number)
      (of_begun (IsTold board strays library) popped one.served.popped.rest side.tail.pushed one.served.popped.is
      (all_told before board strays library side answered fed.logged))

  popped_within : All (LiesWithin board life.number) popped
  popped_within =
      subst (λ n. All (LiesWithin board n) popped) (sym one.number)
      (of_begun (LiesWithin board library) popped one.served.popped.rest side.tail.pushed one.served.popped.is (leaves.accounted.within library side (omega arith) at_side))

  reads_are : (s lease : ℕ) → 0 < lease → s < reading_count → s < length board.sessions
      → (positions_kept s lease life.calls ≡ []) ⊎ AreFromGrant (replies_told life.number s (book_at board s).entries) s lease (positions_kept s lease life.calls)
  reads_are s lease some small here =
      let in_order = laws.beginnings s lease None popped one.served.popped.rest (subst (AreInOrder s lease None) (sym one.served.popped.is) (fed.in_order s lease)) in
      let positions = positions_are laws.polls_pop laws.closed laws.deeds_are_answered laws.posts_are_sent laws.no_gap laws.beginnings requests life one.lived s lease some small in_order in
      elim (first_grant s lease popped in_order) [
        | inl grant ↦ inr (record {
          nr = grant.nr;
          from = grant.from;
          start = grant.start;
          told = (All-contains (IsTold board strays life.number) popped (notices.Granted grant.nr s lease grant.from grant.start) popped_told grant.has).0 here;
          are = positions ∙ ap (λ from. numbers_from from (length (positions_kept s lease life.calls))) grant.first;
        })
        | inr beside ↦ inl (none_given s lease life.calls (handed_on laws.polls_pop laws.closed laws.deeds_are_answered laws.posts_are_sent laws.no_gap laws.beginnings requests life one.lived (IsBeside s lease) beside))
      ]

  module _ (report : LibReport) (number_is : report.number ≡ life.number) (calls_are : report.calls ≡ life.calls) (has : Contains seats life.library.ends.seat) where
    -- what is so of the library's calls is so of the reported ones
    as_reported : (F : ℕ → List Kept → Type 0) → F life.number life.calls → F report.number report.calls
    as_reported F is = subst (λ n. F n report.calls) (sym number_is) (subst (F life.number) (sym calls_are) is)

    -- all that it knew stands
    stand : (s : ℕ) → s < length board.sessions → LeasesStand (length (lines_of (before s))) (lines_of (book_at board s).entries) life.number (library_at life.library.ends.seat s)
    stand s small =
        subst (λ n. LeasesStand (length (lines_of (before s))) (lines_of (book_at board s).entries) n (library_at life.library.ends.seat s)) (one.seat ∙ sym one.number) (leaves.leases s life.library.ends.seat small has)

    pub life_borne_out : IsBorneOut before board strays report
    life_borne_out =
        let seat : life.library.ends.seat.knows.number ≡ life.number = one.seat ∙ sym one.number in
        record {
          sends = λ s small. as_reported (λ number calls. ArePostsLogged number (before s) (book_at board s) (posts_kept s calls))
              (logged_posts laws.polls_pop laws.closed laws.deeds_are_answered laws.posts_are_sent laws.no_gap laws.beginnings requests life one.lived life.number s (before s) (book_at board s)
              (subst (λ n. AreLogged n (before s) (book_at board s) (library_at life.library.ends.seat s).items) seat (leaves.logged s life.library.ends.seat small has)));
          reads = λ s lease some small here. as_reported (λ number calls. (positions_kept s lease calls ≡ []) ⊎ AreFromGrant (replies_told number s (book_at board s).entries) s lease (positions_kept s lease calls))
              (reads_are s lease some small here);
          told = as_reported (λ number calls. All (HandsOn (IsTold board strays number)) calls)
              (handed_on laws.polls_pop laws.closed laws.deeds_are_answered laws.posts_are_sent laws.no_gap laws.beginnings requests life one.lived (IsTold board strays life.number) popped_told);
          within = as_reported (λ number calls. All (HandsOn (LiesWithin board number)) calls)
              (handed_on laws.polls_pop laws.closed laws.deeds_are_answered laws.posts_are_sent laws.no_gap laws.beginnings requests life one.lived (LiesWithin board life.number) popped_within);
          given_back = as_reported (λ number calls. All (GivesBack board number) calls)
              (all_given laws.polls_pop laws.closed laws.deeds_are_answered laws.posts_are_sent laws.no_gap laws.beginnings requests life one.lived before board stand);
          deeds = as_reported (λ number calls. (s : ℕ) → s < length board.sessions → lines_of (before s) ≡ [] → deeds_in_lines number (lines_of (book_at board s).entries) ≡ deeds_kept s calls)
              (all_done laws.polls_pop laws.closed laws.deeds_are_answered laws.posts_are_sent laws.no_gap laws.beginnings requests life one.lived before board stand);
          words = as_reported (λ number calls. (s : ℕ) → s < length board.sessions → All (IsShown (lines_of (book_at board s).entries)) (words_kept s calls))
              (all_seen laws.polls_pop laws.closed laws.deeds_are_answered laws.posts_are_sent laws.no_gap laws.beginnings requests life one.lived before board stand);
        }

  pub life_replied : IsRepliedAtEnd before board life
  life_replied =
      let asks = asks_are laws.polls_pop laws.closed laws.deeds_are_answered laws.posts_are_sent laws.no_gap laws.beginnings requests life one.lived in
      record {
        numbers = ap (map (λ (ask : Ask). ask.nr)) asks ∙ (sym (numbers_asked life.library.ends.tail.pushed) ∙ (requests_numbered laws.numbered IsReportedAs requests life one.lived).numbers);
        answers = subst (Begins (flat_map answered_by popped)) (sym asks) one.served.answers;
        few = at_most_one_open laws.polls_pop laws.polls_close requests life one.lived;
        replies = λ s small. subst (λ n. AreRepliesTold n s (before s) (book_at board s).entries popped) (sym one.number)
            (record {
              rest = flat_map (reply_of s) one.served.popped.rest;
              are = answered.told s small ∙ ap (λ replies. replies_told library s (before s) ++ replies)
                  (ap (flat_map (reply_of s)) (sym one.served.popped.is) ∙ flat_map-append (reply_of s) popped one.served.popped.rest);
            });
      }

  pub life_reported : (report : LibReport) → Contains seats life.library.ends.seat → report.number ≡ life.number → report.calls ≡ life.calls → IsReported requests before board engine.sessions place report
  life_reported report has number_is calls_are = record {
    life = life;
    is = one;
    number = number_is;
    calls = calls_are;
    replied = life_replied;
    borne_out = life_borne_out report number_is calls_are has;
  }

-- the libraries of a script
module _ (laws : ApiLaws) (before : ℕ → List Entry) (start : ℕ → State) (requests : ℕ) (run : Run) (left : RunRecord) (leaves : RunLeavesAccounted before start run left) where
  abbrev seats_of : List LibraryView
  seats_of = map seat_of run.callers.items

  abbrev reports_of : List LibReport
  reports_of = map report_of run.callers.items

  life_at : AreNumbered run → HaveLived requests run → (place : ℕ) (caller : Caller) → slice_get run.callers.items place ≡ Some caller → IsLifeAt requests run.engine.sessions place (life_of caller)
  life_at numbered lived place caller found =
      let one = lived place caller found in
      record { number = one.number; seat = (numbered.each place caller found).seat; lived = lived_weaker requests (life_of caller) one.lived; served = one.served }

  caller_reported : AreNumbered run → HaveLived requests run → (place : ℕ) (caller : Caller) → slice_get run.callers.items place ≡ Some caller
      → IsReported requests before leaves.gathered.board run.engine.sessions place (report_of caller)
  caller_reported numbered lived place caller found =
      life_reported laws before start requests run.engine (link_at run.wire) seats_of reports_of left leaves place (life_of caller) (life_at numbered lived place caller found) (report_of caller)
      (seat_there run.callers.items place caller found) refl refl

  pub all_reported_of : AreNumbered run → HaveLived requests run → (place : ℕ) (report : LibReport) → slice_get left.libraries place ≡ Some report
      → IsReported requests before leaves.gathered.board run.engine.sessions place report
  all_reported_of numbered lived place report found =
      let at = mapped_at report_of run.callers.items place report (subst (λ all. slice_get all place ≡ Some report) leaves.libraries found) in
      subst (IsReported requests before leaves.gathered.board run.engine.sessions place) at.1.1 (caller_reported numbered lived place at.0 at.1.0)

  pub all_borne_out : AreNumbered run → HaveLived requests run → All (IsBorneOut before leaves.gathered.board left.engine.strays) left.libraries
  all_borne_out numbered lived =
      let now = leaves.gathered.board in
      subst (λ all. All (IsBorneOut before now all) left.libraries) (sym leaves.leaves.strays_are)
      (subst (All (IsBorneOut before now run.engine.sessions.strays.items)) (sym leaves.libraries)
      (all_reported (IsBorneOut before now run.engine.sessions.strays.items) run.callers.items (λ place caller found. (caller_reported numbered lived place caller found).borne_out)))

  pub all_replied : AreNumbered run → HaveLived requests run → AllAreReplied before leaves.gathered.board run
  all_replied numbered lived place caller found =
      let one = lived place caller found in
      let weaker = lived_weaker requests (life_of caller) one.lived in (
        life_replied laws before start requests run.engine (link_at run.wire) seats_of reports_of left leaves place (life_of caller) (life_at numbered lived place caller found),
        replied_to laws.polls_pop laws.closed laws.deeds_are_answered laws.posts_are_sent laws.no_gap laws.beginnings requests (life_of caller) weaker one.replied,
      )
