-- Each event of a session keeps the outbound text of each of its connections.
use Rattle.std.proofs.Common.{◌≡◌, ◌≢◌, ℕ, List, [], ◌∷◌, ◌++◌, length, Some, refl, sym, ◌∙◌, append_assoc}
use Rattle.std.specs.List.{All}
use Rattle.std.proofs.lemmas.List.{append-nil}
use Rattle.connection_core.specs.Items.{AreItemsOf}
use Rattle.connection_core.specs.Outgoing.{Outgoing}
use Rattle.lease_core.specs.State.{lease_of, state_of}
use Rattle.lease_core.specs.Steps.{entry_with, reply_to}
use Rattle.lease_core.specs.declared.entry.Entry.{Entry}
use Rattle.lease_core.specs.declared.entry.Entry.TheVariants.{Bind, Lapse}
use Rattle.lease_core.specs.declared.event.Event.TheVariants.{Binds}
use Rattle.lease_core.specs.declared.word.Word.{Word}
use Rattle.resend_plan.specs.declared.item.Names2.{Names2}
use Rattle.session_core.specs.Ask.{after_ask, ask}
use Rattle.session_core.specs.Receive.{after_receive, receive}
use Rattle.session_core.specs.State.{State}
use Rattle.session_core.specs.Tick.{after_tick, tick}
use Rattle.session_core.specs.declared.acts.Act.{Act}
use Rattle.session_book.specs.Acts.{after_acts, after_binding, after_dial, after_end, after_lapse, after_message, after_request, after_ticking}
use Rattle.session_book.specs.Book.{Book, Desk, with_event, with_machine, with_outbox}
use Rattle.session_book.specs.Items.{QueuesWhatIsTold}
use Rattle.session_book.specs.Kept.{IsBook}
use Rattle.session_book.specs.Texts.{IsTextOf}
use Rattle.session_book.specs.Words.{after_timeout, after_word, shown_sends, with_news}
use Rattle.session_book.specs.Grounds.{RunGrounds}
use Rattle.session_book.proofs.Carried.{bound_with, carried_with}
use Rattle.session_book.proofs.LeaseEntries.{AddsLeases, adds_one, adds_shown, adds_timed, leases_keep, reply_is_lease, sends_go_on}
use Rattle.session_book.proofs.Runs.{Makes, acts_keep}
use Rattle.session_book.proofs.RunEvents.{makes_of}
use Rattle.session_book.proofs.Spells.{Keeps}
use Rattle.session_book.proofs.Telling.{binding_tells, dial_tells, lapse_tells, message_tells, request_tells, tick_tells, timeout_tells, word_tells}
use Rattle.session_book.proofs.TextRuns.{ItemsGrow, ItemsQueue, closed_text, opened_text, open_text, other_text, passed_text}

-- what an event makes of a session: entries that leave it bound as it was
record Leaves (r : RunGrounds) (old new : Book) : Type 0 where
  added : List Entry
  makes : Makes r old new added
  keep : All Keeps added

-- or the same behind the Bind of a connection
record Opens (r : RunGrounds) (c : ℕ) (old new : Book) : Type 0 where
  added : List Entry
  makes : Makes r old new (Bind c ∷ added)
  keep : All Keeps added

module _ (r : RunGrounds) where
  acts_leave : (at : ℕ) (acts : List Act) (machine : State) (desk : Desk) → IsBook desk.book → Leaves r desk.book (after_acts at acts (with_outbox (with_machine machine desk.book) desk.outgoing)).book
  acts_leave at acts machine desk is =
      let new = after_acts at acts (with_outbox (with_machine machine desk.book) desk.outgoing) in
      let told = carried_with r.logs r.stay at acts machine desk is in
      record { added = told.added; makes = makes_of r acts desk new told; keep = acts_keep new.book.inbound new.book.outbound (state_of desk.book.entries) acts told.added told.told }

  acts_open : (c at : ℕ) (acts : List Act) (machine : State) (desk : Desk) → IsBook desk.book → Opens r c desk.book (after_acts at acts (with_outbox (with_machine machine (with_event (Binds c) desk.book)) desk.outgoing)).book
  acts_open c at acts machine desk is =
      let old = desk.book in
      let new = after_acts at acts (with_outbox (with_machine machine (with_event (Binds c) old)) desk.outgoing) in
      let told = bound_with r.logs r.stay c at acts machine desk is in
      record {
        added = told.added;
        makes = record { entries_are = told.entries_are ∙ append_assoc old.entries (Bind c ∷ []) told.added; more = told.more; inbound = told.inbound; outbound = told.outbound };
        keep = acts_keep new.book.inbound new.book.outbound (state_of (old.entries ++ Bind c ∷ [])) acts told.added told.told;
      }

  news_leave : (at : ℕ) (entries : List Entry) (bodies : List (List ℕ)) (desk : Desk) → AddsLeases desk.book.entries entries → Leaves r desk.book (with_news at entries bodies desk).book
  news_leave at entries bodies desk adds = record {
    added = adds.added;
    makes = record { entries_are = adds.are; more = []; inbound = sym (append-nil desk.book.inbound); outbound = sends_go_on r.logs at bodies desk.book.outbound };
    keep = leases_keep adds.added adds.leases;
  }

  request_leaves : (library nr from : ℕ) (book : Book) → Leaves r book (after_request library nr from book)
  request_leaves library nr from book =
      let adds = adds_one book.entries (entry_with library nr from (reply_to book.leases (state_of book.entries) library from)) (reply_is_lease library nr from _) in
      record {
        added = adds.added;
        makes = record { entries_are = adds.are; more = []; inbound = sym (append-nil book.inbound); outbound = r.logs.itself book.outbound };
        keep = leases_keep adds.added adds.leases;
      }

  lapse_leaves : (book : Book) → Leaves r book (after_lapse book)
  lapse_leaves book =
      let adds = adds_one book.entries (Lapse (lease_of (state_of book.entries))) refl in
      record {
        added = adds.added;
        makes = record { entries_are = adds.are; more = []; inbound = sym (append-nil book.inbound); outbound = r.logs.itself book.outbound };
        keep = leases_keep adds.added adds.leases;
      }

  module _ (grow : ItemsGrow) (queue : ItemsQueue) (names : Names2) (before : List Entry) (c : ℕ) where
    -- on the connection to which the session is bound
    on_it : (old new : Desk) → Leaves r old.book new.book → QueuesWhatIsTold c old new → (state_of old.book.entries).bound ≡ Some c
        → IsTextOf names before c old.book old.outgoing → IsTextOf names before c new.book new.outgoing
    on_it old new leaves q bound is = open_text r grow queue names before c old new leaves.added q leaves.makes leaves.keep bound is

    pub message_text : (at : ℕ) (body : List ℕ) (desk : Desk) → IsBook desk.book → (state_of desk.book.entries).bound ≡ Some c → IsTextOf names before c desk.book desk.outgoing
        → IsTextOf names before c (after_message at body desk).book (after_message at body desk).outgoing
    message_text at body desk is bound text =
        let machine = desk.book.machine in
        on_it desk (after_message at body desk) (acts_leave at (receive machine body at).acts (after_receive machine body at) desk is) (message_tells r.logs c at body desk is bound) bound text

    pub tick_text : (at : ℕ) (desk : Desk) → IsBook desk.book → (state_of desk.book.entries).bound ≡ Some c → IsTextOf names before c desk.book desk.outgoing
        → IsTextOf names before c (after_ticking at desk).book (after_ticking at desk).outgoing
    tick_text at desk is bound text =
        let machine = desk.book.machine in
        on_it desk (after_ticking at desk) (acts_leave at (tick machine at).acts (after_tick machine at) desk is) (tick_tells r.logs c at desk is bound) bound text

    pub word_text : (at until : ℕ) (w : Word) (bodies : List (List ℕ)) (desk : Desk) → IsBook desk.book → (state_of desk.book.entries).bound ≡ Some c → length bodies ≡ shown_sends desk.book.entries w
        → IsTextOf names before c desk.book desk.outgoing → IsTextOf names before c (after_word at until w bodies desk).book (after_word at until w bodies desk).outgoing
    word_text at until w bodies desk is bound count text =
        on_it desk (after_word at until w bodies desk) (news_leave at _ bodies desk (adds_shown until desk.book.entries w)) (word_tells r.logs c at until w bodies desk is bound count) bound text

    pub timeout_text : (at until : ℕ) (old : Word) (bodies : List (List ℕ)) (desk : Desk) → IsBook desk.book → (state_of desk.book.entries).bound ≡ Some c → length bodies ≡ shown_sends desk.book.entries old
        → IsTextOf names before c desk.book desk.outgoing → IsTextOf names before c (after_timeout at until old bodies desk).book (after_timeout at until old bodies desk).outgoing
    timeout_text at until old bodies desk is bound count text =
        on_it desk (after_timeout at until old bodies desk) (news_leave at _ bodies desk (adds_timed old.standing until desk.book.entries old)) (timeout_tells r.logs c at until old bodies desk is bound count) bound text

    pub request_text : (library nr from : ℕ) (desk : Desk) → IsBook desk.book → (state_of desk.book.entries).bound ≡ Some c → IsTextOf names before c desk.book desk.outgoing
        → IsTextOf names before c (after_request library nr from desk.book) desk.outgoing
    request_text library nr from desk is bound text =
        on_it desk (with_outbox (after_request library nr from desk.book) desk.outgoing) (request_leaves library nr from desk.book) (request_tells r.logs c library nr from desk is) bound text

    pub lapse_text : (desk : Desk) → IsBook desk.book → (state_of desk.book.entries).bound ≡ Some c → IsTextOf names before c desk.book desk.outgoing
        → IsTextOf names before c (after_lapse desk.book) desk.outgoing
    lapse_text desk is bound text =
        on_it desk (with_outbox (after_lapse desk.book) desk.outgoing) (lapse_leaves desk.book) (lapse_tells r.logs c desk is) bound text

    pub leave_text : (d : ℕ) (book : Book) (out : Outgoing) → IsTextOf names before c book out → IsTextOf names before c (after_end d book) out
    leave_text d book out text =
        closed_text r grow queue names before c d book (after_end d book) out
        (record { entries_are = refl; more = []; inbound = sym (append-nil book.inbound); outbound = r.logs.itself book.outbound }) text

    -- as the connection is bound
    pub binding_text : (first : List Entry) (at : ℕ) (body : List ℕ) (desk : Desk) → IsBook desk.book → desk.book.entries ≡ before ++ first → AreItemsOf names desk.book.outbound [] desk.outgoing
        → IsTextOf names before c (after_binding at c body desk).book (after_binding at c body desk).outgoing
    binding_text first at body desk is are none =
        let machine = desk.book.machine in
        let opens = acts_open c at (receive machine body at).acts (after_receive machine body at) desk is in
        opened_text r grow queue names before first c desk (after_binding at c body desk) opens.added are (binding_tells r.logs c at body desk is) opens.makes opens.keep none

    pub dial_text : (first : List Entry) (at : ℕ) (desk : Desk) → IsBook desk.book → desk.book.entries ≡ before ++ first → AreItemsOf names desk.book.outbound [] desk.outgoing
        → IsTextOf names before c (after_dial at c desk).book (after_dial at c desk).outgoing
    dial_text first at desk is are none =
        let machine = desk.book.machine in
        let opens = acts_open c at (ask machine).acts (after_ask machine at) desk is in
        opened_text r grow queue names before first c desk (after_dial at c desk) opens.added are (dial_tells r.logs c at desk is) opens.makes opens.keep none

    -- while the session is bound to another connection, or to none
    aside : (old new : Book) (out : Outgoing) → Leaves r old new → (state_of old.entries).bound ≢ Some c → IsTextOf names before c old out → IsTextOf names before c new out
    aside old new out leaves differs is = other_text r grow queue names before c old new out leaves.added leaves.makes leaves.keep differs is

    pub other_message : (at : ℕ) (body : List ℕ) (desk : Desk) (out : Outgoing) → IsBook desk.book → (state_of desk.book.entries).bound ≢ Some c → IsTextOf names before c desk.book out
        → IsTextOf names before c (after_message at body desk).book out
    other_message at body desk out is differs text =
        let machine = desk.book.machine in
        aside desk.book (after_message at body desk).book out (acts_leave at (receive machine body at).acts (after_receive machine body at) desk is) differs text

    pub other_tick : (at : ℕ) (desk : Desk) (out : Outgoing) → IsBook desk.book → (state_of desk.book.entries).bound ≢ Some c → IsTextOf names before c desk.book out
        → IsTextOf names before c (after_ticking at desk).book out
    other_tick at desk out is differs text =
        let machine = desk.book.machine in
        aside desk.book (after_ticking at desk).book out (acts_leave at (tick machine at).acts (after_tick machine at) desk is) differs text

    pub other_word : (at until : ℕ) (w : Word) (bodies : List (List ℕ)) (desk : Desk) (out : Outgoing) → (state_of desk.book.entries).bound ≢ Some c → IsTextOf names before c desk.book out
        → IsTextOf names before c (after_word at until w bodies desk).book out
    other_word at until w bodies desk out differs text =
        aside desk.book (after_word at until w bodies desk).book out (news_leave at _ bodies desk (adds_shown until desk.book.entries w)) differs text

    pub other_timeout : (at until : ℕ) (old : Word) (bodies : List (List ℕ)) (desk : Desk) (out : Outgoing) → (state_of desk.book.entries).bound ≢ Some c → IsTextOf names before c desk.book out
        → IsTextOf names before c (after_timeout at until old bodies desk).book out
    other_timeout at until old bodies desk out differs text =
        aside desk.book (after_timeout at until old bodies desk).book out (news_leave at _ bodies desk (adds_timed old.standing until desk.book.entries old)) differs text

    pub other_request : (library nr from : ℕ) (book : Book) (out : Outgoing) → (state_of book.entries).bound ≢ Some c → IsTextOf names before c book out
        → IsTextOf names before c (after_request library nr from book) out
    other_request library nr from book out differs text = aside book (after_request library nr from book) out (request_leaves library nr from book) differs text

    pub other_lapse : (book : Book) (out : Outgoing) → (state_of book.entries).bound ≢ Some c → IsTextOf names before c book out → IsTextOf names before c (after_lapse book) out
    other_lapse book out differs text = aside book (after_lapse book) out (lapse_leaves book) differs text

    pub other_binding : (d at : ℕ) (body : List ℕ) (desk : Desk) (out : Outgoing) → IsBook desk.book → d ≢ c → IsTextOf names before c desk.book out
        → IsTextOf names before c (after_binding at d body desk).book out
    other_binding d at body desk out is differs text =
        let machine = desk.book.machine in
        let opens = acts_open d at (receive machine body at).acts (after_receive machine body at) desk is in
        passed_text r grow queue names before c d desk.book (after_binding at d body desk).book out opens.added differs opens.makes opens.keep text

    pub other_dial : (d at : ℕ) (desk : Desk) (out : Outgoing) → IsBook desk.book → d ≢ c → IsTextOf names before c desk.book out
        → IsTextOf names before c (after_dial at d desk).book out
    other_dial d at desk out is differs text =
        let machine = desk.book.machine in
        let opens = acts_open d at (ask machine).acts (after_ask machine at) desk is in
        passed_text r grow queue names before c d desk.book (after_dial at d desk).book out opens.added differs opens.makes opens.keep text
