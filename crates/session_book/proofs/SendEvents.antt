-- Each event of a session goes on with what is logged of its sends.
use Rattle.std.proofs.Common.{◌≡◌, ℕ, List, [], ◌∷◌, ◌++◌, length, refl, sym, append_assoc, ◌∙◌}
use Rattle.std.proofs.lemmas.List.{append-nil}
use Rattle.std.proofs.lemmas.List.Elements.{All-cons, All-nil}
use Rattle.lease_core.specs.State.{lease_of, state_of}
use Rattle.lease_core.specs.Steps.{entry_with, reply_to}
use Rattle.lease_core.specs.declared.entry.Entry.{Entry}
use Rattle.lease_core.specs.declared.entry.Entry.TheVariants.{Bind, Lapse, Leave}
use Rattle.lease_core.specs.declared.event.Event.TheVariants.{Binds}
use Rattle.lease_core.specs.declared.word.Word.{Word}
use Rattle.message_log.specs.declared.entry.OutEntry.{OutEntry}
use Rattle.session_core.specs.Ask.{after_ask, ask}
use Rattle.session_core.specs.Receive.{after_receive, receive}
use Rattle.session_core.specs.State.{State}
use Rattle.session_core.specs.Tick.{after_tick, tick}
use Rattle.session_core.specs.declared.acts.Act.{Act}
use Rattle.session_book.specs.Acts.{after_acts, after_binding, after_dial, after_end, after_lapse, after_message, after_request, after_ticking}
use Rattle.session_book.specs.Book.{Book, Desk, with_event, with_machine, with_outbox}
use Rattle.session_book.specs.Kept.{IsBook}
use Rattle.session_book.specs.Sends.{AreSendsOf, new_sends}
use Rattle.session_book.specs.Words.{after_timeout, after_word, shown_sends}
use Rattle.session_book.specs.Grounds.{RunGrounds}
use Rattle.session_book.proofs.Carried.{bound_with, carried_with}
use Rattle.session_book.proofs.RunEvents.{makes_of}
use Rattle.session_book.proofs.SendRuns.{NoSend, acts_no_sends, aside_sends, reply_no_send, same_sends, shown_book, timed_book}
use Rattle.session_book.proofs.Telling.{LogsAgree}

-- before any event
pub first_sends : (library : ℕ) (book : Book) → AreSendsOf library book.entries [] book
first_sends library book = record { added = []; entries_are = sym (append-nil book.entries); logged = All-nil _; sends_are = refl }

agrees : (book : Book) → IsBook book → LogsAgree book
agrees book is = record { outbound = is.outbound; begun = is.begun }

module _ (r : RunGrounds) (library : ℕ) (before : List Entry) (sends : List OutEntry) where
  pub word_sends : (at until : ℕ) (w : Word) (bodies : List (List ℕ)) (desk : Desk) → IsBook desk.book → length bodies ≡ shown_sends desk.book.entries w → AreSendsOf library before sends desk.book
      → AreSendsOf library before (sends ++ new_sends library desk.book at bodies) (after_word at until w bodies desk).book
  word_sends at until w bodies desk is count are =
      same_sends library before (sends ++ new_sends library desk.book at bodies) _ (after_word at until w bodies desk).book refl refl
      (shown_book r library before sends at until w bodies desk.book (agrees desk.book is) are count)

  pub timeout_sends : (at until : ℕ) (old : Word) (bodies : List (List ℕ)) (desk : Desk) → IsBook desk.book → length bodies ≡ shown_sends desk.book.entries old → AreSendsOf library before sends desk.book
      → AreSendsOf library before (sends ++ new_sends library desk.book at bodies) (after_timeout at until old bodies desk).book
  timeout_sends at until old bodies desk is count are =
      same_sends library before (sends ++ new_sends library desk.book at bodies) _ (after_timeout at until old bodies desk).book refl refl
      (timed_book r library before sends at until old bodies desk.book (agrees desk.book is) are count)

  acts_sends : (at : ℕ) (acts : List Act) (machine : State) (desk : Desk) → IsBook desk.book → AreSendsOf library before sends desk.book
      → AreSendsOf library before sends (after_acts at acts (with_outbox (with_machine machine desk.book) desk.outgoing)).book
  acts_sends at acts machine desk is are =
      let new = after_acts at acts (with_outbox (with_machine machine desk.book) desk.outgoing) in
      let told = carried_with r.logs r.stay at acts machine desk is in
      aside_sends r library before sends desk.book new.book told.added are (makes_of r acts desk new told)
      (acts_no_sends new.book.inbound new.book.outbound (state_of desk.book.entries) acts told.added told.told)

  open_sends : (c at : ℕ) (acts : List Act) (machine : State) (desk : Desk) → IsBook desk.book → AreSendsOf library before sends desk.book
      → AreSendsOf library before sends (after_acts at acts (with_outbox (with_machine machine (with_event (Binds c) desk.book)) desk.outgoing)).book
  open_sends c at acts machine desk is are =
      let old = desk.book in
      let new = after_acts at acts (with_outbox (with_machine machine (with_event (Binds c) old)) desk.outgoing) in
      let told = bound_with r.logs r.stay c at acts machine desk is in
      aside_sends r library before sends old new.book (Bind c ∷ told.added) are
      (record { entries_are = told.entries_are ∙ append_assoc old.entries (Bind c ∷ []) told.added; more = told.more; inbound = told.inbound; outbound = told.outbound })
      (All-cons NoSend (Bind c) told.added refl (acts_no_sends new.book.inbound new.book.outbound (state_of (old.entries ++ Bind c ∷ [])) acts told.added told.told))

  pub message_sends : (at : ℕ) (body : List ℕ) (desk : Desk) → IsBook desk.book → AreSendsOf library before sends desk.book → AreSendsOf library before sends (after_message at body desk).book
  message_sends at body desk is are = let machine = desk.book.machine in acts_sends at (receive machine body at).acts (after_receive machine body at) desk is are

  pub tick_sends : (at : ℕ) (desk : Desk) → IsBook desk.book → AreSendsOf library before sends desk.book → AreSendsOf library before sends (after_ticking at desk).book
  tick_sends at desk is are = let machine = desk.book.machine in acts_sends at (tick machine at).acts (after_tick machine at) desk is are

  pub binding_sends : (c at : ℕ) (body : List ℕ) (desk : Desk) → IsBook desk.book → AreSendsOf library before sends desk.book → AreSendsOf library before sends (after_binding at c body desk).book
  binding_sends c at body desk is are = let machine = desk.book.machine in open_sends c at (receive machine body at).acts (after_receive machine body at) desk is are

  pub dial_sends : (c at : ℕ) (desk : Desk) → IsBook desk.book → AreSendsOf library before sends desk.book → AreSendsOf library before sends (after_dial at c desk).book
  dial_sends c at desk is are = let machine = desk.book.machine in open_sends c at (ask machine).acts (after_ask machine at) desk is are

  one_event : (book new : Book) (e : Entry) → new.entries ≡ book.entries ++ e ∷ [] → new.inbound ≡ book.inbound → new.outbound ≡ book.outbound → NoSend e → AreSendsOf library before sends book → AreSendsOf library before sends new
  one_event book new e entries inbound outbound none are =
      same_sends library before sends (record book { entries = book.entries ++ e ∷ [] }) new entries outbound
      (aside_sends r library before sends book (record book { entries = book.entries ++ e ∷ [] }) (e ∷ []) are
      (record { entries_are = refl; more = []; inbound = sym (append-nil book.inbound); outbound = r.logs.itself book.outbound })
      (All-cons NoSend e [] none (All-nil NoSend)))

  pub leave_sends : (c : ℕ) (book : Book) → AreSendsOf library before sends book → AreSendsOf library before sends (after_end c book)
  leave_sends c book are = one_event book (after_end c book) (Leave c) refl refl refl refl are

  pub request_sends : (by nr from : ℕ) (book : Book) → AreSendsOf library before sends book → AreSendsOf library before sends (after_request by nr from book)
  request_sends by nr from book are =
      one_event book (after_request by nr from book) (entry_with by nr from (reply_to book.leases (state_of book.entries) by from)) refl refl refl (reply_no_send by nr from _) are

  pub lapse_sends : (book : Book) → AreSendsOf library before sends book → AreSendsOf library before sends (after_lapse book)
  lapse_sends book are = one_event book (after_lapse book) (Lapse (lease_of (state_of book.entries))) refl refl refl refl are
