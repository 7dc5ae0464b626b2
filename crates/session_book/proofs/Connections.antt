-- To which connection a session is bound behind each event.
use Rattle.std.proofs.Common.{◌≡◌, ℕ, List, [], ◌∷◌, Option, None, Some, refl, ap, ◌∙◌}
use Rattle.connection_core.specs.Outgoing.{Outgoing}
use Rattle.lease_core.specs.Laws.{EntriesDecide, EntriesDecideOver}
use Rattle.lease_core.specs.State.{state_of}
use Rattle.lease_core.specs.Steps.{entry_with, reply_to}
use Rattle.lease_core.specs.declared.entry.Entry.{Entry}
use Rattle.lease_core.specs.declared.event.Event.TheVariants.{Binds}
use Rattle.lease_core.specs.declared.word.Word.{Word}
use Rattle.session_core.specs.State.{State}
use Rattle.session_core.specs.declared.acts.Act.{Act}
use Rattle.session_core.specs.declared.acts.Act.TheVariants.{Accept, Resend, Reset, Send}
use Rattle.session_book.specs.Acts.{IsBegun, after_act, after_acts, after_end, after_lapse, after_request}
use Rattle.session_book.specs.Book.{Book, Desk, with_event, with_machine, with_outbox}
use Rattle.session_book.specs.Words.{after_timeout, after_word}
use Rattle.session_book.proofs.LeaseEntries.{AddsLeases, adds_one, adds_shown, adds_timed, leases_keep, reply_is_lease}
use Rattle.session_book.proofs.Spells.{bound_stays}

-- the connection to which entries bind the session
abbrev bound_by : List Entry → Option ℕ
bound_by entries = (state_of entries).bound

module _ (decide : EntriesDecide) where
  act_bound : (at : ℕ) (act : Act) (book : Book) (out : Outgoing) → bound_by (after_act at act (with_outbox book out)).book.entries ≡ bound_by book.entries
  act_bound at (Accept body) book out = ap (λ s. s.bound) (decide book.entries _)
  act_bound at (Send admin) book out = ap (λ s. s.bound) (decide book.entries _)
  act_bound at (Resend begin last) book out = ap (λ s. s.bound) (decide book.entries _)
  act_bound at Reset book out = ap (λ s. s.bound) (decide book.entries _)

  pub acts_bound : (at : ℕ) (acts : List Act) (desk : Desk) → bound_by (after_acts at acts desk).book.entries ≡ bound_by desk.book.entries
  acts_bound at [] desk = refl
  acts_bound at (act ∷ acts) desk = acts_bound at acts (after_act at act desk) ∙ act_bound at act desk.book desk.outgoing

  pub begun_bound : (at : ℕ) (acts : List Act) (start new : Desk) → IsBegun at acts start new → bound_by new.book.entries ≡ bound_by start.book.entries
  begun_bound at acts start new begun = ap (λ (d : Desk). bound_by d.book.entries) begun.new_is ∙ acts_bound at begun.done start

  -- a connection is bound to the session, whatever its machine is then
  bind_bound : (c : ℕ) (book : Book) → bound_by (with_event (Binds c) book).entries ≡ Some c
  bind_bound c book = ap (λ s. s.bound) (decide book.entries _)

  pub open_bound : (c at : ℕ) (acts : List Act) (machine : State) (desk : Desk)
      → bound_by (after_acts at acts (with_outbox (with_machine machine (with_event (Binds c) desk.book)) desk.outgoing)).book.entries ≡ Some c
  open_bound c at acts machine desk = acts_bound at acts (with_outbox (with_machine machine (with_event (Binds c) desk.book)) desk.outgoing) ∙ bind_bound c desk.book

  pub opening_bound : (c at : ℕ) (acts : List Act) (machine : State) (desk new : Desk)
      → IsBegun at acts (with_outbox (with_machine machine (with_event (Binds c) desk.book)) desk.outgoing) new → bound_by new.book.entries ≡ Some c
  opening_bound c at acts machine desk new begun =
      begun_bound at acts (with_outbox (with_machine machine (with_event (Binds c) desk.book)) desk.outgoing) new begun ∙ bind_bound c desk.book

  pub leave_bound : (c : ℕ) (book : Book) → bound_by (after_end c book).entries ≡ None
  leave_bound c book = ap (λ s. s.bound) (decide book.entries _)

  module _ (over : EntriesDecideOver) where
    leases_bound : (entries new : List Entry) → AddsLeases entries new → bound_by new ≡ bound_by entries
    leases_bound entries new adds = ap bound_by adds.are ∙ ap (λ s. s.bound) (over entries adds.added) ∙ bound_stays (state_of entries) adds.added (leases_keep adds.added adds.leases)

    pub word_bound : (at until : ℕ) (w : Word) (bodies : List (List ℕ)) (desk : Desk) → bound_by (after_word at until w bodies desk).book.entries ≡ bound_by desk.book.entries
    word_bound at until w bodies desk = leases_bound desk.book.entries _ (adds_shown until desk.book.entries w)

    pub timeout_bound : (at until : ℕ) (old : Word) (bodies : List (List ℕ)) (desk : Desk) → bound_by (after_timeout at until old bodies desk).book.entries ≡ bound_by desk.book.entries
    timeout_bound at until old bodies desk = leases_bound desk.book.entries _ (adds_timed old.standing until desk.book.entries old)

    pub request_bound : (library nr from : ℕ) (book : Book) → bound_by (after_request library nr from book).entries ≡ bound_by book.entries
    request_bound library nr from book =
        leases_bound book.entries _ (adds_one book.entries (entry_with library nr from (reply_to book.leases (state_of book.entries) library from)) (reply_is_lease library nr from _))

  pub lapse_bound : (book : Book) → bound_by (after_lapse book).entries ≡ bound_by book.entries
  lapse_bound book = ap (λ s. s.bound) (decide book.entries _)
