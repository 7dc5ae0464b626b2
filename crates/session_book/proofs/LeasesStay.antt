-- What the session machine asks for changes no leases.
use Rattle.std.proofs.Common.{◌≡◌, ℕ, List, [], ◌∷◌, ◌++◌, Option, refl, ap, subst, sym, ◌∙◌}
use Rattle.connection_core.specs.Outgoing.{Outgoing}
use Rattle.lease_core.specs.Laws.{EntriesDecide, LinesGoOn}
use Rattle.lease_core.specs.Lines.{lines_after, lines_of}
use Rattle.lease_core.specs.State.{last_lease, reserved_by, state_of}
use Rattle.lease_core.specs.declared.entry.Entry.{Entry}
use Rattle.lease_core.specs.declared.event.Event.TheVariants.{Binds}
use Rattle.lease_core.specs.declared.lease.Lease.{Lease}
use Rattle.lease_core.specs.declared.lease.Line.{Line}
use Rattle.session_core.specs.State.{State}
use Rattle.session_core.specs.declared.acts.Act.{Act}
use Rattle.session_core.specs.declared.acts.Act.TheVariants.{Accept, Resend, Reset, Send}
use Rattle.session_book.specs.Acts.{IsBegun, after_act, after_acts, after_end}
use Rattle.session_book.specs.Book.{Book, Desk, with_event, with_machine, with_outbox}
use Rattle.session_book.specs.Leases.{HasSameLeases}

same_leases : (book : Book) → HasSameLeases book book
same_leases book = record { leases = refl; lines = refl; reserved = refl }

leases_then : (first second third : Book) → HasSameLeases first second → HasSameLeases second third → HasSameLeases first third
leases_then first second third a b = record { leases = b.leases ∙ a.leases; lines = b.lines ∙ a.lines; reserved = b.reserved ∙ a.reserved }

-- an entry that is none of a lease
record IsNoLease (e : Entry) : Type 0 where
  lines : (before : List Line) → lines_after before e ≡ before
  reserved : (before : Option (ℕ × ℕ)) (last : Lease) → reserved_by before last e ≡ before

module _ (decide : EntriesDecide) (go_on : LinesGoOn) where
  one_entry : (book new : Book) (e : Entry) → new.leases ≡ book.leases → new.entries ≡ book.entries ++ e ∷ [] → IsNoLease e → HasSameLeases book new
  one_entry book new e leases are none = record {
    leases = leases;
    lines = ap lines_of are ∙ go_on book.entries e ∙ none.lines (lines_of book.entries);
    reserved = ap (λ es. (state_of es).reserved) are ∙ ap (λ s. s.reserved) (decide book.entries e) ∙ none.reserved (state_of book.entries).reserved (last_lease (state_of book.entries).leases);
  }

  act_leases : (at : ℕ) (act : Act) (book : Book) (out : Outgoing) → HasSameLeases book (after_act at act (with_outbox book out)).book
  act_leases at (Accept body) book out = one_entry book _ _ refl refl (record { lines = λ before. refl; reserved = λ before last. refl })
  act_leases at (Send admin) book out = one_entry book _ _ refl refl (record { lines = λ before. refl; reserved = λ before last. refl })
  act_leases at (Resend begin last) book out = one_entry book _ _ refl refl (record { lines = λ before. refl; reserved = λ before last. refl })
  act_leases at Reset book out = one_entry book _ _ refl refl (record { lines = λ before. refl; reserved = λ before last. refl })

  pub acts_leases : (at : ℕ) (acts : List Act) (desk : Desk) → HasSameLeases desk.book (after_acts at acts desk).book
  acts_leases at [] desk = same_leases desk.book
  acts_leases at (act ∷ acts) desk =
      let next = after_act at act desk in
      leases_then desk.book next.book (after_acts at acts next).book (act_leases at act desk.book desk.outgoing) (acts_leases at acts next)

  pub begun_leases : (at : ℕ) (acts : List Act) (start new : Desk) → IsBegun at acts start new → HasSameLeases start.book new.book
  begun_leases at acts start new begun = subst (λ (d : Desk). HasSameLeases start.book d.book) (sym begun.new_is) (acts_leases at begun.done start)

  -- acts on a session whose machine went on
  pub machine_leases : (at : ℕ) (acts : List Act) (machine : State) (desk : Desk) → HasSameLeases desk.book (after_acts at acts (with_outbox (with_machine machine desk.book) desk.outgoing)).book
  machine_leases at acts machine desk =
      let same = acts_leases at acts (with_outbox (with_machine machine desk.book) desk.outgoing) in
      record { leases = same.leases; lines = same.lines; reserved = same.reserved }

  -- and the same behind the Bind of a connection
  bound_leases : (c : ℕ) (machine : State) (book : Book) → HasSameLeases book (with_machine machine (with_event (Binds c) book))
  bound_leases c machine book = one_entry book _ _ refl refl (record { lines = λ before. refl; reserved = λ before last. refl })

  pub opening_leases : (c at : ℕ) (acts : List Act) (machine : State) (desk new : Desk)
      → IsBegun at acts (with_outbox (with_machine machine (with_event (Binds c) desk.book)) desk.outgoing) new → HasSameLeases desk.book new.book
  opening_leases c at acts machine desk new begun =
      let bound = with_machine machine (with_event (Binds c) desk.book) in
      leases_then desk.book bound new.book (bound_leases c machine desk.book) (begun_leases at acts (with_outbox bound desk.outgoing) new begun)

  pub open_leases : (c at : ℕ) (acts : List Act) (machine : State) (desk : Desk)
      → HasSameLeases desk.book (after_acts at acts (with_outbox (with_machine machine (with_event (Binds c) desk.book)) desk.outgoing)).book
  open_leases c at acts machine desk =
      let bound = with_machine machine (with_event (Binds c) desk.book) in
      leases_then desk.book bound _ (bound_leases c machine desk.book) (acts_leases at acts (with_outbox bound desk.outgoing))

  pub leave_leases : (c : ℕ) (book : Book) → HasSameLeases book (after_end c book)
  leave_leases c book = one_entry book _ _ refl refl (record { lines = λ before. refl; reserved = λ before last. refl })
