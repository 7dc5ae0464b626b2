-- The acts of the session machine are what the journal tells.
use Rattle.std.proofs.Common.{◌≡◌, ℕ, zero, suc, ◌+◌, List, [], ◌∷◌, ◌++◌, length, Option, Some, is_some, refl, sym, ap, subst, ◌∙◌, append_assoc}
use Rattle.std.specs.List.{slice_get}
use Rattle.std.proofs.lemmas.Bool.{false≢true}
use Rattle.std.proofs.lemmas.List.{append-nil, length_push}
use Rattle.lease_core.specs.State.{State as Totals, sent_in_series, series_of, state_after, state_of}
use Rattle.lease_core.specs.declared.entry.Entry.{Entry}
use Rattle.lease_core.specs.declared.entry.Entry.TheVariants.{Arrive, Admin, Bind, Plan, Reset}
use Rattle.lease_core.specs.declared.event.Event.TheVariants.{Binds}
use Rattle.message_log.specs.Growth.{GoesOn}
use Rattle.message_log.specs.Series.{entry_at, with_entry}
use Rattle.message_log.specs.declared.entry.OutEntry.{OutEntry}
use Rattle.session_core.specs.declared.acts.Act.{Act}
use Rattle.session_core.specs.declared.acts.Act.TheVariants.{Accept, Resend, Reset as Restart, Send as SendAct}
use Rattle.session_core.specs.declared.acts.Admin.{Admin as Message}
use Rattle.session_book.specs.Acts.{admin_entry, after_act, after_acts}
use Rattle.connection_core.specs.Outgoing.{Outgoing}
use Rattle.session_core.specs.Admin.{admin_text}
use Rattle.session_core.specs.State.{State}
use Rattle.session_book.specs.Book.{Book, Desk, with_event, with_machine, with_outbox}
use Rattle.session_book.specs.Kept.{IsBook}
use Rattle.session_book.proofs.News.{got_last, named}
use Rattle.session_book.proofs.Telling.{LogsAgree, agree_after, sent_is, series_are}
use Rattle.session_book.specs.Told.{CarriesOut, IsLogged, TellActs, TellsAct}
use Rattle.session_book.specs.Grounds.{EntriesStay, Grounds}

-- what is found in a list is found in one that goes on from it
got_first : {T : Type 0} (xs ys : List T) (n : ℕ) (x : T) → slice_get xs n ≡ Some x → slice_get (xs ++ ys) n ≡ Some x
got_first {T} [] ys n x is = absurd (false≢true (ap (λ (o : Option T). is_some o) is))
got_first (y ∷ xs) ys zero x is = is
got_first (y ∷ xs) ys (suc n) x is = got_first xs ys n x is

-- an act that was carried out with one entry
pub record OneCarried (act : Act) (old new : Desk) : Type 0 where
  pub e : Entry
  pub entries_are : new.book.entries ≡ old.book.entries ++ e ∷ []
  pub more : List (List ℕ)
  pub inbound : new.book.inbound ≡ old.book.inbound ++ more
  pub outbound : GoesOn old.book.outbound new.book.outbound
  pub told : TellsAct new.book.inbound new.book.outbound (state_of old.book.entries) act e

abbrev InboundAgrees : Book → Type 0
InboundAgrees book = (state_of book.entries).inbound ≡ length book.inbound

module _ (stay : EntriesStay) where
  logged_on : (earlier later : List (List OutEntry)) (k n : ℕ) (message : Message) → GoesOn earlier later → IsLogged earlier k n message → IsLogged later k n message
  logged_on earlier later k n message on is =
      record {
        entry = is.entry;
        found = stay earlier later k n on (ap (λ (e : Option OutEntry). is_some e) is.found) ∙ is.found;
        body = is.body;
        session = is.session;
      }

  pub tells_on : (inbound more : List (List ℕ)) (earlier later : List (List OutEntry)) (s : Totals) (act : Act) (e : Entry) → GoesOn earlier later → TellsAct inbound earlier s act e → TellsAct (inbound ++ more) later s act e
  tells_on inbound more earlier later s (Accept body) e on is = (is.0, (is.1.0, got_first inbound more is.0 body is.1.1))
  tells_on inbound more earlier later s (SendAct message) e on is = (is.0, (is.1.0, logged_on earlier later (series_of s) is.0 message on is.1.1))
  tells_on inbound more earlier later s (Resend begin last) e on is = is
  tells_on inbound more earlier later s Restart e on is = is

module _ (g : Grounds) where
  one_carried : (at : ℕ) (act : Act) (book : Book) (out : Outgoing) → LogsAgree book → InboundAgrees book → OneCarried act (with_outbox book out) (after_act at act (with_outbox book out))
  one_carried at (Accept body) book out is in_is = record {
    e = Arrive (state_of book.entries).inbound;
    entries_are = refl;
    more = body ∷ [];
    inbound = refl;
    outbound = g.itself book.outbound;
    told = ((state_of book.entries).inbound, (refl, ap (λ pos. slice_get (book.inbound ++ body ∷ []) pos) in_is ∙ got_last book.inbound body));
  }
  one_carried at (SendAct message) book out is in_is =
      let s = state_of book.entries in
      let log = book.outbound in
      let entry = admin_entry at message book in
      let newer = with_entry log entry in
      record {
        e = Admin (sent_in_series s + 1);
        entries_are = refl;
        more = [];
        inbound = sym (append-nil book.inbound);
        outbound = g.entry log entry;
        told = (
          sent_in_series s + 1,
          (
            refl,
            record {
              entry = entry;
              found = ap (λ k. entry_at newer k (sent_in_series s + 1)) (series_are book is) ∙ ap (λ n. entry_at newer (length log) (n + 1)) (sent_is book is) ∙ named log entry is.begun;
              body = ap (λ n. admin_text message (n + 1)) (sym (sent_is book is));
              session = refl;
            },
          ),
        );
      }
  one_carried at (Resend begin last) book out is in_is = record {
    e = Plan begin last at;
    entries_are = refl;
    more = [];
    inbound = sym (append-nil book.inbound);
    outbound = g.itself book.outbound;
    told = (at, refl);
  }
  one_carried at Restart book out is in_is = record {
    e = Reset (series_of (state_of book.entries) + 1);
    entries_are = refl;
    more = [];
    inbound = sym (append-nil book.inbound);
    outbound = g.series book.outbound;
    told = (series_of (state_of book.entries) + 1, refl);
  }

  inbound_after : (at : ℕ) (act : Act) (book : Book) (out : Outgoing) → InboundAgrees book → InboundAgrees (after_act at act (with_outbox book out)).book
  inbound_after at (Accept body) book out is = ap (λ s. s.inbound) (g.decide book.entries _) ∙ ap (λ n. n + 1) is ∙ sym (length_push book.inbound body)
  inbound_after at (SendAct message) book out is = ap (λ s. s.inbound) (g.decide book.entries _) ∙ is
  inbound_after at (Resend begin last) book out is = ap (λ s. s.inbound) (g.decide book.entries _) ∙ is
  inbound_after at Restart book out is = ap (λ s. s.inbound) (g.decide book.entries _) ∙ is

  carried_then : EntriesStay → (act : Act) (acts : List Act) (a b d : Desk) → OneCarried act a b → CarriesOut acts b d → CarriesOut (act ∷ acts) a d
  carried_then stay act acts a b d one rest =
      let s = state_of a.book.entries in
      let mid : state_of b.book.entries ≡ state_after s one.e = ap state_of one.entries_are ∙ g.decide a.book.entries one.e in
      record {
        added = one.e ∷ rest.added;
        entries_are = rest.entries_are ∙ ap (λ es. es ++ rest.added) one.entries_are ∙ append_assoc a.book.entries (one.e ∷ []) rest.added;
        more = one.more ++ rest.more;
        inbound = rest.inbound ∙ ap (λ bodies. bodies ++ rest.more) one.inbound ∙ append_assoc a.book.inbound one.more rest.more;
        outbound = g.further a.book.outbound b.book.outbound d.book.outbound one.outbound rest.outbound;
        told = (
          subst (λ inbound. TellsAct inbound d.book.outbound s act one.e) (sym rest.inbound) (tells_on stay b.book.inbound rest.more b.book.outbound d.book.outbound s act one.e rest.outbound one.told),
          subst (λ t. TellActs d.book.inbound d.book.outbound t acts rest.added) mid rest.told,
        );
      }

  pub acts_carried : EntriesStay → (at : ℕ) (acts : List Act) (desk : Desk) → LogsAgree desk.book → InboundAgrees desk.book → CarriesOut acts desk (after_acts at acts desk)
  acts_carried stay at [] desk is in_is = record {
    added = [];
    entries_are = sym (append-nil desk.book.entries);
    more = [];
    inbound = sym (append-nil desk.book.inbound);
    outbound = g.itself desk.book.outbound;
    told = tt;
  }
  acts_carried stay at (act ∷ acts) desk is in_is =
      carried_then stay act acts desk (after_act at act desk) (after_acts at acts (after_act at act desk))
      (one_carried at act desk.book desk.outgoing is in_is)
      (acts_carried stay at acts (after_act at act desk) (agree_after g at act desk.book desk.outgoing is) (inbound_after at act desk.book desk.outgoing in_is))

  -- acts on a session whose machine went on
  pub carried_with : EntriesStay → (at : ℕ) (acts : List Act) (machine : State) (desk : Desk) → IsBook desk.book → CarriesOut acts desk (after_acts at acts (with_outbox (with_machine machine desk.book) desk.outgoing))
  carried_with stay at acts machine desk is =
      let told = acts_carried stay at acts (with_outbox (with_machine machine desk.book) desk.outgoing) (record { outbound = is.outbound; begun = is.begun }) (sym is.inbound) in
      record { added = told.added; entries_are = told.entries_are; more = told.more; inbound = told.inbound; outbound = told.outbound; told = told.told }

  -- the same behind the bind of a connection
  pub bound_with : EntriesStay → (c at : ℕ) (acts : List Act) (machine : State) (desk : Desk) → IsBook desk.book
      → CarriesOut acts (with_outbox (with_event (Binds c) desk.book) desk.outgoing) (after_acts at acts (with_outbox (with_machine machine (with_event (Binds c) desk.book)) desk.outgoing))
  bound_with stay c at acts machine desk is =
      let after = g.decide desk.book.entries (Bind c) in
      let told = acts_carried stay at acts (with_outbox (with_machine machine (with_event (Binds c) desk.book)) desk.outgoing)
      (record { outbound = is.outbound ∙ sym (ap (λ s. s.series) after); begun = is.begun })
      (ap (λ s. s.inbound) after ∙ sym is.inbound) in
      record { added = told.added; entries_are = told.entries_are; more = told.more; inbound = told.inbound; outbound = told.outbound; told = told.told }
