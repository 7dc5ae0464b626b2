-- What is known of the events of one session: what each of them leaves of the outbound text of its connections.
use Rattle.std.proofs.Common.{◌≡◌, ◌≢◌, ℕ, ◌≤◌, List, [], ◌++◌, length, Some}
use Rattle.connection_core.specs.Items.{AreItemsOf}
use Rattle.connection_core.specs.Outgoing.{Outgoing, after_makings, after_writing, no_outgoing, waiting_text}
use Rattle.lease_core.specs.declared.entry.Entry.{Entry}
use Rattle.lease_core.specs.declared.word.Word.{Word}
use Rattle.session_book.specs.OutEntry.{OutEntry}
use Rattle.session_book.specs.Names2.{Names2}
use Rattle.session_book.specs.WireItem.{WireItem}
use Rattle.session_book.specs.Acts.{after_binding, after_dial, after_end, after_lapse, after_message, after_request, after_ticking}
use Rattle.session_book.specs.Book.{Book, Desk, with_outbox}
use Rattle.session_book.specs.Kept.{IsBook}
use Rattle.session_book.specs.Texts.{IsTextOf}
use Rattle.session_book.specs.Words.{after_timeout, after_word, shown_sends}
use Rattle.switchboard.specs.Ready.{GoOnFrom}
use Rattle.switchboard.specs.Sound.{bound_of}

-- an event of a session goes on with the text of the connection to which it is bound, and keeps those of the others
pub record KeepsTexts (old new : Desk) : Type 0 where
  pub text : (names : Names2) (before : List Entry) (c : ℕ) → bound_of old.book ≡ Some c → IsTextOf names before c old.book old.outgoing → IsTextOf names before c new.book new.outgoing
  pub others : (names : Names2) (before : List Entry) (c : ℕ) (out : Outgoing) → bound_of old.book ≢ Some c → IsTextOf names before c old.book out → IsTextOf names before c new.book out
  pub entries : GoOnFrom old.book.entries new.book.entries

-- a session is bound to a connection on which nothing was queued
pub record OpensText (c : ℕ) (old new : Desk) : Type 0 where
  pub text : (names : Names2) (before first : List Entry) → old.book.entries ≡ before ++ first → AreItemsOf names old.book.outbound [] old.outgoing → IsTextOf names before c new.book new.outgoing
  pub others : (names : Names2) (before : List Entry) (d : ℕ) (out : Outgoing) → c ≢ d → IsTextOf names before d old.book out → IsTextOf names before d new.book out
  pub entries : GoOnFrom old.book.entries new.book.entries

pub record TextLaws : Type 0 where
  pub message : (at : ℕ) (body : List ℕ) (desk : Desk) → IsBook desk.book → KeepsTexts desk (after_message at body desk)
  pub tick : (at : ℕ) (desk : Desk) → IsBook desk.book → KeepsTexts desk (after_ticking at desk)
  pub word : (at until : ℕ) (w : Word) (bodies : List (List ℕ)) (desk : Desk) → IsBook desk.book → length bodies ≡ shown_sends desk.book.entries w → KeepsTexts desk (after_word at until w bodies desk)
  pub timeout : (at until : ℕ) (w : Word) (bodies : List (List ℕ)) (desk : Desk) → IsBook desk.book → length bodies ≡ shown_sends desk.book.entries w → KeepsTexts desk (after_timeout at until w bodies desk)
  pub request : (library nr from : ℕ) (desk : Desk) → IsBook desk.book → KeepsTexts desk (with_outbox (after_request library nr from desk.book) desk.outgoing)
  pub lapse : (desk : Desk) → IsBook desk.book → KeepsTexts desk (with_outbox (after_lapse desk.book) desk.outgoing)
  pub binding : (c at : ℕ) (body : List ℕ) (desk : Desk) → IsBook desk.book → OpensText c desk (after_binding at c body desk)
  pub dial : (c at : ℕ) (desk : Desk) → IsBook desk.book → OpensText c desk (after_dial at c desk)
  pub leave : (names : Names2) (before : List Entry) (c d : ℕ) (book : Book) (out : Outgoing) → IsTextOf names before c book out → IsTextOf names before c (after_end d book) out
  -- what is done with the texts alone
  pub kept : (names : Names2) (before : List Entry) (c : ℕ) (book : Book) (out later : Outgoing)
      → ((items : List WireItem) → AreItemsOf names book.outbound items out → AreItemsOf names book.outbound items later)
      → IsTextOf names before c book out → IsTextOf names before c book later
  pub first : (names : Names2) (log : List (List OutEntry)) → AreItemsOf names log [] no_outgoing
  pub make : (names : Names2) (log : List (List OutEntry)) (items : List WireItem) (out : Outgoing) (count : ℕ) → AreItemsOf names log items out → AreItemsOf names log items (after_makings names log count out)
  pub write : (names : Names2) (log : List (List OutEntry)) (items : List WireItem) (out : Outgoing) (n : ℕ) → AreItemsOf names log items out → n ≤ length (waiting_text out) → AreItemsOf names log items (after_writing n out)
