-- Which events add no reply to a session's journal.
use Rattle.std.proofs.Common.{◌≡◌, ℕ, zero, suc, Bool, true, false, List, [], ◌∷◌, ◌++◌, refl, ap, ◌∙◌}
use Rattle.std.proofs.lemmas.Grind.{flat_map-append}
use Rattle.std.proofs.lemmas.List.{append-nil}
use Rattle.std.specs.Prelude.{if◌then◌else◌}
use Rattle.lease_core.specs.Lines.{entries_after_hold, entries_after_sends, entries_after_standing, entries_after_timeout, entries_after_word, heir_named, is_news, news_count}
use Rattle.lease_core.specs.Runs.{owes_hold}
use Rattle.lease_core.specs.State.{last_lease, state_of}
use Rattle.lease_core.specs.Steps.{hold_entry, release_entry, send_entry, step, timeout_entry}
use Rattle.lease_core.specs.declared.entry.Entry.{Entry}
use Rattle.lease_core.specs.declared.entry.Entry.TheVariants.{Bind, Leave}
use Rattle.lease_core.specs.declared.event.Event.TheVariants.{AdminSent, Arrives, Binds, Lapses, Plans, Resets}
use Rattle.lease_core.specs.declared.messages.Notice.{Notice}
use Rattle.lease_core.specs.declared.word.Standing.{Standing}
use Rattle.lease_core.specs.declared.word.Standing.TheVariants.{Active, Released, Revoked}
use Rattle.lease_core.specs.declared.word.Word.{Word}
use Rattle.engine_laws.specs.libraries.Replies.{replies_told, reply_told}
use Rattle.session_book.specs.Acts.{after_act, after_acts, after_binding, after_dial, after_end, after_lapse, after_message, after_ticking}
use Rattle.session_book.specs.Book.{Book, Desk, with_event, with_machine, with_outbox}
use Rattle.session_book.specs.Words.{after_timeout, after_word}
use Rattle.session_core.specs.Ask.{after_ask, ask}
use Rattle.session_core.specs.Receive.{after_receive, receive}
use Rattle.session_core.specs.Tick.{after_tick, tick}
use Rattle.session_core.specs.declared.acts.Act.{Act}
use Rattle.session_core.specs.declared.acts.Act.TheVariants.{Accept, Resend, Reset, Send}

module _ (library s : ℕ) where
  -- the same replies
  abbrev SameReplies : List Entry → List Entry → Type 0
  SameReplies more entries = replies_told library s more ≡ replies_told library s entries

  -- one entry more that is none
  one_more : (entries : List Entry) (e : Entry) → reply_told library s e ≡ [] → SameReplies (entries ++ e ∷ []) entries
  one_more entries e none = flat_map-append (reply_told library s) entries (e ∷ []) ∙ ap (λ (ns : List Notice). replies_told library s entries ++ (ns ++ [])) none ∙ append-nil (replies_told library s entries)

  either : (is : Bool) (entries more : List Entry) → SameReplies more entries → SameReplies (if is then more else entries) entries
  either true entries more same = same
  either false entries more same = refl

  act_quiet : (at : ℕ) (act : Act) (d : Desk) → SameReplies (after_act at act d).book.entries d.book.entries
  act_quiet at (Accept body) d = one_more d.book.entries (step d.book.leases (state_of d.book.entries) Arrives) refl
  act_quiet at (Send admin) d = one_more d.book.entries (step d.book.leases (state_of d.book.entries) AdminSent) refl
  act_quiet at (Resend begin last) d = one_more d.book.entries (step d.book.leases (state_of d.book.entries) (Plans begin last at)) refl
  act_quiet at Reset d = one_more d.book.entries (step d.book.leases (state_of d.book.entries) Resets) refl

  acts_quiet : (at : ℕ) (acts : List Act) (d : Desk) → SameReplies (after_acts at acts d).book.entries d.book.entries
  acts_quiet at [] d = refl
  acts_quiet at (act ∷ acts) d = acts_quiet at acts (after_act at act d) ∙ act_quiet at act d

  pub message_quiet : (at : ℕ) (body : List ℕ) (d : Desk) → SameReplies (after_message at body d).book.entries d.book.entries
  message_quiet at body d = acts_quiet at (receive d.book.machine body at).acts (with_outbox (with_machine (after_receive d.book.machine body at) d.book) d.outgoing)

  pub binding_quiet : (at c : ℕ) (body : List ℕ) (d : Desk) → SameReplies (after_binding at c body d).book.entries d.book.entries
  binding_quiet at c body d = message_quiet at body (with_outbox (with_event (Binds c) d.book) d.outgoing) ∙ one_more d.book.entries (Bind c) refl

  pub dial_quiet : (at c : ℕ) (d : Desk) → SameReplies (after_dial at c d).book.entries d.book.entries
  dial_quiet at c d =
      acts_quiet at (ask d.book.machine).acts (with_outbox (with_machine (after_ask d.book.machine at) (with_event (Binds c) d.book)) d.outgoing) ∙ one_more d.book.entries (Bind c) refl

  pub tick_quiet : (at : ℕ) (d : Desk) → SameReplies (after_ticking at d).book.entries d.book.entries
  tick_quiet at d = acts_quiet at (tick d.book.machine at).acts (with_outbox (with_machine (after_tick d.book.machine at) d.book) d.outgoing)

  pub end_quiet : (c : ℕ) (book : Book) → SameReplies (after_end c book).entries book.entries
  end_quiet c book = one_more book.entries (Leave c) refl

  pub lapse_quiet : (book : Book) → SameReplies (after_lapse book).entries book.entries
  lapse_quiet book = one_more book.entries (step book.leases (state_of book.entries) Lapses) refl

  sends_quiet : (n : ℕ) (entries : List Entry) → SameReplies (entries_after_sends n entries) entries
  sends_quiet zero entries = refl
  sends_quiet (suc n) entries = one_more (entries_after_sends n entries) (send_entry (state_of (entries_after_sends n entries))) refl ∙ sends_quiet n entries

  standing_quiet : (standing : Standing) (owner : ℕ) (entries : List Entry) → SameReplies (entries_after_standing standing owner entries) entries
  standing_quiet Released owner entries = one_more entries (release_entry (state_of entries) (heir_named owner (last_lease (state_of entries).leases).library)) refl
  standing_quiet Active owner entries = refl
  standing_quiet Revoked owner entries = refl

  word_quiet : (entries : List Entry) (w : Word) → SameReplies (entries_after_word entries w) entries
  unfolding entries_after_word
  word_quiet entries w = either (is_news entries w) entries (entries_after_standing w.standing w.owner (entries_after_sends (news_count entries w) entries))
      (standing_quiet w.standing w.owner (entries_after_sends (news_count entries w) entries) ∙ sends_quiet (news_count entries w) entries)

  hold_quiet : (until : ℕ) (entries : List Entry) → SameReplies (entries_after_hold until entries) entries
  hold_quiet until entries = either (owes_hold (state_of entries).latest) entries (entries ++ hold_entry (state_of entries) until ∷ []) (one_more entries (hold_entry (state_of entries) until) refl)

  timeout_quiet : (standing : Standing) (entries : List Entry) → SameReplies (entries_after_timeout standing entries) entries
  timeout_quiet Active entries = one_more entries (timeout_entry (state_of entries)) refl
  timeout_quiet Released entries = refl
  timeout_quiet Revoked entries = refl

  pub shown_quiet : (at until : ℕ) (w : Word) (bodies : List (List ℕ)) (d : Desk) → SameReplies (after_word at until w bodies d).book.entries d.book.entries
  shown_quiet at until w bodies d = hold_quiet until (entries_after_word d.book.entries w) ∙ word_quiet d.book.entries w

  pub timed_out_quiet : (at until : ℕ) (old : Word) (bodies : List (List ℕ)) (d : Desk) → SameReplies (after_timeout at until old bodies d).book.entries d.book.entries
  timed_out_quiet at until old bodies d =
      timeout_quiet old.standing (entries_after_hold until (entries_after_word d.book.entries old)) ∙ (hold_quiet until (entries_after_word d.book.entries old) ∙ word_quiet d.book.entries old)
