-- Which entries leave the spells of a journal beginning with Logons, and that a dial begins one so.
use Rattle.std.proofs.Common.{◌≡◌, ℕ, zero, suc, Bool, true, false, if◌then◌else◌, List, [], ◌∷◌, ◌++◌, append_assoc, fold, is_some, Some, refl, sym, ap, subst, ◌∙◌}
use Rattle.std.proofs.lemmas.List.Elements.{All-cons, All-head, All-nil, All-push, All-tail}
use Rattle.std.specs.List.{All}
use Rattle.headline.specs.Dialled.{BeginsByLogon}
use Rattle.lease_core.specs.Laws.{EntriesDecide, EntriesDecideOver}
use Rattle.lease_core.specs.Lines.{entries_after_hold, entries_after_sends, entries_after_standing, entries_after_timeout, entries_after_word, heir_named, is_news, news_count}
use Rattle.lease_core.specs.Runs.{is_bind, owes_hold}
use Rattle.lease_core.specs.State.{State as Totals, last_lease, series_of, state_after, state_of, with_last}
use Rattle.lease_core.specs.Steps.{entry_with, hold_entry, release_entry, reply_by, send_entry, step, timeout_entry, why_refused}
use Rattle.lease_core.specs.declared.entry.Entry.{Entry}
use Rattle.lease_core.specs.declared.entry.Entry.TheVariants.{Admin, Arrive, Bind, Granted, Hold, Lapse, Leave, Plan, Refused, Release, Reset as ResetEntry, Send as SendEntry, Timeout}
use Rattle.lease_core.specs.declared.event.Event.TheVariants.{AdminSent, Arrives, Lapses, Plans, Resets}
use Rattle.lease_core.specs.declared.messages.Reply.{Reply}
use Rattle.lease_core.specs.declared.messages.Reply.TheVariants.{Granted as ToGranted, Refused as ToRefused}
use Rattle.lease_core.specs.declared.word.Standing.{Standing}
use Rattle.lease_core.specs.declared.word.Standing.TheVariants.{Active, Released, Revoked}
use Rattle.lease_core.specs.declared.word.Word.{Word}
use Rattle.message_log.specs.declared.entry.OutEntry.{OutEntry}
use Rattle.session_book.specs.Acts.{after_act, after_acts, after_end, after_lapse, after_message, after_request, after_ticking}
use Rattle.session_book.specs.Book.{Book, Desk, with_machine, with_outbox}
use Rattle.session_book.specs.Spells.{Placed, Spell, new_spell, placed, spell_with, spells_after, spells_behind, spells_from}
use Rattle.session_book.specs.Told.{IsLogged}
use Rattle.session_book.specs.Words.{after_timeout, after_word}
use Rattle.session_core.specs.Receive.{after_receive, receive}
use Rattle.session_core.specs.Tick.{after_tick, tick}
use Rattle.session_core.specs.declared.acts.Act.{Act}
use Rattle.session_core.specs.declared.acts.Act.TheVariants.{Accept, Resend, Reset, Send}
use Rattle.session_core.specs.declared.acts.Admin.TheVariants.{Logon}

changed_last : {T : Type 0} (f : T → T) (xs : List T) (x : T) → with_last f (xs ++ x ∷ []) ≡ xs ++ f x ∷ []
changed_last f [] x = refl
changed_last f (y ∷ []) x = refl
changed_last f (y ∷ (z ∷ zs)) x = ap (λ l. y ∷ l) (changed_last f (z ∷ zs) x)

spells_join : (spells : List Spell) (s : Totals) (first second : List Entry) → spells_from spells s (first ++ second) ≡ spells_from (spells_from spells s first) (fold state_after s first) second
spells_join spells s [] second = refl
spells_join spells s (e ∷ es) second = spells_join (spells_after spells s e) (state_after s e) es second

module _ (log : List (List OutEntry)) (heart : ℕ) where
  abbrev Begins : Spell → Type 0
  Begins spell = BeginsByLogon log heart spell

  -- the spell of each connection begins with a Logon
  abbrev pub LogonsFirst : List Entry → Type 0
  LogonsFirst entries = All (BeginsByLogon log heart) (spells_behind [] entries)

  -- a spell that begins so has more entries
  with_more : (more : List Placed) (spell : Spell) → Begins spell → Begins (spell_with more spell)
  with_more more spell is = record {
    before = is.before;
    number = is.number;
    later = is.later ++ more;
    entries = ap (λ (ps : List Placed). ps ++ more) is.entries;
    logged = is.logged;
  }

  last_more : (more : List Placed) (spells : List Spell) → All Begins spells → All Begins (with_last (spell_with more) spells)
  last_more more [] all = all
  last_more more (x ∷ []) all = All-cons Begins (spell_with more x) [] (with_more more x (All-head Begins x [] all)) (All-nil Begins)
  last_more more (x ∷ (y ∷ ys)) all = All-cons Begins x (with_last (spell_with more) (y ∷ ys)) (All-head Begins x (y ∷ ys) all) (last_more more (y ∷ ys) (All-tail Begins x (y ∷ ys) all))

  where_bound : (bound : Bool) (more : List Placed) (spells : List Spell) → All Begins spells → All Begins (if bound then with_last (spell_with more) spells else spells)
  where_bound true more spells all = last_more more spells all
  where_bound false more spells all = all

  -- no Bind begins a spell of its own
  entry_kept : (spells : List Spell) (s : Totals) (e : Entry) → is_bind (Some e) ≡ false → All Begins spells → All Begins (spells_after spells s e)
  entry_kept spells s (Bind c) none all = absurd (cc)
  entry_kept spells s (Leave c) none all = all
  entry_kept spells s (Arrive pos) none all = where_bound (is_some s.bound) (placed s (Arrive pos) ∷ []) spells all
  entry_kept spells s (Admin number) none all = where_bound (is_some s.bound) (placed s (Admin number) ∷ []) spells all
  entry_kept spells s (Plan begin last at) none all = where_bound (is_some s.bound) (placed s (Plan begin last at) ∷ []) spells all
  entry_kept spells s (ResetEntry series) none all = where_bound (is_some s.bound) (placed s (ResetEntry series) ∷ []) spells all
  entry_kept spells s (Granted library nr lease from start) none all = where_bound (is_some s.bound) (placed s (Granted library nr lease from start) ∷ []) spells all
  entry_kept spells s (Refused library nr why) none all = where_bound (is_some s.bound) (placed s (Refused library nr why) ∷ []) spells all
  entry_kept spells s (SendEntry lease library ordinal number) none all = where_bound (is_some s.bound) (placed s (SendEntry lease library ordinal number) ∷ []) spells all
  entry_kept spells s (Release lease library count heir) none all = where_bound (is_some s.bound) (placed s (Release lease library count heir) ∷ []) spells all
  entry_kept spells s (Timeout lease library count) none all = where_bound (is_some s.bound) (placed s (Timeout lease library count) ∷ []) spells all
  entry_kept spells s (Hold lease until) none all = where_bound (is_some s.bound) (placed s (Hold lease until) ∷ []) spells all
  entry_kept spells s (Lapse lease) none all = where_bound (is_some s.bound) (placed s (Lapse lease) ∷ []) spells all

  one_more : (entries : List Entry) (e : Entry) → is_bind (Some e) ≡ false → LogonsFirst entries → LogonsFirst (entries ++ e ∷ [])
  one_more entries e none all =
      subst (All Begins) (sym (spells_join [] (state_of []) entries (e ∷ []))) (entry_kept (spells_behind [] entries) (fold state_after (state_of []) entries) e none all)

  either : (is : Bool) (more entries : List Entry) → LogonsFirst more → LogonsFirst entries → LogonsFirst (if is then more else entries)
  either true more entries one two = one
  either false more entries one two = two

  -- what the session machine asks for
  act_kept : (at : ℕ) (act : Act) (d : Desk) → LogonsFirst d.book.entries → LogonsFirst (after_act at act d).book.entries
  act_kept at (Accept body) d = one_more d.book.entries (step d.book.leases (state_of d.book.entries) Arrives) refl
  act_kept at (Send admin) d = one_more d.book.entries (step d.book.leases (state_of d.book.entries) AdminSent) refl
  act_kept at (Resend begin last) d = one_more d.book.entries (step d.book.leases (state_of d.book.entries) (Plans begin last at)) refl
  act_kept at Reset d = one_more d.book.entries (step d.book.leases (state_of d.book.entries) Resets) refl

  acts_kept : (at : ℕ) (acts : List Act) (d : Desk) → LogonsFirst d.book.entries → LogonsFirst (after_acts at acts d).book.entries
  acts_kept at [] d all = all
  acts_kept at (act ∷ acts) d all = acts_kept at acts (after_act at act d) (act_kept at act d all)

  pub message_kept : (at : ℕ) (body : List ℕ) (d : Desk) → LogonsFirst d.book.entries → LogonsFirst (after_message at body d).book.entries
  message_kept at body d = acts_kept at (receive d.book.machine body at).acts (with_outbox (with_machine (after_receive d.book.machine body at) d.book) d.outgoing)

  pub tick_kept : (at : ℕ) (d : Desk) → LogonsFirst d.book.entries → LogonsFirst (after_ticking at d).book.entries
  tick_kept at d = acts_kept at (tick d.book.machine at).acts (with_outbox (with_machine (after_tick d.book.machine at) d.book) d.outgoing)

  pub end_kept : (c : ℕ) (book : Book) → LogonsFirst book.entries → LogonsFirst (after_end c book).entries
  end_kept c book = one_more book.entries (Leave c) refl

  -- what leases do
  reply_is_none : (library nr from : ℕ) (reply : Reply) → is_bind (Some (entry_with library nr from reply)) ≡ false
  reply_is_none library nr from (ToGranted lease start) = refl
  reply_is_none library nr from (ToRefused why) = refl

  pub request_kept : (library nr from : ℕ) (book : Book) → LogonsFirst book.entries → LogonsFirst (after_request library nr from book).entries
  request_kept library nr from book =
      let s = state_of book.entries in
      let reply = reply_by s (why_refused book.leases s library from) in
      one_more book.entries (entry_with library nr from reply) (reply_is_none library nr from reply)

  pub lapse_kept : (book : Book) → LogonsFirst book.entries → LogonsFirst (after_lapse book).entries
  lapse_kept book = one_more book.entries (step book.leases (state_of book.entries) Lapses) refl

  sends_kept : (n : ℕ) (entries : List Entry) → LogonsFirst entries → LogonsFirst (entries_after_sends n entries)
  sends_kept zero entries all = all
  sends_kept (suc n) entries all = one_more (entries_after_sends n entries) (send_entry (state_of (entries_after_sends n entries))) refl (sends_kept n entries all)

  standing_kept : (standing : Standing) (owner : ℕ) (entries : List Entry) → LogonsFirst entries → LogonsFirst (entries_after_standing standing owner entries)
  standing_kept Released owner entries = one_more entries (release_entry (state_of entries) (heir_named owner (last_lease (state_of entries).leases).library)) refl
  standing_kept Active owner entries = λ all. all
  standing_kept Revoked owner entries = λ all. all

  word_kept : (entries : List Entry) (w : Word) → LogonsFirst entries → LogonsFirst (entries_after_word entries w)
  unfolding entries_after_word
  word_kept entries w all =
      let sent = entries_after_sends (news_count entries w) entries in
      either (is_news entries w) (entries_after_standing w.standing w.owner sent) entries (standing_kept w.standing w.owner sent (sends_kept (news_count entries w) entries all)) all

  hold_kept : (until : ℕ) (entries : List Entry) → LogonsFirst entries → LogonsFirst (entries_after_hold until entries)
  hold_kept until entries all =
      either (owes_hold (state_of entries).latest) (entries ++ hold_entry (state_of entries) until ∷ []) entries (one_more entries (hold_entry (state_of entries) until) refl all) all

  taken_back_kept : (standing : Standing) (entries : List Entry) → LogonsFirst entries → LogonsFirst (entries_after_timeout standing entries)
  taken_back_kept Active entries = one_more entries (timeout_entry (state_of entries)) refl
  taken_back_kept Released entries = λ all. all
  taken_back_kept Revoked entries = λ all. all

  pub shown_kept : (at until : ℕ) (w : Word) (bodies : List (List ℕ)) (d : Desk) → LogonsFirst d.book.entries → LogonsFirst (after_word at until w bodies d).book.entries
  shown_kept at until w bodies d all = hold_kept until (entries_after_word d.book.entries w) (word_kept d.book.entries w all)

  pub timeout_kept : (at until : ℕ) (old : Word) (bodies : List (List ℕ)) (d : Desk) → LogonsFirst d.book.entries → LogonsFirst (after_timeout at until old bodies d).book.entries
  timeout_kept at until old bodies d all =
      taken_back_kept old.standing (entries_after_hold until (entries_after_word d.book.entries old)) (hold_kept until (entries_after_word d.book.entries old) (word_kept d.book.entries old all))

  -- a Bind, and the Logon directly behind it
  pub dial_begins : EntriesDecide → EntriesDecideOver → (entries : List Entry) (c number : ℕ) → IsLogged log (series_of (state_of (entries ++ Bind c ∷ []))) number (Logon heart false) → LogonsFirst entries
      → LogonsFirst ((entries ++ Bind c ∷ []) ++ Admin number ∷ [])
  dial_begins decide over entries c number logged all =
      let s = state_after (fold state_after (state_of []) entries) (Bind c) in
      let same : state_of (entries ++ Bind c ∷ []) ≡ s = decide entries (Bind c) ∙ ap (λ (t : Totals). state_after t (Bind c)) (over [] entries) in
      let more = placed s (Admin number) ∷ [] in
      let spell = spell_with more (new_spell c) in
      let spells : spells_behind [] ((entries ++ Bind c ∷ []) ++ Admin number ∷ []) ≡ spells_behind [] entries ++ spell ∷ [] =
      ap (spells_behind []) (append_assoc entries (Bind c ∷ []) (Admin number ∷ [])) ∙ spells_join [] (state_of []) entries (Bind c ∷ Admin number ∷ [])
      ∙ changed_last (spell_with more) (spells_behind [] entries) (new_spell c) in
      subst (All Begins) (sym spells) (All-push Begins (spells_behind [] entries) spell all (record {
        before = s;
        number = number;
        later = [];
        entries = refl;
        logged = subst (λ (t : Totals). IsLogged log (series_of t) number (Logon heart false)) same logged;
      }))
