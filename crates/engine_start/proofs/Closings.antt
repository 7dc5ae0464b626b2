-- How a session goes on behind what was read back of it, and what closes its journal.
use Rattle.std.proofs.Common.{◌≡◌, ℕ, ◌<◌, ◌≤◌, Bool, true, false, cond, List, [], ◌∷◌, ◌++◌, length, map, Option, None, Some, refl, sym, ap, subst, ◌∙◌, append_assoc, arith}
use Rattle.std.specs.Prelude.{nat_lt}
use Rattle.std.proofs.lemmas.Bool.Decides.{nat_tests}
use Rattle.std.proofs.lemmas.List.{append-nil, length-append}
use Rattle.connection_core.specs.Outgoing.{Outgoing}
use Rattle.engine_config.specs.declared.config.DialTo.{DialTo}
use Rattle.engine_start.proofs.NewBooks.{line_from}
use Rattle.engine_start.specs.Closing.{after_leaving, after_taking_back, without_bind}
use Rattle.engine_start.specs.Restarts.{bind_end, closing_entries, lease_end, owed_hold, restarted_book}
use Rattle.engine_start.specs.Starts.{heart_of}
use Rattle.lease_core.specs.Laws.{EntriesDecide}
use Rattle.lease_core.specs.Lines.{entries_after_hold, entries_after_sends, entries_after_standing, entries_after_timeout, entries_after_word, is_news, last_line, line_of, lines_of, missing_sends, news_count, shown_owner, standing_of, word_of}
use Rattle.lease_core.specs.Runs.{owes_hold}
use Rattle.lease_core.specs.Showable.{CanTimeOut, IsOwned, NamesOwner}
use Rattle.lease_core.specs.State.{State, last_lease, last_or, lease_with_ending, no_lease, owner_in, owner_of, state_of, with_last}
use Rattle.lease_core.specs.Steps.{hold_entry, timeout_entry}
use Rattle.lease_core.specs.declared.entry.Entry.{Entry}
use Rattle.lease_core.specs.declared.entry.Entry.TheVariants.{Leave}
use Rattle.lease_core.specs.declared.event.Event.TheVariants.{TimesOut}
use Rattle.lease_core.specs.declared.lease.Ending.{Ending}
use Rattle.lease_core.specs.declared.lease.Ending.TheVariants.{GivenBack, Running, TakenBack}
use Rattle.lease_core.specs.declared.lease.Lease.{Lease}
use Rattle.lease_core.specs.declared.lease.Line.{Line}
use Rattle.lease_core.specs.declared.word.Standing.{Standing}
use Rattle.lease_core.specs.declared.word.Standing.TheVariants.{Active, Revoked}
use Rattle.resend_plan.specs.declared.item.WireItem.{WireItem}
use Rattle.seq_gaps.specs.Line.{Line as NumberLine}
use Rattle.session_book.specs.Book.{Book, with_event, with_outbox, with_sending}
use Rattle.session_book.specs.Reviving.{ReadBack, after_resume}
use Rattle.session_book.specs.Words.{after_timeout, where_bound}
use Rattle.session_core.specs.State.{State as Machine, after_leave, new_state}
use Rattle.session_core.specs.declared.names.Names.{Names}
use Rattle.session_core.specs.declared.tasks.Task.{Task}
use Rattle.switchboard.specs.Sound.{bound_of}

-- ---- the whole

with_or_not : (b : Bool) (e : Entry) (es : List Entry) → cond b (es ++ e ∷ []) es ≡ es ++ cond b (e ∷ []) []
with_or_not true e es = refl
with_or_not false e es = sym (append-nil es)

-- a hold leaves leases and connection as they are
record StayOpen (s t : State) : Type 0 where
  leases : t.leases ≡ s.leases
  bound : t.bound ≡ s.bound

held : EntriesDecide → (until : ℕ) (es : List Entry) (b : Bool) → StayOpen (state_of es) (state_of (cond b (es ++ hold_entry (state_of es) until ∷ []) es))
held decide until es true = record {
  leases = ap (λ (s : State). s.leases) (decide es (hold_entry (state_of es) until));
  bound = ap (λ (s : State). s.bound) (decide es (hold_entry (state_of es) until));
}
held decide until es false = record { leases = refl; bound = refl }

-- the end of a lease leaves the connection
still_bound : EntriesDecide → (es : List Entry) (b : Bool) → (state_of (es ++ cond b (timeout_entry (state_of es) ∷ []) [])).bound ≡ (state_of es).bound
still_bound decide es true = ap (λ (s : State). s.bound) (decide es (timeout_entry (state_of es)))
still_bound decide es false = ap (λ (xs : List Entry). (state_of xs).bound) (append-nil es)

with_end_or_not : (book : Book) (e : Entry) (b : Bool) → cond b (record book { entries = book.entries ++ e ∷ [] }) book ≡ record book { entries = book.entries ++ cond b (e ∷ []) [] }
with_end_or_not book e true = refl
with_end_or_not book e false = ap (λ (es : List Entry). record book { entries = es }) (sym (append-nil book.entries))

taking_back_is : (book : Book) → after_taking_back book ≡ record book { entries = book.entries ++ lease_end (state_of book.entries) }
taking_back_is book = with_end_or_not book (timeout_entry (state_of book.entries)) (nat_lt 0 (owner_of (state_of book.entries)))

-- a machine that rests is the same behind a leave
leaving_is : (bound : Option ℕ) (book : Book) → after_leave book.machine ≡ book.machine → without_bind bound book ≡ record book { entries = book.entries ++ bind_end bound }
leaving_is None book rests = ap (λ (es : List Entry). record book { entries = es }) (sym (append-nil book.entries))
leaving_is (Some c) book rests = ap (λ (m : Machine). record book { machine = m; entries = book.entries ++ Leave c ∷ [] }) rests

restarts : EntriesDecide → (names : Names) (dial : Option DialTo) (until : ℕ) (read : ReadBack) (expected : ℕ)
    → after_leaving (after_taking_back (after_resume names.us names.them (heart_of dial) expected until read)) ≡ restarted_book names dial until read expected
restarts decide names dial until read expected =
    let es = read.entries in
    let s = state_of es in
    let first = entries_after_hold until es in
    let second = first ++ lease_end (state_of first) in
    let stays = held decide until es (owes_hold s.latest) in
    let plain : Book = record (restarted_book names dial until read expected) { entries = first } in
    let one : after_resume names.us names.them (heart_of dial) expected until read ≡ plain =
    ap (λ (line : NumberLine Task). record plain { machine = new_state names.us names.them (heart_of dial) line }) (line_from expected) in
    let bound : (state_of second).bound ≡ s.bound = still_bound decide first (nat_lt 0 (owner_of (state_of first))) ∙ stays.bound in
    let ended : lease_end (state_of first) ≡ lease_end s = ap (λ (ls : List Lease). lease_end (record s { leases = ls })) stays.leases in
    let third : second ++ bind_end (state_of second).bound ≡ es ++ closing_entries until s =
    ap (λ (b : Option ℕ). second ++ bind_end b) bound
    ∙ ap (λ (xs : List Entry). (first ++ xs) ++ bind_end s.bound) ended
    ∙ ap (λ (xs : List Entry). (xs ++ lease_end s) ++ bind_end s.bound) (with_or_not (owes_hold s.latest) (hold_entry s until) es)
    ∙ append_assoc (es ++ owed_hold until s) (lease_end s) (bind_end s.bound)
    ∙ append_assoc es (owed_hold until s) (lease_end s ++ bind_end s.bound) in
    ap (λ (b : Book). after_leaving (after_taking_back b)) one
    ∙ ap after_leaving (taking_back_is plain)
    ∙ leaving_is (state_of second).bound (record plain { entries = second }) refl
    ∙ ap (λ (xs : List Entry). record plain { entries = xs }) third

-- ---- nobody has it, and nobody is connected

taken_from_all : (l : Lease) (ls : List Lease) (d : Lease) → owner_in (last_or d (with_last (lease_with_ending TakenBack) (l ∷ ls))).ending (last_or d (with_last (lease_with_ending TakenBack) (l ∷ ls))).library ≡ 0
taken_from_all l [] d = refl
taken_from_all l (m ∷ ls) d = taken_from_all m ls l

nobody_left : (ls : List Lease) → owner_in (last_lease (with_last (lease_with_ending TakenBack) ls)).ending (last_lease (with_last (lease_with_ending TakenBack) ls)).library ≡ 0
nobody_left [] = refl
nobody_left (l ∷ ls) = taken_from_all l ls no_lease

nobody_by : EntriesDecide → (book : Book) (b : Bool) → nat_lt 0 (owner_of (state_of book.entries)) ≡ b → owner_of (state_of (cond b (with_event TimesOut book) book).entries) ≡ 0
nobody_by decide book true is = ap owner_of (decide book.entries (timeout_entry (state_of book.entries))) ∙ nobody_left (state_of book.entries).leases
nobody_by decide book false is = grind (arith, nat_tests)

same_owner : EntriesDecide → (bound : Option ℕ) (book : Book) → owner_of (state_of (without_bind bound book).entries) ≡ owner_of (state_of book.entries)
same_owner decide None book = refl
same_owner decide (Some c) book = ap owner_of (decide book.entries (Leave c))

closed_is_owned : EntriesDecide → (book : Book) → owner_of (state_of (after_leaving (after_taking_back book)).entries) ≡ 0
closed_is_owned decide book =
    same_owner decide (bound_of (after_taking_back book)) (after_taking_back book) ∙ nobody_by decide book (nat_lt 0 (owner_of (state_of book.entries))) refl

-- and so it goes on, step by step
module _ (decide : EntriesDecide) (names : Names) (dial : Option DialTo) (until : ℕ) (read : ReadBack) (expected : ℕ) (resumed taken left : Book) (first : resumed ≡ after_resume names.us names.them (heart_of dial) expected until read)
    (second : taken ≡ after_taking_back resumed) (third : left ≡ after_leaving taken) where
  pub restarted_is : left ≡ restarted_book names dial until read expected
  restarted_is = third ∙ ap after_leaving (second ∙ ap after_taking_back first) ∙ restarts decide names dial until read expected

  pub restarted_is_owned : owner_of (state_of left.entries) ≡ 0
  restarted_is_owned = ap (λ (b : Book). owner_of (state_of b.entries)) (third ∙ ap after_leaving second) ∙ closed_is_owned decide resumed

-- what was read back is among the entries
pub recovered_within : (names : Names) (dial : Option DialTo) (until : ℕ) (read : ReadBack) (expected : ℕ) (book : Book) → book ≡ restarted_book names dial until read expected → length read.entries ≤ length book.entries
recovered_within names dial until read expected book is =
    let more = ap (λ (b : Book). length b.entries) is ∙ length-append read.entries (closing_entries until (state_of read.entries)) in
    omega arith

-- ---- a lease is taken back by its own word

runs_by : (e : Ending) (library : ℕ) → 0 < owner_in e library → e ≡ Running
runs_by Running library some = refl
runs_by (GivenBack heir) library some = absurd (omega arith)
runs_by TakenBack library some = absurd (omega arith)

not_revoked : Active ≡ Revoked → ⊥
not_revoked e = cc

pub can_take_back : (lines : List Line) → IsOwned lines → CanTimeOut lines (word_of lines)
can_take_back lines owned =
    let l = last_line lines in
    let runs : l.ending ≡ Running = runs_by l.ending l.library owned in
    record {
      showable = record {
        lease = refl;
        owner = subst (λ (e : Ending). NamesOwner (standing_of e) (shown_owner e l.library) l.library) (sym runs) refl;
        count = omega arith;
      };
      owned = owned;
      standing = λ revoked. not_revoked (ap standing_of (sym runs) ∙ revoked);
    }

pub nothing_missing : (lines : List Line) → missing_sends lines (word_of lines) ≡ 0
nothing_missing lines = omega arith

last_as_line : (d : Lease) (ls : List Lease) → last_or (line_of d) (map line_of ls) ≡ line_of (last_or d ls)
last_as_line d [] = refl
last_as_line d (l ∷ ls) = last_as_line l ls

no_news : (es : List Entry) → news_count es (word_of (lines_of es)) ≡ 0
no_news es =
    let same : (last_line (lines_of es)).sends ≡ (last_lease (state_of es).leases).sends = ap (λ (l : Line). l.sends) (last_as_line no_lease (state_of es).leases) in
    omega arith

shows_nothing : (b : Bool) (owner : ℕ) (es : List Entry) → cond b (entries_after_standing Active owner (entries_after_sends 0 es)) es ≡ es
shows_nothing true owner es = refl
shows_nothing false owner es = refl

word_adds_nothing : (es : List Entry) → IsOwned (lines_of es) → entries_after_word es (word_of (lines_of es)) ≡ es
unfolding entries_after_word
word_adds_nothing es owned =
    let l = last_line (lines_of es) in
    let w = word_of (lines_of es) in
    let runs : l.ending ≡ Running = runs_by l.ending l.library owned in
    ap (λ (st : Standing). cond (is_news es w) (entries_after_standing st w.owner (entries_after_sends (news_count es w) es)) es) (ap standing_of runs)
    ∙ ap (λ (n : ℕ). cond (is_news es w) (entries_after_standing Active w.owner (entries_after_sends n es)) es) (no_news es)
    ∙ shows_nothing (is_news es w) w.owner es

nothing_waits : (bound : Option ℕ) → where_bound bound [] ≡ []
nothing_waits None = refl
nothing_waits (Some c) = refl

entries_taken_back : (until : ℕ) (es : List Entry) → owes_hold (state_of es).latest ≡ false → IsOwned (lines_of es)
    → entries_after_timeout (word_of (lines_of es)).standing (entries_after_hold until (entries_after_word es (word_of (lines_of es)))) ≡ es ++ timeout_entry (state_of es) ∷ []
entries_taken_back until es settled owned =
    let runs : (last_line (lines_of es)).ending ≡ Running = runs_by (last_line (lines_of es)).ending (last_line (lines_of es)).library owned in
    ap (λ (st : Standing). entries_after_timeout st (entries_after_hold until (entries_after_word es (word_of (lines_of es))))) (ap standing_of runs)
    ∙ ap (λ (xs : List Entry). entries_after_timeout Active (entries_after_hold until xs)) (word_adds_nothing es owned)
    ∙ ap (λ (b : Bool). entries_after_timeout Active (cond b (es ++ hold_entry (state_of es) until ∷ []) es)) settled

pub taken_back_is : (at until : ℕ) (book : Book) (out : Outgoing) → owes_hold (state_of book.entries).latest ≡ false → IsOwned (lines_of book.entries)
    → (after_timeout at until (word_of (lines_of book.entries)) [] (with_outbox book out)).book ≡ with_event TimesOut book
taken_back_is at until book out settled owned =
    let entries = entries_after_timeout (word_of (lines_of book.entries)).standing (entries_after_hold until (entries_after_word book.entries (word_of (lines_of book.entries)))) in
    ap (λ (items : List WireItem). with_sending at items (record book { entries = entries })) (nothing_waits (state_of book.entries).bound)
    ∙ ap (λ (es : List Entry). record book { entries = es }) (entries_taken_back until book.entries settled owned)

taken_or_not : (book : Book) (b : Bool) → nat_lt 0 (owner_of (state_of book.entries)) ≡ b → 0 < owner_of (state_of book.entries) → with_event TimesOut book ≡ cond b (with_event TimesOut book) book
taken_or_not book true is some = refl
taken_or_not book false is some = absurd (grind (arith, nat_tests))

-- so it ends where a library has it
pub takes_back : (old new : Book) → 0 < owner_of (state_of old.entries) → new ≡ with_event TimesOut old → new ≡ after_taking_back old
takes_back old new some is = is ∙ taken_or_not old (nat_lt 0 (owner_of (state_of old.entries))) refl some

not_taken : (book : Book) (b : Bool) → nat_lt 0 (owner_of (state_of book.entries)) ≡ b → owner_of (state_of book.entries) ≡ 0 → book ≡ cond b (with_event TimesOut book) book
not_taken book true is none = absurd (grind (arith, nat_tests))
not_taken book false is none = refl

pub stays_free : (book : Book) → owner_of (state_of book.entries) ≡ 0 → book ≡ after_taking_back book
stays_free book none = not_taken book (nat_lt 0 (owner_of (state_of book.entries))) refl none
