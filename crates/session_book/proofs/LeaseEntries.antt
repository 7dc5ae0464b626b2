-- What the leases of a session do tells of no act, and leaves it bound as it was.
use Rattle.std.proofs.Common.{◌≡◌, ℕ, zero, suc, Bool, true, false, if◌then◌else◌, List, [], ◌∷◌, ◌++◌, refl, sym, ap, ◌∙◌, append_assoc}
use Rattle.std.specs.List.{All, filter}
use Rattle.std.proofs.lemmas.Bool.{false≢true}
use Rattle.std.proofs.lemmas.List.{append-nil}
use Rattle.std.proofs.lemmas.List.Elements.{All-append, All-cons, All-head, All-nil, All-tail}
use Rattle.lease_core.specs.Lines.{entries_after_hold, entries_after_sends, entries_after_standing, entries_after_timeout, entries_after_word, is_news, news_count}
use Rattle.lease_core.specs.Runs.{owes_hold}
use Rattle.lease_core.specs.State.{State as Totals, state_after, state_of}
use Rattle.lease_core.specs.Steps.{entry_with, hold_entry}
use Rattle.lease_core.specs.declared.entry.Entry.{Entry}
use Rattle.lease_core.specs.declared.entry.Entry.TheVariants.{Arrive, Admin, Bind, Plan, Leave, Reset, Granted, Refused, Send, Release, Timeout, Hold, Lapse}
use Rattle.lease_core.specs.declared.messages.Reply.{Reply}
use Rattle.lease_core.specs.declared.messages.Reply.TheVariants.{Granted as ToGranted, Refused as ToRefused}
use Rattle.lease_core.specs.declared.word.Standing.{Standing}
use Rattle.lease_core.specs.declared.word.Standing.TheVariants.{Active, Released, Revoked}
use Rattle.lease_core.specs.declared.word.Word.{Word}
use Rattle.message_log.specs.Growth.{GoesOn}
use Rattle.message_log.specs.Series.{with_entry}
use Rattle.message_log.specs.declared.entry.OutEntry.{OutEntry}
use Rattle.session_book.specs.Moments.{is_beat_by}
use Rattle.session_book.specs.Spells.{is_act, is_act_of, placed, placed_from}
use Rattle.session_book.specs.Words.{sent_entry, with_sends}
use Rattle.session_book.specs.Grounds.{Grounds}
use Rattle.session_book.proofs.Moments.{NoBeat}
use Rattle.session_book.proofs.Runs.{filter_no}
use Rattle.session_book.proofs.Spells.{Keeps, NoMachine}

abbrev is_lease : Entry → Bool
is_lease (Granted library nr lease from start) = true
is_lease (Refused library nr why) = true
is_lease (Send lease library ordinal number) = true
is_lease (Release lease library count heir) = true
is_lease (Timeout lease library count) = true
is_lease (Hold lease until) = true
is_lease (Lapse lease) = true
is_lease _ = false

-- an entry of a lease
abbrev pub IsLease : Entry → Type 0
IsLease e = is_lease e ≡ true

lease_keeps : (e : Entry) → IsLease e → Keeps e
lease_keeps (Arrive pos) is = refl
lease_keeps (Admin number) is = refl
lease_keeps (Bind c) is = absurd (false≢true is)
lease_keeps (Plan begin last at) is = refl
lease_keeps (Leave c) is = absurd (false≢true is)
lease_keeps (Reset series) is = refl
lease_keeps (Granted library nr lease from start) is = refl
lease_keeps (Refused library nr why) is = refl
lease_keeps (Send lease library ordinal number) is = refl
lease_keeps (Release lease library count heir) is = refl
lease_keeps (Timeout lease library count) is = refl
lease_keeps (Hold lease until) is = refl
lease_keeps (Lapse lease) is = refl

lease_no_act : (log : List (List OutEntry)) (s : Totals) (e : Entry) → IsLease e → is_act_of log s e ≡ false
lease_no_act log s (Arrive pos) is = absurd (false≢true is)
lease_no_act log s (Admin number) is = absurd (false≢true is)
lease_no_act log s (Bind c) is = absurd (false≢true is)
lease_no_act log s (Plan begin last at) is = absurd (false≢true is)
lease_no_act log s (Leave c) is = absurd (false≢true is)
lease_no_act log s (Reset series) is = absurd (false≢true is)
lease_no_act log s (Granted library nr lease from start) is = refl
lease_no_act log s (Refused library nr why) is = refl
lease_no_act log s (Send lease library ordinal number) is = refl
lease_no_act log s (Release lease library count heir) is = refl
lease_no_act log s (Timeout lease library count) is = refl
lease_no_act log s (Hold lease until) is = refl
lease_no_act log s (Lapse lease) is = refl

pub leases_keep : (es : List Entry) → All IsLease es → All Keeps es
leases_keep [] are = All-nil Keeps
leases_keep (e ∷ es) are = All-cons Keeps e es (lease_keeps e (All-head IsLease e es are)) (leases_keep es (All-tail IsLease e es are))

pub leases_no_acts : (log : List (List OutEntry)) (s : Totals) (es : List Entry) → All IsLease es → filter (is_act log) (placed_from s es) ≡ []
leases_no_acts log s [] are = refl
leases_no_acts log s (e ∷ es) are =
    filter_no (is_act log) (placed s e) (placed_from (state_after s e) es) (lease_no_act log s e (All-head IsLease e es are))
    ∙ leases_no_acts log (state_after s e) es (All-tail IsLease e es are)

lease_no_beat : (log : List (List OutEntry)) (s : Totals) (e : Entry) → IsLease e → is_beat_by log s e ≡ false
lease_no_beat log s (Arrive pos) is = refl
lease_no_beat log s (Admin number) is = absurd (false≢true is)
lease_no_beat log s (Bind c) is = refl
lease_no_beat log s (Plan begin last at) is = refl
lease_no_beat log s (Leave c) is = refl
lease_no_beat log s (Reset series) is = refl
lease_no_beat log s (Granted library nr lease from start) is = refl
lease_no_beat log s (Refused library nr why) is = refl
lease_no_beat log s (Send lease library ordinal number) is = refl
lease_no_beat log s (Release lease library count heir) is = refl
lease_no_beat log s (Timeout lease library count) is = refl
lease_no_beat log s (Hold lease until) is = refl
lease_no_beat log s (Lapse lease) is = refl

-- nor a Heartbeat
pub leases_no_beats : (log : List (List OutEntry)) (s : Totals) (es : List Entry) → All IsLease es → All (NoBeat log) (placed_from s es)
leases_no_beats log s [] are = All-nil _
leases_no_beats log s (e ∷ es) are =
    All-cons (NoBeat log) (placed s e) (placed_from (state_after s e) es) (lease_no_beat log s e (All-head IsLease e es are)) (leases_no_beats log (state_after s e) es (All-tail IsLease e es are))

lease_outside : (e : Entry) → IsLease e → NoMachine e
lease_outside (Arrive pos) is = absurd (false≢true is)
lease_outside (Admin number) is = absurd (false≢true is)
lease_outside (Bind c) is = refl
lease_outside (Plan begin last at) is = absurd (false≢true is)
lease_outside (Leave c) is = refl
lease_outside (Reset series) is = absurd (false≢true is)
lease_outside (Granted library nr lease from start) is = refl
lease_outside (Refused library nr why) is = refl
lease_outside (Send lease library ordinal number) is = refl
lease_outside (Release lease library count heir) is = refl
lease_outside (Timeout lease library count) is = refl
lease_outside (Hold lease until) is = refl
lease_outside (Lapse lease) is = refl

-- the session machine doesn't ask for them
pub leases_outside : (es : List Entry) → All IsLease es → All NoMachine es
leases_outside [] are = All-nil NoMachine
leases_outside (e ∷ es) are = All-cons NoMachine e es (lease_outside e (All-head IsLease e es are)) (leases_outside es (All-tail IsLease e es are))

pub reply_is_lease : (library nr from : ℕ) (reply : Reply) → IsLease (entry_with library nr from reply)
reply_is_lease library nr from (ToGranted lease start) = refl
reply_is_lease library nr from (ToRefused why) = refl

-- entries of leases came
pub record AddsLeases (entries new : List Entry) : Type 0 where
  pub added : List Entry
  pub are : new ≡ entries ++ added
  pub leases : All IsLease added

adds_none : (entries : List Entry) → AddsLeases entries entries
adds_none entries = record { added = []; are = sym (append-nil entries); leases = All-nil IsLease }

pub adds_one : (entries : List Entry) (e : Entry) → IsLease e → AddsLeases entries (entries ++ e ∷ [])
adds_one entries e is = record { added = e ∷ []; are = refl; leases = All-cons IsLease e [] is (All-nil IsLease) }

adds_then : (first second third : List Entry) → AddsLeases first second → AddsLeases second third → AddsLeases first third
adds_then first second third a b = record {
  added = a.added ++ b.added;
  are = b.are ∙ ap (λ es. es ++ b.added) a.are ∙ append_assoc first a.added b.added;
  leases = All-append IsLease a.added b.added a.leases b.leases;
}

adds_if : (b : Bool) (entries new : List Entry) → AddsLeases entries new → AddsLeases entries (if b then new else entries)
adds_if true entries new adds = adds
adds_if false entries new adds = adds_none entries

adds_sends : (n : ℕ) (entries : List Entry) → AddsLeases entries (entries_after_sends n entries)
adds_sends zero entries = adds_none entries
adds_sends (suc n) entries = adds_then entries (entries_after_sends n entries) _ (adds_sends n entries) (adds_one (entries_after_sends n entries) _ refl)

adds_standing : (standing : Standing) (owner : ℕ) (entries : List Entry) → AddsLeases entries (entries_after_standing standing owner entries)
adds_standing Active owner entries = adds_none entries
adds_standing Released owner entries = adds_one entries _ refl
adds_standing Revoked owner entries = adds_none entries

adds_word : (entries : List Entry) (w : Word) → AddsLeases entries (entries_after_word entries w)
unfolding entries_after_word
adds_word entries w =
    let sends = entries_after_sends (news_count entries w) entries in
    adds_if (is_news entries w) entries _ (adds_then entries sends _ (adds_sends (news_count entries w) entries) (adds_standing w.standing w.owner sends))

adds_hold : (until : ℕ) (entries : List Entry) → AddsLeases entries (entries_after_hold until entries)
adds_hold until entries = adds_if (owes_hold (state_of entries).latest) entries _ (adds_one entries (hold_entry (state_of entries) until) refl)

adds_timeout : (standing : Standing) (entries : List Entry) → AddsLeases entries (entries_after_timeout standing entries)
adds_timeout Active entries = adds_one entries _ refl
adds_timeout Released entries = adds_none entries
adds_timeout Revoked entries = adds_none entries

pub adds_shown : (until : ℕ) (entries : List Entry) (w : Word) → AddsLeases entries (entries_after_hold until (entries_after_word entries w))
adds_shown until entries w = adds_then entries (entries_after_word entries w) _ (adds_word entries w) (adds_hold until (entries_after_word entries w))

pub adds_timed : (standing : Standing) (until : ℕ) (entries : List Entry) (w : Word) → AddsLeases entries (entries_after_timeout standing (entries_after_hold until (entries_after_word entries w)))
adds_timed standing until entries w =
    let shown = entries_after_hold until (entries_after_word entries w) in
    adds_then entries shown _ (adds_shown until entries w) (adds_timeout standing shown)

pub sends_go_on : Grounds → (at : ℕ) (bodies : List (List ℕ)) (log : List (List OutEntry)) → GoesOn log (with_sends at bodies log)
sends_go_on g at [] log = g.itself log
sends_go_on g at (body ∷ bodies) log =
    let next = with_entry log (sent_entry at body) in
    g.further log next (with_sends at bodies next) (g.entry log (sent_entry at body)) (sends_go_on g at bodies next)
