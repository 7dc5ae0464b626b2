-- What was read back stays what it is with each record, and makes a session.
use Rattle.std.proofs.Common.{◌≡◌, ℕ, ◌+◌, ◌≤◌, Bool, true, false, if◌then◌else◌, List, [], ◌∷◌, ◌++◌, length, Option, None, Some, codes, decimal, refl, sym, ap, subst, ◌∙◌, arith}
use Rattle.std.proofs.lemmas.List.{length_push, map_push}
use Rattle.lease_core.specs.Laws.{EntriesDecide}
use Rattle.lease_core.specs.Lines.{entries_after_hold}
use Rattle.lease_core.specs.Runs.{owes_hold}
use Rattle.lease_core.specs.State.{State as Totals, inbound_after, series_after, state_of, with_last, one_more}
use Rattle.lease_core.specs.Steps.{hold_entry}
use Rattle.lease_core.specs.declared.entry.Entry.{Entry}
use Rattle.lease_core.specs.declared.entry.Entry.TheVariants.{Arrive, Admin, Bind, Plan, Leave, Reset, Granted, Refused, Send, Release, Timeout, Hold, Lapse}
use Rattle.message_log.specs.Series.{with_entry}
use Rattle.message_log.specs.declared.entry.OutEntry.{OutEntry}
use Rattle.fix_fields.specs.declared.limits.TheConstants.{LONGEST_NAME}
use Rattle.resend_plan.specs.Fit.{HasFitBodies, IsFit}
use Rattle.seq_gaps.specs.Line.{after_fill, fresh_line}
use Rattle.fix_fields.specs.Field.{tagged_text}
use Rattle.session_core.specs.Admin.{admin_text, is_session_entry, logon_text, heartbeat_text, test_request_text, resend_request_text, reject_text, logout_text}
use Rattle.session_core.specs.State.{State, new_state}
use Rattle.session_core.specs.declared.acts.Admin.{Admin as Message}
use Rattle.session_core.specs.declared.acts.Admin.TheVariants.{Logon, Heartbeat, TestRequest, ResendRequest, Reject, Logout}
use Rattle.session_book.specs.Kept.{IsBook}
use Rattle.session_book.specs.Reviving.{CanBeSent, IsReadBack, ReadBack, message_entry, inbound_with, is_session_text, outbound_with}
use Rattle.session_book.specs.Words.{sent_entry}
use Rattle.session_book.proofs.Books.{lengths, lengths_pushed, series_pushed}

-- logs with so many inbound messages, and so many entries in each series
record Tally (inbound : List (List ℕ)) (outbound : List (List OutEntry)) (count : ℕ) (series : List ℕ) : Type 0 where
  received : length inbound ≡ count
  sent : lengths outbound ≡ series
  begun : 1 ≤ length outbound
  fit : HasFitBodies outbound

module _
    (pushed : (log : List (List OutEntry)) (entry : OutEntry) → HasFitBodies log → IsFit entry.body → HasFitBodies (with_entry log entry))
    (turned : (log : List (List OutEntry)) → HasFitBodies log → HasFitBodies (log ++ [] ∷ [])) where
  tally_sent : (entry : OutEntry) (inbound : List (List ℕ)) (outbound : List (List OutEntry)) (count : ℕ) (series : List ℕ)
      → Tally inbound outbound count series → IsFit entry.body → Tally inbound (with_entry outbound entry) count (with_last one_more series)
  tally_sent entry inbound outbound count series is fit = record {
    received = is.received;
    sent = lengths_pushed outbound entry is.begun ∙ ap (λ ns. with_last one_more ns) is.sent;
    begun = series_pushed outbound entry;
    fit = pushed outbound entry is.fit fit;
  }

  tally_after : (e : Entry) (at : ℕ) (body : List ℕ) (inbound : List (List ℕ)) (outbound : List (List OutEntry)) (count : ℕ) (series : List ℕ)
      → Tally inbound outbound count series → CanBeSent e body → Tally (inbound_with e body inbound) (outbound_with e at body outbound) (inbound_after count e) (series_after series e)
  tally_after (Arrive pos) at body inbound outbound count series is fit =
      record { received = length_push inbound body ∙ ap (λ n. n + 1) is.received; sent = is.sent; begun = is.begun; fit = is.fit }
  tally_after (Admin number) at body inbound outbound count series is fit = tally_sent (message_entry at body) inbound outbound count series is fit
  tally_after (Bind c) at body inbound outbound count series is fit = is
  tally_after (Plan begin last moment) at body inbound outbound count series is fit = is
  tally_after (Leave c) at body inbound outbound count series is fit = is
  tally_after (Reset next) at body inbound outbound count series is fit = record {
    received = is.received;
    sent = map_push (λ es. length es) outbound [] ∙ ap (λ ns. ns ++ 0 ∷ []) is.sent;
    begun = (let more = length_push outbound [] in omega arith);
    fit = turned outbound is.fit;
  }
  tally_after (Granted library nr lease from start) at body inbound outbound count series is fit = is
  tally_after (Refused library nr why) at body inbound outbound count series is fit = is
  tally_after (Send lease library ordinal number) at body inbound outbound count series is fit = tally_sent (sent_entry at body) inbound outbound count series is fit
  tally_after (Release lease library sends heir) at body inbound outbound count series is fit = is
  tally_after (Timeout lease library sends) at body inbound outbound count series is fit = is
  tally_after (Hold lease until) at body inbound outbound count series is fit = is
  tally_after (Lapse lease) at body inbound outbound count series is fit = is

  -- with one record more
  pub read_goes_on :
      EntriesDecide
      → (e : Entry) (at : ℕ) (body : List ℕ) (read : ReadBack) (leases : ℕ) (entries : List Entry) (inbound : List (List ℕ)) (outbound : List (List OutEntry))
      → IsReadBack read
      → CanBeSent e body
      → entries ≡ read.entries ++ e ∷ []
      → inbound ≡ inbound_with e body read.inbound
      → outbound ≡ outbound_with e at body read.outbound
      → IsReadBack (record { leases = leases; entries = entries; inbound = inbound; outbound = outbound })
  read_goes_on decide e at body read leases entries inbound outbound is fit entries_are inbound_is outbound_is =
      let s = state_of read.entries in
      let was : Tally read.inbound read.outbound s.inbound s.series = record { received = is.inbound; sent = is.outbound; begun = is.begun; fit = is.fit } in
      let now = tally_after e at body read.inbound read.outbound s.inbound s.series was fit in
      let after = ap state_of entries_are ∙ decide read.entries e in
      record {
        inbound = ap length inbound_is ∙ now.received ∙ sym (ap (λ (t : Totals). t.inbound) after);
        outbound = ap lengths outbound_is ∙ now.sent ∙ sym (ap (λ (t : Totals). t.series) after);
        begun = subst (λ log. 1 ≤ length log) (sym outbound_is) now.begun;
        fit = subst HasFitBodies (sym outbound_is) now.fit;
      }

-- a hold changes nothing of what the logs and the connection are
kept_if : {T : Type 0} (f : Totals → T) (b : Bool) (entries after : List Entry) → f (state_of after) ≡ f (state_of entries) → f (state_of (if b then after else entries)) ≡ f (state_of entries)
kept_if f true entries after same = same
kept_if f false entries after same = refl

inbound_held : EntriesDecide → (until : ℕ) (entries : List Entry) → (state_of (entries_after_hold until entries)).inbound ≡ (state_of entries).inbound
inbound_held decide until entries = kept_if (λ s. s.inbound) (owes_hold (state_of entries).latest) entries _ (ap (λ (s : Totals). s.inbound) (decide entries (hold_entry (state_of entries) until)))

series_held : EntriesDecide → (until : ℕ) (entries : List Entry) → (state_of (entries_after_hold until entries)).series ≡ (state_of entries).series
series_held decide until entries = kept_if (λ s. s.series) (owes_hold (state_of entries).latest) entries _ (ap (λ (s : Totals). s.series) (decide entries (hold_entry (state_of entries) until)))

pub bound_held : EntriesDecide → (until : ℕ) (entries : List Entry) → (state_of (entries_after_hold until entries)).bound ≡ (state_of entries).bound
bound_held decide until entries = kept_if (λ s. s.bound) (owes_hold (state_of entries).latest) entries _ (ap (λ (s : Totals). s.bound) (decide entries (hold_entry (state_of entries) until)))

-- what was read back makes a session
pub resumed_is_book :
    EntriesDecide
    → (us them : List ℕ) (dials : Option ℕ) (expected until : ℕ) (read : ReadBack) (machine : State) (leases : ℕ) (entries : List Entry) (inbound : List (List ℕ)) (outbound : List (List OutEntry))
    → IsReadBack read
    → length us ≤ LONGEST_NAME
    → length them ≤ LONGEST_NAME
    → machine ≡ new_state us them dials (after_fill fresh_line expected)
    → entries ≡ entries_after_hold until read.entries
    → inbound ≡ read.inbound
    → outbound ≡ read.outbound
    → IsBook (record { machine = machine; leases = leases; entries = entries; inbound = inbound; outbound = outbound })
resumed_is_book decide us them dials expected until read machine leases entries inbound outbound is us_short them_short machine_is entries_are inbound_is outbound_is = record {
  inbound = ap length inbound_is ∙ is.inbound ∙ sym (ap (λ (es : List Entry). (state_of es).inbound) entries_are ∙ inbound_held decide until read.entries);
  outbound = ap lengths outbound_is ∙ is.outbound ∙ sym (ap (λ (es : List Entry). (state_of es).series) entries_are ∙ series_held decide until read.entries);
  begun = subst (λ log. 1 ≤ length log) (sym outbound_is) is.begun;
  off = λ none. ap (λ (m : State). m.phase) machine_is;
  fit = subst HasFitBodies (sym outbound_is) is.fit;
  us = subst (λ (m : State). length m.names.us ≤ LONGEST_NAME) (sym machine_is) us_short;
  them = subst (λ (m : State). length m.names.them ≤ LONGEST_NAME) (sym machine_is) them_short;
}

-- the text of a session message tells whether it is a session entry
reject_told : (b : Bool) (head more last : List ℕ) → is_session_text ((if b then (codes "35=3" ++ 1 ∷ head) ++ more else codes "35=3" ++ 1 ∷ head) ++ last) ≡ false
reject_told true head more last = refl
reject_told false head more last = refl

pub entries_told : (message : Message) (number : ℕ) → is_session_text (admin_text message number) ≡ is_session_entry message
unfolding logon_text heartbeat_text test_request_text resend_request_text reject_text logout_text
entries_told (Logon heart true) number = refl
entries_told (Logon heart false) number = refl
entries_told (Heartbeat None) number = refl
entries_told (Heartbeat (Some test)) number = refl
entries_told TestRequest number = refl
entries_told (ResendRequest begin last) number = refl
entries_told (Reject seq tag kind reason) number =
    reject_told _ (tagged_text (codes "45") (decimal seq) ++ tagged_text (codes "371") (decimal tag)) (tagged_text (codes "372") kind) (tagged_text (codes "373") (decimal reason))
entries_told (Logout None) number = refl
entries_told (Logout (Some text)) number = refl
