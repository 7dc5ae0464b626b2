-- What holds of a session is kept by each entry.
use Rattle.std.proofs.Common.{◌≡◌, ℕ, ◌≤◌, List, [], ◌∷◌, length, map, refl, sym, ap, subst, ◌∙◌, arith}
use Rattle.std.proofs.lemmas.List.{length_push}
use Rattle.lease_core.specs.declared.entry.Entry.{Entry}
use Rattle.lease_core.specs.declared.entry.Entry.TheVariants.{Admin}
use Rattle.lease_core.specs.State.{state_of, state_after, with_last, one_more}
use Rattle.message_log.specs.Series.{with_entry}
use Rattle.message_log.specs.declared.entry.OutEntry.{OutEntry}
use Rattle.resend_plan.specs.Fit.{HasFitBodies}
use Rattle.fix_fields.specs.declared.limits.TheConstants.{LONGEST_NAME}
use Rattle.session_core.specs.State.{State}
use Rattle.resend_plan.specs.declared.item.WireItem.{WireItem}
use Rattle.session_book.specs.Book.{Book, after_sending}
use Rattle.session_book.specs.Kept.{IsBook}

abbrev pub lengths : List (List OutEntry) → List ℕ
lengths log = map (λ entries. length entries) log

pub lengths_pushed : (log : List (List OutEntry)) (entry : OutEntry) → 1 ≤ length log → lengths (with_entry log entry) ≡ with_last one_more (lengths log)
lengths_pushed [] entry h = absurd (omega arith)
lengths_pushed (entries ∷ []) entry h = ap (λ n. n ∷ []) (length_push entries entry)
lengths_pushed (entries ∷ (next ∷ later)) entry h = ap (λ ns. length entries ∷ ns) (lengths_pushed (next ∷ later) entry (omega arith))

-- the log keeps its series, at least one
pub series_pushed : (log : List (List OutEntry)) (entry : OutEntry) → 1 ≤ length (with_entry log entry)
series_pushed [] entry = omega arith
series_pushed (entries ∷ []) entry = omega arith
series_pushed (entries ∷ (next ∷ later)) entry = omega arith

-- a session message was sent
pub admin_is_book :
    (book : Book) (machine : State) (leases : ℕ) (before entries : List Entry) (n at : ℕ) (entry : OutEntry) (outbound : List (List OutEntry))
    → IsBook book
    → machine ≡ record (book.machine) { sent = at }
    → before ≡ book.entries
    → state_of entries ≡ state_after (state_of before) (Admin n)
    → outbound ≡ with_entry book.outbound entry
    → HasFitBodies (with_entry book.outbound entry)
    → IsBook (record { machine = machine; leases = leases; entries = entries; inbound = book.inbound; outbound = outbound })
admin_is_book book machine leases before entries n at entry outbound is machine_is before_is state_is outbound_is fit =
    let after : state_of entries ≡ state_after (state_of book.entries) (Admin n) = state_is ∙ ap (λ b. state_after (state_of b) (Admin n)) before_is in
    record {
      inbound = is.inbound ∙ sym (ap (λ s. s.inbound) after);
      outbound = ap lengths outbound_is ∙ lengths_pushed book.outbound entry is.begun ∙ ap (λ ns. with_last one_more ns) is.outbound ∙ sym (ap (λ s. s.series) after);
      begun = subst (λ log. 1 ≤ length log) (sym outbound_is) (series_pushed book.outbound entry);
      off = λ none. ap (λ m. m.phase) machine_is ∙ is.off (sym (ap (λ s. s.bound) after) ∙ none);
      fit = subst HasFitBodies (sym outbound_is) fit;
      us = subst (λ m. length m.names.us ≤ LONGEST_NAME) (sym machine_is) is.us;
      them = subst (λ m. length m.names.them ≤ LONGEST_NAME) (sym machine_is) is.them;
    }

-- a sending changes a moment alone
pub phase_sent : (at : ℕ) (items : List WireItem) (machine : State) → (after_sending at items machine).phase ≡ machine.phase
phase_sent at [] machine = refl
phase_sent at (item ∷ items) machine = refl

pub names_sent : (at : ℕ) (items : List WireItem) (machine : State) → (after_sending at items machine).names ≡ machine.names
names_sent at [] machine = refl
names_sent at (item ∷ items) machine = refl
