-- What a session's journal and log tell that a library did by its leases, and what the library's calls were answered that it did.
use Rattle.std.specs.Prelude.{◌≡◌, ℕ, ◌==◌, if◌then◌else◌, List, [], ◌∷◌, Ok, Err}
use Rattle.std.specs.List.{All, flat_map}
use Rattle.engine_end.specs.Records.{SessionLeft}
use Rattle.lease_core.specs.Lines.{IsShown, lines_of}
use Rattle.lease_core.specs.State.{State as Totals, series_of, state_of}
use Rattle.lease_core.specs.declared.entry.Entry.{Entry}
use Rattle.lease_core.specs.declared.entry.Entry.TheVariants.{Release, Send}
use Rattle.message_log.specs.declared.entry.OutEntry.{OutEntry}
use Rattle.headline.specs.runs.Deeds.{words_kept}
use Rattle.run_report.specs.declared.calls.Call.{Call as Kept}
use Rattle.run_report.specs.declared.calls.Call.TheVariants as calls
use Rattle.run_report.specs.declared.records.LibReport.{LibReport}
use Rattle.session_book.specs.Spells.{Placed, logged_body, placed_from}

-- A library sent a body by a lease, as the send of this ordinal, or gave the lease back after so many sends, to an heir or to nobody, which is 0.
pub data Deed : Type 0 where
  sent : ℕ → ℕ → List ℕ → Deed
  gave_back : ℕ → ℕ → ℕ → Deed

-- An entry of the journal tells what its library did: a Send with the body that the outbound log has at its number.
abbrev pub deed_of : ℕ → List (List OutEntry) → Totals → Entry → List Deed
deed_of library log s (Send lease owner ordinal number) = if owner == library then sent lease ordinal (logged_body log (series_of s) number) ∷ [] else []
deed_of library log s (Release lease owner count heir) = if owner == library then gave_back lease count heir ∷ [] else []
deed_of library log s _ = []

abbrev pub deed_at : ℕ → List (List OutEntry) → Placed → List Deed
deed_at library log p = deed_of library log p.before p.entry

abbrev pub deeds_told : ℕ → SessionLeft → List Deed
deeds_told library session = flat_map (deed_at library session.outbound) (placed_from (state_of []) session.entries)

-- A call did so where it was answered Sent or Released.
abbrev pub deed_called : ℕ → Kept → List Deed
deed_called s (calls.Send t body (Ok answer)) = if t == s then sent answer.lease answer.ordinal body ∷ [] else []
deed_called s (calls.Send t body (Err why)) = []
deed_called s (calls.Release t (Ok released)) = if t == s then gave_back released.lease released.count 0 ∷ [] else []
deed_called s (calls.Release t (Err why)) = []
deed_called s (calls.Hand t heir (Ok released)) = if t == s then gave_back released.lease released.count heir ∷ [] else []
deed_called s (calls.Hand t heir (Err why)) = []
deed_called s (calls.Request t from answer) = []
deed_called s (calls.Poll event) = []
deed_called s calls.Beat = []

abbrev pub deeds_called : ℕ → List Kept → List Deed
deeds_called s called = flat_map (deed_called s) called

-- What the journal of a session tells of a library is what its calls were answered that it did, each once and in order.
abbrev pub DidAsAnswered : LibReport → ℕ → SessionLeft → Type 0
DidAsAnswered report s session = deeds_told report.number session ≡ deeds_called s report.calls

-- Each word by which a call found a lease of a session lost is shown by the session's journal.
abbrev pub LostAsShown : LibReport → ℕ → SessionLeft → Type 0
LostAsShown report s session = All (IsShown (lines_of session.entries)) (words_kept s report.calls)
