-- One line more in front: what the calls behind it say is what is kept of the sessions, those that are told and those that are still to come.
use Rattle.std.proofs.Common.{◌≡◌, ℕ, ◌+◌, inl, inr, ◌==◌, if◌then◌else◌, Bool, true, false, List, [], ◌∷◌, ◌++◌, length, map, fold, Option, Some, None, refl, sym, ap, ◌∙◌, subst, append_assoc, append-nil, arith}
use Rattle.std.proofs.lemmas.Bool.{false≢true, and_parts, eqb-true}
use Rattle.lease_core.specs.declared.entry.Entry.{Entry}
use Rattle.lease_core.specs.declared.entry.Entry.TheVariants as entries
use Rattle.lease_core.specs.declared.entry.Holding.{Holding}
use Rattle.journal_audit.specs.Called.{Called, called_in, called_with, library_after}
use Rattle.journal_audit.specs.Cut.{cut_of}
use Rattle.journal_audit.specs.Journals.{Journal, no_journal, journal_in, journals_in, journal_with, headed}
use Rattle.journal_audit.specs.Lines.{line_of}
use Rattle.journal_audit.specs.Rules.{is_start, may_end_at, before_strays, closed, closed_at, all_in, noted, limit_in, after_entry, place_with_entry, place_with_logs, after_call, after_line, is_next_session, is_next_holding, after_holding, is_next_in, after_in, after_out}
use Rattle.journal_audit.specs.Seen.{Seen, PlaceSeen, nothing_seen}
use Rattle.journal_audit.specs.Sessions.{SessionSeen, no_session, session_after, with_holding, reader_of}
use Rattle.journal_audit.specs.Verdicts.{Gets, IsRightRead, after, after_read, is_done, is_last, IsVerdict}
use Rattle.journal_audit.specs.declared.auditing.Verdict.TheVariants.{Yes}
use Rattle.journal_audit.specs.declared.line.Call.{Call}
use Rattle.journal_audit.specs.declared.line.Call.TheVariants as call
use Rattle.journal_audit.specs.declared.line.Header.{Header}
use Rattle.journal_audit.specs.declared.line.Line.{Line}
use Rattle.journal_audit.specs.declared.line.Line.TheVariants as line
use Rattle.journal_audit.specs.declared.place.Part.{Part}
use Rattle.journal_audit.specs.declared.place.Part.TheVariants as part
use Rattle.journal_audit.specs.declared.session.Reader.{Reader}
use Rattle.journal_audit.proofs.CallsTell.{TellsOn, call_tells, end_tells}
use Rattle.journal_audit.proofs.LawfulReports.{gets-nil, gets-cons, yes_done, yes_no, journals-cons, journal-cons, journals-nil, journal-nil}
use Rattle.journal_audit.proofs.LawfulSteps.{logs_of}
use Rattle.journal_audit.proofs.Standing.{start_is, logs_is, connections_is, calls_is, next_is, call_same}

abbrev pub readers_of : List Holding → List Reader
readers_of [] = []
readers_of (h ∷ hs) = if h.library == 0 then readers_of hs else reader_of h ∷ readers_of hs

-- what is kept of a session whose further lines say this
abbrev pub whole : SessionSeen → Journal → SessionSeen
whole one j = record (fold session_after one j.entries) { inbound = one.inbound ++ j.inbound; bodies = one.bodies ++ j.outbound; readers = one.readers ++ readers_of j.holdings }

abbrev pub all_whole : List Journal → List SessionSeen
all_whole js = map (whole no_session) js

abbrev with_later : Seen → Journal → List Journal → List SessionSeen
with_later seen j js = seen.sessions ++ whole seen.current j ∷ all_whole js

-- in the entries and behind them
record TellsLogs (seen : Seen) (j : Journal) (js : List Journal) (calls : List Called) : Type 0 where
  pub entries : j.entries ≡ []
  pub tells : TellsOn (with_later seen j js) calls

-- no session is left to come
record TellsAll (sessions : List SessionSeen) (j : Journal) (js : List Journal) (calls : List Called) : Type 0 where
  pub none : j ≡ no_journal
  pub none_later : js ≡ []
  pub tells : TellsOn sessions calls

-- nothing is left to come
record IsNothing (j : Journal) (js : List Journal) (calls : List Called) : Type 0 where
  pub none : j ≡ no_journal
  pub none_later : js ≡ []
  pub none_called : calls ≡ []

abbrev TellsAt : Part → Seen → Journal → List Journal → List Called → Type 0
TellsAt part.Start seen j js calls = TellsOn (seen.sessions ++ all_whole js) calls
TellsAt part.Head seen j js calls = TellsOn (seen.sessions ++ all_whole js) calls
TellsAt part.Entries seen j js calls = TellsOn (with_later seen j js) calls
TellsAt part.Logs seen j js calls = TellsLogs seen j js calls
TellsAt part.Strays seen j js calls = TellsAll seen.sessions j js calls
TellsAt part.Connections seen j js calls = TellsAll seen.sessions j js calls
TellsAt part.Calls seen j js calls = TellsAll seen.sessions j js calls
TellsAt part.Done seen j js calls = Unit {0}

-- no session was begun
abbrev NotBegun : Part → Seen → Type 0
NotBegun part.Start seen = seen.current ≡ no_session
NotBegun part.Head seen = seen.current ≡ no_session
NotBegun part.Entries seen = Unit {0}
NotBegun part.Logs seen = Unit {0}
NotBegun part.Strays seen = Unit {0}
NotBegun part.Connections seen = Unit {0}
NotBegun part.Calls seen = Unit {0}
NotBegun part.Done seen = Unit {0}

-- A session, as its lines come.

whole_none : (one : SessionSeen) → whole one no_journal ≡ one
whole_none one = λ i. record one { inbound = append-nil one.inbound i; bodies = append-nil one.bodies i; readers = append-nil one.readers i }

record IsSameKept (a b : SessionSeen) : Type 0 where
  pub inbound : a.inbound ≡ b.inbound
  pub bodies : a.bodies ≡ b.bodies
  pub readers : a.readers ≡ b.readers

entry_keeps : (one : SessionSeen) (e : Entry) → IsSameKept (session_after one e) one
unfolding session_after
entry_keeps one (entries.Arrive pos) = record { inbound = refl; bodies = refl; readers = refl }
entry_keeps one (entries.Admin number) = record { inbound = refl; bodies = refl; readers = refl }
entry_keeps one (entries.Bind c) = record { inbound = refl; bodies = refl; readers = refl }
entry_keeps one (entries.Plan begin last at) = record { inbound = refl; bodies = refl; readers = refl }
entry_keeps one (entries.Leave c) = record { inbound = refl; bodies = refl; readers = refl }
entry_keeps one (entries.Reset series) = record { inbound = refl; bodies = refl; readers = refl }
entry_keeps one (entries.Granted library nr lease from start) = record { inbound = refl; bodies = refl; readers = refl }
entry_keeps one (entries.Refused library nr why) = record { inbound = refl; bodies = refl; readers = refl }
entry_keeps one (entries.Send lease library ordinal number) = record { inbound = refl; bodies = refl; readers = refl }
entry_keeps one (entries.Release lease library count heir) = record { inbound = refl; bodies = refl; readers = refl }
entry_keeps one (entries.Timeout lease library count) = record { inbound = refl; bodies = refl; readers = refl }
entry_keeps one (entries.Hold lease until) = record { inbound = refl; bodies = refl; readers = refl }
entry_keeps one (entries.Lapse lease) = record { inbound = refl; bodies = refl; readers = refl }

whole_entry : (one : SessionSeen) (e : Entry) (j : Journal) → whole (session_after one e) j ≡ whole one (record j { entries = e ∷ j.entries })
whole_entry one e j =
    let keeps = entry_keeps one e in
    λ i. record (fold session_after (session_after one e) j.entries) { inbound = keeps.inbound i ++ j.inbound; bodies = keeps.bodies i ++ j.outbound; readers = keeps.readers i ++ readers_of j.holdings }

-- where no entry follows
abbrev whole_logs : SessionSeen → List Holding → List (List ℕ) → List (List ℕ) → SessionSeen
whole_logs one hs inbound outbound = record one { inbound = one.inbound ++ inbound; bodies = one.bodies ++ outbound; readers = one.readers ++ readers_of hs }

logs_whole : (one : SessionSeen) (j : Journal) → j.entries ≡ [] → whole one j ≡ whole_logs one j.holdings j.inbound j.outbound
logs_whole one j none = ap (λ (es : List Entry). record (fold session_after one es) { inbound = one.inbound ++ j.inbound; bodies = one.bodies ++ j.outbound; readers = one.readers ++ readers_of j.holdings }) none

holding_by : (test : Bool) (one : SessionSeen) (h : Holding) (j : Journal) → whole_logs (if test then one else record one { readers = one.readers ++ reader_of h ∷ [] }) j.holdings j.inbound j.outbound
    ≡ record one { inbound = one.inbound ++ j.inbound; bodies = one.bodies ++ j.outbound; readers = one.readers ++ (if test then readers_of j.holdings else reader_of h ∷ readers_of j.holdings) }
holding_by true one h j = refl
holding_by false one h j = ap (λ (rs : List Reader). record one { inbound = one.inbound ++ j.inbound; bodies = one.bodies ++ j.outbound; readers = rs }) (append_assoc one.readers (reader_of h ∷ []) (readers_of j.holdings))

whole_holding : (one : SessionSeen) (h : Holding) (j : Journal) → j.entries ≡ [] → whole (with_holding h one) j ≡ whole one (record j { holdings = h ∷ j.holdings })
unfolding with_holding
whole_holding one h j none =
    logs_whole (with_holding h one) j none
    ∙ holding_by (h.library == 0) one h j
    ∙ sym (logs_whole one (record j { holdings = h ∷ j.holdings }) none)

whole_in : (one : SessionSeen) (body : List ℕ) (j : Journal) → j.entries ≡ [] → whole (record one { inbound = one.inbound ++ body ∷ [] }) j ≡ whole one (record j { inbound = body ∷ j.inbound })
whole_in one body j none =
    logs_whole (record one { inbound = one.inbound ++ body ∷ [] }) j none
    ∙ ap (λ (xs : List (List ℕ)). record one { inbound = xs; bodies = one.bodies ++ j.outbound; readers = one.readers ++ readers_of j.holdings }) (append_assoc one.inbound (body ∷ []) j.inbound)
    ∙ sym (logs_whole one (record j { inbound = body ∷ j.inbound }) none)

whole_out : (one : SessionSeen) (body : List ℕ) (j : Journal) → j.entries ≡ [] → whole (record one { bodies = one.bodies ++ body ∷ [] }) j ≡ whole one (record j { outbound = body ∷ j.outbound })
whole_out one body j none =
    logs_whole (record one { bodies = one.bodies ++ body ∷ [] }) j none
    ∙ ap (λ (xs : List (List ℕ)). record one { inbound = one.inbound ++ j.inbound; bodies = xs; readers = one.readers ++ readers_of j.holdings }) (append_assoc one.bodies (body ∷ []) j.outbound)
    ∙ sym (logs_whole one (record j { outbound = body ∷ j.outbound }) none)

-- Where a part ends.

ended_tells : (p : Part) (seen : Seen) (j : Journal) (js : List Journal) (calls : List Called) → may_end_at p seen ≡ true → TellsAll (closed_at p seen).sessions j js calls → TellsAt p seen j js calls
ended_tells part.Start seen j js calls h all = absurd (false≢true h)
ended_tells part.Head seen j js calls h all =
    subst (λ (ks : List Journal). TellsOn (seen.sessions ++ all_whole ks) calls) (sym all.none_later)
    (subst (λ (ones : List SessionSeen). TellsOn ones calls) (sym (append-nil seen.sessions)) all.tells)
ended_tells part.Entries seen j js calls h all = absurd (false≢true h)
ended_tells part.Logs seen j js calls h all = record {
  entries = ap (λ (k : Journal). k.entries) all.none;
  tells = subst (λ (ks : List Journal). TellsOn (with_later seen j ks) calls) (sym all.none_later)
      (subst (λ (k : Journal). TellsOn (with_later seen k []) calls) (sym all.none)
      (subst (λ (one : SessionSeen). TellsOn (seen.sessions ++ one ∷ []) calls) (sym (whole_none seen.current)) all.tells));
}
ended_tells part.Strays seen j js calls h all = all
ended_tells part.Connections seen j js calls h all = all
ended_tells part.Calls seen j js calls h all = all
ended_tells part.Done seen j js calls h all = absurd (false≢true h)

head_tells : (seen : Seen) (j : Journal) (js : List Journal) (calls : List Called) → NotBegun seen.place.part seen → is_start seen.place.part ≡ true
    → (NotBegun part.Head seen → TellsOn (seen.sessions ++ all_whole js) calls) → TellsAt seen.place.part seen j js calls
head_tells seen j js calls idle right behind =
    let at = start_is seen.place.part right in
    subst (λ (p : Part). TellsAt p seen j js calls) (sym at) (behind (subst (λ (p : Part). NotBegun p seen) at idle))

session_at : (p : Part) (seen : Seen) (j : Journal) (js : List Journal) (calls : List Called) → before_strays p ≡ true → NotBegun p seen
    → TellsOn ((closed_at p seen).sessions ++ whole (closed_at p seen).current j ∷ all_whole js) calls → TellsAt p seen no_journal (j ∷ js) calls
session_at part.Start seen j js calls h idle tells = absurd (false≢true h)
session_at part.Head seen j js calls h idle tells = subst (λ (one : SessionSeen). TellsOn (seen.sessions ++ whole one j ∷ all_whole js) calls) idle tells
session_at part.Entries seen j js calls h idle tells = absurd (false≢true h)
session_at part.Logs seen j js calls h idle tells = record {
  entries = refl;
  tells = subst (λ (one : SessionSeen). TellsOn (seen.sessions ++ one ∷ all_whole (j ∷ js)) calls) (sym (whole_none seen.current))
      (subst (λ (ones : List SessionSeen). TellsOn ones calls) (append_assoc seen.sessions (seen.current ∷ []) (all_whole (j ∷ js))) tells);
}
session_at part.Strays seen j js calls h idle tells = absurd (false≢true h)
session_at part.Connections seen j js calls h idle tells = absurd (false≢true h)
session_at part.Calls seen j js calls h idle tells = absurd (false≢true h)
session_at part.Done seen j js calls h idle tells = absurd (false≢true h)

session_tells : (s : ℕ) (header : Header) (limit : ℕ) (seen : Seen) (j : Journal) (js : List Journal) (calls : List Called) → NotBegun seen.place.part seen → is_next_session seen s ≡ true
    → TellsOn ((closed seen).sessions ++ whole (closed seen).current j ∷ all_whole js) calls → TellsAt seen.place.part seen no_journal (j ∷ js) calls
session_tells s header limit seen j js calls idle right behind = session_at seen.place.part seen j js calls (and_parts _ _ (and_parts _ _ right).0).0 idle behind

record IsSameSeen (a b : Seen) : Type 0 where
  pub part : a.place.part ≡ b.place.part
  pub current : a.current ≡ b.current
  pub sessions : a.sessions ≡ b.sessions
  pub library : a.library ≡ b.library

noted_keeps : (e : Entry) (seen : Seen) → IsSameSeen (noted e seen) seen
noted_keeps (entries.Arrive pos) seen = record { part = refl; current = refl; sessions = refl; library = refl }
noted_keeps (entries.Admin number) seen = record { part = refl; current = refl; sessions = refl; library = refl }
noted_keeps (entries.Bind c) seen = record { part = refl; current = refl; sessions = refl; library = refl }
noted_keeps (entries.Plan begin last at) seen = record { part = refl; current = refl; sessions = refl; library = refl }
noted_keeps (entries.Leave c) seen = record { part = refl; current = refl; sessions = refl; library = refl }
noted_keeps (entries.Reset series) seen = record { part = refl; current = refl; sessions = refl; library = refl }
noted_keeps (entries.Granted library nr lease from start) seen = record { part = refl; current = refl; sessions = refl; library = refl }
noted_keeps (entries.Refused library nr why) seen = record { part = refl; current = refl; sessions = refl; library = refl }
noted_keeps (entries.Send lease library ordinal number) seen = record { part = refl; current = refl; sessions = refl; library = refl }
noted_keeps (entries.Release lease library count heir) seen = record { part = refl; current = refl; sessions = refl; library = refl }
noted_keeps (entries.Timeout lease library count) seen = record { part = refl; current = refl; sessions = refl; library = refl }
noted_keeps (entries.Hold lease until) seen = record { part = refl; current = refl; sessions = refl; library = refl }
noted_keeps (entries.Lapse lease) seen = record { part = refl; current = refl; sessions = refl; library = refl }

entry_tells : (e : Entry) (seen : Seen) (j : Journal) (js : List Journal) (calls : List Called) → seen.place.part ≡ part.Entries
    → (NotBegun (after_entry e seen).place.part (after_entry e seen) → TellsAt (after_entry e seen).place.part (after_entry e seen) j js calls)
    → TellsAt seen.place.part seen (record j { entries = e ∷ j.entries }) js calls
entry_tells e seen j js calls at behind =
    let before = record seen { place = place_with_entry e seen.place; current = session_after seen.current e } in
    let same = noted_keeps e before in
    let follows : (after_entry e seen).place.part ≡ part.Entries = same.part ∙ at in
    let told : TellsOn (with_later (after_entry e seen) j js) calls = subst (λ (p : Part). TellsAt p (after_entry e seen) j js calls) follows (behind (subst (λ (p : Part). NotBegun p (after_entry e seen)) (sym follows) tt)) in
    subst (λ (p : Part). TellsAt p seen (record j { entries = e ∷ j.entries }) js calls) (sym at)
    (subst (λ (one : SessionSeen). TellsOn (seen.sessions ++ one ∷ all_whole js) calls) (whole_entry seen.current e j)
    (subst (λ (one : SessionSeen). TellsOn (seen.sessions ++ whole one j ∷ all_whole js) calls) same.current
    (subst (λ (ones : List SessionSeen). TellsOn (ones ++ whole (after_entry e seen).current j ∷ all_whole js) calls) same.sessions told)))

holding_tells : (h : Holding) (seen : Seen) (j : Journal) (js : List Journal) (calls : List Called) → is_next_holding seen (place_with_logs seen.place) h ≡ true
    → (NotBegun (after_holding h seen).place.part (after_holding h seen) → TellsAt (after_holding h seen).place.part (after_holding h seen) j js calls)
    → TellsAt seen.place.part seen (record j { holdings = h ∷ j.holdings }) js calls
holding_tells h seen j js calls right behind =
    let heads = and_parts _ _ (and_parts _ _ right).0 in
    let follows = logs_is (place_with_logs seen.place).part heads.0 in
    let logs : TellsLogs (after_holding h seen) j js calls = subst (λ (p : Part). TellsAt p (after_holding h seen) j js calls) follows (behind (subst (λ (p : Part). NotBegun p (after_holding h seen)) (sym follows) tt)) in
    let told = subst (λ (one : SessionSeen). TellsOn (seen.sessions ++ one ∷ all_whole js) calls) (whole_holding seen.current h j logs.entries) logs.tells in
    elim (logs_of seen.place.part seen.place refl heads.0) [
      | inl at ↦ subst (λ (p : Part). TellsAt p seen (record j { holdings = h ∷ j.holdings }) js calls) (sym at) told
      | inr at ↦ subst (λ (p : Part). TellsAt p seen (record j { holdings = h ∷ j.holdings }) js calls) (sym at) (record { entries = logs.entries; tells = told })
    ]

in_tells : (pos : ℕ) (body : List ℕ) (seen : Seen) (j : Journal) (js : List Journal) (calls : List Called) → is_next_in seen pos ≡ true
    → (NotBegun seen.place.part (after_in body seen) → TellsAt seen.place.part (after_in body seen) j js calls) → TellsAt seen.place.part seen (record j { inbound = body ∷ j.inbound }) js calls
in_tells pos body seen j js calls right behind =
    let held = (and_parts _ _ (and_parts _ _ right).0).0 in
    let at = logs_is seen.place.part (and_parts _ _ held).0 in
    let logs : TellsLogs (after_in body seen) j js calls = subst (λ (p : Part). TellsAt p (after_in body seen) j js calls) at (behind (subst (λ (p : Part). NotBegun p (after_in body seen)) (sym at) tt)) in
    subst (λ (p : Part). TellsAt p seen (record j { inbound = body ∷ j.inbound }) js calls) (sym at)
    (record { entries = logs.entries; tells = subst (λ (one : SessionSeen). TellsOn (seen.sessions ++ one ∷ all_whole js) calls) (whole_in seen.current body j logs.entries) logs.tells })

out_tells : (body : List ℕ) (seen : Seen) (j : Journal) (js : List Journal) (calls : List Called) → all_in seen ≡ true
    → (NotBegun seen.place.part (after_out body seen) → TellsAt seen.place.part (after_out body seen) j js calls) → TellsAt seen.place.part seen (record j { outbound = body ∷ j.outbound }) js calls
out_tells body seen j js calls right behind =
    let held = (and_parts _ _ right).0 in
    let at = logs_is seen.place.part (and_parts _ _ held).0 in
    let logs : TellsLogs (after_out body seen) j js calls = subst (λ (p : Part). TellsAt p (after_out body seen) j js calls) at (behind (subst (λ (p : Part). NotBegun p (after_out body seen)) (sym at) tt)) in
    subst (λ (p : Part). TellsAt p seen (record j { outbound = body ∷ j.outbound }) js calls) (sym at)
    (record { entries = logs.entries; tells = subst (λ (one : SessionSeen). TellsOn (seen.sessions ++ one ∷ all_whole js) calls) (whole_out seen.current body j logs.entries) logs.tells })

line_tells : (read : Option Line) (limit : ℕ) (last : Bool) (seen : Seen) (j : Journal) (js : List Journal) (calls : List Called) → NotBegun seen.place.part seen → IsRightRead seen last read
    → (last ≡ true → IsNothing j js calls)
    → (NotBegun (after_read limit read seen).place.part (after_read limit read seen) → TellsAt (after_read limit read seen).place.part (after_read limit read seen) j js calls)
    → TellsAt seen.place.part seen (journal_with read j) (headed read j js) (called_with seen.library read calls)
line_tells None limit last seen j js calls idle right none behind = absurd right
line_tells (Some line.Head) limit last seen j js calls idle right none behind = head_tells seen j js calls idle right behind
line_tells (Some (line.Session s header)) limit last seen j js calls idle right none behind = session_tells s header limit seen j js calls idle right (behind tt)
line_tells (Some (line.Entry e)) limit last seen j js calls idle right none behind = entry_tells e seen j js calls (next_is seen.place.part seen.place.limit seen.place.entries e right).0 behind
line_tells (Some (line.Holding h)) limit last seen j js calls idle right none behind = holding_tells h seen j js calls right behind
line_tells (Some (line.In pos body)) limit last seen j js calls idle right none behind = in_tells pos body seen j js calls right behind
line_tells (Some (line.Out number body)) limit last seen j js calls idle right none behind = out_tells body seen j js calls (and_parts _ _ right).0 behind
line_tells (Some (line.Series series)) limit last seen j js calls idle right none behind = out_tells [] seen j js calls (and_parts _ _ right).0 behind
line_tells (Some (line.Stray library nr s)) limit last seen j js calls idle right none behind = ended_tells seen.place.part seen j js calls (and_parts _ _ right).1 (behind tt)
line_tells (Some (line.Connection c s written)) limit last seen j js calls idle right none behind = ended_tells seen.place.part seen j js calls (and_parts _ _ (and_parts _ _ (and_parts _ _ right).0).0).1 (behind tt)
line_tells (Some (line.Wrote bytes)) limit last seen j js calls idle right none behind =
    let at = connections_is seen.place.part (and_parts _ _ (and_parts _ _ right).0).0 in
    let told : TellsAll seen.sessions j js calls = subst (λ (p : Part). TellsAt p (after_line limit (line.Wrote bytes) seen) j js calls) at (behind (subst (λ (p : Part). NotBegun p (after_line limit (line.Wrote bytes) seen)) (sym at) tt)) in
    subst (λ (p : Part). TellsAt p seen j js calls) (sym at) told
line_tells (Some (line.Library library reads)) limit last seen j js calls idle right none behind = ended_tells seen.place.part seen j js calls (and_parts _ _ right).0 (behind tt)
line_tells (Some (line.Call c)) limit last seen j js calls idle right none behind =
    let at = calls_is seen.place.part (and_parts _ _ right).0 in
    let follows : (after_call c seen).place.part ≡ part.Calls = ap (λ (p : PlaceSeen). p.part) (call_same c seen) ∙ at in
    let told : TellsAll (after_call c seen).sessions j js calls = subst (λ (p : Part). TellsAt p (after_call c seen) j js calls) follows (behind (subst (λ (p : Part). NotBegun p (after_call c seen)) (sym follows) tt)) in
    subst (λ (p : Part). TellsAt p seen j js (record { library = seen.library; call = c } ∷ calls)) (sym at)
    (record { none = told.none; none_later = told.none_later; tells = call_tells c seen calls (and_parts _ _ right).1 told.tells })
line_tells (Some line.End) limit last seen j js calls idle right none behind =
    let parts = and_parts _ _ right in
    let ends = and_parts _ _ parts.1 in
    let left = none parts.0 in
    ended_tells seen.place.part seen j js calls ends.0
    (record { none = left.none; none_later = left.none_later; tells = subst (λ (cs : List Called). TellsOn (closed seen).sessions cs) (sym left.none_called) (end_tells (closed seen).sessions ends.1) })

-- Whole reports.

called-nil : (library : ℕ) → called_in library [] ≡ []
unfolding called_in
called-nil library = refl

called-cons : (library : ℕ) (l : List ℕ) (lines : List (List ℕ)) → called_in library (l ∷ lines) ≡ called_with library (line_of l) (called_in (library_after library (line_of l)) lines)
unfolding called_in
called-cons library l lines = refl

closed_library : (p : Part) (seen : Seen) → (closed_at p seen).library ≡ seen.library
closed_library part.Start seen = refl
closed_library part.Head seen = refl
closed_library part.Entries seen = refl
closed_library part.Logs seen = refl
closed_library part.Strays seen = refl
closed_library part.Connections seen = refl
closed_library part.Calls seen = refl
closed_library part.Done seen = refl

call_library : (c : Call) (seen : Seen) → (after_call c seen).library ≡ seen.library
call_library (call.Asked nr) seen = refl
call_library (call.Replied nr reply) seen = refl
call_library (call.Read s lease pos body) seen = refl
call_library (call.Sent s lease ordinal body) seen = refl
call_library (call.GaveBack s lease count heir) seen = refl
call_library call.Other seen = refl

library_same : (limit : ℕ) (read : Option Line) (seen : Seen) → (after_read limit read seen).library ≡ library_after seen.library read
library_same limit None seen = refl
library_same limit (Some line.Head) seen = refl
library_same limit (Some (line.Session s header)) seen = closed_library seen.place.part seen
library_same limit (Some (line.Entry e)) seen = (noted_keeps e _).library
library_same limit (Some (line.Holding h)) seen = refl
library_same limit (Some (line.In pos body)) seen = refl
library_same limit (Some (line.Out number body)) seen = refl
library_same limit (Some (line.Series series)) seen = refl
library_same limit (Some (line.Stray library nr s)) seen = closed_library seen.place.part seen
library_same limit (Some (line.Connection c s written)) seen = closed_library seen.place.part seen
library_same limit (Some (line.Wrote bytes)) seen = refl
library_same limit (Some (line.Library library reads)) seen = refl
library_same limit (Some (line.Call c)) seen = call_library c seen
library_same limit (Some line.End) seen = closed_library seen.place.part seen

-- the last line has none behind it
last_none : (library : ℕ) (lines : List (List ℕ)) (rest : List ℕ) → is_last lines rest ≡ true → IsNothing (journal_in lines) (journals_in lines) (called_in library lines)
last_none library [] rest h = record { none = journal-nil; none_later = journals-nil; none_called = called-nil library }
last_none library (l ∷ lines) rest h = absurd (let none = eqb-true (length (l ∷ lines)) 0 (and_parts _ _ h).0 in omega arith)

done_tells : (p : Part) (seen : Seen) (j : Journal) (js : List Journal) (calls : List Called) → is_done p ≡ true → TellsAt p seen j js calls
done_tells part.Start seen j js calls h = absurd (false≢true h)
done_tells part.Head seen j js calls h = absurd (false≢true h)
done_tells part.Entries seen j js calls h = absurd (false≢true h)
done_tells part.Logs seen j js calls h = absurd (false≢true h)
done_tells part.Strays seen j js calls h = absurd (false≢true h)
done_tells part.Connections seen j js calls h = absurd (false≢true h)
done_tells part.Calls seen j js calls h = absurd (false≢true h)
done_tells part.Done seen j js calls h = tt

lines_tell : (lines : List (List ℕ)) (seen : Seen) (n : ℕ) (rest : List ℕ) → NotBegun seen.place.part seen → Gets seen n lines rest Yes
    → TellsAt seen.place.part seen (journal_in lines) (journals_in lines) (called_in seen.library lines)
lines_tell [] seen n rest idle gets = done_tells seen.place.part seen (journal_in []) (journals_in []) (called_in seen.library []) (yes_done (is_done seen.place.part) n (gets-nil seen n rest Yes gets))
lines_tell (l ∷ lines) seen n rest idle gets =
    elim (gets-cons seen n l lines rest Yes gets) [
      | inl right ↦
          let read = line_of l in
          let next = after l lines seen in
          let later = library_after seen.library read in
          let library : next.library ≡ later = library_same (limit_in lines) read seen in
          let one = line_tells read (limit_in lines) (is_last lines rest) seen (journal_in lines) (journals_in lines) (called_in later lines) idle right.0
          (λ last. last_none later lines rest last)
          (λ begun. subst (λ (k : ℕ). TellsAt next.place.part next (journal_in lines) (journals_in lines) (called_in k lines)) library (lines_tell lines next (n + 1) rest begun right.1)) in
          subst (λ (j : Journal). TellsAt seen.place.part seen j (journals_in (l ∷ lines)) (called_in seen.library (l ∷ lines))) (sym (journal-cons l lines))
          (subst (λ (js : List Journal). TellsAt seen.place.part seen (journal_with read (journal_in lines)) js (called_in seen.library (l ∷ lines))) (sym (journals-cons l lines))
          (subst (λ (calls : List Called). TellsAt seen.place.part seen (journal_with read (journal_in lines)) (headed read (journal_in lines) (journals_in lines)) calls) (sym (called-cons seen.library l lines)) one))
      | inr wrong ↦ absurd (yes_no n wrong.1)
    ]

-- what the calls of a right report say is what its sessions come to
pub reports_tell : (text : List ℕ) → IsVerdict text Yes → TellsOn (all_whole (journals_in (cut_of text).lines)) (called_in 0 (cut_of text).lines)
reports_tell text verdict = lines_tell (cut_of text).lines nothing_seen 1 (cut_of text).rest refl verdict
