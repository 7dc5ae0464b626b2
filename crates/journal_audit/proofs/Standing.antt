-- What the lines so far and the lines behind them tell together of the session whose lines come.
use Rattle.std.proofs.Common.{◌≡◌, ℕ, suc, zero, ◌+◌, ◌⊎◌, inl, inr, ◌&&◌, ◌==◌, if◌then◌else◌, Bool, true, false, List, [], ◌∷◌, ◌++◌, length, drop, fold, Option, Some, None, refl, sym, ap, ◌∙◌, subst, arith}
use Rattle.std.proofs.lemmas.Bool.{false≢true, and_parts, eqb-true}
use Rattle.std.proofs.lemmas.List.{drop_all}
use Rattle.std.specs.Prelude.{slice_get}
use Rattle.lease_core.specs.Holdings.{holdings_of}
use Rattle.lease_core.specs.Runs.{IsNext, IsRunFrom}
use Rattle.lease_core.specs.State.{State, state_of, state_after}
use Rattle.lease_core.specs.declared.entry.Entry.{Entry}
use Rattle.lease_core.specs.declared.entry.Entry.TheVariants as entries
use Rattle.lease_core.specs.declared.entry.Holding.{Holding}
use Rattle.journal_audit.specs.Journals.{Journal, no_journal}
use Rattle.journal_audit.specs.Rules.{IsNextIn, before_strays, is_logs, is_start, is_connections, is_calls, may_end_at, closed_at, all_out, all_in, all_held, noted, same_holding, is_holding, after_call}
use Rattle.journal_audit.specs.Seen.{Seen, PlaceSeen}
use Rattle.journal_audit.specs.Sessions.{SessionSeen, session_after, with_holding}
use Rattle.journal_audit.specs.Verdicts.{is_done}
use Rattle.journal_audit.specs.declared.line.Call.{Call}
use Rattle.journal_audit.specs.declared.line.Call.TheVariants as call
use Rattle.journal_audit.specs.declared.place.Part.{Part}
use Rattle.journal_audit.specs.declared.place.Part.TheVariants as part

-- no holding and no message of the session was told
abbrev pub IsFresh : Part → Seen → Type 0
IsFresh part.Start seen = (seen.held ≡ 0) × (seen.current.inbound ≡ [])
IsFresh part.Head seen = (seen.held ≡ 0) × (seen.current.inbound ≡ [])
IsFresh part.Entries seen = (seen.held ≡ 0) × (seen.current.inbound ≡ [])
IsFresh part.Logs seen = Unit {0}
IsFresh part.Strays seen = Unit {0}
IsFresh part.Connections seen = Unit {0}
IsFresh part.Calls seen = Unit {0}
IsFresh part.Done seen = Unit {0}

-- behind entries that came to this state, the lines have the further entries of a run, and what all come to
pub record IsBehind (limit : ℕ) (s : State) (j : Journal) : Type 0 where
  pub run : IsRunFrom limit s j.entries
  pub holdings : j.holdings ≡ (fold state_after s j.entries).holdings
  pub inbound : length j.inbound ≡ (fold state_after s j.entries).inbound

-- behind the entries, the lines have the holdings and messages that aren't told yet
pub record IsRest (seen : Seen) (j : Journal) : Type 0 where
  pub entries : j.entries ≡ []
  pub holdings : j.holdings ≡ drop seen.held seen.place.holdings
  pub inbound : length seen.current.inbound + length j.inbound ≡ seen.header.inbound

abbrev pub NowAt : Part → Seen → Journal → Type 0
NowAt part.Start seen j = j ≡ no_journal
NowAt part.Head seen j = j ≡ no_journal
NowAt part.Entries seen j = IsBehind seen.place.limit (state_of seen.place.entries) j
NowAt part.Logs seen j = IsRest seen j
NowAt part.Strays seen j = j ≡ no_journal
NowAt part.Connections seen j = j ≡ no_journal
NowAt part.Calls seen j = j ≡ no_journal
NowAt part.Done seen j = j ≡ no_journal

-- Which part it is.

pub start_is : (p : Part) → is_start p ≡ true → p ≡ part.Start
start_is part.Start h = refl
start_is part.Head h = absurd (false≢true h)
start_is part.Entries h = absurd (false≢true h)
start_is part.Logs h = absurd (false≢true h)
start_is part.Strays h = absurd (false≢true h)
start_is part.Connections h = absurd (false≢true h)
start_is part.Calls h = absurd (false≢true h)
start_is part.Done h = absurd (false≢true h)

pub logs_is : (p : Part) → is_logs p ≡ true → p ≡ part.Logs
logs_is part.Start h = absurd (false≢true h)
logs_is part.Head h = absurd (false≢true h)
logs_is part.Entries h = absurd (false≢true h)
logs_is part.Logs h = refl
logs_is part.Strays h = absurd (false≢true h)
logs_is part.Connections h = absurd (false≢true h)
logs_is part.Calls h = absurd (false≢true h)
logs_is part.Done h = absurd (false≢true h)

pub connections_is : (p : Part) → is_connections p ≡ true → p ≡ part.Connections
connections_is part.Start h = absurd (false≢true h)
connections_is part.Head h = absurd (false≢true h)
connections_is part.Entries h = absurd (false≢true h)
connections_is part.Logs h = absurd (false≢true h)
connections_is part.Strays h = absurd (false≢true h)
connections_is part.Connections h = refl
connections_is part.Calls h = absurd (false≢true h)
connections_is part.Done h = absurd (false≢true h)

pub calls_is : (p : Part) → is_calls p ≡ true → p ≡ part.Calls
calls_is part.Start h = absurd (false≢true h)
calls_is part.Head h = absurd (false≢true h)
calls_is part.Entries h = absurd (false≢true h)
calls_is part.Logs h = absurd (false≢true h)
calls_is part.Strays h = absurd (false≢true h)
calls_is part.Connections h = absurd (false≢true h)
calls_is part.Calls h = refl
calls_is part.Done h = absurd (false≢true h)

pub next_is : (p : Part) (limit : ℕ) (es : List Entry) (e : Entry) → IsNextIn p limit es e → (p ≡ part.Entries) × IsNext limit (state_of es) e
next_is part.Start limit es e h = absurd h
next_is part.Head limit es e h = absurd h
next_is part.Entries limit es e h = (refl, h)
next_is part.Logs limit es e h = absurd h
next_is part.Strays limit es e h = absurd h
next_is part.Connections limit es e h = absurd h
next_is part.Calls limit es e h = absurd h
next_is part.Done limit es e h = absurd h

-- Where a part ends.

rest_none : (seen : Seen) → all_out seen ≡ true → IsRest seen no_journal
rest_none seen h =
    let ins = (and_parts (all_in seen) (length seen.current.bodies == length seen.current.marks) h).0 in
    let told = and_parts (all_held seen) (length seen.current.inbound == seen.header.inbound) ins in
    let held = eqb-true seen.held (length seen.place.holdings) (and_parts (is_logs seen.place.part) (seen.held == length seen.place.holdings) told.0).1 in
    let count = eqb-true (length seen.current.inbound) seen.header.inbound told.1 in
    record {
      entries = refl;
      holdings = sym (drop_all seen.held seen.place.holdings (omega arith));
      inbound = omega arith;
    }

-- what may end has told all of its session
pub ended : (p : Part) (seen : Seen) → may_end_at p seen ≡ true → NowAt p seen no_journal
ended part.Start seen h = refl
ended part.Head seen h = refl
ended part.Entries seen h = absurd (false≢true h)
ended part.Logs seen h = rest_none seen h
ended part.Strays seen h = refl
ended part.Connections seen h = refl
ended part.Calls seen h = refl
ended part.Done seen h = refl

-- a session may begin where nothing of it was told
pub closed_fresh : (p : Part) (seen : Seen) → before_strays p ≡ true → IsFresh p seen → ((closed_at p seen).held ≡ 0) × ((closed_at p seen).current.inbound ≡ [])
closed_fresh part.Start seen h fresh = absurd (false≢true h)
closed_fresh part.Head seen h fresh = fresh
closed_fresh part.Entries seen h fresh = absurd (false≢true h)
closed_fresh part.Logs seen h fresh = (refl, refl)
closed_fresh part.Strays seen h fresh = absurd (false≢true h)
closed_fresh part.Connections seen h fresh = absurd (false≢true h)
closed_fresh part.Calls seen h fresh = absurd (false≢true h)
closed_fresh part.Done seen h fresh = absurd (false≢true h)

-- the report ends behind its end
pub done_now : (p : Part) (seen : Seen) → is_done p ≡ true → NowAt p seen no_journal
done_now part.Start seen h = absurd (false≢true h)
done_now part.Head seen h = absurd (false≢true h)
done_now part.Entries seen h = absurd (false≢true h)
done_now part.Logs seen h = absurd (false≢true h)
done_now part.Strays seen h = absurd (false≢true h)
done_now part.Connections seen h = absurd (false≢true h)
done_now part.Calls seen h = absurd (false≢true h)
done_now part.Done seen h = refl

-- What stays as an entry, a holding or a call is noted.

pub record IsSame (a b : Seen) : Type 0 where
  pub place : a.place ≡ b.place
  pub held : a.held ≡ b.held
  pub inbound : a.current.inbound ≡ b.current.inbound

abbrev same : (seen : Seen) → IsSame seen seen
same seen = record { place = refl; held = refl; inbound = refl }

pub noted_same : (e : Entry) (seen : Seen) → IsSame (noted e seen) seen
noted_same (entries.Arrive pos) seen = same seen
noted_same (entries.Admin number) seen = same seen
noted_same (entries.Bind c) seen = record { place = refl; held = refl; inbound = refl }
noted_same (entries.Plan begin last at) seen = same seen
noted_same (entries.Leave c) seen = same seen
noted_same (entries.Reset series) seen = same seen
noted_same (entries.Granted library nr lease from start) seen = record { place = refl; held = refl; inbound = refl }
noted_same (entries.Refused library nr why) seen = record { place = refl; held = refl; inbound = refl }
noted_same (entries.Send lease library ordinal number) seen = same seen
noted_same (entries.Release lease library count heir) seen = same seen
noted_same (entries.Timeout lease library count) seen = same seen
noted_same (entries.Hold lease until) seen = same seen
noted_same (entries.Lapse lease) seen = same seen

pub session_same : (s : SessionSeen) (e : Entry) → (session_after s e).inbound ≡ s.inbound
unfolding session_after
session_same s (entries.Arrive pos) = refl
session_same s (entries.Admin number) = refl
session_same s (entries.Bind c) = refl
session_same s (entries.Plan begin last at) = refl
session_same s (entries.Leave c) = refl
session_same s (entries.Reset series) = refl
session_same s (entries.Granted library nr lease from start) = refl
session_same s (entries.Refused library nr why) = refl
session_same s (entries.Send lease library ordinal number) = refl
session_same s (entries.Release lease library count heir) = refl
session_same s (entries.Timeout lease library count) = refl
session_same s (entries.Hold lease until) = refl
session_same s (entries.Lapse lease) = refl

reader_same : (s t : SessionSeen) (none : Bool) → t.inbound ≡ s.inbound → (if none then s else t).inbound ≡ s.inbound
reader_same s t true e = refl
reader_same s t false e = e

pub holding_same : (h : Holding) (s : SessionSeen) → (with_holding h s).inbound ≡ s.inbound
unfolding with_holding
holding_same h s = reader_same s _ (h.library == 0) refl

pub call_same : (c : Call) (seen : Seen) → (after_call c seen).place ≡ seen.place
call_same (call.Asked nr) seen = refl
call_same (call.Replied nr reply) seen = refl
call_same (call.Read s lease pos body) seen = refl
call_same (call.Sent s lease ordinal body) seen = refl
call_same (call.GaveBack s lease count heir) seen = refl
call_same call.Other seen = refl

-- The next holding.

holding_is : (a b : Holding) → same_holding a b ≡ true → a ≡ b
holding_is a b h =
    let sends = and_parts _ _ h in
    let end = and_parts _ _ sends.0 in
    let start = and_parts _ _ end.0 in
    let from = and_parts _ _ start.0 in
    let lease = and_parts _ _ from.0 in
    let a1 : a.library ≡ b.library = eqb-true _ _ lease.0 in
    let a2 : a.lease ≡ b.lease = eqb-true _ _ lease.1 in
    let a3 : a.from ≡ b.from = eqb-true _ _ from.1 in
    let a4 : a.start ≡ b.start = eqb-true _ _ start.1 in
    let a5 : a.end ≡ b.end = eqb-true _ _ end.1 in
    let a6 : a.sends ≡ b.sends = eqb-true _ _ sends.1 in
    λ i. record { library = a1 i; lease = a2 i; from = a3 i; start = a4 i; end = a5 i; sends = a6 i }

pub held_next : (hs : List Holding) (i : ℕ) (h : Holding) → is_holding (slice_get hs i) h ≡ true → h ∷ drop (suc i) hs ≡ drop i hs
held_next [] i h e = absurd (false≢true e)
held_next (x ∷ hs) zero h e = ap (λ (k : Holding). k ∷ hs) (sym (holding_is x h e))
held_next (x ∷ hs) (suc i) h e = held_next hs i h e
