-- One line more in front: what the lines from it on tell follows from what those behind it tell.
use Rattle.std.proofs.Common.{◌≡◌, ℕ, ◌+◌, ◌⊎◌, inl, inr, ◌&&◌, Bool, true, false, List, [], ◌∷◌, ◌++◌, length, drop, fold, Option, refl, sym, ap, ◌∙◌, subst, arith, add-one}
use Rattle.std.proofs.lemmas.Bool.{false≢true, and_parts, eqb-true}
use Rattle.std.proofs.lemmas.List.{length_push}
use Rattle.lease_core.specs.Holdings.{holdings_of, AreAdjoining}
use Rattle.lease_core.specs.Laws.{EntriesDecide, HoldingsAdjoin}
use Rattle.lease_core.specs.Runs.{IsNext, IsRun, IsRunFrom}
use Rattle.lease_core.specs.State.{State, state_of, state_after, opening}
use Rattle.lease_core.specs.declared.entry.Entry.{Entry}
use Rattle.lease_core.specs.declared.entry.Holding.{Holding}
use Rattle.journal_audit.specs.Journals.{Journal, no_journal, IsLawful, AreLawful}
use Rattle.journal_audit.specs.Rules.{after_entry, after_holding, after_in, after_out, after_session, after_stray, after_connection, after_wrote, after_library, after_call, is_next_in, is_next_out, is_next_series, is_next_session, is_next_holding, is_stray, is_next_connection, is_written, is_next_library, is_right_call, is_end, is_start, is_logs, is_calls, may_end, closed, all_in, place_with_logs, logs_if_entries, place_with_entry, same_header, at_place}
use Rattle.journal_audit.specs.Seen.{Seen, PlaceSeen, header_of, bare_place}
use Rattle.journal_audit.specs.Sessions.{session_after}
use Rattle.journal_audit.specs.declared.line.Call.{Call}
use Rattle.journal_audit.specs.declared.line.Header.{Header}
use Rattle.journal_audit.specs.declared.place.Part.{Part}
use Rattle.journal_audit.specs.declared.place.Part.TheVariants as part
use Rattle.journal_audit.proofs.Standing.{IsFresh, IsBehind, IsRest, NowAt, start_is, logs_is, connections_is, calls_is, ended, closed_fresh, noted_same, session_same, holding_same, call_same, held_next}

-- what stands in the lines from here on, of the session whose lines come, and of those that follow
pub record IsSound (seen : Seen) (j : Journal) (js : List Journal) : Type 0 where
  pub now : NowAt seen.place.part seen j
  pub later : AreLawful js

-- nothing of the session stands behind, since its part ended
ended_now : (seen : Seen) (j : Journal) → may_end seen ≡ true → j ≡ no_journal → NowAt seen.place.part seen j
ended_now seen j ends none = subst (λ k. NowAt seen.place.part seen k) (sym none) (ended seen.place.part seen ends)

-- A session behind its head.

run-opening : (limit : ℕ) (es : List Entry) → IsRunFrom limit opening es → IsRun limit es
unfolding IsRun
run-opening limit es h = h

state-opening : (es : List Entry) → fold state_after opening es ≡ state_of es
unfolding state_of
state-opening es = refl

state-nil : state_of [] ≡ opening
unfolding state_of
state-nil = refl

lawful : HoldingsAdjoin → (limit : ℕ) (j : Journal) → IsBehind limit (state_of []) j → IsLawful j
lawful adjoin limit j behind =
    let first = subst (λ (s : State). IsBehind limit s j) state-nil behind in
    let run = run-opening limit j.entries first.run in
    let whole = state-opening j.entries in
    let holdings : j.holdings ≡ holdings_of j.entries = first.holdings ∙ ap (λ (s : State). s.holdings) whole in
    let inbound : length j.inbound ≡ (state_of j.entries).inbound = first.inbound ∙ ap (λ (s : State). s.inbound) whole in
    record {
      limit = limit;
      run = run;
      holdings = holdings;
      adjoining =
          subst (λ (n : ℕ). AreAdjoining j.holdings n) (sym inbound)
          (subst (λ (hs : List Holding). AreAdjoining hs (state_of j.entries).inbound) (sym holdings) (adjoin limit j.entries run));
    }

-- Each kind of line.

pub head_step : (seen : Seen) (j : Journal) (js : List Journal) → IsFresh seen.place.part seen → is_start seen.place.part ≡ true → (IsFresh part.Head seen → IsSound (at_place (bare_place part.Head) seen) j js) → IsSound seen j js
head_step seen j js fresh right behind =
    let at = start_is seen.place.part right in
    let sound = behind (subst (λ (p : Part). IsFresh p seen) at fresh) in
    record { now = subst (λ (p : Part). NowAt p seen j) (sym at) sound.now; later = sound.later }

pub session_step : HoldingsAdjoin → (s : ℕ) (header : Header) (limit : ℕ) (seen : Seen) (j : Journal) (js : List Journal) → IsFresh seen.place.part seen → is_next_session seen s ≡ true → (((closed seen).held ≡ 0) × ((closed seen).current.inbound ≡ []) → IsSound (after_session s header limit seen) j js) → IsSound seen no_journal (j ∷ js)
session_step adjoin s header limit seen j js fresh right behind =
    let placed = and_parts _ _ (and_parts _ _ right).0 in
    let sound = behind (closed_fresh seen.place.part seen placed.0 fresh) in
    record {
      now = ended_now seen no_journal placed.1 refl;
      later = (lawful adjoin limit j sound.now, sound.later);
    }

pub entry_step : EntriesDecide → (e : Entry) (seen : Seen) (j : Journal) (js : List Journal) → IsFresh seen.place.part seen → (seen.place.part ≡ part.Entries) × IsNext seen.place.limit (state_of seen.place.entries) e → (IsFresh (after_entry e seen).place.part (after_entry e seen) → IsSound (after_entry e seen) j js) → IsSound seen (record j { entries = e ∷ j.entries }) js
entry_step decide e seen j js fresh right behind =
    let before = record seen { place = place_with_entry e seen.place; current = session_after seen.current e } in
    let same = noted_same e before in
    let at : (after_entry e seen).place.part ≡ part.Entries = ap (λ (p : PlaceSeen). p.part) same.place ∙ right.0 in
    let was = subst (λ (p : Part). IsFresh p seen) right.0 fresh in
    let sound = behind (subst (λ (p : Part). IsFresh p (after_entry e seen)) (sym at) (same.held ∙ was.0, same.inbound ∙ session_same seen.current e ∙ was.1)) in
    let now : IsBehind (after_entry e seen).place.limit (state_of (after_entry e seen).place.entries) j = subst (λ (p : Part). NowAt p (after_entry e seen) j) at sound.now in
    let then : IsBehind seen.place.limit (state_of (seen.place.entries ++ e ∷ [])) j = subst (λ (p : PlaceSeen). IsBehind p.limit (state_of p.entries) j) same.place now in
    let next : IsBehind seen.place.limit (state_after (state_of seen.place.entries) e) j = subst (λ (s : State). IsBehind seen.place.limit s j) (decide seen.place.entries e) then in
    record {
      now = subst (λ (p : Part). NowAt p seen (record j { entries = e ∷ j.entries })) (sym right.0)
          (record { run = (right.1, next.run); holdings = next.holdings; inbound = next.inbound });
      later = sound.later;
    }

pub logs_of : (p : Part) (place : PlaceSeen) → place.part ≡ p → is_logs (logs_if_entries p place).part ≡ true → (p ≡ part.Entries) ⊎ (p ≡ part.Logs)
logs_of part.Start place e h = absurd (false≢true (ap is_logs (sym e) ∙ h))
logs_of part.Head place e h = absurd (false≢true (ap is_logs (sym e) ∙ h))
logs_of part.Entries place e h = inl refl
logs_of part.Logs place e h = inr refl
logs_of part.Strays place e h = absurd (false≢true (ap is_logs (sym e) ∙ h))
logs_of part.Connections place e h = absurd (false≢true (ap is_logs (sym e) ∙ h))
logs_of part.Calls place e h = absurd (false≢true (ap is_logs (sym e) ∙ h))
logs_of part.Done place e h = absurd (false≢true (ap is_logs (sym e) ∙ h))

header-in : (s : State) → (header_of s).inbound ≡ s.inbound
unfolding header_of
header-in s = refl

same_inbound : (a b : Header) → same_header a b ≡ true → a.inbound ≡ b.inbound
same_inbound a b h = eqb-true a.inbound b.inbound (and_parts _ _ (and_parts _ _ h).0).1

-- the first holding, behind the entries
first_holding : (h : Holding) (seen : Seen) (j : Journal) → IsFresh part.Entries seen → seen.place.part ≡ part.Entries → seen.header.inbound ≡ (place_with_logs seen.place).summary.inbound → j.entries ≡ [] → h ∷ j.holdings ≡ drop seen.held (place_with_logs seen.place).holdings → length seen.current.inbound + length j.inbound ≡ seen.header.inbound → IsBehind seen.place.limit (state_of seen.place.entries) (record j { holdings = h ∷ j.holdings })
first_holding h seen j fresh at header none next count =
    let s = state_of seen.place.entries in
    let place = ap (λ (p : Part). logs_if_entries p seen.place) at in
    let begun : length seen.current.inbound ≡ 0 = ap (λ (xs : List (List ℕ)). length xs) fresh.1 in
    let told : length j.inbound ≡ seen.header.inbound = omega arith in
    record {
      run = subst (λ (es : List Entry). IsRunFrom seen.place.limit s es) (sym none) tt;
      holdings =
          next
          ∙ ap (λ (n : ℕ). drop n (place_with_logs seen.place).holdings) fresh.0
          ∙ ap (λ (p : PlaceSeen). p.holdings) place
          ∙ sym (ap (λ (es : List Entry). (fold state_after s es).holdings) none);
      inbound =
          told ∙ header
          ∙ ap (λ (p : PlaceSeen). p.summary.inbound) place
          ∙ header-in s
          ∙ sym (ap (λ (es : List Entry). (fold state_after s es).inbound) none);
    }

pub holding_step : (h : Holding) (seen : Seen) (j : Journal) (js : List Journal) → IsFresh seen.place.part seen → is_next_holding seen (place_with_logs seen.place) h ≡ true → (IsFresh (after_holding h seen).place.part (after_holding h seen) → IsSound (after_holding h seen) j js) → IsSound seen (record j { holdings = h ∷ j.holdings }) js
holding_step h seen j js fresh right behind =
    let hs = (place_with_logs seen.place).holdings in
    let parts = and_parts _ _ right in
    let heads = and_parts _ _ parts.0 in
    let at = logs_is (place_with_logs seen.place).part heads.0 in
    let sound = behind (subst (λ (p : Part). IsFresh p (after_holding h seen)) (sym at) tt) in
    let rest : IsRest (after_holding h seen) j = subst (λ (p : Part). NowAt p (after_holding h seen) j) at sound.now in
    let next : h ∷ j.holdings ≡ drop seen.held hs = ap (λ (ks : List Holding). h ∷ ks) rest.holdings ∙ ap (λ (n : ℕ). h ∷ drop n hs) (add-one seen.held) ∙ held_next hs seen.held h parts.1 in
    let count : length seen.current.inbound + length j.inbound ≡ seen.header.inbound = ap (λ (xs : List (List ℕ)). length xs + length j.inbound) (sym (holding_same h seen.current)) ∙ rest.inbound in
    record {
      now = elim (logs_of seen.place.part seen.place refl heads.0) [
        | inl e ↦
            subst (λ (p : Part). NowAt p seen (record j { holdings = h ∷ j.holdings })) (sym e)
            (first_holding h seen j (subst (λ (p : Part). IsFresh p seen) e fresh) e (same_inbound seen.header (place_with_logs seen.place).summary heads.1) rest.entries next count)
        | inr e ↦
            subst (λ (p : Part). NowAt p seen (record j { holdings = h ∷ j.holdings })) (sym e)
            (record {
              entries = rest.entries;
              holdings = next ∙ ap (λ (p : Part). drop seen.held (logs_if_entries p seen.place).holdings) e;
              inbound = count;
            })
      ];
      later = sound.later;
    }

pub in_step : (pos : ℕ) (body : List ℕ) (seen : Seen) (j : Journal) (js : List Journal) → is_next_in seen pos ≡ true → (IsFresh seen.place.part (after_in body seen) → IsSound (after_in body seen) j js) → IsSound seen (record j { inbound = body ∷ j.inbound }) js
in_step pos body seen j js right behind =
    let held = (and_parts _ _ (and_parts _ _ right).0).0 in
    let at = logs_is seen.place.part (and_parts _ _ held).0 in
    let sound = behind (subst (λ (p : Part). IsFresh p (after_in body seen)) (sym at) tt) in
    let rest : IsRest (after_in body seen) j = subst (λ (p : Part). NowAt p (after_in body seen) j) at sound.now in
    let push = length_push seen.current.inbound body in
    let count : length seen.current.inbound + length (body ∷ j.inbound) ≡ seen.header.inbound = omega (arith, push, rest.inbound) in
    record {
      now = subst (λ (p : Part). NowAt p seen (record j { inbound = body ∷ j.inbound })) (sym at) (record { entries = rest.entries; holdings = rest.holdings; inbound = count });
      later = sound.later;
    }

out_behind : (body : List ℕ) (seen : Seen) (j : Journal) (js : List Journal) → all_in seen ≡ true → (IsFresh seen.place.part (after_out body seen) → IsSound (after_out body seen) j js) → IsSound seen (record j { outbound = body ∷ j.outbound }) js
out_behind body seen j js right behind =
    let held = (and_parts _ _ right).0 in
    let at = logs_is seen.place.part (and_parts _ _ held).0 in
    let sound = behind (subst (λ (p : Part). IsFresh p (after_out body seen)) (sym at) tt) in
    let rest : IsRest (after_out body seen) j = subst (λ (p : Part). NowAt p (after_out body seen) j) at sound.now in
    record {
      now = subst (λ (p : Part). NowAt p seen (record j { outbound = body ∷ j.outbound })) (sym at) (record { entries = rest.entries; holdings = rest.holdings; inbound = rest.inbound });
      later = sound.later;
    }

pub out_step : (number : ℕ) (body : List ℕ) (seen : Seen) (j : Journal) (js : List Journal) → is_next_out seen number body ≡ true → (IsFresh seen.place.part (after_out body seen) → IsSound (after_out body seen) j js) → IsSound seen (record j { outbound = body ∷ j.outbound }) js
out_step number body seen j js right behind = out_behind body seen j js (and_parts _ _ right).0 behind

pub series_step : (series : ℕ) (seen : Seen) (j : Journal) (js : List Journal) → is_next_series seen series ≡ true → (IsFresh seen.place.part (after_out [] seen) → IsSound (after_out [] seen) j js) → IsSound seen (record j { outbound = [] ∷ j.outbound }) js
series_step series seen j js right behind = out_behind [] seen j js (and_parts _ _ right).0 behind

pub stray_step : (library nr s : ℕ) (seen : Seen) (j : Journal) (js : List Journal) → is_stray seen ≡ true → IsSound (after_stray library nr s seen) j js → IsSound seen j js
stray_step library nr s seen j js right sound =
    record { now = ended_now seen j (and_parts _ _ right).1 sound.now; later = sound.later }

pub connection_step : (c : ℕ) (s : Option ℕ) (written : ℕ) (seen : Seen) (j : Journal) (js : List Journal) → is_next_connection seen c s ≡ true → IsSound (after_connection c written seen) j js → IsSound seen j js
connection_step c s written seen j js right sound =
    record { now = ended_now seen j (and_parts _ _ (and_parts _ _ (and_parts _ _ right).0).0).1 sound.now; later = sound.later }

pub wrote_step : (bytes : List ℕ) (seen : Seen) (j : Journal) (js : List Journal) → is_written seen bytes ≡ true → (IsFresh seen.place.part (after_wrote seen) → IsSound (after_wrote seen) j js) → IsSound seen j js
wrote_step bytes seen j js right behind =
    let at = connections_is seen.place.part (and_parts _ _ (and_parts _ _ right).0).0 in
    let sound = behind (subst (λ (p : Part). IsFresh p (after_wrote seen)) (sym at) tt) in
    record {
      now = subst (λ (p : Part). NowAt p seen j) (sym at) (subst (λ (p : Part). NowAt p (after_wrote seen) j) at sound.now);
      later = sound.later;
    }

pub library_step : (library reads : ℕ) (seen : Seen) (j : Journal) (js : List Journal) → is_next_library seen library ≡ true → IsSound (after_library library reads seen) j js → IsSound seen j js
library_step library reads seen j js right sound =
    record { now = ended_now seen j (and_parts _ _ right).0 sound.now; later = sound.later }

pub call_step : (c : Call) (seen : Seen) (j : Journal) (js : List Journal) → (is_calls seen.place.part && is_right_call seen c) ≡ true → (IsFresh (after_call c seen).place.part (after_call c seen) → IsSound (after_call c seen) j js) → IsSound seen j js
call_step c seen j js right behind =
    let at = calls_is seen.place.part (and_parts _ _ right).0 in
    let then : (after_call c seen).place.part ≡ part.Calls = ap (λ (p : PlaceSeen). p.part) (call_same c seen) ∙ at in
    let sound = behind (subst (λ (p : Part). IsFresh p (after_call c seen)) (sym then) tt) in
    record {
      now = subst (λ (p : Part). NowAt p seen j) (sym at) (subst (λ (p : Part). NowAt p (after_call c seen) j) then sound.now);
      later = sound.later;
    }

pub end_step : (last : Bool) (seen : Seen) (j : Journal) (js : List Journal) → (last && is_end seen) ≡ true → IsSound (at_place (bare_place part.Done) (closed seen)) j js → IsSound seen j js
end_step last seen j js right sound =
    record { now = ended_now seen j (and_parts _ _ (and_parts _ _ right).1).0 sound.now; later = sound.later }
