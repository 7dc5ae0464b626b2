-- The entries of the checks are runs, so an engine can begin behind their records.
use Rattle.std.proofs.Common.{◌≡◌, ℕ, zero, suc, ◌+◌, ◌<◌, List, [], ◌∷◌, ◌++◌, length, get_or, map, take, refl, sym, ap, subst, ◌∙◌, arith}
use Rattle.std.proofs.lemmas.List.{map-append, take_all, take_more}
use Rattle.std.specs.List.{AllByRecursion}
use Rattle.engine_config.specs.declared.config.Config.{Config}
use Rattle.engine_start.specs.Restarts.{AreRecordsOf, CanBeRevived, entries_in, records_of}
use Rattle.engine_tests.specs.Journals.{CanBegin, record_of}
use Rattle.lease_core.specs.Runs.{IsNext, IsRun}
use Rattle.lease_core.specs.State.{opening, state_after}
use Rattle.lease_core.specs.Steps.{why_refused}
use Rattle.lease_core.specs.declared.entry.Entry.{Entry}
use Rattle.lease_core.specs.declared.entry.Entry.TheVariants.{Bind, Granted, Release}
use Rattle.lease_core.specs.declared.event.Event.TheVariants.{Binds, Releases, Requests}
use Rattle.lease_core.specs.declared.record.Record.{Record}
use Rattle.session_book.specs.Reviving.{CanBeSent}

pub can_begin : (config : Config) (entries : List Entry) (records : List Record) → CanBegin entries → length config.names ≡ 3 → config.leases ≡ 9 → records ≡ map record_of entries → AreRecordsOf config records
can_begin config entries records can sessions leases are = subst (AreRecordsOf config) (sym are) (record {
  each = subst (λ n. AllByRecursion (CanBeRevived n) (map record_of entries)) (sym sessions) can.each;
  runs = λ s small. subst (λ n. IsRun n (entries_in (records_of s (map record_of entries)))) (sym leases) (can.runs s (omega arith));
})

-- a record without a body
can : (e : Entry) → CanBeSent e [] → CanBeRevived 3 (record_of e)
can e body = record { session = omega arith; expected_from = omega arith; expected_to = omega arith; body = body }

no_run : IsRun 9 []
unfolding IsRun
no_run = tt

abbrev RunsOf : List Entry → ℕ → Type 0
RunsOf entries s = IsRun 9 (entries_in (records_of s (map record_of entries)))

-- the others have no entries
runs_of : (entries : List Entry) → RunsOf entries 0 → RunsOf entries 1 → RunsOf entries 2 → (s : ℕ) → s < 3 → RunsOf entries s
runs_of entries first second third zero small = first
runs_of entries first second third (suc zero) small = second
runs_of entries first second third (suc (suc zero)) small = third
runs_of entries first second third (suc (suc (suc s))) small = absurd (omega arith)

abbrev granted : Entry
granted = Granted 1 7 1 0 0

bind_next : IsNext 9 opening (Bind 0)
bind_next = record { is_step = record { event = Binds 0; can_happen = tt; entry = refl }; connection = refl; hold = refl }

grant_next : IsNext 9 opening granted
unfolding why_refused
grant_next = record { is_step = record { event = Requests 1 7 0; can_happen = record { from_one = omega arith; to_last = omega arith }; entry = refl }; connection = tt; hold = refl }

bound_grant_next : IsNext 9 (state_after opening (Bind 0)) granted
unfolding why_refused
bound_grant_next = record { is_step = record { event = Requests 1 7 0; can_happen = record { from_one = omega arith; to_last = omega arith }; entry = refl }; connection = tt; hold = refl }

release_next : IsNext 9 (state_after opening granted) (Release 1 1 0 2)
release_next = record { is_step = record { event = Releases 2; can_happen = (omega arith, record { to_last = omega arith; other = λ same. absurd (omega arith) }); entry = refl }; connection = tt; hold = refl }

bind_run : IsRun 9 (Bind 0 ∷ [])
unfolding IsRun
bind_run = (bind_next, tt)

grant_run : IsRun 9 (granted ∷ [])
unfolding IsRun
grant_run = (grant_next, tt)

release_run : IsRun 9 (granted ∷ Release 1 1 0 2 ∷ [])
unfolding IsRun
release_run = (grant_next, (release_next, tt))

bound_grant_run : IsRun 9 (Bind 0 ∷ granted ∷ [])
unfolding IsRun
bound_grant_run = (bind_next, (bound_grant_next, tt))

pub bind : CanBegin (Bind 0 ∷ [])
bind = record { each = (can (Bind 0) tt, tt); runs = runs_of (Bind 0 ∷ []) bind_run no_run no_run }

pub grant : CanBegin (Granted 1 7 1 0 0 ∷ [])
grant = record { each = (can granted tt, tt); runs = runs_of (granted ∷ []) grant_run no_run no_run }

pub release : CanBegin (Granted 1 7 1 0 0 ∷ Release 1 1 0 2 ∷ [])
release = record { each = (can granted tt, (can (Release 1 1 0 2) tt, tt)); runs = runs_of (granted ∷ Release 1 1 0 2 ∷ []) release_run no_run no_run }

pub bound_grant : CanBegin (Bind 0 ∷ Granted 1 7 1 0 0 ∷ [])
bound_grant = record { each = (can (Bind 0) tt, (can granted tt, tt)); runs = runs_of (Bind 0 ∷ granted ∷ []) bound_grant_run no_run no_run }

-- the record of one entry more
pub one_record_more : (entries : List Entry) (i : ℕ) (old new : List Record) (e : Entry) → i < length entries → e ≡ get_or entries i e → new ≡ old ++ record_of e ∷ [] → old ≡ map record_of (take i entries)
    → new ≡ map record_of (take (i + 1) entries)
one_record_more entries i old new e small at is before =
    is ∙ ap (λ (rs : List Record). rs ++ record_of e ∷ []) before ∙ sym (map-append record_of (take i entries) (e ∷ []))
    ∙ ap (λ (x : Entry). map record_of (take i entries ++ x ∷ [])) at ∙ ap (map record_of) (sym (take_more entries i e small))

pub all_records : (entries : List Entry) (i : ℕ) (records : List Record) → i ≡ length entries → records ≡ map record_of (take i entries) → records ≡ map record_of entries
all_records entries i records all is = is ∙ ap (map record_of) (take_all i entries (omega arith))
