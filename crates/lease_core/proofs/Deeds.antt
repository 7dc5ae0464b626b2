-- What a lawful journal's leases did is what its lines tell.
use Rattle.std.proofs.Common.{◌≡◌, ℕ, zero, suc, ◌+◌, ◌<◌, Bool, true, false, cond, eqb, List, [], ◌∷◌, ◌++◌, length, map, filter, fold, refl, sym, ap, ◌∙◌, subst, append_assoc, arith}
use Rattle.std.proofs.lemmas.List.{length-map, append-nil}
use Rattle.std.proofs.lemmas.List.Elements.{filter-append}
use Rattle.lease_core.specs.declared.entry.Entry.{Entry}
use Rattle.lease_core.specs.declared.event.Event.{Event}
use Rattle.lease_core.specs.declared.event.Event.TheVariants.{Requests, Sends, Releases, TimesOut}
use Rattle.lease_core.specs.declared.lease.Deed.{Deed}
use Rattle.lease_core.specs.declared.lease.Deed.TheVariants.{Sent, GaveBack, TookBack}
use Rattle.lease_core.specs.declared.lease.Ending.{Ending}
use Rattle.lease_core.specs.declared.lease.Ending.TheVariants.{Running, GivenBack, TakenBack}
use Rattle.lease_core.specs.declared.lease.Line.{Line}
use Rattle.lease_core.specs.declared.messages.Reply.{Reply}
use Rattle.lease_core.specs.declared.messages.Reply.TheVariants.{Granted as ToGranted, Refused as ToRefused}
use Rattle.lease_core.specs.State.{State, state_of, state_after, opening, with_last, last_or, last_lease, lease_of, no_lease}
use Rattle.lease_core.specs.Steps.{step, entry_with, reply_to, CanHappen, IsActive, send_entry, release_entry, timeout_entry}
use Rattle.lease_core.specs.Runs.{IsNext, IsRun, IsRunFrom}
use Rattle.lease_core.specs.Lines.{line_of, lines_of, no_line, granted_line, line_with_send, line_with_ending}
use Rattle.lease_core.specs.Deeds.{deeds_in, deeds_of, sends_by, end_by, deeds_by, deeds_told, deeds_told_of, library_of, deeds_of_library}
use Rattle.lease_core.proofs.Lasts.{last_or-map}
use Rattle.lease_core.proofs.Lawful.{some_lease, owner_running}
use Rattle.lease_core.proofs.LinesAfter.{lines_next}

-- a lease that did nothing yet is put behind the others
told-push : (k library : ℕ) (ls : List Line) → deeds_told k (ls ++ granted_line library ∷ []) ≡ deeds_told k ls
told-push k library [] = refl
told-push k library (l ∷ ls) = ap (λ ds. deeds_by k l ++ ds) (told-push (k + 1) library ls)

-- the last lease did one thing more
told-with_last : (f : Line → Line) (d : Deed) (k n : ℕ) (none : Line) (ls : List Line) → 0 < length ls → n + 1 ≡ k + length ls → deeds_by n (f (last_or none ls)) ≡ deeds_by n (last_or none ls) ++ d ∷ [] → deeds_told k (with_last f ls) ≡ deeds_told k ls ++ d ∷ []
told-with_last f d k n none [] some is more = absurd (omega arith)
told-with_last f d k n none (l ∷ []) some is more =
    let same : n ≡ k = omega arith in
    append-nil (deeds_by k (f l)) ∙ subst (λ m. deeds_by m (f l) ≡ deeds_by m l ++ d ∷ []) same more ∙ ap (λ ds. ds ++ d ∷ []) (sym (append-nil (deeds_by k l)))
told-with_last f d k n none (l ∷ m ∷ ls) some is more =
    ap (λ ds. deeds_by k l ++ ds) (told-with_last f d (k + 1) n l (m ∷ ls) (omega arith) (omega arith) more)
    ∙ sym (append_assoc (deeds_by k l) (deeds_told (k + 1) (m ∷ ls)) (d ∷ []))

-- one send more of a lease that runs, and its end
sent_more : (n : ℕ) (l : Line) → l.ending ≡ Running → deeds_by n (line_with_send l) ≡ deeds_by n l ++ Sent n l.library (l.sends + 1) ∷ []
sent_more n l runs =
    let next : l.sends + 1 ≡ suc l.sends = omega arith in
    let open_still : end_by n l.library l.sends l.ending ≡ [] = ap (end_by n l.library l.sends) runs in
    let open_behind : end_by n l.library (l.sends + 1) l.ending ≡ [] = ap (end_by n l.library (l.sends + 1)) runs in
    ap (λ ds. sends_by n l.library (l.sends + 1) ++ ds) open_behind
    ∙ append-nil (sends_by n l.library (l.sends + 1))
    ∙ ap (sends_by n l.library) next
    ∙ ap (λ m. sends_by n l.library l.sends ++ Sent n l.library m ∷ []) (sym next)
    ∙ ap (λ ds. ds ++ Sent n l.library (l.sends + 1) ∷ []) (sym (ap (λ ds. sends_by n l.library l.sends ++ ds) open_still ∙ append-nil (sends_by n l.library l.sends)))

ended_more : (n : ℕ) (l : Line) (ending : Ending) (d : Deed) → l.ending ≡ Running → end_by n l.library l.sends ending ≡ d ∷ [] → deeds_by n (line_with_ending ending l) ≡ deeds_by n l ++ d ∷ []
ended_more n l ending d runs is =
    let open_still : end_by n l.library l.sends l.ending ≡ [] = ap (end_by n l.library l.sends) runs in
    ap (λ ds. sends_by n l.library l.sends ++ ds) is
    ∙ ap (λ ds. ds ++ d ∷ []) (sym (ap (λ ds. sends_by n l.library l.sends ++ ds) open_still ∙ append-nil (sends_by n l.library l.sends)))

-- what is told of a state's leases
abbrev told_by : State → List Deed
told_by s = deeds_told 1 (map line_of s.leases)

module _ (s : State) (active : IsActive s) where
  last_is : last_or no_line (map line_of s.leases) ≡ line_of (last_lease s.leases)
  last_is = last_or-map line_of no_lease s.leases

  last_runs : (last_or no_line (map line_of s.leases)).ending ≡ Running
  last_runs = ap (λ (l : Line). l.ending) last_is ∙ owner_running (last_lease s.leases).ending (last_lease s.leases).library active

  some_line : 0 < length (map line_of s.leases)
  some_line = subst (λ n. 0 < n) (sym (length-map s.leases line_of)) (some_lease s.leases active)

  numbered : lease_of s + 1 ≡ 1 + length (map line_of s.leases)
  numbered = let size = length-map s.leases line_of in omega (arith, size)

  told_sent : told_by (state_after s (send_entry s)) ≡ told_by s ++ deeds_in (send_entry s)
  told_sent =
      ap (deeds_told 1) (lines_next s.leases (send_entry s))
      ∙ told-with_last line_with_send (Sent (lease_of s) (last_lease s.leases).library ((last_lease s.leases).sends + 1)) 1 (lease_of s) no_line (map line_of s.leases) some_line numbered
      (sent_more (lease_of s) (last_or no_line (map line_of s.leases)) last_runs ∙ ap (λ (l : Line). deeds_by (lease_of s) (last_or no_line (map line_of s.leases)) ++ Sent (lease_of s) l.library (l.sends + 1) ∷ []) last_is)

  told_released : (heir : ℕ) → told_by (state_after s (release_entry s heir)) ≡ told_by s ++ deeds_in (release_entry s heir)
  told_released heir =
      ap (deeds_told 1) (lines_next s.leases (release_entry s heir))
      ∙ told-with_last (line_with_ending (GivenBack heir)) (GaveBack (lease_of s) (last_lease s.leases).library (last_lease s.leases).sends heir) 1 (lease_of s) no_line (map line_of s.leases) some_line numbered
      (ended_more (lease_of s) (last_or no_line (map line_of s.leases)) (GivenBack heir) _ last_runs (ap (λ (l : Line). GaveBack (lease_of s) l.library l.sends heir ∷ []) last_is))

  told_timed_out : told_by (state_after s (timeout_entry s)) ≡ told_by s ++ deeds_in (timeout_entry s)
  told_timed_out =
      ap (deeds_told 1) (lines_next s.leases (timeout_entry s))
      ∙ told-with_last (line_with_ending TakenBack) (TookBack (lease_of s) (last_lease s.leases).library (last_lease s.leases).sends) 1 (lease_of s) no_line (map line_of s.leases) some_line numbered
      (ended_more (lease_of s) (last_or no_line (map line_of s.leases)) TakenBack _ last_runs (ap (λ (l : Line). TookBack (lease_of s) l.library l.sends ∷ []) last_is))

told_request : (s : State) (library nr from : ℕ) (reply : Reply) → told_by (state_after s (entry_with library nr from reply)) ≡ told_by s ++ deeds_in (entry_with library nr from reply)
told_request s library nr from (ToGranted lease start) = ap (deeds_told 1) (lines_next s.leases (entry_with library nr from (ToGranted lease start))) ∙ told-push 1 library (map line_of s.leases) ∙ sym (append-nil (told_by s))
told_request s library nr from (ToRefused why) = sym (append-nil (told_by s))

told_step : (limit : ℕ) (s : State) (event : Event) → CanHappen s event → told_by (state_after s (step limit s event)) ≡ told_by s ++ deeds_in (step limit s event)
told_step limit s (Requests library nr from) can = told_request s library nr from (reply_to limit s library from)
told_step limit s Sends can = told_sent s can
told_step limit s (Releases heir) can = told_released s can.0 heir
told_step limit s TimesOut can = told_timed_out s can
told_step limit s _ can = sym (append-nil (told_by s))

told_next : (limit : ℕ) (s : State) (e : Entry) → IsNext limit s e → told_by (state_after s e) ≡ told_by s ++ deeds_in e
told_next limit s e next = subst (λ x. told_by (state_after s x) ≡ told_by s ++ deeds_in x) (sym next.is_step.entry) (told_step limit s next.is_step.event next.is_step.can_happen)

told_from : (limit : ℕ) (s : State) (entries : List Entry) → IsRunFrom limit s entries → told_by s ++ deeds_of entries ≡ told_by (fold state_after s entries)
told_from limit s [] run = append-nil (told_by s)
told_from limit s (e ∷ es) run =
    sym (append_assoc (told_by s) (deeds_in e) (deeds_of es))
    ∙ ap (λ ds. ds ++ deeds_of es) (sym (told_next limit s e run.0))
    ∙ told_from limit (state_after s e) es run.1

pub deeds_are_told : (limit : ℕ) (entries : List Entry) → IsRun limit entries → deeds_of entries ≡ deeds_told 1 (lines_of entries)
unfolding IsRun state_of
deeds_are_told limit entries run = told_from limit opening entries run

-- one library's deeds are those of its lines
abbrev is_by : ℕ → Deed → Bool
is_by library d = eqb (library_of d) library

none_either : (b : Bool) → let none : List Deed = [] in none ≡ cond b none none
none_either true = refl
none_either false = refl

filter_sends : (library lease whose n : ℕ) → filter (is_by library) (sends_by lease whose n) ≡ cond (eqb whose library) (sends_by lease whose n) []
filter_sends library lease whose zero = none_either (eqb whose library)
filter_sends library lease whose (suc n) =
    filter-append (is_by library) (sends_by lease whose n) (Sent lease whose (suc n) ∷ [])
    ∙ ap (λ ds. ds ++ filter (is_by library) (Sent lease whose (suc n) ∷ [])) (filter_sends library lease whose n)
    ∙ elim (eqb whose library) as (λ b. cond b (sends_by lease whose n) [] ++ cond b (Sent lease whose (suc n) ∷ []) [] ≡ cond b (sends_by lease whose n ++ Sent lease whose (suc n) ∷ []) []) [ true ↦ refl | false ↦ refl ]

filter_end : (library lease whose n : ℕ) (ending : Ending) → filter (is_by library) (end_by lease whose n ending) ≡ cond (eqb whose library) (end_by lease whose n ending) []
filter_end library lease whose n Running = none_either (eqb whose library)
filter_end library lease whose n (GivenBack heir) = refl
filter_end library lease whose n TakenBack = refl

filter_line : (library lease : ℕ) (l : Line) → filter (is_by library) (deeds_by lease l) ≡ cond (eqb l.library library) (deeds_by lease l) []
filter_line library lease l =
    let sends = sends_by lease l.library l.sends in
    let end = end_by lease l.library l.sends l.ending in
    filter-append (is_by library) sends end
    ∙ ap (λ ds. ds ++ filter (is_by library) end) (filter_sends library lease l.library l.sends)
    ∙ ap (λ ds. cond (eqb l.library library) sends [] ++ ds) (filter_end library lease l.library l.sends l.ending)
    ∙ elim (eqb l.library library) as (λ b. cond b sends [] ++ cond b end [] ≡ cond b (sends ++ end) []) [ true ↦ refl | false ↦ refl ]

filter_told : (library lease : ℕ) (ls : List Line) → deeds_of_library library (deeds_told lease ls) ≡ deeds_told_of library lease ls
filter_told library lease [] = refl
filter_told library lease (l ∷ ls) =
    filter-append (is_by library) (deeds_by lease l) (deeds_told (lease + 1) ls)
    ∙ ap (λ ds. ds ++ filter (is_by library) (deeds_told (lease + 1) ls)) (filter_line library lease l)
    ∙ ap (λ ds. cond (eqb l.library library) (deeds_by lease l) [] ++ ds) (filter_told library (lease + 1) ls)

pub library_deeds_are_told : (limit : ℕ) (entries : List Entry) (library : ℕ) → IsRun limit entries → deeds_of_library library (deeds_of entries) ≡ deeds_told_of library 1 (lines_of entries)
library_deeds_are_told limit entries library run = ap (deeds_of_library library) (deeds_are_told limit entries run) ∙ filter_told library 1 (lines_of entries)
