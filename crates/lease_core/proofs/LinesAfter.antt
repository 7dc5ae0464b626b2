-- The lines of a journal with entries more, and what they tell of its state.
use Rattle.std.proofs.Common.{◌≡◌, ℕ, ◌<◌, ◌≤◌, List, [], ◌∷◌, ◌++◌, length, map, fold, get_or, take, drop, ◌+◌, refl, sym, ap, ◌∙◌, subst, append_assoc}
use Rattle.std.proofs.lemmas.List.{length-map, map-append, append-nil, take-append-drop, take_more}
use Rattle.std.proofs.lemmas.List.Sums.{fold-append}
use Rattle.lease_core.specs.declared.entry.Entry.{Entry}
use Rattle.lease_core.specs.declared.entry.Entry.TheVariants.{Granted, Send, Release, Timeout}
use Rattle.lease_core.specs.declared.lease.Ending.TheVariants.{Running, GivenBack, TakenBack}
use Rattle.lease_core.specs.declared.lease.Lease.{Lease}
use Rattle.lease_core.specs.declared.lease.Line.{Line}
use Rattle.lease_core.specs.declared.messages.Reply.{Reply}
use Rattle.lease_core.specs.declared.messages.Reply.TheVariants.{Granted as ToGranted, Refused as ToRefused}
use Rattle.lease_core.specs.declared.word.Word.{Word}
use Rattle.lease_core.specs.State.{State, state_of, state_after, opening, leases_after, lease_with_send, lease_with_ending, no_lease, last_lease, owner_in, owner_of, lease_of}
use Rattle.lease_core.specs.Steps.{IsActive, entry_with}
use Rattle.lease_core.specs.Runs.{IsNext, IsRun, IsRunFrom}
use Rattle.lease_core.specs.Lines.{line_of, lines_of, last_line, line_with_send, line_with_ending, lines_after, lines_after_reply, missing_sends, news_count}
use Rattle.lease_core.specs.Showable.{NamesOwner, IsShowable, owner_by, IsOwned}
use Rattle.lease_core.specs.Kept.{IsCurrent}
use Rattle.lease_core.proofs.Lasts.{map-with_last, last_or-map}
use Rattle.lease_core.proofs.Pushed.{state_of-push, run_before}

pub lines_next : (leases : List Lease) (e : Entry) → map line_of (leases_after leases e) ≡ lines_after (map line_of leases) e
lines_next leases (Granted library nr lease from start) = map-append line_of leases (record { library = library; from = from; start = start; sends = 0; ending = Running } ∷ [])
lines_next leases (Send lease library ordinal number) = map-with_last line_of lease_with_send line_with_send no_lease leases (λ _. refl)
lines_next leases (Release lease library count heir) = map-with_last line_of (lease_with_ending (GivenBack heir)) (line_with_ending (GivenBack heir)) no_lease leases (λ _. refl)
lines_next leases (Timeout lease library count) = map-with_last line_of (lease_with_ending TakenBack) (line_with_ending TakenBack) no_lease leases (λ _. refl)
lines_next leases _ = refl

pub lines-push : (entries : List Entry) (e : Entry) → lines_of (entries ++ e ∷ []) ≡ lines_after (lines_of entries) e
lines-push entries e = ap (λ (s : State). map line_of s.leases) (state_of-push entries e) ∙ lines_next (state_of entries).leases e

pub lines-append : (entries more : List Entry) → lines_of (entries ++ more) ≡ fold lines_after (lines_of entries) more
lines-append entries [] = ap lines_of (append-nil entries)
lines-append entries (e ∷ more) =
    ap lines_of (sym (append_assoc entries (e ∷ []) more))
    ∙ lines-append (entries ++ e ∷ []) more
    ∙ ap (λ ls. fold lines_after ls more) (lines-push entries e)

-- a request adds a line where it is granted
pub lines-request : (lines : List Line) (library nr from : ℕ) (reply : Reply) → lines_after lines (entry_with library nr from reply) ≡ lines_after_reply lines library reply
lines-request lines library nr from (ToGranted lease start) = refl
lines-request lines library nr from (ToRefused why) = refl

-- the state with a list of entries more, and whether that is lawful
pub state_of-append : (entries more : List Entry) → state_of (entries ++ more) ≡ fold state_after (state_of entries) more
unfolding state_of
state_of-append entries more = fold-append state_after opening entries more

runs_both : (limit : ℕ) (s : State) (entries more : List Entry) → IsRunFrom limit s entries → IsRunFrom limit (fold state_after s entries) more → IsRunFrom limit s (entries ++ more)
runs_both limit s [] more run rest = rest
runs_both limit s (e ∷ es) more run rest = (run.0, runs_both limit (state_after s e) es more run.1 rest)

runs_apart : (limit : ℕ) (s : State) (entries more : List Entry) → IsRunFrom limit s (entries ++ more) → IsRunFrom limit s entries × IsRunFrom limit (fold state_after s entries) more
runs_apart limit s [] more run = (tt, run)
runs_apart limit s (e ∷ es) more run = let rest = runs_apart limit (state_after s e) es more run.1 in ((run.0, rest.0), rest.1)

pub run_of_parts : (limit : ℕ) (entries more : List Entry) → IsRun limit entries → IsRunFrom limit (state_of entries) more → IsRun limit (entries ++ more)
unfolding IsRun state_of
run_of_parts limit entries more run rest = runs_both limit opening entries more run rest

pub parts_of_run : (limit : ℕ) (entries more : List Entry) → IsRun limit (entries ++ more) → IsRun limit entries × IsRunFrom limit (state_of entries) more
unfolding IsRun state_of
parts_of_run limit entries more run = runs_apart limit opening entries more run

-- the last line is the last lease's
pub last_line-of : (entries : List Entry) → last_line (lines_of entries) ≡ line_of (last_lease (state_of entries).leases)
last_line-of entries = last_or-map line_of no_lease (state_of entries).leases

pub owner_by-lines : (entries : List Entry) → owner_by (lines_of entries) ≡ owner_of (state_of entries)
owner_by-lines entries = ap (λ (l : Line). owner_in l.ending l.library) (last_line-of entries)

pub length-lines : (entries : List Entry) → length (lines_of entries) ≡ lease_of (state_of entries)
length-lines entries = length-map (state_of entries).leases line_of

pub missing-lines : (entries : List Entry) (w : Word) → missing_sends (lines_of entries) w ≡ news_count entries w
missing-lines entries w = ap (λ l. missing_sends (l ∷ []) w) (last_line-of entries)

pub active_of : (entries : List Entry) → IsOwned (lines_of entries) → IsActive (state_of entries)
active_of entries owned = subst (λ n. 0 < n) (owner_by-lines entries) owned

-- a word that can be shown by the lines, in what the code looks at
pub current_of : (entries : List Entry) (w : Word) → IsShowable (lines_of entries) w → IsCurrent (state_of entries) w
current_of entries w shows = record {
  lease = shows.lease ∙ length-lines entries;
  owner = subst (λ (l : Line). NamesOwner w.standing w.owner l.library) (last_line-of entries) shows.owner;
  count = subst (λ (l : Line). l.sends ≤ w.count) (last_line-of entries) shows.count;
}

-- each entry of a lawful journal may stand behind those before it
pub next_at : (limit : ℕ) (entries : List Entry) (i : ℕ) (d : Entry) → i < length entries → IsRun limit entries → IsNext limit (state_of (take i entries)) (get_or entries i d)
next_at limit entries i d inside run =
    let first = parts_of_run limit (take (i + 1) entries) (drop (i + 1) entries) (subst (IsRun limit) (sym (take-append-drop (i + 1) entries)) run) in
    let both = run_before limit (take i entries) (get_or entries i d) (subst (IsRun limit) (take_more entries i d inside) first.0) in
    both.1
