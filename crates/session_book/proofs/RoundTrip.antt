-- What is handed out of a session and read back is that session.
use Rattle.std.proofs.Common.{◌≡◌, ℕ, ◌+◌, ◌-◌, ◌≤◌, ◌<◌, Bool, List, [], ◌∷◌, ◌++◌, append_assoc, drop, get_or, length, take, take-suc, take_all, zero, suc, Option, length-drop, refl, sym, ap, subst, ◌∙◌, arith, None, add-one}
use Rattle.std.proofs.lemmas.Bool.{cond-false, ne_eqb}
use Rattle.std.proofs.lemmas.List.{append-nil, length_push, take-append-drop, take-append-le}
use Rattle.std.specs.List.{slice_get}
use Rattle.std.specs.Prelude.{◌==◌, fold, slice_index_or, unwrap_or}
use Rattle.lease_core.specs.Laws.{EntriesDecideOver, RunsGoOnOver}
use Rattle.lease_core.specs.Runs.{IsNext, IsRun, IsRunFrom}
use Rattle.lease_core.specs.State.{State as Totals, inbound_after, last_or, one_more, opening, sent_in_series, series_after, series_of, state_after, state_of, with_last}
use Rattle.lease_core.specs.Steps.{entry_with, step, why_refused}
use Rattle.lease_core.specs.declared.entry.Entry.{Entry}
use Rattle.lease_core.specs.declared.entry.Entry.TheVariants.{Arrive, Admin, Bind, Plan, Leave, Reset, Granted, Refused, Send, Release, Timeout, Hold, Lapse}
use Rattle.lease_core.specs.declared.event.Event.{Event}
use Rattle.lease_core.specs.declared.event.Event.TheVariants.{Arrives, AdminSent, Binds, Plans, Leaves, Resets, Requests, Sends, Releases, TimesOut, Holds, Lapses}
use Rattle.lease_core.specs.declared.messages.Reply.{Reply}
use Rattle.lease_core.specs.declared.messages.Reply.TheVariants.{Granted as ToGranted, Refused as ToRefused}
use Rattle.lease_core.specs.Steps.{reply_by}
use Rattle.message_log.specs.Growth.{Gain, a_series, an_entry, log_after, with_gain}
use Rattle.message_log.specs.Series.{entry_in, series_at, with_entry}
use Rattle.message_log.specs.declared.entry.OutEntry.{OutEntry}
use Rattle.resend_plan.specs.Wire.{entry_of, no_entry}
use Rattle.session_book.specs.Book.{Book}
use Rattle.session_book.specs.Records.{body_of, entry_moment, records_from, series_behind, series_over}
use Rattle.session_book.specs.Rereading.{AreMarked, IsMarked, ReadBackStays, RecordsAreReadBack, after_reading, first_entries, read_of, read_up_to}
use Rattle.session_book.specs.Reviving.{ReadBack, after_read}
use Rattle.session_book.proofs.Books.{lengths}
use Rattle.session_book.proofs.Handing.{over_least, series_folded, series_stepped}
use Rattle.session_book.proofs.News.{series_is}

-- a log has so many entries in each of these series, or more
abbrev pub FitsIn : List ℕ → List (List OutEntry) → Type 0
FitsIn [] log = Unit {0}
FitsIn (n ∷ counts) [] = ⊥
FitsIn (n ∷ counts) (entries ∷ log) = (n ≤ length entries) × FitsIn counts log

pub fits_whole : (log : List (List OutEntry)) → FitsIn (lengths log) log
fits_whole [] = tt
fits_whole (entries ∷ log) = (omega arith, fits_whole log)

first_whole : (log : List (List OutEntry)) → first_entries (lengths log) log ≡ log
first_whole [] = refl
first_whole (entries ∷ log) =
    ap (λ es. es ∷ first_entries (lengths log) log) (take_all (length entries) entries (omega arith)) ∙ ap (λ rest. entries ∷ rest) (first_whole log)

fits_sent : (counts : List ℕ) (log : List (List OutEntry)) → FitsIn (with_last one_more counts) log → FitsIn counts log
fits_sent [] log fits = tt
fits_sent (n ∷ []) [] fits = fits
fits_sent (n ∷ []) (entries ∷ log) fits = (let more = fits.0 in omega arith, tt)
fits_sent (n ∷ (m ∷ counts)) [] fits = fits
fits_sent (n ∷ (m ∷ counts)) (entries ∷ log) fits = (fits.0, fits_sent (m ∷ counts) log fits.1)

fits_turned : (counts : List ℕ) (log : List (List OutEntry)) → FitsIn (counts ++ 0 ∷ []) log → FitsIn counts log
fits_turned [] log fits = tt
fits_turned (n ∷ counts) [] fits = fits
fits_turned (n ∷ counts) (entries ∷ log) fits = (fits.0, fits_turned counts log fits.1)

first_turned : (counts : List ℕ) (log : List (List OutEntry)) → FitsIn (counts ++ 0 ∷ []) log → first_entries (counts ++ 0 ∷ []) log ≡ first_entries counts log ++ [] ∷ []
first_turned [] [] fits = absurd fits
first_turned [] (entries ∷ log) fits = refl
first_turned (n ∷ counts) [] fits = absurd fits
first_turned (n ∷ counts) (entries ∷ log) fits = ap (λ rest. take n entries ∷ rest) (first_turned counts log fits.1)

-- the series of the last count
abbrev pub last_series : List ℕ → List (List OutEntry) → List OutEntry
last_series [] log = []
last_series (n ∷ counts) [] = []
last_series (n ∷ []) (entries ∷ log) = entries
last_series (n ∷ (m ∷ counts)) (entries ∷ log) = last_series (m ∷ counts) log

last_got : (n : ℕ) (counts : List ℕ) (log : List (List OutEntry)) → last_series (n ∷ counts) log ≡ get_or log (length counts) []
last_got n [] [] = refl
last_got n [] (entries ∷ log) = refl
last_got n (m ∷ counts) [] = refl
last_got n (m ∷ counts) (entries ∷ log) = last_got m counts log

pub last_is : (counts : List ℕ) (log : List (List OutEntry)) → 1 ≤ length counts → last_series counts log ≡ series_at log (length counts)
last_is [] log some = absurd (omega arith)
last_is (n ∷ counts) log some =
    let one_less : length (n ∷ counts) - 1 ≡ length counts = omega arith in
    last_got n counts log ∙ sym (series_is log (length (n ∷ counts)) some ∙ ap (λ k. get_or log k []) one_less)

one_more_of : {T : Type 0} (xs : List T) (n : ℕ) (d : T) → n + 1 ≤ length xs → take (n + 1) xs ≡ take n xs ++ get_or xs n d ∷ []
one_more_of xs n d within = let below : n < length xs = omega arith in rw add-one (take-suc xs n d below)

got : (xs : List OutEntry) (n : ℕ) → n < length xs → unwrap_or (slice_get xs n) no_entry ≡ get_or xs n no_entry
got [] n below = absurd (omega arith)
got (x ∷ xs) zero below = refl
got (x ∷ xs) (suc n) below = got xs n (omega arith)

one_taken : (entries : List OutEntry) (n : ℕ) → n + 1 ≤ length entries → take (n + 1) entries ≡ take n entries ++ unwrap_or (entry_in entries (n + 1)) no_entry ∷ []
one_taken entries n within =
    let one_less : n + 1 - 1 ≡ n = omega arith in
    let found : entry_in entries (n + 1) ≡ slice_get entries n =
    cond-false (n + 1 == 0) None (slice_get entries (n + 1 - 1)) (ne_eqb (n + 1) 0 (λ z. omega arith)) ∙ ap (λ k. slice_get entries k) one_less in
    one_more_of entries n no_entry within
    ∙ sym (ap (λ (o : Option OutEntry). take n entries ++ unwrap_or o no_entry ∷ []) found ∙ ap (λ (x : OutEntry). take n entries ++ x ∷ []) (got entries n (omega arith)))

first_sent :
    (counts : List ℕ) (log : List (List OutEntry))
    → 1 ≤ length counts
    → FitsIn (with_last one_more counts) log
    → first_entries (with_last one_more counts) log ≡ with_entry (first_entries counts log) (unwrap_or (entry_in (last_series counts log) (last_or 0 counts + 1)) no_entry)
first_sent [] log some fits = absurd (omega arith)
first_sent (n ∷ []) [] some fits = absurd fits
first_sent (n ∷ []) (entries ∷ log) some fits = ap (λ es. es ∷ []) (one_taken entries n fits.0)
first_sent (n ∷ (m ∷ counts)) [] some fits = absurd fits
first_sent (n ∷ (m ∷ counts)) (entries ∷ []) some fits = absurd (fits_sent (m ∷ counts) [] fits.1)
first_sent (n ∷ (m ∷ counts)) (entries ∷ (next ∷ log)) some fits = ap (λ rest. take n entries ∷ rest) (first_sent (m ∷ counts) (next ∷ log) (omega arith) fits.1)

-- the entry of the next number
first_logged :
    (counts : List ℕ) (log : List (List OutEntry))
    → 1 ≤ length counts
    → FitsIn (with_last one_more counts) log
    → first_entries (with_last one_more counts) log ≡ with_entry (first_entries counts log) (entry_of log (length counts) (last_or 0 counts + 1))
first_logged counts log some fits =
    first_sent counts log some fits
    ∙ ap (λ (entries : List OutEntry). with_entry (first_entries counts log) (unwrap_or (entry_in entries (last_or 0 counts + 1)) no_entry)) (last_is counts log some)

fits_before : (e : Entry) (counts : List ℕ) (log : List (List OutEntry)) → FitsIn (series_after counts e) log → FitsIn counts log
fits_before (Arrive pos) counts log fits = fits
fits_before (Admin number) counts log fits = fits_sent counts log fits
fits_before (Bind c) counts log fits = fits
fits_before (Plan begin last at) counts log fits = fits
fits_before (Leave c) counts log fits = fits
fits_before (Reset next) counts log fits = fits_turned counts log fits
fits_before (Granted library nr lease from start) counts log fits = fits
fits_before (Refused library nr why) counts log fits = fits
fits_before (Send lease library ordinal number) counts log fits = fits_sent counts log fits
fits_before (Release lease library count heir) counts log fits = fits
fits_before (Timeout lease library count) counts log fits = fits
fits_before (Hold lease until) counts log fits = fits
fits_before (Lapse lease) counts log fits = fits

pub fits_all : (es : List Entry) (s : Totals) (log : List (List OutEntry)) → FitsIn (fold state_after s es).series log → FitsIn s.series log
fits_all [] s log fits = fits
fits_all (e ∷ es) s log fits = fits_before e s.series log (fits_all es (state_after s e) log fits)

received_before : (e : Entry) (n : ℕ) → n ≤ inbound_after n e
received_before (Arrive pos) n = omega arith
received_before (Admin number) n = omega arith
received_before (Bind c) n = omega arith
received_before (Plan begin last at) n = omega arith
received_before (Leave c) n = omega arith
received_before (Reset next) n = omega arith
received_before (Granted library nr lease from start) n = omega arith
received_before (Refused library nr why) n = omega arith
received_before (Send lease library ordinal number) n = omega arith
received_before (Release lease library count heir) n = omega arith
received_before (Timeout lease library count) n = omega arith
received_before (Hold lease until) n = omega arith
received_before (Lapse lease) n = omega arith

received_all : (es : List Entry) (s : Totals) → s.inbound ≤ (fold state_after s es).inbound
received_all [] s = omega arith
received_all (e ∷ es) s = let one = received_before e s.inbound in let others = received_all es (state_after s e) in omega (arith, one, others)

-- the place of a body: its position in the inbound log, or its number in the series
abbrev place_of : Entry → ℕ
place_of (Arrive pos) = pos
place_of (Admin number) = number
place_of (Send lease library ordinal number) = number
place_of _ = 0

abbrev place_in : Totals → Entry → ℕ
place_in s (Arrive pos) = s.inbound
place_in s (Admin number) = sent_in_series s + 1
place_in s (Send lease library ordinal number) = sent_in_series s + 1
place_in s _ = 0

reply_placed : (s : Totals) (library nr from : ℕ) (reply : Reply) → place_of (entry_with library nr from reply) ≡ place_in s (entry_with library nr from reply)
reply_placed s library nr from (ToGranted lease start) = refl
reply_placed s library nr from (ToRefused why) = refl

step_placed : (limit : ℕ) (s : Totals) (event : Event) → place_of (step limit s event) ≡ place_in s (step limit s event)
step_placed limit s Arrives = refl
step_placed limit s AdminSent = refl
step_placed limit s (Binds c) = refl
step_placed limit s (Plans begin last at) = refl
step_placed limit s (Leaves c) = refl
step_placed limit s Resets = refl
step_placed limit s (Requests library nr from) = reply_placed s library nr from (reply_by s (why_refused limit s library from))
step_placed limit s Sends = refl
step_placed limit s (Releases heir) = refl
step_placed limit s TimesOut = refl
step_placed limit s (Holds until) = refl
step_placed limit s Lapses = refl

pub placed : (limit : ℕ) (s : Totals) (e : Entry) → IsNext limit s e → place_of e ≡ place_in s e
placed limit s e next =
    let is = next.is_step.entry in
    ap place_of is ∙ step_placed limit s next.is_step.event ∙ sym (ap (λ (x : Entry). place_in s x) is)

-- what there is to be read back of the entries that come to a state
abbrev reading : Book → Totals → List Entry → ReadBack
reading book s entries = record { leases = book.leases; entries = entries; inbound = take s.inbound book.inbound; outbound = first_entries s.series book.outbound }

one_received : (bodies : List (List ℕ)) (n : ℕ) → n + 1 ≤ length bodies → take n bodies ++ slice_index_or bodies n [] ∷ [] ≡ take (n + 1) bodies
one_received bodies n within = sym (one_more_of bodies n [] within)

number_read :
    (book : Book) (s : Totals) (number : ℕ)
    → 1 ≤ length s.series
    → FitsIn (with_last one_more s.series) book.outbound
    → number ≡ sent_in_series s + 1
    → (admin : Bool)
    → (entry_of book.outbound (series_of s) number).admin ≡ admin
    → with_entry (first_entries s.series book.outbound) (record (entry_of book.outbound (series_of s) number) { admin = admin }) ≡ first_entries (with_last one_more s.series) book.outbound
number_read book s number some fits number_is admin marked =
    let first = first_entries s.series book.outbound in
    ap (λ (b : Bool). with_entry first (record (entry_of book.outbound (series_of s) number) { admin = b })) (sym marked)
    ∙ ap (λ (k : ℕ). with_entry first (entry_of book.outbound (series_of s) k)) number_is
    ∙ sym (first_logged s.series book.outbound some fits)

step_read :
    (limit : ℕ) (book : Book) (s : Totals) (entries : List Entry) (e : Entry)
    → IsNext limit s e
    → 1 ≤ length s.series
    → FitsIn (state_after s e).series book.outbound
    → (state_after s e).inbound ≤ length book.inbound
    → IsMarked book.outbound s e
    → after_read e (entry_moment book (series_of s) e) (body_of book (series_of s) e) (reading book s entries) ≡ reading book (state_after s e) (entries ++ e ∷ [])
step_read limit book s entries (Arrive pos) next some fits received marked =
    let at : pos ≡ s.inbound = placed limit s (Arrive pos) next in
    ap (λ (log : List (List ℕ)). record (reading book s (entries ++ Arrive pos ∷ [])) { inbound = log })
    (ap (λ p. take s.inbound book.inbound ++ slice_index_or book.inbound p [] ∷ []) at ∙ one_received book.inbound s.inbound received)
step_read limit book s entries (Admin number) next some fits received marked =
    ap (λ (log : List (List OutEntry)). record (reading book s (entries ++ Admin number ∷ [])) { outbound = log }) (number_read book s number some fits (placed limit s (Admin number) next) _ marked)
step_read limit book s entries (Bind c) next some fits received marked = refl
step_read limit book s entries (Plan begin last at) next some fits received marked = refl
step_read limit book s entries (Leave c) next some fits received marked = refl
step_read limit book s entries (Reset series) next some fits received marked = ap (λ (log : List (List OutEntry)). record (reading book s (entries ++ Reset series ∷ [])) { outbound = log }) (sym (first_turned s.series book.outbound fits))
step_read limit book s entries (Granted library nr lease from start) next some fits received marked = refl
step_read limit book s entries (Refused library nr why) next some fits received marked = refl
step_read limit book s entries (Send lease library ordinal number) next some fits received marked =
    ap (λ (log : List (List OutEntry)). record (reading book s (entries ++ Send lease library ordinal number ∷ [])) { outbound = log }) (number_read book s number some fits (placed limit s (Send lease library ordinal number) next) _ marked)
step_read limit book s entries (Release lease library count heir) next some fits received marked = refl
step_read limit book s entries (Timeout lease library count) next some fits received marked = refl
step_read limit book s entries (Hold lease until) next some fits received marked = refl
step_read limit book s entries (Lapse lease) next some fits received marked = refl

all_read :
    (limit id : ℕ) (book : Book) (es : List Entry) (numbers : List ℕ) (s : Totals) (entries : List Entry)
    → length numbers ≡ length es
    → IsRunFrom limit s es
    → 1 ≤ length s.series
    → FitsIn (fold state_after s es).series book.outbound
    → (fold state_after s es).inbound ≤ length book.inbound
    → AreMarked book.outbound s es
    → after_reading (records_from id book (series_of s) es numbers) (reading book s entries) ≡ reading book (fold state_after s es) (entries ++ es)
all_read limit id book [] numbers s entries same run some fits received marked = ap (λ (xs : List Entry). reading book s xs) (sym (append-nil entries))
all_read limit id book (e ∷ es) [] s entries same run some fits received marked = absurd (omega arith)
all_read limit id book (e ∷ es) (n ∷ numbers) s entries same run some fits received marked =
    let next = state_after s e in
    let rest = received_all es next in
    let begun = over_least (series_of s) (e ∷ []) in
    let stepped = series_stepped s e in
    let one = step_read limit book s entries e run.0 some (fits_all es next book.outbound fits) (omega (arith, rest)) marked.0 in
    ap (λ (read : ReadBack). after_reading (records_from id book (series_behind (series_of s) e) es numbers) read) one
    ∙ ap (λ k. after_reading (records_from id book k es numbers) (reading book next (entries ++ e ∷ []))) (sym stepped)
    ∙ all_read limit id book es numbers next (entries ++ e ∷ []) (omega arith) run.1 (omega (arith, begun, stepped)) fits received marked.1
    ∙ ap (λ (xs : List Entry). reading book (fold state_after next es) xs) (append_assoc entries (e ∷ []) es)

marked_rest : (log : List (List OutEntry)) (s : Totals) (es more : List Entry) → AreMarked log s (es ++ more) → AreMarked log (fold state_after s es) more
marked_rest log s [] more marked = marked
marked_rest log s (e ∷ es) more marked = marked_rest log (state_after s e) es more marked.1

pub state_folded : (es : List Entry) → state_of es ≡ fold state_after opening es
unfolding state_of
state_folded es = refl

pub read_back : EntriesDecideOver → RunsGoOnOver → RecordsAreReadBack
read_back decide runs = λ id book pending is run marked all.
    let first = take pending.handed book.entries in
    let others = drop pending.handed book.entries in
    let before = state_of first in
    let split : first ++ others ≡ book.entries = take-append-drop pending.handed book.entries in
    let whole : state_of book.entries ≡ fold state_after before others = ap state_of (sym split) ∙ decide first others in
    let over = ap series_of (state_folded first) ∙ series_folded opening first in
    let least : 1 ≤ series_over (series_of opening) first = over_least (series_of opening) first in
    let some : 1 ≤ length before.series = omega (arith, over, least) in
    let fits = subst (λ (counts : List ℕ). FitsIn counts book.outbound) (is.outbound ∙ ap (λ (s : Totals). s.series) whole) (fits_whole book.outbound) in
    let received = is.inbound ∙ ap (λ (s : Totals). s.inbound) whole in
    let run_rest = ((runs book.leases first others).0 (subst (λ (es : List Entry). IsRun book.leases es) (sym split) run)).1 in
    let marked_first = subst (λ (es : List Entry). AreMarked book.outbound opening es) (sym split) marked in
    let marked_others = subst (λ (s : Totals). AreMarked book.outbound s others) (sym (state_folded first)) (marked_rest book.outbound opening first others marked_first) in
    let left = length-drop pending.handed book.entries in
    all_read book.leases id book others pending.expected before first (omega (arith, left, all)) run_rest some fits (omega (arith, received)) marked_others
    ∙ ap (λ (s : Totals). reading book s (first ++ others)) (sym whole)
    ∙ ap (λ (es : List Entry). reading book (state_of book.entries) es) split
    ∙ ap (λ (log : List (List ℕ)). record (reading book (state_of book.entries) book.entries) { inbound = log })
    (ap (λ n. take n book.inbound) (sym is.inbound) ∙ take_all (length book.inbound) book.inbound (omega arith))
    ∙ ap (λ (log : List (List OutEntry)). record (read_of book) { outbound = log })
    (ap (λ (counts : List ℕ). first_entries counts book.outbound) (sym is.outbound) ∙ first_whole book.outbound)

-- so many entries of a log stay as the log goes on
fits_gained : (counts : List ℕ) (log : List (List OutEntry)) (gain : Gain) → FitsIn counts log → FitsIn counts (with_gain log gain)
fits_gained [] log gain fits = tt
fits_gained (n ∷ counts) [] gain fits = absurd fits
fits_gained (n ∷ []) (entries ∷ []) (an_entry e) fits = (let more = length_push entries e in let few = fits.0 in omega arith, tt)
fits_gained (n ∷ (m ∷ counts)) (entries ∷ []) (an_entry e) fits = absurd fits.1
fits_gained (n ∷ counts) (entries ∷ (next ∷ log)) (an_entry e) fits = (fits.0, fits_gained counts (next ∷ log) (an_entry e) fits.1)
fits_gained (n ∷ counts) (entries ∷ log) a_series fits = (fits.0, fits_gained counts log a_series fits.1)

first_gained : (counts : List ℕ) (log : List (List OutEntry)) (gain : Gain) → FitsIn counts log → first_entries counts (with_gain log gain) ≡ first_entries counts log
first_gained [] log gain fits = refl
first_gained (n ∷ counts) [] gain fits = absurd fits
first_gained (n ∷ []) (entries ∷ []) (an_entry e) fits = ap (λ es. es ∷ []) (take-append-le n entries (e ∷ []) fits.0)
first_gained (n ∷ (m ∷ counts)) (entries ∷ []) (an_entry e) fits = absurd fits.1
first_gained (n ∷ counts) (entries ∷ (next ∷ log)) (an_entry e) fits = ap (λ rest. take n entries ∷ rest) (first_gained counts (next ∷ log) (an_entry e) fits.1)
first_gained (n ∷ counts) (entries ∷ log) a_series fits = ap (λ rest. take n entries ∷ rest) (first_gained counts log a_series fits.1)

first_stays : (counts : List ℕ) (log : List (List OutEntry)) (gains : List Gain) → FitsIn counts log → first_entries counts (log_after log gains) ≡ first_entries counts log
first_stays counts log [] fits = refl
first_stays counts log (gain ∷ gains) fits = first_stays counts (with_gain log gain) gains (fits_gained counts log gain fits) ∙ first_gained counts log gain fits

begins : {T : Type 0} (xs ys : List T) → take (length xs) (xs ++ ys) ≡ xs
begins xs ys = take-append-le (length xs) xs ys (omega arith) ∙ take_all (length xs) xs (omega arith)

pub read_stays : ReadBackStays
read_stays before book is grown =
    let entries_are : take (length before.entries) book.entries ≡ before.entries = ap (λ (es : List Entry). take (length before.entries) es) grown.entries_are ∙ begins before.entries grown.added in
    let inbound_is : take (state_of before.entries).inbound book.inbound ≡ before.inbound =
    ap (λ n. take n book.inbound) (sym is.inbound) ∙ ap (λ (log : List (List ℕ)). take (length before.inbound) log) grown.inbound ∙ begins before.inbound grown.more in
    let outbound_is : first_entries (state_of before.entries).series book.outbound ≡ before.outbound =
    ap (λ (counts : List ℕ). first_entries counts book.outbound) (sym is.outbound)
    ∙ ap (λ (log : List (List OutEntry)). first_entries (lengths before.outbound) log) grown.outbound.grown
    ∙ first_stays (lengths before.outbound) before.outbound grown.outbound.gains (fits_whole before.outbound)
    ∙ first_whole before.outbound in
    ap (λ (n : ℕ). record (read_up_to (length before.entries) book) { leases = n }) grown.leases
    ∙ ap (λ (es : List Entry). record (reading before (state_of es) es) { inbound = take (state_of es).inbound book.inbound; outbound = first_entries (state_of es).series book.outbound }) entries_are
    ∙ ap (λ (log : List (List ℕ)). record (read_of before) { inbound = log; outbound = first_entries (state_of before.entries).series book.outbound }) inbound_is
    ∙ ap (λ (log : List (List OutEntry)). record (read_of before) { outbound = log }) outbound_is
