-- The outbound log marks what the journal tells behind each event.
use Rattle.std.proofs.Common.{◌≡◌, ℕ, zero, suc, ◌+◌, ◌-◌, ◌≤◌, ◌<◌, Bool, true, false, if◌then◌else◌, List, [], ◌∷◌, ◌++◌, length, fold, map, Option, None, Some, IsSome, is_some, unwrap_or, refl, sym, ap, subst, ◌∙◌, append_assoc, arith}
use Rattle.std.specs.Prelude.{◌==◌, slice_get}
use Rattle.std.specs.List.{All, flat_map}
use Rattle.std.proofs.lemmas.Bool.{cond-false, cond-true, eq-eqb, false≢true, ne_eqb}
use Rattle.std.proofs.lemmas.List.{append_cancel_left, length-map}
use Rattle.std.proofs.lemmas.List.Elements.{All-cons, All-head, All-nil, All-tail}
use Rattle.lease_core.specs.Runs.{IsNext, IsRun, IsRunFrom}
use Rattle.lease_core.specs.State.{State as Totals, last_lease, last_or, lease_of, one_more, opening, sent_in_series, series_of, state_after, state_of, with_last}
use Rattle.lease_core.specs.declared.entry.Entry.{Entry}
use Rattle.lease_core.specs.declared.entry.Entry.TheVariants.{Arrive, Admin, Bind, Plan, Leave, Reset, Granted, Refused, Send, Release, Timeout, Hold, Lapse}
use Rattle.message_log.specs.Growth.{GoesOn}
use Rattle.message_log.specs.Series.{entry_at, entry_in, series_at, with_entry}
use Rattle.message_log.specs.declared.entry.OutEntry.{OutEntry}
use Rattle.resend_plan.specs.Wire.{entry_of, no_entry}
use Rattle.session_core.specs.declared.acts.Act.{Act}
use Rattle.session_core.specs.declared.acts.Act.TheVariants.{Accept, Resend, Reset as Restart, Send as SendAct}
use Rattle.session_core.specs.declared.acts.Admin.{Admin as Message}
use Rattle.session_core.specs.Admin.{admin_text, is_session_entry}
use Rattle.session_core.specs.State.{State}
use Rattle.lease_core.specs.Runs.{owes_hold}
use Rattle.lease_core.specs.Steps.{entry_with, hold_entry}
use Rattle.lease_core.specs.declared.event.Event.TheVariants.{Binds}
use Rattle.lease_core.specs.declared.messages.Reply.{Reply}
use Rattle.lease_core.specs.declared.messages.Reply.TheVariants.{Granted as ToGranted, Refused as ToRefused}
use Rattle.lease_core.specs.declared.word.Word.{Word}
use Rattle.session_book.specs.Acts.{IsBegun, after_acts, after_end, after_lapse, after_request}
use Rattle.session_book.specs.Book.{Book, Desk, with_event, with_machine, with_outbox}
use Rattle.session_book.specs.Kept.{IsBook}
use Rattle.session_book.specs.Rereading.{AreMarked, IsAllMarked, IsMarked, read_of}
use Rattle.session_book.specs.Reviving.{IsReadBack, ReadBack, after_read, after_resume, is_session_text, message_entry, outbound_with}
use Rattle.session_book.specs.Sends.{AreSendsOf, new_sends, sent_at, sent_by}
use Rattle.session_book.specs.Spells.{placed_from}
use Rattle.session_book.specs.Told.{IsLogged, TellActs, TellsAct}
use Rattle.session_book.specs.Words.{after_timeout, after_word, sent_entry, shown_sends}
use Rattle.session_book.specs.Grounds.{EntriesStay, RunGrounds}
use Rattle.session_book.proofs.Books.{lengths}
use Rattle.session_book.proofs.Carried.{bound_with, carried_with}
use Rattle.session_book.proofs.Handing.{over_least, series_stepped}
use Rattle.session_book.proofs.LeaseEntries.{AddsLeases, IsLease, adds_shown, adds_timed, sends_go_on}
use Rattle.session_book.proofs.News.{last_length, named}
use Rattle.session_book.proofs.RoundTrip.{FitsIn, fits_all, fits_whole, last_is, last_series, placed, state_folded}
use Rattle.session_book.proofs.SendEvents.{first_sends, timeout_sends, word_sends}

-- the text of a session message tells whether it is a session entry
abbrev pub TextsTell : Type 0
TextsTell = (message : Message) (number : ℕ) → is_session_text (admin_text message number) ≡ is_session_entry message

-- the log has what was numbered
abbrev IsThere : List (List OutEntry) → Totals → Entry → Type 0
IsThere log s (Admin number) = IsSome (entry_at log (series_of s) number)
IsThere log s (Send lease library ordinal number) = IsSome (entry_at log (series_of s) number)
IsThere log s _ = Unit {0}

abbrev AreThere : List (List OutEntry) → Totals → List Entry → Type 0
AreThere log s [] = Unit {0}
AreThere log s (e ∷ es) = IsThere log s e × AreThere log (state_after s e) es

got_there : {T : Type 0} (xs : List T) (n : ℕ) → n < length xs → IsSome (slice_get xs n)
got_there [] n below = absurd (omega arith)
got_there (x ∷ xs) zero below = refl
got_there (x ∷ xs) (suc n) below = got_there xs n (omega arith)

in_there : (entries : List OutEntry) (n : ℕ) → n + 1 ≤ length entries → IsSome (entry_in entries (n + 1))
in_there entries n within =
    let one_less : n + 1 - 1 ≡ n = omega arith in
    let found : entry_in entries (n + 1) ≡ slice_get entries n =
    cond-false (n + 1 == 0) None (slice_get entries (n + 1 - 1)) (ne_eqb (n + 1) 0 (λ z. omega arith)) ∙ ap (λ k. slice_get entries k) one_less in
    ap (λ (o : Option OutEntry). is_some o) found ∙ got_there entries n (omega arith)

last_within : (counts : List ℕ) (log : List (List OutEntry)) → 1 ≤ length counts → FitsIn (with_last one_more counts) log → last_or 0 counts + 1 ≤ length (last_series counts log)
last_within [] log some fits = absurd (omega arith)
last_within (n ∷ []) [] some fits = absurd fits
last_within (n ∷ []) (entries ∷ log) some fits = fits.0
last_within (n ∷ (m ∷ counts)) [] some fits = absurd fits
last_within (n ∷ (m ∷ counts)) (entries ∷ log) some fits = last_within (m ∷ counts) log (omega arith) fits.1

number_there : (counts : List ℕ) (log : List (List OutEntry)) → 1 ≤ length counts → FitsIn (with_last one_more counts) log → IsSome (entry_at log (length counts) (last_or 0 counts + 1))
number_there counts log some fits =
    ap (λ (entries : List OutEntry). is_some (entry_in entries (last_or 0 counts + 1))) (sym (last_is counts log some))
    ∙ in_there (last_series counts log) (last_or 0 counts) (last_within counts log some fits)

one_there : (limit : ℕ) (log : List (List OutEntry)) (s : Totals) (e : Entry) → IsNext limit s e → 1 ≤ length s.series → FitsIn (state_after s e).series log → IsThere log s e
one_there limit log s (Arrive pos) next some fits = tt
one_there limit log s (Admin number) next some fits =
    ap (λ n. is_some (entry_at log (series_of s) n)) (placed limit s (Admin number) next) ∙ number_there s.series log some fits
one_there limit log s (Bind c) next some fits = tt
one_there limit log s (Plan begin last at) next some fits = tt
one_there limit log s (Leave c) next some fits = tt
one_there limit log s (Reset series) next some fits = tt
one_there limit log s (Granted library nr lease from start) next some fits = tt
one_there limit log s (Refused library nr why) next some fits = tt
one_there limit log s (Send lease library ordinal number) next some fits =
    ap (λ n. is_some (entry_at log (series_of s) n)) (placed limit s (Send lease library ordinal number) next) ∙ number_there s.series log some fits
one_there limit log s (Release lease library count heir) next some fits = tt
one_there limit log s (Timeout lease library count) next some fits = tt
one_there limit log s (Hold lease until) next some fits = tt
one_there limit log s (Lapse lease) next some fits = tt

all_there : (limit : ℕ) (log : List (List OutEntry)) (s : Totals) (es : List Entry) → IsRunFrom limit s es → 1 ≤ length s.series → FitsIn (fold state_after s es).series log → AreThere log s es
all_there limit log s [] run some fits = tt
all_there limit log s (e ∷ es) run some fits =
    let next = state_after s e in
    let begun = over_least (series_of s) (e ∷ []) in
    let stepped = series_stepped s e in (
      one_there limit log s e run.0 some (fits_all es next log fits),
      all_there limit log next es run.1 (omega (arith, begun, stepped)) fits,
    )

-- of a lawful journal, with which the log goes
lawful_there : (limit : ℕ) (log : List (List OutEntry)) (entries : List Entry) → lengths log ≡ (state_of entries).series → IsRun limit entries → AreThere log opening entries
unfolding IsRun
lawful_there limit log entries counts run =
    all_there limit log opening entries run (omega arith)
    (subst (λ (s : Totals). FitsIn s.series log) (state_folded entries) (subst (λ (ns : List ℕ). FitsIn ns log) counts (fits_whole log)))

module _ (stay : EntriesStay) where
  mark_stays : (earlier later : List (List OutEntry)) (s : Totals) (e : Entry) → GoesOn earlier later → IsThere earlier s e → IsMarked earlier s e → IsMarked later s e
  mark_stays earlier later s (Arrive pos) on there is = tt
  mark_stays earlier later s (Admin number) on there is =
      subst (λ (o : Option OutEntry). (unwrap_or o no_entry).admin ≡ is_session_text (unwrap_or o no_entry).body) (sym (stay earlier later (series_of s) number on there)) is
  mark_stays earlier later s (Bind c) on there is = tt
  mark_stays earlier later s (Plan begin last at) on there is = tt
  mark_stays earlier later s (Leave c) on there is = tt
  mark_stays earlier later s (Reset series) on there is = tt
  mark_stays earlier later s (Granted library nr lease from start) on there is = tt
  mark_stays earlier later s (Refused library nr why) on there is = tt
  mark_stays earlier later s (Send lease library ordinal number) on there is =
      ap (λ (o : Option OutEntry). (unwrap_or o no_entry).admin) (stay earlier later (series_of s) number on there) ∙ is
  mark_stays earlier later s (Release lease library count heir) on there is = tt
  mark_stays earlier later s (Timeout lease library count) on there is = tt
  mark_stays earlier later s (Hold lease until) on there is = tt
  mark_stays earlier later s (Lapse lease) on there is = tt

  marks_stay : (earlier later : List (List OutEntry)) (s : Totals) (es : List Entry) → GoesOn earlier later → AreThere earlier s es → AreMarked earlier s es → AreMarked later s es
  marks_stay earlier later s [] on there are = tt
  marks_stay earlier later s (e ∷ es) on there are = (mark_stays earlier later s e on there.0 are.0, marks_stay earlier later (state_after s e) es on there.1 are.1)

marks_join : (log : List (List OutEntry)) (s : Totals) (first second : List Entry) → AreMarked log s first → AreMarked log (fold state_after s first) second → AreMarked log s (first ++ second)
marks_join log s [] second are more = more
marks_join log s (e ∷ es) second are more = (are.0, marks_join log (state_after s e) es second are.1 more)

-- entries that came to a marked journal
marks_behind : (log : List (List OutEntry)) (entries added : List Entry) → AreMarked log opening entries → AreMarked log (state_of entries) added → AreMarked log opening (entries ++ added)
marks_behind log entries added are more = marks_join log opening entries added are (subst (λ (s : Totals). AreMarked log s added) (state_folded entries) more)

-- acts are told by what is marked
told_mark : TextsTell → (inbound : List (List ℕ)) (log : List (List OutEntry)) (s : Totals) (act : Act) (e : Entry) → TellsAct inbound log s act e → IsMarked log s e
told_mark texts inbound log s (Accept body) e is = subst (λ (x : Entry). IsMarked log s x) (sym is.1.0) tt
told_mark texts inbound log s (SendAct message) e is =
    let logged : IsLogged log (series_of s) is.0 message = is.1.1 in
    subst (λ (x : Entry). IsMarked log s x) (sym is.1.0)
    (subst (λ (o : Option OutEntry). (unwrap_or o no_entry).admin ≡ is_session_text (unwrap_or o no_entry).body) (sym logged.found)
    (logged.session ∙ sym (texts message is.0) ∙ ap is_session_text (sym logged.body)))
told_mark texts inbound log s (Resend begin last) e is = subst (λ (x : Entry). IsMarked log s x) (sym is.1) tt
told_mark texts inbound log s Restart e is = subst (λ (x : Entry). IsMarked log s x) (sym is.1) tt

told_marks : TextsTell → (inbound : List (List ℕ)) (log : List (List OutEntry)) (s : Totals) (acts : List Act) (es : List Entry) → TellActs inbound log s acts es → AreMarked log s es
told_marks texts inbound log s [] [] is = tt
told_marks texts inbound log s [] (e ∷ es) is = absurd is
told_marks texts inbound log s (act ∷ acts) [] is = absurd is
told_marks texts inbound log s (act ∷ acts) (e ∷ es) is = (told_mark texts inbound log s act e is.0, told_marks texts inbound log (state_after s e) acts es is.1)

-- an entry that is no session entry
abbrev IsUnmarked : OutEntry → Type 0
IsUnmarked entry = entry.admin ≡ false

first_unmarked : (first second : List OutEntry) → All IsUnmarked (first ++ second) → All IsUnmarked first
first_unmarked [] second all = All-nil IsUnmarked
first_unmarked (e ∷ first) second all = All-cons IsUnmarked e first (All-head IsUnmarked e (first ++ second) all) (first_unmarked first second (All-tail IsUnmarked e (first ++ second) all))

second_unmarked : (first second : List OutEntry) → All IsUnmarked (first ++ second) → All IsUnmarked second
second_unmarked [] second all = all
second_unmarked (e ∷ first) second all = second_unmarked first second (All-tail IsUnmarked e (first ++ second) all)

sent_unmarked : (at : ℕ) (bodies : List (List ℕ)) → All IsUnmarked (map (sent_entry at) bodies)
sent_unmarked at [] = All-nil IsUnmarked
sent_unmarked at (body ∷ bodies) = All-cons IsUnmarked (sent_entry at body) (map (sent_entry at) bodies) refl (sent_unmarked at bodies)

unmarked_if : (b : Bool) (entries : List OutEntry) → All IsUnmarked entries → All IsUnmarked (if b then entries else [])
unmarked_if true entries all = all
unmarked_if false entries all = All-nil IsUnmarked

-- what leases do marks nothing, where no send has a session entry
lease_mark : (log : List (List OutEntry)) (s : Totals) (e : Entry) → IsLease e → ((library : ℕ) → All IsUnmarked (sent_by library log s e)) → IsMarked log s e
lease_mark log s (Arrive pos) is sent = tt
lease_mark log s (Admin number) is sent = absurd (false≢true is)
lease_mark log s (Bind c) is sent = tt
lease_mark log s (Plan begin last at) is sent = tt
lease_mark log s (Leave c) is sent = tt
lease_mark log s (Reset series) is sent = tt
lease_mark log s (Granted library nr lease from start) is sent = tt
lease_mark log s (Refused library nr why) is sent = tt
lease_mark log s (Send lease owner ordinal number) is sent =
    let entry = entry_of log (series_of s) number in
    All-head IsUnmarked entry [] (subst (All IsUnmarked) (cond-true (owner == owner) (entry ∷ []) [] (eq-eqb owner owner refl)) (sent owner))
lease_mark log s (Release lease library count heir) is sent = tt
lease_mark log s (Timeout lease library count) is sent = tt
lease_mark log s (Hold lease until) is sent = tt
lease_mark log s (Lapse lease) is sent = tt

leases_marks : (log : List (List OutEntry)) (s : Totals) (es : List Entry) → All IsLease es → ((library : ℕ) → All IsUnmarked (flat_map (sent_at library log) (placed_from s es))) → AreMarked log s es
leases_marks log s [] are sent = tt
leases_marks log s (e ∷ es) are sent =
    let others = λ (library : ℕ). flat_map (sent_at library log) (placed_from (state_after s e) es) in (
      lease_mark log s e (All-head IsLease e es are) (λ library. first_unmarked (sent_by library log s e) (others library) (sent library)),
      leases_marks log (state_after s e) es (All-tail IsLease e es are) (λ library. second_unmarked (sent_by library log s e) (others library) (sent library)),
    )

sends_marks : (at : ℕ) (bodies : List (List ℕ)) (old new : Book) (adds : AddsLeases old.entries new.entries) → ((library : ℕ) → AreSendsOf library old.entries (new_sends library old at bodies) new)
    → AreMarked new.outbound (state_of old.entries) adds.added
sends_marks at bodies old new adds sends =
    leases_marks new.outbound (state_of old.entries) adds.added adds.leases (λ library.
    let are = sends library in
    let same : are.added ≡ adds.added = append_cancel_left old.entries are.added adds.added (sym are.entries_are ∙ adds.are) in
    subst (All IsUnmarked) (sym are.sends_are ∙ ap (λ es. flat_map (sent_at library new.outbound) (placed_from (state_of old.entries) es)) same)
    (unmarked_if ((last_lease (state_of old.entries).leases).library == library) (map (sent_entry at) bodies) (sent_unmarked at bodies)))

-- one entry that marks nothing
one_marked : (log : List (List OutEntry)) (entries : List Entry) (e : Entry) → IsMarked log (state_of entries) e → AreMarked log opening entries → AreMarked log opening (entries ++ e ∷ [])
one_marked log entries e is are = marks_behind log entries (e ∷ []) are (is, tt)

reply_marked : (log : List (List OutEntry)) (s : Totals) (library nr from : ℕ) (reply : Reply) → IsMarked log s (entry_with library nr from reply)
reply_marked log s library nr from (ToGranted lease start) = tt
reply_marked log s library nr from (ToRefused why) = tt

pub leave_marks : (c : ℕ) (book : Book) → IsAllMarked (read_of book) → IsAllMarked (read_of (after_end c book))
leave_marks c book are = one_marked book.outbound book.entries (Leave c) tt are

pub request_marks : (library nr from : ℕ) (book : Book) → IsAllMarked (read_of book) → IsAllMarked (read_of (after_request library nr from book))
request_marks library nr from book are = one_marked book.outbound book.entries _ (reply_marked book.outbound (state_of book.entries) library nr from _) are

pub lapse_marks : (book : Book) → IsAllMarked (read_of book) → IsAllMarked (read_of (after_lapse book))
lapse_marks book are = one_marked book.outbound book.entries (Lapse (lease_of (state_of book.entries))) tt are

hold_marks : (log : List (List OutEntry)) (until : ℕ) (entries : List Entry) (b : Bool) → AreMarked log opening entries
    → AreMarked log opening (if b then entries ++ hold_entry (state_of entries) until ∷ [] else entries)
hold_marks log until entries true are = one_marked log entries (hold_entry (state_of entries) until) tt are
hold_marks log until entries false are = are

pub resume_marks : (us them : List ℕ) (dials : Option ℕ) (expected until : ℕ) (read : ReadBack) → IsAllMarked read → IsAllMarked (read_of (after_resume us them dials expected until read))
resume_marks us them dials expected until read are = hold_marks read.outbound until read.entries (owes_hold (state_of read.entries).latest) are

-- the entry of the number that was taken
found_last : (log : List (List OutEntry)) (s : Totals) (number : ℕ) (entry : OutEntry) → lengths log ≡ s.series → 1 ≤ length log → number ≡ sent_in_series s + 1
    → entry_at (with_entry log entry) (series_of s) number ≡ Some entry
found_last log s number entry counts some is =
    let newer = with_entry log entry in
    let series : series_of s ≡ length log = sym (ap length counts) ∙ length-map log (λ es. length es) in
    let sent : sent_in_series s ≡ length (series_at log (length log)) = ap (λ ns. last_or 0 ns) (sym counts) ∙ last_length log some in
    ap (λ n. entry_at newer (series_of s) n) is
    ∙ ap (λ k. entry_at newer k (sent_in_series s + 1)) series
    ∙ ap (λ n. entry_at newer (length log) (n + 1)) sent
    ∙ named log entry some

read_mark : (limit : ℕ) (e : Entry) (at : ℕ) (body : List ℕ) (s : Totals) (log : List (List OutEntry)) → lengths log ≡ s.series → 1 ≤ length log → IsNext limit s e → IsMarked (outbound_with e at body log) s e
read_mark limit (Arrive pos) at body s log counts some next = tt
read_mark limit (Admin number) at body s log counts some next =
    subst (λ (o : Option OutEntry). (unwrap_or o no_entry).admin ≡ is_session_text (unwrap_or o no_entry).body)
    (sym (found_last log s number (message_entry at body) counts some (placed limit s (Admin number) next))) refl
read_mark limit (Bind c) at body s log counts some next = tt
read_mark limit (Plan begin last moment) at body s log counts some next = tt
read_mark limit (Leave c) at body s log counts some next = tt
read_mark limit (Reset series) at body s log counts some next = tt
read_mark limit (Granted library nr lease from start) at body s log counts some next = tt
read_mark limit (Refused library nr why) at body s log counts some next = tt
read_mark limit (Send lease library ordinal number) at body s log counts some next =
    ap (λ (o : Option OutEntry). (unwrap_or o no_entry).admin) (found_last log s number (sent_entry at body) counts some (placed limit s (Send lease library ordinal number) next))
read_mark limit (Release lease library count heir) at body s log counts some next = tt
read_mark limit (Timeout lease library count) at body s log counts some next = tt
read_mark limit (Hold lease until) at body s log counts some next = tt
read_mark limit (Lapse lease) at body s log counts some next = tt

module _ (r : RunGrounds) where
  read_on : (e : Entry) (at : ℕ) (body : List ℕ) (log : List (List OutEntry)) → GoesOn log (outbound_with e at body log)
  read_on (Arrive pos) at body log = r.logs.itself log
  read_on (Admin number) at body log = r.logs.entry log (message_entry at body)
  read_on (Bind c) at body log = r.logs.itself log
  read_on (Plan begin last moment) at body log = r.logs.itself log
  read_on (Leave c) at body log = r.logs.itself log
  read_on (Reset series) at body log = r.logs.series log
  read_on (Granted library nr lease from start) at body log = r.logs.itself log
  read_on (Refused library nr why) at body log = r.logs.itself log
  read_on (Send lease library ordinal number) at body log = r.logs.entry log (sent_entry at body)
  read_on (Release lease library count heir) at body log = r.logs.itself log
  read_on (Timeout lease library count) at body log = r.logs.itself log
  read_on (Hold lease until) at body log = r.logs.itself log
  read_on (Lapse lease) at body log = r.logs.itself log

  -- marked entries came to a lawful journal, with which its log went
  more_marks : (limit : ℕ) (earlier later : List (List OutEntry)) (entries added : List Entry) → lengths earlier ≡ (state_of entries).series → IsRun limit entries → GoesOn earlier later
      → AreMarked earlier opening entries → AreMarked later (state_of entries) added → AreMarked later opening (entries ++ added)
  more_marks limit earlier later entries added counts run on are more =
      marks_behind later entries added (marks_stay r.stay earlier later opening entries on (lawful_there limit earlier entries counts run) are) more

  pub read_marks : (e : Entry) (at : ℕ) (body : List ℕ) (read : ReadBack) → IsReadBack read → IsRun read.leases read.entries → IsNext read.leases (state_of read.entries) e → IsAllMarked read
      → IsAllMarked (after_read e at body read)
  read_marks e at body read is run next are =
      more_marks read.leases read.outbound (outbound_with e at body read.outbound) read.entries (e ∷ []) is.outbound run (read_on e at body read.outbound) are
      (read_mark read.leases e at body (state_of read.entries) read.outbound is.outbound is.begun next, tt)

  event_marks : (old new : Book) (added : List Entry) → IsBook old → IsRun old.leases old.entries → new.entries ≡ old.entries ++ added → GoesOn old.outbound new.outbound
      → AreMarked new.outbound (state_of old.entries) added → IsAllMarked (read_of old) → IsAllMarked (read_of new)
  event_marks old new added is run entries on more are =
      subst (λ (es : List Entry). AreMarked new.outbound opening es) (sym entries) (more_marks old.leases old.outbound new.outbound old.entries added is.outbound run on are more)

  pub acts_marks : TextsTell → (at : ℕ) (acts : List Act) (machine : State) (desk : Desk) → IsBook desk.book → IsRun desk.book.leases desk.book.entries → IsAllMarked (read_of desk.book)
      → IsAllMarked (read_of (after_acts at acts (with_outbox (with_machine machine desk.book) desk.outgoing)).book)
  acts_marks texts at acts machine desk is run are =
      let new = (after_acts at acts (with_outbox (with_machine machine desk.book) desk.outgoing)).book in
      let told = carried_with r.logs r.stay at acts machine desk is in
      event_marks desk.book new told.added is run told.entries_are told.outbound (told_marks texts new.inbound new.outbound (state_of desk.book.entries) acts told.added told.told) are

  pub open_marks : TextsTell → (c at : ℕ) (acts : List Act) (machine : State) (desk : Desk) → IsBook desk.book → IsRun desk.book.leases desk.book.entries → IsAllMarked (read_of desk.book)
      → IsAllMarked (read_of (after_acts at acts (with_outbox (with_machine machine (with_event (Binds c) desk.book)) desk.outgoing)).book)
  open_marks texts c at acts machine desk is run are =
      let old = desk.book in
      let new = (after_acts at acts (with_outbox (with_machine machine (with_event (Binds c) old)) desk.outgoing)).book in
      let told = bound_with r.logs r.stay c at acts machine desk is in
      event_marks old new (Bind c ∷ told.added) is run (told.entries_are ∙ append_assoc old.entries (Bind c ∷ []) told.added) told.outbound
      (tt, subst (λ (s : Totals). AreMarked new.outbound s told.added) (r.logs.decide old.entries (Bind c)) (told_marks texts new.inbound new.outbound _ acts told.added told.told)) are

  pub begun_marks : TextsTell → (at : ℕ) (acts : List Act) (machine : State) (desk new : Desk) → IsBook desk.book → IsRun desk.book.leases desk.book.entries
      → IsBegun at acts (with_outbox (with_machine machine desk.book) desk.outgoing) new → IsAllMarked (read_of desk.book) → IsAllMarked (read_of new.book)
  begun_marks texts at acts machine desk new is run begun are = subst (λ (d : Desk). IsAllMarked (read_of d.book)) (sym begun.new_is) (acts_marks texts at begun.done machine desk is run are)

  pub opening_marks : TextsTell → (c at : ℕ) (acts : List Act) (machine : State) (desk new : Desk) → IsBook desk.book → IsRun desk.book.leases desk.book.entries
      → IsBegun at acts (with_outbox (with_machine machine (with_event (Binds c) desk.book)) desk.outgoing) new → IsAllMarked (read_of desk.book) → IsAllMarked (read_of new.book)
  opening_marks texts c at acts machine desk new is run begun are =
      subst (λ (d : Desk). IsAllMarked (read_of d.book)) (sym begun.new_is) (open_marks texts c at begun.done machine desk is run are)

  pub word_marks : (at until : ℕ) (w : Word) (bodies : List (List ℕ)) (desk : Desk) → IsBook desk.book → IsRun desk.book.leases desk.book.entries → length bodies ≡ shown_sends desk.book.entries w
      → IsAllMarked (read_of desk.book) → IsAllMarked (read_of (after_word at until w bodies desk).book)
  word_marks at until w bodies desk is run count are =
      let old = desk.book in
      let new = (after_word at until w bodies desk).book in
      let adds = adds_shown until old.entries w in
      event_marks old new adds.added is run adds.are (sends_go_on r.logs at bodies old.outbound)
      (sends_marks at bodies old new adds (λ library. word_sends r library old.entries [] at until w bodies desk is count (first_sends library old))) are

  pub timeout_marks : (at until : ℕ) (w : Word) (bodies : List (List ℕ)) (desk : Desk) → IsBook desk.book → IsRun desk.book.leases desk.book.entries → length bodies ≡ shown_sends desk.book.entries w
      → IsAllMarked (read_of desk.book) → IsAllMarked (read_of (after_timeout at until w bodies desk).book)
  timeout_marks at until w bodies desk is run count are =
      let old = desk.book in
      let new = (after_timeout at until w bodies desk).book in
      let adds = adds_timed w.standing until old.entries w in
      event_marks old new adds.added is run adds.are (sends_go_on r.logs at bodies old.outbound)
      (sends_marks at bodies old new adds (λ library. timeout_sends r library old.entries [] at until w bodies desk is count (first_sends library old))) are
