-- From call to call a library's leases rise, and its seat forgets no word.
use Rattle.std.proofs.Common.{◌≡◌, ◌≢◌, inl, inr, ℕ, suc, ◌<◌, ◌≤◌, Bool, true, false, List, [], ◌∷◌, length, Option, None, Some, Result, Ok, Err, refl, ap, subst, sym, ◌∙◌, arith}
use Rattle.std.proofs.lemmas.Bool.{cases_eq, cases_lt, eq-eqb, eqb-false, leb-false, ltb-true, ne_eqb}
use Rattle.std.proofs.lemmas.List.{get_or-set_other, get_or-set_same, set_past}
use Rattle.std.proofs.lemmas.List.Elements.{All-cons, All-nil, Contains-append_left}
use Rattle.std.specs.List.{All, Contains}
use Rattle.std.specs.Prelude.{◌==◌, if◌then◌else◌, nat_le, nat_lt, slice_index_or}
use Rattle.engine_end.specs.Meeting.{SeatsMeet}
use Rattle.lease_core.specs.Lines.{opening_word}
use Rattle.lease_core.specs.declared.lease.Ending.{Ending}
use Rattle.lease_core.specs.declared.messages.Notice.{Notice}
use Rattle.lease_core.specs.declared.messages.Notice.TheVariants as notices
use Rattle.lease_core.specs.declared.word.Word.{Word}
use Rattle.lease_words.specs.Leases.{AreBelow, held_lease, loss_ending, new_lease, shows_lease, with_first_ending, with_one_send}
use Rattle.lease_words.specs.Sees.{after_arrival, after_loss, after_release, after_see, after_send, after_taken_load, release_ending}
use Rattle.lease_words.specs.Tells.{library_session_after_meeting}
use Rattle.lease_words.specs.Views.{EngineView, LibraryView, engine_at, library_at, no_library_session, with_library_at}
use Rattle.lease_words.specs.declared.item.Item.{Item}
use Rattle.lease_words.specs.declared.view.EngineSession.{EngineSession}
use Rattle.lease_words.specs.declared.view.LibraryLease.{LibraryLease}
use Rattle.lease_words.specs.declared.view.LibrarySession.{LibrarySession}
use Rattle.library_api.specs.Ends.{seat_after_arrival, seat_after_beat, with_session}
use Rattle.library_api.specs.Known.{Known, held, holds, lease_in, reading_at, with_seat}
use Rattle.library_api.specs.Polls.{Found, IsNewLease, LoadsWord, Polled, after_grant, after_message, after_notice, after_poll, after_pop, after_published, first_word, message_event, notice_event, saw_published, saw_word, session_of, shows, taken_up, with_none_kept, with_request_closed, word_seen}
use Rattle.library_api.specs.Requests.{after_asking}
use Rattle.library_api.specs.declared.event.Event.TheVariants as events
use Rattle.library_api.specs.declared.reading.Message.{Message}
use Rattle.library_api.specs.declared.refusal.AskError.{AskError}
use Rattle.library_api.specs.declared.refusal.AskError.TheVariants as asking
use Rattle.headline.specs.runs.Deeds.{AreRising, IsKnownWord, lost_polling}
use Rattle.headline.proofs.run_lemmas.Starts.{past_end}

-- What is known of a session goes on: its leases rise, and no word is forgotten.
pub record SessionKeeps (old new : LibrarySession) : Type 0 where
  pub rising : AreRising old.leases → AreRising new.leases
  pub words : (w : Word) → IsKnownWord old w → IsKnownWord new w

-- and so it does of each session of a seat
abbrev pub SeatKeeps : LibraryView → LibraryView → Type 0
SeatKeeps old new = (s : ℕ) → SessionKeeps (library_at old s) (library_at new s)

session_itself : (known : LibrarySession) → SessionKeeps known known
session_itself known = record { rising = λ is. is; words = λ w is. is }

pub seat_itself : (seat : LibraryView) → SeatKeeps seat seat
seat_itself seat s = session_itself (library_at seat s)

seat_further : (first second third : LibraryView) → SeatKeeps first second → SeatKeeps second third → SeatKeeps first third
seat_further first second third one two s = record { rising = λ is. (two s).rising ((one s).rising is); words = λ w is. (two s).words w ((one s).words w is) }

pub seat_is : (old new : LibraryView) → new ≡ old → SeatKeeps old new
seat_is old new is = subst (SeatKeeps old) (sym is) (seat_itself old)

-- one session changes
pub one_keeps : (seat : LibraryView) (s : ℕ) (known : LibrarySession) → SessionKeeps (library_at seat s) known → SeatKeeps seat (with_library_at seat s known)
one_keeps seat s known keeps t =
    let sessions = seat.knows.sessions in
    elim (cases_eq t s) [
      | inl same ↦ elim (cases_lt s (length sessions)) [
        | inl here ↦ subst (λ k. SessionKeeps (library_at seat k) (library_at (with_library_at seat s known) k)) (sym same)
            (subst (SessionKeeps (library_at seat s)) (sym (get_or-set_same sessions s known no_library_session here)) keeps)
        | inr past ↦ subst (λ all. SessionKeeps (library_at seat t) (slice_index_or all t no_library_session)) (sym (set_past sessions s known past)) (session_itself (library_at seat t))
      ]
      | inr other ↦ subst (SessionKeeps (library_at seat t)) (sym (get_or-set_other sessions s t known no_library_session other)) (session_itself (library_at seat t))
    ]

-- if the table has it
session_keeps : (there : Bool) (seat : LibraryView) (s : ℕ) (known : LibrarySession) → nat_lt s seat.table.shape.sessions ≡ there → (s < seat.table.shape.sessions → SessionKeeps (library_at seat s) known)
    → SeatKeeps seat (if there then with_library_at seat s known else seat)
session_keeps true seat s known is keeps = one_keeps seat s known (keeps (ltb-true s seat.table.shape.sessions is))
session_keeps false seat s known is keeps = seat_itself seat

with_session_keeps : (seat : LibraryView) (s : ℕ) (known : LibrarySession) → (s < seat.table.shape.sessions → SessionKeeps (library_at seat s) known) → SeatKeeps seat (with_session seat s known)
with_session_keeps seat s known keeps = session_keeps (nat_lt s seat.table.shape.sessions) seat s known refl keeps

-- one word more
word_more : (known new : LibrarySession) (seen : Word) → new.words ≡ seen ∷ known.words → (w : Word) → IsKnownWord known w → IsKnownWord new w
word_more known new seen is w was = elim was [
  | inl opening ↦ inl opening
  | inr has ↦ inr (subst (λ words. Contains words w) (sym is) (suc has.0, (let within = has.1 in omega arith), has.2))
]

-- a lease that sends, or ends, stays where it is
below_ending : (lease : ℕ) (f : Ending → Ending) (hs : List LibraryLease) → AreBelow lease hs → AreBelow lease (with_first_ending f hs)
below_ending lease f [] below = tt
below_ending lease f (h ∷ hs) below = below

rising_ending : (f : Ending → Ending) (hs : List LibraryLease) → AreRising hs → AreRising (with_first_ending f hs)
rising_ending f [] rising = tt
rising_ending f (h ∷ hs) rising = rising

rising_send : (hs : List LibraryLease) → AreRising hs → AreRising (with_one_send hs)
rising_send [] rising = tt
rising_send (h ∷ hs) rising = rising

pub loaded_keeps : (known : LibrarySession) (count : ℕ) → SessionKeeps known (after_taken_load known count)
loaded_keeps known count = record { rising = λ is. is; words = λ w is. is }

pub sent_keeps : (known : LibrarySession) (taken : ℕ) (items : List Item) (made : Word) → SessionKeeps known (after_send (after_taken_load known taken) items made)
sent_keeps known taken items made = record { rising = rising_send known.leases; words = word_more known (after_send (after_taken_load known taken) items made) made refl }

pub lost_keeps : (known : LibrarySession) (seen : Word) → SessionKeeps known (after_loss known seen)
lost_keeps known seen = record { rising = rising_ending loss_ending known.leases; words = word_more known (after_loss known seen) seen refl }

pub lost_sending_keeps : (known : LibrarySession) (taken : ℕ) (seen : Word) → SessionKeeps known (after_loss (after_taken_load known taken) seen)
lost_sending_keeps known taken seen = record { rising = rising_ending loss_ending known.leases; words = word_more known (after_loss (after_taken_load known taken) seen) seen refl }

pub given_keeps : (known : LibrarySession) (heir : ℕ) (made : Word) → SessionKeeps known (after_release known heir made)
given_keeps known heir made = record { rising = rising_ending (release_ending heir) known.leases; words = word_more known (after_release known heir made) made refl }

-- a lease that is found is above all before
rising_found : (shown same : Bool) (library : ℕ) (w : Word) (hs : List LibraryLease) → shows_lease library w ≡ shown → (held_lease hs == w.lease) ≡ same → (shows_lease library w ≡ true → held_lease hs ≢ w.lease → AreBelow w.lease hs)
    → AreRising hs → AreRising (if shown then (if same then hs else new_lease w.lease ∷ with_first_ending loss_ending hs) else with_first_ending loss_ending hs)
rising_found true true library w hs shown_is same_is newer rising = rising
rising_found true false library w hs shown_is same_is newer rising =
    (below_ending w.lease loss_ending hs (newer shown_is (eqb-false (held_lease hs) w.lease same_is)), rising_ending loss_ending hs rising)
rising_found false same library w hs shown_is same_is newer rising = rising_ending loss_ending hs rising

saw_keeps : (library : ℕ) (known : LibrarySession) (w : Word) → (shows_lease library w ≡ true → held_lease known.leases ≢ w.lease → AreBelow w.lease known.leases) → SessionKeeps known (after_see library known w)
saw_keeps library known w newer = record {
  rising = rising_found (shows_lease library w) (held_lease known.leases == w.lease) library w known.leases refl refl newer;
  words = word_more known (after_see library known w) w refl;
}

-- a word, and a count, are loaded
word_keeps : (seat : LibraryView) (s : ℕ) (w : Word) → IsNewLease seat s w → SeatKeeps seat (with_session seat s (after_see seat.knows.number (library_at seat s) w))
word_keeps seat s w newer = with_session_keeps seat s (after_see seat.knows.number (library_at seat s) w) (λ small. saw_keeps seat.knows.number (library_at seat s) w (newer small))

count_keeps : (seat : LibraryView) (s count : ℕ) → SeatKeeps seat (seat_after_arrival seat s count)
count_keeps seat s count = with_session_keeps seat s (after_arrival (library_at seat s) count) (λ small. record { rising = λ is. is; words = λ w is. is })

-- the count changes no lease
same_leases : (seat : LibraryView) (s count : ℕ) → (library_at (with_library_at seat s (after_arrival (library_at seat s) count)) s).leases ≡ (library_at seat s).leases
same_leases seat s count =
    let sessions = seat.knows.sessions in
    let after = after_arrival (library_at seat s) count in
    elim (cases_lt s (length sessions)) [
      | inl here ↦ ap (λ (known : LibrarySession). known.leases) (get_or-set_same sessions s after no_library_session here)
      | inr past ↦ ap (λ (all : List LibrarySession). (slice_index_or all s no_library_session).leases) (set_past sessions s after past)
    ]

newer_counted : (there : Bool) (seat : LibraryView) (s count : ℕ) (w : Word) → IsNewLease seat s w → IsNewLease (if there then with_library_at seat s (after_arrival (library_at seat s) count) else seat) s w
newer_counted true seat s count w newer = λ small shown other.
    (let same = same_leases seat s count in subst (AreBelow w.lease) (sym same) (newer small shown (λ is. other (ap held_lease same ∙ is))))
newer_counted false seat s count w newer = newer

-- a poll
granted_keeps : (k : Known) (s lease from : ℕ) (shown : Bool) → SeatKeeps k.ends.seat (after_grant k s lease from shown).ends.seat
granted_keeps k s lease from true = seat_itself k.ends.seat
granted_keeps k s lease from false = seat_itself k.ends.seat

published_keeps : (k : Known) (m : Message) (shown : Bool) → SeatKeeps k.ends.seat (after_published k m shown).ends.seat
published_keeps k m true = seat_itself k.ends.seat
published_keeps k m false = seat_itself k.ends.seat

early_keeps : (early : Bool) (k : Known) (m : Message) (shown : Bool) (found : Found) → (early ≡ false → IsNewLease k.ends.seat m.s found.word)
    → SeatKeeps k.ends.seat (if early then record (saw_published k m.s found.published) { kept = Some m } else after_published (saw_word (saw_published k m.s found.published) m.s found.word) m shown).ends.seat
early_keeps true k m shown found newer = count_keeps k.ends.seat m.s found.published
early_keeps false k m shown found newer =
    let one = saw_published k m.s found.published in
    let two = saw_word one m.s found.word in
    seat_further k.ends.seat two.ends.seat (after_published two m shown).ends.seat
    (seat_further k.ends.seat one.ends.seat two.ends.seat (count_keeps k.ends.seat m.s found.published)
    (word_keeps one.ends.seat m.s found.word (newer_counted (nat_lt m.s k.ends.seat.table.shape.sessions) k.ends.seat m.s found.published found.word (newer refl))))
    (published_keeps two m shown)

messaged_keeps : (is_held : Bool) (k : Known) (m : Message) (shown : Bool) (found : Found) → (is_held ≡ true → m.pos < found.published → IsNewLease k.ends.seat m.s found.word)
    → SeatKeeps k.ends.seat (after_message k m is_held shown found).ends.seat
messaged_keeps false k m shown found newer = seat_itself k.ends.seat
messaged_keeps true k m shown found newer = early_keeps (nat_le found.published m.pos) k m shown found (λ late. newer refl (leb-false found.published m.pos late))

noticed_keeps : (k : Known) (found : Found) (n : Option Notice) → (LoadsWord k found n → IsNewLease k.ends.seat (session_of n) found.word) → SeatKeeps k.ends.seat (after_notice k found n).ends.seat
noticed_keeps k found None newer = seat_itself k.ends.seat
noticed_keeps k found (Some (notices.Granted nr s lease from start)) newer =
    let two = saw_word (with_request_closed k) s found.word in
    let shown = shows k.ends.seat.knows.number lease found.word in
    seat_further k.ends.seat two.ends.seat (after_grant two s lease from shown).ends.seat (word_keeps k.ends.seat s found.word (newer tt)) (granted_keeps two s lease from shown)
noticed_keeps k found (Some (notices.Refused nr s why)) newer = seat_itself k.ends.seat
noticed_keeps k found (Some (notices.Message s lease pos bytes)) newer =
    messaged_keeps (holds k s lease) k (record { s = s; lease = lease; pos = pos; bytes = bytes }) (shows k.ends.seat.knows.number lease found.word) found (λ is_held late. newer (is_held, late))

taken_up_keeps : (kept : Option Message) (k : Known) (pushed : ℕ) (popped : Option Notice) (found : Found) (n : Option Notice) → (LoadsWord k found n → IsNewLease k.ends.seat (session_of n) found.word)
    → SeatKeeps k.ends.seat (after_notice (with_none_kept (after_pop kept (with_seat k (seat_after_beat k.ends.seat)) pushed popped)) found n).ends.seat
taken_up_keeps (Some m) k pushed popped found n newer = noticed_keeps (with_none_kept (after_pop (Some m) (with_seat k (seat_after_beat k.ends.seat)) pushed popped)) found n newer
taken_up_keeps None k pushed popped found n newer = noticed_keeps (with_none_kept (after_pop None (with_seat k (seat_after_beat k.ends.seat)) pushed popped)) found n newer

pub polled_keeps : (k : Known) (o : Polled) → (LoadsWord k o.found (taken_up k.kept o.popped) → IsNewLease k.ends.seat (session_of (taken_up k.kept o.popped)) o.found.word) → SeatKeeps k.ends.seat (after_poll k o).ends.seat
polled_keeps k o newer = taken_up_keeps k.kept k o.pushed o.popped o.found (taken_up k.kept o.popped) newer

-- a request
pub asked_keeps : (k : Known) (s from taken : ℕ) (answer : Result ℕ AskError) → SeatKeeps k.ends.seat (after_asking k s from taken answer).ends.seat
asked_keeps k s from taken (Ok nr) = seat_itself k.ends.seat
asked_keeps k s from taken (Err (asking.Outstanding nr)) = seat_itself k.ends.seat
asked_keeps k s from taken (Err (asking.AsksSpent count)) = seat_itself k.ends.seat
asked_keeps k s from taken (Err (asking.RingFull pushed found)) = seat_itself k.ends.seat

-- The word that a seat saw last is known.
first_known : (known : LibrarySession) (words : List Word) → known.words ≡ words → IsKnownWord known (first_word words)
first_known known [] is = inl refl
first_known known (w ∷ ws) is = inr (subst (λ all. Contains all w) (sym is) (0, omega arith, refl))

seen_known : (there : Bool) (known : LibrarySession) → IsKnownWord known (if there then first_word known.words else opening_word)
seen_known true known = first_known known known.words refl
seen_known false known = inl refl

pub last_known : (seat : LibraryView) (s : ℕ) → IsKnownWord (library_at seat s) (word_seen seat s)
last_known seat s = seen_known (nat_lt s seat.table.shape.sessions) (library_at seat s)

-- The words are known that this answer has of a session.
abbrev pub AreKnown : LibraryView → ℕ → List Word → Type 0
AreKnown seat s words = All (IsKnownWord (library_at seat s)) words

pub none_known : (seat : LibraryView) (s : ℕ) → AreKnown seat s []
none_known seat s = All-nil (IsKnownWord (library_at seat s))

pub one_known : (seat : LibraryView) (t s : ℕ) (w : Word) → IsKnownWord (library_at seat t) w → AreKnown seat s (if t == s then w ∷ [] else [])
one_known seat t s w is = elim (cases_eq t s) [
  | inl same ↦ subst (λ (b : Bool). AreKnown seat s (if b then w ∷ [] else [])) (sym (eq-eqb t s same))
      (All-cons (IsKnownWord (library_at seat s)) w [] (subst (λ k. IsKnownWord (library_at seat k) w) same is) (none_known seat s))
  | inr other ↦ subst (λ (b : Bool). AreKnown seat s (if b then w ∷ [] else [])) (sym (ne_eqb t s other)) (none_known seat s)
]

pub none_chosen : (is : Bool) (seat : LibraryView) (s : ℕ) → AreKnown seat s (if is then [] else [])
none_chosen true seat s = none_known seat s
none_chosen false seat s = none_known seat s

early_known : (early shown : Bool) (seat : LibraryView) (s : ℕ) (m : Message) (found : Found) → IsKnownWord (library_at seat m.s) found.word
    → AreKnown seat s (lost_polling s (if early then events.NotYet m.s m.pos found.published else (if shown then events.Message m.s m.lease m.pos m.bytes else events.LeaseLost m.s m.lease found.word)))
early_known true shown seat s m found is = none_known seat s
early_known false true seat s m found is = none_known seat s
early_known false false seat s m found is = one_known seat m.s s found.word is

message_known : (is_held shown : Bool) (seat : LibraryView) (s : ℕ) (m : Message) (found : Found) → IsKnownWord (library_at seat m.s) found.word → AreKnown seat s (lost_polling s (message_event m is_held shown found))
message_known false shown seat s m found is = none_known seat s
message_known true shown seat s m found is = early_known (nat_le found.published m.pos) shown seat s m found is

grant_known : (shown : Bool) (seat : LibraryView) (s nr t lease from start : ℕ) (found : Found) → IsKnownWord (library_at seat t) found.word
    → AreKnown seat s (lost_polling s (if shown then events.Granted nr t lease from start else events.LeaseLost t lease found.word))
grant_known true seat s nr t lease from start found is = none_known seat s
grant_known false seat s nr t lease from start found is = one_known seat t s found.word is

pub event_known : (seat : LibraryView) (s : ℕ) (k : Known) (found : Found) (n : Option Notice) → IsKnownWord (library_at seat (session_of n)) found.word → AreKnown seat s (lost_polling s (notice_event k found n))
event_known seat s k found None is = none_known seat s
event_known seat s k found (Some (notices.Granted nr t lease from start)) is = grant_known (shows k.ends.seat.knows.number lease found.word) seat s nr t lease from start found is
event_known seat s k found (Some (notices.Refused nr t why)) is = none_known seat s
event_known seat s k found (Some (notices.Message t lease pos bytes)) is =
    message_known (holds k t lease) (shows k.ends.seat.knows.number lease found.word) seat s (record { s = t; lease = lease; pos = pos; bytes = bytes }) found is

-- A session of which a lease is held is one of the seat's.
none_held : (granted : ℕ) → lease_in granted 0 ≡ 0
none_held granted = elim (cases_eq granted 0) [
  | inl same ↦ ap (λ (b : Bool). if b then granted else 0) (eq-eqb granted 0 same) ∙ same
  | inr other ↦ ap (λ (b : Bool). if b then granted else 0) (ne_eqb granted 0 other)
]

pub held_there : (k : Known) (s : ℕ) → held k s ≢ 0 → s < length k.ends.seat.knows.sessions
held_there k s holding = elim (cases_lt s (length k.ends.seat.knows.sessions)) [
  | inl here ↦ here
  | inr past ↦ absurd (holding (ap (λ (known : LibrarySession). lease_in (reading_at k s).lease (held_lease known.leases)) (past_end k.ends.seat.knows.sessions s no_library_session past) ∙ none_held (reading_at k s).lease))
]

-- the word by which it was found lost is known then
pub lost_known : (seat : LibraryView) (s : ℕ) (known : LibrarySession) (seen : Word) → s < length seat.knows.sessions → IsKnownWord (library_at (with_library_at seat s (after_loss known seen)) s) seen
lost_known seat s known seen here =
    inr (subst (λ (now : LibrarySession). Contains now.words seen) (sym (get_or-set_same seat.knows.sessions s (after_loss known seen) no_library_session here)) (0, omega arith, refl))

-- A meeting with the engine tells a library of more words.
told_keeps : (library : ℕ) (es : EngineSession) (known : LibrarySession) → SessionKeeps known (library_session_after_meeting library es known)
told_keeps library es known = record {
  rising = λ is. is;
  words = λ w was. elim was [
    | inl opening ↦ inl opening
    | inr has ↦ inr (Contains-append_left known.words es.words w has)
  ];
}

pub met_keeps : (engine_old engine_new : EngineView) (library_old library_new : LibraryView) → SeatsMeet engine_old engine_new library_old library_new
    → ((s : ℕ) → engine_old.table.shape.sessions ≤ s → library_at library_new s ≡ library_at library_old s) → SeatKeeps library_old library_new
met_keeps engine_old engine_new library_old library_new is past s = elim (cases_lt s engine_old.table.shape.sessions) [
  | inl here ↦ subst (SessionKeeps (library_at library_old s)) (sym (is.library_session s here)) (told_keeps library_old.knows.number (engine_at engine_old s) (library_at library_old s))
  | inr beyond ↦ subst (SessionKeeps (library_at library_old s)) (sym (past s beyond)) (session_itself (library_at library_old s))
]
