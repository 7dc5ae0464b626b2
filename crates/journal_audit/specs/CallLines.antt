-- The lines of a library's calls, each with its answer: one row an answer.
use Rattle.std.specs.Prelude.{ℕ, ◌==◌, ◌||◌, Bool, false, if◌then◌else◌, List, length, Option, Some, None, codes}
use Rattle.std.specs.Str.{bytes_eq}
use Rattle.fix_fields.specs.Options.{◌>>=◌}
use Rattle.script_text.specs.Args.{keyword_at, later}
use Rattle.journal_audit.specs.declared.line.Call.{Call}
use Rattle.journal_audit.specs.declared.line.Call.TheVariants.{Asked, Replied, Read, Sent, GaveBack, Other}
use Rattle.journal_audit.specs.declared.line.Outcome.TheVariants.{Granted, Refused}
use Rattle.journal_audit.specs.declared.calls.CallWord.{CallWord}
use Rattle.journal_audit.specs.declared.calls.CallWord.TheVariants as call_word
use Rattle.journal_audit.specs.declared.calls.AnswerWord.{AnswerWord}
use Rattle.journal_audit.specs.declared.calls.AnswerWord.TheVariants as answer_word
use Rattle.journal_audit.specs.declared.calls.LeasePlace.{LeasePlace}
use Rattle.journal_audit.specs.Cut.{Parts, at_last_colon}
use Rattle.journal_audit.specs.EntryLines.{behind2, behind3, behind4, behind6, behind8, why_at}
use Rattle.journal_audit.specs.Words.{BYTE, HALF, WORD, LONG, number_at, number_to, named_to, printed_at, ending}

-- the first word of a call's line; those of a poll and of a beat have their colon
unfoldable pub call_word_of : List ℕ → Option CallWord
call_word_of word =
    if bytes_eq word (codes "poll:") then Some call_word.Poll
    else (if bytes_eq word (codes "send") then Some call_word.Send
    else (if bytes_eq word (codes "request") then Some call_word.Request
    else (if bytes_eq word (codes "release") then Some call_word.Release
    else (if bytes_eq word (codes "hand") then Some call_word.Hand
    else (if bytes_eq word (codes "beat:") then Some call_word.Beat else None)))))

-- the first word of an answer
unfoldable pub answer_word_of : List ℕ → Option AnswerWord
answer_word_of word =
    if bytes_eq word (codes "message") then Some answer_word.Message
    else (if bytes_eq word (codes "nothing") then Some answer_word.Nothing
    else (if bytes_eq word (codes "sent") then Some answer_word.Sent
    else (if bytes_eq word (codes "asked") then Some answer_word.Asked
    else (if bytes_eq word (codes "granted") then Some answer_word.Granted
    else (if bytes_eq word (codes "refused") then Some answer_word.Refused
    else (if bytes_eq word (codes "released") then Some answer_word.Released
    else (if bytes_eq word (codes "handed") then Some answer_word.Handed
    else (if bytes_eq word (codes "beaten") then Some answer_word.Beaten
    else (if bytes_eq word (codes "not-yet") then Some answer_word.NotYet
    else (if bytes_eq word (codes "stale") then Some answer_word.Stale
    else (if bytes_eq word (codes "lease-lost") then Some answer_word.LeaseLost
    else (if bytes_eq word (codes "outstanding") then Some answer_word.Outstanding
    else (if bytes_eq word (codes "asks-spent") then Some answer_word.AsksSpent
    else (if bytes_eq word (codes "ring-full") then Some answer_word.RingFull
    else (if bytes_eq word (codes "not-held") then Some answer_word.NotHeld
    else (if bytes_eq word (codes "too-long") then Some answer_word.TooLong
    else (if bytes_eq word (codes "bad-body") then Some answer_word.BadBody
    else (if bytes_eq word (codes "lane-full") then Some answer_word.LaneFull
    else (if bytes_eq word (codes "sends-spent") then Some answer_word.SendsSpent
    else (if bytes_eq word (codes "bad-heir") then Some answer_word.BadHeir
    else (if bytes_eq word (codes "lost") then Some answer_word.Lost else None)))))))))))))))))))))

-- the next word, as that of an answer
abbrev pub answer_at : Option (List ℕ) → Option AnswerWord
answer_at args = keyword_at args >>= answer_word_of

-- Answers that the rules say nothing of.

-- a number, with which the line ends
unfoldable pub one_number : ℕ → Option (List ℕ) → Option Call
one_number most args = number_to most args >>= λ n. ending (later args) Other

-- two numbers
unfoldable pub two_numbers : Option (List ℕ) → Option Call
two_numbers args = number_at args >>= λ n. number_at (later args) >>= λ m. ending (behind2 args) Other

abbrev pub is_standing : List ℕ → Bool
is_standing word = bytes_eq word (codes "active") || bytes_eq word (codes "released") || bytes_eq word (codes "revoked")

abbrev pub is_standing_at : Option (List ℕ) → Bool
is_standing_at None = false
is_standing_at (Some word) = is_standing word

-- LEASE OWNER STANDING COUNT, a lease word that was seen
unfoldable pub seen_word : Option (List ℕ) → Option Call
seen_word args =
    number_to WORD args >>= λ lease.
    number_to BYTE (later args) >>= λ owner.
    number_to WORD (behind3 args) >>= λ count.
    if is_standing_at (keyword_at (behind2 args)) then ending (behind4 args) Other else None

-- S POS PUBLISHED
unfoldable pub not_yet : Option (List ℕ) → Option Call
not_yet args = number_to HALF args >>= λ s. two_numbers (later args)

-- S lease LEASE pos POS
unfoldable pub stale : Option (List ℕ) → Option Call
stale args =
    number_to HALF args >>= λ s.
    named_to (codes "lease") WORD (later args) >>= λ lease.
    named_to (codes "pos") LONG (behind3 args) >>= λ pos.
    ending (later (behind4 args)) Other

-- S lease LEASE WORD
unfoldable pub lease_lost : Option (List ℕ) → Option Call
lease_lost args =
    number_to HALF args >>= λ s.
    named_to (codes "lease") WORD (later args) >>= λ lease.
    seen_word (behind3 args)

-- Answers of a poll.

-- NR S lease LEASE from FROM start START
unfoldable pub poll_granted : Option (List ℕ) → Option Call
poll_granted args =
    number_to WORD args >>= λ nr.
    number_to HALF (later args) >>= λ s.
    named_to (codes "lease") WORD (behind2 args) >>= λ lease.
    named_to (codes "from") LONG (behind4 args) >>= λ from.
    named_to (codes "start") LONG (behind6 args) >>= λ start.
    ending (behind8 args) (Replied nr (record { s = s; outcome = Granted lease from start }))

-- NR S WHY
unfoldable pub poll_refused : Option (List ℕ) → Option Call
poll_refused args =
    number_to WORD args >>= λ nr.
    number_to HALF (later args) >>= λ s.
    why_at (behind2 args) >>= λ why.
    Some (Replied nr (record { s = s; outcome = Refused why }))

-- S lease LEASE pos POS
abbrev pub place_at : Option (List ℕ) → Option LeasePlace
place_at args =
    number_to HALF args >>= λ s.
    named_to (codes "lease") WORD (later args) >>= λ lease.
    named_to (codes "pos") LONG (behind3 args) >>= λ pos.
    Some (record { s = s; lease = lease; pos = pos })

-- S lease LEASE pos POS BODY
unfoldable pub poll_message : Option (List ℕ) → Option Call
poll_message args =
    place_at args >>= λ place.
    printed_at (later (behind4 args)) >>= λ body.
    Some (Read place.s place.lease place.pos body)

unfoldable pub poll_answer : AnswerWord → Option (List ℕ) → Option Call
poll_answer answer_word.Message args = poll_message args
poll_answer answer_word.Nothing args = ending args Other
poll_answer answer_word.NotYet args = not_yet args
poll_answer answer_word.Granted args = poll_granted args
poll_answer answer_word.Refused args = poll_refused args
poll_answer answer_word.Stale args = stale args
poll_answer answer_word.LeaseLost args = lease_lost args
poll_answer _ args = None

-- ANSWER
unfoldable pub poll_line : Option (List ℕ) → Option Call
poll_line args = answer_at args >>= λ kind. poll_answer kind (later args)

-- beaten
unfoldable pub beat_answer : AnswerWord → Option (List ℕ) → Option Call
beat_answer answer_word.Beaten args = ending args Other
beat_answer _ args = None

unfoldable pub beat_line : Option (List ℕ) → Option Call
beat_line args = answer_at args >>= λ kind. beat_answer kind (later args)

-- Answers of the other calls.

-- NR
unfoldable pub asked : Option (List ℕ) → Option Call
asked args = number_to WORD args >>= λ nr. ending (later args) (Asked nr)

unfoldable pub request_answer : AnswerWord → Option (List ℕ) → Option Call
request_answer answer_word.Asked args = asked args
request_answer answer_word.Outstanding args = one_number WORD args
request_answer answer_word.AsksSpent args = one_number WORD args
request_answer answer_word.RingFull args = two_numbers args
request_answer _ args = None

-- LEASE ORDINAL
unfoldable pub sent : ℕ → List ℕ → Option (List ℕ) → Option Call
sent s body args =
    number_to WORD args >>= λ lease.
    number_to WORD (later args) >>= λ ordinal.
    ending (behind2 args) (Sent s lease ordinal body)

unfoldable pub send_answer : ℕ → List ℕ → AnswerWord → Option (List ℕ) → Option Call
send_answer s body answer_word.Sent args = sent s body args
send_answer s body answer_word.NotHeld args = ending args Other
send_answer s body answer_word.TooLong args = one_number LONG args
send_answer s body answer_word.BadBody args = one_number LONG args
send_answer s body answer_word.LaneFull args = two_numbers args
send_answer s body answer_word.SendsSpent args = one_number WORD args
send_answer s body answer_word.Lost args = seen_word args
send_answer s body _ args = None

-- LEASE COUNT
unfoldable pub given_back : ℕ → ℕ → Option (List ℕ) → Option Call
given_back s heir args =
    number_to WORD args >>= λ lease.
    number_to WORD (later args) >>= λ count.
    ending (behind2 args) (GaveBack s lease count heir)

unfoldable pub release_answer : ℕ → AnswerWord → Option (List ℕ) → Option Call
release_answer s answer_word.Released args = given_back s 0 args
release_answer s answer_word.NotHeld args = ending args Other
release_answer s answer_word.Lost args = seen_word args
release_answer s _ args = None

-- a hand-over that was made has an heir
unfoldable pub hand_answer : ℕ → ℕ → AnswerWord → Option (List ℕ) → Option Call
hand_answer s heir answer_word.Handed args = if heir == 0 then None else given_back s heir args
hand_answer s heir answer_word.NotHeld args = ending args Other
hand_answer s heir answer_word.BadHeir args = one_number BYTE args
hand_answer s heir answer_word.Lost args = seen_word args
hand_answer s heir _ args = None

-- S FROM: ANSWER
unfoldable pub request_line : Option (List ℕ) → AnswerWord → Option (List ℕ) → Option Call
request_line args kind answer =
    number_to HALF args >>= λ s.
    number_at (later args) >>= λ from.
    ending (behind2 args) from >>= λ from.
    request_answer kind answer

-- S BODY: ANSWER
unfoldable pub send_line : Option (List ℕ) → AnswerWord → Option (List ℕ) → Option Call
send_line args kind answer =
    number_to HALF args >>= λ s.
    printed_at (later args) >>= λ body.
    send_answer s body kind answer

-- S: ANSWER
unfoldable pub release_line : Option (List ℕ) → AnswerWord → Option (List ℕ) → Option Call
release_line args kind answer =
    number_to HALF args >>= λ s.
    ending (later args) s >>= λ s.
    release_answer s kind answer

-- S H: ANSWER
unfoldable pub hand_line : Option (List ℕ) → AnswerWord → Option (List ℕ) → Option Call
hand_line args kind answer =
    number_to HALF args >>= λ s.
    number_to BYTE (later args) >>= λ heir.
    ending (behind2 args) heir >>= λ heir.
    hand_answer s heir kind answer

-- what stands before the last colon, and the answer behind it
unfoldable pub answered_line : CallWord → Option (List ℕ) → AnswerWord → Option (List ℕ) → Option Call
answered_line call_word.Request args kind answer = request_line args kind answer
answered_line call_word.Send args kind answer = send_line args kind answer
answered_line call_word.Release args kind answer = release_line args kind answer
answered_line call_word.Hand args kind answer = hand_line args kind answer
answered_line _ args kind answer = None

-- the first word of an answer behind a space: behind an empty word
abbrev pub spaced_answer_at : Option (List ℕ) → Option AnswerWord
spaced_answer_at args =
    keyword_at args >>= λ empty.
    answer_at (later args) >>= λ kind.
    if length empty == 0 then Some kind else None

abbrev pub call_of_parts : CallWord → Option Parts → Option Call
call_of_parts word None = None
call_of_parts word (Some parts) = spaced_answer_at (Some parts.behind) >>= λ kind. answered_line word (Some parts.before) kind (behind2 (Some parts.behind))

-- a call, a colon, a space and the answer, which has no colon
unfoldable pub parted_line : CallWord → Option (List ℕ) → Option Call
parted_line word args = args >>= λ text. call_of_parts word (at_last_colon text)

-- what follows the first word of a call's line
unfoldable pub call_line : CallWord → Option (List ℕ) → Option Call
call_line call_word.Poll args = poll_line args
call_line call_word.Beat args = beat_line args
call_line call_word.Request args = parted_line call_word.Request args
call_line call_word.Send args = parted_line call_word.Send args
call_line call_word.Release args = parted_line call_word.Release args
call_line call_word.Hand args = parted_line call_word.Hand args
