-- A library's loop: poll for poll, what it hands out and how that is answered.
use Rattle.std.specs.Prelude.{◌≡◌, ◌≢◌, ℕ, zero, suc, ◌≤◌, ◌⊎◌, Bool, true, false, not, List, Option, Some, None, Result, Ok, Err}
use Rattle.lease_core.specs.declared.messages.Command.{Command}
use Rattle.lease_core.specs.declared.messages.Command.TheVariants.{Done}
use Rattle.library_api.specs.Known.{Known}
use Rattle.library_api.specs.Requests.{after_done}
use Rattle.library_api.specs.declared.event.Event.{Event}
use Rattle.library_api.specs.declared.event.Event.TheVariants as event
use Rattle.library_api.specs.declared.refusal.AskError.{AskError}
use Rattle.library_api.specs.declared.refusal.HandRefusal.{HandRefusal}
use Rattle.library_api.specs.declared.refusal.Released.{Released}
use Rattle.library_api.specs.declared.refusal.ReleaseRefusal.{ReleaseRefusal}
use Rattle.library_calls.specs.Calls.{Hands, Polls, Releases, Requests}
use Rattle.ring_links.specs.declared.queue.Full.{Full}
use Rattle.example_broker.specs.Answers.{AnswersMessage}
use Rattle.example_broker.specs.declared.answering.Answer.{Answer}
use Rattle.example_broker.specs.declared.answering.Answer.TheVariants as answers
use Rattle.example_broker.specs.declared.books.Book.{Book}
use Rattle.example_broker.specs.declared.floor.TheConstants.{LIBRARIES}

-- so many steps in a row
abbrev pub Times : {T : Type 0} → (T → T → Type 0) → ℕ → T → T → Type 0
Times Step zero old new = new ≡ old
Times {T} Step (suc n) old new = (mid : T) × Times Step n old mid × Step mid new

-- some steps in a row
pub record Repeats {T : Type 0} (Step : T → T → Type 0) (old new : T) : Type 0 where
  pub count : ℕ
  pub steps : Times Step count old new

-- the other of the two libraries
pub record IsOther (number heir : ℕ) : Type 0 where
  pub other : heir ≢ number
  pub first : 1 ≤ heir
  pub last : heir ≤ LIBRARIES

-- a session is requested, handed over to the other library, or given back
abbrev pub Asks : ℕ → Known → Known → Type 0
Asks s old new = (from : ℕ) × (answer : Result ℕ AskError) × Requests s from answer old new

abbrev pub HandsOver : ℕ → ℕ → Known → Known → Type 0
HandsOver number s old new = (heir : ℕ) × IsOther number heir × (answer : Result Released HandRefusal) × Hands s heir answer old new

abbrev pub GivesBack : ℕ → Known → Known → Type 0
GivesBack s old new = (answer : Result Released ReleaseRefusal) × Releases s answer old new

-- What a library with this number does as it looks at a session: nothing is called, or the session is requested or handed over.
abbrev pub LooksAt : ℕ → ℕ → Known → Known → Type 0
LooksAt number s old new = (new ≡ old) ⊎ (Asks s old new ⊎ HandsOver number s old new)

-- It looks at some sessions. That sends nothing.
abbrev pub Looks : ℕ → Known → Known → Type 0
Looks number = Repeats (λ old new. (s : ℕ) × LooksAt number s old new)

-- a message is answered over the book of its session as it was found then
pub record AnswersOver (s pos : ℕ) (bytes : List ℕ) (answer : Answer) (old new : Known) : Type 0 where
  pub found : Book
  pub left : Book
  pub answers : AnswersMessage s pos bytes answer found left old new

-- What follows on an event: a message is answered, which is told with its session, and nothing is called on any other.
abbrev pub FollowsOn : Event → Option (ℕ × Answer) → Known → Known → Type 0
FollowsOn event.Nothing answered old new = (answered ≡ None) × (new ≡ old)
FollowsOn (event.NotYet s pos published) answered old new = (answered ≡ None) × (new ≡ old)
FollowsOn (event.Granted nr s lease from start) answered old new = (answered ≡ None) × (new ≡ old)
FollowsOn (event.Refused nr s why) answered old new = (answered ≡ None) × (new ≡ old)
FollowsOn (event.Message s lease pos bytes) answered old new = (answer : Answer) × (answered ≡ Some (s, answer)) × AnswersOver s pos bytes answer old new
FollowsOn (event.Stale s lease pos) answered old new = (answered ≡ None) × (new ≡ old)
FollowsOn (event.LeaseLost s lease seen) answered old new = (answered ≡ None) × (new ≡ old)

-- What a library does with a session behind a message of it: it gives it back where no answer was sent. Else it keeps it, or hands it over.
abbrev pub PartsBehind : ℕ → ℕ → Answer → Known → Known → Type 0
PartsBehind number s answers.Filled old new = (new ≡ old) ⊎ HandsOver number s old new
PartsBehind number s answers.Passed old new = (new ≡ old) ⊎ HandsOver number s old new
PartsBehind number s answers.Gone old new = GivesBack s old new

-- and behind another event nothing is called
abbrev pub PartsWith : ℕ → Option (ℕ × Answer) → Known → Known → Type 0
PartsWith number (Some (s, answer)) old new = PartsBehind number s answer old new
PartsWith number None old new = new ≡ old

-- One poll, the look that may go before it, what follows on its event, and what goes behind that.
pub record Round (number : ℕ) (old new : Known) : Type 0 where
  pub looked : Known
  pub looks : Looks number old looked
  pub event : Event
  pub polled : Known
  pub polls : Polls event looked polled
  pub answered : Option (ℕ × Answer)
  pub followed : Known
  pub follows : FollowsOn event answered polled followed
  pub parts : PartsWith number answered followed new

-- A round in which memory is wanting: nothing follows on the event of its poll.
pub record BeginsRound (number : ℕ) (old new : Known) : Type 0 where
  pub looked : Known
  pub looks : Looks number old looked
  pub event : Event
  pub polls : Polls event looked new

-- A library's loop: rounds, one behind another. So each new order that a poll hands out is answered by just one send that is answered Sent, before the next poll, or its lease was lost or spent; and no order that was filled before is answered.
abbrev pub Trades : ℕ → Known → Known → Type 0
Trades number = Repeats (Round number)

-- and where memory is wanting, behind which nothing is sent
pub record TradesShort (number : ℕ) (old new : Known) : Type 0 where
  pub traded : Known
  pub trades : Trades number old traded
  pub begins : BeginsRound number traded new

-- what became of the loop
abbrev pub TradesOut : ℕ → Bool → Known → Known → Type 0
TradesOut number false old new = Trades number old new
TradesOut number true old new = TradesShort number old new

-- sessions are given back, one after another
abbrev pub GivesAllBack : Known → Known → Type 0
GivesAllBack = Repeats (λ old new. (s : ℕ) × GivesBack s old new)

-- the engine is told that nothing more comes, and whether all was done; or the ring of commands has no room
abbrev pub SaysDone : Bool → Known → Known → Type 0
SaysDone finished old new = (taken : ℕ) × (unit : Unit {0}) × (new ≡ after_done old (Done finished) taken (Ok unit))

abbrev pub FindsNoRoom : Bool → Known → Known → Type 0
FindsNoRoom finished old new = (taken : ℕ) × (full : Full Command) × (new ≡ after_done old (Done finished) taken (Err full))

-- that is told again while there is no room, and no more behind it
pub record TellsDone (finished : Bool) (old new : Known) : Type 0 where
  pub tried : Known
  pub tries : Repeats (FindsNoRoom finished) old tried
  pub tells : (new ≡ tried) ⊎ SaysDone finished tried new

-- All that a library does: it trades, gives its sessions back, and says whether memory was wanting.
pub record TradesAndLeaves (number : ℕ) (short : Bool) (old new : Known) : Type 0 where
  pub traded : Known
  pub trades : TradesOut number short old traded
  pub given : Known
  pub gives : GivesAllBack traded given
  pub tells : TellsDone (not short) given new
