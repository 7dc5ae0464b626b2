-- Whole lists of calls on a line: the answers, the line behind them, and what is handed on.
use Rattle.std.specs.Prelude.{◌≡◌, ℕ, ◌+◌, ◌≤◌, List, [], ◌∷◌, ◌==◌, if◌then◌else◌, Option, Some, None, IsNone}
use Rattle.std.specs.Option.{option_to_list}
use Rattle.std.specs.List.{flat_map}
use Rattle.std.specs.FinMap.{get, empty}
use Rattle.seq_gaps.specs.declared.offered.TheConstants.{MAX_NUMBER}
use Rattle.seq_gaps.specs.declared.offered.Place.{Place}
use Rattle.seq_gaps.specs.declared.offered.Place.TheVariants.{Now, Held, Known, NoRoom}
use Rattle.seq_gaps.specs.declared.calls.Call.{Call}
use Rattle.seq_gaps.specs.declared.calls.Call.TheVariants.{Offer, Fill, TakeReady, Clear, Restart}
use Rattle.seq_gaps.specs.declared.calls.Answer.{Answer}
use Rattle.seq_gaps.specs.declared.calls.Answer.TheVariants.{ToOffer, Taken, Done}
use Rattle.seq_gaps.specs.Line.{Line, IsNumber, fresh_line, after_fill, after_taking, after_clear}
use Rattle.seq_gaps.specs.Offers.{answer_to_offer, after_offer}

abbrev pub line_after : {T : Type 0} → Line T → Call T → Line T
line_after line (Offer n item) = after_offer line n item
line_after line (Fill to) = after_fill line to
line_after line TakeReady = after_taking line
line_after line Clear = after_clear line
line_after line Restart = fresh_line

abbrev pub answer_to : {T : Type 0} → Line T → Call T → Answer T
answer_to line (Offer n item) = ToOffer (answer_to_offer line n item)
answer_to line (Fill to) = Done
answer_to line TakeReady = Taken (get line.held line.expected)
answer_to line Clear = Done
answer_to line Restart = Done

-- the line behind all the calls
abbrev pub line_after_all : {T : Type 0} → Line T → List (Call T) → Line T
line_after_all line [] = line
line_after_all line (call ∷ calls) = line_after_all (line_after line call) calls

-- the answer to each call, in order
abbrev pub answers_to : {T : Type 0} → Line T → List (Call T) → List (Answer T)
answers_to line [] = []
answers_to line (call ∷ calls) = answer_to line call ∷ answers_to (line_after line call) calls

-- an offer has a MsgSeqNum, and a fill doesn't go back
abbrev pub IsAllowed : {T : Type 0} → Line T → Call T → Type 0
IsAllowed line (Offer n item) = IsNumber n
IsAllowed line (Fill to) = (line.expected ≤ to) × (to ≤ MAX_NUMBER + 1)
IsAllowed line TakeReady = Unit {0}
IsAllowed line Clear = Unit {0}
IsAllowed line Restart = Unit {0}

abbrev pub AreAllowed : {T : Type 0} → Line T → List (Call T) → Type 0
AreAllowed line [] = Unit {0}
AreAllowed line (call ∷ calls) = IsAllowed line call × AreAllowed (line_after line call) calls

-- the items that the answers hand on, in order
abbrev pub item_now : {T : Type 0} → Place T → List T
item_now (Now item) = item ∷ []
item_now Held = []
item_now (Known item) = []
item_now (NoRoom item) = []

abbrev pub items_of_answer : {T : Type 0} → Answer T → List T
items_of_answer (ToOffer answer) = item_now answer.place
items_of_answer (Taken item) = option_to_list item
items_of_answer Done = []

abbrev pub items_handed_on : {T : Type 0} → List (Answer T) → List T
items_handed_on answers = flat_map items_of_answer answers

-- the item of the first offer with this number
abbrev pub first_offered : {T : Type 0} → List (Call T) → ℕ → Option T
first_offered [] n = None
first_offered (Offer m item ∷ calls) n = if m == n then Some item else first_offered calls n
first_offered (Fill to ∷ calls) n = first_offered calls n
first_offered (TakeReady ∷ calls) n = first_offered calls n
first_offered (Clear ∷ calls) n = first_offered calls n
first_offered (Restart ∷ calls) n = first_offered calls n

-- For each number from n on, up to the first number without an offer, these are the items that were offered first.
abbrev pub AreFirstOffers : {T : Type 0} → List (Call T) → ℕ → List T → Type 0
AreFirstOffers calls n [] = IsNone (first_offered calls n)
AreFirstOffers calls n (item ∷ items) = (first_offered calls n ≡ Some item) × AreFirstOffers calls (n + 1) items

-- each call offers or takes
abbrev pub OnlyOfferOrTake : {T : Type 0} → List (Call T) → Type 0
OnlyOfferOrTake [] = Unit {0}
OnlyOfferOrTake (Offer n item ∷ calls) = OnlyOfferOrTake calls
OnlyOfferOrTake (TakeReady ∷ calls) = OnlyOfferOrTake calls
OnlyOfferOrTake (Fill to ∷ calls) = ⊥
OnlyOfferOrTake (Clear ∷ calls) = ⊥
OnlyOfferOrTake (Restart ∷ calls) = ⊥

abbrev pub HasRoom : {T : Type 0} → Place T → Type 0
HasRoom (Now item) = Unit {0}
HasRoom Held = Unit {0}
HasRoom (Known item) = Unit {0}
HasRoom (NoRoom item) = ⊥

-- no offer found no room
abbrev pub AllHaveRoom : {T : Type 0} → List (Answer T) → Type 0
AllHaveRoom [] = Unit {0}
AllHaveRoom (ToOffer answer ∷ answers) = HasRoom answer.place × AllHaveRoom answers
AllHaveRoom (Taken item ∷ answers) = AllHaveRoom answers
AllHaveRoom (Done ∷ answers) = AllHaveRoom answers

-- Nothing is held as the calls begin, and not the expected number as they end. Each call offers or takes, and no offer finds no room.
pub record IsPlainRun {T : Type 0} (before : Line T) (calls : List (Call T)) (answers : List (Answer T)) (behind : Line T) : Type 0 where
  pub nothing_held : before.held ≡ empty
  pub offers_and_takings : OnlyOfferOrTake calls
  pub room : AllHaveRoom answers
  pub none_ready : IsNone (get behind.held behind.expected)
