-- How a message that a poll handed out is answered.
use Rattle.std.specs.Prelude.{◌≡◌, ℕ, zero, suc, ◌+◌, ◌-◌, ◌^◌, ◌<◌, ◌≤◌, max, min, Bool, true, false, List, Result, Ok, Err}
use Rattle.lease_words.specs.declared.item.Sent.{Sent}
use Rattle.library_api.specs.Known.{Known}
use Rattle.library_api.specs.declared.refusal.SendRefusal.{SendRefusal}
use Rattle.library_api.specs.Sends.{IsLaneFull}
use Rattle.library_calls.specs.Calls.{Sends}
use Rattle.example_broker.specs.Books.{Fills, Keeps, KeepsOrders, fill_of, has_filled, next_fill}
use Rattle.example_broker.specs.Orders.{Asking, Ordered, asking_of, asks_cancel, asks_fill, asks_nothing, lacks_field}
use Rattle.example_broker.specs.Reports.{cancel_reject_text, fill_text, misfit_text}
use Rattle.example_broker.specs.declared.answering.Answer.{Answer}
use Rattle.example_broker.specs.declared.answering.Answer.TheVariants as answers
use Rattle.example_broker.specs.declared.books.Book.{Book}
use Rattle.example_broker.specs.declared.calling.Try.{Try}
use Rattle.example_broker.specs.declared.calling.Try.TheVariants as tries

-- a send that found its lane full: nothing went out
pub record FindsLaneFull (s : ℕ) (text : List ℕ) (old new : Known) : Type 0 where
  pub why : SendRefusal
  pub full : IsLaneFull why
  pub sends : Sends s text (Err why) old new

-- What became of one send: an item went out, or the lane was full and the text is back, or it was refused otherwise.
abbrev pub TriesOnce : ℕ → List ℕ → Try → Known → Known → Type 0
TriesOnce s text tries.Sent old new = (sent : Sent) × Sends s text (Ok sent) old new
TriesOnce s text (tries.Full back) old new = FindsLaneFull s text old new × (back.items ≡ text)
TriesOnce s text tries.Refused old new = (why : SendRefusal) × Sends s text (Err why) old new

-- a send that finds its lane full, so many times in a row
abbrev pub WaitsForRoom : ℕ → List ℕ → ℕ → Known → Known → Type 0
WaitsForRoom s text zero old new = new ≡ old
WaitsForRoom s text (suc n) old new = (mid : Known) × WaitsForRoom s text n old mid × FindsLaneFull s text mid new

-- A text is sent until the call answers otherwise than that the lane is full, or that is given up: the last answer counts.
pub record SendsUntil (s : ℕ) (text : List ℕ) (last : Result Sent SendRefusal) (old new : Known) : Type 0 where
  pub fulls : ℕ
  pub mid : Known
  pub waits : WaitsForRoom s text fulls old mid
  pub sends : Sends s text last mid new

-- just one send of the text was answered Sent
pub record SendsOnce (s : ℕ) (text : List ℕ) (old new : Known) : Type 0 where
  pub sent : Sent
  pub sends : SendsUntil s text (Ok sent) old new

-- none was: the last one was refused, as where the lease is lost or spent
pub record SendsNone (s : ℕ) (text : List ℕ) (old new : Known) : Type 0 where
  pub why : SendRefusal
  pub sends : SendsUntil s text (Err why) old new

-- What becomes of a new order: the report that fills it is sent just once, and the order is in the book; or it isn't sent, and the book says what it said.
abbrev pub FillsNew : ℕ → Ordered → Answer → Book → Book → Known → Known → Type 0
FillsNew s order answers.Filled book book' old new = SendsOnce s (fill_text s (next_fill book) order) old new × Fills order book book'
FillsNew s order answers.Passed book book' old new = ⊥
FillsNew s order answers.Gone book book' old new = SendsNone s (fill_text s (next_fill book) order) old new × KeepsOrders book book'

-- no answer was sent
abbrev pub is_gone : Answer → Bool
is_gone answers.Filled = false
is_gone answers.Passed = false
is_gone answers.Gone = true

-- what becomes of an answer that fills nothing: its text is sent just once, or it isn't sent
abbrev pub SendsAnswer : ℕ → List ℕ → Answer → Known → Known → Type 0
SendsAnswer s text answers.Filled old new = ⊥
SendsAnswer s text answers.Passed old new = SendsOnce s text old new
SendsAnswer s text answers.Gone old new = SendsNone s text old new

-- a message is answered otherwise, by this text: the book says what it said
pub record AnswersBy (s : ℕ) (text : List ℕ) (answer : Answer) (book book' : Book) (old new : Known) : Type 0 where
  pub sends : SendsAnswer s text answer old new
  pub orders : KeepsOrders book book'

-- a message gets no answer: no call is made
pub record PassesOver (answer : Answer) (book book' : Book) (old new : Known) : Type 0 where
  pub passed : answer ≡ answers.Passed
  pub library : new ≡ old
  pub orders : KeepsOrders book book'

-- An order that nobody has answered is answered, over the session's book: it is filled, unless one with its ClOrdID was filled, and then it gets no answer.
pub record AnswersOrder (s : ℕ) (order : Ordered) (answer : Answer) (book book' : Book) (old new : Known) : Type 0 where
  pub fills : has_filled book order.id ≡ false → FillsNew s order answer book book' old new
  pub passes : has_filled book order.id ≡ true → PassesOver answer book book' old new

-- A message that nobody has answered is answered by what it asks for. To cancel an order is refused: it was filled, or the book doesn't know it.
abbrev pub AnswersAsking : ℕ → Asking → Answer → Book → Book → Known → Known → Type 0
AnswersAsking s (asks_fill order) answer book book' old new = AnswersOrder s order answer book book' old new
AnswersAsking s (asks_cancel cancel) answer book book' old new = AnswersBy s (cancel_reject_text s cancel (fill_of book cancel.original)) answer book book' old new
AnswersAsking s (lacks_field misfit) answer book book' old new = AnswersBy s (misfit_text misfit) answer book book' old new
AnswersAsking s asks_nothing answer book book' old new = PassesOver answer book book' old new

-- The position at which a book goes on behind a message at a position: behind it, where that isn't less. A message to which no answer was sent is read again.
abbrev pub next_behind : Answer → ℕ → ℕ → ℕ
next_behind answers.Filled pos next = max next (min (pos + 1) (2 ^ 64 - 1))
next_behind answers.Passed pos next = max next (min (pos + 1) (2 ^ 64 - 1))
next_behind answers.Gone pos next = next

-- The message at a position of a session is answered, over the session's book: one that nobody has answered by what it asks for, and any other gets no answer.
pub record AnswersMessage (s pos : ℕ) (bytes : List ℕ) (answer : Answer) (book book' : Book) (old new : Known) : Type 0 where
  pub unread : book.next ≤ pos → AnswersAsking s (asking_of bytes) answer book book' old new
  pub read : pos < book.next → PassesOver answer book book' old new
  pub next : book'.next ≡ next_behind answer pos book.next

-- Memory is wanting: no call is made, and the book says what it said.
pub record AnswersNothing (book book' : Book) (old new : Known) : Type 0 where
  pub library : new ≡ old
  pub book_stays : Keeps book book'
