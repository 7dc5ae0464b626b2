-- A message is answered over a book that goes on behind it.
use Rattle.std.proofs.Common.{◌≡◌, ℕ, ◌+◌, ◌-◌, ◌^◌, ◌≤◌, max, min, false, List, sym, ◌∙◌, arith}
use Rattle.std.proofs.Math.Nat.{max-eq_right}
use Rattle.library_api.specs.Known.{Known}
use Rattle.example_broker.specs.Answers.{AnswersAsking, AnswersMessage, FillsNew, PassesOver, is_gone, next_behind}
use Rattle.example_broker.specs.Orders.{Asking, Ordered, asking_of, asks_cancel, asks_fill, asks_nothing, lacks_field}
use Rattle.example_broker.specs.declared.answering.Answer.{Answer}
use Rattle.example_broker.specs.declared.answering.Answer.TheVariants.{Filled, Passed, Gone}
use Rattle.example_broker.specs.declared.books.Book.{Book}

-- the position isn't told by what is said of the orders
passes_at : (answer : Answer) (book mid : Book) (old new : Known) (next : ℕ) → PassesOver answer book mid old new → PassesOver answer book (record mid { next = next }) old new
passes_at answer book mid old new next passes = record { passed = passes.passed; library = passes.library; orders = passes.orders }

fills_at : (s : ℕ) (order : Ordered) (answer : Answer) (book mid : Book) (old new : Known) (next : ℕ) → FillsNew s order answer book mid old new → FillsNew s order answer book (record mid { next = next }) old new
fills_at s order Filled book mid old new next fills = (fills.0, record { filled = fills.1.filled; others = fills.1.others })
fills_at s order Passed book mid old new next fills = absurd fills
fills_at s order Gone book mid old new next fills = (fills.0, fills.1)

asking_at : (s : ℕ) (asking : Asking) (answer : Answer) (book mid : Book) (old new : Known) (next : ℕ) → AnswersAsking s asking answer book mid old new → AnswersAsking s asking answer book (record mid { next = next }) old new
asking_at s (asks_fill order) answer book mid old new next a = record { fills = λ unfilled. fills_at s order answer book mid old new next (a.fills unfilled); passes = λ filled. passes_at answer book mid old new next (a.passes filled) }
asking_at s (asks_cancel cancel) answer book mid old new next a = record { sends = a.sends; orders = a.orders }
asking_at s (lacks_field misfit) answer book mid old new next a = record { sends = a.sends; orders = a.orders }
asking_at s asks_nothing answer book mid old new next a = passes_at answer book mid old new next a

-- where a book goes on
goes_behind : (answer : Answer) (pos next : ℕ) → is_gone answer ≡ false → next ≤ min (pos + 1) (2 ^ 64 - 1) → min (pos + 1) (2 ^ 64 - 1) ≡ next_behind answer pos next
goes_behind Filled pos next is unread = sym (max-eq_right unread)
goes_behind Passed pos next is unread = sym (max-eq_right unread)
goes_behind Gone pos next is unread = absurd (let no : is_gone Gone ≡ false = is in cc)

module _ (s pos : ℕ) (bytes : List ℕ) (answer : Answer) (book mid : Book) (old new : Known) (unread : book.next ≤ pos) (answers : AnswersAsking s (asking_of bytes) answer book mid old new) where
  -- the book goes on behind the message
  pub answers_on : (next : ℕ) → next ≡ min (pos + 1) (2 ^ 64 - 1) → pos ≤ 2 ^ 64 - 1 → is_gone answer ≡ false → AnswersMessage s pos bytes answer book (record mid { next = next }) old new
  answers_on next behind last is = record {
    unread = λ _. asking_at s (asking_of bytes) answer book mid old new next answers;
    read = λ before. absurd (omega (arith, unread, before));
    next = behind ∙ goes_behind answer pos book.next is (omega (arith, unread, last));
  }
