-- What a session's book knows.
use Rattle.std.specs.Prelude.{◌≡◌, ◌≢◌, ℕ, ◌+◌, ◌-◌, ◌^◌, Bool, Vec, List, Option, Some, min, nat_eq}
use Rattle.std.specs.Global.{Global}
use Rattle.std.specs.Option.{is_some}
use Rattle.std.specs.HashMap.{get_by, hash_map_len}
use Rattle.std.specs.Cmp.Lexicographic.{pointwise}
use Rattle.example_broker.specs.Orders.{Ordered}
use Rattle.example_broker.specs.declared.books.Book.{Book}

-- the number of the fill of the order with this ClOrdID (11), if one was filled
abbrev pub fill_of : Book → List ℕ → Option ℕ
fill_of book id = get_by (λ k. pointwise nat_eq id k.items) book.filled

abbrev pub has_filled : Book → List ℕ → Bool
has_filled book id = is_some (fill_of book id)

-- the number of the next fill
abbrev pub next_fill : Book → ℕ
next_fill book = min (hash_map_len book.filled + 1) (2 ^ 64 - 1)

-- the book tells of each order what it told
abbrev pub KeepsOrders : Book → Book → Type 0
KeepsOrders old new = (id : Vec ℕ Global) → fill_of new id.items ≡ fill_of old id.items

-- the book has the same orders, and goes on from the same position
pub record Keeps (old new : Book) : Type 0 where
  pub orders : KeepsOrders old new
  pub next : new.next ≡ old.next

-- An order is filled: from now on it is in the book with the number of this fill, and of each other order the book tells what it told.
pub record Fills (order : Ordered) (old new : Book) : Type 0 where
  pub filled : fill_of new order.id ≡ Some (next_fill old)
  pub others : (id : Vec ℕ Global) → id.items ≢ order.id → fill_of new id.items ≡ fill_of old id.items
