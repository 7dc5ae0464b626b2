-- What a counterparty's message asks for.
use Rattle.std.specs.Prelude.{ℕ, ◌≤◌, nat_le, Bool, true, false, if◌then◌else◌, List, [], ◌∷◌, length, Option, Some, None, Result, Ok, Err, nat_eq, codes}
use Rattle.std.specs.Option.{option_map_or}
use Rattle.std.specs.Cmp.Lexicographic.{pointwise}
use Rattle.fix_fields.specs.Field.{Field}
use Rattle.fix_fields.specs.Reading.{fields_of, first_value}
use Rattle.example_broker.specs.declared.orders.Asked.{Asked}
use Rattle.example_broker.specs.declared.orders.Asked.TheVariants as asked
use Rattle.example_broker.specs.declared.orders.Cancel.{Cancel}
use Rattle.example_broker.specs.declared.orders.Misfit.{Misfit}
use Rattle.example_broker.specs.declared.orders.Order.{Order}
use Rattle.example_broker.specs.declared.orders.TheConstants.{LONGEST_VALUE}

-- a NewOrderSingle (35=D), with the values that its report tells again
pub record Ordered : Type 0 where
  pub id : List ℕ
  pub symbol : List ℕ
  pub side : List ℕ
  pub quantity : List ℕ
  pub price : List ℕ

-- an OrderCancelRequest (35=F): its own ClOrdID (11), and that of the order which it is about (41)
pub record Cancelled : Type 0 where
  pub id : List ℕ
  pub original : List ℕ

-- a message of one of these two kinds without a field that it has to have: its MsgType (35) and MsgSeqNum (34)
pub record Misfitted : Type 0 where
  pub kind : List ℕ
  pub number : List ℕ

-- What a message asks for: to fill an order, to cancel one, to be rejected for what it lacks, or nothing.
pub data Asking : Type 0 where
  asks_fill : Ordered → Asking
  asks_cancel : Cancelled → Asking
  lacks_field : Misfitted → Asking
  asks_nothing : Asking

-- an order, a request and a misfit as the code has them
abbrev pub ordered_by : Order → Ordered
ordered_by order = record { id = order.id.now; symbol = order.symbol.now; side = order.side.now; quantity = order.quantity.now; price = order.price.now }

abbrev pub cancelled_by : Cancel → Cancelled
cancelled_by cancel = record { id = cancel.id.now; original = cancel.original.now }

abbrev pub misfitted_by : Misfit → Misfitted
misfitted_by misfit = record { kind = misfit.kind.now; number = misfit.number.now }

-- and what it takes a message to ask for
abbrev pub asking_by : Asked → Asking
asking_by (asked.Order order) = asks_fill (ordered_by order)
asking_by (asked.Cancel cancel) = asks_cancel (cancelled_by cancel)
asking_by (asked.Misfit misfit) = lacks_field (misfitted_by misfit)
asking_by asked.Nothing = asks_nothing

-- the MsgType (35) is this one
abbrev pub has_kind : List ℕ → List Field → Bool
has_kind kind fields = option_map_or (λ found. pointwise nat_eq found kind) (first_value 35 fields) false

-- a value, unless it is too long for a report
abbrev pub short_value : Option (List ℕ) → Option (List ℕ)
short_value None = None
short_value (Some value) = if nat_le (length value) LONGEST_VALUE then Some value else None

abbrev pub value_in : ℕ → List Field → Option (List ℕ)
value_in tag fields = short_value (first_value tag fields)

-- the price at which an order is filled: its own (44), or 100
abbrev pub price_by : Option (List ℕ) → Option (List ℕ)
price_by None = Some (codes "100")
price_by (Some value) = short_value (Some value)

abbrev pub price_in : List Field → Option (List ℕ)
price_in fields = price_by (first_value 44 fields)

-- an order with these values, where each is there
abbrev pub order_with : Option (List ℕ) → Option (List ℕ) → Option (List ℕ) → Option (List ℕ) → Option (List ℕ) → Option Ordered
order_with None _ _ _ _ = None
order_with (Some id) None _ _ _ = None
order_with (Some id) (Some symbol) None _ _ = None
order_with (Some id) (Some symbol) (Some side) None _ = None
order_with (Some id) (Some symbol) (Some side) (Some quantity) None = None
order_with (Some id) (Some symbol) (Some side) (Some quantity) (Some price) = Some (record { id = id; symbol = symbol; side = side; quantity = quantity; price = price })

abbrev pub order_fields : List Field → Option Ordered
order_fields fields = order_with (value_in 11 fields) (value_in 55 fields) (value_in 54 fields) (value_in 38 fields) (price_in fields)

-- a request with these values, where both are there
abbrev pub cancel_with : Option (List ℕ) → Option (List ℕ) → Option Cancelled
cancel_with None _ = None
cancel_with (Some id) None = None
cancel_with (Some id) (Some original) = Some (record { id = id; original = original })

abbrev pub cancel_fields : List Field → Option Cancelled
cancel_fields fields = cancel_with (value_in 11 fields) (value_in 41 fields)

-- A message of this kind that lacks a field is rejected by its number, where that can be told again.
abbrev pub misfit_with : List ℕ → Option (List ℕ) → Asking
misfit_with kind None = asks_nothing
misfit_with kind (Some number) = lacks_field (record { kind = kind; number = number })

abbrev pub misfit_in : List ℕ → List Field → Asking
misfit_in kind fields = misfit_with kind (value_in 34 fields)

-- an order, or what a message asks for that isn't one
abbrev pub order_or : Option Ordered → Asking → Asking
order_or None other = other
order_or (Some order) other = asks_fill order

abbrev pub cancel_or : Option Cancelled → Asking → Asking
cancel_or None other = other
cancel_or (Some cancel) other = asks_cancel cancel

-- What these fields ask for: a NewOrderSingle (35=D) with ClOrdID (11), Symbol (55), Side (54) and OrderQty (38) to be filled, an OrderCancelRequest (35=F) with ClOrdID (11) and OrigClOrdID (41) to cancel.
abbrev pub asking_in : List Field → Asking
asking_in fields =
    if has_kind (codes "D") fields then order_or (order_fields fields) (misfit_in (codes "D") fields)
    else (if has_kind (codes "F") fields then cancel_or (cancel_fields fields) (misfit_in (codes "F") fields) else asks_nothing)

-- what a message asks for: one that can't be read asks for nothing
abbrev pub asking_read : {E : Type 0} → Result (List Field) E → Asking
asking_read (Ok fields) = asking_in fields
asking_read (Err fault) = asks_nothing

abbrev pub asking_of : List ℕ → Asking
asking_of bytes = asking_read (fields_of bytes)
