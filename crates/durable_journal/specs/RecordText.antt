-- The bytes of a record: numbers of a fixed size, big-endian, and its body behind them.
use Rattle.std.specs.Prelude.{ℕ, ◌<◌, ◌^◌, List, ◌∷◌, ◌++◌, length}
use Rattle.std.specs.Int.{to_be_bytes, w16, w32, w64}
use Rattle.std.specs.List.{flat_map}
use Rattle.lease_core.specs.declared.record.Record.{Record}
use Rattle.durable_journal.specs.declared.numbers.Numbers.{Numbers}
use Rattle.durable_journal.specs.declared.head.Head.{Head}
use Rattle.durable_journal.specs.Numbers.{numbers_of}

-- the kind, and the five numbers
unfoldable pub numbers_text : Numbers → List ℕ
numbers_text n =
    n.kind ∷ (to_be_bytes w64 n.a ++ (to_be_bytes w64 n.b ++ (to_be_bytes w64 n.c ++ (to_be_bytes w64 n.d ++ to_be_bytes w64 n.e))))

-- the session, the entry's numbers, the moment, the expected number, and how long the body is
unfoldable pub head_text : Head → List ℕ
head_text h =
    to_be_bytes w16 h.s ++ (numbers_text h.numbers ++ (to_be_bytes w64 h.at ++ (to_be_bytes w32 h.expected ++ to_be_bytes w32 h.length)))

-- each of the numbers is in its type
pub record NumbersHaveTypes (n : Numbers) : Type 0 where
  pub kind : n.kind < 2 ^ 8
  pub a : n.a < 2 ^ 64
  pub b : n.b < 2 ^ 64
  pub c : n.c < 2 ^ 64
  pub d : n.d < 2 ^ 64
  pub e : n.e < 2 ^ 64

pub record HeadHasTypes (h : Head) : Type 0 where
  pub s : h.s < 2 ^ 16
  pub numbers : NumbersHaveTypes h.numbers
  pub at : h.at < 2 ^ 64
  pub expected : h.expected < 2 ^ 32
  pub length : h.length < 2 ^ 32

abbrev pub head_of : Record → Head
head_of r = record { s = r.s; numbers = numbers_of r.entry; at = r.at; expected = r.expected; length = length r.body }

abbrev pub record_text : Record → List ℕ
record_text r = head_text (head_of r) ++ r.body

abbrev pub records_text : List Record → List ℕ
records_text records = flat_map record_text records
