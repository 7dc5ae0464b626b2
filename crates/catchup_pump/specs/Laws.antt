-- What holds of the messages that pumps push.
use Rattle.std.specs.Prelude.{◌≡◌, ℕ, ◌+◌, ◌<◌, ◌≤◌, List, ◌++◌, length, slice_get, Some}
use Rattle.catchup_pump.specs.declared.cursor.Cursor.{Cursor}
use Rattle.catchup_pump.specs.Pump.{message_at, messages_from, cursor_after}

-- the messages from a cursor on are those up to a place, and then those from there on
abbrev pub PumpsJoin : Type 0
PumpsJoin = (c : Cursor) (log : List (List ℕ)) (m n : ℕ) → messages_from c log (m + n) ≡ messages_from c log m ++ messages_from (cursor_after c m) log n

-- what arrives later changes no message before it
abbrev pub LogsGrow : Type 0
LogsGrow = (c : Cursor) (log more : List (List ℕ)) (n : ℕ) → c.at + n ≤ length log → messages_from c (log ++ more) n ≡ messages_from c log n

-- there are as many as positions were passed
abbrev pub PushedAreCounted : Type 0
PushedAreCounted = (c : Cursor) (log : List (List ℕ)) (n : ℕ) → length (messages_from c log n) ≡ n

-- and at each place stands the message of the position so far on
abbrev pub PushedAreTheLog : Type 0
PushedAreTheLog = (c : Cursor) (log : List (List ℕ)) (n i : ℕ) → i < n → slice_get (messages_from c log n) i ≡ Some (message_at c log i)
