-- Where memory is wanting, and of what nothing is told.
use Rattle.std.proofs.Common.{◌≡◌, inl, inr, ℕ, ◌<◌, ◌≤◌, List, length, get_or, Result, Ok, Err, OnErr, refl, sym, ap, subst, arith}
use Rattle.connection_core.specs.Connection.{ConnectionState}
use Rattle.session_book.specs.Kept.{Kept}
use Rattle.switchboard.specs.Board.{Board, book_at, connection_at, no_session}
use Rattle.switchboard.specs.Stops.{IsSameStream, NothingIsTold}
use Rattle.wire_desk.specs.Steps.{GoesOnWriting}
use Rattle.wire_desk.proofs.Progress.{same_or_other}
use Rattle.wire_desk.proofs.Writes.{count_stays, line_here, line_there}

pub on_err : {T E P : Type 0} (r : Result T E) → P → OnErr r P
on_err (Ok x) is = tt
on_err (Err e) is = is

stream_here : (k : ℕ) (old new : Board) → k < length old.connections → GoesOnWriting k old new → IsSameStream (connection_at old k) (connection_at new k)
stream_here k old new within goes =
    let here = line_here k old new within goes in
    record {
      number = ap (λ (c : ConnectionState). c.number) here;
      dialled = ap (λ (c : ConnectionState). c.dialled) here;
      session = ap (λ (c : ConnectionState). c.session) here;
      came = record { taken = ap (λ (c : ConnectionState). c.taken) here; held = ap (λ (c : ConnectionState). c.held) here; garbled = ap (λ (c : ConnectionState). c.garbled) here };
    }

stream_there : (old new : ConnectionState) → new ≡ old → IsSameStream old new
stream_there old new same = subst (IsSameStream old) (sym same) (record { number = refl; dialled = refl; session = refl; came = record { taken = refl; held = refl; garbled = refl } })

-- only texts are made and bytes are written of one connection
pub nothing_is_told : (k : ℕ) (old new : Board) → GoesOnWriting k old new → NothingIsTold old new
nothing_is_told k old new goes = record {
  sessions = ap (λ (xs : List Kept). length xs) goes.sessions;
  books = λ s. ap (λ (xs : List Kept). (get_or xs s no_session).book) goes.sessions;
  count = count_stays k old new goes;
  streams = λ j within. elim (same_or_other j k) [
    | inl e ↦ subst (λ n. IsSameStream (connection_at old n) (connection_at new n)) (sym e) (stream_here k old new (subst (λ n. n < length old.connections) e within) goes)
    | inr other ↦ stream_there (connection_at old j) (connection_at new j) (line_there k j old new other goes)
  ];
}
