-- Sessions and connections go on, step by step.
use Rattle.std.proofs.Common.{◌≡◌, ℕ, ◌<◌, ◌≤◌, List, [], ◌∷◌, ◌++◌, length, Option, None, Some, refl, sym, ap, subst, ◌∙◌, arith}
use Rattle.std.specs.Prelude.{slice_get}
use Rattle.switchboard.specs.Connection.{ConnectionState}
use Rattle.lease_desk.specs.Desk.{GoesOn}
use Rattle.lease_core.specs.declared.entry.Entry.{Entry}
use Rattle.session_book.specs.Book.{Book}
use Rattle.session_book.specs.Records.{HasNoted, Pending, noted_count}
use Rattle.session_core.specs.declared.names.Names.{Names}
use Rattle.switchboard.specs.Board.{Board, book_at, connection_at}
use Rattle.switchboard.specs.Going.{GoesOnTo, KeepsBytes}
use Rattle.session_desk.specs.Steps.{AreNoted, AreRoutes, IsRoute, Proceeds, pending_at}
use Rattle.session_desk.specs.declared.routes.Routes.{Routes}

pub same_bytes : (c : ConnectionState) → KeepsBytes c c
same_bytes c = record { taken = refl; held = refl; garbled = refl; written = refl }

pub bytes_further : (first second third : ConnectionState) → KeepsBytes first second → KeepsBytes second third → KeepsBytes first third
bytes_further first second third one two = record {
  taken = two.taken ∙ one.taken;
  held = two.held ∙ one.held;
  garbled = two.garbled ∙ one.garbled;
  written = two.written ∙ one.written;
}

pub goes_on_further : (first second third : Board) (s : ℕ) → GoesOn first second s → GoesOn second third s → GoesOn first third s
goes_on_further first second third s one two = record {
  inbound = (let a = one.inbound in let b = two.inbound in omega arith);
  lease = λ some.
      let later = two.lease some in
      let before = one.lease (subst (λ n. 0 < n) later.0 some) in
      (later.0 ∙ before.0, later.1 ∙ before.1);
}

pub goes_on_itself : (board : Board) (s : ℕ) → GoesOn board board s
goes_on_itself board s = record { inbound = omega arith; lease = λ some. (refl, refl) }

pub further : ((first second third : Board) → GoesOnTo first second → GoesOnTo second third → GoesOnTo first third) → (first second third : Board) → Proceeds first second → Proceeds second third → Proceeds first third
further law first second third one two = record {
  goes_on = law first second third one.goes_on two.goes_on;
  leases = λ s. goes_on_further first second third s (one.leases s) (two.leases s);
  bytes = λ k within. bytes_further (connection_at first k) (connection_at second k) (connection_at third k) (one.bytes k within) (two.bytes k (let more = one.goes_on.more in omega arith));
}

pub routes_stay : (old new : Board) (routes : Routes) → GoesOnTo old new → AreRoutes old routes → AreRoutes new routes
routes_stay old new routes goes are = record {
  count = are.count;
  each = λ j s names session pair.
      let was = are.each j s names session pair in
      let same = goes.same s in
      record { within = subst (λ n. s < n) (sym goes.sessions) was.within; accepts = same.dials ∙ was.accepts; names_are = same.names ∙ was.names_are };
}

longer : (old added new : List Entry) → new ≡ old ++ added → length old ≤ length new
longer [] added new is = omega arith
longer (x ∷ old) added [] is = absurd (cc)
longer (x ∷ old) added (y ∷ new) is = let rest = longer old added new (cc) in omega arith

pub more_entries : (old new : Board) (s : ℕ) → GoesOnTo old new → length (book_at old s).entries ≤ length (book_at new s).entries
more_entries old new s goes = let went = goes.books s in longer (book_at old s).entries went.added (book_at new s).entries went.entries_are

pub noted_stay : (old new : Board) (unkept : List Pending) → GoesOnTo old new → AreNoted unkept old → AreNoted unkept new
noted_stay old new unkept goes are = record {
  count = are.count ∙ sym goes.sessions;
  each = λ s small.
      let was = are.each s (subst (λ n. s < n) goes.sessions small) in
      let more = more_entries old new s goes in
      omega arith;
}
