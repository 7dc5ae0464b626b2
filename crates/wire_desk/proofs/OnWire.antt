-- A connection was written to: sessions and connections progress, and stay on the wire.
use Rattle.std.proofs.Common.{◌≡◌, ◌≢◌, inl, inr, ℕ, ◌<◌, ◌≤◌, List, length, get_or, Option, None, Some, false, refl, sym, ap, subst, ◌∙◌, arith}
use Rattle.std.proofs.lemmas.List.{get_or-set_same}
use Rattle.std.specs.Prelude.{IfSome}
use Rattle.connection_core.specs.Connection.{ConnectionState, after_end}
use Rattle.connection_core.specs.Outgoing.{written_text}
use Rattle.gate_io.specs.Wire.{Door, Link, OthersStay}
use Rattle.lease_core.specs.Lines.{lines_of}
use Rattle.lease_core.specs.State.{owner_of, state_of}
use Rattle.lease_desk.specs.Desk.{GoesOn, owner_at}
use Rattle.session_book.specs.Book.{Book, IsSameSession}
use Rattle.session_book.specs.Kept.{Kept}
use Rattle.session_book.specs.Rereading.{WentOn}
use Rattle.session_core.specs.declared.causes.Cause.{Cause}
use Rattle.session_desk.specs.Steps.{parting}
use Rattle.switchboard.specs.Board.{Board, book_at, connection_at, no_connection, no_session}
use Rattle.switchboard.specs.Going.{GoesOnTo, IsSameConnection, KeepsBytes}
use Rattle.switchboard.specs.Happenings.{Happens}
use Rattle.wire_desk.proofs.Progress.{same_or_other}
use Rattle.wire_desk.proofs.Writes.{GoesOnAtWire, count_stays, line_here, line_there}
use Rattle.wire_desk.specs.Lines.{IsNumbered, IsOnWire, TookWhatIsWritten}
use Rattle.wire_desk.specs.Steps.{AreOnWire, GoesOnWriting, KeepsWhatCame, PartsIfNeeded, Progresses, ProgressesWriting}

pub stands_since : (old new : Option Cause) → ((cause : Cause) → old ≡ Some cause → new ≡ Some cause) → new ≡ None → old ≡ None
stands_since None new ended none = refl
stands_since (Some cause) new ended none = absurd (cc (ended cause refl, none))

pub took_since : (before after : Link) (old new : ConnectionState) → after.written ≡ before.written → written_text new.out.outgoing ≡ written_text old.out.outgoing → TookWhatIsWritten before old → TookWhatIsWritten after new
took_since before after old new same text was = subst (λ w. IfSome w (λ bytes. bytes ≡ written_text new.out.outgoing)) (sym same) (subst (λ t. IfSome before.written (λ bytes. bytes ≡ t)) (sym text) was)

pub leases_further : (first second third : Board) (s : ℕ) → GoesOn first second s → GoesOn second third s → GoesOn first third s
leases_further first second third s one two = record {
  inbound = (let a = one.inbound in let b = two.inbound in omega arith);
  lease = λ some.
      let later = two.lease some in
      let before = one.lease (subst (λ n. 0 < n) later.0 some) in
      (later.0 ∙ before.0, later.1 ∙ before.1);
}

-- what came stays as a connection ends
came_itself : (c : ConnectionState) → KeepsWhatCame c c
came_itself c = record { taken = refl; held = refl; garbled = refl }

ended_keeps : (cause : Cause) (old new : ConnectionState) → new ≡ after_end cause old → KeepsWhatCame old new
ended_keeps cause old new is = subst (λ (c : ConnectionState). KeepsWhatCame old c) (sym is) (record { taken = refl; held = refl; garbled = refl })

parted_keeps : (session : Option ℕ) (k : ℕ) (cause : Cause) (old new : Board) → Happens (parting session k cause) old new → KeepsWhatCame (connection_at old k) (connection_at new k)
parted_keeps (Some s) k cause old new parts = ended_keeps cause (connection_at old k) (connection_at new k) parts.connection
parted_keeps None k cause old new parts = ended_keeps cause (connection_at old k) (connection_at new k)
    (ap (λ (b : Board). connection_at b k) parts.changes.others ∙ get_or-set_same old.connections k (after_end cause (connection_at old k)) no_connection parts.changes.within)

pub keeps_came : (cause : Option Cause) (k : ℕ) (old new : Board) → PartsIfNeeded cause k old new → KeepsWhatCame (connection_at old k) (connection_at new k)
keeps_came None k old new parts = subst (λ (b : Board). KeepsWhatCame (connection_at old k) (connection_at b k)) (sym parts) (came_itself (connection_at old k))
keeps_came (Some cause) k old new parts = parted_keeps (connection_at old k).session k cause old new parts

-- Texts are made and bytes are written on one connection, and then it ends, if it has to.
module _ (k : ℕ) (old mid new : Board) (cause : Option Cause) (within : k < length old.connections) (changes : GoesOnWriting k old mid) (parts : PartsIfNeeded cause k mid new) (goes : Progresses k mid new) (itself : Progresses k old old) where
  book_same : (s : ℕ) → book_at mid s ≡ book_at old s
  book_same s = ap (λ (ss : List Kept). (get_or ss s no_session).book) changes.sessions

  here : connection_at mid k ≡ record (connection_at old k) { out = (connection_at mid k).out }
  here = line_here k old mid within changes

  pub first_goes : GoesOnTo old mid
  first_goes =
      let count = count_stays k old mid changes in
      record {
        sessions = ap length changes.sessions;
        same = λ s. subst (λ (b : Book). IsSameSession (book_at old s) b) (sym (book_same s)) (itself.goes_on.same s);
        books = λ s. subst (λ (b : Book). WentOn (book_at old s) b) (sym (book_same s)) (itself.goes_on.books s);
        more = omega arith;
        each = λ j small. elim (same_or_other j k) [
          | inl e ↦ subst (λ n. IsSameConnection (connection_at old n) (connection_at mid n)) (sym e)
              (subst (IsSameConnection (connection_at old k)) (sym here) (let same = itself.goes_on.each k within in record {
                number = refl;
                since = refl;
                dialled = refl;
                more = same.more;
                taken = same.taken;
                bound = λ s is. is;
                ended = λ why is. is;
              }))
          | inr other ↦ subst (IsSameConnection (connection_at old j)) (sym (line_there k j old mid other changes)) (itself.goes_on.each j small)
        ];
      }

  leases_stay : (s : ℕ) → GoesOn old new s
  leases_stay s = record {
    inbound = subst (λ (b : Book). length b.inbound ≤ length (book_at new s).inbound) (book_same s) (goes.leases s).inbound;
    lease = subst (λ (b : Book). 0 < owner_at new s → (owner_at new s ≡ owner_of (state_of b.entries)) × (length (lines_of (book_at new s).entries) ≡ length (lines_of b.entries)))
        (book_same s) (goes.leases s).lease;
  }

  small_mid : (j : ℕ) → j < length old.connections → j < length mid.connections
  small_mid j small = subst (λ n. j < n) (sym (count_stays k old mid changes)) small

  others_keep : (j : ℕ) → j ≢ k → j < length old.connections → KeepsBytes (connection_at old j) (connection_at new j)
  others_keep j other small = subst (λ (c : ConnectionState). KeepsBytes c (connection_at new j)) (line_there k j old mid other changes) (goes.others j other (small_mid j small))

  came : KeepsWhatCame (connection_at old k) (connection_at new k)
  came = (let last = keeps_came cause k mid new parts in record {
    taken = last.taken ∙ ap (λ (c : ConnectionState). c.taken) here;
    held = last.held ∙ ap (λ (c : ConnectionState). c.held) here;
    garbled = last.garbled ∙ ap (λ (c : ConnectionState). c.garbled) here;
  })

  pub progresses : ((first second third : Board) → GoesOnTo first second → GoesOnTo second third → GoesOnTo first third) → ProgressesWriting k old new
  progresses law = record {
    goes_on = law old mid new first_goes goes.goes_on;
    leases = leases_stay;
    count = goes.count ∙ count_stays k old mid changes;
    others = others_keep;
    came = came;
  }

  pub number_stays : (connection_at new k).number ≡ (connection_at old k).number
  number_stays = (goes.goes_on.each k (small_mid k within)).number ∙ ap (λ (c : ConnectionState). c.number) here

  -- and the wire took what was written
  module _ (door mid_door new_door : Door) (before between after : ℕ → Link) (numbers : (j : ℕ) → j < length old.connections → (connection_at old j).number ≡ (connection_at old k).number → j ≡ k)
      (wire : GoesOnAtWire (connection_at old k).number door mid_door before between (connection_at mid k)) (last_door : new_door ≡ mid_door) (last_others : OthersStay between after (connection_at old k).number)
      (last_written : (after (connection_at old k).number).written ≡ (between (connection_at old k).number).written) (stands : (connection_at new k).cause ≡ None → (after (connection_at old k).number).closed ≡ false)
      (was : AreOnWire old door before) where
    same_door : new_door ≡ door
    same_door = last_door ∙ wire.door

    here_on : IsOnWire new_door after (connection_at new k)
    here_on =
        let on = was k within in
        let later = (goes.goes_on.each k (small_mid k within)).ended in
        let stood : (connection_at new k).cause ≡ None → (connection_at old k).cause ≡ None = λ none.
        sym (ap (λ (c : ConnectionState). c.cause) here) ∙ stands_since (connection_at mid k).cause (connection_at new k).cause later none in
        record {
          numbered = subst (IsNumbered new_door) (sym number_stays) (subst (λ (d : Door). IsNumbered d (connection_at old k).number) (sym same_door) on.numbered);
          stands = λ none. subst (λ n. (after n).closed ≡ false) (sym number_stays) (stands none);
          roomy = λ none. (let had = on.roomy (stood none) in let long : length (connection_at new k).held ≡ length (connection_at old k).held = ap length came.held in omega arith);
          written = subst (λ n. TookWhatIsWritten (after n) (connection_at new k)) (sym number_stays)
              (took_since (between (connection_at old k).number) (after (connection_at old k).number) (connection_at mid k) (connection_at new k) last_written goes.written wire.written);
        }

    there_on : (j : ℕ) → j ≢ k → j < length old.connections → IsOnWire new_door after (connection_at new j)
    there_on j other small =
        let on = was j small in
        let same : IsSameConnection (connection_at old j) (connection_at new j) = subst (λ (c : ConnectionState). IsSameConnection c (connection_at new j)) (line_there k j old mid other changes) (goes.goes_on.each j (small_mid j small)) in
        let apart : (connection_at old j).number ≢ (connection_at old k).number = λ e. other (numbers j small e) in
        let link : after (connection_at old j).number ≡ before (connection_at old j).number = last_others (connection_at old j).number apart ∙ wire.others (connection_at old j).number apart in
        let bytes = others_keep j other small in
        let stood : (connection_at new j).cause ≡ None → (connection_at old j).cause ≡ None = λ none. stands_since (connection_at old j).cause (connection_at new j).cause same.ended none in
        record {
          numbered = subst (IsNumbered new_door) (sym same.number) (subst (λ (d : Door). IsNumbered d (connection_at old j).number) (sym same_door) on.numbered);
          stands = λ none. subst (λ n. (after n).closed ≡ false) (sym same.number) (ap (λ (l : Link). l.closed) link ∙ on.stands (stood none));
          roomy = λ none. (let had = on.roomy (stood none) in let long : length (connection_at new j).held ≡ length (connection_at old j).held = ap length bytes.held in omega arith);
          written = subst (λ n. TookWhatIsWritten (after n) (connection_at new j)) (sym same.number)
              (took_since (before (connection_at old j).number) (after (connection_at old j).number) (connection_at old j) (connection_at new j) (ap (λ (l : Link). l.written) link) bytes.written on.written);
        }

    pub on_wire : AreOnWire new new_door after
    on_wire = λ j is. (let small : j < length old.connections = subst (λ n. j < n) (goes.count ∙ count_stays k old mid changes) is in elim (same_or_other j k) [
      | inl e ↦ subst (λ n. IsOnWire new_door after (connection_at new n)) (sym e) here_on
      | inr other ↦ there_on j other small
    ])
