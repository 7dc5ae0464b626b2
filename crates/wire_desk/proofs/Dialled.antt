-- A session dials, behind what its library did, and the connection is on the wire.
use Rattle.std.proofs.Common.{◌≡◌, ℕ, ◌+◌, ◌<◌, List, [], ◌∷◌, ◌++◌, length, true, false, refl, sym, ap, subst, ◌∙◌, arith}
use Rattle.std.proofs.lemmas.List.Elements.{All-weaker}
use Rattle.std.specs.Prelude.{IfSome}
use Rattle.connection_core.specs.Connection.{ConnectionState, fresh_dial}
use Rattle.connection_core.specs.Outgoing.{no_outgoing, written_text}
use Rattle.gate_io.specs.Wire.{Dials as TheWireDials, Door, Link, OthersStay}
use Rattle.gate_io.specs.declared.dials.Dialled.TheVariants.{New}
use Rattle.gate_io.specs.declared.wires.TheConstants.{FIRST_DIALLED}
use Rattle.lease_core.specs.declared.entry.Entry.{Entry}
use Rattle.lease_desk.specs.Desk.{Gathers, bodies_of}
use Rattle.lease_desk.specs.declared.desk.LeaseDesk.{LeaseDesk}
use Rattle.session_book.specs.Acts.{after_dial}
use Rattle.session_book.specs.Book.{Desk, with_outbox}
use Rattle.session_book.specs.Items.{QueuesWhatIsTold}
use Rattle.switchboard.specs.Board.{Board, book_at, connection_at}
use Rattle.switchboard.specs.Going.{GoesOnTo, IsSameConnection, KeepsBytes, is_coming, is_quiet}
use Rattle.switchboard.specs.Happenings.{Dials, Happening, Happens, reserves, shows}
use Rattle.switchboard.specs.Ready.{IsReady}
use Rattle.wire_desk.specs.Lines.{IsNumbered, IsOnWire, IsOpenPlace, IsWired}
use Rattle.wire_desk.proofs.Coming.{came_last}
use Rattle.wire_desk.proofs.Progress.{stood}

kept_line : (door : Door) (links : ℕ → Link) (old new : ConnectionState) → IsSameConnection old new → KeepsBytes old new → IsOnWire door links old → IsOnWire door links new
kept_line door links old new same kept was = record {
  numbered = subst (IsNumbered door) (sym same.number) was.numbered;
  stands = λ none. subst (λ n. (links n).closed ≡ false) (sym same.number) (was.stands (stood old.cause new.cause same.ended none));
  roomy = λ none.
      let had = was.roomy (stood old.cause new.cause same.ended none) in
      let long : length new.held ≡ length old.held = ap (λ (xs : List ℕ). length xs) kept.held in
      omega arith;
  written = subst (λ n. IfSome (links n).written (λ bytes. bytes ≡ written_text new.out.outgoing)) (sym same.number)
      (subst (λ (text : List ℕ). IfSome (links old.number).written (λ bytes. bytes ≡ text)) (sym kept.written) was.written);
}

-- connections of which no bytes come or are written stay on the wire
kept_wired : (old new : Board) (places : List ℕ) (door : Door) (links : ℕ → Link) → GoesOnTo old new → length new.connections ≡ length old.connections
    → ((k : ℕ) → k < length old.connections → KeepsBytes (connection_at old k) (connection_at new k)) → IsWired old places door links → IsWired new places door links
kept_wired old new places door links goes count kept was =
    let small : (k : ℕ) → k < length new.connections → k < length old.connections = λ k within. subst (λ n. k < n) count within in
    record {
      each = λ k within. kept_line door links (connection_at old k) (connection_at new k) (goes.each k (small k within)) (kept k (small k within)) (was.each k (small k within));
      listed = All-weaker (IsOpenPlace old links) (IsOpenPlace new links) (λ k place. record {
        within = subst (λ n. k < n) (sym count) place.within;
        open_still = subst (λ n. (links n).closed ≡ false) (sym (goes.each k place.within).number) place.open_still;
      }) places was.listed;
      all = λ k within none. was.all k (small k within) (stood (connection_at old k).cause (connection_at new k).cause (goes.each k (small k within)).ended none);
    }

-- what a run keeps that brings no connection and no bytes
pub record KeepsLines (before : ℕ → List Entry) (old new : Board) : Type 0 where
  pub ready : IsReady before new
  pub count : length new.connections ≡ length old.connections
  pub wired : (places : List ℕ) (door : Door) (links : ℕ → Link) → IsWired old places door links → IsWired new places door links

module _ (before : ℕ → List Entry) (goes : (happening : Happening) (old new : Board) → Happens happening old new → GoesOnTo old new)
    (counts : (happening : Happening) (old new : Board) → is_coming happening ≡ false → Happens happening old new → length new.connections ≡ length old.connections)
    (keeps : (happening : Happening) (old new : Board) → is_quiet happening ≡ true → Happens happening old new → IsReady before old → (k : ℕ) → k < length old.connections → KeepsBytes (connection_at old k) (connection_at new k))
    (stays : (happening : Happening) (old new : Board) → Happens happening old new → IsReady before old → IsReady before new) where
  quiet_keeps : (happening : Happening) (old new : Board) → is_coming happening ≡ false → is_quiet happening ≡ true → Happens happening old new → IsReady before old → KeepsLines before old new
  quiet_keeps happening old new apart quiet happens ready = record {
    ready = stays happening old new happens ready;
    count = counts happening old new apart happens;
    wired = λ places door links was. kept_wired old new places door links (goes happening old new happens) (counts happening old new apart happens) (keeps happening old new quiet happens ready) was;
  }

  pub gathering_keeps : (s at until : ℕ) (old new : LeaseDesk) → Gathers s at until old new → IsReady before old.board → KeepsLines before old.board new.board
  gathering_keeps s at until old new gathers ready =
      let reached = gathers.reaches in
      let middle = reached.0 in
      let last = reached.1.1.0 in
      let room = quiet_keeps (reserves s) old.board middle refl refl reached.1.0 ready in
      let shown = quiet_keeps (shows s gathers.word (bodies_of gathers.items) at until) middle last refl refl reached.1.1.1.0 room.ready in
      subst (KeepsLines before old.board) (sym reached.1.1.1.1) (record {
        ready = shown.ready;
        count = shown.count ∙ room.count;
        wired = λ places door links was. shown.wired places door links (room.wired places door links was);
      })

pub one_more_dialled : (number : ℕ) (door after_door : Door) (links : ℕ → Link) → TheWireDials door after_door links (New number) → after_door.dialled ≡ door.dialled + 1
one_more_dialled number door after_door links answer = ap (λ (d : Door). d.dialled) answer.1

pub dialled_wired : (s number at : ℕ) (old new : Board) (first last : List ℕ) (door after_door : Door) (before after : ℕ → Link) → Dials s number at old new
    → QueuesWhatIsTold number (with_outbox (book_at old s) no_outgoing) (after_dial at number (with_outbox (book_at old s) no_outgoing))
    → TheWireDials door after_door after (New number) → OthersStay before after (FIRST_DIALLED + door.dialled) → IsWired old (first ++ last) door before → IsWired new (first ++ (last ++ length old.connections ∷ [])) after_door after
dialled_wired s number at old new first last door after_door before after is queues answer others was =
    let out = (connection_at new (length old.connections)).out in
    let c = fresh_dial number at s out in
    let number_is : number ≡ FIRST_DIALLED + door.dialled = answer.0 in
    let accepted : after_door.accepted ≡ door.accepted = ap (λ (d : Door). d.accepted) answer.1 in
    let dialled = one_more_dialled number door after_door after answer in
    let unwritten : written_text out.outgoing ≡ [] = ap written_text (ap (λ (d : Desk). d.outgoing) is.desk ∙ queues.queued) in
    came_last old new c door after_door before after is.connection (omega arith) (omega arith) is.new_number
    (subst (OthersStay before after) (sym number_is) others)
    (record {
      numbered = record { accepted = λ small. absurd (omega arith); dialled = λ large. omega arith };
      stands = λ none. answer.2.open_still;
      roomy = λ none. omega arith;
      written = subst (λ (text : List ℕ). IfSome (after number).written (λ bytes. bytes ≡ text)) (sym unwritten) answer.2.unwritten;
    })
    answer.2.open_still first last was
