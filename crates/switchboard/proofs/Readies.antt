-- Behind each happening a ready board is ready.
use Rattle.std.proofs.Common.{◌≡◌, ◌⊎◌, inl, inr, ℕ, zero, suc, ◌+◌, ◌<◌, ◌≤◌, List, [], ◌∷◌, ◌++◌, length, get_or, set, true, IfSome, is_some, Option, None, Some, refl, sym, ap, subst, ◌∙◌, arith}
use Rattle.std.proofs.lemmas.Bool.{and_from, eq-eqb, le-leb, lt-ltb}
use Rattle.std.proofs.Math.ListN.{get_or-append}
use Rattle.std.proofs.Math.Seq.{get_or-append_seam}
use Rattle.std.proofs.lemmas.List.{append-nil, length_push}
use Rattle.connection_core.specs.Connection.{ConnectionState, after_end, after_next, after_taking, fresh}
use Rattle.connection_core.specs.Items.{AreItemsOf}
use Rattle.connection_core.specs.Outgoing.{Outgoing, Outlet, after_writing, no_outgoing, waiting_text}
use Rattle.lease_core.specs.Lines.{lines_of, missing_sends, raises}
use Rattle.lease_core.specs.Showable.{CanTimeOut}
use Rattle.lease_core.specs.declared.entry.Entry.{Entry}
use Rattle.lease_core.specs.declared.lease.Line.{Line}
use Rattle.lease_core.specs.declared.word.Word.{Word}
use Rattle.session_core.specs.Receive.{receive}
use Rattle.session_core.specs.declared.causes.Cause.{Cause}
use Rattle.session_book.specs.Acts.{IsBoundIn}
use Rattle.session_book.specs.Book.{Book, Desk, with_outbox}
use Rattle.session_book.specs.Kept.{Kept}
use Rattle.session_book.specs.Texts.{IsTextOf}
use Rattle.session_book.specs.Words.{shown_sends}
use Rattle.switchboard.specs.Board.{Board, OutboxChanges, book_at, connection_at, desk_at, names_at, no_connection, no_session, outgoing_at, place_at, with_connection, with_connections, with_session_more}
use Rattle.switchboard.specs.Happenings.{Accepts, BindsAndEnds, BindsTo, BookChanges, ConnectionChanges, EndsBound, EndsUnbound, Happening, Happens, Prepares, Reaches, SessionGoesOn, Writes, accepts, answers, binds, binds_and_ends, dials, ends_bound, ends_unbound, gives, lapses, prepares, receives, requests, reserves, shows, takes, ticks, times_out, writes}
use Rattle.switchboard.specs.Ready.{HasTextOf, IsFirst, IsReady, entries_of}
use Rattle.switchboard.specs.Sound.{IsLawful, IsPlaced, IsPlugged, IsSameLine, IsSound, bound_of}
use Rattle.switchboard.proofs.Changes.{accept_nearly, bind_nearly, bind_on, connection_nearly, dial_nearly, dial_on, end_nearly, end_on, goes_on_nearly, goes_on_on, none_is}
use Rattle.switchboard.proofs.Sounds.{connection_sound, none_some, same_number, same_or_other, unbound_sound}
use Rattle.switchboard.proofs.TextLaws.{KeepsTexts, TextLaws}
use Rattle.switchboard.proofs.Turns.{all_but, nearly, on_all, with_on}

-- the word of a lease that is taken back raises the lines
raises_back : (lines : List Line) (w : Word) → CanTimeOut lines w → raises lines w ≡ true
raises_back lines w can = and_from _ _ (and_from _ _ (eq-eqb w.lease (length lines) can.showable.lease) (lt-ltb 0 _ can.owned)) (le-leb _ w.count can.showable.count)

pub all_shown : (entries : List Entry) (w : Word) → CanTimeOut (lines_of entries) w → shown_sends entries w ≡ missing_sends (lines_of entries) w
all_shown entries w can = rw (raises_back (lines_of entries) w can) refl

-- what a session does without its connection is an event of both
set_same : {T : Type 0} (xs : List T) (i : ℕ) (d : T) → set xs i (get_or xs i d) ≡ xs
set_same [] i d = refl
set_same (x ∷ xs) zero d = refl
set_same (x ∷ xs) (suc i) d = ap (λ l. x ∷ l) (set_same xs i d)

outbox_same : (place : Option ℕ) (old new : Board) → new.connections ≡ old.connections → new.nowhere ≡ old.nowhere → OutboxChanges place old new
outbox_same None old new connections nowhere = connections
outbox_same (Some k) old new connections nowhere =
    let out : record (connection_at old k) { out = (connection_at new k).out } ≡ connection_at old k =
    ap (λ (cs : List ConnectionState). record (connection_at old k) { out = (get_or cs k no_connection).out }) connections in
    (connections ∙ sym (set_same old.connections k no_connection) ∙ ap (λ (c : ConnectionState). set old.connections k c) (sym out), nowhere)

pub book_goes_on : (s : ℕ) (book : Book) (old new : Board) → BookChanges s book old new → SessionGoesOn s old new
book_goes_on s book old new changes = record {
  within = changes.within;
  others = record {
    sessions = ap (λ (b : Board). b.sessions) changes.others;
    places = ap (λ (b : Board). b.places) changes.others;
    connections = outbox_same (place_at old s) old new (ap (λ (b : Board). b.connections) changes.others) (ap (λ (b : Board). b.nowhere) changes.others);
  };
  bound = changes.bound;
  on = changes.on;
  lawful = changes.lawful;
}

book_desk : (s : ℕ) (book : Book) (old new : Board) → BookChanges s book old new → desk_at new s ≡ with_outbox book (outgoing_at old (place_at old s))
book_desk s book old new changes =
    ap (λ (b : Board). with_outbox (book_at new s) (outgoing_at b (place_at b s))) changes.others ∙ ap (λ (b : Book). with_outbox b (outgoing_at old (place_at old s))) changes.becomes

module _ (g : TextLaws) (before : ℕ → List Entry) where
  goes_on_ready : (s : ℕ) (old new : Board) (desk : Desk) → SessionGoesOn s old new → desk_at new s ≡ desk → KeepsTexts (desk_at old s) desk → IsReady before old → IsReady before new
  goes_on_ready s old new desk goes is keeps ready =
      with_on before new (goes_on_nearly before s old new goes (nearly before old ready) (subst (λ d. KeepsTexts (desk_at old s) d) (sym is) keeps)) (goes_on_on before s old new goes ready.on)

  -- one connection changes that stays bound as it was, and stands or has ended as before
  changes_ready : (k : ℕ) (c : ConnectionState) (old new : Board) → ConnectionChanges k c old new → c.number ≡ (connection_at old k).number → c.session ≡ (connection_at old k).session → IsSound (with_connection k c old)
      → ((s : ℕ) → (connection_at old k).session ≡ Some s → HasTextOf before old s k → IsTextOf (names_at old s) (before s) (connection_at old k).number (book_at old s) c.out.outgoing)
      → ((connection_at old k).session ≡ None → (connection_at old k).out.outgoing ≡ no_outgoing → c.out.outgoing ≡ no_outgoing)
      → IsReady before old → IsReady before new
  changes_ready k c old new changes number session sound texts silent ready =
      subst (λ board. IsReady before board) (sym changes.others)
      (with_on before (with_connection k c old) (connection_nearly before k c old changes.within number session sound texts silent (nearly before old ready)) ready.on)

  -- also where what is to be written doesn't change
  plain_ready : (k : ℕ) (c : ConnectionState) (old new : Board) → ConnectionChanges k c old new → IsSameLine (connection_at old k) c → c.out ≡ (connection_at old k).out → IsReady before old → IsReady before new
  plain_ready k c old new changes line out ready =
      changes_ready k c old new changes line.number line.session (connection_sound old k c changes.within line ready.sound)
      (λ s names text. subst (λ (o : Outlet). IsTextOf (names_at old s) (before s) (connection_at old k).number (book_at old s) o.outgoing) (sym out) text)
      (λ unbound none. ap (λ (o : Outlet). o.outgoing) out ∙ none) ready

  -- only what is to be written changes
  written_ready : (k : ℕ) (old new : Board) → ConnectionChanges k (record (connection_at old k) { out = (connection_at new k).out }) old new
      → ((s : ℕ) → (connection_at old k).session ≡ Some s → HasTextOf before old s k → IsTextOf (names_at old s) (before s) (connection_at old k).number (book_at old s) (connection_at new k).out.outgoing)
      → ((connection_at old k).session ≡ None → (connection_at old k).out.outgoing ≡ no_outgoing → (connection_at new k).out.outgoing ≡ no_outgoing)
      → IsReady before old → IsReady before new
  written_ready k old new changes texts silent ready =
      let c = record (connection_at old k) { out = (connection_at new k).out } in
      changes_ready k c old new changes refl refl (connection_sound old k c changes.within (record { session = refl; cause = refl; number = refl }) ready.sound) texts silent ready

  accept_ready : (number at : ℕ) (old new : Board) → Accepts number at old new → IsReady before old → IsReady before new
  accept_ready number at old new accepted ready =
      let c = fresh number at (connection_at new (length old.connections)).out in
      subst (λ board. IsReady before board) (sym accepted.connection)
      (with_on before (with_connections (old.connections ++ c ∷ []) old) (accept_nearly before c old refl accepted.none_waits accepted.new_number (nearly before old ready)) ready.on)

  unbound_ready : (k : ℕ) (cause : Cause) (old new : Board) → EndsUnbound k cause old new → IsReady before old → IsReady before new
  unbound_ready k cause old new ends ready =
      let c = after_end cause (connection_at old k) in
      let unbound = none_is _ ends.unbound in
      changes_ready k c old new ends.changes refl refl (unbound_sound old k c ends.changes.within unbound unbound ready.sound)
      (λ s names text. text) (λ free none. none) ready

  prepare_ready : (s k : ℕ) (old new : Board) → Prepares s k old new → IsReady before old → IsReady before new
  prepare_ready s k old new is ready =
      let log = (book_at old s).outbound in
      let out = (connection_at old k).out.outgoing in
      let later = (connection_at new k).out.outgoing in
      written_ready k old new is.changes
      (λ j names text.
      let one : s ≡ j = same_number s j (sym is.names ∙ names) in
      subst (λ n. IsTextOf (names_at old n) (before n) (connection_at old k).number (book_at old n) later) one
      (g.kept (names_at old s) (before s) (connection_at old k).number (book_at old s) out later
      (λ items are. subst (λ o. AreItemsOf (names_at old s) log items o) (sym is.more.more) (g.make (names_at old s) log items out is.more.count are))
      (subst (λ n. HasTextOf before old n k) (sym one) text)))
      (λ unbound none. absurd (none_some s (sym unbound ∙ is.names))) ready

  write_ready : (k n : ℕ) (old new : Board) → Writes k n old new → IsReady before old → IsReady before new
  write_ready k n old new is ready =
      let out = (connection_at old k).out.outgoing in
      let later = (connection_at new k).out.outgoing in
      written_ready k old new is.changes
      (λ s names text.
      g.kept (names_at old s) (before s) (connection_at old k).number (book_at old s) out later
      (λ items are. subst (λ o. AreItemsOf (names_at old s) (book_at old s).outbound items o) (sym is.outgoing) (g.write (names_at old s) (book_at old s).outbound items out n are is.within))
      text)
      (λ unbound none.
      let small : n ≤ 0 = subst (λ (o : Outgoing). n ≤ length (waiting_text o)) none is.within in
      let all : n ≡ 0 = omega arith in
      is.outgoing ∙ ap (λ o. after_writing n o) none ∙ ap (λ m. after_writing m no_outgoing) all) ready

  same_texts : (desk : Desk) → KeepsTexts desk desk
  same_texts desk = record {
    text = λ names first c bound text. text;
    others = λ names first c out apart text. text;
    entries = record { added = []; are = sym (append-nil desk.book.entries) };
  }

  pub happening_ready : (happening : Happening) (old new : Board) → Happens happening old new → IsReady before old → IsReady before new
  happening_ready (accepts number at) old new is ready = accept_ready number at old new is ready
  happening_ready (dials s number at) old new is ready = with_on before new (dial_nearly g before s number at old new is (nearly before old ready)) (dial_on g before s number at old new is ready.on)
  happening_ready (takes k bytes) old new is ready = plain_ready k (after_taking bytes (connection_at old k)) old new is.changes (record { session = refl; cause = refl; number = refl }) refl ready
  happening_ready (gives k) old new is ready = plain_ready k (after_next (connection_at old k)) old new is.changes (record { session = refl; cause = refl; number = refl }) refl ready
  happening_ready (binds s k body at) old new is ready =
      let was = nearly before old ready in
      with_on before new (bind_nearly g before s k body at old new is.binding was) (on_all s new (λ i within placed. is.on) (bind_on g before s k body at old new is.binding was ready.on))
  happening_ready (binds_and_ends s k body at cause) old new is ready =
      let was = nearly before old ready in
      let mid = bind_nearly g before s k body at old is.between is.binding was in
      with_on before new (end_nearly g before s k cause is.between new is.leaves mid) (end_on g before s k cause is.between new is.leaves mid (bind_on g before s k body at old is.between is.binding was ready.on))
  happening_ready (receives s k body at) old new is ready = goes_on_ready s old new _ is.goes_on is.desk (g.message at body (desk_at old s) (ready.books s is.goes_on.within).is_book) ready
  happening_ready (answers k) old new is ready = plain_ready k (record (connection_at old k) { answered = true }) old new is (record { session = refl; cause = refl; number = refl }) refl ready
  happening_ready (ticks s at) old new is ready = goes_on_ready s old new _ is.goes_on is.desk (g.tick at (desk_at old s) (ready.books s is.goes_on.within).is_book) ready
  happening_ready (shows s w bodies at until) old new is ready =
      goes_on_ready s old new _ is.goes_on is.desk (g.word at until w bodies (desk_at old s) (ready.books s is.goes_on.within).is_book is.bodies_are) ready
  happening_ready (times_out s w bodies at until) old new is ready =
      goes_on_ready s old new _ is.goes_on is.desk
      (g.timeout at until w bodies (desk_at old s) (ready.books s is.goes_on.within).is_book (is.bodies_are ∙ sym (all_shown (book_at old s).entries w is.can))) ready
  happening_ready (requests s library nr from) old new is ready =
      goes_on_ready s old new _ (book_goes_on s _ old new is) (book_desk s _ old new is) (g.request library nr from (desk_at old s) (ready.books s is.within).is_book) ready
  happening_ready (lapses s) old new is ready =
      goes_on_ready s old new _ (book_goes_on s _ old new is) (book_desk s _ old new is) (g.lapse (desk_at old s) (ready.books s is.within).is_book) ready
  happening_ready (ends_unbound k cause) old new is ready = unbound_ready k cause old new is ready
  happening_ready (ends_bound s k cause) old new is ready =
      let was = nearly before old ready in
      with_on before new (end_nearly g before s k cause old new is was) (end_on g before s k cause old new is was (all_but s old ready.on))
  happening_ready (prepares s k) old new is ready = prepare_ready s k old new is ready
  happening_ready (writes k n) old new is ready = write_ready k n old new is ready
  happening_ready (reserves s) old new is ready = goes_on_ready s old new _ is.goes_on is.desk (same_texts (desk_at old s)) ready

  pub run_ready : (happenings : List Happening) (old new : Board) → Reaches happenings old new → IsReady before old → IsReady before new
  run_ready [] old new reached ready = subst (λ board. IsReady before board) (sym reached) ready
  run_ready (happening ∷ happenings) old new reached ready =
      run_ready happenings reached.0 new reached.1.1 (happening_ready happening old reached.0 reached.1.0 ready)

-- at first
pub no_connections : (board : Board) (k : ℕ) → board.connections ≡ [] → k < length board.connections → ⊥
no_connections board k none within = let same = ap length none in absurd (omega arith)

pub first_ready : (before : ℕ → List Entry) (board : Board) → IsFirst before board → IsReady before board
first_ready before board first = record {
  sound = record {
    places = first.places;
    placed = λ s within. subst (λ place. IsPlaced board s place) (sym (first.unplaced s within)) (first.unbound s within);
    alone = λ k s within names stands. absurd (no_connections board k first.connections within);
  };
  books = first.books;
  entries = λ s within. record { added = []; are = first.entries s within ∙ sym (append-nil (before s)) };
  on = λ s k within at. absurd (none_some k (sym (first.unplaced s within) ∙ at));
  named = λ s k within names. absurd (no_connections board k first.connections within);
  numbers = λ j k within_j within_k same. absurd (no_connections board j first.connections within_j);
  texts = λ s k within names. absurd (no_connections board k first.connections within);
  silent = λ k within none. absurd (no_connections board k first.connections within);
}

pub none_first : (board : Board) → board.sessions ≡ [] → board.places ≡ [] → board.connections ≡ [] → IsFirst (entries_of board) board
none_first board sessions places connections =
    let no_session_at = λ (s : ℕ) (within : s < length board.sessions). let none = ap length sessions in let gone : ⊥ = omega arith in gone in
    record {
      connections = connections;
      places = ap length places ∙ sym (ap length sessions);
      unplaced = λ s within. absurd (no_session_at s within);
      unbound = λ s within. absurd (no_session_at s within);
      books = λ s within. absurd (no_session_at s within);
      entries = λ s within. refl;
    }

-- a session is added
module _ (board : Board) (kept : Kept) (none : bound_of kept.book ≡ None) (lawful : IsLawful kept.book) (first : IsFirst (entries_of board) board) where
  small_or_last : (s : ℕ) → s < length (board.sessions ++ kept ∷ []) → (s < length board.sessions) ⊎ (s ≡ length board.sessions)
  small_or_last s within = elim (same_or_other s (length board.sessions)) [
    | inl e ↦ inr e
    | inr other ↦ inl (omega (arith, length_push board.sessions kept, other))
  ]

  added_book : (s : ℕ) → s ≡ length board.sessions → book_at (with_session_more kept board) s ≡ kept.book
  added_book s e = ap (book_at (with_session_more kept board)) e ∙ ap (λ (k : Kept). k.book) (get_or-append_seam board.sessions kept [] no_session)

  old_book : (s : ℕ) → s < length board.sessions → book_at (with_session_more kept board) s ≡ book_at board s
  old_book s small = ap (λ (k : Kept). k.book) (get_or-append board.sessions (kept ∷ []) no_session s small)

  pub added_first : IsFirst (entries_of (with_session_more kept board)) (with_session_more kept board)
  added_first = record {
    connections = first.connections;
    places = length_push board.places None ∙ ap (λ n. n + 1) first.places ∙ sym (length_push board.sessions kept);
    unplaced = λ s within. elim (small_or_last s within) [
      | inl small ↦ get_or-append board.places (None ∷ []) None s (subst (λ n. s < n) (sym first.places) small) ∙ first.unplaced s small
      | inr e ↦ ap (λ n. get_or (board.places ++ None ∷ []) n None) (e ∙ sym first.places) ∙ get_or-append_seam board.places None [] None
    ];
    unbound = λ s within. elim (small_or_last s within) [
      | inl small ↦ ap bound_of (old_book s small) ∙ first.unbound s small
      | inr e ↦ ap bound_of (added_book s e) ∙ none
    ];
    books = λ s within. elim (small_or_last s within) [
      | inl small ↦ subst (λ book. IsLawful book) (sym (old_book s small)) (first.books s small)
      | inr e ↦ subst (λ book. IsLawful book) (sym (added_book s e)) lawful
    ];
    entries = λ s within. refl;
  }

-- one list of happenings behind another
pub reached_one : (happening : Happening) (old new : Board) → Happens happening old new → Reaches (happening ∷ []) old new
reached_one happening old new happened = (new, (happened, refl))

pub ended_at_once : (s k : ℕ) (body : List ℕ) (at : ℕ) (cause : Cause) (old between new : Board) → BindsTo s k body at old between → (receive (book_at old s).machine body at).end ≡ Some cause
    → EndsBound s k cause between new → BindsAndEnds s k body at cause old new
ended_at_once s k body at cause old between new binding ends leaves = record { between = between; binding = binding; ends = ends; leaves = leaves }

pub reached_further : (first second : List Happening) (old between new : Board) → Reaches first old between → Reaches second between new → Reaches (first ++ second) old new
reached_further [] second old between new reached further = subst (λ board. Reaches second board new) reached further
reached_further (happening ∷ first) second old between new reached further = (reached.0, (reached.1.0, reached_further first second reached.0 between new reached.1.1 further))

-- what the calls ask
place_of : (board : Board) (s : ℕ) (place : Option ℕ) → IsPlaced board s place → IfSome place (λ k. k < length board.connections)
place_of board s None is = tt
place_of board s (Some k) is = is.within

pub ready_place : (before : ℕ → List Entry) (board : Board) (s : ℕ) → IsReady before board → s < length board.sessions → IfSome (place_at board s) (λ k. k < length board.connections)
ready_place before board s ready within = place_of board s (place_at board s) (ready.sound.placed s within)

pub ready_plugged : (before : ℕ → List Entry) (board : Board) (s k : ℕ) → IsReady before board → s < length board.sessions → place_at board s ≡ Some k → IsPlugged board s k
ready_plugged before board s k ready within at = subst (λ place. IsPlaced board s place) at (ready.sound.placed s within)

pub ready_bound : (before : ℕ → List Entry) (board : Board) (s k : ℕ) → IsReady before board → s < length board.sessions → place_at board s ≡ Some k → IsBoundIn (book_at board s)
ready_bound before board s k ready within at = ap is_some (ready_plugged before board s k ready within at).bound

pub ready_free : (before : ℕ → List Entry) (board : Board) (s : ℕ) → IsReady before board → s < length board.sessions → place_at board s ≡ None → bound_of (book_at board s) ≡ None
ready_free before board s ready within at = subst (λ place. IsPlaced board s place) at (ready.sound.placed s within)
