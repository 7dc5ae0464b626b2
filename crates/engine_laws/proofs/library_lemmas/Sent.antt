-- What the leases don't do sends nothing for a library, and leaves the lines of the leases as they are.
use Rattle.std.proofs.Common.{◌≡◌, ◌≢◌, inl, inr, ℕ, ◌<◌, false, List, [], ◌∷◌, length, Option, None, Some, refl, sym, ap, subst, ◌∙◌}
use Rattle.std.proofs.lemmas.Bool.{cases_eq}
use Rattle.std.proofs.lemmas.List.{get_or-set_other}
use Rattle.std.proofs.lemmas.List.Elements.{All-head, All-tail}
use Rattle.std.specs.List.{All}
use Rattle.std.specs.Prelude.{slice_index_or}
use Rattle.connection_core.specs.Connection.{ConnectionState}
use Rattle.connection_core.specs.Outgoing.{no_outgoing}
use Rattle.lease_core.specs.Lines.{lines_of}
use Rattle.lease_core.specs.declared.entry.Entry.{Entry}
use Rattle.lease_desk.specs.Desk.{is_of_leases}
use Rattle.message_log.specs.declared.entry.OutEntry.{OutEntry}
use Rattle.session_book.specs.Acts.{after_binding, after_dial, after_end, after_lapse, after_message, after_ticking}
use Rattle.session_book.specs.Book.{Book, Desk, with_outbox}
use Rattle.session_book.specs.Kept.{IsBook, Kept}
use Rattle.session_book.specs.Sends.{AreSendsOf}
use Rattle.session_core.specs.declared.causes.Cause.{Cause}
use Rattle.switchboard.specs.Board.{Board, DeskChanges, PlugChanges, book_at, connection_at, desk_at, desk_with, no_session, place_at, session_at, with_session}
use Rattle.switchboard.specs.Going.{GoesOnTo}
use Rattle.switchboard.specs.Happenings.{BindsTo, ConnectionChanges, EndsBound, Happening, Happens, Reaches, SessionGoesOn, accepts, answers, binds, binds_and_ends, dials, ends_bound, ends_unbound, gives, lapses, prepares, receives, requests, reserves, shows, takes, ticks, times_out, writes}
use Rattle.switchboard.specs.Ready.{IsReady}

-- The lines are as they were, and so are the sends of each library.
pub record KeepsSends (old new : Book) : Type 0 where
  pub lines : lines_of new.entries ≡ lines_of old.entries
  pub sends : (library : ℕ) (before : List Entry) (sends : List OutEntry) → AreSendsOf library before sends old → AreSendsOf library before sends new

-- and of all sessions
pub record BooksKeepSends (old new : Board) : Type 0 where
  pub sessions : length new.sessions ≡ length old.sessions
  pub books : (s : ℕ) → KeepsSends (book_at old s) (book_at new s)

-- what the crates below say
pub record Laws : Type 0 where
  pub message : (at : ℕ) (body : List ℕ) (desk : Desk) → IsBook desk.book → KeepsSends desk.book (after_message at body desk).book
  pub tick : (at : ℕ) (desk : Desk) → IsBook desk.book → KeepsSends desk.book (after_ticking at desk).book
  pub bind : (c at : ℕ) (body : List ℕ) (desk : Desk) → IsBook desk.book → KeepsSends desk.book (after_binding at c body desk).book
  pub dial : (c at : ℕ) (desk : Desk) → IsBook desk.book → KeepsSends desk.book (after_dial at c desk).book
  pub leave : (c : ℕ) (book : Book) → KeepsSends book (after_end c book)
  pub lapse : (book : Book) → KeepsSends book (after_lapse book)
  pub desk : (s other : ℕ) (place : Option ℕ) (old new : Board) → other ≢ s → DeskChanges s place old new → book_at new other ≡ book_at old other
  pub plug : (s k other : ℕ) (place : Option ℕ) (old new : Board) → other ≢ s → PlugChanges s k place old new → book_at new other ≡ book_at old other
  pub session : (s other : ℕ) (old new : Board) → other ≢ s → new ≡ with_session s (session_at new s) old → book_at new other ≡ book_at old other
  pub goes_on : (happening : Happening) (old new : Board) → Happens happening old new → GoesOnTo old new
  pub ready : (before : ℕ → List Entry) (happening : Happening) (old new : Board) → Happens happening old new → IsReady before old → IsReady before new

keeps_itself : (book : Book) → KeepsSends book book
keeps_itself book = record { lines = refl; sends = λ library before sends are. are }

keeps_further : (first second third : Book) → KeepsSends first second → KeepsSends second third → KeepsSends first third
keeps_further first second third one two = record { lines = two.lines ∙ one.lines; sends = λ library before sends are. two.sends library before sends (one.sends library before sends are) }

-- all sessions are as they were
same_sessions : (old new : Board) → length new.sessions ≡ length old.sessions → new.sessions ≡ old.sessions → BooksKeepSends old new
same_sessions old new count same = record { sessions = count; books = λ s. subst (λ (ss : List Kept). KeepsSends (book_at old s) (slice_index_or ss s no_session).book) (sym same) (keeps_itself (book_at old s)) }

-- one session goes on so, and the others are as they were
pub one_goes_on : (s : ℕ) (old new : Board) → length new.sessions ≡ length old.sessions → KeepsSends (book_at old s) (book_at new s) → ((other : ℕ) → other ≢ s → book_at new other ≡ book_at old other) → BooksKeepSends old new
one_goes_on s old new count own others = record {
  sessions = count;
  books = λ j. elim (cases_eq j s) [
    | inl same ↦ subst (λ n. KeepsSends (book_at old n) (book_at new n)) (sym same) own
    | inr other ↦ subst (KeepsSends (book_at old j)) (sym (others j other)) (keeps_itself (book_at old j))
  ];
}

joined : (first second third : Board) → BooksKeepSends first second → BooksKeepSends second third → BooksKeepSends first third
joined first second third one two = record { sessions = two.sessions ∙ one.sessions; books = λ s. keeps_further (book_at first s) (book_at second s) (book_at third s) (one.books s) (two.books s) }

unchanged : (board : Board) → BooksKeepSends board board
unchanged board = record { sessions = refl; books = λ s. keeps_itself (book_at board s) }

-- one connection changes, and no session
of_connection : (k : ℕ) (c : ConnectionState) (old new : Board) → length new.sessions ≡ length old.sessions → ConnectionChanges k c old new → BooksKeepSends old new
of_connection k c old new count changes = same_sessions old new count (ap (λ (b : Board). b.sessions) changes.others)

module _ (l : Laws) where
  -- a session goes on to a desk that has the same sends
  of_desk : (s : ℕ) (desk : Desk) (old new : Board) → length new.sessions ≡ length old.sessions → desk_at new s ≡ desk → KeepsSends (book_at old s) desk.book → SessionGoesOn s old new → BooksKeepSends old new
  of_desk s desk old new count is keeps goes = one_goes_on s old new count (subst (λ (d : Desk). KeepsSends (book_at old s) d.book) (sym is) keeps) (λ other different. l.desk s other (place_at old s) old new different goes.others)

  of_book : (s : ℕ) (book : Book) (old new : Board) → length new.sessions ≡ length old.sessions → book_at new s ≡ book → KeepsSends (book_at old s) book → new ≡ with_session s (session_at new s) old → BooksKeepSends old new
  of_book s book old new count is keeps others = one_goes_on s old new count (subst (KeepsSends (book_at old s)) (sym is) keeps) (λ other different. l.session s other old new different others)

  -- room is made for a session
  room_made : (s : ℕ) (old new : Board) → Happens (reserves s) old new → BooksKeepSends old new
  room_made s old new is = of_desk s (desk_at old s) old new (l.goes_on (reserves s) old new is).sessions is.desk (keeps_itself (book_at old s)) is.goes_on

  left : (s k : ℕ) (cause : Cause) (old new : Board) → length new.sessions ≡ length old.sessions → EndsBound s k cause old new → BooksKeepSends old new
  left s k cause old new count is = one_goes_on s old new count (subst (KeepsSends (book_at old s)) (sym is.book) (l.leave (connection_at old k).number (book_at old s)))
      (λ other different. l.plug s k other None old new different is.unplugged)

  module _ (before : ℕ → List Entry) where
    is_book : (s : ℕ) (board : Board) → IsReady before board → s < length board.sessions → IsBook (book_at board s)
    is_book s board ready small = (ready.books s small).is_book

    bound : (s k : ℕ) (body : List ℕ) (at : ℕ) (old new : Board) → IsReady before old → length new.sessions ≡ length old.sessions → BindsTo s k body at old new → BooksKeepSends old new
    bound s k body at old new ready count is = one_goes_on s old new count
        (subst (λ (d : Desk). KeepsSends (book_at old s) d.book) (sym is.desk) (l.bind (connection_at old k).number at body (desk_with old s (Some k)) (is_book s old ready is.within)))
        (λ other different. l.plug s k other (Some k) old new different is.plugged)

    pub happening_keeps : (happening : Happening) (old new : Board) → is_of_leases happening ≡ false → Happens happening old new → IsReady before old → BooksKeepSends old new
    happening_keeps (accepts number at) old new aside is ready = same_sessions old new (l.goes_on (accepts number at) old new is).sessions (ap (λ (b : Board). b.sessions) is.connection)
    happening_keeps (dials s number at) old new aside is ready = one_goes_on s old new (l.goes_on (dials s number at) old new is).sessions
        (subst (λ (d : Desk). KeepsSends (book_at old s) d.book) (sym is.desk) (l.dial number at (with_outbox (book_at old s) no_outgoing) (is_book s old ready is.within)))
        (λ other different. ap (λ (ss : List Kept). (slice_index_or ss other no_session).book) is.sessions
        ∙ ap (λ (k : Kept). k.book) (get_or-set_other old.sessions s other (session_at new s) no_session different))
    happening_keeps (takes k bytes) old new aside is ready = of_connection k _ old new (l.goes_on (takes k bytes) old new is).sessions is.changes
    happening_keeps (gives k) old new aside is ready = of_connection k _ old new (l.goes_on (gives k) old new is).sessions is.changes
    happening_keeps (binds s k body at) old new aside is ready = bound s k body at old new ready (l.goes_on (binds s k body at) old new is).sessions is.binding
    happening_keeps (binds_and_ends s k body at cause) old new aside is ready =
        let all = (l.goes_on (binds_and_ends s k body at cause) old new is).sessions in
        let last = (l.goes_on (ends_bound s k cause) is.between new is.leaves).sessions in
        joined old is.between new (bound s k body at old is.between ready (sym last ∙ all) is.binding) (left s k cause is.between new last is.leaves)
    happening_keeps (receives s k body at) old new aside is ready =
        of_desk s _ old new (l.goes_on (receives s k body at) old new is).sessions is.desk (l.message at body (desk_at old s) (is_book s old ready is.goes_on.within)) is.goes_on
    happening_keeps (answers k) old new aside is ready = of_connection k _ old new (l.goes_on (answers k) old new is).sessions is
    happening_keeps (ticks s at) old new aside is ready =
        of_desk s _ old new (l.goes_on (ticks s at) old new is).sessions is.desk (l.tick at (desk_at old s) (is_book s old ready is.goes_on.within)) is.goes_on
    happening_keeps (shows s w bodies at until) old new aside is ready = absurd cc
    happening_keeps (times_out s w bodies at until) old new aside is ready = absurd cc
    happening_keeps (requests s library nr from) old new aside is ready = absurd cc
    happening_keeps (lapses s) old new aside is ready = of_book s _ old new (l.goes_on (lapses s) old new is).sessions is.becomes (l.lapse (book_at old s)) is.others
    happening_keeps (ends_unbound k cause) old new aside is ready = of_connection k _ old new (l.goes_on (ends_unbound k cause) old new is).sessions is.changes
    happening_keeps (ends_bound s k cause) old new aside is ready = left s k cause old new (l.goes_on (ends_bound s k cause) old new is).sessions is
    happening_keeps (prepares s k) old new aside is ready = of_connection k _ old new (l.goes_on (prepares s k) old new is).sessions is.changes
    happening_keeps (writes k n) old new aside is ready = of_connection k _ old new (l.goes_on (writes k n) old new is).sessions is.changes
    happening_keeps (reserves s) old new aside is ready = room_made s old new is

    -- one happening after another
    pub run_keeps : (happenings : List Happening) (old new : Board) → All (λ happening. is_of_leases happening ≡ false) happenings → Reaches happenings old new → IsReady before old → IsReady before new × BooksKeepSends old new
    run_keeps [] old new all same ready = (subst (IsReady before) (sym same) ready, subst (BooksKeepSends old) (sym same) (unchanged old))
    run_keeps (happening ∷ happenings) old new all reaches ready =
        let aside = λ (h : Happening). is_of_leases h ≡ false in
        let between = reaches.0 in
        let one = happening_keeps happening old between (All-head aside happening happenings all) reaches.1.0 ready in
        let rest = run_keeps happenings between new (All-tail aside happening happenings all) reaches.1.1 (l.ready before happening old between reaches.1.0 ready) in
        (rest.0, joined old between new one rest.1)
