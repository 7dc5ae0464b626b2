-- What happens where no library asks keeps what the journals tell of replies.
use Rattle.std.proofs.Common.{◌≡◌, ◌≢◌, inl, inr, ℕ, false, true, List, length, Option, None, Some, refl, sym, ap, subst, ◌∙◌}
use Rattle.std.proofs.lemmas.Bool.{cases_eq}
use Rattle.std.proofs.lemmas.List.{get_or-set_other}
use Rattle.std.specs.Prelude.{slice_index_or}
use Rattle.connection_core.specs.Connection.{ConnectionState}
use Rattle.connection_core.specs.Outgoing.{no_outgoing}
use Rattle.lease_core.specs.declared.messages.Notice.{Notice}
use Rattle.lease_desk.specs.Desk.{is_of_leases}
use Rattle.engine_laws.specs.libraries.Replies.{KeepsReplies, is_unasked, replies_told}
use Rattle.engine_laws.proofs.library_lemmas.Quiet.{binding_quiet, dial_quiet, end_quiet, lapse_quiet, message_quiet, shown_quiet, tick_quiet, timed_out_quiet}
use Rattle.session_book.specs.Book.{Book, Desk, with_outbox}
use Rattle.session_book.specs.Kept.{Kept}
use Rattle.session_core.specs.declared.causes.Cause.{Cause}
use Rattle.switchboard.specs.Board.{Board, DeskChanges, PlugChanges, book_at, connection_at, desk_at, desk_with, no_session, session_at, with_session}
use Rattle.switchboard.specs.Going.{GoesOnTo}
use Rattle.switchboard.specs.Happenings.{BindsTo, ConnectionChanges, EndsBound, Happening, Happens, SessionGoesOn, accepts, answers, binds, binds_and_ends, dials, ends_bound, ends_unbound, gives, lapses, prepares, receives, requests, reserves, shows, takes, ticks, times_out, writes}

-- what lease_desk and switchboard say
pub record Laws : Type 0 where
  pub desk : (s other : ℕ) (place : Option ℕ) (old new : Board) → other ≢ s → DeskChanges s place old new → book_at new other ≡ book_at old other
  pub plug : (s k other : ℕ) (place : Option ℕ) (old new : Board) → other ≢ s → PlugChanges s k place old new → book_at new other ≡ book_at old other
  pub session : (s other : ℕ) (old new : Board) → other ≢ s → new ≡ with_session s (session_at new s) old → book_at new other ≡ book_at old other
  pub goes_on : (happening : Happening) (old new : Board) → Happens happening old new → GoesOnTo old new

abbrev told_at : Board → ℕ → ℕ → List Notice
told_at board library s = replies_told library s (book_at board s).entries

-- all sessions are as they were
same_sessions : (old new : Board) → length new.sessions ≡ length old.sessions → new.sessions ≡ old.sessions → KeepsReplies old new
same_sessions old new count same = record {
  sessions = count;
  told = λ library s. ap (λ (ss : List Kept). replies_told library s (slice_index_or ss s no_session).book.entries) same;
}

-- one session goes on by no reply, and the others are as they were
one_goes_on : (s : ℕ) (old new : Board) → length new.sessions ≡ length old.sessions → ((library : ℕ) → told_at new library s ≡ told_at old library s) → ((other : ℕ) → other ≢ s → book_at new other ≡ book_at old other)
    → KeepsReplies old new
one_goes_on s old new count own others = record {
  sessions = count;
  told = λ library j. elim (cases_eq j s) [
    | inl same ↦ subst (λ n. told_at new library n ≡ told_at old library n) (sym same) (own library)
    | inr other ↦ ap (λ (b : Book). replies_told library j b.entries) (others j other)
  ];
}

-- one connection changes, and no session
of_connection : (k : ℕ) (c : ConnectionState) (old new : Board) → length new.sessions ≡ length old.sessions → ConnectionChanges k c old new → KeepsReplies old new
of_connection k c old new count changes = same_sessions old new count (ap (λ (b : Board). b.sessions) changes.others)

module _ (l : Laws) where
  -- a session goes on to a desk that tells the same
  of_desk : (s : ℕ) (desk : Desk) (old new : Board) → length new.sessions ≡ length old.sessions → desk_at new s ≡ desk → ((library : ℕ) → replies_told library s desk.book.entries ≡ told_at old library s)
      → SessionGoesOn s old new → KeepsReplies old new
  of_desk s desk old new count is same goes = one_goes_on s old new count (λ library. ap (λ (d : Desk). replies_told library s d.book.entries) is ∙ same library)
      (λ other different. l.desk s other _ old new different goes.others)

  of_book : (s : ℕ) (book : Book) (old new : Board) → length new.sessions ≡ length old.sessions → book_at new s ≡ book → ((library : ℕ) → replies_told library s book.entries ≡ told_at old library s)
      → new ≡ with_session s (session_at new s) old → KeepsReplies old new
  of_book s book old new count is same others = one_goes_on s old new count (λ library. ap (λ (b : Book). replies_told library s b.entries) is ∙ same library)
      (λ other different. l.session s other old new different others)

  -- and is bound by a Logon, or left
  bound : (s k : ℕ) (body : List ℕ) (at : ℕ) (old new : Board) → length new.sessions ≡ length old.sessions → BindsTo s k body at old new → KeepsReplies old new
  bound s k body at old new count is = one_goes_on s old new count
      (λ library. ap (λ (d : Desk). replies_told library s d.book.entries) is.desk ∙ binding_quiet library s at (connection_at old k).number body (desk_with old s (Some k)))
      (λ other different. l.plug s k other (Some k) old new different is.plugged)

  left : (s k : ℕ) (cause : Cause) (old new : Board) → length new.sessions ≡ length old.sessions → EndsBound s k cause old new → KeepsReplies old new
  left s k cause old new count is = one_goes_on s old new count
      (λ library. ap (λ (b : Book). replies_told library s b.entries) is.book ∙ end_quiet library s (connection_at old k).number (book_at old s))
      (λ other different. l.plug s k other None old new different is.unplugged)

  joined : (first second third : Board) → KeepsReplies first second → KeepsReplies second third → KeepsReplies first third
  joined first second third one two = record { sessions = two.sessions ∙ one.sessions; told = λ library s. two.told library s ∙ one.told library s }

  pub happening_keeps : (happening : Happening) (old new : Board) → is_unasked happening ≡ true → Happens happening old new → KeepsReplies old new
  happening_keeps (accepts number at) old new unasked is = same_sessions old new (l.goes_on (accepts number at) old new is).sessions (ap (λ (b : Board). b.sessions) is.connection)
  happening_keeps (dials s number at) old new unasked is = one_goes_on s old new (l.goes_on (dials s number at) old new is).sessions
      (λ library. ap (λ (d : Desk). replies_told library s d.book.entries) is.desk ∙ dial_quiet library s at number (with_outbox (book_at old s) no_outgoing))
      (λ other different. ap (λ (ss : List Kept). (slice_index_or ss other no_session).book) is.sessions
      ∙ ap (λ (k : Kept). k.book) (get_or-set_other old.sessions s other (session_at new s) no_session different))
  happening_keeps (takes k bytes) old new unasked is = of_connection k _ old new (l.goes_on (takes k bytes) old new is).sessions is.changes
  happening_keeps (gives k) old new unasked is = of_connection k _ old new (l.goes_on (gives k) old new is).sessions is.changes
  happening_keeps (binds s k body at) old new unasked is = bound s k body at old new (l.goes_on (binds s k body at) old new is).sessions is.binding
  happening_keeps (binds_and_ends s k body at cause) old new unasked is =
      let all = (l.goes_on (binds_and_ends s k body at cause) old new is).sessions in
      let last = (l.goes_on (ends_bound s k cause) is.between new is.leaves).sessions in
      joined old is.between new (bound s k body at old is.between (sym last ∙ all) is.binding) (left s k cause is.between new last is.leaves)
  happening_keeps (receives s k body at) old new unasked is =
      of_desk s _ old new (l.goes_on (receives s k body at) old new is).sessions is.desk (λ library. message_quiet library s at body (desk_at old s)) is.goes_on
  happening_keeps (answers k) old new unasked is = of_connection k _ old new (l.goes_on (answers k) old new is).sessions is
  happening_keeps (ticks s at) old new unasked is = of_desk s _ old new (l.goes_on (ticks s at) old new is).sessions is.desk (λ library. tick_quiet library s at (desk_at old s)) is.goes_on
  happening_keeps (shows s w bodies at until) old new unasked is =
      of_desk s _ old new (l.goes_on (shows s w bodies at until) old new is).sessions is.desk (λ library. shown_quiet library s at until w bodies (desk_at old s)) is.goes_on
  happening_keeps (times_out s w bodies at until) old new unasked is =
      of_desk s _ old new (l.goes_on (times_out s w bodies at until) old new is).sessions is.desk (λ library. timed_out_quiet library s at until w bodies (desk_at old s)) is.goes_on
  happening_keeps (requests s library nr from) old new unasked is = absurd cc
  happening_keeps (lapses s) old new unasked is = of_book s _ old new (l.goes_on (lapses s) old new is).sessions is.becomes (λ library. lapse_quiet library s (book_at old s)) is.others
  happening_keeps (ends_unbound k cause) old new unasked is = of_connection k _ old new (l.goes_on (ends_unbound k cause) old new is).sessions is.changes
  happening_keeps (ends_bound s k cause) old new unasked is = left s k cause old new (l.goes_on (ends_bound s k cause) old new is).sessions is
  happening_keeps (prepares s k) old new unasked is = of_connection k _ old new (l.goes_on (prepares s k) old new is).sessions is.changes
  happening_keeps (writes k n) old new unasked is = of_connection k _ old new (l.goes_on (writes k n) old new is).sessions is.changes
  happening_keeps (reserves s) old new unasked is = of_desk s _ old new (l.goes_on (reserves s) old new is).sessions is.desk (λ library. refl) is.goes_on

-- what the leases don't do asks for nothing
pub unasked : (happening : Happening) → is_of_leases happening ≡ false → is_unasked happening ≡ true
unasked (requests s library nr from) aside = absurd cc
unasked other aside = refl
