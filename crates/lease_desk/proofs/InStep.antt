-- Sessions and seat stay in step.
use Rattle.std.proofs.Common.{◌≡◌, ◌≢◌, ◌⊎◌, inl, inr, ℕ, zero, suc, ◌<◌, ◌≤◌, List, [], ◌∷◌, ◌++◌, length, get_or, set, Option, None, Some, refl, sym, ap, subst, ◌∙◌, arith}
use Rattle.std.proofs.lemmas.List.{get_or-set_other, length-set}
use Rattle.std.specs.Prelude.{IfSome}
use Rattle.lease_core.specs.State.{State, state_after, state_of}
use Rattle.lease_core.specs.Steps.{request_entry, why_refused}
use Rattle.lease_core.specs.declared.entry.Entry.{Entry}
use Rattle.lease_core.specs.declared.entry.Why.{Why}
use Rattle.lease_core.specs.declared.limits.TheConstants.{MOST_LEASES}
use Rattle.lease_core.specs.Lines.{granted_line, lines_after_reply, lines_of}
use Rattle.lease_core.specs.declared.lease.Line.{Line}
use Rattle.lease_core.specs.declared.messages.Reply.{Reply}
use Rattle.lease_core.specs.declared.messages.Reply.TheVariants.{Granted, Refused}
use Rattle.lease_words.specs.Sees.{after_grant}
use Rattle.lease_words.specs.declared.view.EngineSession.{EngineSession}
use Rattle.lease_words.specs.Views.{EngineView, engine_at, no_engine_session, pending, with_engine_at}
use Rattle.switchboard.specs.Acts.{after_request}
use Rattle.switchboard.specs.Book.{Book}
use Rattle.switchboard.specs.Kept.{Kept}
use Rattle.switchboard.specs.Board.{Board, DeskChanges, book_at, no_session, session_at, with_session}
use Rattle.switchboard.specs.Sound.{IsSound, bound_of}
use Rattle.lease_desk.specs.Desk.{Agrees, IsInStep}

pub same_or_other : (i j : ℕ) → (i ≡ j) ⊎ (i ≢ j)
same_or_other zero zero = inl refl
same_or_other zero (suc j) = inr (λ e. absurd (omega arith))
same_or_other (suc i) zero = inr (λ e. absurd (omega arith))
same_or_other (suc i) (suc j) = elim (same_or_other i j) [ inl e ↦ inl (ap suc e) | inr n ↦ inr (λ e. n (omega arith)) ]

-- of another session neither book nor seat changed
other_agrees : (old new : Board) (seat : EngineView) (s j : ℕ) (known : EngineSession) → j ≢ s → book_at new j ≡ book_at old j → Agrees old seat j → Agrees new (with_engine_at seat s known) j
other_agrees old new seat s j known other same agrees =
    let there : engine_at (with_engine_at seat s known) j ≡ engine_at seat j = get_or-set_other seat.knows.sessions s j known no_engine_session other in
    record {
      lines = ap (λ (b : Book). lines_of b.entries) same ∙ agrees.lines ∙ ap (λ (es : EngineSession). es.lines) (sym there);
      taken = ap pending there ∙ agrees.taken;
      published = (
          let seen : (engine_at (with_engine_at seat s known) j).published ≡ (engine_at seat j).published = ap (λ (es : EngineSession). es.published) there in
          let grown : length (book_at new j).inbound ≡ length (book_at old j).inbound = ap (λ (b : Book). length b.inbound) same in
          let was = agrees.published in
          omega arith
          );
    }

module _ (s : ℕ) (old new : Board) (seat : EngineView) (known : EngineSession) (count : length new.sessions ≡ length old.sessions) (others : (j : ℕ) → j ≢ s → book_at new j ≡ book_at old j) (leases : (book_at new s).leases ≡ (book_at old s).leases) (agrees : Agrees new (with_engine_at seat s known) s) (sound : IsSound new) where
  one_changes : IsInStep old seat → IsInStep new (with_engine_at seat s known)
  one_changes was = record {
    sound = sound;
    agree = λ j small. elim (same_or_other j s) [
      | inl e ↦ subst (λ n. Agrees new (with_engine_at seat s known) n) (sym e) agrees
      | inr other ↦ other_agrees old new seat s j known other (others j other) (was.agree j (subst (λ n. j < n) count small))
    ];
    few = λ j small. elim (same_or_other j s) [
      | inl e ↦ (let within : s < length old.sessions = subst (λ n. s < n) count (subst (λ n. n < length new.sessions) e small) in
          subst (λ n. n ≤ MOST_LEASES) (sym (ap (λ n. (book_at new n).leases) e ∙ leases)) (was.few s within))
      | inr other ↦ subst (λ (b : Book). b.leases ≤ MOST_LEASES) (sym (others j other)) (was.few j (subst (λ n. j < n) count small))
    ];
  }

pub desk_others : (s j : ℕ) (place : Option ℕ) (old new : Board) → DeskChanges s place old new → j ≢ s → book_at new j ≡ book_at old j
desk_others s j place old new changes other =
    ap (λ (sessions : List Kept). (get_or sessions j no_session).book) changes.sessions ∙ ap (λ (k : Kept). k.book) (get_or-set_other old.sessions s j (session_at new s) no_session other)

-- a session's desk and what the seat knows of it change
pub desk_in_step : (s : ℕ) (place : Option ℕ) (old new : Board) (seat new_seat : EngineView) (known : EngineSession) → DeskChanges s place old new → new_seat ≡ with_engine_at seat s known
    → (book_at new s).leases ≡ (book_at old s).leases → Agrees new new_seat s → (IsSound old → IsSound new) → IsInStep old seat → IsInStep new new_seat
desk_in_step s place old new seat new_seat known changes seat_is leases agrees sound was =
    subst (IsInStep new) (sym seat_is)
    (one_changes s old new seat known (ap (λ (sessions : List Kept). length sessions) changes.sessions ∙ length-set old.sessions s (session_at new s)) (λ j other. desk_others s j place old new changes other) leases
    (subst (λ v. Agrees new v s) seat_is agrees) (sound was.sound) was)

-- a session alone and what the seat knows of it change
pub session_in_step : (s : ℕ) (old new : Board) (seat new_seat : EngineView) (known : EngineSession) → new ≡ with_session s (session_at new s) old → new_seat ≡ with_engine_at seat s known
    → (book_at new s).leases ≡ (book_at old s).leases → Agrees new new_seat s → (IsSound old → IsSound new) → IsInStep old seat → IsInStep new new_seat
session_in_step s old new seat new_seat known changes seat_is leases agrees sound was =
    let sessions : new.sessions ≡ set old.sessions s (session_at new s) = ap (λ (b : Board). b.sessions) changes in
    subst (IsInStep new) (sym seat_is)
    (one_changes s old new seat known (ap (λ (xs : List Kept). length xs) sessions ∙ length-set old.sessions s (session_at new s))
    (λ j other. ap (λ (xs : List Kept). (get_or xs j no_session).book) sessions ∙ ap (λ (k : Kept). k.book) (get_or-set_other old.sessions s j (session_at new s) no_session other)) leases
    (subst (λ v. Agrees new v s) seat_is agrees) (sound was.sound) was)

pub within_of : (place : Option ℕ) (n : ℕ) → IfSome place (λ k. k < n) → (k : ℕ) → place ≡ Some k → k < n
within_of place n within k is = subst (λ p. IfSome p (λ j. j < n)) is within

-- a request's entry binds the session to nothing else
asked_bound : (s : State) (library nr from : ℕ) (why : Option Why) → (state_after s (request_entry s library nr from why)).bound ≡ s.bound
asked_bound s library nr from None = refl
asked_bound s library nr from (Some why) = refl

pub request_bound : ((entries : List Entry) (e : Entry) → state_of (entries ++ e ∷ []) ≡ state_after (state_of entries) e) → (library nr from : ℕ) (book : Book) → bound_of (after_request library nr from book) ≡ bound_of book
request_bound decide library nr from book =
    let s = state_of book.entries in
    let why = why_refused book.leases s library from in
    ap (λ (t : State). t.bound) (decide book.entries (request_entry s library nr from why)) ∙ asked_bound s library nr from why

-- a granted session agrees with the seat that made the grant
pub granted_agrees : (s library lease start : ℕ) (old new : Board) (seat : EngineView) (es : EngineSession) (reply : Reply) → reply ≡ Granted lease start → lines_of (book_at old s).entries ≡ es.lines
    → es.published ≤ length (book_at old s).inbound → lines_of (book_at new s).entries ≡ lines_after_reply (lines_of (book_at old s).entries) library reply
    → length (book_at new s).inbound ≡ length (book_at old s).inbound → engine_at seat s ≡ after_grant es library → pending (engine_at seat s) ≡ 0 → Agrees new seat s
granted_agrees s library lease start old new seat es reply is same small told grown known none = record {
  lines = told ∙ ap (lines_after_reply (lines_of (book_at old s).entries) library) is ∙ ap (λ (lines : List Line). lines ++ granted_line library ∷ []) same ∙ sym (ap (λ (e : EngineSession). e.lines) known);
  taken = none;
  published = (let published : (engine_at seat s).published ≡ es.published = ap (λ (e : EngineSession). e.published) known in omega arith);
}

pub refused_agrees : (s library : ℕ) (old new : Board) (seat : EngineView) (reply : Reply) (why : Why) → reply ≡ Refused why → Agrees old seat s
    → lines_of (book_at new s).entries ≡ lines_after_reply (lines_of (book_at old s).entries) library reply → length (book_at new s).inbound ≡ length (book_at old s).inbound → Agrees new seat s
refused_agrees s library old new seat reply why is agrees told grown = record {
  lines = told ∙ ap (lines_after_reply (lines_of (book_at old s).entries) library) is ∙ agrees.lines;
  taken = agrees.taken;
  published = (let was = agrees.published in omega arith);
}
