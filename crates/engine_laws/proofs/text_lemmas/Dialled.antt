-- Whatever happens, of a dialled connection it stays so what is kept of the answer to its Logon, where no piece of it is handed out and no message is heard.
use Rattle.std.proofs.Common.{◌≡◌, ◌≢◌, inl, inr, ℕ, ◌<◌, ◌++◌, true, false, List, [], ◌∷◌, get_or, length, set, Option, None, Some, refl, sym, ap, subst, ◌∙◌, arith}
use Rattle.std.proofs.lemmas.Bool.{cases_eq as same_or_other}
use Rattle.std.proofs.Math.ListN.{get_or-append}
use Rattle.std.proofs.lemmas.List.{get_or-set_other, get_or-set_same, length-set}
use Rattle.std.proofs.lemmas.Option.{same_Some}
use Rattle.connection_core.specs.Connection.{ConnectionState, IsGiven, after_end as after_cause}
use Rattle.fix_frame.specs.Cut.{CutPiece}
use Rattle.lease_core.specs.declared.entry.Entry.{Entry}
use Rattle.session_book.specs.Book.{Book, Desk}
use Rattle.session_book.specs.Kept.{Kept}
use Rattle.session_core.specs.Runs.{SameButMoments}
use Rattle.session_core.specs.State.{State}
use Rattle.session_core.specs.Tick.{after_tick}
use Rattle.session_core.specs.declared.causes.Cause.{Cause}
use Rattle.session_core.specs.declared.names.Names.{Names}
use Rattle.switchboard.specs.Board.{Board, OutboxChanges, book_at, connection_at, desk_at, no_connection, no_session, place_at}
use Rattle.switchboard.specs.Brought.{good_bodies}
use Rattle.switchboard.specs.Going.{GoesOnTo, is_coming}
use Rattle.switchboard.specs.Happenings.{BindsTo, BookChanges, ConnectionChanges, EndsBound, Happening, Happens, SessionGoesOn, accepts, answers, binds, binds_and_ends, dials, ends_bound, ends_unbound, gives, lapses, prepares, receives, requests, reserves, shows, takes, ticks, times_out, writes}
use Rattle.switchboard.specs.Ready.{IsReady}
use Rattle.switchboard.specs.Sound.{IsPlaced, IsPlugged, bound_of}
use Rattle.engine_laws.proofs.text_lemmas.Said.{ticking_phase, timeout_phase, word_phase}
use Rattle.engine_laws.proofs.text_lemmas.Standing.{none_is}
use Rattle.engine_laws.specs.texts.Answered.{DialledAreSoWith, IsDialledSo, answers_logon}

-- how one connection goes on: what is kept of an answer stays, what was handed out of it stays so, it stays bound, and where it stands it did
pub record Lasts (old new : ConnectionState) : Type 0 where
  pub dialled : new.dialled ≡ old.dialled
  pub answered : new.answered ≡ old.answered
  pub names : (s : ℕ) → old.session ≡ Some s → new.session ≡ Some s
  pub given : (pieces : List CutPiece) → IsGiven old pieces → IsGiven new pieces
  pub stands : new.cause ≡ None → old.cause ≡ None

pub lasts_itself : (c : ConnectionState) → Lasts c c
lasts_itself c = record { dialled = refl; answered = refl; names = λ s is. is; given = λ pieces is. is; stands = λ is. is }

pub lasts_further : (first second third : ConnectionState) → Lasts first second → Lasts second third → Lasts first third
lasts_further first second third one two = record {
  dialled = two.dialled ∙ one.dialled;
  answered = two.answered ∙ one.answered;
  names = λ s is. two.names s (one.names s is);
  given = λ pieces is. two.given pieces (one.given pieces is);
  stands = λ is. one.stands (two.stands is);
}

abbrev pub AllLast : Board → Board → Type 0
AllLast old new = (j : ℕ) → j < length old.connections → Lasts (connection_at old j) (connection_at new j)

same_lines : (old new : Board) → new.connections ≡ old.connections → AllLast old new
same_lines old new same j within = subst (λ cs. Lasts (connection_at old j) (get_or cs j no_connection)) (sym same) (lasts_itself (connection_at old j))

pub line_more : (c : ConnectionState) (old new : Board) → new.connections ≡ old.connections ++ c ∷ [] → AllLast old new
line_more c old new more j within =
    subst (λ x. Lasts (connection_at old j) x) (sym (ap (λ cs. get_or cs j no_connection) more ∙ get_or-append old.connections (c ∷ []) no_connection j within)) (lasts_itself (connection_at old j))

-- one connection becomes another
pub now_at : (k : ℕ) (c : ConnectionState) (old new : Board) → new.connections ≡ set old.connections k c → k < length old.connections → connection_at new k ≡ c
now_at k c old new changes within = ap (λ cs. get_or cs k no_connection) changes ∙ get_or-set_same old.connections k c no_connection within

pub beside : (k j : ℕ) (c : ConnectionState) (old new : Board) → new.connections ≡ set old.connections k c → j ≢ k → connection_at new j ≡ connection_at old j
beside k j c old new changes other = ap (λ cs. get_or cs j no_connection) changes ∙ get_or-set_other old.connections k j c no_connection other

one_line : (k : ℕ) (c : ConnectionState) (old new : Board) → new.connections ≡ set old.connections k c → Lasts (connection_at old k) c → AllLast old new
one_line k c old new changes lasts j within = elim (same_or_other j k) [
  | inl e ↦ subst (λ n. Lasts (connection_at old n) (connection_at new n)) (sym e)
      (subst (λ x. Lasts (connection_at old k) x) (sym (now_at k c old new changes (subst (λ n. n < length old.connections) e within))) lasts)
  | inr other ↦ subst (λ x. Lasts (connection_at old j) x) (sym (beside k j c old new changes other)) (lasts_itself (connection_at old j))
]

changing : (k : ℕ) (c : ConnectionState) (old new : Board) → ConnectionChanges k c old new → Lasts (connection_at old k) c → AllLast old new
changing k c old new changes lasts = one_line k c old new (ap (λ (b : Board). b.connections) changes.others) lasts

-- only what waits on a connection changes, or its session, or its end
with_out : (c : ConnectionState) (other : ConnectionState) → Lasts c (record c { out = other.out })
with_out c other = record { dialled = refl; answered = refl; names = λ s is. is; given = λ pieces is. record { so_far = is.so_far; counted = is.counted }; stands = λ is. is }

outboxes : (place : Option ℕ) (old new : Board) → OutboxChanges place old new → AllLast old new
outboxes None old new changes = same_lines old new changes
outboxes (Some k) old new changes = one_line k (record (connection_at old k) { out = (connection_at new k).out }) old new changes.0 (with_out (connection_at old k) (connection_at new k))

pub going : (s : ℕ) (old new : Board) → SessionGoesOn s old new → AllLast old new
going s old new goes = outboxes _ old new goes.others.connections

binding : (s k : ℕ) (body : List ℕ) (at : ℕ) (old new : Board) → BindsTo s k body at old new → AllLast old new
binding s k body at old new is =
    one_line k (connection_at new k) old new is.plugged.connections
    (subst (Lasts (connection_at old k)) (sym is.connection) (record {
      dialled = refl;
      answered = refl;
      names = λ t named. absurd (let none = none_is _ is.unbound in let clash : None ≡ Some t = sym none ∙ named in cc);
      given = λ pieces given. record { so_far = given.so_far; counted = given.counted };
      stands = λ stands. stands;
    }))

ended_cause : (cause : Cause) (c : ConnectionState) → (after_cause cause c).cause ≡ None → c.cause ≡ None
ended_cause cause c is = absurd (cc)

after_ending : (cause : Cause) (c : ConnectionState) → Lasts c (after_cause cause c)
after_ending cause c = record { dialled = refl; answered = refl; names = λ s is. is; given = λ pieces is. record { so_far = is.so_far; counted = is.counted }; stands = ended_cause cause c }

leaving : (s k : ℕ) (cause : Cause) (old new : Board) → EndsBound s k cause old new → AllLast old new
leaving s k cause old new is = one_line k (connection_at new k) old new is.unplugged.connections (subst (Lasts (connection_at old k)) (sym is.connection) (after_ending cause (connection_at old k)))

alone : (s : ℕ) (book : Book) (old new : Board) → BookChanges s book old new → AllLast old new
alone s book old new changes = same_lines old new (ap (λ (b : Board). b.connections) changes.others)

-- Neither does a connection come, nor is a piece of one handed out, a message heard or an answer kept.
abbrev pub IsStill : Happening → Type 0
IsStill (accepts number at) = ⊥
IsStill (dials s number at) = ⊥
IsStill (gives k) = ⊥
IsStill (receives s k body at) = ⊥
IsStill (answers k) = ⊥
IsStill _ = Unit {0}

all_last : (happening : Happening) (old new : Board) → IsStill happening → Happens happening old new → AllLast old new
all_last (accepts number at) old new still is = absurd still
all_last (dials s number at) old new still is = absurd still
all_last (gives k) old new still is = absurd still
all_last (receives s k body at) old new still is = absurd still
all_last (answers k) old new still is = absurd still
all_last (takes k bytes) old new still is = λ j within. elim (same_or_other j k) [
  | inl e ↦ subst (λ n. Lasts (connection_at old n) (connection_at new n)) (sym e) (
      let at = now_at k _ old new (ap (λ (b : Board). b.connections) is.changes.others) is.changes.within in
      record {
        dialled = ap (λ (c : ConnectionState). c.dialled) at;
        answered = ap (λ (c : ConnectionState). c.answered) at;
        names = λ s named. ap (λ (c : ConnectionState). c.session) at ∙ named;
        given = is.given;
        stands = λ stands. sym (ap (λ (c : ConnectionState). c.cause) at) ∙ stands;
      })
  | inr other ↦ subst (λ x. Lasts (connection_at old j) x) (sym (beside k j _ old new (ap (λ (b : Board). b.connections) is.changes.others) other)) (lasts_itself (connection_at old j))
]
all_last (binds s k body at) old new still is = binding s k body at old new is.binding
all_last (binds_and_ends s k body at cause) old new still is =
    let bound = is.binding in
    let count : length is.between.connections ≡ length old.connections = ap length bound.plugged.connections ∙ length-set old.connections k (connection_at is.between k) in
    λ j within. lasts_further _ _ _ (binding s k body at old is.between bound j within) (leaving s k cause is.between new is.leaves j (omega arith))
all_last (ticks s at) old new still is = going s old new is.goes_on
all_last (shows s w bodies at until) old new still is = going s old new is.goes_on
all_last (times_out s w bodies at until) old new still is = going s old new is.goes_on
all_last (requests s library nr from) old new still is = alone s _ old new is
all_last (lapses s) old new still is = alone s _ old new is
all_last (ends_unbound k cause) old new still is = changing k _ old new is.changes (after_ending cause (connection_at old k))
all_last (ends_bound s k cause) old new still is = leaving s k cause old new is
all_last (prepares s k) old new still is = changing k _ old new is.changes (with_out (connection_at old k) (connection_at new k))
all_last (writes k n) old new still is = changing k _ old new is.changes (with_out (connection_at old k) (connection_at new k))
all_last (reserves s) old new still is = going s old new is.goes_on

-- one session changes
other_book : (s t : ℕ) (x : Kept) (old new : Board) → new.sessions ≡ set old.sessions s x → t ≢ s → book_at new t ≡ book_at old t
other_book s t x old new sessions other = ap (λ (session : Kept). session.book) (ap (λ (all : List Kept). get_or all t no_session) sessions ∙ get_or-set_other old.sessions s t x no_session other)

-- the session that a connection names, where that stands, stays in its phase
abbrev pub PhasesLast : Board → Board → Type 0
PhasesLast old new = (j s : ℕ) → j < length old.connections → (connection_at old j).session ≡ Some s → (connection_at old j).dialled ≡ true → (connection_at new j).cause ≡ None → (book_at new s).machine.phase ≡ (book_at old s).machine.phase

pub connection_phase : (k s : ℕ) (c : ConnectionState) (old new : Board) → ConnectionChanges k c old new → (book_at new s).machine.phase ≡ (book_at old s).machine.phase
connection_phase k s c old new changes = ap (λ (b : Board). (book_at b s).machine.phase) changes.others

-- where another session changes
pub other_phase : (s t : ℕ) (x : Kept) (old new : Board) → new.sessions ≡ set old.sessions s x → t ≢ s → (book_at new t).machine.phase ≡ (book_at old t).machine.phase
other_phase s t x old new sessions other = ap (λ (b : Book). b.machine.phase) (other_book s t x old new sessions other)

-- where this one does
one_phase : (s t : ℕ) (x : Kept) (old new : Board) → new.sessions ≡ set old.sessions s x → (book_at new s).machine.phase ≡ (book_at old s).machine.phase → (book_at new t).machine.phase ≡ (book_at old t).machine.phase
one_phase s t x old new sessions same = elim (same_or_other t s) [
  | inl e ↦ subst (λ n. (book_at new n).machine.phase ≡ (book_at old n).machine.phase) (sym e) same
  | inr other ↦ other_phase s t x old new sessions other
]

module _ (before : ℕ → List Entry) (same : (state : State) (moment : ℕ) → SameButMoments state (after_tick state moment)) where
  -- a session that is bound to none is named by no connection that stands
  pub none_names : (board : Board) (j s : ℕ) → IsReady before board → j < length board.connections → (connection_at board j).session ≡ Some s → (connection_at board j).cause ≡ None → bound_of (book_at board s) ≡ None → ⊥
  none_names board j s ready within names stands free =
      let there = ready.sound.alone j s within names stands in
      let plugged : IsPlugged board s j = subst (λ place. IsPlaced board s place) there.1 (ready.sound.placed s there.0) in
      let clash : None ≡ Some (connection_at board j).number = sym free ∙ plugged.bound in
      absurd (cc)

  -- and one that is bound to one is named by no other that stands
  pub only_one_names : (board : Board) (j k s : ℕ) → IsReady before board → j < length board.connections → (connection_at board j).session ≡ Some s → (connection_at board j).cause ≡ None → place_at board s ≡ Some k → j ≡ k
  only_one_names board j k s ready within names stands placed = same_Some j k (sym (ready.sound.alone j s within names stands).1 ∙ placed)

  -- where it is that session that changes, none does
  free_phase : (s : ℕ) (x : Kept) (old new : Board) → IsReady before old → AllLast old new → bound_of (book_at old s) ≡ None → new.sessions ≡ set old.sessions s x → PhasesLast old new
  free_phase s x old new ready lasts free sessions j t within names dialled stands = elim (same_or_other t s) [
    | inl e ↦ absurd (none_names old j s ready within (subst (λ n. (connection_at old j).session ≡ Some n) e names) ((lasts j within).stands stands) free)
    | inr other ↦ other_phase s t x old new sessions other
  ]

  left_phase : (s k : ℕ) (cause : Cause) (old new : Board) → EndsBound s k cause old new → IsReady before old → AllLast old new → PhasesLast old new
  left_phase s k cause old new is ready lasts j t within names dialled stands = elim (same_or_other t s) [
    | inl e ↦ (
        let here : j ≡ k = only_one_names old j k s ready within (subst (λ n. (connection_at old j).session ≡ Some n) e names) ((lasts j within).stands stands) is.placed in
        let stood : (connection_at new k).cause ≡ None = subst (λ n. (connection_at new n).cause ≡ None) here stands in
        let over = ap (λ (c : ConnectionState). c.cause) is.connection in
        let clash = sym over ∙ stood in
        absurd (cc))
    | inr other ↦ other_phase s t _ old new is.unplugged.sessions other
  ]

  phases_last : (happening : Happening) (old new : Board) → IsStill happening → Happens happening old new → IsReady before old → AllLast old new → PhasesLast old new
  phases_last (accepts number at) old new still is ready lasts = absurd still
  phases_last (dials s number at) old new still is ready lasts = absurd still
  phases_last (gives k) old new still is ready lasts = absurd still
  phases_last (receives s k body at) old new still is ready lasts = absurd still
  phases_last (answers k) old new still is ready lasts = absurd still
  phases_last (takes k bytes) old new still is ready lasts = λ j t within names dialled stands. connection_phase k t _ old new is.changes
  phases_last (binds s k body at) old new still is ready lasts = free_phase s _ old new ready lasts is.binding.free is.binding.plugged.sessions
  phases_last (binds_and_ends s k body at cause) old new still is ready lasts = λ j t within names dialled stands. elim (same_or_other t s) [
    | inl e ↦ absurd (none_names old j s ready within (subst (λ n. (connection_at old j).session ≡ Some n) e names) ((lasts j within).stands stands) is.binding.free)
    | inr other ↦ other_phase s t _ is.between new is.leaves.unplugged.sessions other ∙ other_phase s t _ old is.between is.binding.plugged.sessions other
  ]
  phases_last (ticks s at) old new still is ready lasts = λ j t within names dialled stands.
      one_phase s t _ old new is.goes_on.others.sessions (ap (λ (d : Desk). d.book.machine.phase) is.desk ∙ ticking_phase same at (desk_at old s))
  phases_last (shows s w bodies at until) old new still is ready lasts = λ j t within names dialled stands.
      one_phase s t _ old new is.goes_on.others.sessions (ap (λ (d : Desk). d.book.machine.phase) is.desk ∙ word_phase at until w bodies (desk_at old s))
  phases_last (times_out s w bodies at until) old new still is ready lasts = λ j t within names dialled stands.
      one_phase s t _ old new is.goes_on.others.sessions (ap (λ (d : Desk). d.book.machine.phase) is.desk ∙ timeout_phase at until w bodies (desk_at old s))
  phases_last (requests s library nr from) old new still is ready lasts = λ j t within names dialled stands.
      one_phase s t _ old new (ap (λ (b : Board). b.sessions) is.others) (ap (λ (b : Book). b.machine.phase) is.becomes)
  phases_last (lapses s) old new still is ready lasts = λ j t within names dialled stands.
      one_phase s t _ old new (ap (λ (b : Board). b.sessions) is.others) (ap (λ (b : Book). b.machine.phase) is.becomes)
  phases_last (ends_unbound k cause) old new still is ready lasts = λ j t within names dialled stands. connection_phase k t _ old new is.changes
  phases_last (ends_bound s k cause) old new still is ready lasts = left_phase s k cause old new is ready lasts
  phases_last (prepares s k) old new still is ready lasts = λ j t within names dialled stands. connection_phase k t _ old new is.changes
  phases_last (writes k n) old new still is ready lasts = λ j t within names dialled stands. connection_phase k t _ old new is.changes
  phases_last (reserves s) old new still is ready lasts = λ j t within names dialled stands. one_phase s t _ old new is.goes_on.others.sessions (ap (λ (d : Desk). d.book.machine.phase) is.desk)

-- what is kept of a dialled connection's answer goes on
pub so_on : (in_hand : List CutPiece) (old new : Board) (c d : ConnectionState) → GoesOnTo old new → Lasts c d → (of : IsDialledSo old c in_hand)
    → (d.cause ≡ None → (book_at new of.session).machine.phase ≡ (book_at old of.session).machine.phase) → IsDialledSo new d in_hand
so_on in_hand old new c d goes lasts of phase = record {
  session = of.session;
  names = lasts.names of.session of.names;
  heart = of.heart;
  dials = (goes.same of.session).dials ∙ of.dials;
  pieces = of.pieces;
  given = lasts.given (of.pieces ++ in_hand) of.given;
  answered = lasts.answered ∙ of.answered ∙ ap (λ (n : Names). answers_logon n of.heart (good_bodies of.pieces)) (sym (goes.same of.session).names);
  waits = λ unanswered stands.
      let before = of.waits (sym lasts.answered ∙ unanswered) (lasts.stands stands) in
      (before.0, phase stands ∙ before.1);
}

-- what is known of happenings, and of the clock
pub record StillLaws (before : ℕ → List Entry) : Type 0 where
  pub ready : (happening : Happening) (old new : Board) → Happens happening old new → IsReady before old → IsReady before new
  pub goes_on : (happening : Happening) (old new : Board) → Happens happening old new → GoesOnTo old new
  pub count : (happening : Happening) (old new : Board) → is_coming happening ≡ false → Happens happening old new → length new.connections ≡ length old.connections
  pub same : (state : State) (moment : ℕ) → SameButMoments state (after_tick state moment)

module _ (before : ℕ → List Entry) (g : StillLaws before) where
  none_comes : (happening : Happening) → IsStill happening → is_coming happening ≡ false
  none_comes (accepts number at) still = absurd still
  none_comes (dials s number at) still = absurd still
  none_comes other still = refl

  -- of one connection, and of all
  pub still_one : (in_hand : List CutPiece) (happening : Happening) (old new : Board) → IsStill happening → Happens happening old new → IsReady before old → (k : ℕ) → k < length old.connections
      → (connection_at old k).dialled ≡ true → IsDialledSo old (connection_at old k) in_hand → IsDialledSo new (connection_at new k) in_hand
  still_one in_hand happening old new still is is_ready k small dialled of =
      let lasts = all_last happening old new still is in
      so_on in_hand old new (connection_at old k) (connection_at new k) (g.goes_on happening old new is) (lasts k small) of
      (λ stands. phases_last before g.same happening old new still is is_ready lasts k of.session small of.names dialled stands)

  pub still_last : (happening : Happening) (old new : Board) → IsStill happening → Happens happening old new → AllLast old new
  still_last happening old new still is = all_last happening old new still is

  pub still_so : (in_hand : ℕ → List CutPiece) (happening : Happening) (old new : Board) → IsStill happening → Happens happening old new → IsReady before old → DialledAreSoWith in_hand old → DialledAreSoWith in_hand new
  still_so in_hand happening old new still is is_ready was k within dialled =
      let small : k < length old.connections = subst (λ n. k < n) (g.count happening old new (none_comes happening still) is) within in
      let was_dialled : (connection_at old k).dialled ≡ true = sym (all_last happening old new still is k small).dialled ∙ dialled in
      still_one (in_hand k) happening old new still is is_ready k small was_dialled (was k small was_dialled)
