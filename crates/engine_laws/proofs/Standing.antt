-- Behind whatever happens a connection stands or names a session only where it did before: one that ended unbound stays so.
use Rattle.std.proofs.Common.{◌≡◌, ◌≢◌, inl, inr, ℕ, ◌<◌, ◌++◌, List, [], ◌∷◌, get_or, length, set, true, Option, None, Some, refl, sym, ap, subst, ◌∙◌}
use Rattle.std.proofs.lemmas.Bool.{cases_eq as same_or_other}
use Rattle.std.specs.Prelude.{IsNone}
use Rattle.std.proofs.Math.ListN.{get_or-append}
use Rattle.std.proofs.lemmas.List.{get_or-set_other, get_or-set_same, length-set}
use Rattle.connection_core.specs.Connection.{ConnectionState, after_end as after_cause}
use Rattle.lease_core.specs.declared.entry.Entry.{Entry}
use Rattle.session_core.specs.declared.causes.Cause.{Cause}
use Rattle.session_book.specs.Book.{Book}
use Rattle.engine_laws.specs.Account.{NamesSession, StandsOrNamesSession}
use Rattle.switchboard.specs.Board.{Board, OutboxChanges, connection_at, no_connection, place_at}
use Rattle.switchboard.specs.Going.{GoesOnTo, KeepsBytes, is_quiet}
use Rattle.switchboard.specs.Happenings.{BindsTo, BookChanges, ConnectionChanges, EndsBound, Happening, Happens, SessionGoesOn, accepts, answers, binds, binds_and_ends, dials, ends_bound, ends_unbound, gives, lapses, prepares, receives, requests, reserves, shows, takes, ticks, times_out, writes}
use Rattle.switchboard.specs.Ready.{IsReady}
use Rattle.switchboard.specs.Sound.{IsPlaced, IsPlugged}

pub none_is : {T : Type 0} (o : Option T) → IsNone o → o ≡ None
none_is None is = refl
none_is (Some x) is = absurd (cc)

pub some_none : {T : Type 0} (a : T) → Some a ≡ None → ⊥
some_none a e = (cc)

-- it stands or names a session only where it did before
abbrev pub StoodOrNamed : ConnectionState → ConnectionState → Type 0
StoodOrNamed old new = StandsOrNamesSession new → StandsOrNamesSession old

-- the same of each connection that there was
abbrev AllStoodOrNamed : Board → Board → Type 0
AllStoodOrNamed old new = (k : ℕ) → k < length old.connections → StoodOrNamed (connection_at old k) (connection_at new k)

-- a connection that is bound and ended as another one
as_before : (old new : ConnectionState) → new.cause ≡ old.cause → new.session ≡ old.session → StoodOrNamed old new
as_before old new cause session (inl stands) = inl (sym cause ∙ stands)
as_before old new cause session (inr named) = inr (record { session = named.session; names = sym session ∙ named.names })

same_lines : (old new : Board) → new.connections ≡ old.connections → AllStoodOrNamed old new
same_lines old new same k within = subst (λ cs. StoodOrNamed (connection_at old k) (get_or cs k no_connection)) (sym same) (λ does. does)

-- one connection more
line_more : (c : ConnectionState) (old new : Board) → new.connections ≡ old.connections ++ c ∷ [] → AllStoodOrNamed old new
line_more c old new more k within =
    subst (λ x. StoodOrNamed (connection_at old k) x) (sym (ap (λ cs. get_or cs k no_connection) more ∙ get_or-append old.connections (c ∷ []) no_connection k within)) (λ does. does)

-- one connection becomes another
one_line : (j : ℕ) (c : ConnectionState) (old new : Board) → new.connections ≡ set old.connections j c → StoodOrNamed (connection_at old j) c → AllStoodOrNamed old new
one_line j c old new changes was k within = elim (same_or_other k j) [
  | inl e ↦ subst (λ n. StoodOrNamed (connection_at old n) (connection_at new n)) (sym e)
      (subst (λ x. StoodOrNamed (connection_at old j) x)
      (sym (ap (λ cs. get_or cs j no_connection) changes ∙ get_or-set_same old.connections j c no_connection (subst (λ n. n < length old.connections) e within))) was)
  | inr other ↦ subst (λ x. StoodOrNamed (connection_at old k) x)
      (sym (ap (λ cs. get_or cs k no_connection) changes ∙ get_or-set_other old.connections j k c no_connection other)) (λ does. does)
]

changing : (k : ℕ) (c : ConnectionState) (old new : Board) → ConnectionChanges k c old new → StoodOrNamed (connection_at old k) c → AllStoodOrNamed old new
changing k c old new changes was = one_line k c old new (ap (λ (b : Board). b.connections) changes.others) was

outboxes : (place : Option ℕ) (old new : Board) → OutboxChanges place old new → AllStoodOrNamed old new
outboxes None old new changes = same_lines old new changes
outboxes (Some k) old new changes =
    one_line k (record (connection_at old k) { out = (connection_at new k).out }) old new changes.0
    (as_before (connection_at old k) (record (connection_at old k) { out = (connection_at new k).out }) refl refl)

going : (s : ℕ) (old new : Board) → SessionGoesOn s old new → AllStoodOrNamed old new
going s old new goes = outboxes (place_at old s) old new goes.others.connections

alone : (s : ℕ) (book : Book) (old new : Board) → BookChanges s book old new → AllStoodOrNamed old new
alone s book old new changes = same_lines old new (ap (λ (b : Board). b.connections) changes.others)

binding : (s k : ℕ) (body : List ℕ) (at : ℕ) (old new : Board) → BindsTo s k body at old new → AllStoodOrNamed old new
binding s k body at old new is = one_line k (connection_at new k) old new is.plugged.connections (λ does. inl (none_is _ is.stands))

-- the one that ends named the session
leaving : (s k : ℕ) (cause : Cause) (old new : Board) → EndsBound s k cause old new → NamesSession (connection_at old k) → AllStoodOrNamed old new
leaving s k cause old new is named = one_line k (connection_at new k) old new is.unplugged.connections (λ does. inr named)

-- one that ended stands no longer
ended : (cause : Cause) (c : ConnectionState) → StoodOrNamed c (after_cause cause c)
ended cause c (inl stands) = absurd (some_none _ stands)
ended cause c (inr named) = inr (record { session = named.session; names = named.names })

-- the session that is bound to a connection is the one that this names
pub plugged : (before : ℕ → List Entry) (s k : ℕ) (board : Board) → IsReady before board → s < length board.sessions → place_at board s ≡ Some k → IsPlugged board s k
plugged before s k board ready within placed = subst (λ place. IsPlaced board s place) placed (ready.sound.placed s within)

pub named : (before : ℕ → List Entry) (s k : ℕ) (board : Board) → IsReady before board → s < length board.sessions → place_at board s ≡ Some k → NamesSession (connection_at board k)
named before s k board ready within placed = record { session = s; names = (plugged before s k board ready within placed).names }

pub stood_or_named : (before : ℕ → List Entry) (happening : Happening) (old new : Board) → Happens happening old new → IsReady before old → AllStoodOrNamed old new
stood_or_named before (accepts number at) old new is ready = line_more _ old new (ap (λ (b : Board). b.connections) is.connection)
stood_or_named before (dials s number at) old new is ready = line_more _ old new is.connection
stood_or_named before (takes k bytes) old new is ready = changing k _ old new is.changes (as_before _ _ refl refl)
stood_or_named before (gives k) old new is ready = changing k _ old new is.changes (as_before _ _ refl refl)
stood_or_named before (binds s k body at) old new is ready = binding s k body at old new is.binding
stood_or_named before (binds_and_ends s k body at cause) old new is ready = λ i within does.
    let bound = is.binding in
    let count : length is.between.connections ≡ length old.connections = ap length bound.plugged.connections ∙ length-set old.connections k (connection_at is.between k) in
    let names : (connection_at is.between k).session ≡ Some s = ap (λ (c : ConnectionState). c.session) bound.connection in
    binding s k body at old is.between bound i within
    (leaving s k cause is.between new is.leaves (record { session = s; names = names }) i (subst (λ n. i < n) (sym count) within) does)
stood_or_named before (receives s k body at) old new is ready = going s old new is.goes_on
stood_or_named before (answers k) old new is ready = changing k _ old new is (as_before _ _ refl refl)
stood_or_named before (ticks s at) old new is ready = going s old new is.goes_on
stood_or_named before (shows s w bodies at until) old new is ready = going s old new is.goes_on
stood_or_named before (times_out s w bodies at until) old new is ready = going s old new is.goes_on
stood_or_named before (requests s library nr from) old new is ready = alone s _ old new is
stood_or_named before (lapses s) old new is ready = alone s _ old new is
stood_or_named before (ends_unbound k cause) old new is ready = changing k _ old new is.changes (ended cause (connection_at old k))
stood_or_named before (ends_bound s k cause) old new is ready = leaving s k cause old new is (named before s k old ready is.within is.placed)
stood_or_named before (prepares s k) old new is ready = changing k _ old new is.changes (as_before _ _ refl refl)
stood_or_named before (writes k n) old new is ready = changing k _ old new is.changes (as_before _ _ refl refl)
stood_or_named before (reserves s) old new is ready = going s old new is.goes_on

-- one that is refused does neither any longer
pub does_neither : (k : ℕ) (cause : Cause) (old new : Board) → Happens (ends_unbound k cause) old new → StandsOrNamesSession (connection_at new k) → ⊥
does_neither k cause old new is does =
    let becomes : connection_at new k ≡ after_cause cause (connection_at old k) =
    ap (λ (b : Board). get_or b.connections k no_connection) is.changes.others ∙ get_or-set_same old.connections k (after_cause cause (connection_at old k)) no_connection is.changes.within in
    elim does [
      | inl stands ↦ some_none _ (sym (ap (λ (c : ConnectionState). c.cause) becomes) ∙ stands)
      | inr other ↦ some_none _ (sym other.names ∙ ap (λ (c : ConnectionState). c.session) becomes ∙ none_is _ is.unbound)
    ]

-- the bytes of this connection neither come nor are cut
abbrev pub LeavesBytes : Happening → ℕ → Type 0
LeavesBytes (takes k bytes) j = j ≢ k
LeavesBytes (gives k) j = j ≢ k
LeavesBytes _ j = Unit {0}

-- of a connection that another one becomes what is held stays
held_apart : (k : ℕ) (c : ConnectionState) (old new : Board) → ConnectionChanges k c old new → (j : ℕ) → j ≢ k → (connection_at new j).held ≡ (connection_at old j).held
held_apart k c old new changes j other =
    ap (λ (b : Board). (get_or b.connections j no_connection).held) changes.others ∙ ap (λ (x : ConnectionState). x.held) (get_or-set_other old.connections k j c no_connection other)

held_changing : (k : ℕ) (c : ConnectionState) (old new : Board) → ConnectionChanges k c old new → c.held ≡ (connection_at old k).held → (j : ℕ) → (connection_at new j).held ≡ (connection_at old j).held
held_changing k c old new changes same j = elim (same_or_other j k) [
  | inl e ↦ subst (λ n. (connection_at new n).held ≡ (connection_at old n).held) (sym e)
      (ap (λ (b : Board). (get_or b.connections k no_connection).held) changes.others
      ∙ ap (λ (x : ConnectionState). x.held) (get_or-set_same old.connections k c no_connection changes.within)
      ∙ same)
  | inr other ↦ held_apart k c old new changes j other
]

-- one that had a cause has it
stood : (old new : Option Cause) → ((cause : Cause) → old ≡ Some cause → new ≡ Some cause) → new ≡ None → old ≡ None
stood None new ended none = refl
stood (Some cause) new ended none = absurd (some_none cause (sym (ended cause refl) ∙ none))

-- a connection goes on with what is held of it
pub record Follows (old new : ConnectionState) : Type 0 where
  pub does : StoodOrNamed old new
  pub stands : new.cause ≡ None → old.cause ≡ None
  pub held : new.held ≡ old.held

module _ (goes_on : (happening : Happening) (old new : Board) → Happens happening old new → GoesOnTo old new)
    (quiet : (before : ℕ → List Entry) (happening : Happening) (old new : Board) → is_quiet happening ≡ true → Happens happening old new → IsReady before old → (k : ℕ) → k < length old.connections
    → KeepsBytes (connection_at old k) (connection_at new k)) where
  held_stays : (before : ℕ → List Entry) (happening : Happening) (old new : Board) → Happens happening old new → IsReady before old → (k : ℕ) → k < length old.connections → LeavesBytes happening k
      → (connection_at new k).held ≡ (connection_at old k).held
  held_stays before (takes j bytes) old new is ready k within other = held_apart j _ old new is.changes k other
  held_stays before (gives j) old new is ready k within other = held_apart j _ old new is.changes k other
  held_stays before (writes j n) old new is ready k within other = held_changing j _ old new is.changes refl k
  held_stays before happening old new is ready k within other = (quiet before happening old new refl is ready k within).held

  pub follows : (before : ℕ → List Entry) (happening : Happening) (old new : Board) → Happens happening old new → IsReady before old → (k : ℕ) → k < length old.connections → LeavesBytes happening k
      → Follows (connection_at old k) (connection_at new k)
  follows before happening old new is ready k within leaves =
      let same = (goes_on happening old new is).each k within in
      record {
        does = stood_or_named before happening old new is ready k within;
        stands = stood (connection_at old k).cause (connection_at new k).cause same.ended;
        held = held_stays before happening old new is ready k within leaves;
      }
