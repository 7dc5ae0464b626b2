-- Where nothing comes, is cut or written, the bytes of each connection stay, and those of one that has ended stay in any case; and connections come only
-- where they are accepted or dialled.
use Rattle.std.proofs.Common.{◌≡◌, ℕ, ◌<◌, List, [], ◌∷◌, length, true, false, Option, None, Some, IsNone, refl, sym, ap, subst, ◌∙◌, arith}
use Rattle.std.proofs.lemmas.List.{length-set}
use Rattle.connection_core.specs.Connection.{ConnectionState, after_end as after_cause, fresh, fresh_dial}
use Rattle.session_core.specs.declared.causes.Cause.{Cause}
use Rattle.switchboard.specs.Board.{Board, OutboxChanges, connection_at, place_at}
use Rattle.switchboard.specs.Going.{IsHeldAsBefore, is_coming, is_quiet}
use Rattle.switchboard.specs.Happenings.{BindsTo, BookChanges, ConnectionChanges, EndsBound, Happening, Happens, Reaches, SessionGoesOn, accepts, answers, binds, binds_and_ends, dials, ends_bound, ends_unbound, gives, lapses, prepares, receives, requests, reserves, shows, takes, ticks, times_out, writes}
use Rattle.switchboard.proofs.Changes.{none_is}
use Rattle.switchboard.proofs.Going.{GoingLaws, LinesGoOn, change_lines, happened, line_more, lines_further, one_line, outbox_lines, same_lines}
use Rattle.switchboard.proofs.Sounds.{none_some}

held_still : (c : ConnectionState) → IsHeldAsBefore c c
held_still c = record { taken = refl; held = refl; garbled = refl }

held_further : (a b c : ConnectionState) → IsHeldAsBefore a b → IsHeldAsBefore b c → IsHeldAsBefore a c
held_further a b c one two = record { taken = two.taken ∙ one.taken; held = two.held ∙ one.held; garbled = two.garbled ∙ one.garbled }

abbrev AreHeldAsBefore : Board → Board → Type 0
AreHeldAsBefore old new = LinesGoOn IsHeldAsBefore old new

going_holds : (s : ℕ) (old new : Board) → SessionGoesOn s old new → AreHeldAsBefore old new
going_holds s old new goes = outbox_lines IsHeldAsBefore held_still (place_at old s) old new goes.others.connections (λ k at. record { taken = refl; held = refl; garbled = refl })

binding_holds : (s k : ℕ) (body : List ℕ) (at : ℕ) (old new : Board) → BindsTo s k body at old new → AreHeldAsBefore old new
binding_holds s k body at old new is =
    one_line IsHeldAsBefore held_still k (connection_at new k) old new is.plugged.connections
    (subst (λ (c : ConnectionState). IsHeldAsBefore (connection_at old k) c) (sym is.connection) (record { taken = refl; held = refl; garbled = refl }))

leaving_holds : (s k : ℕ) (cause : Cause) (old new : Board) → EndsBound s k cause old new → AreHeldAsBefore old new
leaving_holds s k cause old new is =
    one_line IsHeldAsBefore held_still k (connection_at new k) old new is.unplugged.connections
    (subst (λ (c : ConnectionState). IsHeldAsBefore (connection_at old k) c) (sym is.connection) (record { taken = refl; held = refl; garbled = refl }))

alone_holds : (s : ℕ) (made : _) (old new : Board) → BookChanges s made old new → AreHeldAsBefore old new
alone_holds s made old new changes = same_lines IsHeldAsBefore held_still old new (ap (λ (b : Board). b.connections) changes.others)

changing_holds : (k : ℕ) (c : ConnectionState) (old new : Board) → ConnectionChanges k c old new → IsHeldAsBefore (connection_at old k) c → AreHeldAsBefore old new
changing_holds = change_lines IsHeldAsBefore held_still

pub held_before : (happening : Happening) (old new : Board) → is_quiet happening ≡ true → Happens happening old new → AreHeldAsBefore old new
held_before (accepts number at) old new quiet is = line_more IsHeldAsBefore held_still (fresh number at (connection_at new (length old.connections)).out) old new (ap (λ (b : Board). b.connections) is.connection)
held_before (dials s number at) old new quiet is = line_more IsHeldAsBefore held_still (fresh_dial number at s (connection_at new (length old.connections)).out) old new is.connection
held_before (takes k bytes) old new quiet is = absurd (cc)
held_before (gives k) old new quiet is = absurd (cc)
held_before (binds s k body at) old new quiet is = binding_holds s k body at old new is.binding
held_before (binds_and_ends s k body at cause) old new quiet is =
    lines_further IsHeldAsBefore held_further old is.between new (binding_holds s k body at old is.between is.binding) (leaving_holds s k cause is.between new is.leaves)
held_before (receives s k body at) old new quiet is = going_holds s old new is.goes_on
held_before (answers k) old new quiet is = changing_holds k _ old new is (record { taken = refl; held = refl; garbled = refl })
held_before (ticks s at) old new quiet is = going_holds s old new is.goes_on
held_before (shows s w bodies at until) old new quiet is = going_holds s old new is.goes_on
held_before (times_out s w bodies at until) old new quiet is = going_holds s old new is.goes_on
held_before (requests s library nr from) old new quiet is = alone_holds s _ old new is
held_before (lapses s) old new quiet is = alone_holds s _ old new is
held_before (ends_unbound k cause) old new quiet is = changing_holds k (after_cause cause (connection_at old k)) old new is.changes (record { taken = refl; held = refl; garbled = refl })
held_before (ends_bound s k cause) old new quiet is = leaving_holds s k cause old new is
held_before (prepares s k) old new quiet is = changing_holds k _ old new is.changes (record { taken = refl; held = refl; garbled = refl })
held_before (writes k n) old new quiet is = absurd (cc)
held_before (reserves s) old new quiet is = going_holds s old new is.goes_on

-- a connection that has ended brings nothing more
abbrev StaysOnceEnded : ConnectionState → ConnectionState → Type 0
StaysOnceEnded old new = (cause : Cause) → old.cause ≡ Some cause → IsHeldAsBefore old new

-- bytes come and pieces are handed out of one that stands
standing_changes : (k : ℕ) (c : ConnectionState) (old new : Board) → ConnectionChanges k c old new → IsNone (connection_at old k).cause → LinesGoOn StaysOnceEnded old new
standing_changes k c old new changes stands =
    change_lines StaysOnceEnded (λ x cause ended. held_still x) k c old new changes (λ cause ended. absurd (none_some cause (sym (none_is _ stands) ∙ ended)))

held_once_ended : (happening : Happening) (old new : Board) → Happens happening old new → (i : ℕ) → i < length old.connections → (cause : Cause) → (connection_at old i).cause ≡ Some cause
    → IsHeldAsBefore (connection_at old i) (connection_at new i)
held_once_ended (accepts number at) old new is i within ended was = (held_before (accepts number at) old new refl is).each i within
held_once_ended (dials s number at) old new is i within ended was = (held_before (dials s number at) old new refl is).each i within
held_once_ended (takes k bytes) old new is i within ended was = (standing_changes k _ old new is.changes is.stands).each i within ended was
held_once_ended (gives k) old new is i within ended was = (standing_changes k _ old new is.changes is.stands).each i within ended was
held_once_ended (binds s k body at) old new is i within ended was = (held_before (binds s k body at) old new refl is).each i within
held_once_ended (binds_and_ends s k body at cause) old new is i within ended was = (held_before (binds_and_ends s k body at cause) old new refl is).each i within
held_once_ended (receives s k body at) old new is i within ended was = (held_before (receives s k body at) old new refl is).each i within
held_once_ended (answers k) old new is i within ended was = (held_before (answers k) old new refl is).each i within
held_once_ended (ticks s at) old new is i within ended was = (held_before (ticks s at) old new refl is).each i within
held_once_ended (shows s w bodies at until) old new is i within ended was = (held_before (shows s w bodies at until) old new refl is).each i within
held_once_ended (times_out s w bodies at until) old new is i within ended was = (held_before (times_out s w bodies at until) old new refl is).each i within
held_once_ended (requests s library nr from) old new is i within ended was = (held_before (requests s library nr from) old new refl is).each i within
held_once_ended (lapses s) old new is i within ended was = (held_before (lapses s) old new refl is).each i within
held_once_ended (ends_unbound k cause) old new is i within ended was = (held_before (ends_unbound k cause) old new refl is).each i within
held_once_ended (ends_bound s k cause) old new is i within ended was = (held_before (ends_bound s k cause) old new refl is).each i within
held_once_ended (prepares s k) old new is i within ended was = (held_before (prepares s k) old new refl is).each i within
held_once_ended (writes k n) old new is i within ended was = (changing_holds k _ old new is.changes (record { taken = refl; held = refl; garbled = refl })).each i within
held_once_ended (reserves s) old new is i within ended was = (held_before (reserves s) old new refl is).each i within

-- and however many happenings there are
pub held_over : GoingLaws → (happenings : List Happening) (old new : Board) → Reaches happenings old new → (k : ℕ) → k < length old.connections → (cause : Cause)
    → (connection_at old k).cause ≡ Some cause → IsHeldAsBefore (connection_at old k) (connection_at new k)
held_over l [] old new reached k within cause ended = subst (λ (board : Board). IsHeldAsBefore (connection_at old k) (connection_at board k)) (sym reached) (held_still (connection_at old k))
held_over l (happening ∷ happenings) old new reached k within cause ended =
    let goes = happened l happening old reached.0 reached.1.0 in
    held_further (connection_at old k) (connection_at reached.0 k) (connection_at new k) (held_once_ended happening old reached.0 reached.1.0 k within cause ended)
    (held_over l happenings reached.0 new reached.1.1 k (let more = goes.more in omega arith) cause ((goes.each k within).ended cause ended))

-- as many connections as before
outbox_count : (place : Option ℕ) (old new : Board) → OutboxChanges place old new → length new.connections ≡ length old.connections
outbox_count None old new changes = ap length changes
outbox_count (Some k) old new changes = ap length changes.0 ∙ length-set old.connections k (record (connection_at old k) { out = (connection_at new k).out })

going_count : (s : ℕ) (old new : Board) → SessionGoesOn s old new → length new.connections ≡ length old.connections
going_count s old new goes = outbox_count (place_at old s) old new goes.others.connections

binding_count : (s k : ℕ) (body : List ℕ) (at : ℕ) (old new : Board) → BindsTo s k body at old new → length new.connections ≡ length old.connections
binding_count s k body at old new is = ap length is.plugged.connections ∙ length-set old.connections k (connection_at new k)

leaving_count : (s k : ℕ) (cause : Cause) (old new : Board) → EndsBound s k cause old new → length new.connections ≡ length old.connections
leaving_count s k cause old new is = ap length is.unplugged.connections ∙ length-set old.connections k (connection_at new k)

changing_count : (k : ℕ) (c : ConnectionState) (old new : Board) → ConnectionChanges k c old new → length new.connections ≡ length old.connections
changing_count k c old new changes = ap (λ (b : Board). length b.connections) changes.others ∙ length-set old.connections k c

pub counted : (happening : Happening) (old new : Board) → is_coming happening ≡ false → Happens happening old new → length new.connections ≡ length old.connections
counted (accepts number at) old new none is = absurd (cc)
counted (dials s number at) old new none is = absurd (cc)
counted (takes k bytes) old new none is = changing_count k _ old new is.changes
counted (gives k) old new none is = changing_count k _ old new is.changes
counted (binds s k body at) old new none is = binding_count s k body at old new is.binding
counted (binds_and_ends s k body at cause) old new none is = leaving_count s k cause is.between new is.leaves ∙ binding_count s k body at old is.between is.binding
counted (receives s k body at) old new none is = going_count s old new is.goes_on
counted (answers k) old new none is = changing_count k _ old new is
counted (ticks s at) old new none is = going_count s old new is.goes_on
counted (shows s w bodies at until) old new none is = going_count s old new is.goes_on
counted (times_out s w bodies at until) old new none is = going_count s old new is.goes_on
counted (requests s library nr from) old new none is = ap (λ (b : Board). length b.connections) is.others
counted (lapses s) old new none is = ap (λ (b : Board). length b.connections) is.others
counted (ends_unbound k cause) old new none is = changing_count k _ old new is.changes
counted (ends_bound s k cause) old new none is = leaving_count s k cause old new is
counted (prepares s k) old new none is = changing_count k _ old new is.changes
counted (writes k n) old new none is = changing_count k _ old new is.changes
counted (reserves s) old new none is = going_count s old new is.goes_on
