-- What a session handled stays of connections that name it, each of them once.
use Rattle.std.proofs.Common.{◌≡◌, ◌≢◌, ℕ, zero, suc, ◌<◌, List, [], ◌∷◌, ◌++◌, get_or, length, None, Some, refl, sym, ap, subst, ◌∙◌, arith}
use Rattle.std.specs.Prelude.{IsNone}
use Rattle.std.specs.List.{All}
use Rattle.std.proofs.Math.Seq.{get_or-append_seam}
use Rattle.std.proofs.lemmas.List.{length_push}
use Rattle.std.proofs.lemmas.List.Elements.{All-nil, All-push, All-weaker}
use Rattle.std.proofs.lemmas.List.Quantifiers.{all_pairs_push}
use Rattle.connection_core.specs.Connection.{ConnectionState, fresh_dial}
use Rattle.lease_core.specs.declared.entry.Entry.{Entry}
use Rattle.session_book.specs.Runs.{Handled, handled_of, with_body}
use Rattle.engine_laws.specs.Account.{AreConnectionsOf, IsConnectionOf}
use Rattle.engine_laws.proofs.Changed.{changed_keeps}
use Rattle.engine_laws.proofs.Standing.{none_is}
use Rattle.switchboard.specs.Board.{Board, connection_at, no_connection}
use Rattle.switchboard.specs.Going.{GoesOnTo}
use Rattle.switchboard.specs.Happenings.{BindsTo, Happening, Happens, IsNewNumber, binds, binds_and_ends, dials, receives}
use Rattle.switchboard.specs.Ready.{IsReady}
use Rattle.switchboard.specs.Told.{History, changed_at, history_after}

none_some : {T : Type 0} (a : T) → None ≡ Some a → ⊥
none_some a e = (cc)

-- nothing was handled
pub none_handled : (board : Board) (s : ℕ) → AreConnectionsOf board s []
none_handled board s = record { each = All-nil _; once = λ i j d less within. absurd (omega arith) }

-- connections go on
connection_on : (s number : ℕ) (old new : Board) → GoesOnTo old new → IsConnectionOf old s number → IsConnectionOf new s number
connection_on s number old new goes is =
    let small = is.within in
    let more = goes.more in
    let same = goes.each is.place is.within in
    record { place = is.place; within = omega arith; number_is = same.number ∙ is.number_is; names = same.bound s is.names }

all_on : (s : ℕ) (handled : List Handled) (old new : Board) → GoesOnTo old new → AreConnectionsOf old s handled → AreConnectionsOf new s handled
all_on s handled old new goes are = record {
  each = All-weaker (λ of. IsConnectionOf old s of.connection) (λ of. IsConnectionOf new s of.connection) (λ of is. connection_on s of.connection old new goes is) handled are.each;
  once = are.once;
}

-- one more
one_more : (s number : ℕ) (bodies : List (List ℕ)) (handled : List Handled) (board : Board) → IsConnectionOf board s number → All (λ of. of.connection ≢ number) handled → AreConnectionsOf board s handled
    → AreConnectionsOf board s (handled ++ handled_of number bodies ∷ [])
one_more s number bodies handled board is other are = record {
  each = All-push (λ of. IsConnectionOf board s of.connection) handled (handled_of number bodies) are.each is;
  once = all_pairs_push (λ of later. of.connection ≢ later.connection) handled (handled_of number bodies) are.once other;
}

-- the last of them handles one message more
same_numbers : (body : List ℕ) (handled : List Handled) (i : ℕ) (d : Handled) → (get_or (with_body body handled) i d).connection ≡ (get_or handled i d).connection
same_numbers body [] i d = refl
same_numbers body (of ∷ []) zero d = refl
same_numbers body (of ∷ []) (suc i) d = refl
same_numbers body (of ∷ (next ∷ handled)) zero d = refl
same_numbers body (of ∷ (next ∷ handled)) (suc i) d = same_numbers body (next ∷ handled) i d

as_many : (body : List ℕ) (handled : List Handled) → length (with_body body handled) ≡ length handled
as_many body [] = refl
as_many body (of ∷ []) = refl
as_many body (of ∷ (next ∷ handled)) = ap suc (as_many body (next ∷ handled))

pub message_more : (s : ℕ) (body : List ℕ) (handled : List Handled) (board : Board) → AreConnectionsOf board s handled → AreConnectionsOf board s (with_body body handled)
message_more s body handled board are =
    let count = as_many body handled in
    record {
      each = λ i d within. subst (λ n. IsConnectionOf board s n) (sym (same_numbers body handled i d)) (are.each i d (omega arith));
      once = λ i j d less within same. are.once i j d less (omega arith) (sym (same_numbers body handled i d) ∙ same ∙ same_numbers body handled j d);
    }

-- of one session something is handled
one_changes : (s : ℕ) (change : List Handled → List Handled) (all : ℕ → List Handled) (board : Board) → AreConnectionsOf board s (change (all s)) → ((j : ℕ) → AreConnectionsOf board j (all j))
    → (j : ℕ) → AreConnectionsOf board j (changed_at s change all j)
one_changes s change all board here there = changed_keeps (AreConnectionsOf board) s change all here (λ j other. there j)

-- a connection that names no session is none of those, nor is one that comes
pub apart_unbound : (before : ℕ → List Entry) (s k : ℕ) (handled : List Handled) (board : Board) → IsReady before board → k < length board.connections → IsNone (connection_at board k).session
    → AreConnectionsOf board s handled → All (λ of. of.connection ≢ (connection_at board k).number) handled
apart_unbound before s k handled board ready within none are =
    All-weaker (λ of. IsConnectionOf board s of.connection) (λ of. of.connection ≢ (connection_at board k).number)
    (λ of is same.
    let place = ready.numbers is.place k is.within within (is.number_is ∙ same) in
    none_some s (sym (none_is _ none) ∙ ap (λ n. (connection_at board n).session) (sym place) ∙ is.names))
    handled are.each

pub apart_new : (s number : ℕ) (handled : List Handled) (board : Board) → IsNewNumber board number → AreConnectionsOf board s handled → All (λ of. of.connection ≢ number) handled
apart_new s number handled board new are =
    All-weaker (λ of. IsConnectionOf board s of.connection) (λ of. of.connection ≢ number) (λ of is same. new is.place is.within (is.number_is ∙ same)) handled are.each

named_now : (s k : ℕ) (old new : Board) → k < length old.connections → GoesOnTo old new → (connection_at new k).number ≡ (connection_at old k).number → (connection_at new k).session ≡ Some s
    → IsConnectionOf new s (connection_at old k).number
named_now s k old new within goes number names = (let more = goes.more in record { place = k; within = omega arith; number_is = number; names = names })

-- a session is bound to a connection that named none
bound_more : (before : ℕ → List Entry) (s k : ℕ) (body : List ℕ) (at : ℕ) (history : History) (old between new : Board) → BindsTo s k body at old between → IsReady before old → IsConnectionOf new s (connection_at old k).number
    → GoesOnTo old new → ((j : ℕ) → AreConnectionsOf old j (history.handled j))
    → (j : ℕ) → AreConnectionsOf new j (changed_at s (λ handled. handled ++ handled_of (connection_at old k).number (body ∷ []) ∷ []) history.handled j)
bound_more before s k body at history old between new binding ready is goes are =
    let number = (connection_at old k).number in
    let other = apart_unbound before s k (history.handled s) old ready binding.connection_within binding.unbound (are s) in
    one_changes s (λ handled. handled ++ handled_of number (body ∷ []) ∷ []) history.handled new
    (one_more s number (body ∷ []) (history.handled s) new is other (all_on s (history.handled s) old new goes (are s)))
    (λ j. all_on j (history.handled j) old new goes (are j))

pub connections_on : (before : ℕ → List Entry) (happening : Happening) (history : History) (old new : Board) → Happens happening old new → GoesOnTo old new → IsReady before old
    → ((s : ℕ) → AreConnectionsOf old s (history.handled s)) → (s : ℕ) → AreConnectionsOf new s ((history_after happening old history).handled s)
connections_on before (dials s number at) history old new is goes ready are =
    let last = length old.connections in
    let c = fresh_dial number at s (connection_at new last).out in
    let found : connection_at new last ≡ c = ap (λ cs. get_or cs last no_connection) is.connection ∙ get_or-append_seam old.connections c [] no_connection in
    let other = apart_new s number (history.handled s) old is.new_number (are s) in
    let count : length new.connections ≡ length (old.connections ++ c ∷ []) = ap length is.connection in
    one_changes s (λ handled. handled ++ handled_of number [] ∷ []) history.handled new
    (one_more s number [] (history.handled s) new
    (record {
      place = last;
      within = omega (arith, length_push old.connections c);
      number_is = ap (λ (x : ConnectionState). x.number) found;
      names = ap (λ (x : ConnectionState). x.session) found;
    })
    other (all_on s (history.handled s) old new goes (are s)))
    (λ j. all_on j (history.handled j) old new goes (are j))
connections_on before (binds s k body at) history old new is goes ready are =
    let here = is.binding.connection in
    bound_more before s k body at history old new new is.binding ready
    (named_now s k old new is.binding.connection_within goes (ap (λ (c : ConnectionState). c.number) here) (ap (λ (c : ConnectionState). c.session) here)) goes are
connections_on before (binds_and_ends s k body at cause) history old new is goes ready are =
    let here = is.leaves.connection in
    let bound = is.binding.connection in
    bound_more before s k body at history old is.between new is.binding ready
    (named_now s k old new is.binding.connection_within goes (ap (λ (c : ConnectionState). c.number) here ∙ ap (λ (c : ConnectionState). c.number) bound)
    (ap (λ (c : ConnectionState). c.session) here ∙ ap (λ (c : ConnectionState). c.session) bound)) goes are
connections_on before (receives s k body at) history old new is goes ready are =
    one_changes s (λ handled. with_body body handled) history.handled new (message_more s body (history.handled s) new (all_on s (history.handled s) old new goes (are s))) (λ j. all_on j (history.handled j) old new goes (are j))
connections_on before other history old new is goes ready are = λ j. all_on j (history.handled j) old new goes (are j)
