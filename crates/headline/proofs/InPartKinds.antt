-- Where memory was wanting no connection comes but by a dial, each keeps its number and stays accepted or dialled, and so they stay numbered in the order in which they came.
use Rattle.std.proofs.Common.{◌≡◌, inl, inr, ℕ, suc, ◌+◌, ◌<◌, Bool, true, false, List, [], ◌∷◌, ◌++◌, get_or, length, map, refl, sym, ap, subst, ◌∙◌, arith}
use Rattle.std.proofs.lemmas.Bool.{cases_eq}
use Rattle.std.proofs.lemmas.List.{append-nil, map-append}
use Rattle.std.proofs.lemmas.List.Elements.{filter-append}
use Rattle.std.specs.List.{filter}
use Rattle.std.specs.Prelude.{cond, not}
use Rattle.connection_core.specs.Connection.{ConnectionState}
use Rattle.engine_end.specs.Records.{accepted_of, dialled_of}
use Rattle.gate_io.specs.declared.wires.TheConstants.{FIRST_DIALLED}
use Rattle.headline.proofs.Coming.{numbers_more}
use Rattle.headline.proofs.Steady.{AreSame, steady_kept}
use Rattle.headline.proofs.Walk.{IsKept}
use Rattle.headline.specs.Numbering.{AreInOrder, numbers_of}
use Rattle.library_api.specs.Reads.{numbers_from}
use Rattle.switchboard.specs.Board.{Board, connection_at, no_connection}
use Rattle.switchboard.specs.Happenings.{binds, receives, ticks}
use Rattle.switchboard.specs.Stops.{AreSameStreams, BindIsBegun, NothingIsTold, StopsIn}

-- the number of a connection, and whether it was dialled
pub record Kind : Type 0 where
  pub number : ℕ
  pub dialled : Bool

abbrev pub kind_of : ConnectionState → Kind
kind_of c = record { number = c.number; dialled = c.dialled }

abbrev pub SameKinds : Board → Board → Type 0
SameKinds old new = map kind_of new.connections ≡ map kind_of old.connections

same_kind : (c d : ConnectionState) → d.number ≡ c.number → d.dialled ≡ c.dialled → kind_of d ≡ kind_of c
same_kind c d number dialled = cc

kinds_of : (cs ds : List ConnectionState) → AreSame cs ds → map kind_of ds ≡ map kind_of cs
kinds_of [] [] same = refl
kinds_of [] (d ∷ ds) same = absurd same
kinds_of (c ∷ cs) [] same = absurd same
kinds_of (c ∷ cs) (d ∷ ds) same = ap (λ k. k ∷ map kind_of ds) (same_kind c d same.0.number same.0.dialled) ∙ ap (λ ks. kind_of c ∷ ks) (kinds_of cs ds same.1)

pub kinds_kept : IsKept SameKinds
kinds_kept = record {
  itself = λ board. refl;
  further = λ first second third one two. two ∙ one;
  happens = λ happening old new quiet is. kinds_of old.connections new.connections (steady_kept.happens happening old new quiet is);
}

kinds_at : (cs ds : List ConnectionState) → length ds ≡ length cs → ((k : ℕ) → k < length cs → kind_of (get_or ds k no_connection) ≡ kind_of (get_or cs k no_connection)) → map kind_of ds ≡ map kind_of cs
kinds_at [] [] count each = refl
kinds_at [] (d ∷ ds) count each = absurd (omega arith)
kinds_at (c ∷ cs) [] count each = absurd (omega arith)
kinds_at (c ∷ cs) (d ∷ ds) count each = ap (λ k. k ∷ map kind_of ds) (each 0 (omega arith)) ∙ ap (λ ks. kind_of c ∷ ks) (kinds_at cs ds (omega arith) (λ k within. each (suc k) (omega arith)))

streams_same : (old new : Board) → length new.connections ≡ length old.connections → AreSameStreams old new → SameKinds old new
streams_same old new count streams =
    kinds_at old.connections new.connections count (λ k within. same_kind (connection_at old k) (connection_at new k) (streams k within).number (streams k within).dialled)

pub untold : (old new : Board) → NothingIsTold old new → SameKinds old new
untold old new is = streams_same old new is.count is.streams

-- acts are begun
pub received : (s k : ℕ) (body : List ℕ) (at : ℕ) (old new : Board) → StopsIn (receives s k body at) old new → SameKinds old new
received s k body at old new stops = elim stops [ inl nothing ↦ untold old new nothing | inr is ↦ streams_same old new is.count is.streams ]

pub ticked : (s at : ℕ) (old new : Board) → StopsIn (ticks s at) old new → SameKinds old new
ticked s at old new stops = elim stops [ inl nothing ↦ untold old new nothing | inr is ↦ streams_same old new is.count is.streams ]

bind_begun : (s k : ℕ) (body : List ℕ) (at : ℕ) (old new : Board) → BindIsBegun s k body at old new → (j : ℕ) → j < length old.connections → kind_of (connection_at new j) ≡ kind_of (connection_at old j)
bind_begun s k body at old new is j within = elim (cases_eq j k) [
  | inl same ↦ subst (λ n. kind_of (connection_at new n) ≡ kind_of (connection_at old n)) (sym same) (same_kind (connection_at old k) (connection_at new k) is.here.number is.here.dialled)
  | inr other ↦ same_kind (connection_at old j) (connection_at new j) (is.others j other within).number (is.others j other within).dialled
]

pub bound : (s k : ℕ) (body : List ℕ) (at : ℕ) (old new : Board) → StopsIn (binds s k body at) old new → SameKinds old new
bound s k body at old new stops = elim stops [
  | inl nothing ↦ untold old new nothing
  | inr is ↦ kinds_at old.connections new.connections is.count (bind_begun s k body at old new is)
]

-- So many were accepted and so many dialled, and each kind is numbered in order.
pub record HaveNumbers (accepted dialled : ℕ) (connections : List ConnectionState) : Type 0 where
  pub accepted_are : numbers_of (accepted_of connections) ≡ numbers_from 0 accepted
  pub dialled_are : numbers_of (dialled_of connections) ≡ numbers_from FIRST_DIALLED dialled

-- so they are, however many came
pub record AreNumberedSo (board : Board) : Type 0 where
  pub accepted : ℕ
  pub dialled : ℕ
  pub numbers : HaveNumbers accepted dialled board.connections

pub ordered : (accepted dialled : ℕ) (board : Board) → AreInOrder accepted dialled board.connections → AreNumberedSo board
ordered accepted dialled board order = record { accepted = accepted; dialled = dialled; numbers = record { accepted_are = order.accepted_are; dialled_are = order.dialled_are } }

picked : (b : Bool) (c : ConnectionState) (cs : List ConnectionState) (ks : List Kind) → numbers_of cs ≡ map (λ (k : Kind). k.number) ks → numbers_of (cond b (c ∷ cs) cs) ≡ map (λ (k : Kind). k.number) (cond b (kind_of c ∷ ks) ks)
picked true c cs ks rest = ap (λ ns. c.number ∷ ns) rest
picked false c cs ks rest = rest

numbers_by : (test : Bool → Bool) (cs : List ConnectionState) → numbers_of (filter (λ c. test c.dialled) cs) ≡ map (λ (k : Kind). k.number) (filter (λ k. test k.dialled) (map kind_of cs))
numbers_by test [] = refl
numbers_by test (c ∷ cs) = picked (test c.dialled) c (filter (λ (x : ConnectionState). test x.dialled) cs) (filter (λ (k : Kind). test k.dialled) (map kind_of cs)) (numbers_by test cs)

same_by : (test : Bool → Bool) (cs ds : List ConnectionState) → map kind_of ds ≡ map kind_of cs → numbers_of (filter (λ c. test c.dialled) ds) ≡ numbers_of (filter (λ c. test c.dialled) cs)
same_by test cs ds same = numbers_by test ds ∙ ap (λ ks. map (λ (k : Kind). k.number) (filter (λ (k : Kind). test k.dialled) ks)) same ∙ sym (numbers_by test cs)

pub numbers_stay : (accepted dialled : ℕ) (old new : Board) → SameKinds old new → HaveNumbers accepted dialled old.connections → HaveNumbers accepted dialled new.connections
numbers_stay accepted dialled old new same was = record {
  accepted_are = same_by not old.connections new.connections same ∙ was.accepted_are;
  dialled_are = same_by (λ b. b) old.connections new.connections same ∙ was.dialled_are;
}

pub so_they_stay : (old new : Board) → SameKinds old new → AreNumberedSo old → AreNumberedSo new
so_they_stay old new same was = record { accepted = was.accepted; dialled = was.dialled; numbers = numbers_stay was.accepted was.dialled old new same was.numbers }

-- one was dialled more
dialled_here : (b : Bool) (c : ConnectionState) → b ≡ true → (cond b (c ∷ []) [] ≡ c ∷ []) × (cond (not b) (c ∷ []) [] ≡ [])
dialled_here true c is = (refl, refl)
dialled_here false c is = absurd (cc)

pub one_more : (accepted dialled : ℕ) (connections : List ConnectionState) (c : ConnectionState) → c.number ≡ FIRST_DIALLED + dialled → c.dialled ≡ true → HaveNumbers accepted dialled connections
    → HaveNumbers accepted (suc dialled) (connections ++ c ∷ [])
one_more accepted dialled connections c number is are =
    let here = dialled_here c.dialled c is in
    record {
      accepted_are =
          ap numbers_of (filter-append (λ (x : ConnectionState). not x.dialled) connections (c ∷ []) ∙ ap (λ more. accepted_of connections ++ more) here.1 ∙ append-nil (accepted_of connections)) ∙ are.accepted_are;
      dialled_are =
          ap numbers_of (filter-append (λ (x : ConnectionState). x.dialled) connections (c ∷ []) ∙ ap (λ more. dialled_of connections ++ more) here.0)
          ∙ map-append (λ (x : ConnectionState). x.number) (dialled_of connections) (c ∷ []) ∙ ap (λ ns. ns ++ c.number ∷ []) are.dialled_are
          ∙ ap (λ n. numbers_from FIRST_DIALLED dialled ++ n ∷ []) number ∙ sym (numbers_more FIRST_DIALLED dialled);
    }
