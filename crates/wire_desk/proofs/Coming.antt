-- A connection that comes is on the wire, and so are those that were there.
use Rattle.std.proofs.Common.{◌≡◌, ◌≢◌, ◌⊎◌, inl, inr, ℕ, ◌+◌, ◌<◌, ◌≤◌, List, [], ◌∷◌, ◌++◌, length, get_or, None, false, sym, ap, subst, ◌∙◌, arith, length-append}
use Rattle.std.proofs.Math.ListN.{get_or-append}
use Rattle.std.proofs.Math.Seq.{get_or-append_right, get_or-append_seam}
use Rattle.std.proofs.lemmas.List.{length_push}
use Rattle.std.proofs.lemmas.List.Elements.{All-append, All-push, All-weaker, Contains-append_cases, Contains-append_left, Contains-append_right, Contains-push}
use Rattle.std.specs.Prelude.{IfSome}
use Rattle.std.specs.List.{All, Contains}
use Rattle.wire_desk.proofs.Progress.{below_or_at}
use Rattle.connection_core.specs.Outgoing.{written_text}
use Rattle.connection_core.specs.Connection.{ConnectionState}
use Rattle.gate_io.specs.Wire.{Door, Link, OthersStay}
use Rattle.gate_io.specs.declared.wires.TheConstants.{FIRST_DIALLED}
use Rattle.switchboard.specs.Board.{Board, connection_at, no_connection}
use Rattle.switchboard.specs.Happenings.{IsNewNumber}
use Rattle.wire_desk.specs.Lines.{IsNumbered, IsOnWire, IsOpenPlace, IsWired}

-- the next number, of those that are accepted or dialled, is no connection's
pub accepted_is_new : (board : Board) (places : List ℕ) (door : Door) (links : ℕ → Link) → door.accepted < FIRST_DIALLED → IsWired board places door links → IsNewNumber board door.accepted
accepted_is_new board places door links few was = λ k within same.
    let small = (was.each k within).numbered.accepted (subst (λ n. n < FIRST_DIALLED) (sym same) few) in
    omega arith

pub dialled_is_new : (board : Board) (places : List ℕ) (door : Door) (links : ℕ → Link) → IsWired board places door links → IsNewNumber board (FIRST_DIALLED + door.dialled)
dialled_is_new board places door links was = λ k within same.
    let small = (was.each k within).numbered.dialled (omega (arith, same)) in
    omega arith

numbers_go_on : (door after : Door) (n : ℕ) → door.accepted ≤ after.accepted → door.dialled ≤ after.dialled → IsNumbered door n → IsNumbered after n
numbers_go_on door after n accepted dialled was = record {
  accepted = λ first. (let small = was.accepted first in omega arith);
  dialled = λ second. (let small = was.dialled second in omega arith);
}

-- a connection of another number stays on the wire
stays : (door after_door : Door) (before after : ℕ → Link) (n : ℕ) (c : ConnectionState) → door.accepted ≤ after_door.accepted → door.dialled ≤ after_door.dialled → OthersStay before after n → c.number ≢ n → IsOnWire door before c → IsOnWire after_door after c
stays door after_door before after n c accepted dialled others apart was =
    let same : after c.number ≡ before c.number = others c.number apart in
    record {
      numbered = numbers_go_on door after_door c.number accepted dialled was.numbered;
      stands = λ none. ap (λ (l : Link). l.closed) same ∙ was.stands none;
      roomy = was.roomy;
      written = subst (λ (l : Link). IfSome l.written (λ bytes. bytes ≡ written_text c.out.outgoing)) (sym same) was.written;
    }

-- nothing came
pub none_came : (board : Board) (places : List ℕ) (door after_door : Door) (before after : ℕ → Link) (n : ℕ) → door.accepted ≤ after_door.accepted → door.dialled ≤ after_door.dialled → IsNewNumber board n → OthersStay before after n
    → IsWired board places door before → IsWired board places after_door after
none_came board places door after_door before after n accepted dialled new_number others was = record {
  each = λ k within. stays door after_door before after n (connection_at board k) accepted dialled others (new_number k within) (was.each k within);
  listed = All-weaker (IsOpenPlace board before) (IsOpenPlace board after)
      (λ k place. record { within = place.within; open_still = ap (λ (l : Link). l.closed) (others (connection_at board k).number (new_number k place.within)) ∙ place.open_still }) places was.listed;
  all = was.all;
}

all_left : (P : ℕ → Type 0) (xs ys : List ℕ) → All P (xs ++ ys) → All P xs
all_left P xs ys h = λ k d within. subst P (get_or-append xs ys d k within) (h k d (omega (arith, length-append xs ys)))

all_right : (P : ℕ → Type 0) (xs ys : List ℕ) → All P (xs ++ ys) → All P ys
all_right P xs ys h = λ k d within.
    subst P (get_or-append_right xs ys (length xs + k) d (omega arith) ∙ ap (λ n. get_or ys n d) (omega arith)) (h (length xs + k) d (omega (arith, length-append xs ys)))

-- a connection came, and stands behind the others
module _ (old new : Board) (c : ConnectionState) (door after_door : Door) (before after : ℕ → Link) (connections : new.connections ≡ old.connections ++ c ∷ [])
    (accepted : door.accepted ≤ after_door.accepted) (dialled : door.dialled ≤ after_door.dialled) (new_number : IsNewNumber old c.number) (others : OthersStay before after c.number)
    (on : IsOnWire after_door after c) (open_still : (after c.number).closed ≡ false) where
  count : length new.connections ≡ length old.connections + 1
  count = ap length connections ∙ length_push old.connections c

  there : (k : ℕ) → k < length old.connections → connection_at new k ≡ connection_at old k
  there k within = ap (λ (cs : List ConnectionState). get_or cs k no_connection) connections ∙ get_or-append old.connections (c ∷ []) no_connection k within

  here : connection_at new (length old.connections) ≡ c
  here = ap (λ (cs : List ConnectionState). get_or cs (length old.connections) no_connection) connections ∙ get_or-append_seam old.connections c [] no_connection

  pub last_or_before : (k : ℕ) → k < length new.connections → (k < length old.connections) ⊎ (k ≡ length old.connections)
  last_or_before k within = below_or_at k (length old.connections) (omega (arith, count))

  each_on : (places : List ℕ) → IsWired old places door before → (k : ℕ) → k < length new.connections → IsOnWire after_door after (connection_at new k)
  each_on places was k within = elim (last_or_before k within) [
    | inl small ↦ subst (IsOnWire after_door after) (sym (there k small)) (stays door after_door before after c.number (connection_at old k) accepted dialled others (new_number k small) (was.each k small))
    | inr at ↦ subst (λ n. IsOnWire after_door after (connection_at new n)) (sym at) (subst (IsOnWire after_door after) (sym here) on)
  ]

  listed_on : (places : List ℕ) → All (IsOpenPlace old before) places → All (IsOpenPlace new after) places
  listed_on places is = All-weaker (IsOpenPlace old before) (IsOpenPlace new after) (λ k place. record {
    within = omega (arith, count, place.within);
    open_still = subst (λ (x : ConnectionState). (after x.number).closed ≡ false) (sym (there k place.within))
        (ap (λ (l : Link). l.closed) (others (connection_at old k).number (new_number k place.within)) ∙ place.open_still);
  }) places is

  here_open : IsOpenPlace new after (length old.connections)
  here_open = record {
    within = omega (arith, count);
    open_still = subst (λ (x : ConnectionState). (after x.number).closed ≡ false) (sym here) open_still;
  }

  -- the last of the first part of the list
  pub came_first : (first last : List ℕ) → IsWired old (first ++ last) door before → IsWired new ((first ++ length old.connections ∷ []) ++ last) after_door after
  came_first first last was =
      let k = length old.connections in
      let is = listed_on (first ++ last) was.listed in
      record {
        each = each_on (first ++ last) was;
        listed = All-append (IsOpenPlace new after) (first ++ k ∷ []) last (All-push (IsOpenPlace new after) first k (all_left (IsOpenPlace new after) first last is) here_open) (all_right (IsOpenPlace new after) first last is);
        all = λ j within none. elim (last_or_before j within) [
          | inl small ↦ elim (Contains-append_cases first last j (was.all j small (subst (λ (x : ConnectionState). x.cause ≡ None) (there j small) none))) [
            | inl one ↦ Contains-append_left (first ++ k ∷ []) last j (Contains-append_left first (k ∷ []) j one)
            | inr two ↦ Contains-append_right (first ++ k ∷ []) last j two
          ]
          | inr at ↦ subst (λ n. Contains ((first ++ k ∷ []) ++ last) n) (sym at) (Contains-append_left (first ++ k ∷ []) last k (Contains-push first k))
        ];
      }

  -- the last of all
  pub came_last : (first last : List ℕ) → IsWired old (first ++ last) door before → IsWired new (first ++ (last ++ length old.connections ∷ [])) after_door after
  came_last first last was =
      let k = length old.connections in
      let is = listed_on (first ++ last) was.listed in
      record {
        each = each_on (first ++ last) was;
        listed = All-append (IsOpenPlace new after) first (last ++ k ∷ []) (all_left (IsOpenPlace new after) first last is) (All-push (IsOpenPlace new after) last k (all_right (IsOpenPlace new after) first last is) here_open);
        all = λ j within none. elim (last_or_before j within) [
          | inl small ↦ elim (Contains-append_cases first last j (was.all j small (subst (λ (x : ConnectionState). x.cause ≡ None) (there j small) none))) [
            | inl one ↦ Contains-append_left first (last ++ k ∷ []) j one
            | inr two ↦ Contains-append_right first (last ++ k ∷ []) j (Contains-append_left last (k ∷ []) j two)
          ]
          | inr at ↦ subst (λ n. Contains (first ++ (last ++ k ∷ [])) n) (sym at) (Contains-append_right first (last ++ k ∷ []) k (Contains-push last k))
        ];
      }
