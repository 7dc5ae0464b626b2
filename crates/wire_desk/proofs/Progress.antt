-- Sessions and connections progress, and stay on the wire.
use Rattle.std.proofs.Common.{◌≡◌, ◌≢◌, ◌⊎◌, inl, inr, ℕ, zero, suc, ◌+◌, ◌<◌, ◌≤◌, List, length, Option, None, Some, false, refl, sym, ap, subst, ◌∙◌, arith}
use Rattle.std.proofs.lemmas.List.Elements.{All-weaker}
use Rattle.std.specs.Prelude.{IfSome}
use Rattle.std.specs.List.{All}
use Rattle.connection_core.specs.Connection.{ConnectionState, room}
use Rattle.connection_core.specs.Outgoing.{written_text}
use Rattle.connection_core.specs.declared.limits.TheConstants.{MOST_READ}
use Rattle.gate_io.specs.Wire.{Door, Link, OthersStay}
use Rattle.lease_desk.specs.Desk.{GoesOn}
use Rattle.session_core.specs.declared.causes.Cause.{Cause}
use Rattle.session_desk.specs.Steps.{Proceeds}
use Rattle.switchboard.specs.Board.{Board, connection_at}
use Rattle.switchboard.specs.Going.{GoesOnTo, IsSameConnection, KeepsBytes}
use Rattle.wire_desk.specs.Lines.{IsNumbered, IsOnWire, IsOpenPlace, IsWired}
use Rattle.wire_desk.specs.Steps.{Progresses}

pub same_or_other : (i j : ℕ) → (i ≡ j) ⊎ (i ≢ j)
same_or_other zero zero = inl refl
same_or_other zero (suc j) = inr (λ e. absurd (omega arith))
same_or_other (suc i) zero = inr (λ e. absurd (omega arith))
same_or_other (suc i) (suc j) = elim (same_or_other i j) [ inl e ↦ inl (ap suc e) | inr n ↦ inr (λ e. n (omega arith)) ]

bytes_further : (first second third : ConnectionState) → KeepsBytes first second → KeepsBytes second third → KeepsBytes first third
bytes_further first second third one two = record {
  taken = two.taken ∙ one.taken;
  held = two.held ∙ one.held;
  garbled = two.garbled ∙ one.garbled;
  written = two.written ∙ one.written;
}

leases_further : (first second third : Board) (s : ℕ) → GoesOn first second s → GoesOn second third s → GoesOn first third s
leases_further first second third s one two = record {
  inbound = (let a = one.inbound in let b = two.inbound in omega arith);
  lease = λ some.
      let later = two.lease some in
      let before = one.lease (subst (λ n. 0 < n) later.0 some) in
      (later.0 ∙ before.0, later.1 ∙ before.1);
}

pub further : ((first second third : Board) → GoesOnTo first second → GoesOnTo second third → GoesOnTo first third) → (k : ℕ) (first second third : Board) → Progresses k first second → Progresses k second third → Progresses k first third
further law k first second third one two = record {
  goes_on = law first second third one.goes_on two.goes_on;
  leases = λ s. leases_further first second third s (one.leases s) (two.leases s);
  count = two.count ∙ one.count;
  others = λ j other within. bytes_further (connection_at first j) (connection_at second j) (connection_at third j) (one.others j other within) (two.others j other (subst (λ n. j < n) (sym one.count) within));
  written = two.written ∙ one.written;
}

pub proceeds : (k : ℕ) (old new : Board) → length new.connections ≡ length old.connections → k < length old.connections → Proceeds old new → Progresses k old new
proceeds k old new count within is = record {
  goes_on = is.goes_on;
  leases = is.leases;
  count = count;
  others = λ j other small. is.bytes j small;
  written = (is.bytes k within).written;
}

-- one that stands stood before
pub stood : (old new : Option Cause) → ((cause : Cause) → old ≡ Some cause → new ≡ Some cause) → new ≡ None → old ≡ None
stood None new ended none = refl
stood (Some cause) new ended none = absurd (cc (ended cause refl, none))

if_same : (old new : Option (List ℕ)) (text changed : List ℕ) → new ≡ old → changed ≡ text → IfSome old (λ bytes. bytes ≡ text) → IfSome new (λ bytes. bytes ≡ changed)
if_same old new text changed same is was = subst (λ w. IfSome w (λ bytes. bytes ≡ changed)) (sym same) (subst (λ t. IfSome old (λ bytes. bytes ≡ t)) (sym is) was)

module _ (k : ℕ) (old new : Board) (places : List ℕ) (door : Door) (before after : ℕ → Link) (within : k < length old.connections) (goes : Progresses k old new)
    (others : OthersStay before after (connection_at old k).number) (closed : (after (connection_at old k).number).closed ≡ false) (written : (after (connection_at old k).number).written ≡ (before (connection_at old k).number).written)
    (roomy : (connection_at new k).cause ≡ None → MOST_READ ≤ room (connection_at new k)) (was : IsWired old places door before) where
  small : (j : ℕ) → j < length new.connections → j < length old.connections
  small j is = subst (λ n. j < n) goes.count is

  same : (j : ℕ) → j < length old.connections → IsSameConnection (connection_at old j) (connection_at new j)
  same j is = goes.goes_on.each j is

  stays_open : (c : ℕ) → (before c).closed ≡ false → (after c).closed ≡ false
  stays_open c still = elim (same_or_other c (connection_at old k).number) [
    | inl e ↦ subst (λ n. (after n).closed ≡ false) (sym e) closed
    | inr other ↦ ap (λ (l : Link). l.closed) (others c other) ∙ still
  ]

  stays_written : (c : ℕ) → (after c).written ≡ (before c).written
  stays_written c = elim (same_or_other c (connection_at old k).number) [
    | inl e ↦ subst (λ n. (after n).written ≡ (before n).written) (sym e) written
    | inr other ↦ ap (λ (l : Link). l.written) (others c other)
  ]

  text_stays : (j : ℕ) → j < length old.connections → written_text (connection_at new j).out.outgoing ≡ written_text (connection_at old j).out.outgoing
  text_stays j is = elim (same_or_other j k) [
    | inl e ↦ subst (λ n. written_text (connection_at new n).out.outgoing ≡ written_text (connection_at old n).out.outgoing) (sym e) goes.written
    | inr other ↦ (goes.others j other is).written
  ]

  room_stays : (j : ℕ) → j < length old.connections → (connection_at new j).cause ≡ None → MOST_READ ≤ room (connection_at new j)
  room_stays j is stands = elim (same_or_other j k) [
    | inl e ↦ subst (λ n. (connection_at new n).cause ≡ None → MOST_READ ≤ room (connection_at new n)) (sym e) roomy stands
    | inr other ↦
        let kept = (goes.others j other is).held in
        let had = (was.each j is).roomy (stood (connection_at old j).cause (connection_at new j).cause (same j is).ended stands) in
        let long : length (connection_at new j).held ≡ length (connection_at old j).held = ap (λ (xs : List ℕ). length xs) kept in
        omega arith
  ]

  line : (j : ℕ) → j < length new.connections → IsOnWire door after (connection_at new j)
  line j is =
      let there = small j is in
      let c = same j there in
      let on = was.each j there in
      record {
        numbered = subst (IsNumbered door) (sym c.number) on.numbered;
        stands = λ none. subst (λ n. (after n).closed ≡ false) (sym c.number)
            (stays_open (connection_at old j).number (on.stands (stood (connection_at old j).cause (connection_at new j).cause c.ended none)));
        roomy = room_stays j there;
        written = subst (λ n. IfSome (after n).written (λ bytes. bytes ≡ written_text (connection_at new j).out.outgoing)) (sym c.number)
            (if_same (before (connection_at old j).number).written (after (connection_at old j).number).written (written_text (connection_at old j).out.outgoing) (written_text (connection_at new j).out.outgoing)
            (stays_written (connection_at old j).number) (text_stays j there) on.written);
      }

  listed_on : All (IsOpenPlace old before) places → All (IsOpenPlace new after) places
  listed_on is = All-weaker (IsOpenPlace old before) (IsOpenPlace new after) (λ j place. record {
    within = subst (λ n. j < n) (sym goes.count) place.within;
    open_still = subst (λ n. (after n).closed ≡ false) (sym (same j place.within).number) (stays_open (connection_at old j).number place.open_still);
  }) places is

  pub wired_on : IsWired new places door after
  wired_on = record {
    each = line;
    listed = listed_on was.listed;
    all = λ j is none. (let there = small j is in was.all j there (stood (connection_at old j).cause (connection_at new j).cause (same j there).ended none));
  }

pub below_or_at : (k n : ℕ) → k < n + 1 → (k < n) ⊎ (k ≡ n)
below_or_at k zero within = inr (omega arith)
below_or_at zero (suc n) within = inl (omega arith)
below_or_at (suc k) (suc n) within = elim (below_or_at k n (omega arith)) [ inl small ↦ inl (omega arith) | inr at ↦ inr (ap suc at) ]

-- nothing came, was cut or written
pub still_wired : (old new : Board) (places : List ℕ) (door : Door) (links : ℕ → Link) → GoesOnTo old new → length new.connections ≡ length old.connections
    → ((k : ℕ) → k < length old.connections → KeepsBytes (connection_at old k) (connection_at new k)) → IsWired old places door links → IsWired new places door links
still_wired old new places door links goes count bytes was = record {
  each = λ j within.
      let there : j < length old.connections = subst (λ n. j < n) count within in
      let c = goes.each j there in
      let kept = bytes j there in
      let on = was.each j there in
      let stood_before = λ (none : (connection_at new j).cause ≡ None). stood (connection_at old j).cause (connection_at new j).cause c.ended none in
      record {
        numbered = subst (IsNumbered door) (sym c.number) on.numbered;
        stands = λ none. subst (λ n. (links n).closed ≡ false) (sym c.number) (on.stands (stood_before none));
        roomy = λ none.
            (let had = on.roomy (stood_before none) in
            let long : length (connection_at new j).held ≡ length (connection_at old j).held = ap (λ (xs : List ℕ). length xs) kept.held in
            omega arith);
        written = subst (λ n. IfSome (links n).written (λ bytes. bytes ≡ written_text (connection_at new j).out.outgoing)) (sym c.number)
            (if_same (links (connection_at old j).number).written (links (connection_at old j).number).written (written_text (connection_at old j).out.outgoing) (written_text (connection_at new j).out.outgoing) refl kept.written on.written);
      };
  listed = All-weaker (IsOpenPlace old links) (IsOpenPlace new links) (λ j place. record {
    within = subst (λ n. j < n) (sym count) place.within;
    open_still = subst (λ n. (links n).closed ≡ false) (sym (goes.each j place.within).number) place.open_still;
  }) places was.listed;
  all = λ j within none.
      (let there : j < length old.connections = subst (λ n. j < n) count within in
      was.all j there (stood (connection_at old j).cause (connection_at new j).cause (goes.each j there).ended none));
}
