-- What comes to a wire leaves its connections on it.
use Rattle.std.proofs.Common.{◌≡◌, ◌≢◌, ◌⊎◌, inl, inr, ℕ, zero, suc, ◌-◌, ◌<◌, ◌≤◌, Bool, true, false, List, [], ◌∷◌, ◌++◌, get_or, map, set, Some, refl, sym, ap, subst, ◌∙◌, arith}
use Rattle.std.proofs.lemmas.Bool.{leb-true}
use Rattle.std.proofs.lemmas.List.{get_or-set_other}
use Rattle.std.proofs.lemmas.List.Elements.{All-weaker}
use Rattle.std.specs.Prelude.{if◌then◌else◌}
use Rattle.gate_io.specs.MemWire.{ChangesLink, LinkState, SameButRoom, WireState, is_of_dial, new_link, state_at, with_link, without_room}
use Rattle.gate_io.specs.Wire.{Door, Link}
use Rattle.gate_io.specs.declared.wires.TheConstants.{FIRST_DIALLED}
use Rattle.switchboard.specs.Board.{Board, connection_at}
use Rattle.wire_desk.specs.Dials.{IsDialling}
use Rattle.wire_desk.specs.Lines.{IsNumbered, IsOpenPlace, IsWired, KnowsAsBefore, StaysKnown}
use Rattle.wire_desk.specs.declared.dialling.Dialler.{Dialler}
use Rattle.wire_desk.proofs.Progress.{same_or_other}
use Rattle.std.specs.Prelude.{IfSome}
use Rattle.connection_core.specs.Outgoing.{written_text}

module _ (before after : Door) (old new : ℕ → Link) (knows : KnowsAsBefore before after old new) where
  numbered : (n : ℕ) → IsNumbered before n → IsNumbered after n
  numbered n is = record {
    accepted = λ small. subst (λ m. n < m) (sym knows.accepted) (is.accepted small);
    dialled = λ large. (let within = is.dialled large in let same = knows.dialled in omega arith);
  }

  pub wired_known : (board : Board) (places : List ℕ) → IsWired board places before old → IsWired board places after new
  wired_known board places was = record {
    each = λ k within. (let on = was.each k within in let n = (connection_at board k).number in record {
      numbered = numbered n on.numbered;
      stands = λ none. knows.closed n ∙ on.stands none;
      roomy = on.roomy;
      written = subst (λ w. IfSome w (λ bytes. bytes ≡ written_text (connection_at board k).out.outgoing)) (sym (knows.written n)) on.written;
    });
    listed = All-weaker (IsOpenPlace board old) (IsOpenPlace board new) (λ k place. record { within = place.within; open_still = knows.closed (connection_at board k).number ∙ place.open_still }) places was.listed;
    all = was.all;
  }

  pub dialling_known : (board : Board) (d : Dialler) → IsDialling board before d → IsDialling board after d
  dialling_known board d was = record { scheduled = was.scheduled; made = was.made ∙ sym knows.dialled; few = was.few; most = was.most }

-- one new connection more is what stands for one that wasn't made
pub one_more : (links : List LinkState) (i : ℕ) → get_or (links ++ new_link ∷ []) i new_link ≡ get_or links i new_link
one_more [] zero = refl
one_more [] (suc i) = refl
one_more (l ∷ links) zero = refl
one_more (l ∷ links) (suc i) = one_more links i

-- the same connection by its number
by_kind : (b : Bool) (one two three four : LinkState) → one ≡ three → two ≡ four → (if b then one else two) ≡ (if b then three else four)
by_kind true one two three four first second = first
by_kind false one two three four first second = second

same_known : (old new : WireState) → new.accepted ≡ old.accepted → new.dialled ≡ old.dialled → ((c : ℕ) → state_at new c ≡ state_at old c) → StaysKnown old new
same_known old new accepted dialled same = record {
  accepted = accepted;
  dialled = dialled;
  closed = λ c. ap (λ (l : LinkState). l.closed) (same c);
  written = λ c. ap (λ (l : LinkState). Some l.written) (same c);
}

pub connected : (w : WireState) → StaysKnown w (record w { links = w.links ++ new_link ∷ [] })
connected w = same_known w (record w { links = w.links ++ new_link ∷ [] }) refl refl (λ c. by_kind (is_of_dial c) _ _ _ _ refl (one_more w.links c))

pub taken : (w : WireState) → StaysKnown w (record w { taken = w.taken ++ new_link ∷ [] })
taken w = same_known w (record w { taken = w.taken ++ new_link ∷ [] }) refl refl (λ c. by_kind (is_of_dial c) _ _ _ _ (one_more w.taken (c - FIRST_DIALLED)) refl)

pub accept_fails : (w : WireState) → StaysKnown w (record w { accept_fails = true })
accept_fails w = same_known w (record w { accept_fails = true }) refl refl (λ c. refl)

-- another connection is as it was
bool_is : (b : Bool) → (b ≡ true) ⊎ (b ≡ false)
bool_is true = inl refl
bool_is false = inr refl

-- how many there are is the same in both
same_count : (count : WireState → ℕ) (b : Bool) (one two : WireState) (n : ℕ) → count one ≡ n → count two ≡ n → count (if b then one else two) ≡ n
same_count count true one two n first second = first
same_count count false one two n first second = second

dialled_other : (old : WireState) (c d : ℕ) (link : LinkState) → FIRST_DIALLED ≤ c → d ≢ c → state_at (record old { taken = set old.taken (c - FIRST_DIALLED) link }) d ≡ state_at old d
dialled_other old c d link large other =
    let links = get_or old.links d new_link in
    let new = get_or (set old.taken (c - FIRST_DIALLED) link) (d - FIRST_DIALLED) new_link in
    let was = get_or old.taken (d - FIRST_DIALLED) new_link in
    elim (bool_is (is_of_dial d)) [
      | inl is ↦
          let far : FIRST_DIALLED ≤ d = leb-true FIRST_DIALLED d is in
          ap (λ b. if b then new else links) is ∙ get_or-set_other old.taken (c - FIRST_DIALLED) (d - FIRST_DIALLED) link new_link (λ e. other (omega arith)) ∙ sym (ap (λ b. if b then was else links) is)
      | inr isnt ↦ ap (λ b. if b then new else links) isnt ∙ sym (ap (λ b. if b then was else links) isnt)
    ]

accepted_other : (old : WireState) (c d : ℕ) (link : LinkState) → d ≢ c → state_at (record old { links = set old.links c link }) d ≡ state_at old d
accepted_other old c d link other = by_kind (is_of_dial d) _ _ _ _ refl (get_or-set_other old.links c d link new_link other)

other_state : (old : WireState) (c d : ℕ) (link : LinkState) → d ≢ c → state_at (with_link old c link) d ≡ state_at old d
other_state old c d link other =
    let dialled = record old { taken = set old.taken (c - FIRST_DIALLED) link } in
    let accepted = record old { links = set old.links c link } in
    elim (bool_is (is_of_dial c)) [
      | inl is ↦ ap (λ b. state_at (if b then dialled else accepted) d) is ∙ dialled_other old c d link (leb-true FIRST_DIALLED c is) other
      | inr isnt ↦ ap (λ b. state_at (if b then dialled else accepted) d) isnt ∙ accepted_other old c d link other
    ]

pub changed : (old new : WireState) (c : ℕ) (link : LinkState) → ChangesLink old c link new → link.closed ≡ (state_at old c).closed → link.written ≡ (state_at old c).written → StaysKnown old new
changed old new c link changes closed written =
    record {
      accepted = ap (λ (w : WireState). w.accepted) changes.whole ∙ same_count (λ w. w.accepted) (is_of_dial c) _ _ old.accepted refl refl;
      dialled = ap (λ (w : WireState). w.dialled) changes.whole ∙ same_count (λ w. w.dialled) (is_of_dial c) _ _ old.dialled refl refl;
      closed = λ d. elim (same_or_other d c) [
        | inl e ↦ subst (λ n. (state_at new n).closed ≡ (state_at old n).closed) (sym e) (ap (λ (l : LinkState). l.closed) changes.changed ∙ closed)
        | inr other ↦ ap (λ (w : WireState). (state_at w d).closed) changes.whole ∙ ap (λ (l : LinkState). l.closed) (other_state old c d link other)
      ];
      written = λ d. elim (same_or_other d c) [
        | inl e ↦ subst (λ n. Some (state_at new n).written ≡ Some (state_at old n).written) (sym e) (ap (λ (l : LinkState). Some l.written) changes.changed ∙ ap (λ (bs : List ℕ). Some bs) written)
        | inr other ↦ ap (λ (w : WireState). Some (state_at w d).written) changes.whole ∙ ap (λ (l : LinkState). Some l.written) (other_state old c d link other)
      ];
    }

-- room apart
but_room : (old new : List LinkState) (i : ℕ) → map without_room new ≡ map without_room old → without_room (get_or new i new_link) ≡ without_room (get_or old i new_link)
but_room [] [] i same = refl
but_room [] (n ∷ new) i same = absurd (cc same)
but_room (l ∷ old) [] i same = absurd (cc same)
but_room (l ∷ old) (n ∷ new) zero same = cc same
but_room (l ∷ old) (n ∷ new) (suc i) same = but_room old new i (cc same)

by_kind_but_room : (b : Bool) (one two three four : LinkState) → without_room one ≡ without_room three → without_room two ≡ without_room four → without_room (if b then one else two) ≡ without_room (if b then three else four)
by_kind_but_room true one two three four first second = first
by_kind_but_room false one two three four first second = second

pub reserved : (old new : WireState) → SameButRoom old new → StaysKnown old new
reserved old new same =
    let states : (c : ℕ) → without_room (state_at new c) ≡ without_room (state_at old c) = λ c. by_kind_but_room (is_of_dial c) _ _ _ _
    (but_room old.taken new.taken (c - FIRST_DIALLED) (ap (λ (w : WireState). w.taken) same)) (but_room old.links new.links c (ap (λ (w : WireState). w.links) same)) in
    record {
      accepted = ap (λ (w : WireState). w.accepted) same;
      dialled = ap (λ (w : WireState). w.dialled) same;
      closed = λ c. ap (λ (l : LinkState). l.closed) (states c);
      written = λ c. ap (λ (l : LinkState). Some l.written) (states c);
    }
