-- What a script does at a wire in memory lets no count of its connections fall.
use Rattle.std.proofs.Common.{◌≡◌, ◌≢◌, ◌⊎◌, inl, inr, ℕ, zero, suc, ◌-◌, ◌≤◌, Bool, true, false, List, [], ◌∷◌, ◌++◌, get_or, map, set, refl, sym, ap, subst, ◌∙◌, arith}
use Rattle.std.proofs.lemmas.Bool.{cases_eq as same_or_other, leb-true}
use Rattle.std.proofs.lemmas.List.{get_or-set_other}
use Rattle.std.specs.Prelude.{if◌then◌else◌, ◌||◌, max}
use Rattle.fix_frame.specs.Frame.{frame_of}
use Rattle.gate_io.specs.MemWire.{ChangesLink, LinkState, WireState, is_of_dial, link_at, link_given, link_reserved, new_link, shown, state_at, wire_reserved}
use Rattle.gate_io.specs.Wire.{LinkGoesOn}
use Rattle.gate_io.specs.declared.wires.TheConstants.{FIRST_DIALLED}
use Rattle.script_run.specs.Comes.{ComesAs}
use Rattle.script_text.specs.declared.steps.Step.{Step}
use Rattle.script_text.specs.declared.steps.Step.TheVariants as step

-- the counts of a connection
record Counts : Type 0 where
  read_faults : ℕ
  read_blocks : ℕ
  ends : ℕ
  write_faults : ℕ
  write_blocks : ℕ

abbrev counts_of : LinkState → Counts
counts_of l = record { read_faults = l.read_faults; read_blocks = l.read_blocks; ends = l.ends; write_faults = l.write_faults; write_blocks = l.write_blocks }

goes_on : (old new : LinkState) → counts_of new ≡ counts_of old → LinkGoesOn (shown old) (shown new)
goes_on old new same = record {
  read_faults = (let e = ap (λ (c : Counts). c.read_faults) same in omega arith);
  read_blocks = (let e = ap (λ (c : Counts). c.read_blocks) same in omega arith);
  ends = (let e = ap (λ (c : Counts). c.ends) same in omega arith);
  write_faults = (let e = ap (λ (c : Counts). c.write_faults) same in omega arith);
  write_blocks = (let e = ap (λ (c : Counts). c.write_blocks) same in omega arith);
}

-- each connection has the same counts
abbrev SameCounts : WireState → WireState → Type 0
SameCounts old new = (c : ℕ) → counts_of (state_at new c) ≡ counts_of (state_at old c)

bool_is : (b : Bool) → (b ≡ true) ⊎ (b ≡ false)
bool_is true = inl refl
bool_is false = inr refl

-- another connection stays, where one of either kind changes
kinds : (b : Bool) (one two three four : LinkState) → (b ≡ true → one ≡ three) → (b ≡ false → two ≡ four) → (if b then one else two) ≡ (if b then three else four)
kinds true one two three four first second = first refl
kinds false one two three four first second = second refl

other_of : (w : WireState) (c d : ℕ) (l : LinkState) (b : Bool) → is_of_dial c ≡ b → d ≢ c → state_at (if b then record w { taken = set w.taken (c - FIRST_DIALLED) l } else record w { links = set w.links c l }) d ≡ state_at w d
other_of w c d l true is other = kinds (is_of_dial d) _ _ _ _
    (λ far. let c_far : FIRST_DIALLED ≤ c = leb-true FIRST_DIALLED c is in let d_far : FIRST_DIALLED ≤ d = leb-true FIRST_DIALLED d far in get_or-set_other w.taken (c - FIRST_DIALLED) (d - FIRST_DIALLED) l new_link (λ e. other (omega arith)))
    (λ near. refl)
other_of w c d l false is other = kinds (is_of_dial d) _ _ _ _ (λ far. refl) (λ near. get_or-set_other w.links c d l new_link other)

changed : (old new : WireState) (c : ℕ) (l : LinkState) → ChangesLink old c l new → counts_of l ≡ counts_of (state_at old c) → SameCounts old new
changed old new c l changes same d = elim (same_or_other d c) [
  | inl e ↦ subst (λ n. counts_of (state_at new n) ≡ counts_of (state_at old n)) (sym e) (ap counts_of changes.changed ∙ same)
  | inr other ↦ ap (λ (w : WireState). counts_of (state_at w d)) changes.whole ∙ ap counts_of (other_of old c d l (is_of_dial c) refl other)
]

-- one new connection more is what stands for one that wasn't made
one_more : (links : List LinkState) (i : ℕ) → get_or (links ++ new_link ∷ []) i new_link ≡ get_or links i new_link
one_more [] zero = refl
one_more [] (suc i) = refl
one_more (l ∷ links) zero = refl
one_more (l ∷ links) (suc i) = one_more links i

given : (l : LinkState) (bytes : List ℕ) (finished closed : Bool) → counts_of (if (finished || closed) then l else record l { left = l.left ++ bytes }) ≡ counts_of l
given l bytes true closed = refl
given l bytes false true = refl
given l bytes false false = refl

reserved_one : (n : ℕ) (l : LinkState) (closed : Bool) → counts_of (if closed then l else record l { room = max l.room n }) ≡ counts_of l
reserved_one n l true = refl
reserved_one n l false = refl

reserved_at : (n : ℕ) (links : List LinkState) (i : ℕ) → counts_of (get_or (map (link_reserved n) links) i new_link) ≡ counts_of (get_or links i new_link)
reserved_at n [] i = refl
reserved_at n (l ∷ links) zero = reserved_one n l l.closed
reserved_at n (l ∷ links) (suc i) = reserved_at n links i

kinds_counted : (b : Bool) (one two three four : LinkState) → counts_of one ≡ counts_of three → counts_of two ≡ counts_of four → counts_of (if b then one else two) ≡ counts_of (if b then three else four)
kinds_counted true one two three four first second = first
kinds_counted false one two three four first second = second

came : (what : Step) (old new : WireState) → ComesAs what old new → SameCounts old new
came step.Connect old new is c = ap (λ (w : WireState). counts_of (state_at w c)) is ∙ kinds_counted (is_of_dial c) _ _ _ _ refl (ap counts_of (one_more old.links c))
came step.Take old new is c = ap (λ (w : WireState). counts_of (state_at w c)) is ∙ kinds_counted (is_of_dial c) _ _ _ _ (ap counts_of (one_more old.taken (c - FIRST_DIALLED))) refl
came (step.Bytes k bytes) old new is c = changed old new k (link_given (state_at old k) bytes) is (given (state_at old k) bytes (state_at old k).finished (state_at old k).closed) c
came (step.Frame k body) old new is c = changed old new k (link_given (state_at old k) (frame_of body)) is (given (state_at old k) (frame_of body) (state_at old k).finished (state_at old k).closed) c
came (step.Finish k) old new is c = changed old new k (record (state_at old k) { finished = true }) is refl c
came (step.FailRead k) old new is c = changed old new k (record (state_at old k) { read_fails = true }) is refl c
came (step.FailWrite k after) old new is c = changed old new k _ is refl c
came (step.Block k after) old new is c = changed old new k _ is refl c
came (step.Unblock k) old new is c = changed old new k _ is refl c
came (step.At moment) old new is c = ap (λ (w : WireState). counts_of (state_at w c)) is
came step.Turn old new is c = ap (λ (w : WireState). counts_of (state_at w c)) is
came (step.Lib library what) old new is c = ap (λ (w : WireState). counts_of (state_at w c)) is

-- what comes at the wire, and the room that is made
pub comes_on : (what : Step) (old new : WireState) → ComesAs what old new → (c : ℕ) → LinkGoesOn (link_at old c) (link_at new c)
comes_on what old new is c = goes_on (state_at old c) (state_at new c) (came what old new is c)

pub room_on : (n : ℕ) (w : WireState) (c : ℕ) → LinkGoesOn (link_at w c) (link_at (wire_reserved n w) c)
room_on n w c = goes_on (state_at w c) (state_at (wire_reserved n w) c) (kinds_counted (is_of_dial c) _ _ _ _ (reserved_at n w.taken (c - FIRST_DIALLED)) (reserved_at n w.links c))

pub same_on : (old new : WireState) → new ≡ old → (c : ℕ) → LinkGoesOn (link_at old c) (link_at new c)
same_on old new same c = goes_on (state_at old c) (state_at new c) (ap (λ (w : WireState). counts_of (state_at w c)) same)
