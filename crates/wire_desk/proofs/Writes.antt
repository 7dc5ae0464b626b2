-- What is written of a connection, one write after another.
use Rattle.std.proofs.Common.{◌≡◌, ◌≢◌, ◌⊎◌, inl, inr, ℕ, ◌+◌, ◌-◌, ◌<◌, ◌≤◌, Bool, true, false, List, [], ◌∷◌, ◌++◌, length, take, drop, get_or, set, Option, None, Some, refl, sym, ap, subst, ◌∙◌, arith}
use Rattle.std.proofs.Math.Seq.{take-add}
use Rattle.std.proofs.lemmas.Bool.{eqb-false, le-leb, leb-true}
use Rattle.std.proofs.lemmas.List.{get_or-set_other, get_or-set_same, length-drop, length-set, length-take, set-get_or, set-set, take-take}
use Rattle.std.specs.Prelude.{IfSome, if◌then◌else◌, ◌==◌, min, nat_le}
use Rattle.connection_core.specs.Connection.{ConnectionState}
use Rattle.connection_core.specs.Outgoing.{Outgoing, after_writing, ends_behind, waiting_text, written_text}
use Rattle.connection_core.specs.declared.limits.TheConstants.{MOST_WRITTEN}
use Rattle.gate_io.specs.Wire.{Door, IsOpen, Link, LinkGoesOn, OthersStay, WireTakesFrom, WritesAsPlanned}
use Rattle.gate_io.specs.declared.wires.WireWrote.{WireWrote}
use Rattle.gate_io.specs.declared.wires.WireWrote.TheVariants as wrote
use Rattle.switchboard.specs.Board.{Board, connection_at, no_connection}
use Rattle.switchboard.specs.Happenings.{Happens, writes}
use Rattle.wire_desk.specs.Lines.{TookWhatIsWritten}
use Rattle.wire_desk.specs.Planned.{IsPlannedOnce, OnceAsPlanned}
use Rattle.wire_desk.specs.Steps.{GoesOnWriting, HasStopped, WritesSome}
use Rattle.wire_desk.specs.declared.written.Stop.{Stop}
use Rattle.wire_desk.specs.declared.written.Stop.TheVariants.{AllTaken, Blocked, Failed, MostWritten}
use Rattle.wire_desk.specs.declared.written.Wrote.{Wrote}
use Rattle.wire_desk.proofs.Planned.{came_of, once}

bool_cases : (b : Bool) → (b ≡ true) ⊎ (b ≡ false)
bool_cases true = inl refl
bool_cases false = inr refl

-- a wire that told nothing tells nothing
untold_on : (after : Option (List ℕ)) (text : List ℕ) → after ≡ None → IfSome after (λ bytes. bytes ≡ text)
untold_on None text none = tt
untold_on (Some bytes) text none = absurd (cc none)

-- the wire took the next n bytes
pub took_on : (before after : Option (List ℕ)) (out : Outgoing) (limit n : ℕ) → n ≤ length (take limit (waiting_text out)) → WireTakesFrom before (wrote.Bytes n) (take limit (waiting_text out)) after
    → IfSome before (λ bytes. bytes ≡ written_text out) → IfSome after (λ bytes. bytes ≡ written_text (after_writing n out))
took_on None after out limit n within takes was = untold_on after (written_text (after_writing n out)) takes
took_on (Some bytes) after out limit n within takes was =
    let few : n ≤ limit = omega (arith, length-take limit (waiting_text out)) in
    let piece : take n (take limit (waiting_text out)) ≡ take n (waiting_text out) = take-take n limit (waiting_text out) few in
    let text : take (out.written + n) out.text ≡ take out.written out.text ++ take n (drop out.written out.text) = take-add out.written n out.text in
    let told : bytes ++ take n (take limit (waiting_text out)) ≡ written_text (after_writing n out) = cc in
    subst (λ (w : Option (List ℕ)). IfSome w (λ bytes. bytes ≡ written_text (after_writing n out))) (sym takes) told

-- a write that takes no bytes
abbrev IsNoTake : WireWrote → Type 0
IsNoTake (wrote.Bytes n) = ⊥
IsNoTake wrote.Blocked = Unit {0}
IsNoTake wrote.Failed = Unit {0}

-- it took nothing
pub took_none : (answer : WireWrote) (before after : Option (List ℕ)) (piece text : List ℕ) → IsNoTake answer → WireTakesFrom before answer piece after
    → IfSome before (λ bytes. bytes ≡ text) → IfSome after (λ bytes. bytes ≡ text)
took_none answer None after piece text none takes was = untold_on after text takes
took_none wrote.Blocked (Some bytes) after piece text none takes was = subst (λ (w : Option (List ℕ)). IfSome w (λ bytes. bytes ≡ text)) (sym takes) was
took_none wrote.Failed (Some bytes) after piece text none takes was = subst (λ (w : Option (List ℕ)). IfSome w (λ bytes. bytes ≡ text)) (sym takes) was
took_none (wrote.Bytes n) (Some bytes) after piece text none takes was = absurd none

-- the ends behind more bytes are those of the ends behind fewer
pub ends_further : (first second : ℕ) (ends : List ℕ) → first ≤ second → ends_behind second (ends_behind first ends) ≡ ends_behind second ends
ends_further first second [] more = refl
ends_further first second (end ∷ ends) more = elim (bool_cases (nat_le end first)) [
  | inl within ↦
      let small : end ≤ first = leb-true end first within in
      let later : nat_le end second ≡ true = le-leb end second (omega arith) in
      ap (λ (b : Bool). ends_behind second (if b then ends_behind first ends else end ∷ ends)) within ∙ (ends_further first second ends more ∙ sym (ap (λ (b : Bool). if b then ends_behind second ends else end ∷ ends) later))
  | inr behind ↦ ap (λ (b : Bool). ends_behind second (if b then ends_behind first ends else end ∷ ends)) behind
]

-- one write behind another
pub written_further : (a b : ℕ) (out : Outgoing) → after_writing b (after_writing a out) ≡ after_writing (a + b) out
written_further a b out =
    let sum : (out.written + a) + b ≡ out.written + (a + b) = omega arith in
    ap (λ (ends : List ℕ). record { text = out.text; written = (out.written + a) + b; ends = ends; unmade = out.unmade }) (ends_further (out.written + a) ((out.written + a) + b) out.ends (omega arith))
    ∙ ap (λ (n : ℕ). record { text = out.text; written = n; ends = ends_behind n out.ends; unmade = out.unmade }) sum

-- one connection changes twice in what is to be written
module _ (k : ℕ) (first second third : Board) where
  twice : k < length first.connections → second.connections ≡ set first.connections k (record (connection_at first k) { out = (connection_at second k).out })
      → third.connections ≡ set second.connections k (record (connection_at second k) { out = (connection_at third k).out })
      → third.connections ≡ set first.connections k (record (connection_at first k) { out = (connection_at third k).out })
  twice within one two =
      let last = record (connection_at first k) { out = (connection_at third k).out } in
      let here : connection_at second k ≡ record (connection_at first k) { out = (connection_at second k).out } =
      ap (λ (cs : List ConnectionState). get_or cs k no_connection) one ∙ get_or-set_same first.connections k (record (connection_at first k) { out = (connection_at second k).out }) no_connection within in
      two ∙ (ap (λ (c : ConnectionState). set second.connections k (record c { out = (connection_at third k).out })) here
      ∙ (ap (λ (cs : List ConnectionState). set cs k last) one ∙ set-set first.connections k (record (connection_at first k) { out = (connection_at second k).out }) last))

  pub goes_further : k < length first.connections → GoesOnWriting k first second → GoesOnWriting k second third → GoesOnWriting k first third
  goes_further within one two = record {
    sessions = two.sessions ∙ one.sessions;
    places = two.places ∙ one.places;
    connections = twice within one.connections two.connections;
  }

  pub writes_further : (a b : ℕ) → Happens (writes k a) first second → Happens (writes k b) second third → Happens (writes k (a + b)) first third
  writes_further a b one two =
      let within = one.changes.within in
      let lines = twice within (ap (λ (x : Board). x.connections) one.changes.others) (ap (λ (x : Board). x.connections) two.changes.others) in
      let out = (connection_at first k).out.outgoing in
      let later : (connection_at second k).out.outgoing ≡ after_writing a out = one.outgoing in
      let left : b ≤ length (waiting_text (after_writing a out)) = subst (λ (o : Outgoing). b ≤ length (waiting_text o)) later two.within in
      record {
        within = (let some = one.within in omega (arith, length-drop out.written out.text, length-drop (out.written + a) out.text));
        changes = record {
          within = within;
          others = two.changes.others ∙ (ap (λ (x : Board). record x { connections = set second.connections k (record (connection_at second k) { out = (connection_at third k).out }) }) one.changes.others
              ∙ ap (λ (cs : List ConnectionState). record first { connections = cs }) (sym (ap (λ (x : Board). x.connections) two.changes.others) ∙ lines));
        };
        outgoing = two.outgoing ∙ (ap (λ (o : Outgoing). after_writing b o) later ∙ written_further a b out);
      }

  pub some_further : (a b : ℕ) → WritesSome k a first second → Happens (writes k b) second third → WritesSome k (a + b) first third
  some_further a b (inl none) two =
      let from : Happens (writes k b) first third = subst (λ (x : Board). Happens (writes k b) x third) none.1 two in
      inr (subst (λ n. Happens (writes k n) first third) (omega (arith, none.0)) from)
  some_further a b (inr one) two = inr (writes_further a b one two)

-- how much still waits behind some writes
pub still_waits : (k n : ℕ) (old new : Board) → WritesSome k n old new
    → (n ≤ length (waiting_text (connection_at old k).out.outgoing)) × (length (waiting_text (connection_at new k).out.outgoing) ≡ length (waiting_text (connection_at old k).out.outgoing) - n)
still_waits k n old new (inl none) =
    let same : length (waiting_text (connection_at new k).out.outgoing) ≡ length (waiting_text (connection_at old k).out.outgoing) = ap (λ (b : Board). length (waiting_text (connection_at b k).out.outgoing)) none.1 in
    (omega (arith, none.0), omega (arith, none.0, same))
still_waits k n old new (inr some) =
    let out = (connection_at old k).out.outgoing in
    let now : length (waiting_text (connection_at new k).out.outgoing) ≡ length (waiting_text (after_writing n out)) = ap (λ (o : Outgoing). length (waiting_text o)) some.outgoing in
    (some.within, now ∙ omega (arith, length-drop out.written out.text, length-drop (out.written + n) out.text))

pub goes_itself : (k : ℕ) (board : Board) → GoesOnWriting k board board
goes_itself k board = record { sessions = refl; places = refl; connections = sym (set-get_or board.connections k no_connection) }

-- how many connections there are, and which number each has, stays
pub count_stays : (k : ℕ) (old new : Board) → GoesOnWriting k old new → length new.connections ≡ length old.connections
count_stays k old new goes = ap length goes.connections ∙ length-set old.connections k (record (connection_at old k) { out = (connection_at new k).out })

pub line_here : (k : ℕ) (old new : Board) → k < length old.connections → GoesOnWriting k old new → connection_at new k ≡ record (connection_at old k) { out = (connection_at new k).out }
line_here k old new within goes = ap (λ (cs : List ConnectionState). get_or cs k no_connection) goes.connections ∙ get_or-set_same old.connections k (record (connection_at old k) { out = (connection_at new k).out }) no_connection within

pub line_there : (k j : ℕ) (old new : Board) → j ≢ k → GoesOnWriting k old new → connection_at new j ≡ connection_at old j
line_there k j old new other goes = ap (λ (cs : List ConnectionState). get_or cs j no_connection) goes.connections ∙ get_or-set_other old.connections k j (record (connection_at old k) { out = (connection_at new k).out }) no_connection other

-- what the wire does behind some writes of one connection, under this number
pub record GoesOnAtWire (n : ℕ) (first_door last_door : Door) (first last : ℕ → Link) (c : ConnectionState) : Type 0 where
  pub goes_on : LinkGoesOn (first n) (last n)
  pub open_still : IsOpen last_door last n
  pub others : OthersStay first last n
  pub left : (last n).left ≡ (first n).left
  pub written : TookWhatIsWritten (last n) c
  pub door : last_door ≡ first_door

pub link_further : (first second third : Link) → LinkGoesOn first second → LinkGoesOn second third → LinkGoesOn first third
link_further first second third one two = record {
  read_faults = (let a = one.read_faults in let b = two.read_faults in omega arith);
  read_blocks = (let a = one.read_blocks in let b = two.read_blocks in omega arith);
  ends = (let a = one.ends in let b = two.ends in omega arith);
  write_faults = (let a = one.write_faults in let b = two.write_faults in omega arith);
  write_blocks = (let a = one.write_blocks in let b = two.write_blocks in omega arith);
}

pub wire_further : (n : ℕ) (first_door second_door third_door : Door) (first second third : ℕ → Link) (c d : ConnectionState) → GoesOnAtWire n first_door second_door first second c
    → GoesOnAtWire n second_door third_door second third d → GoesOnAtWire n first_door third_door first third d
wire_further n first_door second_door third_door first second third c d one two = record {
  goes_on = link_further (first n) (second n) (third n) one.goes_on two.goes_on;
  open_still = two.open_still;
  others = λ m other. two.others m other ∙ one.others m other;
  left = two.left ∙ one.left;
  written = two.written;
  door = two.door ∙ one.door;
}

-- the count that rose is no less behind what follows
pub stopped_further : (stop : Stop) (bytes : ℕ) (c : ConnectionState) (first second third : Link) → HasStopped stop bytes c first second → LinkGoesOn second third → HasStopped stop bytes c first third
stopped_further AllTaken bytes c first second third stopped goes = stopped
stopped_further MostWritten bytes c first second third stopped goes = stopped
stopped_further Blocked bytes c first second third stopped goes = λ small. (let more = goes.write_blocks in let rose : first.write_blocks < second.write_blocks = stopped (omega arith) in omega arith)
stopped_further Failed bytes c first second third stopped goes = λ small. (let more = goes.write_faults in let rose : first.write_faults < second.write_faults = stopped (omega arith) in omega arith)

-- a piece that isn't empty has a byte
pub some_of : (empty : Bool) (piece : List ℕ) → empty ≡ (length piece == 0) → empty ≡ false → 0 < length piece
some_of empty piece is isnt = (let none = eqb-false (length piece) 0 (sym is ∙ isnt) in omega (arith, none))

-- one write was asked for as many bytes as wait, up to the limit
pub as_asked : (limit number : ℕ) (piece : List ℕ) (c : ConnectionState) (before after : ℕ → Link) (answer : WireWrote) → number ≡ c.number → piece ≡ take limit (waiting_text c.out.outgoing) → 0 < length piece
    → WritesAsPlanned (before number) (length piece) answer (after number) → OnceAsPlanned (before c.number) (length (take limit (waiting_text c.out.outgoing))) (came_of answer) (after c.number)
as_asked limit number piece c before after answer same bytes some planned =
    subst (λ n. OnceAsPlanned (before n) (length (take limit (waiting_text c.out.outgoing))) (came_of answer) (after n)) same
    (subst (λ (p : List ℕ). OnceAsPlanned (before number) (length p) (came_of answer) (after number)) bytes
    (once (before number).plan (after number).plan (length piece) answer some planned))

-- behind some writes the next is for what is left of the bytes that waited, up to a turn's most
pub once_more : (k bytes : ℕ) (first now : Board) (before after : ℕ → Link) (answer : Wrote) → k < length first.connections → GoesOnWriting k first now → WritesSome k bytes first now
    → OnceAsPlanned (before (connection_at now k).number) (length (take (MOST_WRITTEN - bytes) (waiting_text (connection_at now k).out.outgoing))) answer (after (connection_at now k).number)
    → IfSome (before (connection_at first k).number).plan (λ plan. IsPlannedOnce plan (min (length (waiting_text (connection_at first k).out.outgoing)) MOST_WRITTEN - bytes) answer (after (connection_at first k).number).plan)
once_more k bytes first now before after answer within goes wrote planned =
    let waiting = length (waiting_text (connection_at first k).out.outgoing) in
    let limit = MOST_WRITTEN - bytes in
    let same : (connection_at now k).number ≡ (connection_at first k).number = ap (λ (x : ConnectionState). x.number) (line_here k first now within goes) in
    let waits : length (waiting_text (connection_at now k).out.outgoing) ≡ waiting - bytes = (still_waits k bytes first now wrote).1 in
    let len : length (take limit (waiting_text (connection_at now k).out.outgoing)) ≡ min waiting MOST_WRITTEN - bytes =
    length-take limit (waiting_text (connection_at now k).out.outgoing) ∙ ap (min limit) waits ∙ (let e : min (MOST_WRITTEN - bytes) (waiting - bytes) ≡ min waiting MOST_WRITTEN - bytes = omega arith in e) in
    subst (λ (n : ℕ). IfSome (before (connection_at first k).number).plan (λ plan. IsPlannedOnce plan n answer (after (connection_at first k).number).plan)) len
    (subst (λ n. OnceAsPlanned (before n) (length (take limit (waiting_text (connection_at now k).out.outgoing))) answer (after n)) same planned)
