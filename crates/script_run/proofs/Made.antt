-- What happens to the connections of a wire in memory makes no new one.
use Rattle.std.proofs.Common.{◌≡◌, ℕ, ◌+◌, ◌-◌, Bool, true, false, List, length, map, set, ap, sym, ◌∙◌}
use Rattle.std.proofs.lemmas.List.{length-map, length-set}
use Rattle.std.specs.Prelude.{if◌then◌else◌}
use Rattle.gate_io.specs.MemWire.{ChangesLink, IsMade, LinkState, SameButRoom, WireState, is_of_dial, with_link, without_room}
use Rattle.gate_io.specs.declared.wires.TheConstants.{FIRST_DIALLED}
use Rattle.script_run.specs.Comes.{next_of}
use Rattle.script_text.specs.Lawful.{IsMade as IsNumbered}
use Rattle.script_text.specs.declared.numbers.NextNumbers.{NextNumbers}

-- the numbers by how many there are
abbrev numbers : ℕ → ℕ → NextNumbers
numbers links taken = record { connect = links; take = FIRST_DIALLED + taken }

one_set : (w : WireState) (c k : ℕ) (l : LinkState) (b : Bool) → next_of (if b then record w { taken = set w.taken k l } else record w { links = set w.links c l }) ≡ next_of w
one_set w c k l true = ap (λ n. numbers (length w.links) n) (length-set w.taken k l)
one_set w c k l false = ap (λ n. numbers n (length w.taken)) (length-set w.links c l)

pub link_changed : (old new : WireState) (c : ℕ) (l : LinkState) → ChangesLink old c l new → next_of new ≡ next_of old
link_changed old new c l changes = ap next_of changes.whole ∙ one_set old c (c - FIRST_DIALLED) l (is_of_dial c)

pub same_numbers : (old new : WireState) → length new.links ≡ length old.links → length new.taken ≡ length old.taken → next_of new ≡ next_of old
same_numbers old new links taken = ap (λ n. numbers n (length new.taken)) links ∙ ap (λ n. numbers (length old.links) n) taken

-- as many without their room
as_many : (old new : List LinkState) → map without_room new ≡ map without_room old → length new ≡ length old
as_many old new same = sym (length-map new without_room) ∙ ap (λ (ls : List LinkState). length ls) same ∙ length-map old without_room

pub room_made : (old new : WireState) → SameButRoom old new → next_of new ≡ next_of old
room_made old new same = same_numbers old new (as_many old.links new.links (ap (λ (w : WireState). w.links) same)) (as_many old.taken new.taken (ap (λ (w : WireState). w.taken) same))

pub there : (w : WireState) (c : ℕ) → IsNumbered (next_of w) c → IsMade w c
there w c is = record { comes = is.comes; dials = is.dialled }
