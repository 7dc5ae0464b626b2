-- Which words may be shown to a registry, as far as its own word tells it.
use Rattle.std.specs.Prelude.{◌==◌, ◌&&◌, ◌||◌, not, nat_le, Bool}
use Rattle.lease_core.specs.declared.limits.TheConstants.{MOST_LIBRARIES}
use Rattle.lease_core.specs.declared.word.Word.{Word}
use Rattle.lease_core.specs.Lines.{is_released}

-- the session was given back, and any library may be named
abbrev pub names_heir : Word → Bool
names_heir w = is_released w.standing && nat_le 1 w.owner && nat_le w.owner MOST_LIBRARIES

-- the registry's word names its library still, and this one names the same
abbrev pub names_library : Word → Word → Bool
names_library last w = not (is_released last.standing) && (w.owner == last.owner)

abbrev pub is_next_word : Word → Word → Bool
is_next_word last w = (w.lease == last.lease) && nat_le last.count w.count && (names_heir w || names_library last w)
