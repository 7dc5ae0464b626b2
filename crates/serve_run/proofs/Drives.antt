-- The engine's turns, one behind another.
use Rattle.std.proofs.Common.{◌≡◌, ℕ, ◌<◌, Bool, true, false, List, [], ◌∷◌, ◌++◌, length, append_assoc, refl, ap, subst, sym, ◌∙◌}
use Rattle.std.proofs.Math.Bool.{or-false, or_assoc}
use Rattle.std.specs.Prelude.{◌||◌, slice_get, slice_index_or}
use Rattle.engine_loop.specs.Turns.{AtWire}
use Rattle.engine_loop.specs.declared.records.Turn.{Turn}
use Rattle.gate_io.specs.Clock.{TakesReadings}
use Rattle.serve_run.specs.Drives.{DrivesToEnd}
use Rattle.engine_loop.specs.declared.engine.Engine.{Engine}
use Rattle.serve_run.specs.Ended.{Awaits, IsOver, has_said, is_ended, or_ended}
use Rattle.serve_run.specs.declared.awaited.Awaited.{Awaited}

-- readings that are taken one after another
pub takes_more : {C : Type 0} (HasRead : C → List ℕ → Type 0) (a b c : C) (xs ys : List ℕ) → TakesReadings HasRead a xs b → TakesReadings HasRead b ys c → TakesReadings HasRead a (xs ++ ys) c
takes_more HasRead a b c xs ys first second = λ before has. subst (λ (rs : List ℕ). HasRead c rs) (append_assoc before xs ys) (second (before ++ xs) (first before has))

-- one turn more
pub said_more : (turns : List Turn) (turn : Turn) (place : ℕ) → has_said (turns ++ turn ∷ []) place ≡ or_ended (has_said turns place) (slice_get turn.libs place)
said_more [] turn place = or-false (is_ended (slice_get turn.libs place))
said_more (t ∷ ts) turn place = ap (λ (b : Bool). is_ended (slice_get t.libs place) || b) (said_more ts turn place) ∙ sym (or_assoc (is_ended (slice_get t.libs place)) (has_said ts place) (is_ended (slice_get turn.libs place)))

pub awaits_more : (connections libraries : ℕ) (turns : List Turn) (turn : Turn) (old new : Awaited) → Awaits connections libraries turns old
    → ((place : ℕ) → place < length old.said → slice_index_or new.said place false ≡ or_ended (slice_index_or old.said place false) (slice_get turn.libs place))
    → new ≡ record old { said = new.said } → length new.said ≡ length old.said → Awaits connections libraries (turns ++ turn ∷ []) new
awaits_more connections libraries turns turn old new was hears rest same = record {
  connections_are = ap (λ (a : Awaited). a.connections) rest ∙ was.connections_are;
  libraries_are = ap (λ (a : Awaited). a.libraries) rest ∙ was.libraries_are;
  few = was.few;
  places = same ∙ was.places;
  said = λ place within. hears place (subst (λ (n : ℕ). place < n) (sym was.places) within) ∙ (ap (λ (b : Bool). or_ended b (slice_get turn.libs place)) (was.said place within) ∙ sym (said_more turns turn place));
}

-- the same turns, of whose readings something else is told
pub reads_told : (connections libraries most : ℕ) (over : Bool) (Read Told : List ℕ → Type 0) (old new : AtWire) → ((readings : List ℕ) → Read readings → Told readings)
    → DrivesToEnd connections libraries most over Read old new → DrivesToEnd connections libraries most over Told old new
reads_told connections libraries most over Read Told old new tells drives = record {
  count = drives.count;
  few = drives.few;
  last = drives.last;
  at = drives.at;
  drives = drives.drives;
  reads = tells drives.last.readings drives.reads;
  ended = drives.ended;
  spent = drives.spent;
}

-- what is awaited, by the numbers that the code has
pub own_awaits : (connections libraries : ℕ) (turns : List Turn) (a : Awaited) → Awaits connections libraries turns a → Awaits a.connections a.libraries turns a
own_awaits connections libraries turns a was = record { connections_are = refl; libraries_are = refl; few = rw was.libraries_are was.few; places = was.places; said = was.said }

pub awaits_on : (connections libraries : ℕ) (turns : List Turn) (old new : Awaited) → Awaits connections libraries turns old → Awaits old.connections old.libraries turns new → Awaits connections libraries turns new
awaits_on connections libraries turns old new was now = record {
  connections_are = now.connections_are ∙ was.connections_are;
  libraries_are = now.libraries_are ∙ was.libraries_are;
  few = was.few;
  places = now.places;
  said = now.said;
}

pub over_from : (connections libraries : ℕ) (turns : List Turn) (a : Awaited) (e : Engine) → Awaits connections libraries turns a → IsOver a.connections a.libraries e turns → IsOver connections libraries e turns
over_from connections libraries turns a e was over = record { came = over.came ∙ was.connections_are; ended = over.ended; said = λ place within. over.said place (rw was.libraries_are within) }

pub over_to : (connections libraries : ℕ) (turns : List Turn) (a : Awaited) (e : Engine) → Awaits connections libraries turns a → IsOver connections libraries e turns → IsOver a.connections a.libraries e turns
over_to connections libraries turns a e was over = record { came = over.came ∙ sym was.connections_are; ended = over.ended; said = λ place within. over.said place (subst (λ (n : ℕ). place < n) was.libraries_are within) }

-- the same turns of a run that waits for as much
pub drives_as : (connections awaited libraries said most : ℕ) (over : Bool) (Read : List ℕ → Type 0) (old new : AtWire) → connections ≡ awaited → libraries ≡ said → DrivesToEnd connections libraries most over Read old new → DrivesToEnd awaited said most over Read old new
drives_as connections awaited libraries said most over Read old new same_connections same_libraries drives =
    subst (λ (n : ℕ). DrivesToEnd n said most over Read old new) same_connections (subst (λ (n : ℕ). DrivesToEnd connections n most over Read old new) same_libraries drives)
