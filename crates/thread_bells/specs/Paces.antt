-- Whether a thread that finds nothing to do looks again at once, or sleeps. Moments and times are in microseconds.
use Rattle.std.specs.Prelude.{ℕ, ◌+◌, ◌*◌, ◌-◌, ◌/◌, ◌^◌, ◌&&◌, nat_lt, nat_le, min, max, Bool, true, false, Option, Some, None, if◌then◌else◌}
use Rattle.thread_bells.specs.declared.pace.TheConstants.{LOOKS, STRETCH, LEAST_REST, MOST_REST}

-- what a pace knows: since when nothing was found, whether it looks again since then, whether it does so in this stretch, until when the stretch lasts, how often that was worth it in it and how often not, and how long the next rest is
pub record Paced : Type 0 where
  pub since : Option ℕ
  pub looking : Bool
  pub looks : Bool
  pub until : ℕ
  pub found : ℕ
  pub missed : ℕ
  pub rest : ℕ

-- the most that a number of 64 bits holds, and one of 32
abbrev pub moment_of : ℕ → ℕ
moment_of at = min at (2 ^ 64 - 1)

abbrev pub counted : ℕ → ℕ
counted n = min (n + 1) (2 ^ 32 - 1)

-- the pace of a thread that hasn't looked yet
abbrev pub new_pace : Paced
new_pace = record { since = None; looking = false; looks = true; until = 0; found = 0; missed = 0; rest = LEAST_REST }

-- looks that were mostly in vain are followed by a rest, and the next one is twice as long
abbrev pub resting : Paced → ℕ → Paced
resting p now = record p { looks = false; until = moment_of (now + p.rest); found = 0; missed = 0; rest = min (moment_of (p.rest * 2)) MOST_REST }

-- looks that were mostly worth it are followed by looks, and the next rest is half as long
abbrev pub looking_on : Paced → ℕ → Paced
looking_on p now = record p { looks = true; until = moment_of (now + STRETCH); found = 0; missed = 0; rest = max (p.rest / 2) LEAST_REST }

-- a rest is followed by looks
abbrev pub looking_anew : Paced → ℕ → Paced
looking_anew p now = record p { looks = true; until = moment_of (now + STRETCH); found = 0; missed = 0 }

-- the pace in the stretch of a moment: one that is over is followed by the next
abbrev pub in_stretch : Paced → ℕ → Paced
in_stretch p now =
    if nat_lt now p.until then p
    else (if p.looks then (if nat_lt p.found p.missed then resting p now else looking_on p now) else looking_anew p now)

-- nothing is found for the first time
abbrev pub beginning : Paced → ℕ → Paced
beginning p now = record p { since = Some now; looking = p.looks }

-- nothing is found again: it has looked for long enough, or looks on
abbrev pub going_on : Paced → ℕ → ℕ → Paced
going_on p since now = if (p.looking && nat_le LOOKS (now - since)) then record p { looking = false; missed = counted p.missed } else p

-- the pace behind a look that found nothing
abbrev pub after_nothing : Paced → ℕ → Option ℕ → Paced
after_nothing p now None = beginning (in_stretch p now) now
after_nothing p now (Some since) = going_on p since now

-- something is found: that was worth looking for where it came soon, and not where the processor was away
abbrev pub told : Paced → ℕ → Paced
told p passed = if nat_le passed (2 * LOOKS) then record p { since = None; looking = false; found = counted p.found } else record p { since = None; looking = false; missed = counted p.missed }

-- the pace behind a look that found something
abbrev pub after_something : Paced → ℕ → Option ℕ → Paced
after_something p now None = p
after_something p now (Some since) = if p.looking then told p (now - since) else record p { since = None }
