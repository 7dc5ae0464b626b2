-- Which event a poll answers, and the cause of each.
use Rattle.std.specs.Prelude.{◌≡◌, ℕ, ◌<◌, ◌≤◌, ◌⊎◌, true, false, Option, Some, None}
use Rattle.lease_core.specs.declared.messages.Notice.{Notice}
use Rattle.lease_core.specs.declared.messages.Notice.TheVariants as notices
use Rattle.library_api.specs.declared.event.Event.{Event}
use Rattle.library_api.specs.declared.event.Event.TheVariants as events
use Rattle.library_api.specs.Known.{Known, holds}
use Rattle.library_api.specs.Polls.{Found, shows}

abbrev pub IsNothing : Event → Type 0
IsNothing events.Nothing = Unit {0}
IsNothing (events.NotYet s pos published) = ⊥
IsNothing (events.Granted nr s lease from start) = ⊥
IsNothing (events.Refused nr s why) = ⊥
IsNothing (events.Message s lease pos bytes) = ⊥
IsNothing (events.Stale s lease pos) = ⊥
IsNothing (events.LeaseLost s lease seen) = ⊥

abbrev pub IsStale : Event → Type 0
IsStale events.Nothing = ⊥
IsStale (events.NotYet s pos published) = ⊥
IsStale (events.Granted nr s lease from start) = ⊥
IsStale (events.Refused nr s why) = ⊥
IsStale (events.Message s lease pos bytes) = ⊥
IsStale (events.Stale s lease pos) = Unit {0}
IsStale (events.LeaseLost s lease seen) = ⊥

abbrev pub IsNotYet : Event → Type 0
IsNotYet events.Nothing = ⊥
IsNotYet (events.NotYet s pos published) = Unit {0}
IsNotYet (events.Granted nr s lease from start) = ⊥
IsNotYet (events.Refused nr s why) = ⊥
IsNotYet (events.Message s lease pos bytes) = ⊥
IsNotYet (events.Stale s lease pos) = ⊥
IsNotYet (events.LeaseLost s lease seen) = ⊥

abbrev pub IsLeaseLost : Event → Type 0
IsLeaseLost events.Nothing = ⊥
IsLeaseLost (events.NotYet s pos published) = ⊥
IsLeaseLost (events.Granted nr s lease from start) = ⊥
IsLeaseLost (events.Refused nr s why) = ⊥
IsLeaseLost (events.Message s lease pos bytes) = ⊥
IsLeaseLost (events.Stale s lease pos) = ⊥
IsLeaseLost (events.LeaseLost s lease seen) = Unit {0}

abbrev pub IsRefused : Event → Type 0
IsRefused events.Nothing = ⊥
IsRefused (events.NotYet s pos published) = ⊥
IsRefused (events.Granted nr s lease from start) = ⊥
IsRefused (events.Refused nr s why) = Unit {0}
IsRefused (events.Message s lease pos bytes) = ⊥
IsRefused (events.Stale s lease pos) = ⊥
IsRefused (events.LeaseLost s lease seen) = ⊥

-- a fact holds of a message that was taken up
abbrev pub OfMessage : (ℕ → ℕ → ℕ → Type 0) → Option Notice → Type 0
OfMessage P None = ⊥
OfMessage P (Some (notices.Granted nr s lease from start)) = ⊥
OfMessage P (Some (notices.Refused nr s why)) = ⊥
OfMessage P (Some (notices.Message s lease pos bytes)) = P s lease pos

-- and of the lease of a grant
abbrev pub OfGrant : (ℕ → Type 0) → Option Notice → Type 0
OfGrant P None = ⊥
OfGrant P (Some (notices.Granted nr s lease from start)) = P lease
OfGrant P (Some (notices.Refused nr s why)) = ⊥
OfGrant P (Some (notices.Message s lease pos bytes)) = ⊥

abbrev pub OfRefusal : Option Notice → Type 0
OfRefusal None = ⊥
OfRefusal (Some (notices.Granted nr s lease from start)) = ⊥
OfRefusal (Some (notices.Refused nr s why)) = Unit {0}
OfRefusal (Some (notices.Message s lease pos bytes)) = ⊥

-- the message's lease isn't the one that the library holds of its session
abbrev pub OfNoLease : Known → Option Notice → Type 0
OfNoLease k = OfMessage (λ s lease pos. holds k s lease ≡ false)

-- it is, and the published count that was loaded is at most the message's position
abbrev pub IsEarly : Known → Found → Option Notice → Type 0
IsEarly k found = OfMessage (λ s lease pos. (holds k s lease ≡ true) × (found.published ≤ pos))

-- The word that was loaded doesn't show the lease as active and this library's: of a message that is published and of a lease that is held, or of a grant.
abbrev pub HasLostLease : Known → Found → Option Notice → Type 0
HasLostLease k found n =
    OfMessage (λ s lease pos. (holds k s lease ≡ true) × (pos < found.published) × (shows k.ends.seat.knows.number lease found.word ≡ false)) n
    ⊎ OfGrant (λ lease. shows k.ends.seat.knows.number lease found.word ≡ false) n
