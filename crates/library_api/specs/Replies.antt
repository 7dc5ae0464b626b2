-- The replies to a library's requests, in order.
use Rattle.std.specs.Prelude.{◌≡◌, ℕ, ◌+◌, ◌≤◌, ◌⊎◌, List, [], ◌∷◌, length, Option, Some, None}
use Rattle.lease_core.specs.declared.messages.Notice.{Notice}
use Rattle.lease_core.specs.declared.messages.Notice.TheVariants as notices
use Rattle.library_api.specs.Known.{Known}
use Rattle.library_api.specs.Calls.{Call, after_call, numbers_to}

-- the numbers of the replies among these notices
abbrev pub replies_in : List Notice → List ℕ
replies_in [] = []
replies_in (notices.Granted nr s lease from start ∷ ns) = nr ∷ replies_in ns
replies_in (notices.Refused nr s why ∷ ns) = nr ∷ replies_in ns
replies_in (notices.Message s lease pos bytes ∷ ns) = replies_in ns

-- how many replies the library popped
abbrev pub reply_count : Known → ℕ
reply_count k = length (replies_in k.ends.head.popped)

-- The replies that were popped have the numbers 1, 2 and so on, of requests that were pushed.
pub record AreReplies (k : Known) : Type 0 where
  pub numbers : replies_in k.ends.head.popped ≡ numbers_to (reply_count k)
  pub asked : reply_count k ≤ k.asked

-- a fact holds before the first of these calls and after each
abbrev pub HoldsThroughout : (Known → Type 0) → Known → List Call → Type 0
HoldsThroughout P k [] = P k
HoldsThroughout P k (c ∷ cs) = P k × HoldsThroughout P (after_call k c) cs

-- All requests were replied to and none is open, or all but the last, which is open.
abbrev pub IsRepliedTo : Known → Type 0
IsRepliedTo k = ((k.asked ≡ reply_count k) × (k.unanswered ≡ None)) ⊎ ((k.asked ≡ reply_count k + 1) × (k.unanswered ≡ Some k.asked))

-- a fact holds of the number of a reply
abbrev pub OnReply : Option Notice → (ℕ → Type 0) → Type 0
OnReply None P = Unit {0}
OnReply (Some (notices.Granted nr s lease from start)) P = P nr
OnReply (Some (notices.Refused nr s why)) P = P nr
OnReply (Some (notices.Message s lease pos bytes)) P = Unit {0}
