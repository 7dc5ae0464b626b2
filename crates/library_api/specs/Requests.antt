-- What a request, and the word that all is done, come to.
use Rattle.std.specs.Prelude.{◌≡◌, ◌≢◌, ℕ, ◌+◌, List, [], ◌∷◌, length, Some, None, Result, Ok, Err}
use Rattle.lease_core.specs.declared.messages.Command.{Command}
use Rattle.lease_core.specs.declared.messages.Command.TheVariants.{Request}
use Rattle.ring_links.specs.declared.queue.Full.{Full}
use Rattle.library_api.specs.declared.refusal.AskError.{AskError}
use Rattle.library_api.specs.declared.refusal.AskError.TheVariants.{Outstanding, AsksSpent, RingFull}
use Rattle.library_api.specs.declared.waited.WaitKind.{WaitKind}
use Rattle.library_api.specs.declared.waited.WaitKind.TheVariants.{Free, Asks, Done}
use Rattle.library_api.specs.Known.{Known, after_waiting}
use Rattle.library_api.specs.Ends.{tail_after}

-- the tail pushed these commands, and loaded this taken count
abbrev pub after_push : Known → ℕ → List Command → Known
after_push k taken commands = record k { ends = record k.ends { tail = tail_after k.ends.tail taken commands } }

-- the request with this number was made
abbrev pub with_request : Known → ℕ → Known
with_request k nr = record k { asked = nr; unanswered = Some nr }

-- A request of session s from a position on was answered so, where its push loaded this taken count.
abbrev pub after_asking : Known → ℕ → ℕ → ℕ → Result ℕ AskError → Known
after_asking k s from taken (Ok nr) = with_request (after_push k taken (Request nr s from ∷ [])) nr
after_asking k s from taken (Err (Outstanding nr)) = k
after_asking k s from taken (Err (AsksSpent count)) = k
after_asking k s from taken (Err (RingFull pushed found)) = after_push k taken []

abbrev pub asks_for : Result ℕ AskError → WaitKind
asks_for (Ok nr) = Free
asks_for (Err (Outstanding nr)) = Free
asks_for (Err (AsksSpent count)) = Free
asks_for (Err (RingFull pushed found)) = Asks

abbrev pub after_request : Known → ℕ → ℕ → ℕ → Result ℕ AskError → Known
after_request k s from taken answer = after_waiting (asks_for answer) (after_asking k s from taken answer)

abbrev pub IsOutstanding : Result ℕ AskError → Type 0
IsOutstanding (Ok nr) = ⊥
IsOutstanding (Err (Outstanding nr)) = Unit {0}
IsOutstanding (Err (AsksSpent count)) = ⊥
IsOutstanding (Err (RingFull pushed taken)) = ⊥

abbrev pub IsAsksSpent : Result ℕ AskError → Type 0
IsAsksSpent (Ok nr) = ⊥
IsAsksSpent (Err (Outstanding nr)) = ⊥
IsAsksSpent (Err (AsksSpent count)) = Unit {0}
IsAsksSpent (Err (RingFull pushed taken)) = ⊥

abbrev pub IsRingFull : Result ℕ AskError → Type 0
IsRingFull (Ok nr) = ⊥
IsRingFull (Err (Outstanding nr)) = ⊥
IsRingFull (Err (AsksSpent count)) = ⊥
IsRingFull (Err (RingFull pushed taken)) = Unit {0}

-- another request can be made
pub record MayAsk (k : Known) : Type 0 where
  pub answered : k.unanswered ≡ None
  pub left : k.asked ≢ k.asks

-- the numbers that an answer carries
abbrev pub CarriesAsked : Known → ℕ → Result ℕ AskError → Type 0
CarriesAsked k taken (Ok nr) = nr ≡ k.asked + 1
CarriesAsked k taken (Err (Outstanding nr)) = k.unanswered ≡ Some nr
CarriesAsked k taken (Err (AsksSpent count)) = count ≡ k.asks
CarriesAsked k taken (Err (RingFull pushed found)) = (pushed ≡ length k.ends.tail.pushed) × (found ≡ taken)

-- the word that all is done was answered so
abbrev pub after_done : Known → Command → ℕ → Result (Unit {0}) (Full Command) → Known
after_done k command taken (Ok unit) = after_waiting Free (after_push k taken (command ∷ []))
after_done k command taken (Err full) = after_waiting Done (after_push k taken [])
