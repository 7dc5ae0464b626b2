-- A library's requests are numbered, and closed by their answers.
use Rattle.std.proofs.Common.{◌≡◌, ℕ, List, [], ◌∷◌, ◌++◌, Bool, true, false, nat_le, if◌then◌else◌, refl, sym, ap, ◌∙◌, subst, add-one}
use Rattle.std.specs.Prelude.{Option, Some, None, Ok, Err}
use Rattle.lease_core.specs.declared.messages.Command.{Command}
use Rattle.lease_core.specs.declared.messages.Command.TheVariants as commands
use Rattle.lease_core.specs.declared.messages.Notice.{Notice}
use Rattle.lease_core.specs.declared.messages.Notice.TheVariants as notices
use Rattle.ring_links.specs.Ends.{TailView}
use Rattle.library_api.specs.declared.refusal.AskError.TheVariants as asking
use Rattle.library_api.specs.declared.refusal.SendRefusal.TheVariants as sending
use Rattle.library_api.specs.declared.refusal.ReleaseRefusal.TheVariants as releasing
use Rattle.library_api.specs.declared.refusal.HandRefusal.TheVariants as handing
use Rattle.library_api.specs.declared.reading.Message.{Message}
use Rattle.library_api.specs.Ends.{seat_after_beat}
use Rattle.library_api.specs.Known.{Known, holds, with_seat}
use Rattle.library_api.specs.Polls.{Found, Polled, shows, saw_word, saw_published, with_none_kept, with_request_closed, after_pop, after_taking_up, after_grant, after_published, after_message, after_notice, after_poll, taken_up}
use Rattle.library_api.specs.Calls.{Call, asks, polls, sends, send_refused, gives_back, release_refused, hand_refused, beats, is_done, meets, after_call, after_calls, IsLawful, AreLawful, AreNumbered, numbers_in, numbers_to, closes}

-- what speaks of requests: the tail, how many there were, and the one that is open
record Requests : Type 0 where
  tail : TailView Command
  asked : ℕ
  open_is : Option ℕ

abbrev requests : Known → Requests
requests k = record { tail = k.ends.tail; asked = k.asked; open_is = k.unanswered }

abbrev closed_by : Option Notice → Requests → Requests
closed_by n r = record r { open_is = closes n r.open_is }

on_published : (k : Known) (m : Message) (b : Bool) → requests (after_published k m b) ≡ requests k
on_published k m true = refl
on_published k m false = refl

on_held : (k : Known) (m : Message) (e shown : Bool) (found : Found)
    → requests (if e then record (saw_published k m.s found.published) { kept = Some m } else after_published (saw_word (saw_published k m.s found.published) m.s found.word) m shown) ≡ requests k
on_held k m true shown found = refl
on_held k m false shown found = on_published (saw_word (saw_published k m.s found.published) m.s found.word) m shown

on_message : (k : Known) (m : Message) (h shown : Bool) (found : Found) → requests (after_message k m h shown found) ≡ requests k
on_message k m false shown found = refl
on_message k m true shown found = on_held k m (nat_le found.published m.pos) shown found

on_grant : (k : Known) (s lease from : ℕ) (b : Bool) → requests (after_grant k s lease from b) ≡ requests k
on_grant k s lease from true = refl
on_grant k s lease from false = refl

on_notice : (k : Known) (found : Found) (n : Option Notice) → requests (after_notice k found n) ≡ closed_by n (requests k)
on_notice k found None = refl
on_notice k found (Some (notices.Granted nr s lease from start)) = on_grant (saw_word (with_request_closed k) s found.word) s lease from (shows k.ends.seat.knows.number lease found.word)
on_notice k found (Some (notices.Refused nr s why)) = refl
on_notice k found (Some (notices.Message s lease pos bytes)) =
    on_message k (record { s = s; lease = lease; pos = pos; bytes = bytes }) (holds k s lease) (shows k.ends.seat.knows.number lease found.word) found

on_taking_up : (k : Known) (kept : Option Message) (pushed : ℕ) (popped : Option Notice)
    → requests (with_none_kept (after_pop kept (with_seat k (seat_after_beat k.ends.seat)) pushed popped)) ≡ requests k
on_taking_up k (Some m) pushed popped = refl
on_taking_up k None pushed popped = refl

pub on_poll : (k : Known) (o : Polled) → requests (after_poll k o) ≡ closed_by (taken_up k.kept o.popped) (requests k)
on_poll k o =
    let n = taken_up k.kept o.popped in
    on_notice (after_taking_up k o.pushed o.popped) o.found n ∙ ap (λ (r : Requests). closed_by n r) (on_taking_up k k.kept o.pushed o.popped)

pub poll_closes : (k : Known) (o : Polled) → (after_poll k o).unanswered ≡ closes (taken_up k.kept o.popped) k.unanswered
poll_closes k o = ap (λ (r : Requests). r.open_is) (on_poll k o)

pub poll_asks_none : (k : Known) (o : Polled) → (after_poll k o).asked ≡ k.asked
poll_asks_none k o = ap (λ (r : Requests). r.asked) (on_poll k o)

numbers_push : (xs : List Command) (nr s from : ℕ) → numbers_in (xs ++ commands.Request nr s from ∷ []) ≡ numbers_in xs ++ nr ∷ []
numbers_push [] nr s from = refl
numbers_push (commands.Request n t f ∷ xs) nr s from = ap (λ (ns : List ℕ). n ∷ ns) (numbers_push xs nr s from)
numbers_push (commands.Done finished ∷ xs) nr s from = numbers_push xs nr s from

numbers_done : (xs : List Command) (finished : Bool) → numbers_in (xs ++ commands.Done finished ∷ []) ≡ numbers_in xs
numbers_done [] finished = refl
numbers_done (commands.Request n t f ∷ xs) finished = ap (λ (ns : List ℕ). n ∷ ns) (numbers_done xs finished)
numbers_done (commands.Done b ∷ xs) finished = numbers_done xs finished

numbers_none : (xs : List Command) → numbers_in (xs ++ []) ≡ numbers_in xs
numbers_none [] = refl
numbers_none (commands.Request n t f ∷ xs) = ap (λ (ns : List ℕ). n ∷ ns) (numbers_none xs)
numbers_none (commands.Done b ∷ xs) = numbers_none xs

same_number : (a b : ℕ) → Some a ≡ Some b → b ≡ a
same_number a b e = cc

still_open : (n : Option Notice) (u : Option ℕ) (nr : ℕ) → closes n u ≡ Some nr → u ≡ Some nr
still_open None u nr e = e
still_open (Some (notices.Granted m s lease from start)) u nr e = absurd (let no : None ≡ Some nr = e in cc)
still_open (Some (notices.Refused m s why)) u nr e = absurd (let no : None ≡ Some nr = e in cc)
still_open (Some (notices.Message s lease pos bytes)) u nr e = e

numbered_poll : (k : Known) (o : Polled) → AreNumbered k → AreNumbered (after_poll k o)
numbered_poll k o are =
    let same = on_poll k o in
    record {
      numbers = ap (λ (r : Requests). numbers_in r.tail.pushed) same ∙ are.numbers ∙ sym (ap (λ (r : Requests). numbers_to r.asked) same);
      last = λ nr e. are.last nr (still_open (taken_up k.kept o.popped) k.unanswered nr (sym (poll_closes k o) ∙ e)) ∙ sym (ap (λ (r : Requests). r.asked) same);
    }

numbered_call : (k : Known) (c : Call) → IsLawful k c → AreNumbered k → AreNumbered (after_call k c)
numbered_call k (asks s from taken (Ok nr)) lawful are = record {
  numbers = numbers_push k.ends.tail.pushed nr s from ∙ ap (λ (ns : List ℕ). ns ++ nr ∷ []) are.numbers
      ∙ subst (λ (m : ℕ). numbers_to k.asked ++ m ∷ [] ≡ numbers_to m) (sym lawful.0) (rw add-one refl);
  last = λ n e. same_number nr n e;
}
numbered_call k (asks s from taken (Err (asking.Outstanding nr))) lawful are = record { numbers = are.numbers; last = are.last }
numbered_call k (asks s from taken (Err (asking.AsksSpent count))) lawful are = record { numbers = are.numbers; last = are.last }
numbered_call k (asks s from taken (Err (asking.RingFull pushed found))) lawful are = record { numbers = numbers_none k.ends.tail.pushed ∙ are.numbers; last = are.last }
numbered_call k (polls o) lawful are = numbered_poll k o are
numbered_call k (sends s taken body items) lawful are = record { numbers = are.numbers; last = are.last }
numbered_call k (send_refused s taken sending.NotHeld) lawful are = record { numbers = are.numbers; last = are.last }
numbered_call k (send_refused s taken (sending.TooLong size)) lawful are = record { numbers = are.numbers; last = are.last }
numbered_call k (send_refused s taken (sending.BadBody at)) lawful are = record { numbers = are.numbers; last = are.last }
numbered_call k (send_refused s taken (sending.LaneFull committed found)) lawful are = record { numbers = are.numbers; last = are.last }
numbered_call k (send_refused s taken (sending.SendsSpent count)) lawful are = record { numbers = are.numbers; last = are.last }
numbered_call k (send_refused s taken (sending.Lost seen)) lawful are = record { numbers = are.numbers; last = are.last }
numbered_call k (gives_back s heir owner) lawful are = record { numbers = are.numbers; last = are.last }
numbered_call k (release_refused s releasing.NotHeld) lawful are = record { numbers = are.numbers; last = are.last }
numbered_call k (release_refused s (releasing.Lost seen)) lawful are = record { numbers = are.numbers; last = are.last }
numbered_call k (hand_refused s handing.NotHeld) lawful are = record { numbers = are.numbers; last = are.last }
numbered_call k (hand_refused s (handing.BadHeir heir)) lawful are = record { numbers = are.numbers; last = are.last }
numbered_call k (hand_refused s (handing.Lost seen)) lawful are = record { numbers = are.numbers; last = are.last }
numbered_call k beats lawful are = record { numbers = are.numbers; last = are.last }
numbered_call k (is_done finished taken (Ok unit)) lawful are = record { numbers = numbers_done k.ends.tail.pushed finished ∙ are.numbers; last = are.last }
numbered_call k (is_done finished taken (Err full)) lawful are = record { numbers = numbers_none k.ends.tail.pushed ∙ are.numbers; last = are.last }
numbered_call k (meets ends) met are = record { numbers = ap (λ (cs : List Command). numbers_in cs) met.pushed ∙ are.numbers; last = are.last }

pub numbered : (k : Known) (calls : List Call) → AreLawful k calls → AreNumbered k → AreNumbered (after_calls k calls)
numbered k [] lawful are = are
numbered k (c ∷ cs) lawful are = numbered (after_call k c) cs lawful.1 (numbered_call k c lawful.0 are)
