-- What a library popped, and the replies among it.
use Rattle.std.proofs.Common.{◌≡◌, ℕ, ◌+◌, ◌≤◌, ◌⊎◌, List, [], ◌∷◌, ◌++◌, length, refl, sym, ap, ◌∙◌, subst, inl, inr, ⊎_elim, arith, rules, length-append, append_assoc, add-one}
use Rattle.std.specs.Prelude.{Option, Some, None, Ok, Err, IsSome}
use Rattle.lease_core.specs.declared.messages.Notice.{Notice}
use Rattle.lease_core.specs.declared.messages.Notice.TheVariants as notices
use Rattle.library_api.specs.declared.refusal.SendRefusal.TheVariants as sending
use Rattle.library_api.specs.declared.refusal.ReleaseRefusal.TheVariants as releasing
use Rattle.library_api.specs.declared.refusal.HandRefusal.TheVariants as handing
use Rattle.library_api.specs.declared.refusal.AskError.TheVariants as asking
use Rattle.library_api.specs.declared.reading.Message.{Message}
use Rattle.library_api.specs.Ends.{seat_after_beat}
use Rattle.library_api.specs.Known.{Known, with_seat}
use Rattle.library_api.specs.Polls.{Polled, with_none_kept, after_pop, after_poll, taken_up}
use Rattle.library_api.specs.Calls.{Call, asks, polls, sends, send_refused, gives_back, release_refused, hand_refused, beats, is_done, meets, after_call, after_calls, IsLawful, AreLawful, popped_beside, popped_in, popped_of, numbers_to, closes}
use Rattle.library_api.specs.Replies.{replies_in, reply_count, AreReplies, HoldsThroughout, IsRepliedTo, OnReply}
use Rattle.library_api.proofs.Unmoved.{Unmoved, on_poll, append_none}
use Rattle.library_api.proofs.Numbered.{poll_closes, poll_asks_none}

abbrev popped : Known → List Notice
popped k = k.ends.head.popped

popped_unmoved : Unmoved (List Notice) popped
popped_unmoved = record { word = λ k s w. refl; count = λ k s n. refl; reading = λ k s r. refl; keep = λ k m. refl; close = λ k. refl; wait = λ k kind. refl }

on_taking_up : (k : Known) (kept : Option Message) (pushed : ℕ) (n : Option Notice)
    → popped (with_none_kept (after_pop kept (with_seat k (seat_after_beat k.ends.seat)) pushed n)) ≡ popped k ++ popped_beside kept n
on_taking_up k (Some m) pushed n = sym (append_none Notice (popped k))
on_taking_up k None pushed n = refl

pub poll_pops : (k : Known) (o : Polled) → popped (after_poll k o) ≡ popped k ++ popped_beside k.kept o.popped
poll_pops k o = on_poll (List Notice) popped popped_unmoved k o ∙ on_taking_up k k.kept o.pushed o.popped

no_more : (ns ns' : List Notice) → ns' ≡ ns → ns' ≡ ns ++ []
no_more ns ns' same = same ∙ sym (append_none Notice ns)

pops : (k : Known) (c : Call) → IsLawful k c → popped (after_call k c) ≡ popped k ++ popped_in k c
pops k (asks s from taken (Ok nr)) lawful = no_more (popped k) (popped k) refl
pops k (asks s from taken (Err (asking.Outstanding nr))) lawful = no_more (popped k) (popped k) refl
pops k (asks s from taken (Err (asking.AsksSpent count))) lawful = no_more (popped k) (popped k) refl
pops k (asks s from taken (Err (asking.RingFull pushed found))) lawful = no_more (popped k) (popped k) refl
pops k (polls o) lawful = poll_pops k o
pops k (sends s taken body items) lawful = no_more (popped k) (popped k) refl
pops k (send_refused s taken sending.NotHeld) lawful = no_more (popped k) (popped k) refl
pops k (send_refused s taken (sending.TooLong size)) lawful = no_more (popped k) (popped k) refl
pops k (send_refused s taken (sending.BadBody at)) lawful = no_more (popped k) (popped k) refl
pops k (send_refused s taken (sending.LaneFull committed found)) lawful = no_more (popped k) (popped k) refl
pops k (send_refused s taken (sending.SendsSpent count)) lawful = no_more (popped k) (popped k) refl
pops k (send_refused s taken (sending.Lost seen)) lawful = no_more (popped k) (popped k) refl
pops k (gives_back s heir owner) lawful = no_more (popped k) (popped k) refl
pops k (release_refused s releasing.NotHeld) lawful = no_more (popped k) (popped k) refl
pops k (release_refused s (releasing.Lost seen)) lawful = no_more (popped k) (popped k) refl
pops k (hand_refused s handing.NotHeld) lawful = no_more (popped k) (popped k) refl
pops k (hand_refused s (handing.BadHeir heir)) lawful = no_more (popped k) (popped k) refl
pops k (hand_refused s (handing.Lost seen)) lawful = no_more (popped k) (popped k) refl
pops k beats lawful = no_more (popped k) (popped k) refl
pops k (is_done finished taken (Ok unit)) lawful = no_more (popped k) (popped k) refl
pops k (is_done finished taken (Err full)) lawful = no_more (popped k) (popped k) refl
pops k (meets ends) met = no_more (popped k) ends.head.popped met.popped

pub all_pop : (k : Known) (calls : List Call) → AreLawful k calls → popped (after_calls k calls) ≡ popped k ++ popped_of k calls
all_pop k [] lawful = no_more (popped k) (popped k) refl
all_pop k (c ∷ cs) lawful =
    all_pop (after_call k c) cs lawful.1 ∙ ap (λ (ns : List Notice). ns ++ popped_of (after_call k c) cs) (pops k c lawful.0)
    ∙ append_assoc (popped k) (popped_in k c) (popped_of (after_call k c) cs)

replies_append : (xs ys : List Notice) → replies_in (xs ++ ys) ≡ replies_in xs ++ replies_in ys
replies_append [] ys = refl
replies_append (notices.Granted nr s lease from start ∷ xs) ys = ap (λ (ns : List ℕ). nr ∷ ns) (replies_append xs ys)
replies_append (notices.Refused nr s why ∷ xs) ys = ap (λ (ns : List ℕ). nr ∷ ns) (replies_append xs ys)
replies_append (notices.Message s lease pos bytes ∷ xs) ys = replies_append xs ys

-- the replies after a poll
replies_then : (k : Known) (o : Polled) → replies_in (popped (after_poll k o)) ≡ replies_in (popped k) ++ replies_in (popped_beside k.kept o.popped)
replies_then k o = ap (λ (ns : List Notice). replies_in ns) (poll_pops k o) ∙ replies_append (popped k) (popped_beside k.kept o.popped)

count_then : (k : Known) (o : Polled) → reply_count (after_poll k o) ≡ reply_count k + length (replies_in (popped_beside k.kept o.popped))
count_then k o = ap (λ (ns : List ℕ). length ns) (replies_then k o) ∙ length-append (replies_in (popped k)) (replies_in (popped_beside k.kept o.popped))

abbrev last_of : List ℕ → ℕ
last_of [] = 0
last_of (x ∷ []) = x
last_of (x ∷ y ∷ ys) = last_of (y ∷ ys)

last_is : (xs : List ℕ) (a : ℕ) → last_of (xs ++ a ∷ []) ≡ a
last_is [] a = refl
last_is (x ∷ []) a = refl
last_is (x ∷ y ∷ ys) a = last_is (y ∷ ys) a

-- the number of a reply that was popped
numbered_next : (rs : List ℕ) (nr : ℕ) → rs ++ nr ∷ [] ≡ numbers_to (length rs + 1) → nr ≡ length rs + 1
numbered_next rs nr are =
    let more : numbers_to (length rs + 1) ≡ numbers_to (length rs) ++ (length rs + 1) ∷ [] = rw add-one refl in
    sym (last_is rs nr) ∙ ap (λ (ns : List ℕ). last_of ns) (are ∙ more) ∙ last_is (numbers_to (length rs)) (length rs + 1)

some_none : (nr : ℕ) → Some nr ≡ None → ⊥
some_none nr e = cc

-- by the number of replies, the number of requests and the one that is open: all were replied to, or all but the last
abbrev Replied : ℕ → ℕ → Option ℕ → Type 0
Replied count asked open_is = ((asked ≡ count) × (open_is ≡ None)) ⊎ ((asked ≡ count + 1) × (open_is ≡ Some asked))

was_open : (count asked : ℕ) (u : Option ℕ) → Replied count asked u → count + 1 ≤ asked → u ≡ Some (count + 1)
was_open count asked u replied few = ⊎_elim (λ p. let all : asked ≡ count = p.0 in absurd (omega arith)) (λ p. p.1 ∙ ap (λ (n : ℕ). Some n) p.0) replied

same_replies : (c c' a a' : ℕ) (u u' : Option ℕ) → c' ≡ c → a' ≡ a → u' ≡ u → Replied c a u → Replied c' a' u'
same_replies c c' a a' u u' count asked open_is replied = rw (count, asked, open_is) replied

one_reply : (c c' a a' : ℕ) (u' : Option ℕ) → (u : Option ℕ) → c' ≡ c + 1 → a' ≡ a → u' ≡ None → c' ≤ a' → Replied c a u → Replied c' a' u'
one_reply c c' a a' u' u count asked closed few replied = ⊎_elim
    (λ p. let all : a ≡ c = p.0 in absurd (omega arith))
    (λ p. let last : a ≡ c + 1 = p.0 in let all : a' ≡ c' = omega arith in inl (all, closed))
    replied

-- what a poll makes of it, by the notice that it took up
after_reply : (c c' a a' : ℕ) (u u' : Option ℕ) (kept : Option Message) (n : Option Notice)
    → c' ≡ c + length (replies_in (popped_beside kept n)) → a' ≡ a → u' ≡ closes (taken_up kept n) u → c' ≤ a' → Replied c a u → Replied c' a' u'
after_reply c c' a a' u u' (Some m) n count asked closed few replied = let same : c' ≡ c = omega arith in same_replies c c' a a' u u' same asked closed replied
after_reply c c' a a' u u' None None count asked closed few replied = let same : c' ≡ c = omega arith in same_replies c c' a a' u u' same asked closed replied
after_reply c c' a a' u u' None (Some (notices.Granted nr s lease from start)) count asked closed few replied = one_reply c c' a a' u' u count asked closed few replied
after_reply c c' a a' u u' None (Some (notices.Refused nr s why)) count asked closed few replied = one_reply c c' a a' u' u count asked closed few replied
after_reply c c' a a' u u' None (Some (notices.Message s lease pos bytes)) count asked closed few replied = let same : c' ≡ c = omega arith in same_replies c c' a a' u u' same asked closed replied

-- and whose reply that is
on_reply : (rs : List ℕ) (a : ℕ) (u : Option ℕ) (kept : Option Message) (n : Option Notice)
    → rs ++ replies_in (popped_beside kept n) ≡ numbers_to (length rs + length (replies_in (popped_beside kept n)))
    → length rs + length (replies_in (popped_beside kept n)) ≤ a → Replied (length rs) a u → OnReply (taken_up kept n) (λ nr. u ≡ Some nr)
on_reply rs a u (Some m) n numbers few replied = tt
on_reply rs a u None None numbers few replied = tt
on_reply rs a u None (Some (notices.Granted nr s lease from start)) numbers few replied =
    was_open (length rs) a u replied few ∙ ap (λ (n : ℕ). Some n) (sym (numbered_next rs nr numbers))
on_reply rs a u None (Some (notices.Refused nr s why)) numbers few replied =
    was_open (length rs) a u replied few ∙ ap (λ (n : ℕ). Some n) (sym (numbered_next rs nr numbers))
on_reply rs a u None (Some (notices.Message s lease pos bytes)) numbers few replied = tt

pub of_the_open : (k : Known) (o : Polled) → AreReplies (after_poll k o) → IsRepliedTo k → OnReply (taken_up k.kept o.popped) (λ nr. k.unanswered ≡ Some nr)
of_the_open k o after replied =
    let count = count_then k o in
    let asked = poll_asks_none k o in
    let few = after.asked in
    on_reply (replies_in (popped k)) k.asked k.unanswered k.kept o.popped
    (sym (replies_then k o) ∙ after.numbers ∙ ap (λ (n : ℕ). numbers_to n) count)
    (subst (λ (n : ℕ). n ≤ k.asked) count (subst (λ (n : ℕ). reply_count (after_poll k o) ≤ n) asked few)) replied

is_some : (u : Option ℕ) (n : ℕ) → u ≡ Some n → IsSome u
is_some u n is = subst (λ (o : Option ℕ). IsSome o) (sym is) (search rules)

replied_call : (k : Known) (c : Call) → IsLawful k c → AreReplies (after_call k c) → IsRepliedTo k → IsRepliedTo (after_call k c)
replied_call k (asks s from taken (Ok nr)) lawful are replied =
    let next : nr ≡ k.asked + 1 = lawful.0 in
    ⊎_elim (λ p. let all : k.asked ≡ reply_count k = p.0 in let last : nr ≡ reply_count k + 1 = omega arith in inr (last, refl))
    (λ p. absurd (lawful.1.1 (is_some k.unanswered k.asked p.1))) replied
replied_call k (asks s from taken (Err (asking.Outstanding nr))) lawful are replied = replied
replied_call k (asks s from taken (Err (asking.AsksSpent count))) lawful are replied = replied
replied_call k (asks s from taken (Err (asking.RingFull pushed found))) lawful are replied = replied
replied_call k (polls o) lawful are replied =
    after_reply (reply_count k) (reply_count (after_poll k o)) k.asked (after_poll k o).asked k.unanswered (after_poll k o).unanswered k.kept o.popped
    (count_then k o) (poll_asks_none k o) (poll_closes k o) are.asked replied
replied_call k (sends s taken body items) lawful are replied = replied
replied_call k (send_refused s taken sending.NotHeld) lawful are replied = replied
replied_call k (send_refused s taken (sending.TooLong size)) lawful are replied = replied
replied_call k (send_refused s taken (sending.BadBody at)) lawful are replied = replied
replied_call k (send_refused s taken (sending.LaneFull committed found)) lawful are replied = replied
replied_call k (send_refused s taken (sending.SendsSpent count)) lawful are replied = replied
replied_call k (send_refused s taken (sending.Lost seen)) lawful are replied = replied
replied_call k (gives_back s heir owner) lawful are replied = replied
replied_call k (release_refused s releasing.NotHeld) lawful are replied = replied
replied_call k (release_refused s (releasing.Lost seen)) lawful are replied = replied
replied_call k (hand_refused s handing.NotHeld) lawful are replied = replied
replied_call k (hand_refused s (handing.BadHeir heir)) lawful are replied = replied
replied_call k (hand_refused s (handing.Lost seen)) lawful are replied = replied
replied_call k beats lawful are replied = replied
replied_call k (is_done finished taken (Ok unit)) lawful are replied = replied
replied_call k (is_done finished taken (Err full)) lawful are replied = replied
replied_call k (meets ends) met are replied =
    same_replies (reply_count k) (length (replies_in ends.head.popped)) k.asked k.asked k.unanswered k.unanswered
    (ap (λ (ns : List Notice). length (replies_in ns)) met.popped) refl refl replied

first_holds : (k : Known) (calls : List Call) → HoldsThroughout AreReplies k calls → AreReplies k
first_holds k [] are = are
first_holds k (c ∷ cs) are = are.0

pub all_replied : (k : Known) (calls : List Call) → AreLawful k calls → HoldsThroughout AreReplies k calls → IsRepliedTo k → IsRepliedTo (after_calls k calls)
all_replied k [] lawful are replied = replied
all_replied k (c ∷ cs) lawful are replied =
    all_replied (after_call k c) cs lawful.1 are.1 (replied_call k c lawful.0 (first_holds (after_call k c) cs are.1) replied)
