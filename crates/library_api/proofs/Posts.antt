-- What a library posted is what its calls answered.
use Rattle.std.proofs.Common.{◌≡◌, ℕ, ◌+◌, List, [], ◌∷◌, ◌++◌, get_or, set, nat_lt, refl, sym, ap, ◌∙◌, append_assoc}
use Rattle.std.specs.Prelude.{Option, Some, None, Ok, Err}
use Rattle.lease_words.specs.declared.item.Item.{Item}
use Rattle.lease_words.specs.declared.view.LibrarySession.{LibrarySession}
use Rattle.lease_words.specs.Views.{no_library_session, library_at}
use Rattle.lease_words.specs.Sees.{after_see, after_arrival, after_taken_load, after_send, after_release, after_loss}
use Rattle.lease_words.specs.Answers.{active_word, released_word}
use Rattle.library_api.specs.declared.refusal.SendRefusal.TheVariants as sending
use Rattle.library_api.specs.declared.refusal.ReleaseRefusal.TheVariants as releasing
use Rattle.library_api.specs.declared.refusal.HandRefusal.TheVariants as handing
use Rattle.library_api.specs.declared.refusal.AskError.TheVariants as asking
use Rattle.library_api.specs.declared.reading.Message.{Message}
use Rattle.lease_core.specs.declared.messages.Notice.{Notice}
use Rattle.library_api.specs.Ends.{seat_after_beat}
use Rattle.library_api.specs.Known.{Known, held, sends_made, session_at, with_seat}
use Rattle.library_api.specs.Polls.{with_none_kept, after_pop, after_poll}
use Rattle.library_api.specs.Sends.{IsOneItem}
use Rattle.library_api.specs.Calls.{Call, asks, polls, sends, send_refused, gives_back, release_refused, hand_refused, beats, is_done, meets, after_call, after_calls, IsLawful, AreLawful}
use Rattle.library_api.specs.Posts.{Post, posts_by, posts_in, posts_of}
use Rattle.library_api.proofs.Unmoved.{Unmoved, on_poll, changed, grown, saw_if, append_none}
use Rattle.library_api.proofs.Deeds.{within}

abbrev posts_at : LibrarySession → List Post
posts_at ls = posts_by ls.items

abbrev posts : ℕ → Known → List Post
posts s k = posts_at (session_at k s)

posts_unmoved : (s : ℕ) → Unmoved (List Post) (posts s)
posts_unmoved s = record {
  word = λ k t w. saw_if (List Post) posts_at k.ends.seat t s (after_see k.ends.seat.knows.number (session_at k t) w) (nat_lt t k.ends.seat.table.shape.sessions) refl;
  count = λ k t n. saw_if (List Post) posts_at k.ends.seat t s (after_arrival (session_at k t) n) (nat_lt t k.ends.seat.table.shape.sessions) refl;
  reading = λ k t r. refl;
  keep = λ k m. refl;
  close = λ k. refl;
  wait = λ k kind. refl;
}

on_taking_up : (s : ℕ) (k : Known) (kept : Option Message) (pushed : ℕ) (n : Option Notice)
    → posts s (with_none_kept (after_pop kept (with_seat k (seat_after_beat k.ends.seat)) pushed n)) ≡ posts s k
on_taking_up s k (Some m) pushed n = refl
on_taking_up s k None pushed n = refl

posts_append : (xs ys : List Item) → posts_by (xs ++ ys) ≡ posts_by xs ++ posts_by ys
posts_append [] ys = refl
posts_append (i ∷ xs) ys = ap (λ (ps : List Post). record { lease = i.lease; body = i.body } ∷ ps) (posts_append xs ys)

one_post : (xs items : List Item) (lease : ℕ) (body : List ℕ) → IsOneItem lease body items
    → posts_by (xs ++ items) ≡ posts_by xs ++ record { lease = lease; body = body } ∷ []
one_post xs [] lease body one = absurd one
one_post xs (i ∷ []) lease body one = posts_append xs (i ∷ []) ∙ rw (one.0, one.1)
one_post xs (i ∷ j ∷ items) lease body one = absurd one

no_post : (ps ps' : List Post) → ps' ≡ ps → ps' ≡ ps ++ []
no_post ps ps' same = same ∙ sym (append_none Post ps)

-- a change of a session that leaves its items
left : (k : Known) (t s : ℕ) (x : LibrarySession) → posts_at x ≡ posts t k → posts_at (get_or (set k.ends.seat.knows.sessions t x) s no_library_session) ≡ posts s k
left k t s x same = changed (List Post) posts_at k.ends.seat.knows.sessions t s x no_library_session same

posted : (s : ℕ) (k : Known) (c : Call) → IsLawful k c → posts s (after_call k c) ≡ posts s k ++ posts_in s k c
posted s k (asks t from taken (Ok nr)) lawful = no_post (posts s k) (posts s k) refl
posted s k (asks t from taken (Err (asking.Outstanding nr))) lawful = no_post (posts s k) (posts s k) refl
posted s k (asks t from taken (Err (asking.AsksSpent count))) lawful = no_post (posts s k) (posts s k) refl
posted s k (asks t from taken (Err (asking.RingFull pushed found))) lawful = no_post (posts s k) (posts s k) refl
posted s k (polls o) lawful = no_post (posts s k) (posts s (after_poll k o)) (on_poll (List Post) (posts s) (posts_unmoved s) k o ∙ on_taking_up s k k.kept o.pushed o.popped)
posted s k (sends t taken body items) lawful =
    grown Post posts_at k.ends.seat.knows.sessions t s (after_send (after_taken_load (session_at k t) taken) items (active_word (held k t) k.ends.seat.knows.number (sends_made k t + 1))) no_library_session
    (record { lease = held k t; body = body } ∷ []) (within k t lawful.0) (one_post (session_at k t).items items (held k t) body lawful.1)
posted s k (send_refused t taken sending.NotHeld) lawful = no_post (posts s k) (posts s k) refl
posted s k (send_refused t taken (sending.TooLong size)) lawful = no_post (posts s k) (posts s k) refl
posted s k (send_refused t taken (sending.BadBody at)) lawful = no_post (posts s k) (posts s k) refl
posted s k (send_refused t taken (sending.LaneFull committed found)) lawful =
    no_post (posts s k) (posts s (after_call k (send_refused t taken (sending.LaneFull committed found)))) (left k t s (after_taken_load (session_at k t) taken) refl)
posted s k (send_refused t taken (sending.SendsSpent count)) lawful =
    no_post (posts s k) (posts s (after_call k (send_refused t taken (sending.SendsSpent count)))) (left k t s (after_taken_load (session_at k t) taken) refl)
posted s k (send_refused t taken (sending.Lost seen)) lawful =
    no_post (posts s k) (posts s (after_call k (send_refused t taken (sending.Lost seen)))) (left k t s (after_loss (after_taken_load (session_at k t) taken) seen) refl)
posted s k (gives_back t heir owner) lawful =
    no_post (posts s k) (posts s (after_call k (gives_back t heir owner))) (left k t s (after_release (session_at k t) heir (released_word (held k t) owner (sends_made k t))) refl)
posted s k (release_refused t releasing.NotHeld) lawful = no_post (posts s k) (posts s k) refl
posted s k (release_refused t (releasing.Lost seen)) lawful =
    no_post (posts s k) (posts s (after_call k (release_refused t (releasing.Lost seen)))) (left k t s (after_loss (session_at k t) seen) refl)
posted s k (hand_refused t handing.NotHeld) lawful = no_post (posts s k) (posts s k) refl
posted s k (hand_refused t (handing.BadHeir heir)) lawful = no_post (posts s k) (posts s k) refl
posted s k (hand_refused t (handing.Lost seen)) lawful =
    no_post (posts s k) (posts s (after_call k (hand_refused t (handing.Lost seen)))) (left k t s (after_loss (session_at k t) seen) refl)
posted s k beats lawful = no_post (posts s k) (posts s k) refl
posted s k (is_done finished taken (Ok unit)) lawful = no_post (posts s k) (posts s k) refl
posted s k (is_done finished taken (Err full)) lawful = no_post (posts s k) (posts s k) refl
posted s k (meets ends) met = no_post (posts s k) (posts_at (library_at ends.seat s)) (ap (λ (is : List Item). posts_by is) (met.items s))

pub all_posted : (s : ℕ) (k : Known) (calls : List Call) → AreLawful k calls → posts s (after_calls k calls) ≡ posts s k ++ posts_of s k calls
all_posted s k [] lawful = no_post (posts s k) (posts s k) refl
all_posted s k (c ∷ cs) lawful =
    all_posted s (after_call k c) cs lawful.1 ∙ ap (λ (ps : List Post). ps ++ posts_of s (after_call k c) cs) (posted s k c lawful.0)
    ∙ append_assoc (posts s k) (posts_in s k c) (posts_of s (after_call k c) cs)
