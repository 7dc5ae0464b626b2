-- What a poll leaves as it is, and a list of sessions of which one was changed.
use Rattle.std.proofs.Common.{◌≡◌, ℕ, ◌+◌, ◌<◌, ◌==◌, List, [], ◌∷◌, ◌++◌, length, get_or, set, Bool, true, false, nat_le, if◌then◌else◌, refl, sym, ap, ◌∙◌, subst, inl, inr, eq-eqb, ne_eqb}
use Rattle.std.specs.Prelude.{Option, Some, None}
use native.Mathlib.Decide.{ℕ_discrete}
use Rattle.std.proofs.lemmas.Bool.{cases_lt}
use Rattle.std.proofs.lemmas.List.{get_or-set_same, get_or-set_other, set_past}
use Rattle.lease_core.specs.declared.messages.Notice.{Notice}
use Rattle.lease_core.specs.declared.messages.Notice.TheVariants as notices
use Rattle.lease_core.specs.declared.word.Word.{Word}
use Rattle.lease_words.specs.declared.view.LibrarySession.{LibrarySession}
use Rattle.lease_words.specs.Views.{LibraryView, no_library_session, library_at, with_library_at}
use Rattle.library_api.specs.declared.reading.Message.{Message}
use Rattle.library_api.specs.declared.reading.Reading.{Reading}
use Rattle.library_api.specs.declared.waited.WaitKind.{WaitKind}
use Rattle.library_api.specs.Known.{Known, no_reading, holds, with_reading, after_waiting}
use Rattle.library_api.specs.Polls.{Found, Polled, shows, saw_word, saw_published, with_request_closed, after_taking_up, after_grant, after_published, after_message, after_notice, after_poll, event_of, taken_up, waits_for}

-- what was loaded, read, kept, closed or waited for doesn't change this
pub record Unmoved (X : Type 0) (f : Known → X) : Type 0 where
  pub word : (k : Known) (s : ℕ) (w : Word) → f (saw_word k s w) ≡ f k
  pub count : (k : Known) (s n : ℕ) → f (saw_published k s n) ≡ f k
  pub reading : (k : Known) (s : ℕ) (r : Reading) → f (with_reading k s r) ≡ f k
  pub keep : (k : Known) (m : Option Message) → f (record k { kept = m }) ≡ f k
  pub close : (k : Known) → f (with_request_closed k) ≡ f k
  pub wait : (k : Known) (kind : WaitKind) → f (after_waiting kind k) ≡ f k

on_published : (X : Type 0) (f : Known → X) → Unmoved X f → (k : Known) (m : Message) (b : Bool) → f (after_published k m b) ≡ f k
on_published X f u k m true = u.reading k m.s (record { lease = m.lease; next = m.pos + 1 })
on_published X f u k m false = u.reading k m.s no_reading

on_held : (X : Type 0) (f : Known → X) → Unmoved X f → (k : Known) (m : Message) (e shown : Bool) (found : Found)
    → f (if e then record (saw_published k m.s found.published) { kept = Some m } else after_published (saw_word (saw_published k m.s found.published) m.s found.word) m shown) ≡ f k
on_held X f u k m true shown found = u.keep (saw_published k m.s found.published) (Some m) ∙ u.count k m.s found.published
on_held X f u k m false shown found = on_published X f u (saw_word (saw_published k m.s found.published) m.s found.word) m shown
    ∙ u.word (saw_published k m.s found.published) m.s found.word ∙ u.count k m.s found.published

on_message : (X : Type 0) (f : Known → X) → Unmoved X f → (k : Known) (m : Message) (h shown : Bool) (found : Found) → f (after_message k m h shown found) ≡ f k
on_message X f u k m false shown found = refl
on_message X f u k m true shown found = on_held X f u k m (nat_le found.published m.pos) shown found

on_grant : (X : Type 0) (f : Known → X) → Unmoved X f → (k : Known) (s lease from : ℕ) (b : Bool) → f (after_grant k s lease from b) ≡ f k
on_grant X f u k s lease from true = u.reading k s (record { lease = lease; next = from })
on_grant X f u k s lease from false = u.reading k s no_reading

on_notice : (X : Type 0) (f : Known → X) → Unmoved X f → (k : Known) (found : Found) (n : Option Notice) → f (after_notice k found n) ≡ f k
on_notice X f u k found None = refl
on_notice X f u k found (Some (notices.Granted nr s lease from start)) =
    on_grant X f u (saw_word (with_request_closed k) s found.word) s lease from (shows k.ends.seat.knows.number lease found.word) ∙ u.word (with_request_closed k) s found.word ∙ u.close k
on_notice X f u k found (Some (notices.Refused nr s why)) = u.close k
on_notice X f u k found (Some (notices.Message s lease pos bytes)) =
    on_message X f u k (record { s = s; lease = lease; pos = pos; bytes = bytes }) (holds k s lease) (shows k.ends.seat.knows.number lease found.word) found

pub on_poll : (X : Type 0) (f : Known → X) → Unmoved X f → (k : Known) (o : Polled) → f (after_poll k o) ≡ f (after_taking_up k o.pushed o.popped)
on_poll X f u k o =
    let k1 = after_taking_up k o.pushed o.popped in
    let n = taken_up k.kept o.popped in
    u.wait (after_notice k1 o.found n) (waits_for (event_of k o)) ∙ on_notice X f u k1 o.found n

-- a session of a list in which one was changed, where the change doesn't touch this
pub changed : (X : Type 0) (f : LibrarySession → X) (xs : List LibrarySession) (t s : ℕ) (x d : LibrarySession) → f x ≡ f (get_or xs t d) → f (get_or (set xs t x) s d) ≡ f (get_or xs s d)
changed X f xs t s x d same = elim (ℕ_discrete s t) [
  | yes here ↦ elim (cases_lt t (length xs)) [
    | inr past ↦ ap (λ (ys : List LibrarySession). f (get_or ys s d)) (set_past xs t x past)
    | inl within ↦ subst (λ (j : ℕ). f (get_or (set xs t x) j d) ≡ f (get_or xs j d)) (sym here)
        (ap (λ (ls : LibrarySession). f ls) (get_or-set_same xs t x d within) ∙ same)
  ]
  | no other ↦ ap (λ (ls : LibrarySession). f ls) (get_or-set_other xs t s x d other)
]

pub append_none : (X : Type 0) (xs : List X) → xs ++ [] ≡ xs
append_none X [] = refl
append_none X (x ∷ xs) = ap (λ (ys : List X). x ∷ ys) (append_none X xs)

-- and where it adds to this
pub grown : (X : Type 0) (f : LibrarySession → List X) (xs : List LibrarySession) (t s : ℕ) (x d : LibrarySession) (more : List X) → t < length xs → f x ≡ f (get_or xs t d) ++ more
    → f (get_or (set xs t x) s d) ≡ f (get_or xs s d) ++ (if t == s then more else [])
grown X f xs t s x d more within grew = elim (ℕ_discrete s t) [
  | yes here ↦ subst (λ (j : ℕ). f (get_or (set xs t x) j d) ≡ f (get_or xs j d) ++ (if t == j then more else [])) (sym here)
      (ap (λ (ls : LibrarySession). f ls) (get_or-set_same xs t x d within) ∙ grew
      ∙ ap (λ (b : Bool). f (get_or xs t d) ++ (if b then more else [])) (sym (eq-eqb t t refl)))
  | no other ↦ ap (λ (ls : LibrarySession). f ls) (get_or-set_other xs t s x d other)
      ∙ sym (append_none X (f (get_or xs s d)))
      ∙ ap (λ (b : Bool). f (get_or xs s d) ++ (if b then more else [])) (sym (ne_eqb t s (λ e. other (sym e))))
]

-- a session once one of the table's was seen, where the look doesn't touch this
pub saw_if : (X : Type 0) (f : LibrarySession → X) (seat : LibraryView) (t s : ℕ) (x : LibrarySession) (b : Bool) → f x ≡ f (library_at seat t)
    → f (library_at (if b then with_library_at seat t x else seat) s) ≡ f (library_at seat s)
saw_if X f seat t s x true same = changed X f seat.knows.sessions t s x no_library_session same
saw_if X f seat t s x false same = refl
