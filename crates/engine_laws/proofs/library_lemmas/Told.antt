-- Which notices answer nothing, and what one more that does adds.
use Rattle.std.proofs.Common.{◌≡◌, ◌≢◌, ℕ, zero, suc, ◌<◌, ◌≤◌, ◌==◌, Bool, true, false, List, [], ◌∷◌, ◌++◌, refl, ap, ◌∙◌}
use Rattle.std.proofs.lemmas.Bool.{eq-eqb, le-leb, lt-leb, ne_eqb}
use Rattle.std.proofs.lemmas.Grind.{flat_map-append}
use Rattle.std.proofs.lemmas.List.{append-nil}
use Rattle.std.specs.List.{flat_map}
use Rattle.std.specs.Prelude.{if◌then◌else◌}
use Rattle.catchup_pump.specs.Pump.{message_at, messages_from}
use Rattle.catchup_pump.specs.declared.cursor.Cursor.{Cursor}
use Rattle.lease_core.specs.Steps.{entry_with}
use Rattle.lease_core.specs.declared.entry.Why.{Why}
use Rattle.lease_core.specs.declared.messages.Notice.{Notice}
use Rattle.lease_core.specs.declared.messages.Notice.TheVariants.{Granted, Message, Refused}
use Rattle.lease_core.specs.declared.messages.Reply.{Reply}
use Rattle.lease_core.specs.declared.messages.Reply.TheVariants as reply
use Rattle.library_desk.specs.Serving.{notice_of}
use Rattle.engine_laws.specs.libraries.Replies.{answered_by, reply_of, reply_told, stray_reply}

-- one element more
pub one_more : {X A : Type 0} (f : X → List A) (xs : List X) (x : X) → flat_map f (xs ++ x ∷ []) ≡ flat_map f xs ++ f x
one_more f xs x = flat_map-append f xs (x ∷ []) ∙ ap (λ ys. flat_map f xs ++ ys) (append-nil (f x))

-- further ones that give nothing
nothing_more : {X A : Type 0} (f : X → List A) (xs ys : List X) → flat_map f ys ≡ [] → flat_map f (xs ++ ys) ≡ flat_map f xs
nothing_more f xs ys none = flat_map-append f xs ys ∙ ap (λ zs. flat_map f xs ++ zs) none ∙ append-nil (flat_map f xs)

of_messages : {A : Type 0} (f : Notice → List A) → ((s lease pos : ℕ) (bytes : List ℕ) → f (Message s lease pos bytes) ≡ []) → (c : Cursor) (log : List (List ℕ)) (n : ℕ) → flat_map f (messages_from c log n) ≡ []
of_messages f none c log zero = refl
of_messages f none c log (suc n) = nothing_more f (messages_from c log n) (message_at c log n ∷ []) (ap (λ ys. ys ++ []) (none _ _ _ _)) ∙ of_messages f none c log n

-- the same replies
pub record SameNotices (old new : List Notice) : Type 0 where
  pub answered : flat_map answered_by new ≡ flat_map answered_by old
  pub of_session : (s : ℕ) → flat_map (reply_of s) new ≡ flat_map (reply_of s) old
  pub stray : (n : ℕ) → flat_map (stray_reply n) new ≡ flat_map (stray_reply n) old

pub same_notices : (old new : List Notice) → new ≡ old → SameNotices old new
same_notices old new same = record { answered = ap (flat_map answered_by) same; of_session = λ s. ap (flat_map (reply_of s)) same; stray = λ n. ap (flat_map (stray_reply n)) same }

pub messages_more : (old new : List Notice) (c : Cursor) (log : List (List ℕ)) (n : ℕ) → new ≡ old ++ messages_from c log n → SameNotices old new
messages_more old new c log n is = record {
  answered = ap (flat_map answered_by) is ∙ nothing_more answered_by old (messages_from c log n) (of_messages answered_by (λ s lease pos bytes. refl) c log n);
  of_session = λ s. ap (flat_map (reply_of s)) is ∙ nothing_more (reply_of s) old (messages_from c log n) (of_messages (reply_of s) (λ t lease pos bytes. refl) c log n);
  stray = λ m. ap (flat_map (stray_reply m)) is ∙ nothing_more (stray_reply m) old (messages_from c log n) (of_messages (stray_reply m) (λ t lease pos bytes. refl) c log n);
}

-- a choice by a test whose outcome is known
chosen : {A : Type 0} (is outcome : Bool) (xs ys : List A) → is ≡ outcome → (if is then xs else ys) ≡ (if outcome then xs else ys)
chosen is outcome xs ys known = ap (λ b. if b then xs else ys) known

-- The notice answers this request of session s, and no other session's.
pub record Answers (nr s : ℕ) (notice : Notice) : Type 0 where
  pub answered : answered_by notice ≡ record { nr = nr; s = s } ∷ []
  pub own : reply_of s notice ≡ notice ∷ []
  pub others : (j : ℕ) → s ≢ j → reply_of j notice ≡ []
  pub within : (n : ℕ) → s < n → stray_reply n notice ≡ []
  pub beyond : (n : ℕ) → n ≤ s → stray_reply n notice ≡ notice ∷ []

pub grants : (nr s lease from start : ℕ) → Answers nr s (Granted nr s lease from start)
grants nr s lease from start = record {
  answered = refl;
  own = chosen (s == s) true (Granted nr s lease from start ∷ []) [] (eq-eqb s s refl);
  others = λ j other. chosen (s == j) false (Granted nr s lease from start ∷ []) [] (ne_eqb s j other);
  within = λ n small. chosen _ false (Granted nr s lease from start ∷ []) [] (lt-leb n s small);
  beyond = λ n least. chosen _ true (Granted nr s lease from start ∷ []) [] (le-leb n s least);
}

pub refuses : (nr s : ℕ) (why : Why) → Answers nr s (Refused nr s why)
refuses nr s why = record {
  answered = refl;
  own = chosen (s == s) true (Refused nr s why ∷ []) [] (eq-eqb s s refl);
  others = λ j other. chosen (s == j) false (Refused nr s why ∷ []) [] (ne_eqb s j other);
  within = λ n small. chosen _ false (Refused nr s why ∷ []) [] (lt-leb n s small);
  beyond = λ n least. chosen _ true (Refused nr s why ∷ []) [] (le-leb n s least);
}

pub replies : (nr s from : ℕ) (r : Reply) → Answers nr s (notice_of nr s from r)
replies nr s from (reply.Granted lease start) = grants nr s lease from start
replies nr s from (reply.Refused why) = refuses nr s why

-- what the entry of a request tells its library, and what others
pub told_own : (library nr s from : ℕ) (r : Reply) → reply_told library s (entry_with library nr from r) ≡ notice_of nr s from r ∷ []
told_own library nr s from (reply.Granted lease start) = chosen (library == library) true (Granted nr s lease from start ∷ []) [] (eq-eqb library library refl)
told_own library nr s from (reply.Refused why) = chosen (library == library) true (Refused nr s why ∷ []) [] (eq-eqb library library refl)

pub told_others : (library other nr s from : ℕ) (r : Reply) → library ≢ other → reply_told other s (entry_with library nr from r) ≡ []
told_others library other nr s from (reply.Granted lease start) different = chosen (library == other) false (Granted nr s lease from start ∷ []) [] (ne_eqb library other different)
told_others library other nr s from (reply.Refused why) different = chosen (library == other) false (Refused nr s why ∷ []) [] (ne_eqb library other different)

pub stray_own : {A : Type 0} (library : ℕ) (xs : List A) → (if library == library then xs else []) ≡ xs
stray_own library xs = chosen (library == library) true xs [] (eq-eqb library library refl)

pub stray_others : {A : Type 0} (library other : ℕ) (xs : List A) → library ≢ other → (if library == other then xs else []) ≡ []
stray_others library other xs different = chosen (library == other) false xs [] (ne_eqb library other different)
