-- What is kept of the sends and releases behind a session's entries is what its journal has of them.
use Rattle.std.proofs.Common.{◌≡◌, ℕ, suc, zero, ◌+◌, ◌<◌, ◌⊎◌, inl, inr, ◌==◌, cond, if◌then◌else◌, Bool, true, false, List, [], ◌∷◌, ◌++◌, length, drop, fold, filter, flat_map, zip, Option, Some, None, option_to_list, refl, sym, ap, ◌∙◌, subst, append_assoc, append-nil, add-one, slice_get, get_or-set_same, get_or-set_other}
use Rattle.std.proofs.lemmas.Bool.{eq-eqb, ne_eqb}
use Rattle.std.proofs.lemmas.Grind.{flat_map-append}
use Rattle.std.proofs.lemmas.List.{length_push, length-set}
use Rattle.std.proofs.lemmas.List.Elements.{filter-append}
use Rattle.lease_core.specs.Deeds.{deeds_in, deeds_of, deeds_of_library, library_of}
use Rattle.lease_core.specs.declared.entry.Entry.{Entry}
use Rattle.lease_core.specs.declared.entry.Entry.TheVariants as entries
use Rattle.lease_core.specs.declared.lease.Deed.{Deed as Done}
use Rattle.lease_core.specs.declared.lease.Deed.TheVariants as done
use Rattle.journal_audit.specs.Sessions.{SessionSeen, no_session, session_after, owed_by, owed_with}
use Rattle.journal_audit.specs.Shown.{is_own, own_deeds, is_logged, body_sent}
use Rattle.journal_audit.specs.declared.session.Deed.{Deed}
use Rattle.journal_audit.specs.declared.session.Deed.TheVariants as deed
use Rattle.journal_audit.specs.declared.session.TheConstants.{LIBRARY_PLACES}
use Rattle.journal_audit.proofs.CallsTell.{deed_kept, body_kept, same_or_other, owed_nowhere}
use Rattle.journal_audit.proofs.Grants.{IsWithin, AreWithin}

-- what an entry adds for a library, where so many marks were made
abbrev kept_by : ℕ → ℕ → Entry → List Deed
kept_by n library (entries.Send lease whose ordinal number) = if whose == library then deed.Sent lease ordinal n ∷ [] else []
kept_by n library (entries.Release lease whose count heir) = if whose == library then deed.GaveBack lease count heir ∷ [] else []
kept_by n library _ = []

abbrev marks_by : Entry → ℕ → ℕ
marks_by (entries.Admin number) n = suc n
marks_by (entries.Send lease whose ordinal number) n = suc n
marks_by (entries.Reset series) n = suc n
marks_by _ n = n

abbrev pub kept_in : ℕ → ℕ → List Entry → List Deed
kept_in n library [] = []
kept_in n library (e ∷ es) = kept_by n library e ++ kept_in (marks_by e n) library es

owed_pushed : (owed : List (List Deed)) (whose library : ℕ) (d : Deed) → whose < length owed → owed_by (owed_with whose d owed) library ≡ owed_by owed library ++ (if whose == library then d ∷ [] else [])
owed_pushed owed whose library d within = elim (same_or_other library whose) [
  | inl is ↦ subst (λ (l : ℕ). owed_by (owed_with whose d owed) l ≡ owed_by owed l ++ (if whose == l then d ∷ [] else [])) (sym is)
      (get_or-set_same owed whose (owed_by owed whose ++ d ∷ []) [] within ∙ ap (λ (test : Bool). owed_by owed whose ++ (if test then d ∷ [] else [])) (sym (eq-eqb whose whose refl)))
  | inr apart ↦
      get_or-set_other owed whose library (owed_by owed whose ++ d ∷ []) [] apart
      ∙ sym (append-nil (owed_by owed library))
      ∙ ap (λ (test : Bool). owed_by owed library ++ (if test then d ∷ [] else [])) (sym (ne_eqb whose library (λ same. apart (sym same))))
]

record EntryFacts (one after : SessionSeen) (library : ℕ) (e : Entry) : Type 0 where
  pub owed : owed_by after.owed library ≡ owed_by one.owed library ++ kept_by (length one.marks) library e
  pub marks : length after.marks ≡ marks_by e (length one.marks)
  pub places : length after.owed ≡ length one.owed

unchanged : (one : SessionSeen) (library : ℕ) → owed_by one.owed library ≡ owed_by one.owed library ++ []
unchanged one library = sym (append-nil (owed_by one.owed library))

entry_facts : (one : SessionSeen) (library : ℕ) (e : Entry) → IsWithin (length one.owed) e → EntryFacts one (session_after one e) library e
unfolding session_after
entry_facts one library (entries.Arrive pos) within = record { owed = unchanged one library; marks = refl; places = refl }
entry_facts one library (entries.Admin number) within = record { owed = unchanged one library; marks = length_push one.marks _ ∙ add-one (length one.marks); places = refl }
entry_facts one library (entries.Bind c) within = record { owed = unchanged one library; marks = refl; places = refl }
entry_facts one library (entries.Plan begin last at) within = record { owed = unchanged one library; marks = refl; places = refl }
entry_facts one library (entries.Leave c) within = record { owed = unchanged one library; marks = refl; places = refl }
entry_facts one library (entries.Reset series) within = record { owed = unchanged one library; marks = length_push one.marks _ ∙ add-one (length one.marks); places = refl }
entry_facts one library (entries.Granted whose nr lease from start) within = record { owed = unchanged one library; marks = refl; places = refl }
entry_facts one library (entries.Refused whose nr why) within = record { owed = unchanged one library; marks = refl; places = refl }
entry_facts one library (entries.Send lease whose ordinal number) within = record {
  owed = owed_pushed one.owed whose library (deed.Sent lease ordinal (length one.marks)) within;
  marks = length_push one.marks _ ∙ add-one (length one.marks);
  places = length-set one.owed whose _;
}
entry_facts one library (entries.Release lease whose count heir) within = record {
  owed = owed_pushed one.owed whose library (deed.GaveBack lease count heir) within;
  marks = refl;
  places = length-set one.owed whose _;
}
entry_facts one library (entries.Timeout lease whose count) within = record { owed = unchanged one library; marks = refl; places = refl }
entry_facts one library (entries.Hold lease until) within = record { owed = unchanged one library; marks = refl; places = refl }
entry_facts one library (entries.Lapse lease) within = record { owed = unchanged one library; marks = refl; places = refl }

owed_over : (es : List Entry) (one : SessionSeen) (library : ℕ) → AreWithin (length one.owed) es → owed_by (fold session_after one es).owed library ≡ owed_by one.owed library ++ kept_in (length one.marks) library es
owed_over [] one library within = unchanged one library
owed_over (e ∷ es) one library within =
    let facts = entry_facts one library e within.0 in
    owed_over es (session_after one e) library (subst (λ (n : ℕ). AreWithin n es) (sym facts.places) within.1)
    ∙ ap (λ (ds : List Deed). ds ++ kept_in (length (session_after one e).marks) library es) facts.owed
    ∙ ap (λ (n : ℕ). (owed_by one.owed library ++ kept_by (length one.marks) library e) ++ kept_in n library es) facts.marks
    ∙ append_assoc (owed_by one.owed library) (kept_by (length one.marks) library e) (kept_in (marks_by e (length one.marks)) library es)

pub owed_behind : (es : List Entry) (library : ℕ) → AreWithin LIBRARY_PLACES es → owed_by (fold session_after no_session es).owed library ≡ kept_in 0 library es
owed_behind es library within = owed_over es no_session library within ∙ ap (λ (ds : List Deed). ds ++ kept_in 0 library es) (owed_nowhere library)

-- The journal's deeds.

abbrev own : ℕ → List Done → List Done
own library ds = filter is_own (deeds_of_library library ds)

sent_own : (bodies : List (List ℕ)) (n library whose lease ordinal : ℕ) → flat_map (deed_kept bodies library) (if whose == library then deed.Sent lease ordinal n ∷ [] else []) ≡ own library (done.Sent lease whose ordinal ∷ [])
sent_own bodies n library whose lease ordinal = elim (same_or_other whose library) [
  | inl is ↦ subst (λ (l : ℕ). flat_map (deed_kept bodies l) (if whose == l then deed.Sent lease ordinal n ∷ [] else []) ≡ own l (done.Sent lease whose ordinal ∷ [])) is (rw (eq-eqb whose whose refl) refl)
  | inr apart ↦ rw (ne_eqb whose library apart) refl
]

given_back_own : (bodies : List (List ℕ)) (library whose lease count heir : ℕ) → flat_map (deed_kept bodies library) (if whose == library then deed.GaveBack lease count heir ∷ [] else []) ≡ own library (done.GaveBack lease whose count heir ∷ [])
given_back_own bodies library whose lease count heir = elim (same_or_other whose library) [
  | inl is ↦ subst (λ (l : ℕ). flat_map (deed_kept bodies l) (if whose == l then deed.GaveBack lease count heir ∷ [] else []) ≡ own l (done.GaveBack lease whose count heir ∷ [])) is (rw (eq-eqb whose whose refl) refl)
  | inr apart ↦ rw (ne_eqb whose library apart) refl
]

taken_back_own : (test : Bool) (d : Done) → is_own d ≡ false → [] ≡ filter is_own (cond test (d ∷ []) [])
taken_back_own true d none = sym (ap (λ (t : Bool). cond t (d ∷ []) []) none)
taken_back_own false d none = refl

entry_own : (bodies : List (List ℕ)) (n library : ℕ) (e : Entry) → flat_map (deed_kept bodies library) (kept_by n library e) ≡ own library (deeds_in e)
entry_own bodies n library (entries.Send lease whose ordinal number) = sent_own bodies n library whose lease ordinal
entry_own bodies n library (entries.Release lease whose count heir) = given_back_own bodies library whose lease count heir
entry_own bodies n library (entries.Timeout lease whose count) = taken_back_own (whose == library) (done.TookBack lease whose count) refl
entry_own bodies n library (entries.Arrive pos) = refl
entry_own bodies n library (entries.Admin number) = refl
entry_own bodies n library (entries.Bind c) = refl
entry_own bodies n library (entries.Plan begin last at) = refl
entry_own bodies n library (entries.Leave c) = refl
entry_own bodies n library (entries.Reset series) = refl
entry_own bodies n library (entries.Granted whose nr lease from start) = refl
entry_own bodies n library (entries.Refused whose nr why) = refl
entry_own bodies n library (entries.Hold lease until) = refl
entry_own bodies n library (entries.Lapse lease) = refl

own_append : (library : ℕ) (xs ys : List Done) → own library (xs ++ ys) ≡ own library xs ++ own library ys
own_append library xs ys =
    ap (λ (ds : List Done). filter is_own ds) (filter-append (λ d. library_of d == library) xs ys)
    ∙ filter-append is_own (deeds_of_library library xs) (deeds_of_library library ys)

pub deeds_kept : (bodies : List (List ℕ)) (es : List Entry) (n library : ℕ) → flat_map (deed_kept bodies library) (kept_in n library es) ≡ own_deeds library es
deeds_kept bodies [] n library = refl
deeds_kept bodies (e ∷ es) n library =
    flat_map-append (deed_kept bodies library) (kept_by n library e) (kept_in (marks_by e n) library es)
    ∙ ap (λ (ds : List Done). ds ++ flat_map (deed_kept bodies library) (kept_in (marks_by e n) library es)) (entry_own bodies n library e)
    ∙ ap (λ (ds : List Done). own library (deeds_in e) ++ ds) (deeds_kept bodies es (marks_by e n) library)
    ∙ sym (own_append library (deeds_in e) (deeds_of es))

-- The bodies of sends.

abbrev sent_among : ℕ → List Entry → List (List ℕ) → List (List ℕ)
sent_among library es bodies = flat_map (λ logged. body_sent library logged.0 logged.1) (zip (filter is_logged es) bodies)

zip_none : {A B : Type 0} (xs : List A) → zip {K = A} {X = B} xs [] ≡ []
zip_none [] = refl
zip_none (x ∷ xs) = refl

sent_none : (library : ℕ) (es : List Entry) → sent_among library es [] ≡ []
sent_none library es = ap (λ pairs. flat_map (λ logged. body_sent library logged.0 logged.1) pairs) (zip_none {A = Entry} {B = List ℕ} (filter is_logged es))

record IsPast (bodies : List (List ℕ)) (n : ℕ) : Type 0 where
  pub none : slice_get bodies n ≡ None
  pub here : drop n bodies ≡ []
  pub behind : drop (suc n) bodies ≡ []

record IsAt (bodies : List (List ℕ)) (n : ℕ) : Type 0 where
  pub body : List ℕ
  pub some : slice_get bodies n ≡ Some body
  pub here : drop n bodies ≡ body ∷ drop (suc n) bodies

drop_none : {A : Type 0} (n : ℕ) → drop {A = A} n [] ≡ []
drop_none zero = refl
drop_none (suc n) = refl

place_of : (bodies : List (List ℕ)) (n : ℕ) → IsPast bodies n ⊎ IsAt bodies n
place_of [] n = inl (record { none = refl; here = drop_none n; behind = drop_none (suc n) })
place_of (x ∷ xs) zero = inr (record { body = x; some = refl; here = refl })
place_of (x ∷ xs) (suc n) = elim (place_of xs n) [
  | inl past ↦ inl (record { none = past.none; here = past.here; behind = past.behind })
  | inr at ↦ inr (record { body = at.body; some = at.some; here = at.here })
]

-- an entry with something in the outbound log
logged_kept : (bodies : List (List ℕ)) (library n : ℕ) (e : Entry) (es : List Entry) → ((found : Option (List ℕ)) → slice_get bodies n ≡ found → flat_map (body_kept bodies library) (kept_by n library e) ≡ flat_map (body_sent library e) (option_to_list found))
    → flat_map (body_kept bodies library) (kept_in (suc n) library es) ≡ sent_among library es (drop (suc n) bodies)
    → flat_map (body_kept bodies library) (kept_by n library e ++ kept_in (suc n) library es) ≡ flat_map (λ logged. body_sent library logged.0 logged.1) (zip (e ∷ filter is_logged es) (drop n bodies))
logged_kept bodies library n e es own later =
    flat_map-append (body_kept bodies library) (kept_by n library e) (kept_in (suc n) library es)
    ∙ elim (place_of bodies n) [
      | inl past ↦
          ap (λ (xs : List (List ℕ)). xs ++ flat_map (body_kept bodies library) (kept_in (suc n) library es)) (own None past.none)
          ∙ later ∙ ap (λ (xs : List (List ℕ)). sent_among library es xs) past.behind ∙ sent_none library es
          ∙ ap (λ (xs : List (List ℕ)). flat_map (λ logged. body_sent library logged.0 logged.1) (zip (e ∷ filter is_logged es) xs)) (sym past.here)
      | inr at ↦
          ap (λ (xs : List (List ℕ)). xs ++ flat_map (body_kept bodies library) (kept_in (suc n) library es)) (own (Some at.body) at.some ∙ append-nil (body_sent library e at.body))
          ∙ ap (λ (xs : List (List ℕ)). body_sent library e at.body ++ xs) later
          ∙ ap (λ (xs : List (List ℕ)). flat_map (λ logged. body_sent library logged.0 logged.1) (zip (e ∷ filter is_logged es) xs)) (sym at.here)
    ]

sent_kept : (bodies : List (List ℕ)) (library n lease whose ordinal number : ℕ) (test : Bool) (found : Option (List ℕ)) → slice_get bodies n ≡ found
    → flat_map (body_kept bodies library) (if test then deed.Sent lease ordinal n ∷ [] else []) ≡ flat_map (λ body. if test then body ∷ [] else []) (option_to_list found)
sent_kept bodies library n lease whose ordinal number true None at = ap (λ (f : Option (List ℕ)). option_to_list f ++ []) at
sent_kept bodies library n lease whose ordinal number true (Some body) at = ap (λ (f : Option (List ℕ)). option_to_list f ++ []) at
sent_kept bodies library n lease whose ordinal number false None at = refl
sent_kept bodies library n lease whose ordinal number false (Some body) at = refl

none_sent : (bodies : List (List ℕ)) (library : ℕ) (e : Entry) → ((body : List ℕ) → body_sent library e body ≡ []) → (found : Option (List ℕ)) → [] ≡ flat_map (body_sent library e) (option_to_list found)
none_sent bodies library e none None = refl
none_sent bodies library e none (Some body) = sym (append-nil (body_sent library e body) ∙ none body)

released_none : (bodies : List (List ℕ)) (library lease count heir : ℕ) (test : Bool) → flat_map (body_kept bodies library) (if test then deed.GaveBack lease count heir ∷ [] else []) ≡ []
released_none bodies library lease count heir true = refl
released_none bodies library lease count heir false = refl

pub bodies_kept : (bodies : List (List ℕ)) (es : List Entry) (n library : ℕ) → flat_map (body_kept bodies library) (kept_in n library es) ≡ sent_among library es (drop n bodies)
bodies_kept bodies [] n library = refl
bodies_kept bodies (entries.Admin number ∷ es) n library = logged_kept bodies library n (entries.Admin number) es (λ found at. none_sent bodies library (entries.Admin number) (λ body. refl) found) (bodies_kept bodies es (suc n) library)
bodies_kept bodies (entries.Reset series ∷ es) n library = logged_kept bodies library n (entries.Reset series) es (λ found at. none_sent bodies library (entries.Reset series) (λ body. refl) found) (bodies_kept bodies es (suc n) library)
bodies_kept bodies (entries.Send lease whose ordinal number ∷ es) n library =
    logged_kept bodies library n (entries.Send lease whose ordinal number) es (λ found at. sent_kept bodies library n lease whose ordinal number (whose == library) found at) (bodies_kept bodies es (suc n) library)
bodies_kept bodies (entries.Release lease whose count heir ∷ es) n library =
    flat_map-append (body_kept bodies library) (kept_by n library (entries.Release lease whose count heir)) (kept_in n library es)
    ∙ ap (λ (xs : List (List ℕ)). xs ++ flat_map (body_kept bodies library) (kept_in n library es)) (released_none bodies library lease count heir (whose == library))
    ∙ bodies_kept bodies es n library
bodies_kept bodies (entries.Arrive pos ∷ es) n library = bodies_kept bodies es n library
bodies_kept bodies (entries.Bind c ∷ es) n library = bodies_kept bodies es n library
bodies_kept bodies (entries.Plan begin last at ∷ es) n library = bodies_kept bodies es n library
bodies_kept bodies (entries.Leave c ∷ es) n library = bodies_kept bodies es n library
bodies_kept bodies (entries.Granted whose nr lease from start ∷ es) n library = bodies_kept bodies es n library
bodies_kept bodies (entries.Refused whose nr why ∷ es) n library = bodies_kept bodies es n library
bodies_kept bodies (entries.Timeout lease whose count ∷ es) n library = bodies_kept bodies es n library
bodies_kept bodies (entries.Hold lease until ∷ es) n library = bodies_kept bodies es n library
bodies_kept bodies (entries.Lapse lease ∷ es) n library = bodies_kept bodies es n library
