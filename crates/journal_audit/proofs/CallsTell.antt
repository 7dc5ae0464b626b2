-- What the calls from here on say is what is kept of the sessions.
use Rattle.std.proofs.Common.{◌≡◌, ℕ, suc, zero, ◌+◌, ◌-◌, ◌<◌, ◌≤◌, ◌⊎◌, inl, inr, ◌&&◌, ◌==◌, if◌then◌else◌, Bool, true, false, List, [], ◌∷◌, ◌++◌, length, take, drop, flat_map, Option, Some, None, option_to_list, refl, sym, ap, ◌∙◌, subst, arith, add-one, get_or-set_same, get_or-set_other, replicate, slice_get, slice_set, slice_index_or}
use Rattle.std.proofs.lemmas.Bool.{false≢true, and_parts, eqb-true, eqb-false, eq-eqb, ne_eqb, ltb-true}
use Rattle.std.proofs.lemmas.Option.{slice_get_within, get_or_from_slice_get, slice_get-get_or, same_Some}
use Rattle.std.proofs.lemmas.List.{length-set, nil_from_length}
use Rattle.std.specs.List.{list_all}
use Rattle.journal_audit.specs.declared.session.TheConstants.{LIBRARY_PLACES}
use Rattle.std.proofs.lemmas.Slice.Eq.{bytes_eq-Decides}
use Rattle.lease_core.specs.declared.lease.Deed.{Deed as Done}
use Rattle.lease_core.specs.declared.lease.Deed.TheVariants as done
use Rattle.journal_audit.specs.Called.{Called, Reading, readings, deeds_called, bodies_called}
use Rattle.journal_audit.specs.Rules.{is_right_call, after_call, is_read_of, is_sent_of, is_given_back_of}
use Rattle.journal_audit.specs.Seen.{Seen}
use Rattle.journal_audit.specs.Sessions.{is_told, all_told, SessionSeen, no_session, no_reader, is_read, is_next_for, has_bytes, session_after_read, is_sent, fits_sent, is_given_back, fits_release, session_after_deed, owed_by}
use Rattle.journal_audit.specs.Shown.{read_from}
use Rattle.journal_audit.specs.declared.line.Call.{Call}
use Rattle.journal_audit.specs.declared.line.Call.TheVariants as call
use Rattle.journal_audit.specs.declared.session.Deed.{Deed}
use Rattle.journal_audit.specs.declared.session.Deed.TheVariants as deed
use Rattle.journal_audit.specs.declared.session.Reader.{Reader}

decided : (a b : ℕ) (t : Bool) → (a == b) ≡ t → (a ≡ b) ⊎ (a ≡ b → ⊥)
decided a b true e = inl (eqb-true a b e)
decided a b false e = inr (eqb-false a b e)

pub same_or_other : (a b : ℕ) → (a ≡ b) ⊎ (a ≡ b → ⊥)
same_or_other a b = decided a b (a == b) refl

-- Sessions, as one of them changes.

abbrev pub at_session : List SessionSeen → ℕ → SessionSeen
at_session sessions s = slice_index_or sessions s no_session

abbrev changed : ℕ → (SessionSeen → SessionSeen) → List SessionSeen → List SessionSeen
changed t f sessions = slice_set sessions t (f (at_session sessions t))

changed_same : (t : ℕ) (f : SessionSeen → SessionSeen) (sessions : List SessionSeen) → t < length sessions → at_session (changed t f sessions) t ≡ f (at_session sessions t)
changed_same t f sessions within = get_or-set_same sessions t (f (at_session sessions t)) no_session within

changed_other : (s t : ℕ) (f : SessionSeen → SessionSeen) (sessions : List SessionSeen) → (s ≡ t → ⊥) → at_session (changed t f sessions) s ≡ at_session sessions s
changed_other s t f sessions apart = get_or-set_other sessions t s (f (at_session sessions t)) no_session apart

-- what the change leaves as it was
field_kept : {A : Type 0} (g : SessionSeen → A) (t : ℕ) (f : SessionSeen → SessionSeen) (sessions : List SessionSeen) → t < length sessions → ((one : SessionSeen) → g (f one) ≡ g one) → (s : ℕ) → g (at_session (changed t f sessions) s) ≡ g (at_session sessions s)
field_kept g t f sessions within same s = elim (same_or_other s t) [
  | inl is ↦ subst (λ (x : ℕ). g (at_session (changed t f sessions) x) ≡ g (at_session sessions x)) (sym is) (ap g (changed_same t f sessions within) ∙ same (at_session sessions t))
  | inr apart ↦ ap g (changed_other s t f sessions apart)
]

-- What is kept, and what the calls say.

-- By a lease that has these readers, these are the messages that come next.
pub record IsReadOn (one : SessionSeen) (lease : ℕ) (read : List Reading) : Type 0 where
  pub some : 0 < lease
  pub reader : Reader
  pub at : slice_get one.readers (lease - 1) ≡ Some reader
  pub within : reader.next + length read ≤ reader.end
  pub are : read ≡ read_from reader.library reader.next (take (length read) (drop reader.next one.inbound))

abbrev pub done_by : ℕ → Deed → Done
done_by library (deed.Sent lease ordinal place) = done.Sent lease library ordinal
done_by library (deed.GaveBack lease count heir) = done.GaveBack lease library count heir

abbrev pub deed_kept : List (List ℕ) → ℕ → Deed → List Done
deed_kept bodies library d = done_by library d ∷ []

abbrev pub body_kept : List (List ℕ) → ℕ → Deed → List (List ℕ)
body_kept bodies library (deed.Sent lease ordinal place) = option_to_list (slice_get bodies place)
body_kept bodies library (deed.GaveBack lease count heir) = []

-- what is kept of the deeds of a library
abbrev pub owed_in : {A : Type 0} → (List (List ℕ) → ℕ → Deed → List A) → SessionSeen → ℕ → List A
owed_in g one library = flat_map (g one.bodies library) (owed_by one.owed library)

pub record TellsOn (sessions : List SessionSeen) (calls : List Called) : Type 0 where
  pub reads : (s lease : ℕ) → (readings s lease calls ≡ []) ⊎ IsReadOn (at_session sessions s) lease (readings s lease calls)
  pub deeds : (library s : ℕ) → deeds_called library s calls ≡ owed_in deed_kept (at_session sessions s) library
  pub bodies : (library s : ℕ) → bodies_called library s calls ≡ owed_in body_kept (at_session sessions s) library

-- A message that was read.

record IsReadBy (one : SessionSeen) (library lease pos : ℕ) (body : List ℕ) : Type 0 where
  pub some : 0 < lease
  pub reader : Reader
  pub at : slice_get one.readers (lease - 1) ≡ Some reader
  pub whose : reader.library ≡ library
  pub next : reader.next ≡ pos
  pub below : pos < reader.end
  pub has : slice_get one.inbound pos ≡ Some body

pub has_found : (list : List (List ℕ)) (place : ℕ) (bytes : List ℕ) → has_bytes list place bytes ≡ true → slice_get list place ≡ Some bytes
has_found [] place bytes h = absurd (false≢true h)
has_found (x ∷ xs) zero bytes h = ap (λ (y : List ℕ). Some y) ((bytes_eq-Decides x bytes).0 h)
has_found (x ∷ xs) (suc place) bytes h = has_found xs place bytes h

record IsNextReader (found : Option Reader) (library pos : ℕ) : Type 0 where
  pub reader : Reader
  pub found_is : found ≡ Some reader
  pub whose : reader.library ≡ library
  pub next : reader.next ≡ pos
  pub below : pos < reader.end

next_reader : (found : Option Reader) (library pos : ℕ) → is_next_for found library pos ≡ true → IsNextReader found library pos
next_reader None library pos h = absurd (false≢true h)
next_reader (Some r) library pos h =
    let parts = and_parts _ _ h in
    let fronts = and_parts _ _ parts.0 in
    record { reader = r; found_is = refl; whose = eqb-true r.library library fronts.0; next = eqb-true r.next pos fronts.1; below = ltb-true pos r.end parts.1 }

read_facts : (one : SessionSeen) (library lease pos : ℕ) (body : List ℕ) → is_read one library lease pos body ≡ true → IsReadBy one library lease pos body
unfolding is_read
read_facts one library lease pos body h =
    let parts = and_parts _ _ h in
    let fronts = and_parts _ _ parts.0 in
    let next = next_reader (slice_get one.readers (lease - 1)) library pos fronts.1 in
    record {
      some = ltb-true 0 lease fronts.0;
      reader = next.reader;
      at = next.found_is;
      whose = next.whose;
      next = next.next;
      below = next.below;
      has = has_found one.inbound pos body parts.1;
    }

record Found (found : Option SessionSeen) (test : SessionSeen → Bool) : Type 0 where
  pub session : SessionSeen
  pub found_is : found ≡ Some session
  pub passes : test session ≡ true

found_read : (found : Option SessionSeen) (library lease pos : ℕ) (body : List ℕ) → is_read_of found library lease pos body ≡ true → Found found (λ one. is_read one library lease pos body)
found_read None library lease pos body h = absurd (false≢true h)
found_read (Some one) library lease pos body h = record { session = one; found_is = refl; passes = h }

drop_here : {A : Type 0} (xs : List A) (i : ℕ) (x : A) → slice_get xs i ≡ Some x → drop i xs ≡ x ∷ drop (suc i) xs
drop_here [] i x h = absurd (cc)
drop_here (y ∷ ys) zero x h = ap (λ z. z ∷ ys) (same_Some y x h)
drop_here (y ∷ ys) (suc i) x h = drop_here ys i x h

abbrev moved : Reader → ℕ → Reader
moved reader pos = record reader { next = pos + 1 }

reader_after : (one : SessionSeen) (library lease pos : ℕ) (body : List ℕ) (by : IsReadBy one library lease pos body) → slice_get (session_after_read lease pos one).readers (lease - 1) ≡ Some (moved by.reader pos)
unfolding session_after_read
reader_after one library lease pos body by =
    let k = lease - 1 in
    let new = moved (slice_index_or one.readers k no_reader) pos in
    let within = slice_get_within one.readers k by.reader by.at in
    let inside : k < length (slice_set one.readers k new) = omega (arith, length-set one.readers k new) in
    slice_get-get_or (slice_set one.readers k new) k no_reader inside
    ∙ ap (λ (r : Reader). Some r) (get_or-set_same one.readers k new no_reader within)
    ∙ ap (λ (r : Reader). Some (moved r pos)) (get_or_from_slice_get one.readers k by.reader no_reader by.at)

inbound_after : (lease pos : ℕ) (one : SessionSeen) → (session_after_read lease pos one).inbound ≡ one.inbound
unfolding session_after_read
inbound_after lease pos one = refl

bodies_after_read : (lease pos : ℕ) (one : SessionSeen) → (session_after_read lease pos one).bodies ≡ one.bodies
unfolding session_after_read
bodies_after_read lease pos one = refl

owed_after_read : (lease pos : ℕ) (one : SessionSeen) → (session_after_read lease pos one).owed ≡ one.owed
unfolding session_after_read
owed_after_read lease pos one = refl

get_set_other : {A : Type 0} (xs : List A) (i j : ℕ) (x : A) → (j ≡ i → ⊥) → slice_get (slice_set xs i x) j ≡ slice_get xs j
get_set_other [] i j x apart = refl
get_set_other (y ∷ ys) zero zero x apart = absurd (apart refl)
get_set_other (y ∷ ys) zero (suc j) x apart = refl
get_set_other (y ∷ ys) (suc i) zero x apart = refl
get_set_other (y ∷ ys) (suc i) (suc j) x apart = get_set_other ys i j x (λ same. apart (ap suc same))

readers_after_other : (lease pos k : ℕ) (one : SessionSeen) → 0 < k → 0 < lease → (k ≡ lease → ⊥) → slice_get (session_after_read lease pos one).readers (k - 1) ≡ slice_get one.readers (k - 1)
unfolding session_after_read
readers_after_other lease pos k one some other apart = get_set_other one.readers (lease - 1) (k - 1) _ (λ same. apart (omega arith))

-- One message more in front.

none_read : (one : SessionSeen) (library lease pos : ℕ) (body : List ℕ) (read : List Reading) → IsReadBy one library lease pos body → read ≡ [] → IsReadOn one lease (record { library = library; pos = pos; body = body } ∷ read)
none_read one library lease pos body read by none =
    subst (λ (r : List Reading). IsReadOn one lease (record { library = library; pos = pos; body = body } ∷ r)) (sym none)
    (record {
      some = by.some;
      reader = by.reader;
      at = by.at;
      within = (let below = by.below in let next = by.next in omega arith);
      are = (
          let front : Reading = record { library = library; pos = pos; body = body } in
          let begins : drop by.reader.next one.inbound ≡ body ∷ drop (suc pos) one.inbound = ap (λ (n : ℕ). drop n one.inbound) by.next ∙ drop_here one.inbound pos body by.has in
          let ends : front ∷ [] ≡ read_from by.reader.library by.reader.next (body ∷ []) = λ i. record { library = sym by.whose i; pos = sym by.next i; body = body } ∷ [] in
          ends ∙ ap (λ (rest : List (List ℕ)). read_from by.reader.library by.reader.next (take 1 rest)) (sym begins));
    })

more_read : (one : SessionSeen) (library lease pos : ℕ) (body : List ℕ) (read : List Reading) → IsReadBy one library lease pos body → IsReadOn (session_after_read lease pos one) lease read → IsReadOn one lease (record { library = library; pos = pos; body = body } ∷ read)
more_read one library lease pos body read by behind =
    let reader : behind.reader ≡ moved by.reader pos = same_Some behind.reader (moved by.reader pos) (sym behind.at ∙ reader_after one library lease pos body by) in
    let next : behind.reader.next ≡ pos + 1 = ap (λ (r : Reader). r.next) reader in
    let end : behind.reader.end ≡ by.reader.end = ap (λ (r : Reader). r.end) reader in
    let whose : behind.reader.library ≡ library = ap (λ (r : Reader). r.library) reader ∙ by.whose in
    record {
      some = by.some;
      reader = by.reader;
      at = by.at;
      within = (let within = behind.within in let at = by.next in omega arith);
      are = (
          let front : Reading = record { library = library; pos = pos; body = body } in
          let rest : List (List ℕ) = drop (suc pos) one.inbound in
          let begins : drop by.reader.next one.inbound ≡ body ∷ rest = ap (λ (n : ℕ). drop n one.inbound) by.next ∙ drop_here one.inbound pos body by.has in
          let later : read ≡ read_from library (pos + 1) (take (length read) rest) =
          behind.are
          ∙ ap (λ (xs : List (List ℕ)). read_from behind.reader.library behind.reader.next (take (length read) (drop behind.reader.next xs))) (inbound_after lease pos one)
          ∙ ap (λ (n : ℕ). read_from behind.reader.library n (take (length read) (drop n one.inbound))) next
          ∙ ap (λ (l : ℕ). read_from l (pos + 1) (take (length read) (drop (pos + 1) one.inbound))) whose
          ∙ ap (λ (n : ℕ). read_from library (pos + 1) (take (length read) (drop n one.inbound))) (add-one pos) in
          ap (λ (r : List Reading). front ∷ r) later
          ∙ ap (λ (n : ℕ). read_from library n (take (suc (length read)) (body ∷ rest))) (sym by.next)
          ∙ ap (λ (l : ℕ). read_from l by.reader.next (take (suc (length read)) (body ∷ rest))) (sym by.whose)
          ∙ ap (λ (xs : List (List ℕ)). read_from by.reader.library by.reader.next (take (suc (length read)) xs)) (sym begins));
    }

abbrev one_if : {A : Type 0} → Bool → List A → List A
one_if test xs = if test then xs else []

both : (a b c d : ℕ) → a ≡ b → c ≡ d → ((a == b) && (c == d)) ≡ true
both a b c d e f = rw (eq-eqb a b e, eq-eqb c d f) refl

not_first : (a b : ℕ) (t : Bool) → (a ≡ b → ⊥) → ((a == b) && t) ≡ false
not_first a b t apart = rw (ne_eqb a b apart) refl

and_false : (t : Bool) → (t && false) ≡ false
and_false true = refl
and_false false = refl

not_second : (t : Bool) (a b : ℕ) → (a ≡ b → ⊥) → (t && (a == b)) ≡ false
not_second t a b apart = ap (λ (x : Bool). t && x) (ne_eqb a b apart) ∙ and_false t

-- behind a read of another session or another lease
other_read : (sessions : List SessionSeen) (t k pos s lease : ℕ) (read : List Reading) → t < length sessions → 0 < k → ((s ≡ t → ⊥) ⊎ (lease ≡ k → ⊥)) → IsReadOn (at_session (changed t (session_after_read k pos) sessions) s) lease read → IsReadOn (at_session sessions s) lease read
other_read sessions t k pos s lease read within first apart behind =
    let same : slice_get (at_session (changed t (session_after_read k pos) sessions) s).readers (lease - 1) ≡ slice_get (at_session sessions s).readers (lease - 1) =
    elim apart [
      | inl other ↦ ap (λ (one : SessionSeen). slice_get one.readers (lease - 1)) (changed_other s t (session_after_read k pos) sessions other)
      | inr other ↦ field_kept (λ one. slice_get one.readers (lease - 1)) t (session_after_read k pos) sessions within (λ one. readers_after_other k pos lease one behind.some first other) s
    ] in
    let inbound : (at_session (changed t (session_after_read k pos) sessions) s).inbound ≡ (at_session sessions s).inbound =
    field_kept (λ one. one.inbound) t (session_after_read k pos) sessions within (inbound_after k pos) s in
    record {
      some = behind.some;
      reader = behind.reader;
      at = sym same ∙ behind.at;
      within = behind.within;
      are = behind.are ∙ ap (λ (xs : List (List ℕ)). read_from behind.reader.library behind.reader.next (take (length read) (drop behind.reader.next xs))) inbound;
    }

reads_step : (library : ℕ) (sessions : List SessionSeen) (t k pos : ℕ) (body : List ℕ) (calls : List Called) → t < length sessions → IsReadBy (at_session sessions t) library k pos body
    → ((s lease : ℕ) → (readings s lease calls ≡ []) ⊎ IsReadOn (at_session (changed t (session_after_read k pos) sessions) s) lease (readings s lease calls))
    → (s lease : ℕ) → (one_if ((t == s) && (k == lease)) (record { library = library; pos = pos; body = body } ∷ []) ++ readings s lease calls ≡ [])
    ⊎ IsReadOn (at_session sessions s) lease (one_if ((t == s) && (k == lease)) (record { library = library; pos = pos; body = body } ∷ []) ++ readings s lease calls)
reads_step library sessions t k pos body calls within by behind s lease =
    let front : Reading = record { library = library; pos = pos; body = body } in
    let claim : Bool → Type 0 = λ test. (one_if test (front ∷ []) ++ readings s lease calls ≡ []) ⊎ IsReadOn (at_session sessions s) lease (one_if test (front ∷ []) ++ readings s lease calls) in
    let past : ((s ≡ t → ⊥) ⊎ (lease ≡ k → ⊥)) → claim false = λ apart. elim (behind s lease) [
      | inl none ↦ inl none
      | inr read ↦ inr (other_read sessions t k pos s lease (readings s lease calls) within by.some apart read)
    ] in
    elim (same_or_other s t) [
      | inr apart ↦ subst claim (sym (not_first t s (k == lease) (λ same. apart (sym same)))) (past (inl apart))
      | inl is ↦ elim (same_or_other lease k) [
        | inr apart ↦ subst claim (sym (not_second (t == s) k lease (λ same. apart (sym same)))) (past (inr apart))
        | inl lease_is ↦ subst claim (sym (both t s k lease (sym is) (sym lease_is))) (inr
            (subst (λ (x : ℕ). IsReadOn (at_session sessions x) lease (front ∷ readings x lease calls)) (sym is)
            (subst (λ (l : ℕ). IsReadOn (at_session sessions t) l (front ∷ readings t l calls)) (sym lease_is)
            (elim (behind t k) [
              | inl none ↦ none_read (at_session sessions t) library k pos body (readings t k calls) by none
              | inr read ↦ more_read (at_session sessions t) library k pos body (readings t k calls) by
                  (subst (λ (one : SessionSeen). IsReadOn one k (readings t k calls)) (changed_same t (session_after_read k pos) sessions within) read)
            ]))))
      ]
    ]

-- A send or a release that was told.

first_and_rest : (ds : List Deed) (d : Deed) → slice_get ds 0 ≡ Some d → ds ≡ d ∷ drop 1 ds
first_and_rest [] d h = absurd (cc)
first_and_rest (x ∷ xs) d h = ap (λ y. y ∷ xs) (same_Some x d h)

not_past : (owed : List (List Deed)) (library : ℕ) (d : Deed) → slice_get (owed_by owed library) 0 ≡ Some d → library < length owed
not_past [] library d h = absurd (cc)
not_past (ds ∷ owed) zero d h = omega arith
not_past (ds ∷ owed) (suc library) d h = (let within = not_past owed library d h in omega arith)

owed_here : (library : ℕ) (one : SessionSeen) → library < length one.owed → owed_by (session_after_deed library one).owed library ≡ drop 1 (owed_by one.owed library)
unfolding session_after_deed
owed_here library one within = get_or-set_same one.owed library (drop 1 (owed_by one.owed library)) [] within

owed_other : (library other : ℕ) (one : SessionSeen) → (other ≡ library → ⊥) → owed_by (session_after_deed library one).owed other ≡ owed_by one.owed other
unfolding session_after_deed
owed_other library other one apart = get_or-set_other one.owed library other (drop 1 (owed_by one.owed library)) [] apart

bodies_after_deed : (library : ℕ) (one : SessionSeen) → (session_after_deed library one).bodies ≡ one.bodies
unfolding session_after_deed
bodies_after_deed library one = refl

inbound_after_deed : (library : ℕ) (one : SessionSeen) → (session_after_deed library one).inbound ≡ one.inbound
unfolding session_after_deed
inbound_after_deed library one = refl

readers_after_deed : (library : ℕ) (one : SessionSeen) → (session_after_deed library one).readers ≡ one.readers
unfolding session_after_deed
readers_after_deed library one = refl

-- of another session or another library nothing changes
owed_elsewhere : {A : Type 0} (g : List (List ℕ) → ℕ → Deed → List A) (sessions : List SessionSeen) (t library s other : ℕ) → t < length sessions → ((s ≡ t → ⊥) ⊎ (other ≡ library → ⊥))
    → owed_in g (at_session (changed t (session_after_deed library) sessions) s) other ≡ owed_in g (at_session sessions s) other
owed_elsewhere g sessions t library s other within apart = elim apart [
  | inl far ↦ ap (λ (one : SessionSeen). owed_in g one other) (changed_other s t (session_after_deed library) sessions far)
  | inr far ↦ field_kept (λ one. owed_in g one other) t (session_after_deed library) sessions within (λ one.
      ap (λ (bodies : List (List ℕ)). flat_map (g bodies other) (owed_by (session_after_deed library one).owed other)) (bodies_after_deed library one)
      ∙ ap (λ (ds : List Deed). flat_map (g one.bodies other) ds) (owed_other library other one far)) s
]

-- here one is told
owed_told : {A : Type 0} (g : List (List ℕ) → ℕ → Deed → List A) (one : SessionSeen) (library : ℕ) (d : Deed) → slice_get (owed_by one.owed library) 0 ≡ Some d
    → g one.bodies library d ++ owed_in g (session_after_deed library one) library ≡ owed_in g one library
owed_told g one library d first =
    ap (λ (bodies : List (List ℕ)). g one.bodies library d ++ flat_map (g bodies library) (owed_by (session_after_deed library one).owed library)) (bodies_after_deed library one)
    ∙ ap (λ (ds : List Deed). g one.bodies library d ++ flat_map (g one.bodies library) ds) (owed_here library one (not_past one.owed library d first))
    ∙ ap (λ (ds : List Deed). flat_map (g one.bodies library) ds) (sym (first_and_rest (owed_by one.owed library) d first))

told_step : {A : Type 0} (g : List (List ℕ) → ℕ → Deed → List A) (sessions : List SessionSeen) (t library : ℕ) (d : Deed) (later : ℕ → ℕ → List A) → t < length sessions → slice_get (owed_by (at_session sessions t).owed library) 0 ≡ Some d
    → ((other s : ℕ) → later other s ≡ owed_in g (at_session (changed t (session_after_deed library) sessions) s) other)
    → (other s : ℕ) → one_if ((library == other) && (t == s)) (g (at_session sessions t).bodies library d) ++ later other s ≡ owed_in g (at_session sessions s) other
told_step {A} g sessions t library d later within first behind other s =
    let one = at_session sessions t in
    let claim : Bool → Type 0 = λ test. one_if test (g one.bodies library d) ++ later other s ≡ owed_in g (at_session sessions s) other in
    let past : ((s ≡ t → ⊥) ⊎ (other ≡ library → ⊥)) → claim false = λ apart. behind other s ∙ owed_elsewhere g sessions t library s other within apart in
    elim (same_or_other other library) [
      | inr apart ↦ subst claim (sym (not_first library other (t == s) (λ same. apart (sym same)))) (past (inr apart))
      | inl whose ↦ elim (same_or_other s t) [
        | inr apart ↦ subst claim (sym (not_second (library == other) t s (λ same. apart (sym same)))) (past (inl apart))
        | inl is ↦ subst claim (sym (both library other t s (sym whose) (sym is)))
            (subst (λ (x : ℕ). g one.bodies library d ++ later other x ≡ owed_in g (at_session sessions x) other) (sym is)
            (subst (λ (l : ℕ). g one.bodies library d ++ later l t ≡ owed_in g one l) (sym whose)
            (ap (λ (xs : List A). g one.bodies library d ++ xs) (behind library t ∙ ap (λ (x : SessionSeen). owed_in g x library) (changed_same t (session_after_deed library) sessions within))
            ∙ owed_told g one library d first)))
      ]
    ]

-- reads are as before
reads_past : (sessions : List SessionSeen) (t library : ℕ) (calls : List Called) → t < length sessions
    → ((s lease : ℕ) → (readings s lease calls ≡ []) ⊎ IsReadOn (at_session (changed t (session_after_deed library) sessions) s) lease (readings s lease calls))
    → (s lease : ℕ) → (readings s lease calls ≡ []) ⊎ IsReadOn (at_session sessions s) lease (readings s lease calls)
reads_past sessions t library calls within behind s lease = elim (behind s lease) [
  | inl none ↦ inl none
  | inr read ↦ inr (record {
    some = read.some;
    reader = read.reader;
    at = sym (ap (λ (rs : List Reader). slice_get rs (lease - 1)) (field_kept (λ one. one.readers) t (session_after_deed library) sessions within (readers_after_deed library) s)) ∙ read.at;
    within = read.within;
    are = read.are ∙ ap (λ (xs : List (List ℕ)). read_from read.reader.library read.reader.next (take (length (readings s lease calls)) (drop read.reader.next xs)))
        (field_kept (λ one. one.inbound) t (session_after_deed library) sessions within (inbound_after_deed library) s);
  })
]

record IsSentBy (found : Option Deed) (bodies : List (List ℕ)) (lease ordinal : ℕ) (body : List ℕ) : Type 0 where
  pub place : ℕ
  pub found_is : found ≡ Some (deed.Sent lease ordinal place)
  pub has : slice_get bodies place ≡ Some body

sent_by : (found : Option Deed) (bodies : List (List ℕ)) (lease ordinal : ℕ) (body : List ℕ) → fits_sent bodies found lease ordinal body ≡ true → IsSentBy found bodies lease ordinal body
sent_by None bodies lease ordinal body h = absurd (false≢true h)
sent_by (Some (deed.Sent l o place)) bodies lease ordinal body h =
    let parts = and_parts _ _ h in
    let fronts = and_parts _ _ parts.0 in
    let e : l ≡ lease = eqb-true l lease fronts.0 in
    let f : o ≡ ordinal = eqb-true o ordinal fronts.1 in
    record { place = place; found_is = (λ i. Some (deed.Sent (e i) (f i) place)); has = has_found bodies place body parts.1 }
sent_by (Some (deed.GaveBack l c h)) bodies lease ordinal body e = absurd (false≢true e)

given_back_by : (found : Option Deed) (lease count heir : ℕ) → fits_release found lease count heir ≡ true → found ≡ Some (deed.GaveBack lease count heir)
given_back_by None lease count heir h = absurd (false≢true h)
given_back_by (Some (deed.Sent l o place)) lease count heir h = absurd (false≢true h)
given_back_by (Some (deed.GaveBack l c h)) lease count heir test =
    let parts = and_parts _ _ test in
    let fronts = and_parts _ _ parts.0 in
    let e : l ≡ lease = eqb-true l lease fronts.0 in
    let f : c ≡ count = eqb-true c count fronts.1 in
    let g : h ≡ heir = eqb-true h heir parts.1 in
    λ i. Some (deed.GaveBack (e i) (f i) (g i))

found_sent : (found : Option SessionSeen) (library lease ordinal : ℕ) (body : List ℕ) → is_sent_of found library lease ordinal body ≡ true → Found found (λ one. is_sent one library lease ordinal body)
found_sent None library lease ordinal body h = absurd (false≢true h)
found_sent (Some one) library lease ordinal body h = record { session = one; found_is = refl; passes = h }

sent_facts : (one : SessionSeen) (library lease ordinal : ℕ) (body : List ℕ) → is_sent one library lease ordinal body ≡ true → IsSentBy (slice_get (owed_by one.owed library) 0) one.bodies lease ordinal body
unfolding is_sent
sent_facts one library lease ordinal body h = sent_by (slice_get (owed_by one.owed library) 0) one.bodies lease ordinal body h

found_given_back : (found : Option SessionSeen) (library lease count heir : ℕ) → is_given_back_of found library lease count heir ≡ true → Found found (λ one. is_given_back one library lease count heir)
found_given_back None library lease count heir h = absurd (false≢true h)
found_given_back (Some one) library lease count heir h = record { session = one; found_is = refl; passes = h }

given_back_facts : (one : SessionSeen) (library lease count heir : ℕ) → is_given_back one library lease count heir ≡ true → slice_get (owed_by one.owed library) 0 ≡ Some (deed.GaveBack lease count heir)
unfolding is_given_back
given_back_facts one library lease count heir h = given_back_by (slice_get (owed_by one.owed library) 0) lease count heir h

-- Each kind of call.

read_tells : (library : ℕ) (sessions : List SessionSeen) (t k pos : ℕ) (body : List ℕ) (calls : List Called) → is_read_of (slice_get sessions t) library k pos body ≡ true
    → TellsOn (changed t (session_after_read k pos) sessions) calls → TellsOn sessions (record { library = library; call = call.Read t k pos body } ∷ calls)
read_tells library sessions t k pos body calls right behind =
    let found = found_read (slice_get sessions t) library k pos body right in
    let within = slice_get_within sessions t found.session found.found_is in
    let is = get_or_from_slice_get sessions t found.session no_session found.found_is in
    let by = subst (λ (one : SessionSeen). IsReadBy one library k pos body) (sym is) (read_facts found.session library k pos body found.passes) in
    record {
      reads = reads_step library sessions t k pos body calls within by behind.reads;
      deeds = λ other s. behind.deeds other s ∙ field_kept (λ one. owed_in deed_kept one other) t (session_after_read k pos) sessions within
          (λ one. ap (λ (owed : List (List Deed)). flat_map (deed_kept one.bodies other) (owed_by owed other)) (owed_after_read k pos one)) s;
      bodies = λ other s. behind.bodies other s ∙ field_kept (λ one. owed_in body_kept one other) t (session_after_read k pos) sessions within
          (λ one. ap (λ (owed : List (List Deed)). flat_map (body_kept (session_after_read k pos one).bodies other) (owed_by owed other)) (owed_after_read k pos one)
          ∙ ap (λ (bodies : List (List ℕ)). flat_map (body_kept bodies other) (owed_by one.owed other)) (bodies_after_read k pos one)) s;
    }

sent_tells : (library : ℕ) (sessions : List SessionSeen) (t lease ordinal : ℕ) (body : List ℕ) (calls : List Called) → is_sent_of (slice_get sessions t) library lease ordinal body ≡ true
    → TellsOn (changed t (session_after_deed library) sessions) calls → TellsOn sessions (record { library = library; call = call.Sent t lease ordinal body } ∷ calls)
sent_tells library sessions t lease ordinal body calls right behind =
    let found = found_sent (slice_get sessions t) library lease ordinal body right in
    let within = slice_get_within sessions t found.session found.found_is in
    let is = get_or_from_slice_get sessions t found.session no_session found.found_is in
    let by = subst (λ (one : SessionSeen). IsSentBy (slice_get (owed_by one.owed library) 0) one.bodies lease ordinal body) (sym is) (sent_facts found.session library lease ordinal body found.passes) in
    let sent = told_step body_kept sessions t library (deed.Sent lease ordinal by.place) (λ other s. bodies_called other s calls) within by.found_is behind.bodies in
    record {
      reads = reads_past sessions t library calls within behind.reads;
      deeds = told_step deed_kept sessions t library (deed.Sent lease ordinal by.place) (λ other s. deeds_called other s calls) within by.found_is behind.deeds;
      bodies = λ other s. subst (λ (xs : List (List ℕ)). one_if ((library == other) && (t == s)) xs ++ bodies_called other s calls ≡ owed_in body_kept (at_session sessions s) other)
          (ap (λ (found : Option (List ℕ)). option_to_list found) by.has) (sent other s);
    }

one_if_none : {A : Type 0} (test : Bool) → one_if {A = A} test [] ≡ []
one_if_none true = refl
one_if_none false = refl

given_back_tells : (library : ℕ) (sessions : List SessionSeen) (t lease count heir : ℕ) (calls : List Called) → is_given_back_of (slice_get sessions t) library lease count heir ≡ true
    → TellsOn (changed t (session_after_deed library) sessions) calls → TellsOn sessions (record { library = library; call = call.GaveBack t lease count heir } ∷ calls)
given_back_tells library sessions t lease count heir calls right behind =
    let found = found_given_back (slice_get sessions t) library lease count heir right in
    let within = slice_get_within sessions t found.session found.found_is in
    let is = get_or_from_slice_get sessions t found.session no_session found.found_is in
    let first = subst (λ (one : SessionSeen). slice_get (owed_by one.owed library) 0 ≡ Some (deed.GaveBack lease count heir)) (sym is) (given_back_facts found.session library lease count heir found.passes) in
    record {
      reads = reads_past sessions t library calls within behind.reads;
      deeds = told_step deed_kept sessions t library (deed.GaveBack lease count heir) (λ other s. deeds_called other s calls) within first behind.deeds;
      bodies = λ other s.
          ap (λ (xs : List (List ℕ)). xs ++ bodies_called other s calls) (sym (one_if_none {A = List ℕ} ((library == other) && (t == s))))
          ∙ told_step body_kept sessions t library (deed.GaveBack lease count heir) (λ o r. bodies_called o r calls) within first behind.bodies other s;
    }

-- one call more in front
pub call_tells : (c : Call) (seen : Seen) (calls : List Called) → is_right_call seen c ≡ true → TellsOn (after_call c seen).sessions calls → TellsOn seen.sessions (record { library = seen.library; call = c } ∷ calls)
call_tells (call.Asked nr) seen calls right behind = record { reads = behind.reads; deeds = behind.deeds; bodies = behind.bodies }
call_tells (call.Replied nr reply) seen calls right behind = record { reads = behind.reads; deeds = behind.deeds; bodies = behind.bodies }
call_tells (call.Read t k pos body) seen calls right behind = read_tells seen.library seen.sessions t k pos body calls right behind
call_tells (call.Sent t lease ordinal body) seen calls right behind = sent_tells seen.library seen.sessions t lease ordinal body calls right behind
call_tells (call.GaveBack t lease count heir) seen calls right behind = given_back_tells seen.library seen.sessions t lease count heir calls right behind
call_tells call.Other seen calls right behind = record { reads = behind.reads; deeds = behind.deeds; bodies = behind.bodies }

-- at the end all was told
told_at : (owed : List (List Deed)) (library : ℕ) → list_all is_told owed ≡ true → owed_by owed library ≡ []
told_at [] library h = refl
told_at (ds ∷ owed) zero h = nil_from_length ds (eqb-true (length ds) 0 (and_parts _ _ h).0)
told_at (ds ∷ owed) (suc library) h = told_at owed library (and_parts _ _ h).1

replicate_default : {A : Type 0} (n i : ℕ) (x : A) → slice_index_or (replicate n x) i x ≡ x
replicate_default zero i x = refl
replicate_default (suc n) zero x = refl
replicate_default (suc n) (suc i) x = replicate_default n i x

pub owed_nowhere : (library : ℕ) → owed_by no_session.owed library ≡ []
owed_nowhere library = replicate_default LIBRARY_PLACES library []

none_owed : (sessions : List SessionSeen) (s library : ℕ) → list_all all_told sessions ≡ true → owed_by (at_session sessions s).owed library ≡ []
unfolding all_told
none_owed [] s library h = owed_nowhere library
none_owed (one ∷ sessions) zero library h = told_at one.owed library (and_parts _ _ h).0
none_owed (one ∷ sessions) (suc s) library h = none_owed sessions s library (and_parts _ _ h).1

pub end_tells : (sessions : List SessionSeen) → list_all all_told sessions ≡ true → TellsOn sessions []
end_tells sessions h = record {
  reads = λ s lease. inl refl;
  deeds = λ library s. sym (ap (λ (ds : List Deed). flat_map (deed_kept (at_session sessions s).bodies library) ds) (none_owed sessions s library h));
  bodies = λ library s. sym (ap (λ (ds : List Deed). flat_map (body_kept (at_session sessions s).bodies library) ds) (none_owed sessions s library h));
}
