-- The index of stretches as a log grows.
use Rattle.std.proofs.Common.{◌≡◌, ℕ, ◌+◌, ◌<◌, ◌≤◌, ◌⊎◌, true, false, List, [], ◌∷◌, ◌++◌, length, Option, Some, None, unwrap_or, refl, sym, ap, ◌∙◌, subst, inl, inr, arith}
use Rattle.std.proofs.lemmas.Bool.{cases_lt, cases_eq, false≢true, false_from_ne_true}
use Rattle.std.proofs.lemmas.Bool.Decides.{nat_tests}
use Rattle.std.proofs.lemmas.List.{length_push, get_or_append_left, get_or_push}
use Rattle.std.proofs.lemmas.List.Elements.{All-weaker, All-push, All-get_or}
use Rattle.message_log.specs.declared.entry.OutEntry.{OutEntry}
use Rattle.message_log.specs.declared.stretches.Stretch.{Stretch}
use Rattle.message_log.specs.Series.{series_at, with_entry}
use Rattle.message_log.specs.Stretches.{is_session, stretch_count, is_before, Covers, AnyCovers, AreInOrder, IsClosed, IsGrowing, GrowsOver, growing_count, IsIndex, closed_after, stretch_at, no_stretch}
use Rattle.message_log.proofs.SeriesLists.{length-with_entry, no_series, present_with_entry, other_with_entry, other_turned, present_turned}
use Rattle.message_log.proofs.Sessions.{session-push_old, session-push_new, session-within, stretch_count-with_entry, stretch_count-turned, one_more}

-- the present series
abbrev present : List (List OutEntry) → List OutEntry
present log = series_at log (length log)

-- The later log has the numbers of the earlier one, with the same entries, and its present series has more of them or is another.
record Keeps (log later : List (List OutEntry)) : Type 0 where
  old : (k n : ℕ) → k ≤ length log → (k ≡ length log → n ≤ length (present log)) → is_session (series_at later k) n ≡ is_session (series_at log k) n
  longer : length log ≤ length later
  grown : (k : ℕ) → k ≤ length log → length (series_at log k) ≤ length (series_at later k)
  past : length log ≡ length later → length (present log) < length (series_at later (length log))

module _ (log later : List (List OutEntry)) (keeps : Keeps log later) where
  closed_kept : (s : Stretch) → IsClosed log s → IsClosed later s
  closed_kept s is = record {
    of_log = omega (arith, is.of_log, keeps.longer);
    all_session = λ n from to. keeps.old s.series n is.of_log (λ e. let less = is.past e in let same = ap (λ k. length (series_at log k)) e in omega arith) ∙ is.all_session n from to;
    next_is_none = keeps.old s.series (s.last + 1) is.of_log (λ e. let less = is.past e in let same = ap (λ k. length (series_at log k)) e in omega arith) ∙ is.next_is_none;
    past = λ e. let same : s.series ≡ length log = omega (arith, is.of_log, keeps.longer) in let less = is.past same in let more = keeps.grown s.series is.of_log in omega arith;
  }

-- a stretch behind others
in_order-push : (closed : List Stretch) (s : Stretch) → AreInOrder closed → s.first ≤ s.last → ((i : ℕ) → i < length closed → is_before (stretch_at closed i) s.series s.first ≡ true) → AreInOrder (closed ++ s ∷ [])
in_order-push closed s ordered filled before = record {
  filled = λ i h. elim (cases_lt i (length closed)) [
    | inl inside ↦ rw (at_old i inside) (ordered.filled i inside)
    | inr more ↦ rw (at_new i (omega (arith, length_push closed s))) filled
  ];
  rising = λ i j less h. elim (cases_lt j (length closed)) [
    | inl inside ↦ rw (at_old i (omega arith), at_old j inside) (ordered.rising i j less inside)
    | inr more ↦ rw (at_old i (omega (arith, length_push closed s)), at_new j (omega (arith, length_push closed s))) (before i (omega (arith, length_push closed s)))
  ];
}
  where
    at_old : (i : ℕ) → i < length closed → stretch_at (closed ++ s ∷ []) i ≡ stretch_at closed i
    at_old i h = get_or_append_left closed (s ∷ []) no_stretch i h

    at_new : (i : ℕ) → i ≡ length closed → stretch_at (closed ++ s ∷ []) i ≡ s
    at_new i e = get_or_push closed s no_stretch i (sym e)

covers-push : (closed : List Stretch) (s : Stretch) (k n : ℕ) → AnyCovers closed k n → AnyCovers (closed ++ s ∷ []) k n
covers-push closed s k n found = (
  found.0,
  omega (arith, found.1, length_push closed s),
  subst (λ (t : Stretch). Covers t k n) (sym (get_or_append_left closed (s ∷ []) no_stretch found.0 found.1)) found.2,
)

covers-new : (closed : List Stretch) (s : Stretch) (k n : ℕ) → Covers s k n → AnyCovers (closed ++ s ∷ []) k n
covers-new closed s k n found = (
  length closed,
  omega (arith, length_push closed s),
  subst (λ (t : Stretch). Covers t k n) (sym (get_or_push closed s no_stretch (length closed) refl)) found,
)

-- the closed stretches lie before the one at the end
ends_before : (log : List (List OutEntry)) (closed : List Stretch) (first : ℕ) → IsIndex log closed (Some first) → (i : ℕ) → i < length closed → is_before (stretch_at closed i) (length log) first ≡ true
ends_before log closed first index i h =
    let s = stretch_at closed i in
    let is = All-get_or (IsClosed log) closed i no_stretch h index.closed_ones in
    elim (cases_eq s.series (length log)) [
      | inl same ↦ elim (cases_lt s.last first) [
        | inl less ↦ grind (arith, nat_tests)
        | inr more ↦
            let inside = is.past same in
            let size = ap (λ k. length (series_at log k)) same in
            let after = index.at_end.2 (s.last + 1) (omega arith) (omega arith) in
            let none = ap (λ k. is_session (series_at log k) (s.last + 1)) (sym same) ∙ is.next_is_none in
            absurd (false≢true (sym none ∙ after))
      ]
      | inr other ↦ let below : s.series < length log = omega (arith, is.of_log, other) in grind (arith, nat_tests)
    ]

module _ (log later : List (List OutEntry)) (keeps : Keeps log later) (no_more : (k n : ℕ) → is_session (series_at later k) n ≡ true → (k ≤ length log) × (k ≡ length log → n ≤ length (present log))) (count : stretch_count later ≡ stretch_count log) where
  not_next : is_session (series_at later (length log)) (length (present log) + 1) ≡ false
  not_next = false_from_ne_true _ (λ h. let within = (no_more (length log) (length (present log) + 1) h).1 refl in omega arith)

  -- the stretch at the end can't grow any more
  end_closed : (first : ℕ) → IsGrowing (present log) (Some first) → IsClosed later (record { series = length log; first = first; last = length (present log) })
  end_closed first is = record {
    of_log = keeps.longer;
    all_session = λ n from to. keeps.old (length log) n (omega arith) (λ _. to) ∙ is.2 n from to;
    next_is_none = not_next;
    past = λ e. keeps.past e;
  }

  closing : (closed : List Stretch) (growing : Option ℕ) → IsIndex log closed growing → IsIndex later (closed_after closed growing (length log) (length (present log))) None
  closing closed None index = record {
    closed_ones = All-weaker (IsClosed log) (IsClosed later) (closed_kept log later keeps) closed index.closed_ones;
    in_order = index.in_order;
    at_end = tt;
    complete = λ k n h. let inside = no_more k n h in elim (index.complete k n (sym (keeps.old k n inside.0 inside.1) ∙ h)) [
      | inl found ↦ inl found
      | inr growing ↦ absurd growing.1
    ];
    count = omega (arith, index.count, count);
  }
  closing closed (Some first) index =
      let s : Stretch = record { series = length log; first = first; last = length (present log) } in
      record {
        closed_ones = All-push (IsClosed later) closed s (All-weaker (IsClosed log) (IsClosed later) (closed_kept log later keeps) closed index.closed_ones) (end_closed first index.at_end);
        in_order = in_order-push closed s index.in_order index.at_end.1 (ends_before log closed first index);
        at_end = tt;
        complete = λ k n h. let inside = no_more k n h in elim (index.complete k n (sym (keeps.old k n inside.0 inside.1) ∙ h)) [
          | inl found ↦ inl (covers-push closed s k n found)
          | inr growing ↦ inl (covers-new closed s k n (record { series = sym growing.0; from = growing.1; to = inside.1 growing.0 }))
        ];
        count = omega (arith, index.count, count, length_push closed s);
      }

-- a series without an entry follows
pub index_turned : (log : List (List OutEntry)) (closed : List Stretch) (growing : Option ℕ) → IsIndex log closed growing → IsIndex (log ++ [] ∷ []) (closed_after closed growing (length log) (length (series_at log (length log)))) None
index_turned log closed growing index =
    closing log (log ++ [] ∷ []) keeps no_more (stretch_count-turned log) closed growing index
  where
    size : length (log ++ [] ∷ []) ≡ length log + 1
    size = length_push log []

    keeps : Keeps log (log ++ [] ∷ [])
    keeps = record {
      old = λ k n h _. ap (λ ts. is_session ts n) (other_turned log k h);
      longer = omega (arith, size);
      grown = λ k h. let same = ap (λ (ts : List OutEntry). length ts) (other_turned log k h) in omega arith;
      past = λ e. absurd (omega (arith, size));
    }

    no_more : (k n : ℕ) → is_session (series_at (log ++ [] ∷ []) k) n ≡ true → (k ≤ length log) × (k ≡ length log → n ≤ length (present log))
    no_more k n h = elim (cases_lt (length log) k) [
      | inl past ↦
          let within = session-within (series_at (log ++ [] ∷ []) k) n h in
          let none = ap (λ (ts : List OutEntry). length ts) (present_turned log k past) in
          absurd (omega arith)
      | inr inside ↦ (inside, λ e. let within = session-within (series_at log k) n (sym (ap (λ ts. is_session ts n) (other_turned log k inside)) ∙ h) in let same = ap (λ j. length (series_at log j)) e in omega arith)
    ]

-- one more entry of the present series
module _ (log : List (List OutEntry)) (entry : OutEntry) (some : 0 < length log) where
  size : length (with_entry log entry) ≡ length log
  size = length-with_entry log entry some

  present_is : series_at (with_entry log entry) (length log) ≡ present log ++ entry ∷ []
  present_is = present_with_entry log entry some

  same_old : (k n : ℕ) → (k ≡ length log → n ≤ length (present log)) → is_session (series_at (with_entry log entry) k) n ≡ is_session (series_at log k) n
  same_old k n l =
      elim (cases_eq k (length log)) [
        | inl same ↦
            ap (λ j. is_session (series_at (with_entry log entry) j) n) same
            ∙ ap (λ ts. is_session ts n) present_is
            ∙ session-push_old (present log) entry n (l same)
            ∙ sym (ap (λ j. is_session (series_at log j) n) same)
        | inr other ↦ ap (λ ts. is_session ts n) (other_with_entry log entry k some other)
      ]

  new_is : is_session (series_at (with_entry log entry) (length log)) (length (present log) + 1) ≡ entry.admin
  new_is = ap (λ ts. is_session ts (length (present log) + 1)) present_is ∙ session-push_new (present log) entry

  new_size : length (series_at (with_entry log entry) (length log)) ≡ length (present log) + 1
  new_size = ap (λ (ts : List OutEntry). length ts) present_is ∙ length_push (present log) entry

  grown : (k : ℕ) → length (series_at log k) ≤ length (series_at (with_entry log entry) k)
  grown k =
      elim (cases_eq k (length log)) [
        | inl same ↦
            let old = ap (λ j. length (series_at log j)) same in
            let new = ap (λ j. length (series_at (with_entry log entry) j)) same in
            omega (arith, new_size)
        | inr other ↦ let new = ap (λ (ts : List OutEntry). length ts) (other_with_entry log entry k some other) in omega arith
      ]

  keeps_entry : Keeps log (with_entry log entry)
  keeps_entry = record {
    old = λ k n h l. same_old k n l;
    longer = omega (arith, size);
    grown = λ k h. grown k;
    past = λ e. omega (arith, new_size);
  }

  -- a session entry is an old one, or the new one
  old_or_new : (k n : ℕ) → is_session (series_at (with_entry log entry) k) n ≡ true → ((k ≤ length log) × (k ≡ length log → n ≤ length (present log))) ⊎ ((k ≡ length log) × (n ≡ length (present log) + 1))
  old_or_new k n h =
      let within = session-within (series_at (with_entry log entry) k) n h in
      elim (cases_eq k (length log)) [
        | inl same ↦
            let new = ap (λ j. length (series_at (with_entry log entry) j)) same in
            elim (cases_lt (length (present log)) n) [
              | inl more ↦ inr (same, omega (arith, new_size))
              | inr less ↦ inl (omega arith, λ _. less)
            ]
        | inr other ↦
            let old = ap (λ (ts : List OutEntry). length ts) (other_with_entry log entry k some other) in
            elim (cases_lt (length log) k) [
              | inl past ↦ let none = ap (λ (ts : List OutEntry). length ts) (no_series log k past) in absurd (omega arith)
              | inr inside ↦ inl (inside, λ e. absurd (other e))
            ]
      ]

  -- no session entry: the stretch at the end is closed
  pub index_app : (closed : List Stretch) (growing : Option ℕ) → entry.admin ≡ false → IsIndex log closed growing → IsIndex (with_entry log entry) (closed_after closed growing (length log) (length (series_at log (length log)))) None
  index_app closed growing app index =
      closing log (with_entry log entry) keeps_entry no_more same_count closed growing index
    where
      no_more : (k n : ℕ) → is_session (series_at (with_entry log entry) k) n ≡ true → (k ≤ length log) × (k ≡ length log → n ≤ length (present log))
      no_more k n h = elim (old_or_new k n h) [
        | inl old ↦ old
        | inr new ↦ absurd (false≢true (sym app ∙ sym new_is ∙ ap (λ m. is_session (series_at (with_entry log entry) (length log)) m) (sym new.1) ∙ ap (λ j. is_session (series_at (with_entry log entry) j) n) (sym new.0) ∙ h))
      ]

      same_count : stretch_count (with_entry log entry) ≡ stretch_count log
      same_count = let more = stretch_count-with_entry log entry some in let none = ap (λ b. one_more b (is_session (present log) (length (present log)))) app in omega arith

  -- a session entry: the stretch at the end grows, or begins
  last_one : (n : ℕ) → entry.admin ≡ true → length (present log) < n → n ≤ length (series_at (with_entry log entry) (length log)) → is_session (series_at (with_entry log entry) (length log)) n ≡ true
  last_one n is from to =
      let same : n ≡ length (present log) + 1 = omega (arith, new_size) in
      ap (λ m. is_session (series_at (with_entry log entry) (length log)) m) same ∙ new_is ∙ is

  grows_on : (growing : Option ℕ) → entry.admin ≡ true → IsGrowing (present log) growing → IsGrowing (series_at (with_entry log entry) (length log)) (Some (unwrap_or growing (length (present log) + 1)))
  grows_on None is none = (omega arith, omega (arith, new_size), λ n from to. last_one n is (omega arith) to)
  grows_on (Some first) is was = (
    was.0,
    omega (arith, new_size, was.1),
    λ n from to. elim (cases_lt (length (present log)) n) [
      | inl more ↦ last_one n is more to
      | inr less ↦ same_old (length log) n (λ _. less) ∙ was.2 n from less
    ],
  )

  over_old : (growing : Option ℕ) (n : ℕ) → GrowsOver growing n → GrowsOver (Some (unwrap_or growing (length (present log) + 1))) n
  over_old None n h = absurd h
  over_old (Some first) n h = h

  over_new : (growing : Option ℕ) (n : ℕ) → IsGrowing (present log) growing → n ≡ length (present log) + 1 → GrowsOver (Some (unwrap_or growing (length (present log) + 1))) n
  over_new None n was e = omega arith
  over_new (Some first) n was e = omega (arith, was.1)

  ends_with : (closed : List Stretch) (growing : Option ℕ) → IsIndex log closed growing → one_more true (is_session (present log) (length (present log))) + growing_count growing ≡ 1
  ends_with closed None index =
      let none : is_session (present log) (length (present log)) ≡ false = false_from_ne_true _ (λ h. elim (index.complete (length log) (length (present log)) h) [
        | inl found ↦
            let is = All-get_or (IsClosed log) closed found.0 no_stretch found.1 index.closed_ones in
            let inside = is.past found.2.series in
            let same = ap (λ j. length (series_at log j)) found.2.series in
            let to = found.2.to in
            absurd (omega arith)
        | inr growing ↦ absurd growing.1
      ]) in
      ap (λ b. one_more true b + 0) none
  ends_with closed (Some first) index =
      let last = index.at_end.2 (length (present log)) index.at_end.1 (omega arith) in
      ap (λ b. one_more true b + 1) last

  pub index_session : (closed : List Stretch) (growing : Option ℕ) → entry.admin ≡ true → IsIndex log closed growing → IsIndex (with_entry log entry) closed (Some (unwrap_or growing (length (series_at log (length log)) + 1)))
  index_session closed growing is index = record {
    closed_ones = All-weaker (IsClosed log) (IsClosed (with_entry log entry)) (closed_kept log (with_entry log entry) keeps_entry) closed index.closed_ones;
    in_order = index.in_order;
    at_end = subst (λ k. IsGrowing (series_at (with_entry log entry) k) (Some (unwrap_or growing (length (present log) + 1)))) (sym size) (grows_on growing is index.at_end);
    complete = λ k n h. elim (old_or_new k n h) [
      | inl old ↦ elim (index.complete k n (sym (same_old k n old.1) ∙ h)) [
        | inl found ↦ inl found
        | inr over ↦ inr (over.0 ∙ sym size, over_old growing n over.1)
      ]
      | inr new ↦ inr (new.0 ∙ sym size, over_new growing n index.at_end new.1)
    ];
    count =
        let more = stretch_count-with_entry log entry some in
        let one = ap (λ b. one_more b (is_session (present log) (length (present log)))) is in
        let before = ends_with closed growing index in
        omega (arith, index.count);
  }
