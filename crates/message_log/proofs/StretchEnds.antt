-- What the index tells of the stretch that a number is in.
use Rattle.std.proofs.Common.{◌≡◌, ℕ, ◌+◌, ◌<◌, ◌≤◌, true, false, List, length, Option, Some, None, IfSome, IsNone, refl, sym, ◌∙◌, subst, inl, inr, arith}
use Rattle.std.proofs.lemmas.Bool.{false_from_ne_true, false≢true}
use Rattle.std.proofs.lemmas.List.Elements.{All-get_or}
use Rattle.message_log.specs.declared.entry.OutEntry.{OutEntry}
use Rattle.message_log.specs.declared.stretches.Stretch.{Stretch}
use Rattle.message_log.specs.Series.{series_at}
use Rattle.message_log.specs.Stretches.{is_session, IsStretchEnd, IsIndex, IsClosed, GrowsOver, AnyCovers, Covers, stretch_at, no_stretch}
use Rattle.message_log.proofs.Sessions.{session-past}

module _ (log : List (List OutEntry)) (closed : List Stretch) where
  -- the stretch at the log's end
  pub end_at_last : (growing : Option ℕ) (n : ℕ) → IsIndex log closed growing → GrowsOver growing n → n ≤ length (series_at log (length log)) → IsStretchEnd (series_at log (length log)) n (length (series_at log (length log)))
  end_at_last None n index over inside = absurd over
  end_at_last (Some first) n index over inside = record {
    forward = inside;
    all_session = λ k from to. index.at_end.2 k (omega (arith, over)) to;
    next_is_none = session-past (series_at log (length log)) (length (series_at log (length log)) + 1) (omega arith);
  }

  module _ (growing : Option ℕ) (index : IsIndex log closed growing) (k n : ℕ) where
    -- a stretch that can't grow
    pub end_of_closed : (i : ℕ) → i < length closed → Covers (stretch_at closed i) k n → IsStretchEnd (series_at log k) n (stretch_at closed i).last
    end_of_closed i h covers =
        let is = All-get_or (IsClosed log) closed i no_stretch h index.closed_ones in
        subst (λ j. IsStretchEnd (series_at log j) n (stretch_at closed i).last) covers.series (record {
          forward = covers.to;
          all_session = λ m from to. is.all_session m (omega (arith, covers.from)) to;
          next_is_none = is.next_is_none;
        })

    pub in_no_stretch : (AnyCovers closed k n → ⊥) → ((k ≡ length log) × GrowsOver growing n → ⊥) → is_session (series_at log k) n ≡ false
    in_no_stretch none not_end = false_from_ne_true _ (λ h. elim (index.complete k n h) [
      | inl found ↦ none found
      | inr over ↦ not_end over
    ])

-- the first of a stretch is a session entry
pub session_at : (entries : List OutEntry) (n z : ℕ) → IsStretchEnd entries n z → is_session entries n ≡ true
session_at entries n z is = is.all_session n (omega arith) is.forward

-- a stretch's end tells whether there is one
pub none_exactly : (entries : List OutEntry) (n : ℕ) (result : Option ℕ) → IfSome result (IsStretchEnd entries n) → (IsNone result → is_session entries n ≡ false) → (IsNone result → is_session entries n ≡ false) × (is_session entries n ≡ false → IsNone result)
none_exactly entries n None some none = (none, λ _. refl)
none_exactly entries n (Some z) some none = (none, λ no. absurd (false≢true (sym no ∙ session_at entries n z some)))
