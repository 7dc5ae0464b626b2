-- Each session of a report with the verdict Yes is a lawful journal.
use Rattle.std.proofs.Common.{◌≡◌, ℕ, ◌+◌, ◌⊎◌, inl, inr, Bool, true, false, List, [], ◌∷◌, Option, Some, None, refl, sym, subst}
use Rattle.lease_core.specs.Laws.{EntriesDecide, HoldingsAdjoin}
use Rattle.journal_audit.specs.Cut.{cut_of}
use Rattle.journal_audit.specs.Journals.{Journal, no_journal, journal_in, journals_in, journal_with, headed, JournalsAreLawful}
use Rattle.journal_audit.specs.Lines.{line_of}
use Rattle.journal_audit.specs.Rules.{limit_in}
use Rattle.journal_audit.specs.Seen.{Seen, nothing_seen}
use Rattle.journal_audit.specs.Verdicts.{Gets, IsRight, IsRightRead, after, after_read, at_end, is_done, is_last}
use Rattle.journal_audit.specs.declared.auditing.Verdict.{Verdict}
use Rattle.journal_audit.specs.declared.auditing.Verdict.TheVariants.{Yes, No}
use Rattle.journal_audit.specs.declared.line.Line.{Line}
use Rattle.journal_audit.specs.declared.line.Line.TheVariants as line
use Rattle.journal_audit.proofs.Standing.{IsFresh, done_now}
use Rattle.journal_audit.proofs.LawfulSteps.{IsSound, head_step, session_step, entry_step, holding_step, in_step, out_step, series_step, stray_step, connection_step, wrote_step, library_step, call_step, end_step}
use Rattle.journal_audit.proofs.Standing.{next_is}

step : HoldingsAdjoin → EntriesDecide → (read : Option Line) (limit : ℕ) (last : Bool) (seen : Seen) (j : Journal) (js : List Journal) → IsFresh seen.place.part seen → IsRightRead seen last read → (IsFresh (after_read limit read seen).place.part (after_read limit read seen) → IsSound (after_read limit read seen) j js) → IsSound seen (journal_with read j) (headed read j js)
step adjoin decide None limit last seen j js fresh right behind = absurd right
step adjoin decide (Some line.Head) limit last seen j js fresh right behind = head_step seen j js fresh right behind
step adjoin decide (Some (line.Session s header)) limit last seen j js fresh right behind = session_step adjoin s header limit seen j js fresh right behind
step adjoin decide (Some (line.Entry e)) limit last seen j js fresh right behind = entry_step decide e seen j js fresh (next_is seen.place.part seen.place.limit seen.place.entries e right) behind
step adjoin decide (Some (line.Holding h)) limit last seen j js fresh right behind = holding_step h seen j js fresh right behind
step adjoin decide (Some (line.In pos body)) limit last seen j js fresh right behind = in_step pos body seen j js right behind
step adjoin decide (Some (line.Out number body)) limit last seen j js fresh right behind = out_step number body seen j js right behind
step adjoin decide (Some (line.Series series)) limit last seen j js fresh right behind = series_step series seen j js right behind
step adjoin decide (Some (line.Stray library nr s)) limit last seen j js fresh right behind = stray_step library nr s seen j js right (behind tt)
step adjoin decide (Some (line.Connection c s written)) limit last seen j js fresh right behind = connection_step c s written seen j js right (behind tt)
step adjoin decide (Some (line.Wrote bytes)) limit last seen j js fresh right behind = wrote_step bytes seen j js right behind
step adjoin decide (Some (line.Library library reads)) limit last seen j js fresh right behind = library_step library reads seen j js right (behind tt)
step adjoin decide (Some (line.Call c)) limit last seen j js fresh right behind = call_step c seen j js right behind
step adjoin decide (Some line.End) limit last seen j js fresh right behind = end_step last seen j js right (behind tt)

pub journal-nil : journal_in [] ≡ no_journal
unfolding journal_in
journal-nil = refl

pub journals-nil : journals_in [] ≡ []
unfolding journals_in
journals-nil = refl

pub journal-cons : (l : List ℕ) (lines : List (List ℕ)) → journal_in (l ∷ lines) ≡ journal_with (line_of l) (journal_in lines)
unfolding journal_in
journal-cons l lines = refl

pub journals-cons : (l : List ℕ) (lines : List (List ℕ)) → journals_in (l ∷ lines) ≡ headed (line_of l) (journal_in lines) (journals_in lines)
unfolding journals_in
journals-cons l lines = refl

pub gets-nil : (seen : Seen) (n : ℕ) (rest : List ℕ) (v : Verdict) → Gets seen n [] rest v → v ≡ at_end (is_done seen.place.part) n
unfolding Gets
gets-nil seen n rest v h = h

pub gets-cons : (seen : Seen) (n : ℕ) (l : List ℕ) (lines : List (List ℕ)) (rest : List ℕ) (v : Verdict) → Gets seen n (l ∷ lines) rest v → (IsRight seen l lines rest × Gets (after l lines seen) (n + 1) lines rest v) ⊎ ((IsRight seen l lines rest → ⊥) × (v ≡ No n))
unfolding Gets
gets-cons seen n l lines rest v h = h

pub yes_done : (done : Bool) (n : ℕ) → Yes ≡ at_end done n → done ≡ true
yes_done true n e = refl
yes_done false n e = cc

pub yes_no : (n : ℕ) → Yes ≡ No n → ⊥
yes_no n e = cc

sound : HoldingsAdjoin → EntriesDecide → (lines : List (List ℕ)) (seen : Seen) (n : ℕ) (rest : List ℕ) → IsFresh seen.place.part seen → Gets seen n lines rest Yes → IsSound seen (journal_in lines) (journals_in lines)
sound adjoin decide [] seen n rest fresh gets =
    let done = yes_done (is_done seen.place.part) n (gets-nil seen n rest Yes gets) in
    subst (λ (j : Journal). IsSound seen j (journals_in [])) (sym journal-nil)
    (subst (λ (js : List Journal). IsSound seen no_journal js) (sym journals-nil)
    (record { now = done_now seen.place.part seen done; later = tt }))
sound adjoin decide (l ∷ lines) seen n rest fresh gets =
    elim (gets-cons seen n l lines rest Yes gets) [
      | inl right ↦
          let one = step adjoin decide (line_of l) (limit_in lines) (is_last lines rest) seen (journal_in lines) (journals_in lines) fresh right.0
          (λ next. sound adjoin decide lines (after l lines seen) (n + 1) rest next right.1) in
          subst (λ (j : Journal). IsSound seen j (journals_in (l ∷ lines))) (sym (journal-cons l lines))
          (subst (λ (js : List Journal). IsSound seen (journal_with (line_of l) (journal_in lines)) js) (sym (journals-cons l lines)) one)
      | inr wrong ↦ absurd (yes_no n wrong.1)
    ]

pub lawful_reports : HoldingsAdjoin → EntriesDecide → JournalsAreLawful
lawful_reports adjoin decide text verdict = (sound adjoin decide (cut_of text).lines nothing_seen 1 (cut_of text).rest (refl, refl) verdict).later
