-- A send by another lease, a giving back by itself, and a word that nothing shows are refuted.
use Rattle.std.proofs.Common.{◌≡◌, inl, inr, ℕ, List, [], ◌∷◌, Some, ap, subst, arith}
use Rattle.std.specs.List.{All}
use Rattle.std.specs.Prelude.{slice_get}
use Rattle.headline.specs.Deeds.{Deed, deeds_called, deeds_told, gave_back, sent}
use Rattle.headline.specs.Wrong.{GivesBackByItself, IsRefuted, LosesByNoWord, SendsByAnotherLease, no_message, one_message, session_with}
use Rattle.lease_core.specs.Lines.{IsShown, lines_of, opening_word}
use Rattle.lease_core.specs.State.{state_of}
use Rattle.lease_core.specs.declared.entry.Entry.TheVariants.{Granted, Release, Send, Timeout}
use Rattle.lease_core.specs.declared.lease.Line.{Line}
use Rattle.lease_core.specs.declared.word.Standing.TheVariants.{Active}
use Rattle.lease_core.specs.declared.word.Word.{Word}
use Rattle.headline.specs.runs.Deeds.{words_kept}

-- the lease of the first deed
abbrev lease_of : Deed → ℕ
lease_of (sent lease ordinal body) = lease
lease_of (gave_back lease count heir) = lease

abbrev first_lease : List Deed → ℕ
first_lease [] = 0
first_lease (deed ∷ deeds) = lease_of deed

pub other_lease : IsRefuted SendsByAnotherLease
unfolding state_of
other_lease config links left wrong h =
    let one = h.every_send 0 wrong.reports.report wrong.reports.at in
    let number : wrong.reports.report.number ≡ 1 = one.0 in
    let journal = session_with (Granted 1 1 1 0 0 ∷ Timeout 1 1 0 ∷ Granted 1 2 2 0 0 ∷ Send 2 1 1 1 ∷ []) [] one_message in
    let deeds = one.1.deeds 0 _ wrong.session in
    let told = subst (λ kept. deeds_told 1 journal ≡ deeds_called 0 kept) wrong.reports.called_is (subst (λ n. deeds_told n journal ≡ deeds_called 0 wrong.reports.report.calls) number deeds) in
    let leases : ◌≡◌ {A = ℕ} 2 1 = ap first_lease told in
    omega (arith, leases)

none_one : {A : Type 0} (x : A) (xs : List A) → x ∷ xs ≡ [] → ⊥
none_one x xs same = (cc)

pub by_itself : IsRefuted GivesBackByItself
unfolding state_of
by_itself config links left wrong h =
    let one = h.every_send 0 wrong.reports.report wrong.reports.at in
    let number : wrong.reports.report.number ≡ 1 = one.0 in
    let journal = session_with (Granted 1 1 1 0 0 ∷ Release 1 1 0 0 ∷ []) [] no_message in
    let deeds = one.1.deeds 0 _ wrong.session in
    let told : (gave_back 1 0 0 ∷ []) ≡ [] =
    subst (λ kept. deeds_told 1 journal ≡ deeds_called 0 kept) wrong.reports.called_is (subst (λ n. deeds_told n journal ≡ deeds_called 0 wrong.reports.report.calls) number deeds) in
    none_one _ _ told

abbrev lost_word : Word
lost_word = record { lease = 2; owner = 2; standing = Active; count = 0 }

no_line : (l : Line) → slice_get (lines_of (Granted 1 1 1 0 0 ∷ [])) 1 ≡ Some l → ⊥
unfolding state_of
no_line l at = absurd (cc)

pub not_shown : IsRefuted LosesByNoWord
unfolding state_of
not_shown config links left wrong h =
    let one = h.every_send 0 wrong.reports.report wrong.reports.at in
    let lines = lines_of (Granted 1 1 1 0 0 ∷ []) in
    let shown = subst (λ kept. All (IsShown lines) (words_kept 0 kept)) wrong.reports.called_is (one.1.lost 0 _ wrong.session) in
    let word : IsShown lines lost_word = shown 0 opening_word (omega arith) in
    elim word [
      | inl opening ↦ (let lease : ◌≡◌ {A = ℕ} 2 0 = ap (λ (w : Word). w.lease) opening in omega (arith, lease))
      | inr by ↦ no_line by.0 by.1.line
    ]
