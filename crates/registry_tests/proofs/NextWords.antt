-- A word that passes the test may be shown.
use Rattle.std.proofs.Common.{◌≡◌, ℕ, ◌≤◌, ◌⊎◌, inl, inr, Bool, true, false, not, List, refl, sym, ap, ◌∙◌, subst}
use Rattle.std.proofs.lemmas.Bool.{eqb-true, and_parts, leb-true, or_cases, false≢true}
use Rattle.lease_core.specs.declared.lease.Ending.{Ending}
use Rattle.lease_core.specs.declared.lease.Ending.TheVariants.{Running, GivenBack, TakenBack}
use Rattle.lease_core.specs.declared.lease.Line.{Line}
use Rattle.lease_core.specs.declared.word.Standing.{Standing}
use Rattle.lease_core.specs.declared.word.Standing.TheVariants.{Active, Released, Revoked}
use Rattle.lease_core.specs.declared.word.Word.{Word}
use Rattle.lease_core.specs.Steps.{IsLibrary}
use Rattle.lease_core.specs.Lines.{last_line, standing_of, shown_owner, word_of, is_released}
use Rattle.lease_core.specs.Showable.{NamesOwner, IsShowable}
use Rattle.registry_tests.specs.NextWord.{names_heir, names_library, is_next_word}

names_any : (standing : Standing) (owner library : ℕ) → is_released standing ≡ true → IsLibrary owner → NamesOwner standing owner library
names_any Released owner library h is = inr is
names_any Active owner library h is = absurd (false≢true h)
names_any Revoked owner library h is = absurd (false≢true h)

names_same : (standing : Standing) (owner library : ℕ) → owner ≡ library → NamesOwner standing owner library
names_same Active owner library is = is
names_same Released owner library is = inl is
names_same Revoked owner library is = is

-- a line that wasn't given back stands for a word of its library
own_library : (ending : Ending) (library : ℕ) → not (is_released (standing_of ending)) ≡ true → shown_owner ending library ≡ library
own_library Running library h = refl
own_library TakenBack library h = refl
own_library (GivenBack heir) library h = absurd (false≢true h)

pub next_word_shows : (lines : List Line) (last w : Word) → last ≡ word_of lines → is_next_word last w ≡ true → IsShowable lines w
next_word_shows lines last w is h =
    let l = last_line lines in
    let there : is_next_word (word_of lines) w ≡ true = subst (λ v. is_next_word v w ≡ true) is h in
    let parts = and_parts _ _ there in
    let both = and_parts _ _ parts.0 in record {
      lease = eqb-true w.lease _ both.0;
      owner = elim (or_cases _ _ parts.1) [
        | inl heir ↦
            let named = and_parts _ _ heir in
            let few = and_parts _ _ named.0 in
            names_any w.standing w.owner l.library few.0 (record { from_one = leb-true 1 w.owner few.1; to_last = leb-true w.owner _ named.1 })
        | inr own ↦
            let same = and_parts _ _ own in
            names_same w.standing w.owner l.library (eqb-true w.owner _ same.1 ∙ own_library l.ending l.library same.0)
      ];
      count = leb-true l.sends w.count both.1;
    }
