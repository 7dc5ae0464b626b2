-- the library has the session still, so the engine takes it back
use Rattle.std.proofs.Common.{◌≡◌, true, false, Bool, ◌&&◌, List, not, sym, ap, ◌∙◌, subst, refl}
use Rattle.std.proofs.lemmas.Bool.{false≢true}
use Rattle.lease_core.specs.declared.entry.Entry.{Entry}
use Rattle.lease_core.specs.declared.word.Standing.{Standing}
use Rattle.lease_core.specs.declared.word.Standing.TheVariants.{Active, Released, Revoked}
use Rattle.lease_core.specs.declared.word.Word.{Word}
use Rattle.lease_core.specs.State.{state_of, SentMore}
use Rattle.lease_core.specs.Lines.{lines_of, raises, raised, taken_back, is_released}
use Rattle.lease_core.proofs.GivenBack.{raises_owned}
use Rattle.lease_core.proofs.LinesAfter.{current_of, active_of}
use Rattle.lease_core.proofs.SentMore.{more_timed_out}
use Rattle.lease_core.proofs.WordsShown.{lines-timed_out}
use Rattle.lease_core.specs.Steps.{IsActive}
use Rattle.lease_core.specs.Kept.{Kept, IsCurrent}
use Rattle.lease_core.proofs.registry.Registry.timeout.Goals as goal

is_not : (b : Bool) → not b ≡ true → b ≡ false
is_not true h = sym h
is_not false h = refl

pub time_out-requires-clause-active : goal.time_out-requires-clause-active
time_out-requires-clause-active c = subst (λ (k : Kept). IsActive (state_of k.entries)) (sym c.self.view_is) (c.show-shown.ensures.active (active_of c.args.self.now.entries c.requires.can_time_out.owned) (is_not c.show-shown.result.ended c.if-not-shown.true))

-- neither given back nor taken back yet
active_standing : (standing : Standing) → is_released standing ≡ false → (standing ≡ Revoked → ⊥) → standing ≡ Active
active_standing Active kept not_revoked = refl
active_standing Released kept not_revoked = absurd (false≢true (sym kept))
active_standing Revoked kept not_revoked = absurd (not_revoked refl)

not_given : (entries : List Entry) (w : Word) → IsCurrent (state_of entries) w → IsActive (state_of entries) → (raises (lines_of entries) w && is_released w.standing) ≡ false → is_released w.standing ≡ false
not_given entries w current active kept = ap (λ b. b && is_released w.standing) (sym (raises_owned entries w current active)) ∙ kept

pub returns-then-not-shown-clause-lines : goal.returns-then-not-shown-clause-lines
returns-then-not-shown-clause-lines c =
    let open_still = sym c.show-shown.ensures.ended ∙ is_not c.show-shown.result.ended c.if-not-shown.true in
    let kept = not_given c.args.self.now.entries c.args.old (current_of c.args.self.now.entries c.args.old c.requires.can_time_out.showable) (active_of c.args.self.now.entries c.requires.can_time_out.owned) open_still in
    let is = active_standing c.args.old.standing kept c.requires.can_time_out.standing in
    let active = subst (λ (k : Kept). IsActive (state_of k.entries)) (sym c.self.view_is) (c.show-shown.ensures.active (active_of c.args.self.now.entries c.requires.can_time_out.owned) (is_not c.show-shown.result.ended c.if-not-shown.true)) in
    ap lines_of c.time_out.ensures.entries
    ∙ lines-timed_out c.self.inside.journal.entries Active active
    ∙ ap (λ (k : Kept). taken_back Active (lines_of k.entries)) c.self.view_is
    ∙ ap (taken_back Active) c.show-shown.ensures.lines
    ∙ ap (λ t. taken_back t (raised (lines_of c.args.self.now.entries) c.args.old)) (sym is)

pub returns-then-not-shown-clause-logs : goal.returns-then-not-shown-clause-logs
returns-then-not-shown-clause-logs c =
    subst (λ es. SentMore c.show-shown.result.sends (state_of c.args.self.now.entries) (state_of es)) (sym c.time_out.ensures.entries)
    (more_timed_out c.show-shown.result.sends (state_of c.args.self.now.entries) c.self.inside.journal.entries
    (subst (λ (k : Kept). SentMore c.show-shown.result.sends (state_of c.args.self.now.entries) (state_of k.entries)) (sym c.self.view_is) c.show-shown.ensures.logs))
