-- The spells of a journal as entries come.
use Rattle.std.proofs.Common.{◌≡◌, ℕ, Bool, true, false, if◌then◌else◌, List, [], ◌∷◌, ◌++◌, fold, Option, None, Some, is_some, refl, sym, ap, ◌∙◌, append_assoc}
use Rattle.std.specs.List.{All, filter}
use Rattle.std.proofs.lemmas.Bool.{false≢true}
use Rattle.std.proofs.lemmas.List.{append-nil}
use Rattle.std.proofs.lemmas.List.Elements.{All-cons, All-head, All-nil, All-tail, filter-append}
use Rattle.lease_core.specs.State.{State as Totals, state_after, with_last}
use Rattle.lease_core.specs.declared.entry.Entry.{Entry}
use Rattle.lease_core.specs.declared.entry.Entry.TheVariants.{Arrive, Admin, Bind, Plan, Leave, Reset, Granted, Refused, Send, Release, Timeout, Hold, Lapse}
use Rattle.message_log.specs.declared.entry.OutEntry.{OutEntry}
use Rattle.session_book.specs.Runs.{IsInside, is_of_machine}
use Rattle.session_book.specs.Spells.{Placed, Spell, act_entries, is_act, placed, placed_from, spell_with, spells_after, spells_from}

pub changed_last : {T : Type 0} (f : T → T) (xs : List T) (x : T) → with_last f (xs ++ x ∷ []) ≡ xs ++ f x ∷ []
changed_last f [] x = refl
changed_last f (y ∷ []) x = refl
changed_last f (y ∷ (z ∷ zs)) x = ap (λ l. y ∷ l) (changed_last f (z ∷ zs) x)

-- an entry that neither binds the session nor ends that
abbrev pub keeps_bound : Entry → Bool
keeps_bound (Bind c) = false
keeps_bound (Leave c) = false
keeps_bound _ = true

abbrev pub Keeps : Entry → Type 0
Keeps e = keeps_bound e ≡ true

pub bound_kept : (s : Totals) (e : Entry) → Keeps e → (state_after s e).bound ≡ s.bound
bound_kept s (Arrive pos) is = refl
bound_kept s (Admin number) is = refl
bound_kept s (Bind c) is = absurd (false≢true is)
bound_kept s (Plan begin last at) is = refl
bound_kept s (Leave c) is = absurd (false≢true is)
bound_kept s (Reset series) is = refl
bound_kept s (Granted library nr lease from start) is = refl
bound_kept s (Refused library nr why) is = refl
bound_kept s (Send lease library ordinal number) is = refl
bound_kept s (Release lease library count heir) is = refl
bound_kept s (Timeout lease library count) is = refl
bound_kept s (Hold lease until) is = refl
bound_kept s (Lapse lease) is = refl

abbrev within : List Spell → Totals → Entry → List Spell
within spells s e = if is_some s.bound then with_last (spell_with (placed s e ∷ [])) spells else spells

spells_kept : (spells : List Spell) (s : Totals) (e : Entry) → Keeps e → spells_after spells s e ≡ within spells s e
spells_kept spells s (Arrive pos) is = refl
spells_kept spells s (Admin number) is = refl
spells_kept spells s (Bind c) is = absurd (false≢true is)
spells_kept spells s (Plan begin last at) is = refl
spells_kept spells s (Leave c) is = absurd (false≢true is)
spells_kept spells s (Reset series) is = refl
spells_kept spells s (Granted library nr lease from start) is = refl
spells_kept spells s (Refused library nr why) is = refl
spells_kept spells s (Send lease library ordinal number) is = refl
spells_kept spells s (Release lease library count heir) is = refl
spells_kept spells s (Timeout lease library count) is = refl
spells_kept spells s (Hold lease until) is = refl
spells_kept spells s (Lapse lease) is = refl

-- the last spell has some entries more
spell_with_both : (first second : List Placed) (spell : Spell) → spell_with second (spell_with first spell) ≡ spell_with (first ++ second) spell
spell_with_both first second spell = ap (λ entries. record spell { entries = entries }) (append_assoc spell.entries first second)

spell_with_none : (spell : Spell) → spell_with [] spell ≡ spell
spell_with_none spell = ap (λ entries. record spell { entries = entries }) (append-nil spell.entries)

pub spells_within : (past : List Spell) (spell : Spell) (s : Totals) (c : ℕ) (es : List Entry) → s.bound ≡ Some c → All Keeps es
    → spells_from (past ++ spell ∷ []) s es ≡ past ++ spell_with (placed_from s es) spell ∷ []
spells_within past spell s c [] bound keep = ap (λ last. past ++ last ∷ []) (sym (spell_with_none spell))
spells_within past spell s c (e ∷ es) bound keep =
    let more = spell_with (placed s e ∷ []) spell in
    let keeps = All-head Keeps e es keep in
    let first : spells_after (past ++ spell ∷ []) s e ≡ past ++ more ∷ [] =
    spells_kept (past ++ spell ∷ []) s e keeps
    ∙ ap (λ (b : Option ℕ). if is_some b then with_last (spell_with (placed s e ∷ [])) (past ++ spell ∷ []) else (past ++ spell ∷ [])) bound
    ∙ changed_last (spell_with (placed s e ∷ [])) past spell in
    ap (λ spells. spells_from spells (state_after s e) es) first
    ∙ spells_within past more (state_after s e) c es (bound_kept s e keeps ∙ bound) (All-tail Keeps e es keep)
    ∙ ap (λ last. past ++ last ∷ []) (spell_with_both (placed s e ∷ []) (placed_from (state_after s e) es) spell)

-- while it is unbound no spell changes
pub spells_without : (spells : List Spell) (s : Totals) (es : List Entry) → s.bound ≡ None → All Keeps es → spells_from spells s es ≡ spells
spells_without spells s [] none keep = refl
spells_without spells s (e ∷ es) none keep =
    let keeps = All-head Keeps e es keep in
    let first : spells_after spells s e ≡ spells =
    spells_kept spells s e keeps ∙ ap (λ (b : Option ℕ). if is_some b then with_last (spell_with (placed s e ∷ [])) spells else spells) none in
    ap (λ found. spells_from found (state_after s e) es) first ∙ spells_without spells (state_after s e) es (bound_kept s e keeps ∙ none) (All-tail Keeps e es keep)

pub spells_join : (spells : List Spell) (s : Totals) (first second : List Entry) → spells_from spells s (first ++ second) ≡ spells_from (spells_from spells s first) (fold state_after s first) second
spells_join spells s [] second = refl
spells_join spells s (e ∷ es) second = spells_join (spells_after spells s e) (state_after s e) es second

pub bound_stays : (s : Totals) (es : List Entry) → All Keeps es → (fold state_after s es).bound ≡ s.bound
bound_stays s [] keep = refl
bound_stays s (e ∷ es) keep = bound_stays (state_after s e) es (All-tail Keeps e es keep) ∙ bound_kept s e (All-head Keeps e es keep)

-- the acts of a spell that has more entries
pub acts_with : (log : List (List OutEntry)) (more : List Placed) (spell : Spell) → act_entries log (spell_with more spell) ≡ act_entries log spell ++ filter (is_act log) more
acts_with log more spell = filter-append (is_act log) spell.entries more

-- entries in their places, in two parts
pub placed_join : (s : Totals) (first second : List Entry) → placed_from s (first ++ second) ≡ placed_from s first ++ placed_from (fold state_after s first) second
placed_join s [] second = refl
placed_join s (e ∷ es) second = ap (λ ps. placed s e ∷ ps) (placed_join (state_after s e) es second)

-- an entry that the session machine doesn't ask for
abbrev pub NoMachine : Entry → Type 0
NoMachine e = is_of_machine e ≡ false

pub inside_bound : (s : Totals) (c : ℕ) (es : List Entry) → s.bound ≡ Some c → All Keeps es → All IsInside (placed_from s es)
inside_bound s c [] bound keep = All-nil IsInside
inside_bound s c (e ∷ es) bound keep =
    let keeps = All-head Keeps e es keep in
    All-cons IsInside (placed s e) (placed_from (state_after s e) es) (λ is. ap (λ (b : Option ℕ). is_some b) bound)
    (inside_bound (state_after s e) c es (bound_kept s e keeps ∙ bound) (All-tail Keeps e es keep))

pub inside_none : (s : Totals) (es : List Entry) → All NoMachine es → All IsInside (placed_from s es)
inside_none s [] none = All-nil IsInside
inside_none s (e ∷ es) none =
    All-cons IsInside (placed s e) (placed_from (state_after s e) es) (λ is. absurd (false≢true (sym (All-head NoMachine e es none) ∙ is)))
    (inside_none (state_after s e) es (All-tail NoMachine e es none))
