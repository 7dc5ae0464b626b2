-- What is known of the parts of a line that is read.
use Rattle.std.proofs.Common.{◌≡◌, ◌≢◌, ℕ, suc, zero, ◌<◌, ◌≤◌, ◌&&◌, ◌||◌, Bool, true, false, cond, List, [], ◌∷◌, length, get_or, Option, Some, None, Result, Ok, Err, nat_le, nat_lt, refl, sym, ap, ◌∙◌, arith, subst}
use Rattle.std.proofs.lemmas.Bool.{and_parts, and_from, leb-true, false≢true}
use Rattle.std.proofs.lemmas.Bool.Decides.{nat_tests}
use Rattle.std.specs.List.{list_any}
use Rattle.std.specs.Option.{is_none, ok_or}
use Rattle.std.specs.Str.{bytes_eq}
use Rattle.std.proofs.lemmas.Slice.Eq.{bytes_eq-Decides}
use Rattle.fix_fields.specs.Laws.{MomentsHaveABound}
use Rattle.fix_fields.specs.Stamp.{moment_of}
use Rattle.fix_frame.specs.Frame.{IsBody, frame_of}
use Rattle.gate_io.specs.declared.clocks.TheConstants.{LAST_MOMENT}
use Rattle.gate_io.specs.declared.wires.TheConstants.{FIRST_DIALLED}
use Rattle.script_text.specs.Args.{body_at, ends, is_body_text, is_framed, later, moment_at, name_at, number_at, number_line, number_within, text_at, word_at}
use Rattle.script_text.specs.Grammar.{connection_at, same_names}
use Rattle.script_text.specs.Kinds.{◌>>=◌, as_part, both, demand}
use Rattle.script_text.specs.Lawful.{IsMade}
use Rattle.script_text.specs.SoFar.{is_made}
use Rattle.script_text.specs.Words.{is_name}
use Rattle.session_core.specs.declared.names.Names.{Names}
use Rattle.script_text.specs.declared.kinds.ScriptKind.{ScriptKind}
use Rattle.script_text.specs.declared.kinds.ScriptKind.TheVariants.{BadNumber, BadText, OutOfRange}
use Rattle.script_text.specs.declared.numbers.NextNumbers.{NextNumbers}
use Rattle.script_text.proofs.Bodies.{IsBody-from_text}

abbrev pub Args : Type 0
Args = Option (List ℕ)

pub demand-ok : {A : Type 0} (holds : Bool) (fault : ScriptKind) (part : Result A ScriptKind) (x : A) → demand holds fault part ≡ Ok x → (holds ≡ true) × (part ≡ Ok x)
demand-ok true fault part x e = (refl, e)
demand-ok false fault (Ok y) x e = cc
demand-ok false fault (Err kind) x e = cc

pub as_part-ok : {A B : Type 0} (make : A → B) (part : Result A ScriptKind) (y : B) → as_part make part ≡ Ok y → (x : A) × (part ≡ Ok x) × (make x ≡ y)
as_part-ok make (Ok x) y e = (x, refl, cc)
as_part-ok make (Err kind) y e = cc

pub both-ok : {A B : Type 0} (first : Result A ScriptKind) (second : Result B ScriptKind) (pair : A × B) → both first second ≡ Ok pair → (first ≡ Ok pair.0) × (second ≡ Ok pair.1)
both-ok (Ok x) (Ok y) pair e = let same : (x, y) ≡ pair = cc in (ap (λ p. Ok p.0) same, ap (λ p. Ok p.1) same)
both-ok (Ok x) (Err kind) pair e = cc
both-ok (Err kind) (Ok y) pair e = cc
both-ok (Err kind) (Err other) pair e = cc

pub bind-ok : {A B : Type 0} (part : Result A ScriptKind) (next : A → Result B ScriptKind) (y : B) → (part >>= next) ≡ Ok y → (x : A) × (part ≡ Ok x) × (next x ≡ Ok y)
bind-ok (Ok x) next y e = (x, refl, e)
bind-ok (Err kind) next y e = cc

pub unless-ok : {A : Type 0} (holds : Bool) (fault : ScriptKind) (x y : A) → cond holds (Ok x) (Err fault) ≡ Ok y → (holds ≡ true) × (x ≡ y)
unless-ok true fault x y e = (refl, cc)
unless-ok false fault x y e = cc

pub if-ok : {A : Type 0} (fails : Bool) (fault : ScriptKind) (x y : A) → cond fails (Err fault) (Ok x) ≡ Ok y → (fails ≡ false) × (x ≡ y)
if-ok true fault x y e = cc
if-ok false fault x y e = (refl, cc)

pub ends-ok : {A : Type 0} (args : Args) (part : Result A ScriptKind) (x : A) → ends args part ≡ Ok x → part ≡ Ok x
ends-ok args part x e = (demand-ok (is_none args) _ part x e).1

pub ok_or-ok : {A : Type 0} (o : Option A) (fault : ScriptKind) (x : A) → ok_or o fault ≡ Ok x → o ≡ Some x
ok_or-ok (Some y) fault x e = let same : y ≡ x = cc in ap Some same
ok_or-ok None fault x e = cc

pub number_within-ok : (low high : ℕ) (args : Args) (n : ℕ) → number_within low high args ≡ Ok n → (low ≤ n) × (n ≤ high)
unfolding number_within
number_within-ok low high args n e =
    let found = bind-ok (number_at args) _ n e in
    let held = unless-ok (nat_le low found.0 && nat_le found.0 high) OutOfRange found.0 n found.2 in
    let parts = and_parts _ _ held.0 in
    let least : low ≤ found.0 = leb-true _ _ parts.0 in
    let most : found.0 ≤ high = leb-true _ _ parts.1 in
    (omega (arith, held.1), omega (arith, held.1))

pub number_line-ok : (low high : ℕ) (args : Args) (n : ℕ) → number_line low high args ≡ Ok n → (low ≤ n) × (n ≤ high)
unfolding number_line
number_line-ok low high args n e = number_within-ok low high args n (ends-ok (later args) _ n e)

made-comes : (next : NextNumbers) (c : ℕ) → is_made next c ≡ true → c < FIRST_DIALLED → c < next.connect
made-comes next c made low = grind (arith, nat_tests)

made-dialled : (next : NextNumbers) (c : ℕ) → is_made next c ≡ true → FIRST_DIALLED ≤ c → c < next.take
made-dialled next c made high = grind (arith, nat_tests)

pub connection_at-ok : (next : NextNumbers) (args : Args) (c : ℕ) → connection_at next args ≡ Ok c → IsMade next c
unfolding connection_at
connection_at-ok next args c e =
    let found = bind-ok (number_at args) _ c e in
    let held = unless-ok (is_made next found.0) OutOfRange found.0 c found.2 in
    subst (IsMade next) held.1 (record { comes = made-comes next found.0 held.0; dialled = made-dialled next found.0 held.0 })

pub name_at-ok : (args : Args) (word : List ℕ) → name_at args ≡ Ok word → is_name word ≡ true
unfolding name_at
name_at-ok args word e =
    let found = bind-ok (word_at args) _ word e in
    let held = unless-ok (is_name found.0) BadText found.0 word found.2 in
    subst (λ (w : List ℕ). is_name w ≡ true) held.1 held.0

-- no timestamp is behind the last moment
pub moment_at-ok : MomentsHaveABound → (args : Args) (ms : ℕ) → moment_at args ≡ Ok ms → ms ≤ LAST_MOMENT
unfolding moment_at
moment_at-ok bound args ms e =
    let found = bind-ok (word_at args) _ ms e in
    bound found.0 ms (ok_or-ok (moment_of found.0) BadNumber ms found.2)

pub is_framed-parts : (bytes : List ℕ) → is_framed bytes ≡ true → IsBody bytes × (length (frame_of bytes) ≤ 65_536)
unfolding is_framed
is_framed-parts bytes e =
    let parts = and_parts (is_body_text bytes) (nat_le (length (frame_of bytes)) 65536) e in
    (IsBody-from_text bytes parts.0, leb-true _ _ parts.1)

pub body_at-ok : (args : Args) (body : List ℕ) → body_at args ≡ Ok body → IsBody body × (length (frame_of body) ≤ 65_536)
unfolding body_at
body_at-ok args body e =
    let found = bind-ok (text_at args) _ body e in
    let held = unless-ok (is_framed found.0) BadText found.0 body found.2 in
    is_framed-parts body (subst (λ (b : List ℕ). is_framed b ≡ true) held.1 held.0)

bytes_eq-refl : (xs : List ℕ) → bytes_eq xs xs ≡ true
bytes_eq-refl xs = (bytes_eq-Decides xs xs).1 refl

same_names-refl : (names : Names) → same_names names names ≡ true
same_names-refl names = and_from _ _ (bytes_eq-refl names.us) (bytes_eq-refl names.them)

or-parts : (a b : Bool) → a || b ≡ false → (a ≡ false) × (b ≡ false)
or-parts true b e = absurd (false≢true (sym e))
or-parts false b e = (refl, e)

-- where no session has the names, they differ from those of each
pub none_same : (before : List Names) (names : Names) → list_any (λ other. same_names other names) before ≡ false → (k : ℕ) (d : Names) → k < length before → get_or before k d ≢ names
none_same [] names none k d within = absurd (omega arith)
none_same (other ∷ others) names none zero d within = λ same.
    let parts = or-parts (same_names other names) (list_any (λ o. same_names o names) others) none in
    false≢true (sym parts.0 ∙ ap (λ (o : Names). same_names o names) same ∙ same_names-refl names)
none_same (other ∷ others) names none (suc k) d within =
    let parts = or-parts (same_names other names) (list_any (λ o. same_names o names) others) none in
    none_same others names parts.1 k d (omega arith)
