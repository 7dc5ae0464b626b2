-- A script is read line by line, and its fault is that of the first line with one.
use Rattle.std.proofs.Common.{◌≡◌, ◌↔◌, ℕ, suc, ◌+◌, ◌<◌, ◌≤◌, Bool, true, false, cond, List, [], ◌∷◌, ◌++◌, length, Some, Result, Ok, Err, nat_lt, refl, sym, ap, ◌∙◌, arith}
use Rattle.std.proofs.lemmas.Bool.Decides.{nat_tests}
use Rattle.script_text.specs.Grammar.{line_of}
use Rattle.script_text.specs.Laws.{IsFirstFault, IsRead, said_by, said_on}
use Rattle.script_text.specs.Meaning.{lines_of, read_on, script_from, script_of}
use Rattle.script_text.specs.SoFar.{SoFar, no_lines, said_with, script_said}
use Rattle.script_text.specs.declared.kinds.ScriptError.{ScriptError}
use Rattle.script_text.specs.declared.kinds.ScriptError.TheVariants.{Fault}
use Rattle.script_text.specs.declared.kinds.ScriptKind.{ScriptKind}
use Rattle.script_text.specs.declared.kinds.ScriptKind.TheVariants.{TooLong}
use Rattle.script_text.specs.declared.lines.Line.{Line}
use Rattle.script_text.specs.declared.steps.Script.{Script}
use Rattle.script_text.proofs.Meanings.{from-cons, from-nil}

said-nil : (serving : Bool) (n : ℕ) (said : SoFar) → said_by serving n said [] ≡ Some said
unfolding said_by
said-nil serving n said = refl

said-cons : (serving : Bool) (n : ℕ) (said : SoFar) (text : List ℕ) (texts : List (List ℕ)) → said_by serving n said (text ∷ texts) ≡ said_on (λ line. said_by serving (suc n) (said_with n line said) texts) (line_of serving said text)
unfolding said_by
said-cons serving n said text texts = refl

abbrev Rest : Type 0
Rest = Line → Result Script ScriptError

from-said : (serving : Bool) (n : ℕ) (said : SoFar) (texts : List (List ℕ)) (last : SoFar) → said_by serving n said texts ≡ Some last → script_from serving n said texts ≡ Ok (script_said serving last)
from-said serving n said [] last e =
    let same : said ≡ last = cc (said-nil serving n said) in from-nil serving n said ∙ ap (λ (s : SoFar). Ok (script_said serving s)) same
from-said serving n said (text ∷ texts) last e =
    from-cons serving n said text texts
    ∙ (elim (line_of serving said text) as (λ v. said_on (λ line. said_by serving (suc n) (said_with n line said) texts) v ≡ Some last → read_on n (λ line. script_from serving (suc n) (said_with n line said) texts) v ≡ Ok (script_said serving last)) [
      | Ok line ↦ λ s. from-said serving (suc n) (said_with n line said) texts last s
      | Err kind ↦ λ s. cc
    ] (sym (said-cons serving n said text texts) ∙ e))

-- what lines say that are read
pub record Said (serving : Bool) (n : ℕ) (said : SoFar) (texts : List (List ℕ)) (script : Script) : Type 0 where
  pub last : SoFar
  pub lines : said_by serving n said texts ≡ Some last
  pub whole : script_said serving last ≡ script

said-from : (serving : Bool) (n : ℕ) (said : SoFar) (texts : List (List ℕ)) (script : Script) → script_from serving n said texts ≡ Ok script → Said serving n said texts script
said-from serving n said [] script e =
    record { last = said; lines = said-nil serving n said; whole = cc (from-nil serving n said) }
said-from serving n said (text ∷ texts) script e =
    elim (line_of serving said text) as (λ v. line_of serving said text ≡ v → read_on n (λ line. script_from serving (suc n) (said_with n line said) texts) v ≡ Ok script → Said serving n said (text ∷ texts) script) [
      | Ok line ↦ λ read s.
          let rest = said-from serving (suc n) (said_with n line said) texts script s in
          record {
            last = rest.last;
            lines = said-cons serving n said text texts ∙ ap (said_on (λ line. said_by serving (suc n) (said_with n line said) texts)) read ∙ rest.lines;
            whole = rest.whole;
          }
      | Err kind ↦ λ _ s. cc
    ] refl (sym (from-cons serving n said text texts) ∙ e)

fault-from : (serving : Bool) (n : ℕ) (said : SoFar) (before : List (List ℕ)) (line : List ℕ) (behind : List (List ℕ)) (last : SoFar) (kind : ScriptKind) → said_by serving n said before ≡ Some last → line_of serving last line ≡ Err kind → script_from serving n said (before ++ line ∷ behind) ≡ Err (Fault (n + length before) kind)
fault-from serving n said [] line behind last kind e fault =
    let same : said ≡ last = cc (said-nil serving n said) in
    let none : n ≡ n + 0 = omega arith in
    from-cons serving n said line behind
    ∙ ap (read_on n (λ next. script_from serving (suc n) (said_with n next said) behind)) (ap (λ (s : SoFar). line_of serving s line) same ∙ fault)
    ∙ ap (λ m. Err (Fault m kind)) none
fault-from serving n said (text ∷ texts) line behind last kind e fault =
    let more : suc n + length texts ≡ n + length (text ∷ texts) = omega arith in
    from-cons serving n said text (texts ++ line ∷ behind)
    ∙ (elim (line_of serving said text) as (λ v. said_on (λ next. said_by serving (suc n) (said_with n next said) texts) v ≡ Some last → read_on n (λ next. script_from serving (suc n) (said_with n next said) (texts ++ line ∷ behind)) v ≡ Err (Fault (suc n + length texts) kind)) [
      | Ok next ↦ λ s. fault-from serving (suc n) (said_with n next said) texts line behind last kind s fault
      | Err other ↦ λ s. cc
    ] (sym (said-cons serving n said text texts) ∙ e))
    ∙ ap (λ m. Err (Fault m kind)) more

-- the first of the lines that has a fault, and what those before it say
pub record Faulty (serving : Bool) (n : ℕ) (said : SoFar) (texts : List (List ℕ)) (m : ℕ) (kind : ScriptKind) : Type 0 where
  pub before : List (List ℕ)
  pub line : List ℕ
  pub behind : List (List ℕ)
  pub last : SoFar
  pub cut : texts ≡ before ++ line ∷ behind
  pub number : m ≡ n + length before
  pub lawful : said_by serving n said before ≡ Some last
  pub fault : line_of serving last line ≡ Err kind

same_line : (a b : ℕ) (j k : ScriptKind) (r : Result Script ScriptError) → r ≡ Err (Fault a j) → r ≡ Err (Fault b k) → a ≡ b
same_line a b j k r e f = cc

same_kind : (a b : ℕ) (j k : ScriptKind) (r : Result Script ScriptError) → r ≡ Err (Fault a j) → r ≡ Err (Fault b k) → j ≡ k
same_kind a b j k r e f = cc

from-fault : (serving : Bool) (n : ℕ) (said : SoFar) (texts : List (List ℕ)) (m : ℕ) (kind : ScriptKind) → script_from serving n said texts ≡ Err (Fault m kind) → Faulty serving n said texts m kind
from-fault serving n said [] m kind e = cc (from-nil serving n said)
from-fault serving n said (text ∷ texts) m kind e =
    elim (line_of serving said text) as (λ v. line_of serving said text ≡ v → read_on n (λ line. script_from serving (suc n) (said_with n line said) texts) v ≡ Err (Fault m kind) → Faulty serving n said (text ∷ texts) m kind) [
      | Ok line ↦ λ read s.
          let rest = from-fault serving (suc n) (said_with n line said) texts m kind s in
          record {
            before = text ∷ rest.before;
            line = rest.line;
            behind = rest.behind;
            last = rest.last;
            cut = ap (λ (xs : List (List ℕ)). text ∷ xs) rest.cut;
            number = omega (arith, rest.number);
            lawful = said-cons serving n said text rest.before ∙ ap (said_on (λ line. said_by serving (suc n) (said_with n line said) rest.before)) read ∙ rest.lawful;
            fault = rest.fault;
          }
      | Err other ↦ λ read s.
          let number : n ≡ m = same_line n m other kind _ refl s in
          record {
            before = [];
            line = text;
            behind = texts;
            last = said;
            cut = refl;
            number = omega (arith, number);
            lawful = said-nil serving n said;
            fault = read ∙ ap Err (same_kind n m other kind _ refl s);
          }
    ] refl (sym (from-cons serving n said text texts) ∙ e)

-- ---- whole scripts

abbrev whole : Bool → List ℕ → Bool → Result Script ScriptError
whole serving text long = cond long (Err (Fault 0 TooLong)) (script_from serving 1 no_lines (lines_of text))

script-is : (serving : Bool) (text : List ℕ) → script_of serving text ≡ whole serving text (nat_lt 16_777_216 (length text))
unfolding script_of
script-is serving text = refl

long : (text : List ℕ) → 16_777_216 < length text → nat_lt 16_777_216 (length text) ≡ true
long text h = grind (arith, nat_tests)

short : (text : List ℕ) → length text ≤ 16_777_216 → nat_lt 16_777_216 (length text) ≡ false
short text h = grind (arith, nat_tests)

is_long : (text : List ℕ) → nat_lt 16_777_216 (length text) ≡ true → 16_777_216 < length text
is_long text h = grind (arith, nat_tests)

is_short : (text : List ℕ) → nat_lt 16_777_216 (length text) ≡ false → length text ≤ 16_777_216
is_short text h = grind (arith, nat_tests)

script-short : (serving : Bool) (text : List ℕ) → length text ≤ 16_777_216 → script_of serving text ≡ script_from serving 1 no_lines (lines_of text)
script-short serving text h = script-is serving text ∙ ap (whole serving text) (short text h)

script-long : (serving : Bool) (text : List ℕ) → 16_777_216 < length text → script_of serving text ≡ Err (Fault 0 TooLong)
script-long serving text h = script-is serving text ∙ ap (whole serving text) (long text h)

pub scripts-read : (serving : Bool) (text : List ℕ) (script : Script) → (script_of serving text ≡ Ok script) ↔ IsRead serving text script
scripts-read serving text script = (
  λ e. elim (nat_lt 16_777_216 (length text)) as (λ v. nat_lt 16_777_216 (length text) ≡ v → whole serving text v ≡ Ok script → IsRead serving text script) [
    | true ↦ λ _ s. cc
    | false ↦ λ is s.
        let found = said-from serving 1 no_lines (lines_of text) script s in
        record { said = found.last; short = is_short text is; lines = found.lines; whole = found.whole }
  ] refl (sym (script-is serving text) ∙ e),
  λ read. script-short serving text read.short ∙ from-said serving 1 no_lines (lines_of text) read.said read.lines ∙ ap Ok read.whole,
)

fault-positive : (n : ℕ) (kind : ScriptKind) (r : Result Script ScriptError) → 0 < n → r ≡ Err (Fault 0 TooLong) → r ≡ Err (Fault n kind) → ⊥
fault-positive n kind r some e f = let same = same_line 0 n TooLong kind r e f in omega (arith, same)

pub faults-first : (serving : Bool) (text : List ℕ) (n : ℕ) (kind : ScriptKind) → 0 < n → (script_of serving text ≡ Err (Fault n kind)) ↔ IsFirstFault serving text n kind
faults-first serving text n kind some = (
  λ e. elim (nat_lt 16_777_216 (length text)) as (λ v. nat_lt 16_777_216 (length text) ≡ v → whole serving text v ≡ Err (Fault n kind) → IsFirstFault serving text n kind) [
    | true ↦ λ _ s. absurd (fault-positive n kind _ some refl s)
    | false ↦ λ is s.
        let found = from-fault serving 1 no_lines (lines_of text) n kind s in
        record {
          before = found.before;
          line = found.line;
          behind = found.behind;
          said = found.last;
          short = is_short text is;
          cut = found.cut;
          number = found.number;
          lawful = found.lawful;
          fault = found.fault;
        }
  ] refl (sym (script-is serving text) ∙ e),
  λ h. script-short serving text h.short ∙ ap (script_from serving 1 no_lines) h.cut
      ∙ fault-from serving 1 no_lines h.before h.line h.behind h.said kind h.lawful h.fault
      ∙ ap (λ m. Err (Fault m kind)) (sym h.number),
)

from-no_zero : (serving : Bool) (texts : List (List ℕ)) (kind : ScriptKind) → script_from serving 1 no_lines texts ≡ Err (Fault 0 kind) → ⊥
from-no_zero serving texts kind e = let found = from-fault serving 1 no_lines texts 0 kind e in omega (arith, found.number)

pub long-zero : (serving : Bool) (text : List ℕ) (kind : ScriptKind) → (script_of serving text ≡ Err (Fault 0 kind)) ↔ ((kind ≡ TooLong) × (16_777_216 < length text))
long-zero serving text kind = (
  λ e. elim (nat_lt 16_777_216 (length text)) as (λ v. nat_lt 16_777_216 (length text) ≡ v → whole serving text v ≡ Err (Fault 0 kind) → (kind ≡ TooLong) × (16_777_216 < length text)) [
    | true ↦ λ is s. (sym (same_kind 0 0 TooLong kind _ refl s), is_long text is)
    | false ↦ λ _ s. absurd (from-no_zero serving (lines_of text) kind s)
  ] refl (sym (script-is serving text) ∙ e),
  λ h. script-long serving text h.1 ∙ ap (λ k. Err (Fault 0 k)) (sym h.0),
)
