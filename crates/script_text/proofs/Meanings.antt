-- A script is read line by line.
use Rattle.std.proofs.Common.{◌≡◌, ℕ, suc, ◌+◌, Bool, List, [], ◌∷◌, length, Result, Ok, Err, refl, sym, ap, ◌∙◌, arith, add-one}
use Rattle.script_text.specs.Grammar.{line_of}
use Rattle.script_text.specs.Meaning.{lines_of, read_on, script_from}
use Rattle.script_text.specs.SoFar.{SoFar, said_with, script_said}
use Rattle.script_text.specs.declared.kinds.ScriptError.{ScriptError}
use Rattle.script_text.specs.declared.kinds.ScriptError.TheVariants.{Fault}
use Rattle.script_text.specs.declared.kinds.ScriptKind.{ScriptKind}
use Rattle.script_text.specs.declared.lines.Line.{Line}
use Rattle.script_text.specs.declared.steps.Script.{Script}
use Rattle.script_text.proofs.LineCuts.{lines-nil}

pub from-cons : (serving : Bool) (n : ℕ) (said : SoFar) (text : List ℕ) (texts : List (List ℕ)) → script_from serving n said (text ∷ texts) ≡ read_on n (λ line. script_from serving (suc n) (said_with n line said) texts) (line_of serving said text)
unfolding script_from
from-cons serving n said text texts = refl

pub reading_fault : (serving : Bool) (n : ℕ) (said : SoFar) (lines texts : List (List ℕ)) (text : List ℕ) (kind : ScriptKind) (meaning : Result Script ScriptError) → lines ≡ text ∷ texts → Err kind ≡ line_of serving said text → script_from serving n said lines ≡ meaning → meaning ≡ Err (Fault n kind)
reading_fault serving n said lines texts text kind meaning cut fault so_far =
    sym so_far ∙ ap (script_from serving n said) cut ∙ from-cons serving n said text texts
    ∙ ap (read_on n (λ line. script_from serving (suc n) (said_with n line said) texts)) (sym fault)

pub reading_line : (serving : Bool) (n : ℕ) (said after : SoFar) (lines texts : List (List ℕ)) (text : List ℕ) (line : Line) (meaning : Result Script ScriptError) → lines ≡ text ∷ texts → Ok line ≡ line_of serving said text → after ≡ said_with n line said → script_from serving n said lines ≡ meaning → script_from serving (n + 1) after texts ≡ meaning
reading_line serving n said after lines texts text line meaning cut found put so_far =
    ap (λ m. script_from serving m after texts) (add-one n)
    ∙ ap (λ (s : SoFar). script_from serving (suc n) s texts) put
    ∙ ap (read_on n (λ line. script_from serving (suc n) (said_with n line said) texts)) found
    ∙ sym (from-cons serving n said text texts)
    ∙ ap (script_from serving n said) (sym cut) ∙ so_far

pub from-nil : (serving : Bool) (n : ℕ) (said : SoFar) → script_from serving n said [] ≡ Ok (script_said serving said)
unfolding script_from
from-nil serving n said = refl

pub reading_end : (serving : Bool) (n : ℕ) (said : SoFar) (rest : List ℕ) (meaning : Result Script ScriptError) → length rest ≡ 0 → script_from serving n said (lines_of rest) ≡ meaning → meaning ≡ Ok (script_said serving said)
reading_end serving n said [] meaning none so_far =
    sym so_far ∙ ap (script_from serving n said) lines-nil ∙ from-nil serving n said
reading_end serving n said (b ∷ bytes) meaning none so_far = absurd (omega arith)
