use Rattle.std.proofs.Common.{◌≡◌, ◌+◌, ◌≤◌, length}
use Rattle.script_text.specs.Meaning.{lines_of, script_from, script_of}
use Rattle.script_text.specs.SoFar.{MadeBefore}
use Rattle.script_text.proofs.reading.read_script.Given as goal

-- what the rest says behind the lines so far is what the text says
abbrev pub invariant-loop-rest : goal.invariant-loop-rest
invariant-loop-rest l =
    record {
      meaning : script_from l.serving l.number l.draft (lines_of l.rest) ≡ script_of l.serving l.text;
      count : l.number + length l.rest ≤ 16_777_217;
      made : MadeBefore l.number l.draft.next;
    }

abbrev pub decreases-loop-rest : goal.decreases-loop-rest
decreases-loop-rest l = length l.rest
