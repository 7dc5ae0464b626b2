use Rattle.std.proofs.Common.{◌≡◌, ◌++◌, map, take}
use Rattle.run_report.specs.Lines.{spaced_words, word_text}
use Rattle.run_report.proofs.words.put_spaced.Given as goal

abbrev pub invariant-loop-word : goal.invariant-loop-word
invariant-loop-word l = l.out.items ≡ l.initial.out.items ++ spaced_words (map word_text (take l.word-index l.words))
