use Rattle.script_text.proofs.PrintedTexts.{printable-printed_text}
use Rattle.script_text.proofs.laws.printed_texts_are_printable.Goals as goal

pub returns : goal.returns
returns c = printable-printed_text
