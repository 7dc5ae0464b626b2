use Rattle.script_text.proofs.PrintedTexts.{bytes_of_text-printed_text}
use Rattle.script_text.proofs.laws.printed_texts_read_again.Goals as goal

pub returns : goal.returns
returns c = bytes_of_text-printed_text
