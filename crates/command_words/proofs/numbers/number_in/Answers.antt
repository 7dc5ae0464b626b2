use Rattle.std.proofs.Common.{◌≡◌, ◌∙◌, ap, sym, true}
use Rattle.std.specs.Char.{is_ascii_digit}
use Rattle.std.specs.List.{list_all}
use Rattle.std.specs.Str.{all_ascii_digits}
use Rattle.command_words.proofs.Digits.{digits_are, number_kept}
use Rattle.command_words.proofs.numbers.number_in.Goals as goal

pub returns : goal.returns
returns c =
    let digits : all_ascii_digits c.args.word.now ≡ true =
    digits_are c.args.word.now ∙ ap (list_all is_ascii_digit) (sym c.as_bytes.ensures.value) ∙ sym c.if-not-are_digits.ensures in
    c.ok.ensures.value ∙ number_kept c.args.word.now c.parse.result digits c.if-word-gt-MOST_DIGITS.false c.parse.ensures.value.0
