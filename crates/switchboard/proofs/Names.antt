-- The names of a session as what is written wants them.
use Rattle.std.proofs.Common.{◌≡◌, ap, ◌∙◌}
use Rattle.session_book.specs.Names2.{Names2}
use Rattle.session_core.specs.declared.names.Names.{Names}
use Rattle.session_book.specs.Kept.{AreNamesOf}

pub names_are : (names : Names) (written : Names2) → AreNamesOf names written → written ≡ record { us = names.us; them = names.them }
names_are names written is =
    let both : written ≡ record written { us = names.us } = ap (λ us. record written { us = us }) is.us in
    both ∙ ap (λ them. record { us = names.us; them = them }) is.them
