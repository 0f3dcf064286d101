use Rattle.marc8_latin.proofs.Fronts.{between_tables}
use Rattle.std.proofs.Common.{sym, arith}
use Rattle.std.proofs.lemmas.Bool.Decides.{nat_tests}
use Rattle.marc8_latin.proofs.charset.extended_latin.Goals as goal

pub returns-in_default-2 : goal.returns-in_default-2
returns-in_default-2 c = sym (between_tables c.args.code (grind (arith, nat_tests)) (grind (arith, nat_tests)))
