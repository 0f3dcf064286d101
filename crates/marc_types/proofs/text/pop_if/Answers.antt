use Rattle.std.proofs.lemmas.Str.{IsUtf8-string_bytes}
use Rattle.marc_types.proofs.text.pop_if.Goals as goal

pub returns-then-not-ends_with-clause-utf8 : goal.returns-then-not-ends_with-clause-utf8
returns-then-not-ends_with-clause-utf8 c = IsUtf8-string_bytes c.args.string.now

pub returns-clause-utf8 : goal.returns-clause-utf8
returns-clause-utf8 c = IsUtf8-string_bytes c.pop.new.self
