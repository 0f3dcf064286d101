use Rattle.std.proofs.Common.{◌≡◌, ◌++◌, map, take}
use Rattle.heading_fields.specs.Numbers.{key_text}
use Rattle.catalogue_rules.specs.Lines.{then_words}
use Rattle.ambiguity_report.proofs.words.add_key_words.Given as goal

abbrev pub invariant-loop-key : goal.invariant-loop-key
invariant-loop-key l = l.text.items ≡ l.initial.text.items ++ then_words (map key_text (take l.key-index l.keys))
