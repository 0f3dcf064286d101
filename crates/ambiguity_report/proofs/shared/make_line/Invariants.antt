use Rattle.std.proofs.Common.{◌≡◌, ◌++◌, map, take}
use Rattle.std.specs.Prelude.{codes}
use Rattle.heading_fields.specs.Numbers.{key_text}
use Rattle.catalogue_rules.specs.Lines.{then_words}
use Rattle.catalogue_tables.specs.Sharing.{shown_keys}
use Rattle.ambiguity_report.proofs.shared.make_line.Given as goal

abbrev pub invariant-loop-key : goal.invariant-loop-key
invariant-loop-key l = l.text.items ≡ codes "SHARED" ++ then_words (map key_text (shown_keys (take l.key-index l.group)))
