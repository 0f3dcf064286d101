use Rattle.std.proofs.Common.{◌≡◌, ◌++◌, map, take}
use Rattle.catalogue_rules.specs.Lines.{then_words}
use Rattle.marc_types.specs.declared.form.Item.{Item}
use Rattle.browsing_commands.proofs.lines.add_texts.Given as goal

abbrev pub invariant-loop-item : goal.invariant-loop-item
invariant-loop-item l = l.text.items ≡ l.initial.text.items ++ then_words (map (λ (item : Item). item.text) (take l.item-index l.items))
