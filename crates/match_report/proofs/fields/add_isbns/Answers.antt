use Rattle.std.proofs.Common.{◌∙◌, ◌++◌, [], ap}
use Rattle.std.specs.List.{cons_option}
use Rattle.match_report.specs.Numbers.{isbn_of_subfield}
use Rattle.match_report.proofs.Taken.{found_more}
use Rattle.match_report.proofs.fields.add_isbns.Goals as goal

pub loop-subfield-preserved : goal.loop-subfield-preserved
loop-subfield-preserved c =
    found_more isbn_of_subfield c.subfields-subfield-items.result.now c.loop-subfield.subfield-index c.subfield-item.result c.args.found.now.items c.loop-subfield.found.items
    c.add.new.found.items c.loop-subfield-test.true c.subfield-item.is c.loop-subfield.invariant
    (c.in_ok-add.ensures ∙ ap (λ o. c.loop-subfield.found.items ++ cons_option o []) c.in_ok-isbn.ensures)
