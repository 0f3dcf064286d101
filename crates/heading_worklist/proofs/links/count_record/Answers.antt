use Rattle.std.proofs.Common.{◌∙◌, ap, arith}
use Rattle.std.specs.List.{count_by}
use Rattle.catalogue_rules.specs.State.{fields_of}
use Rattle.numbered_store.specs.Kept.{kept_record}
use Rattle.catalogue_rules.specs.Settle.{is_linked_to}
use Rattle.heading_worklist.proofs.Counting.{none_linked}
use Rattle.heading_worklist.proofs.links.count_record.Goals as goal

pub returns-in-None : goal.returns-in-None
returns-in-None c = λ k.
    let none = ap (count_by (is_linked_to k)) c.in-None.ensures ∙ none_linked k (fields_of (kept_record c.args.kept.now)) in omega (arith, none)
