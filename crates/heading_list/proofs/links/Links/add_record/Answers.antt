use Rattle.catalogue_rules.specs.State.{fields_of}
use Rattle.heading_list.specs.Lines.{linked_of_row}
use Rattle.heading_list.proofs.Counts.{rise_none, unlinked}
use Rattle.heading_list.proofs.links.Links.add_record.Goals as goal
use Rattle.numbered_store.specs.Kept.{kept_record}

pub returns-in-None : goal.returns-in-None
returns-in-None c =
    let kept = kept_record c.args.kept.now in
    rise_none c.args.self.now (λ other. linked_of_row other (c.args.key.now, kept)) (λ other. unlinked other kept.fields (fields_of kept) c.in-None.ensures)
