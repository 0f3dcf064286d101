use Rattle.iso2709_record.proofs.Lengths.{record_bounds}
use Rattle.entry_record.proofs.facts.facts_of.Goals as goal

pub access_of-requires : goal.access_of-requires
access_of-requires c =
    let rec = c.args.rec.now in
    rw c.as_slice-fields.ensures (record_bounds rec.leader rec.fields rec.valid).1
