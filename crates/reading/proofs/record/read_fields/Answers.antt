use Rattle.std.proofs.Common.{◌≡◌, ◌<◌, true, ap, subst, arith}
use Rattle.iso2709_record.specs.Layout.{entry_count}
use Rattle.iso2709_record.specs.declared.layout.Layout.{Layout}
use Rattle.iso2709_record.specs.Raw.{coding_at}
use Rattle.reading.specs.Reading.{is_known_coding}
use Rattle.reading.proofs.Records.{fields_more, piece_refused}
use Rattle.reading.proofs.record.read_fields.Goals as goal

pub returns-in-Err-clause-refused : goal.returns-in-Err-clause-refused
returns-in-Err-clause-refused c =
    let known : is_known_coding (coding_at c.args.bytes.now) ≡ true =
    subst (λ coding. is_known_coding coding ≡ true) c.requires.coding c.requires.known in
    let within : c.loop-entry.entry < entry_count c.args.bytes.now =
    omega (arith, ap (λ (l : Layout). l.entries) c.requires.layout) in
    piece_refused _ _ _ _ c.requires.sound known within c.loop-entry.invariant c.in-Err.ensures.refused

pub loop-entry-preserved : goal.loop-entry-preserved
loop-entry-preserved c =
    rw c.in_ok-push-in-Ok.ensures.items
    (fields_more _ _ _ _ c.loop-entry.invariant c.in-Ok.ensures.read c.in-Ok.ensures.size)
