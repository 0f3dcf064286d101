use Rattle.std.proofs.Common.{refl, arith}
use Rattle.written_record.proofs.Rewritten.{fields_length-parts, directory_made}
use Rattle.written_record.proofs.written.WrittenRecord.append_directory.Goals as goal

pub overflow_add-next : goal.overflow_add-next
overflow_add-next c =
    omega (arith, c.start_at-start.ensures.value, c.requires.size, c.requires.small, fields_length-parts c.args.self.now.fields c.args.index c.args.field.now c.requires.within)

pub append_entries-requires-clause-small : goal.append_entries-requires-clause-small
append_entries-requires-clause-small c =
    omega (arith, c.start_at-start.ensures.value, c.requires.size, c.requires.small, fields_length-parts c.args.self.now.fields c.args.index c.args.field.now c.requires.within)

pub returns : goal.returns
returns c =
    rw (c.in_ok-append_entries.ensures, c.in_ok-extend_from_slice-2.ensures.items, c.in_ok-extend_from_slice.ensures.items)
    (directory_made _ _ _ _ c.args.field.now _ _ _ _ _ c.requires.within c.tag.ensures c.requires.size c.start_at-start.ensures.value
    c.entries_before.ensures c.entry_block.ensures refl)
