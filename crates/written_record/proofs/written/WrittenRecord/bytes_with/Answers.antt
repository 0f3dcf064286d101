use Rattle.std.proofs.Common.{◌∙◌, ap, arith}
use Rattle.std.specs.Prelude.{slice_set}
use Rattle.std.proofs.lemmas.List.{length-set}
use Rattle.iso2709_record.specs.Written.{leader_bytes}
use Rattle.iso2709_record.proofs.Lengths.{fits_parts}
use Rattle.iso2709_record.proofs.Places.{leader_is}
use Rattle.written_record.proofs.Rewritten.{small_field, rewritten_all}
use Rattle.written_record.proofs.written.WrittenRecord.bytes_with.Goals as goal

pub field_len-size-requires : goal.field_len-size-requires
field_len-size-requires c = small_field _ _ _ _ c.requires.within c.requires.valid

pub len_with-len-requires-clause-small : goal.len_with-len-requires-clause-small
len_with-len-requires-clause-small c = (fits_parts _ c.requires.room).0

pub append_directory-requires-clause-small : goal.append_directory-requires-clause-small
append_directory-requires-clause-small c = omega (arith, (fits_parts _ c.requires.room).0)

pub returns : goal.returns
returns c =
    rw (
      c.in_ok-extend_from_slice-3.ensures.items,
      c.in_ok-append_field.ensures.ok,
      c.in_ok-extend_from_slice-2.ensures.items,
      c.in_ok-append_directory.ensures,
      c.in_ok-extend_from_slice.ensures.items,
    )
    (rewritten_all _ _ _ c.args.field.now _ _ _ _ c.requires.within c.in_ok-bytes.ensures.items
    (c.leader_block.ensures
    ∙ leader_is _ (slice_set c.args.self.now.fields c.args.index c.args.field.now) _ _ c.len_with-len.ensures (omega (arith, c.field_count.ensures, length-set c.args.self.now.fields c.args.index c.args.field.now))
    ∙ ap (λ l. leader_bytes l (slice_set c.args.self.now.fields c.args.index c.args.field.now)) c.leader-leader.ensures)
    c.fields_before.ensures c.fields_behind.ensures)
