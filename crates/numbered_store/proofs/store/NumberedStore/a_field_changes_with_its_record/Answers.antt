use Rattle.std.proofs.Common.{subst}
use Rattle.numbered_store.proofs.Changed.{FieldsChangeAtSeats, changes_in}
use Rattle.numbered_store.proofs.store.NumberedStore.a_field_changes_with_its_record.Goals as goal

pub returns : goal.returns
returns c =
    subst FieldsChangeAtSeats c.self.view_is
    (changes_in c.self.inside.authorities c.self.inside.bibliographic c.a_field_changes_with_its_record.ensures c.a_field_changes_with_its_record-2.ensures)
