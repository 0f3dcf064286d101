use Rattle.std.proofs.Common.{subst}
use Rattle.numbered_store.proofs.Changed.{FieldsChange}
use Rattle.numbered_store.proofs.Shelving.{field_changed}
use Rattle.numbered_store.proofs.shelf.Shelf.a_field_changes_with_its_record.Goals as goal

pub returns : goal.returns
returns c = subst FieldsChange c.self.view_is (field_changed c.self.inside.keys c.self.inside.slots.items c.self.invariant.0)
