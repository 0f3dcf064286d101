use Rattle.std.proofs.Common.{◌≡◌, take}
use Rattle.std.specs.List.{IsDistinct, list_any}
use Rattle.marc_types.specs.declared.key.Key.{Key}
use Rattle.marc_types.specs.Order.{same_key}
use Rattle.form_index.specs.Index.{IsInOrder}
use Rattle.catalogue_tables.specs.Sharing.{is_headed_by_any, shown_keys}
use Rattle.catalogue_tables.proofs.tables.CatalogueTables.headed_by_any.Given as goal

abbrev pub invariant-loop-form : goal.invariant-loop-form
invariant-loop-form l =
    IsDistinct same_key l.keys → IsInOrder l.keys l.self.index
    → (k : Key) → list_any (same_key k) (shown_keys l.found.keys) ≡ is_headed_by_any l.keys l.self.index (take l.form-index l.forms) k
