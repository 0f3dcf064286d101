use Rattle.std.proofs.Common.{◌≡◌, true, take}
use Rattle.std.specs.List.{list_any}
use Rattle.marc_types.specs.declared.key.Key.{Key}
use Rattle.marc_types.specs.Order.{same_key}
use Rattle.heading_fields.specs.Numbers.{is_naming}
use Rattle.entry_record.specs.Authority.{is_valid_key}
use Rattle.linked_store.proofs.wanted.named_in.Given as goal

abbrev pub invariant-loop-subfield : goal.invariant-loop-subfield
invariant-loop-subfield l =
    (key : Key) → is_valid_key key ≡ true → list_any (same_key key) l.keys.items ≡ list_any (is_naming key) (take l.subfield-index l.subfields)
