-- The fields of a record, one after the other.
use Rattle.std.proofs.Common.{◌≡◌, ℕ, ◌+◌, List, [], ◌∷◌, ◌++◌, sym, arith}
use Rattle.std.proofs.lemmas.List.FromFn.{map-range_with_len_more}
use Rattle.marc_types.specs.declared.field.Tag.{Tag}
use Rattle.iso2709_record.specs.declared.raw.RawField.{RawField}
use Rattle.iso2709_record.specs.Layout.{tag_at, data_at}
use Rattle.iso2709_record.specs.Raw.{raw_field, raw_fields}

-- one more field
pub raw_fields_more : (bytes : List ℕ) (entry : ℕ) (fields : List RawField) (tag : Tag) (area : List ℕ)
    → fields ≡ raw_fields bytes entry → tag ≡ tag_at bytes entry → area ≡ data_at bytes entry
    → fields ++ record { tag = tag; area = area } ∷ [] ≡ raw_fields bytes (entry + 1)
raw_fields_more bytes entry fields tag area before here there =
    let more = map-range_with_len_more (raw_field bytes) 0 entry entry (omega arith) in
    rw (before, here, there) (sym more)
