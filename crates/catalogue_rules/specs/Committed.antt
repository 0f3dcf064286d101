-- What was committed of a class, and which of its fields linking leaves alone. The rules are this project's own.
use Rattle.std.specs.Prelude.{Bool, is_none, List, [], filter, fold, if◌then◌else◌}
use Rattle.std.specs.BTreeMap.{insert_entry}
use Rattle.std.specs.Map.{remove_entry}
use Rattle.marc_types.specs.Order.{key_cmp, same_key}
use Rattle.marc_types.specs.declared.field.Field.{Field}
use Rattle.marc_types.specs.declared.key.Class.{Class}
use Rattle.marc_types.specs.declared.key.Key.{Key}
use Rattle.heading_fields.specs.Tables.{kind_of}
use Rattle.entry_record.specs.Identity.{is_deletion}
use Rattle.catalogue_rules.specs.State.{Row, fields_of}
use Rattle.catalogue_rules.specs.Receipt.{same_class}
use Rattle.catalogue_rules.specs.Settle.{Arrival}

-- a key, and the fields that were committed under it
abbrev pub Committed : Type 0
Committed = Key × List Field

-- a record comes into its key's place, a deletion takes away what stands there; no link is made
abbrev pub take_in : Arrival → List Committed → List Committed
take_in a rows = if is_deletion a.leader then remove_entry (same_key a.key) rows else insert_entry key_cmp rows a.key a.fields

-- the same of one class alone
abbrev pub take_in_class : Class → List Committed → Arrival → List Committed
take_in_class class rows a = if same_class a.class class then take_in a rows else rows

-- the records of a class that a history leaves, as they were committed, in key order
unfoldable pub committed_after : Class → List Arrival → List Committed
committed_after class history = fold (take_in_class class) [] history

-- a field that is no heading, by its tag and second indicator, in a record of the class
abbrev pub is_plain : Class → Field → Bool
is_plain class f = is_none (kind_of class f)

-- the fields that are no headings, in their order
abbrev pub plain_fields : Class → List Field → List Field
plain_fields class fields = filter (is_plain class) fields

-- the key of a record, and its fields that are no headings
abbrev pub plain_of_committed : Class → Committed → Committed
plain_of_committed class row = (row.0, plain_fields class row.1)

-- the same of a kept record
abbrev pub plain_of_kept : Class → Row → Committed
plain_of_kept class row = plain_of_committed class (row.0, fields_of row.1)
