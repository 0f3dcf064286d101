-- What the `$0` of a heading tells. Source: MARC 21 ($0).
use Rattle.std.specs.Prelude.{Bool, false, ◌&&◌, not, is_none}
use Rattle.std.specs.List.{list_any}
use Rattle.std.specs.Option.{option_map_or}
use Rattle.marc_types.specs.Fields.{subfields_of}
use Rattle.marc_types.specs.declared.field.Field.{Field}
use Rattle.marc_types.specs.declared.field.Subfield.{Subfield}
use Rattle.marc_types.specs.declared.key.Class.TheVariants.{Authority}
use Rattle.marc_types.specs.declared.key.Key.{Key}
use Rattle.catalogue_rules.specs.State.{State}
use Rattle.catalogue_rules.specs.Receipt.{kept_under}
use Rattle.catalogue_tables.specs.Choosing.{key_named}
use Rattle.heading_worklist.specs.Texts.{is_identifier}
use Rattle.heading_worklist.specs.declared.identifying.Naming.{Naming}
use Rattle.heading_worklist.specs.declared.identifying.Naming.TheVariants.{Otherwise, Nobody, Somebody}

-- no authority record stands under the key
abbrev pub is_absent : State → Key → Bool
is_absent s key = is_none (kept_under Authority key s)

-- one stands there
abbrev pub is_there : State → Key → Bool
is_there s key = not (is_absent s key)

-- A `$0` that is no key's text, as a URI; one that names a key under which no authority record stands; one that names a key under which
-- one stands.
abbrev pub names_so : State → Naming → Subfield → Bool
names_so s Otherwise sub = is_identifier sub && is_none (key_named sub)
names_so s Nobody sub = option_map_or (is_absent s) (key_named sub) false
names_so s Somebody sub = option_map_or (is_there s) (key_named sub) false

-- the field has such a `$0`
abbrev pub has_naming : State → Naming → Field → Bool
has_naming s naming f = list_any (names_so s naming) (subfields_of f)
