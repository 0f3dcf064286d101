-- What a commit touches, and how much each of it weighs: the bound on a commit's visits to kept records. The rules are this
-- project's own.
use Rattle.std.specs.Prelude.{ℕ, ◌+◌, ◌*◌, ◌==◌, Bool, ◌&&◌, ◌||◌, List, filter, length, map, Option, is_some, if◌then◌else◌}
use Rattle.std.specs.List.{sum_by}
use Rattle.std.specs.Option.{option_map_or}
use Rattle.marc_types.specs.declared.key.Place.{Place}
use Rattle.catalogue_rules.specs.Store.{field_under}
use Rattle.marc_types.specs.declared.field.Subfield.{Subfield}
use Rattle.marc_types.specs.declared.key.Class.{Class}
use Rattle.marc_types.specs.declared.key.Class.TheVariants.{Authority, Bibliographic}
use Rattle.marc_types.specs.declared.key.Key.{Key}
use Rattle.marc_types.specs.declared.form.Form.{Form}
use Rattle.marc_types.specs.Fields.{subfields_of}
use Rattle.entry_record.specs.Identity.{is_deletion}
use Rattle.entry_record.specs.Authority.{Linkable, is_heading_field}
use Rattle.catalogue_rules.specs.State.{KeptField, Row, State, new_field}
use Rattle.catalogue_rules.specs.Settle.{Arrival, is_linked_to}
use Rattle.linking_laws.specs.Waiting.{names_key, is_waiting_for, forms_touched}
use Rattle.linking_laws.specs.Stages.{successor_in}

-- 1 where it holds, else 0
abbrev pub one_if : Bool → ℕ
one_if b = if b then 1 else 0

-- how many `$0` a field has
abbrev pub count_numbers : KeptField → ℕ
count_numbers h = length (filter (λ (s : Subfield). s.code == 48) (subfields_of h.field))

-- one, and one for each `$0` and for the key that it awaits
unfoldable pub weight : KeptField → ℕ
weight h = 1 + count_numbers h + one_if (is_some h.tie.awaits)

-- the same of a field linked to the committed key: where the entry has a successor, it counts as awaiting
unfoldable pub linked_weight : Option Key → KeptField → ℕ
linked_weight successor h = 1 + count_numbers h + one_if (is_some h.tie.awaits || is_some successor)

-- What a field adds to the bound: twice where it is linked to the key, or where it names the key and the entry has a
-- successor; once where it waits for the key or for one of the forms otherwise. The one beside the weight is for its record.
unfoldable pub touched_weight : List Form → Key → Option Key → Class → KeptField → ℕ
touched_weight forms key successor class h =
    if is_linked_to key h then 2 * (1 + linked_weight successor h)
    else if is_waiting_for forms key class h
    then (if is_some successor && names_key key h then 2 * (1 + weight h) else 1 + weight h)
    else 0

-- the sum over a row's fields
abbrev pub sum_row : (KeptField → ℕ) → Row → ℕ
sum_row f row = sum_by f row.1.fields

-- the sum over the fields of a state
abbrev pub sum_fields : (Class → KeptField → ℕ) → State → ℕ
sum_fields f s = sum_by (sum_row (f Authority)) s.authorities + sum_by (sum_row (f Bibliographic)) s.bibliographic

-- the number of the field at a place, or none
abbrev pub number_at : (Class → KeptField → ℕ) → State → Place → ℕ
number_at f s p = option_map_or (f p.class) (field_under p s) 0

-- the weight of a field that comes in, where it is a heading field
abbrev pub own_weight : Class → KeptField → ℕ
own_weight class h = if is_heading_field class h.field then weight h else 0

-- the weights of the entry's own heading fields; a deletion has none
unfoldable pub arrival_weight : Arrival → ℕ
arrival_weight a = if is_deletion a.leader then 0 else sum_by (own_weight a.class) (map new_field a.fields)

-- what an authority's commit touches in the state before it
abbrev pub state_weight : Arrival → List Linkable → List Linkable → State → ℕ
state_weight a before now s = sum_fields (touched_weight (forms_touched a.key before now) a.key (successor_in a)) s
