-- The form by which a field is looked up first, its full form: the first one of its row.
use Rattle.std.specs.Prelude.{ℕ, Bool, false, nat_eq, List, [], ◌∷◌, Option, None, Some, is_some, if◌then◌else◌}
use Rattle.std.specs.Option.{option_map_or}
use Rattle.marc_types.specs.Order.{same_form}
use Rattle.marc_types.specs.declared.form.Form.{Form}
use Rattle.marc_types.specs.declared.key.Class.{Class}
use Rattle.marc_types.specs.declared.key.Place.{Place}
use Rattle.numbering.specs.declared.seat.Seat.{Seat}
use Rattle.entry_record.specs.Authority.{full_form, heading_kind}
use Rattle.catalogue_rules.specs.State.{KeptField}
use Rattle.wait_table.specs.Waits.{Waits}
use Rattle.wait_table.specs.declared.waiting.Waiting.{Waiting}
use Rattle.catalogue_tables.specs.Asked.{first_of}
use Rattle.catalogue_tables.specs.Seam.{KeyLists, told}

-- the form with the number is the first that is asked for
abbrev pub leads_form : ℕ → Option Waiting → Bool
leads_form n None = false
leads_form n (Some waiting) = nat_eq (first_of waiting.forms) n

-- the first number of what the seat waits for is that of this form
abbrev pub leads : ℕ → Waits → Seat → Bool
leads n waits seat = leads_form n (waits.waiting seat)

-- the places that ask for a form first
abbrev pub leading_by : List Form → KeyLists → Waits → Form → Place → Bool
leading_by forms keys waits = told same_form forms keys (λ n seat. leads n waits seat)

-- an unlinked heading field with this full form
abbrev pub leads_at : Form → Class → KeptField → Bool
leads_at form class h =
    if is_some h.tie.key then false else option_map_or (λ kind. same_form form (full_form kind class h.field)) (heading_kind class h.field) false

-- the form is the first of these
abbrev pub is_leading : List Form → Form → Bool
is_leading [] form = false
is_leading (one ∷ forms) form = same_form form one
