-- The commit of an authority over a valid state: the authorities before and behind it, and what each field becomes. The rules are
-- this project's own.
use Rattle.std.specs.Prelude.{◌≡◌, false, List, None, find}
use Rattle.marc_types.specs.declared.key.Class.{Class}
use Rattle.marc_types.specs.declared.key.Class.TheVariants.{Authority}
use Rattle.marc_types.specs.declared.entry.Entry.{Entry}
use Rattle.marc_types.specs.declared.form.Form.{Form}
use Rattle.entry_record.specs.Authority.{Linkable}
use Rattle.catalogue_rules.specs.State.{KeptField, State, linkable_authorities}
use Rattle.catalogue_rules.specs.Choice.{has_key}
use Rattle.catalogue_rules.specs.Settle.{loosen, settle_unlinked, settle_field}
use Rattle.entry_record.specs.History.{IsAdmitted}
use Rattle.catalogue_rules.specs.Settle.{arrival_of}
use Rattle.catalogue_rules.specs.Valid.{IsTied, IsValid}
use Rattle.linking_laws.specs.Behind.{placed_in}
use Rattle.linking_laws.specs.Waiting.{is_waiting_for, is_touched, forms_touched}
use Rattle.linking_laws.specs.Stages.{Dropping, dropping_by, successor_in, by_stages, field_by_stages}

-- an entry that was admitted comes to a valid state
pub record CanBeCommitted (class : Class) (s : State) (e : Entry) : Type 0 where
  pub valid : IsValid s
  pub admitted : IsAdmitted e
  pub class_is : e.class ≡ class

-- the state with the record in its place, and nothing else changed
abbrev pub placed_by : Class → State → Entry → State
placed_by class s e = placed_in class (arrival_of e) s

-- the linkable authorities behind the commit of an authority
abbrev pub authorities_behind : State → Entry → List Linkable
authorities_behind s e = linkable_authorities (placed_by Authority s e)

-- the forms of the key's authority before and behind the commit
abbrev pub forms_of_commit : State → Entry → List Form
forms_of_commit s e = forms_touched e.key (linkable_authorities s) (authorities_behind s e)

-- a field as a valid state has it: tied, and settled already
pub record IsSound (authorities : List Linkable) (class : Class) (h : KeptField) : Type 0 where
  pub tied : IsTied authorities class h
  pub settled : settle_field authorities class h ≡ h

-- what a pass over the whole catalogue makes of a field that isn't the committed record's
abbrev pub field_behind : State → Entry → Class → KeptField → KeptField
field_behind s e class h =
    let now = authorities_behind s e in settle_field now class (loosen now e.key (successor_in (arrival_of e)) class h)

-- what the stages make of it
abbrev pub field_staged : State → Entry → Class → KeptField → KeptField
field_staged s e class h = field_by_stages (linkable_authorities s) (authorities_behind s e) e.key (successor_in (arrival_of e)) class h

-- the commit of an authority, stage by stage
abbrev pub state_staged : State → Entry → State
state_staged s e = by_stages (arrival_of e) (linkable_authorities s) (authorities_behind s e) (placed_by Authority s e)

-- an unlinked field that doesn't wait for the commit has the same choice before and behind it
abbrev pub IsChosenAlike : State → Entry → Class → KeptField → Type 0
IsChosenAlike s e class h =
    h.tie.key ≡ None → is_waiting_for (forms_of_commit s e) e.key class h ≡ false →
    settle_unlinked (linkable_authorities s) class h ≡ settle_unlinked (authorities_behind s e) class h

-- a field of which nothing is touched stays
abbrev pub StaysUntouched : State → Entry → Class → KeptField → Type 0
StaysUntouched s e class h = is_touched (forms_of_commit s e) e.key class h ≡ false → field_behind s e class h ≡ h

-- which links to the key end with the commit
abbrev pub dropping_of : State → Entry → Dropping
dropping_of s e = dropping_by (find (has_key e.key) (linkable_authorities s)) (find (has_key e.key) (authorities_behind s e))
