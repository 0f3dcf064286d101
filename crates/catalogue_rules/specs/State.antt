-- The state of a catalogue: two lists of records in key order. The rules are this project's own.
use Rattle.std.specs.Prelude.{false, List, [], ◌∷◌, map, Option, None}
use Rattle.std.specs.List.{filter_map}
use Rattle.marc_types.specs.declared.field.Leader.{Leader}
use Rattle.marc_types.specs.declared.field.Field.{Field}
use Rattle.marc_types.specs.declared.key.Class.{Class}
use Rattle.marc_types.specs.declared.key.Class.TheVariants.{Authority, Bibliographic}
use Rattle.marc_types.specs.declared.key.Key.{Key}
use Rattle.marc_types.specs.declared.entry.Tie.{Tie}
use Rattle.entry_record.specs.Authority.{Linkable, linkable_of}

-- a field with its tie: the key that it is linked to, whether it is whole, and the key that it awaits
pub record KeptField : Type 0 where
  pub field : Field
  pub tie : Tie

-- a kept record: its leader, and its fields, each with its tie
pub record KeptRecord : Type 0 where
  pub leader : Leader
  pub fields : List KeptField

-- a key and the record under it
abbrev pub Row : Type 0
Row = Key × KeptRecord

-- a field with its tie
abbrev pub kept_field : Field → Tie → KeptField
kept_field field tie = record { field = field; tie = tie }

-- fields, each with the tie beside it
abbrev pub tied : List Field → List Tie → List KeptField
tied [] ties = []
tied (field ∷ fields) [] = []
tied (field ∷ fields) (tie ∷ ties) = kept_field field tie ∷ tied fields ties

-- the rows of each class, in key order
pub record State : Type 0 where
  pub authorities : List Row
  pub bibliographic : List Row

-- the state behind no entry
abbrev pub empty_state : State
empty_state = record { authorities = []; bibliographic = [] }

-- the rows of a class, in key order
abbrev pub rows_of : Class → State → List Row
rows_of Authority s = s.authorities
rows_of Bibliographic s = s.bibliographic

-- the fields of a kept record without their ties
abbrev pub fields_of : KeptRecord → List Field
fields_of r = map (λ h. h.field) r.fields

-- a record comes in with no link, no field whole, and nothing awaited
abbrev pub new_tie : Tie
new_tie = record { key = None; whole = false; awaits = None }

-- a field as it comes in: not linked, not whole, awaiting nothing
abbrev pub new_field : Field → KeptField
new_field f = record { field = f; tie = new_tie }

-- a record as it comes in
abbrev pub new_record : Leader → List Field → KeptRecord
new_record l fields = record { leader = l; fields = map new_field fields }

-- the authority that a row is, where it can be linked to
abbrev pub row_linkable : Row → Option Linkable
row_linkable row = linkable_of row.0 (fields_of row.1)

-- the linkable authorities, in key order
abbrev pub linkable_authorities : State → List Linkable
linkable_authorities s = filter_map row_linkable s.authorities

-- the same change of each field of a record, of a row, of a state
abbrev pub each_in_record : (KeptField → KeptField) → KeptRecord → KeptRecord
each_in_record change r = record { leader = r.leader; fields = map change r.fields }

-- a change of each field of a row
abbrev pub each_in_row : (KeptField → KeptField) → Row → Row
each_in_row change row = (row.0, each_in_record change row.1)

-- a change of each field of each record, by its class
unfoldable pub each_field : (Class → KeptField → KeptField) → State → State
each_field change s = record {
  authorities = map (each_in_row (change Authority)) s.authorities;
  bibliographic = map (each_in_row (change Bibliographic)) s.bibliographic;
}
