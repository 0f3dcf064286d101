-- A commit, part by part: the record comes into its place, and then each record becomes what it is behind the commit.
use Rattle.std.specs.Prelude.{List, map, Option, Some, None}
use Rattle.marc_types.specs.declared.key.Class.{Class}
use Rattle.marc_types.specs.declared.key.Class.TheVariants.{Authority, Bibliographic}
use Rattle.marc_types.specs.declared.key.Key.{Key}
use Rattle.entry_record.specs.Authority.{Linkable, successor_of}
use Rattle.catalogue_rules.specs.State.{KeptField, KeptRecord, Row, State, linkable_authorities, each_in_record}
use Rattle.catalogue_rules.specs.Settle.{Arrival, place, loosen, settle_field}

-- the record in its place, in its class
abbrev pub placed_in : Class → Arrival → State → State
placed_in Authority a s = record { authorities = place a s.authorities; bibliographic = s.bibliographic }
placed_in Bibliographic a s = record { authorities = s.authorities; bibliographic = place a s.bibliographic }

-- the record is in its place, and nothing else has changed
abbrev pub placed : Arrival → State → State
placed a s = placed_in a.class a s

-- the authorities that fields can be linked to behind the commit
abbrev pub linkable_behind : Arrival → State → List Linkable
linkable_behind a s = linkable_authorities (placed a s)

-- the key whose links may end, and its successor; none for a bibliographic record
abbrev pub ended_in : Class → Arrival → Option (Key × Option Key)
ended_in Authority a = Some (a.key, successor_of a.leader a.key a.fields)
ended_in Bibliographic a = None

-- the key whose links may end, and its successor; they end only where an authority is committed
abbrev pub ended_by : Arrival → Option (Key × Option Key)
ended_by a = ended_in a.class a

-- a field behind the ending of links
abbrev pub loosened_by : List Linkable → Option (Key × Option Key) → Class → KeptField → KeptField
loosened_by authorities None class h = h
loosened_by authorities (Some (key, successor)) class h = loosen authorities key successor class h

-- a record behind a commit: links that can't stay are ended, and then each field is settled
abbrev pub record_behind : List Linkable → Option (Key × Option Key) → Class → KeptRecord → KeptRecord
record_behind authorities ended class r =
    each_in_record (settle_field authorities class) (each_in_record (loosened_by authorities ended class) r)

-- the row behind a commit's first steps
abbrev pub row_behind : List Linkable → Option (Key × Option Key) → Class → Row → Row
row_behind authorities ended class row = (row.0, record_behind authorities ended class row.1)

-- the rows behind a commit's first steps
abbrev pub rows_behind : List Linkable → Option (Key × Option Key) → Class → List Row → List Row
rows_behind authorities ended class rows = map (row_behind authorities ended class) rows

-- each record of a state behind a commit
abbrev pub state_behind : List Linkable → Option (Key × Option Key) → State → State
state_behind authorities ended s = record {
  authorities = rows_behind authorities ended Authority s.authorities;
  bibliographic = rows_behind authorities ended Bibliographic s.bibliographic;
}
