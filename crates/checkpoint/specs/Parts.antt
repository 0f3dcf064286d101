-- Which payloads a log of checkpoints has: those that are written of a part. The rules are this project's own.
use Rattle.std.specs.Prelude.{◌≡◌, ℕ, ◌^◌, ◌<◌, ◌≤◌, true, List, length, map, All, IfSome}
use Rattle.marc_types.specs.declared.key.Key.{Key}
use Rattle.marc_types.specs.declared.entry.Tie.{Tie}
use Rattle.marc_types.specs.declared.record.Record.{Record}
use Rattle.iso2709_record.specs.Written.{record_bytes, fits}
use Rattle.reading.specs.Reading.{IsReadAs}
use Rattle.entry_record.specs.Authority.{is_valid_key}
use Rattle.entry_record.specs.Identity.{control_number_of}
use Rattle.kept_rows.specs.declared.row.KeptRow.{KeptRow}
use Rattle.checkpoint.specs.Format.{part_bytes}
use Rattle.checkpoint.specs.declared.part.Part.{Part}
use Rattle.checkpoint.specs.declared.part.Part.TheVariants.{Begin, Rows, End}

-- code and number obey the rules of keys
abbrev pub IsProperKey : Key → Type 0
IsProperKey key = is_valid_key key ≡ true

-- the keys that a tie names are proper
pub record IsProperTie (t : Tie) : Type 0 where
  pub linked : IfSome t.key IsProperKey
  pub awaited : IfSome t.awaits IsProperKey

-- the record fits its written form, which is read as that record (as of each record whose texts are UTF-8)
pub record IsWritable (rec : Record) : Type 0 where
  pub fitting : fits rec.fields ≡ true
  pub reads : IsReadAs (record_bytes rec.leader rec.fields) rec.leader rec.fields

-- a kept record that can stand in a payload: its key is proper and has the record's own number, and so are the keys of its ties
pub record IsKeptRow (r : KeptRow) : Type 0 where
  pub key : IsProperKey r.key
  pub number : r.key.number ≡ control_number_of r.rec.fields
  pub writable : IsWritable r.rec
  pub ties : All IsProperTie r.ties

-- a part that can be a payload: kept records are one or more, and numbers have eight bytes
abbrev pub IsPart : Part → Type 0
IsPart Begin = Unit {0}
IsPart (Rows rows) = (1 ≤ length rows) × All IsKeptRow rows
IsPart (End entries count) = (entries < 2 ^ 64) × (count < 2 ^ 64)

-- the payload is this part
pub record IsPartOf (payload : List ℕ) (part : Part) : Type 0 where
  pub written : part_bytes part ≡ payload
  pub can_be : IsPart part

-- payloads are these parts, one each
pub record ArePartsOf (payloads : List (List ℕ)) (parts : List Part) : Type 0 where
  pub written : map part_bytes parts ≡ payloads
  pub can_be : All IsPart parts
