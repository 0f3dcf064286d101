-- The entry that a piece of a file makes, and why it makes none. The order is this project's own: a piece is read before its record is looked at.
use Rattle.std.specs.Prelude.{◌≡◌, ℕ, List, None, Some}
use Rattle.marc_types.specs.declared.entry.Entry.{Entry}
use Rattle.marc_types.specs.declared.record.Record.{Record}
use Rattle.marc_types.specs.declared.refusal.Refusal.{Refusal}
use Rattle.entry_record.specs.Admission.{admission_refusal}
use Rattle.entry_record.specs.Prepared.{new_entry}
use Rattle.reading.specs.Reading.{IsReadAs, IsRefusedAs}

-- a piece of a file of this library makes this entry, as the piece of that ordinal which the loader brings: it is read as
-- the entry's record, and a catalogue takes that
pub record MakesEntry (library bytes : List ℕ) (loader ordinal : ℕ) (e : Entry) : Type 0 where
  pub read : IsReadAs bytes e.rec.leader e.rec.fields
  pub taken : admission_refusal library e.rec.leader e.rec.fields ≡ None
  pub is_new : e ≡ new_entry library loader ordinal e.rec

-- a piece of a file of this library is refused so: it can't be read as a record, or a catalogue doesn't take its record
pub data IsRefusedInFile (library bytes : List ℕ) (refusal : Refusal) : Type 0 where
  Unread : IsRefusedAs bytes refusal → IsRefusedInFile library bytes refusal
  NotTaken : (rec : Record) → IsReadAs bytes rec.leader rec.fields → admission_refusal library rec.leader rec.fields ≡ Some refusal
      → IsRefusedInFile library bytes refusal
