-- A record that a catalogue doesn't take.
use Rattle.std.proofs.Common.{ℕ, List}
use Rattle.marc_types.specs.declared.record.Record.{Record}
use Rattle.marc_types.specs.declared.refusal.RecordFault.{RecordFault}
use Rattle.marc_types.specs.declared.refusal.RecordFault.TheVariants.{Refused, NoMemory}
use Rattle.entry_record.specs.Admission.{admission_refusal}
use Rattle.entry_record.specs.Answers.{IsRefusalOf}
use Rattle.reading.specs.Reading.{IsReadAs}
use Rattle.reading.specs.Preparing.{NotTaken}
use Rattle.reading.specs.Answers.{IsNotPrepared}

pub not_taken : (library bytes : List ℕ) (rec : Record) (fault : RecordFault) → IsReadAs bytes rec.leader rec.fields
    → IsRefusalOf (admission_refusal library rec.leader rec.fields) fault → IsNotPrepared library bytes fault
not_taken library bytes rec (Refused refusal) read why = NotTaken rec read why
not_taken library bytes rec NoMemory read why = tt
