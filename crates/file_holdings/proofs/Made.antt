-- What a piece comes to.
use Rattle.std.proofs.Common.{◌≡◌, ℕ, List, None, refl, sym, subst, Result, Ok, Err}
use Rattle.std.specs.Prelude.{OnOk, IfOk}
use Rattle.marc_types.specs.declared.record.Record.{Record}
use Rattle.marc_types.specs.declared.refusal.RecordFault.{RecordFault}
use Rattle.marc_types.specs.declared.refusal.RecordFault.TheVariants as record_fault
use Rattle.reading.specs.Reading.{IsReadAs}
use Rattle.reading.specs.Answers.{IsRefusedPiece}
use Rattle.holdings.specs.Admission.{holding_refusal, IsHoldingOf}
use Rattle.holdings.specs.Refusals.{IsRefusalOf, fault_of_record}
use Rattle.holdings.specs.declared.holding.Holding.{Holding}
use Rattle.holdings.specs.declared.refusal.HoldingFault.{HoldingFault}
use Rattle.holdings.specs.declared.refusal.HoldingFault.TheVariants.{Refused, NoMemory}
use Rattle.file_holdings.specs.Making.{MakesHolding, IsNotMade, Unread, NotTaken}

-- a record that is taken
pub makes_holding : (library bytes : List ℕ) (rec : Record) (h : Holding) → IsReadAs bytes rec.leader rec.fields
    → holding_refusal library rec.leader rec.fields ≡ None → IsHoldingOf library rec h → MakesHolding library bytes h
makes_holding library bytes rec h read taken held = record {
  read = subst (λ (r : Record). IsReadAs bytes r.leader r.fields) (sym held.record_is) read;
  taken = subst (λ (r : Record). holding_refusal library r.leader r.fields ≡ None) (sym held.record_is) taken;
  held = subst (λ (r : Record). IsHoldingOf library r h) (sym held.record_is) held;
}

-- a record that isn't
pub not_taken : (library bytes : List ℕ) (rec : Record) (fault : HoldingFault) → IsReadAs bytes rec.leader rec.fields
    → IsRefusalOf (holding_refusal library rec.leader rec.fields) fault → IsNotMade library bytes fault
not_taken library bytes rec (Refused refusal) read why = NotTaken rec read why
not_taken library bytes rec NoMemory read why = tt

-- a piece that is no record
pub not_read : (library bytes : List ℕ) (fault : RecordFault) → IsRefusedPiece bytes fault → IsNotMade library bytes (fault_of_record fault)
not_read library bytes (record_fault.Refused reason) why = Unread reason refl why
not_read library bytes record_fault.NoMemory why = tt

-- the same of an answer that holds a holding where the record is taken
pub made_if : (library bytes : List ℕ) (rec : Record) (result : Result Holding HoldingFault) → IsReadAs bytes rec.leader rec.fields
    → OnOk result (holding_refusal library rec.leader rec.fields ≡ None) → IfOk result (IsHoldingOf library rec)
    → IfOk result (MakesHolding library bytes)
made_if library bytes rec (Ok h) read taken held = makes_holding library bytes rec h read taken held
made_if library bytes rec (Err fault) read taken held = tt
