-- The holding that a piece of a file makes, and why it makes none. The order is this project's own: a piece is read before its
-- record is looked at.
use Rattle.std.specs.Prelude.{◌≡◌, ℕ, List, None, Some}
use Rattle.marc_types.specs.declared.record.Record.{Record}
use Rattle.marc_types.specs.declared.refusal.Refusal.{Refusal as RecordRefusal}
use Rattle.reading.specs.Reading.{IsReadAs, IsRefusedAs}
use Rattle.holdings.specs.Admission.{holding_refusal, IsHoldingOf}
use Rattle.holdings.specs.declared.holding.Holding.{Holding}
use Rattle.holdings.specs.declared.refusal.HoldingRefusal.{HoldingRefusal}
use Rattle.holdings.specs.declared.refusal.HoldingRefusal.TheVariants.{OfRecord}
use Rattle.holdings.specs.declared.refusal.HoldingFault.{HoldingFault}
use Rattle.holdings.specs.declared.refusal.HoldingFault.TheVariants.{Refused, NoMemory}

-- a piece of a file of this library makes this holding: it is read as the holding's record, and a shelf takes that
pub record MakesHolding (library bytes : List ℕ) (h : Holding) : Type 0 where
  pub read : IsReadAs bytes h.content.rec.leader h.content.rec.fields
  pub taken : holding_refusal library h.content.rec.leader h.content.rec.fields ≡ None
  pub held : IsHoldingOf library h.content.rec h

-- a piece of a file of this library is refused so: it can't be read as a record, or its record is no holding
pub data IsNoHolding (library bytes : List ℕ) (refusal : HoldingRefusal) : Type 0 where
  Unread : (reason : RecordRefusal) → refusal ≡ OfRecord reason → IsRefusedAs bytes reason → IsNoHolding library bytes refusal
  NotTaken : (rec : Record) → IsReadAs bytes rec.leader rec.fields → holding_refusal library rec.leader rec.fields ≡ Some refusal
      → IsNoHolding library bytes refusal

-- the piece is refused so; want of memory says nothing
abbrev pub IsNotMade : List ℕ → List ℕ → HoldingFault → Type 0
IsNotMade library bytes (Refused refusal) = IsNoHolding library bytes refusal
IsNotMade library bytes NoMemory = Unit {0}
