-- What the second reading of a file leaves in the outputs of its shares.
use Rattle.std.specs.Prelude.{◌≡◌, ℕ, ◌≤◌, true, List, Option, Some, Result, IfErr, OnOk}
use Rattle.marc_types.specs.declared.key.Key.{Key}
use Rattle.outside.specs.Fault.{Rose}
use Rattle.marc_stream.specs.Pieces.{items}
use Rattle.marc_stream.specs.Stream.{Stream}
use Rattle.split_command.specs.Outputs.{HasSinkFault}
use Rattle.split_command.specs.Reading.{IsDealtWhole}
use Rattle.split_command.specs.declared.fault.SplitFault.{SplitFault}
use Rattle.split_command.specs.declared.fault.SplitFault.TheVariants.{Input, Output, Memory}

-- why a reading stopped: a fault of the source or of an output was counted, or memory ran out
abbrev pub HasDealingCause : {K : Type 0} → (K → ℕ) → ℕ → ℕ → List K → List K → SplitFault → Type 0
HasDealingCause faults before now outs outs_now Input = Rose before now
HasDealingCause faults before now outs outs_now Output = HasSinkFault faults outs outs_now
HasDealingCause faults before now outs outs_now Memory = Unit {0}

module _ {K : Type 0} (written : K → Option (List ℕ)) (faults : K → ℕ) where
  -- the items of a stream were dealt, all of them, or up to a fault
  pub record DealsStream (library : List ℕ) (bounds : List Key) (first : ℕ) (old new : Stream) (outs outs_now : List K) (result : Result (Unit {0}) SplitFault) : Type 0 where
    pub dealt : OnOk result (old.tells ≡ true → IsDealtWhole written faults library bounds first old.coming outs outs_now)
    pub later : old.faults ≤ new.faults
    pub cause : IfErr result (HasDealingCause faults old.faults new.faults outs outs_now)

  -- the same of a source of these bytes
  pub record DealsSource (library : List ℕ) (bounds : List Key) (first : ℕ) (left : Option (List ℕ)) (before now : ℕ) (outs outs_now : List K)
      (result : Result (Unit {0}) SplitFault) : Type 0 where
    pub dealt : OnOk result ((bytes : List ℕ) → left ≡ Some bytes → IsDealtWhole written faults library bounds first (items bytes) outs outs_now)
    pub later : before ≤ now
    pub cause : IfErr result (HasDealingCause faults before now outs outs_now)
