-- An output beside a log that is open.
use Rattle.std.proofs.Common.{◌≡◌, ◌≢◌, ◌∙◌, ℕ, true, List, ◌∷◌, [], sym, ap, Some, None, Result, arith}
use Rattle.outside.specs.Fault.{HasWriteCause}
use Rattle.outside.specs.Room.{RoomView, AsLog, SameBut}
use Rattle.outside.specs.declared.fault.WriteFault.{WriteFault}
use Rattle.outside.proofs.Counts.{rose_later}
use Rattle.output_files.specs.Outputs.{IsOutput, IsOutputLeft}
use Rattle.output_files.proofs.Parts.{left_since, left_until}

-- a log that is open, and a name that isn't
other_name : (room : RoomView) (journal out : List ℕ) → room.open_as journal ≡ Some AsLog → room.open_as out ≡ None → out ≢ journal
other_name room journal out opened free e = let same = ap room.open_as e in cc

-- the log's closing leaves the output
pub left_closed : (old written new : RoomView) (journal out due : List ℕ) → old.open_as journal ≡ Some AsLog → old.open_as out ≡ None
    → SameBut written new (journal ∷ []) → IsOutputLeft old written out due → IsOutputLeft old new out due
left_closed old written new journal out due opened free apart left =
    left_until old written new out due (journal ∷ []) (other_name old journal out opened free, tt) apart left

-- the log's closing leaves an output that was closed before
pub output_closed : {T : Type 0} → (old written new : RoomView) (journal out due : List ℕ) (result : Result T WriteFault) → old.open_as journal ≡ Some AsLog
    → old.open_as out ≡ None → SameBut written new (journal ∷ []) → written.open_as out ≡ None
    → (old.tells ≡ true → IsOutputLeft old written out due) → HasWriteCause (old.out_faults out) (written.out_faults out) result
    → IsOutput old new out due result
output_closed old written new journal out due result opened free apart closed left cause =
    let later = apart.outs out in
    record {
      closed = apart.open_names out (other_name old journal out opened free, tt) ∙ closed;
      left = λ told. left_closed old written new journal out due opened free apart (left told);
      cause = record {
        later = omega (arith, cause.later, later);
        failed = λ is. rose_later (old.out_faults out) (written.out_faults out) (new.out_faults out) (cause.failed is) later;
      };
    }

-- the log's opening leaves the output
pub left_opened : (old opened new : RoomView) (journal out due : List ℕ) → journal ≢ out → SameBut old opened (journal ∷ [])
    → IsOutputLeft opened new out due → IsOutputLeft old new out due
left_opened old opened new journal out due differ apart left = left_since old opened new out due (journal ∷ []) ((λ e. differ (sym e)), tt) apart left
