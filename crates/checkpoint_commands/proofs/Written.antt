-- The outputs of a state, of which the second is written where it is asked for, once the first is whole.
use Rattle.std.proofs.Common.{◌≡◌, ◌≢◌, ◌∙◌, ℕ, ◌≤◌, List, [], ◌∷◌, Option, Some, None, refl, subst}
use Rattle.outside.specs.Fault.{Rose}
use Rattle.outside.specs.Room.{RoomView, IsNoneOf, SameBut}
use Rattle.outside.proofs.Counts.{rose_later, rose_since}
use Rattle.outside.proofs.Rooms.{same_but_then, same_but_first, same_but_more}
use Rattle.catalogue_rules.specs.State.{State}
use Rattle.catalogue_rules.specs.Output.{all_keys, export_of, report_of}
use Rattle.console_lines.specs.declared.end.Unwritten.{Unwritten}
use Rattle.output_files.specs.Outputs.{AreStopped, AtFirst, AtSecond, IsOutputLeft}
use Rattle.output_files.proofs.Parts.{left_since, left_until}
use Rattle.checkpoint_commands.specs.Exporting.{outputs_of, AreOutputsOf, AreUnwrittenOf, AtOut, AtReport}
use Rattle.checkpoint_commands.proofs.Over.{none_of_one}

-- a name that is none of the outputs' isn't OUT, and isn't REPORT
pub first_of : (name out : List ℕ) (report : Option (List ℕ)) → IsNoneOf name (outputs_of out report) → name ≢ out
first_of name out None other = other.0
first_of name out (Some report) other = other.0

pub second_of : (name out asked : List ℕ) (report : Option (List ℕ)) → report ≡ Some asked → IsNoneOf name (outputs_of out report) → name ≢ asked
second_of name out asked report is other = (subst (λ r. IsNoneOf name (outputs_of out r)) is other).1.0

-- an output seen from before a step and behind one that touch another name alone
pub left_over : (name out : List ℕ) → name ≢ out → (old opened mid new : RoomView) → SameBut old opened (name ∷ []) → SameBut mid new (name ∷ []) → (due : List ℕ)
    → IsOutputLeft opened mid out due → IsOutputLeft old new out due
left_over name out differ old opened mid new first last due left =
    left_since old opened new out due (name ∷ []) (none_of_one differ) first (left_until opened mid new out due (name ∷ []) (none_of_one differ) last left)

pub rose_over : (old opened mid new : ℕ) → old ≤ opened → Rose opened mid → mid ≤ new → Rose old new
rose_over old opened mid new first rose last = rose_later old mid new (rose_since old opened mid first rose) last

-- the outputs behind a step that touches another name alone
pub outputs_since : (state : State) (name out : List ℕ) (report : Option (List ℕ)) (mid new : RoomView) → IsNoneOf name (outputs_of out report)
    → SameBut mid new (name ∷ []) → AreOutputsOf state out report mid → AreOutputsOf state out report new
outputs_since state name out None mid new other last are =
    record { export = last.files out (none_of_one other.0) ∙ are.export; report_is = tt }
outputs_since state name out (Some report) mid new other last are = record {
  export = last.files out (none_of_one other.0) ∙ are.export;
  report_is = last.files report (none_of_one other.1.0) ∙ are.report_is;
}

-- both were to be written one after the other, and one couldn't be
pub both_stopped : (state : State) (out report due due_report : List ℕ) (old new : RoomView) (which : Unwritten) → due ≡ export_of all_keys state
    → due_report ≡ report_of state → AreStopped (out ∷ []) out report due due_report old new which → AreUnwrittenOf (out ∷ []) state out (Some report) old new which
both_stopped state out report due due_report old new which is is_report stopped =
    by (subst (λ d. AreStopped (out ∷ []) out report d (report_of state) old new which) is (subst (λ d. AreStopped (out ∷ []) out report due d old new which) is_report stopped))
  where
    by : AreStopped (out ∷ []) out report (export_of all_keys state) (report_of state) old new which → AreUnwrittenOf (out ∷ []) state out (Some report) old new which
    by (AtFirst at rose left apart) = AtOut at rose left apart
    by (AtSecond at rose whole left) = AtReport report refl at rose whole left

-- what wasn't written, seen from before a step that touches another name alone
pub unwritten_since : (state : State) (name out : List ℕ) (report : Option (List ℕ)) (old read new : RoomView) (which : Unwritten)
    → IsNoneOf name (outputs_of out report) → SameBut old read (name ∷ []) → AreUnwrittenOf (out ∷ []) state out report read new which
    → AreUnwrittenOf (name ∷ out ∷ []) state out report old new which
unwritten_since state name out report old read new which other first (AtOut is rose left apart) =
    AtOut is (rose_since (old.out_faults out) (read.out_faults out) (new.out_faults out) (first.outs out) rose)
    (λ tells. left_since old read new out (export_of all_keys state) (name ∷ []) (none_of_one (first_of name out report other)) first (left (first.tells ∙ tells)))
    (same_but_then old read new (name ∷ out ∷ []) (same_but_first old read name (out ∷ []) first)
    (same_but_more read new (out ∷ []) (name ∷ out ∷ []) (λ n others. others.1) apart))
unwritten_since state name out report old read new which other first (AtReport asked is_asked is rose whole left) =
    AtReport asked is_asked is (rose_since (old.out_faults asked) (read.out_faults asked) (new.out_faults asked) (first.outs asked) rose)
    (λ tells. whole (first.tells ∙ tells))
    (λ tells. left_since old read new asked (report_of state) (name ∷ []) (none_of_one (second_of name out asked report is_asked other)) first
    (left (first.tells ∙ tells)))
