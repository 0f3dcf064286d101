-- What an opening leaves of a log.
use Rattle.std.proofs.Common.{◌≡◌, inl, inr, ⊎_elim, ℕ, List, sym, ap, subst}
use Rattle.std.proofs.Math.Logic.{∥∥₁_map}
use Rattle.outside.specs.Disk.{DiskView}
use Rattle.commit_journal.specs.declared.frame.Frame.{Frame}
use Rattle.commit_journal.specs.declared.fault.JournalFault.{JournalFault}
use Rattle.commit_journal.specs.Journal.{IsRecovered, HasOpenCause, LeavesContent, LeavesLog}
use Rattle.commit_journal.proofs.Logs.{leaves_self}
use Rattle.durable_catalogue.specs.declared.fault.OpenFault.TheVariants.{DeviceFault}
use Rattle.durable_catalogue.specs.Faults.{open_fault}
use Rattle.durable_catalogue.specs.Openings.{KeepsContent}
use Rattle.durable_catalogue.specs.Refused.{LeavesDiskAlone, LeavesSettled, IsPutInOrder}
use Rattle.durable_catalogue.proofs.Readings.{same_log}

-- a content that stays
pub same_leaves : (old new : DiskView) → new.content ≡ old.content → LeavesContent old new
same_leaves old new same log now was is =
    let stays : now ≡ log = cc (same, was, is) in
    subst (LeavesLog log) (sym stays) (leaves_self log)

module _ (old new : DiskView) (leaves : LeavesContent old new) where
  -- the same log has the same history
  pub leaves_history : KeepsContent old new
  leaves_history log now entries was is has = ∥∥₁_map has (λ of. same_log entries log now (leaves log now was is).same of)

  module _ (frames : List Frame) (place version : ℕ) (recovered : IsRecovered frames place version old new) where
    pub recovered_order : IsPutInOrder old new
    recovered_order = record { leaves = leaves; bytes = recovered.ordered }

  -- a fault that isn't a device's wrote nothing
  pub unwritten_alone : (failed : Type 0) (fault : JournalFault) → HasOpenCause old new fault → (open_fault fault ≡ DeviceFault → failed) → LeavesDiskAlone failed old new
  unwritten_alone failed fault cause is_failed log now was is = record {
    leaves = leaves log now was is;
    bytes = λ other. let same = (cause.unwritten (λ device. other (is_failed (ap open_fault device)))).content in inl cc;
  }

pub refused_settled : (old new : DiskView) (fault : JournalFault) → HasOpenCause old new fault → LeavesSettled old new (open_fault fault)
refused_settled old new fault cause other =
    ⊎_elim (λ only. inl only) (λ same. inr (ap open_fault same.0, same.1)) (cause.settled (λ device. other (ap open_fault device)))
