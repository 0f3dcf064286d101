-- The one history of a log.
use Rattle.std.proofs.Common.{◌≡◌, ℕ, List, [], sym, ap, subst}
use Rattle.std.proofs.Math.Logic.{∥∥₁_map, ∥∥₁_elim}
use Rattle.std.specs.Coded.{Coded-set, coded_ℕ, coded_list}
use Rattle.marc_types.specs.declared.entry.Entry.{Entry}
use Rattle.commit_journal.specs.Log.{version_of, payloads_of}
use Rattle.entry_history.specs.Payloads.{IsHistory}
use Rattle.entry_history.proofs.Histories.{history_once}
use Rattle.entry_record.specs.History.{IsWithin}
use Rattle.outside.specs.Room.{RoomView}
use Rattle.durable_catalogue.specs.Logs.{HasHistory, IsLogOf}
use Rattle.journal_files.specs.Journals.{journal_limits, HasFittingHistory}

-- a log is read as one history
pub reading_once : (entries others : List Entry) (log : List ℕ) → IsLogOf entries log → IsLogOf others log → entries ≡ others
reading_once entries others log is also =
    let same : also.frames ≡ is.frames = cc (is.found, also.found) in
    history_once (version_of log) [] entries others (payloads_of is.frames) is.holds
    (subst (λ frames. IsHistory (version_of log) [] (payloads_of frames) others) same also.holds)

-- what is due of one history of a log is due of any other
pub due_once : (due : List Entry → List ℕ) (entries others : List Entry) (log : List ℕ) → HasHistory entries log → HasHistory others log
    → due entries ≡ due others
due_once due entries others log has also =
    ∥∥₁_elim has (Coded-set (coded_list coded_ℕ) _ _) (λ is.
    ∥∥₁_elim also (Coded-set (coded_list coded_ℕ) _ _) (λ too. ap due (reading_once entries others log is too)))

-- what holds of what is due of one history of a log holds of that of any other
pub due_of_any : (P : List ℕ → Type 0) (due : List Entry → List ℕ) (entries others : List Entry) (log : List ℕ) → HasHistory entries log
    → HasHistory others log → P (due others) → P (due entries)
due_of_any P due entries others log has also = subst P (sym (due_once due entries others log has also))

-- a history within a room's limits is one that fits
pub fitting_history : (room : RoomView) (entries : List Entry) (log : List ℕ) → HasHistory entries log → IsWithin (journal_limits room) entries → HasFittingHistory room log
fitting_history room entries log has within = ∥∥₁_map has (λ is. (entries, is, within))
