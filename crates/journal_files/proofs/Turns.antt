-- What was handed on.
use Rattle.std.proofs.Common.{◌≡◌, ◌∙◌, ℕ, true, false, List, [], sym, true≢false}
use Rattle.marc_types.specs.declared.entry.Entry.{Entry}
use Rattle.marc_types.specs.declared.entry.Limits.{Limits}
use Rattle.commit_journal.specs.declared.frame.Frame.{Frame}
use Rattle.commit_journal.specs.Log.{payloads_of}
use Rattle.entry_history.specs.Payloads.{IsHistory}
use Rattle.durable_catalogue.specs.declared.fault.OpenFault.TheVariants.{Full}
use Rattle.durable_catalogue.specs.Openings.{IsUnloaded}
use Rattle.durable_catalogue.specs.declared.taking.Reading.{Reading}
use Rattle.durable_catalogue.specs.Taking.{WereTaken}
use Rattle.journal_files.specs.Taking.{IsHandedOn}

-- entries that were taken, and are within the limits
pub fitting : (Has P : List Entry → Type 0) (limits : Limits) (reading : Reading) → WereTaken Has P limits reading → reading.fits ≡ true → IsHandedOn Has P limits
fitting Has P limits reading t fits = record { entries = t.entries; history = t.history; within = t.fits_is.0 fits; taken = t.taken }

-- or pass them
pub passed : (Has : List Entry → Type 0) (version : ℕ) (frames : List Frame) (limits : Limits) (reading : Reading) → WereTaken Has (IsHistory version [] (payloads_of frames)) limits reading
    → reading.fits ≡ false → IsUnloaded version frames limits Full
passed Has version frames limits reading t over = (t.entries, t.history, λ within. absurd (true≢false (sym (t.fits_is.1 within) ∙ over)))

-- what holds of the entries by what was handed on
pub is_also : (Has P Q : List Entry → Type 0) (limits : Limits) → ((entries : List Entry) → P entries → Q entries) → IsHandedOn Has P limits → IsHandedOn Has Q limits
is_also Has P Q limits f h = record { entries = h.entries; history = f h.entries h.history; within = h.within; taken = h.taken }
