-- What fits a journal's limits, with the judgement that each file has.
use Rattle.std.proofs.Common.{◌≡◌, ℕ, ◌+◌, ◌≤◌, List, [], ◌∷◌, length, Option, Some, None, IsSome, refl}
use Rattle.std.specs.Prelude.{All}
use Rattle.std.specs.List.{sum_by}
use Rattle.std.proofs.lemmas.List.Elements.{All-head, All-tail}
use Rattle.marc_types.specs.declared.entry.Entry.{Entry}
use Rattle.outside.specs.Room.{RoomView}
use Rattle.marc_stream.specs.Pieces.{items}
use Rattle.command_words.specs.declared.library.Library.{Library}
use Rattle.commit_journal.specs.Log.{version_of}
use Rattle.entry_record.specs.History.{entries_size}
use Rattle.file_entries.specs.declared.refused.RefusedItem.{RefusedItem}
use Rattle.file_entries.proofs.Every.{every_judged}
use Rattle.durable_catalogue.specs.Logs.{HasHistory}
use Rattle.journal_files.specs.Journals.{journal_limits, log_bytes}
use Rattle.loading_commands.specs.Merged.{AreJudged, NoFile, OneFile}
use Rattle.union_top.specs.Fits.{FitsTogether}

record HaveJudgements (room : RoomView) (loader : ℕ) (libraries : List Library) : Type 0 where
  pub accepted : List (List Entry)
  pub refused : List (List RefusedItem)
  pub judged : AreJudged room loader libraries accepted refused

-- files that are there have judgements
files_judged : (room : RoomView) (loader : ℕ) (libraries : List Library) → All (λ (l : Library). IsSome (room.file l.file)) libraries
    → HaveJudgements room loader libraries
files_judged room loader [] there = record { accepted = []; refused = []; judged = NoFile loader }
files_judged room loader (library ∷ libraries) there =
    first (room.file library.file) refl (All-head (λ (l : Library). IsSome (room.file l.file)) library libraries there)
    (files_judged room (loader + 1) libraries (All-tail (λ (l : Library). IsSome (room.file l.file)) library libraries there))
  where
    first : (file : Option (List ℕ)) → room.file library.file ≡ file → IsSome file → HaveJudgements room (loader + 1) libraries
        → HaveJudgements room loader (library ∷ libraries)
    first None is some more = cc
    first (Some bytes) is some more =
        let here = every_judged library.code loader (items bytes) in record {
          accepted = here.accepted ∷ more.accepted;
          refused = here.refused ∷ more.refused;
          judged = OneFile loader library bytes here.accepted here.refused libraries more.accepted more.refused is here.judged more.judged;
        }

-- what fits together, with the files' accepted entries
pub record FitsJudged (room : RoomView) (journal : List ℕ) (libraries : List Library) : Type 0 where
  pub before : List Entry
  pub accepted : List (List Entry)
  pub refused : List (List RefusedItem)
  pub was : HasHistory before (log_bytes room journal)
  pub version : version_of (log_bytes room journal) ≡ 2
  pub judged : AreJudged room 0 libraries accepted refused
  pub count : length before + sum_by length accepted ≤ (journal_limits room).entries
  pub size : entries_size before + sum_by entries_size accepted ≤ (journal_limits room).bytes

pub fits_judged : (room : RoomView) (journal : List ℕ) (libraries : List Library) → FitsTogether room journal libraries → FitsJudged room journal libraries
fits_judged room journal libraries fits =
    let have = files_judged room 0 libraries fits.there in record {
      before = fits.before;
      accepted = have.accepted;
      refused = have.refused;
      was = fits.was;
      version = fits.version;
      judged = have.judged;
      count = fits.count have.accepted have.refused have.judged;
      size = fits.size have.accepted have.refused have.judged;
    }
