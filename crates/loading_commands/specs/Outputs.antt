-- What is there of a run's outputs where not all is written: OUT is written first, and REPORT only once OUT is whole.
use Rattle.std.specs.Prelude.{◌≡◌, ◌≢◌, ℕ, true, List, [], ◌∷◌}
use Rattle.marc_types.specs.declared.entry.Entry.{Entry}
use Rattle.outside.specs.Fault.{Rose}
use Rattle.outside.specs.Room.{RoomView, SameBut}
use Rattle.catalogue_rules.specs.Settle.{state_of}
use Rattle.catalogue_rules.specs.Output.{export_of, all_keys}
use Rattle.console_lines.specs.declared.end.OutputsFault.{OutputsFault}
use Rattle.console_lines.specs.declared.end.OutputsFault.TheVariants.{NoMemory, Unwritten}
use Rattle.console_lines.specs.declared.end.Unwritten.TheVariants.{Out, Side, Pages, Console}
use Rattle.output_files.specs.Outputs.{IsOutputLeft}
use Rattle.loading_commands.specs.Runs.{AreOutAndLeft}

-- what hinders the outputs, and what is there then
pub record AreUnwritten (old new : RoomView) (out report : List ℕ) (entries : List Entry) (why : OutputsFault) : Type 0 where
  pub no_console : why ≢ Unwritten Console
  pub no_pages : why ≢ Unwritten Pages
  pub out_cause : why ≡ Unwritten Out → Rose (old.out_faults out) (new.out_faults out)
  pub report_cause : why ≡ Unwritten Side → Rose (old.out_faults report) (new.out_faults report)
  pub no_report : why ≢ Unwritten Side → SameBut old new (out ∷ [])
  pub in_out : why ≡ Unwritten Out → old.tells ≡ true → IsOutputLeft old new out (export_of all_keys (state_of entries))
  pub in_report : why ≡ Unwritten Side → old.tells ≡ true → AreOutAndLeft old new out report entries
  -- memory ran out before anything was begun
  pub memory : why ≡ NoMemory → SameBut old new []
