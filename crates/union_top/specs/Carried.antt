-- What it is to carry some words out. The rules are this project's own.
use Rattle.std.specs.Prelude.{◌≡◌, ◌↔◌, ◌⊎◌, ◌≤◌, ℕ, true, List, [], Some, None}
use Rattle.outside.specs.Room.{SameBut}
use Rattle.command_words.specs.Command.{Command, command_of}
use Rattle.command_words.specs.declared.asked.Unasked.{Unasked}
use Rattle.command_words.specs.declared.asked.Unasked.TheVariants as unasked
use Rattle.console_lines.specs.Ends.{Outcome, IsTold}
use Rattle.console_lines.specs.declared.end.End.{End}
use Rattle.console_lines.specs.declared.end.End.TheVariants.{Told}
use Rattle.console_lines.specs.declared.fault.Fault.{Fault}
use Rattle.console_lines.specs.declared.fault.Fault.TheVariants.{Usage, Memory}
use Rattle.union_top.specs.Commands.{touched, EndsWith}
use Rattle.union_top.specs.Complete.{Around, CountsStayed, IsUnhindered}
use Rattle.union_top.specs.Misfits.{RefusesMisfits}
use Rattle.union_top.specs.Sure.{IsSure}

-- what is told where words ask for nothing that can be done
abbrev pub unasked_fault : Unasked → Fault
unasked_fault unasked.Usage = Usage
unasked_fault unasked.NoMemory = Memory

-- The words were carried out, with that exit status. It is 2 exactly where they are no command: then nothing changed, and the console
-- was told so. Else their command changed no file but its log and outputs, and ended as its record says; where nothing hindered it, or
-- what it uses is sure, the status is 0 or 1, or memory ran out; and where no count rose, a journal that can't be used has its status.
pub record AreCarriedOut (words : List (List ℕ)) (status : ℕ) (a : Around) (o : End → Outcome) : Type 0 where
  pub usage : status ≡ 2 ↔ command_of words ≡ None
  pub unchanged : status ≡ 2 → SameBut a.old a.new []
  pub usage_told : status ≡ 2 → IsTold Usage (o (Told Usage))
  pub apart : (command : Command) → command_of words ≡ Some command → SameBut a.old a.new (touched command)
  pub ends : (command : Command) → command_of words ≡ Some command → EndsWith words command status o
  pub complete : (command : Command) → command_of words ≡ Some command → IsUnhindered words command a → (status ≤ 1) ⊎ (status ≡ 8)
  pub sure : (command : Command) → command_of words ≡ Some command → IsSure words command a → (status ≤ 1) ⊎ (status ≡ 8)
  pub misfits : (command : Command) → command_of words ≡ Some command → a.old.tells ≡ true → CountsStayed words command a
      → RefusesMisfits words command a.old status
