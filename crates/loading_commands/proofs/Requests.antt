-- How a command ends that a request asks for, with outputs or with none.
use Rattle.std.proofs.Common.{◌≡◌, [], ◌∷◌, length, Option, Some, None, refl, sym, ap, subst}
use Rattle.outside.specs.Room.{RoomView, SameBut}
use Rattle.outside.proofs.Rooms.{same_but_first}
use Rattle.command_words.specs.Command.{names_of}
use Rattle.command_words.specs.Asked.{load_asked, loading_of}
use Rattle.command_words.specs.declared.asked.LoadRequest.{LoadRequest}
use Rattle.command_words.specs.declared.asked.Outputs.{Outputs}
use Rattle.console_lines.specs.Ends.{Outcome, IsTold}
use Rattle.console_lines.specs.declared.end.End.TheVariants.{Told}
use Rattle.console_lines.specs.declared.fault.Fault.{Fault}
use Rattle.loading_commands.specs.Inputs.{IsProper}
use Rattle.loading_commands.specs.Outcomes.{IsLoadingFault, Fails}
use Rattle.loading_commands.specs.Loading.{Loads, Runs, EndsWithOutputs, EndsLoading}
use Rattle.loading_commands.specs.Runs.{NotLoaded}
use Rattle.loading_commands.proofs.Ended.{loads_failed, runs_failed}

-- the names of a request are its journal's first
pub names_with : (asked : LoadRequest) (outputs : Option Outputs) → asked.outputs ≡ outputs
    → names_of (load_asked asked) ≡ names_of (loading_of asked.journal.now (length asked.libraries) outputs)
names_with asked outputs is = ap (λ these. names_of (loading_of asked.journal.now (length asked.libraries) these)) is

-- where nothing but the journal changed, nothing but what the request names did
pub apart_as_asked : (asked : LoadRequest) (a b : RoomView) → SameBut a b (asked.journal.now ∷ []) → SameBut a b (names_of (load_asked asked))
apart_as_asked asked a b apart = decided asked.outputs
  where
    decided : (outputs : Option Outputs) → SameBut a b (names_of (loading_of asked.journal.now (length asked.libraries) outputs))
    decided None = apart
    decided (Some outputs) = same_but_first a b asked.journal.now (outputs.out.now ∷ outputs.report.now ∷ []) apart

-- the same of the outputs that a request has
pub apart_as_run : (asked : LoadRequest) (outputs : Outputs) → asked.outputs ≡ Some outputs → (a b : RoomView)
    → SameBut a b (asked.journal.now ∷ outputs.out.now ∷ outputs.report.now ∷ []) → SameBut a b (names_of (load_asked asked))
apart_as_run asked outputs is a b apart = subst (λ names. SameBut a b names) (sym (names_with asked (Some outputs) is)) apart

-- a command that a request with no outputs asks for, or one with these
pub ends_load : (asked : LoadRequest) (o : Outcome) → asked.outputs ≡ None → Loads asked.libraries asked.journal.now o → EndsLoading asked o
ends_load asked o none did = subst (λ these. EndsWithOutputs asked.libraries asked.journal.now these o) (sym none) did

pub ends_run : (asked : LoadRequest) (o : Outcome) (outputs : Outputs) → asked.outputs ≡ Some outputs
    → Runs asked.libraries asked.journal.now outputs.out.now outputs.report.now o → EndsLoading asked o
ends_run asked o outputs some did = subst (λ these. EndsWithOutputs asked.libraries asked.journal.now these o) (sym some) did

-- a loading that failed ends its command, whichever it is
pub loading_failed : (asked : LoadRequest) (o : Outcome) (why : Fault) → IsProper asked → o.end ≡ Told why → IsTold why o
    → SameBut o.old o.new (asked.journal.now ∷ [])
    → Fails o.old o.new asked.journal.now asked.libraries why (IsLoadingFault o.old o.new asked.journal.now asked.libraries why)
    → EndsLoading asked o
loading_failed asked o why proper is told apart f = ended asked.outputs refl
  where
    fails : (so : Type 0) → (IsLoadingFault o.old o.new asked.journal.now asked.libraries why → so) → Fails o.old o.new asked.journal.now asked.libraries why so
    fails so then = record {
      closed = f.closed;
      because = λ tells. then (f.because tells);
      device = f.device;
      input = f.input;
      no_usage = f.no_usage;
      no_other_history = f.no_other_history;
    }

    ended : (outputs : Option Outputs) → asked.outputs ≡ outputs → EndsWithOutputs asked.libraries asked.journal.now outputs o
    ended None none = loads_failed asked.libraries asked.journal.now o why is told (fails _ (λ so. NotLoaded so))
    ended (Some outputs) some =
        runs_failed asked.libraries asked.journal.now o outputs.out.now outputs.report.now why is told apart (fails _ (λ so. NotLoaded so))
