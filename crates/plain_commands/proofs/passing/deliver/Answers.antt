use Rattle.std.proofs.Common.{◌∙◌, List, ℕ, Some, refl, ap, subst}
use Rattle.output_files.specs.Outputs.{IsOutputLeft}
use Rattle.console_lines.proofs.Ends.{result_untold}
use Rattle.plain_commands.proofs.Passes.{delivered_in_part, delivered_told, ended_whole, ended_in_part, ended_untold, ends_told, no_fault_told}
use Rattle.plain_commands.proofs.passing.deliver.Goals as goal

pub returns-in-Ok-clause-no_fault : goal.returns-in-Ok-clause-no_fault
returns-in-Ok-clause-no_fault g c why is = no_fault_told _ why (result_untold c.tell_result.ensures) is

pub returns-in-Ok-clause-unwritten : goal.returns-in-Ok-clause-unwritten
returns-in-Ok-clause-unwritten g c = ends_told _ _ c.tell_result.ensures

pub returns-in-Ok-clause-delivered : goal.returns-in-Ok-clause-delivered
returns-in-Ok-clause-delivered g c limits due library bytes tells is same =
    let written = c.in-Ok.ensures.bytes tells ∙ ap (λ (bytes : List ℕ). Some bytes) same in
    delivered_told limits _ _ _ _ _ c.tell_result.ensures
    (λ ended wrote. ended_whole _ _ _ _ c.args.ready.now is _ _ _ _ written
    (rw (← c.as_str.ensures.value) wrote) (rw (← c.has_refused.ensures) ended))
    (λ wrote. ended_untold _ _ _ _ c.args.ready.now is _ _ _ written (rw (← c.as_str.ensures.value) wrote))

pub returns-in-Err-OutputFault-clause-delivered : goal.returns-in-Err-OutputFault-clause-delivered
returns-in-Err-OutputFault-clause-delivered g c limits due library bytes tells is same =
    let seen = g.R.Room.seen in
    let left = subst (IsOutputLeft (seen c.args.room.now) (seen c.write_document.new.room) c.args.out.now) same (c.write_document.ensures.left tells) in
    delivered_in_part limits _ _ _ _ _ refl (ended_in_part _ _ _ _ c.args.ready.now is _ _ _ left)
