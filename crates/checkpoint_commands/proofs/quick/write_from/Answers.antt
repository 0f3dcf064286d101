use Rattle.std.proofs.Common.{[], ◌∷◌, subst}
use Rattle.std.specs.Prelude.{IsErrOf}
use Rattle.std.specs.Option.{option_copied}
use Rattle.outside.proofs.Rooms.{same_but_first, same_but_none, same_but_then}
use Rattle.durable_catalogue.specs.declared.fault.OpenFault.TheVariants.{DeviceFault}
use Rattle.journal_files.proofs.Journals.{keeps_where}
use Rattle.outside.proofs.Closings.{closed_still}
use Rattle.checkpoint_commands.specs.Exporting.{outputs_of, WhyUnwritten}
use Rattle.checkpoint_commands.proofs.Exports.{apart_from, keeps_from, kept_from, written_from, unwritten_from, handed_on, memory_refused, ok_not_err}
use Rattle.checkpoint_commands.proofs.quick.write_from.Goals as goal

-- the log of checkpoints was not taken
pub returns-in-Err-clause-apart : goal.returns-in-Err-clause-apart
returns-in-Err-clause-apart g c = same_but_first _ _ c.args.point.now (outputs_of c.args.out.now (option_copied c.args.report)) c.last_of_file.ensures.apart

pub returns-in-Err-clause-closed : goal.returns-in-Err-clause-closed
returns-in-Err-clause-closed g c name free = closed_still _ _ (c.args.point.now ∷ []) c.last_of_file.ensures.apart (c.last_of_file.ensures.closed, tt) name free

pub returns-in-Err-clause-keeps : goal.returns-in-Err-clause-keeps
returns-in-Err-clause-keeps g c tells =
    let e = c.last_of_file.ensures in
    record {
      bytes = e.bytes tells;
      keeps = keeps_where (IsErrOf c.last_of_file.result DeviceFault) _ _ _ c.args.point.now (handed_on c.last_of_file.result c.in-Err.fault c.in-Err.is) (e.keeps tells);
    }

pub returns-in-Err-clause-refused : goal.returns-in-Err-clause-refused
returns-in-Err-clause-refused g c = (c.in-Err.ensures.refused, c.last_of_file.ensures.apart)

-- memory ran out behind it
pub returns-in_default-clause-apart : goal.returns-in_default-clause-apart
returns-in_default-clause-apart g c = same_but_first _ _ c.args.point.now (outputs_of c.args.out.now (option_copied c.args.report)) c.last_of_file.ensures.apart

pub returns-in_default-clause-closed : goal.returns-in_default-clause-closed
returns-in_default-clause-closed g c name free = closed_still _ _ (c.args.point.now ∷ []) c.last_of_file.ensures.apart (c.last_of_file.ensures.closed, tt) name free

pub returns-in_default-clause-keeps : goal.returns-in_default-clause-keeps
returns-in_default-clause-keeps g c tells =
    let e = c.last_of_file.ensures in
    record {
      bytes = e.bytes tells;
      keeps = keeps_where (IsErrOf c.last_of_file.result DeviceFault) _ _ _ c.args.point.now
          (λ failed. absurd (ok_not_err c.last_of_file.result c.in-Ok.last DeviceFault c.in-Ok.is failed)) (e.keeps tells);
    }

pub returns-in_default-clause-refused : goal.returns-in_default-clause-refused
returns-in_default-clause-refused g c =
    (memory_refused c.last_of_file.result c.in-Ok.last _ _ c.args.point.now c.in-Ok.is c.last_of_file.ensures.keeps, c.last_of_file.ensures.apart)

-- the outputs were written
pub returns-in-Ok-write_outputs-clause-apart : goal.returns-in-Ok-write_outputs-clause-apart
returns-in-Ok-write_outputs-clause-apart g c =
    apart_from c.args.point.now (outputs_of c.args.out.now (option_copied c.args.report)) c.requires.differ _ _ _ c.last_of_file.ensures.apart c.write_outputs.ensures.apart

pub returns-in-Ok-write_outputs-clause-closed : goal.returns-in-Ok-write_outputs-clause-closed
returns-in-Ok-write_outputs-clause-closed g c name free =
    c.write_outputs.ensures.closed name (closed_still _ _ (c.args.point.now ∷ []) c.last_of_file.ensures.apart (c.last_of_file.ensures.closed, tt) name free)

pub returns-in-Ok-write_outputs-clause-keeps : goal.returns-in-Ok-write_outputs-clause-keeps
returns-in-Ok-write_outputs-clause-keeps g c tells =
    let e = c.last_of_file.ensures in
    kept_from c.args.point.now (outputs_of c.args.out.now (option_copied c.args.report)) c.requires.differ _ _ _ e.apart c.write_outputs.ensures.apart _ (IsErrOf c.last_of_file.result DeviceFault)
    (λ failed. absurd (ok_not_err c.last_of_file.result c.in-Ok.last DeviceFault c.in-Ok.is failed)) (e.bytes tells) (e.keeps tells)

pub returns-in-Ok-write_outputs-clause-written : goal.returns-in-Ok-write_outputs-clause-written
returns-in-Ok-write_outputs-clause-written g c =
    let r = c.in-Ok-restore in
    written_from c.args.point.now c.args.out.now (option_copied c.args.report) c.requires.differ _ _ _ c.last_of_file.ensures.apart c.in-Ok.last c.args.entries.now
    r.restored c.in-Ok.ensures.last r.ensures.resumed r.ensures.whole c.in-Ok-write_outputs.ensures.written

-- or one couldn't be
pub returns-in-Err-Unwritten-clause-apart : goal.returns-in-Err-Unwritten-clause-apart
returns-in-Err-Unwritten-clause-apart g c =
    apart_from c.args.point.now (outputs_of c.args.out.now (option_copied c.args.report)) c.requires.differ _ _ _ c.last_of_file.ensures.apart c.write_outputs.ensures.apart

pub returns-in-Err-Unwritten-clause-closed : goal.returns-in-Err-Unwritten-clause-closed
returns-in-Err-Unwritten-clause-closed g c name free =
    c.write_outputs.ensures.closed name (closed_still _ _ (c.args.point.now ∷ []) c.last_of_file.ensures.apart (c.last_of_file.ensures.closed, tt) name free)

pub returns-in-Err-Unwritten-clause-keeps : goal.returns-in-Err-Unwritten-clause-keeps
returns-in-Err-Unwritten-clause-keeps g c tells =
    let e = c.last_of_file.ensures in
    kept_from c.args.point.now (outputs_of c.args.out.now (option_copied c.args.report)) c.requires.differ _ _ _ e.apart c.write_outputs.ensures.apart _ (IsErrOf c.last_of_file.result DeviceFault)
    (λ failed. absurd (ok_not_err c.last_of_file.result c.in-Ok.last DeviceFault c.in-Ok.is failed)) (e.bytes tells) (e.keeps tells)

pub returns-in-Err-Unwritten-clause-refused : goal.returns-in-Err-Unwritten-clause-refused
returns-in-Err-Unwritten-clause-refused g c =
    let r = c.in-Ok-restore in
    let why = subst (WhyUnwritten r.restored.engine.state c.args.out.now (option_copied c.args.report) _ _) c.in-Err-Unwritten.field-0-is c.in-Err-Unwritten.ensures.unwritten in
    unwritten_from c.args.point.now c.args.out.now (option_copied c.args.report) c.requires.differ _ _ _ c.last_of_file.ensures.apart c.in-Ok.last c.args.entries.now
    r.restored c.in-Ok.ensures.last r.ensures.resumed r.ensures.whole c.in-Err-Unwritten.which why

-- or memory ran out before one was begun
pub returns-clause-apart : goal.returns-clause-apart
returns-clause-apart g c =
    apart_from c.args.point.now (outputs_of c.args.out.now (option_copied c.args.report)) c.requires.differ _ _ _ c.last_of_file.ensures.apart c.write_outputs.ensures.apart

pub returns-clause-closed : goal.returns-clause-closed
returns-clause-closed g c name free =
    c.write_outputs.ensures.closed name (closed_still _ _ (c.args.point.now ∷ []) c.last_of_file.ensures.apart (c.last_of_file.ensures.closed, tt) name free)

pub returns-clause-keeps : goal.returns-clause-keeps
returns-clause-keeps g c tells =
    let e = c.last_of_file.ensures in
    kept_from c.args.point.now (outputs_of c.args.out.now (option_copied c.args.report)) c.requires.differ _ _ _ e.apart c.write_outputs.ensures.apart _ (IsErrOf c.last_of_file.result DeviceFault)
    (λ failed. absurd (ok_not_err c.last_of_file.result c.in-Ok.last DeviceFault c.in-Ok.is failed)) (e.bytes tells) (e.keeps tells)

pub returns-clause-refused : goal.returns-clause-refused
returns-clause-refused g c =
    let e = c.last_of_file.ensures in
    let w = c.write_outputs.ensures in
    let r = c.in-Ok-restore in
    let unbegun = subst (WhyUnwritten r.restored.engine.state c.args.out.now (option_copied c.args.report) _ _) c.in-Err-NoMemory.field-0-is c.in-Err-NoMemory.ensures.unwritten in (
      memory_refused c.last_of_file.result c.in-Ok.last _ _ c.args.point.now c.in-Ok.is
          (λ tells. keeps_from c.args.point.now (outputs_of c.args.out.now (option_copied c.args.report)) c.requires.differ _ _ _ e.apart w.apart
          (IsErrOf c.last_of_file.result DeviceFault) (e.keeps tells)),
      same_but_then _ _ _ (c.args.point.now ∷ []) e.apart (same_but_none _ _ (c.args.point.now ∷ []) unbegun),
    )
