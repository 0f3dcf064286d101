use Rattle.std.proofs.Common.{length, refl, arith}
use Rattle.std.proofs.lemmas.Option.{slice_get_read}
use Rattle.std.proofs.lemmas.Result.{err_from_is_err_and}
use Rattle.split_command.specs.Names.{names_of_files}
use Rattle.split_command.proofs.Filed.{files_apart, files_more, files_left, files_in_part, files_cause}
use Rattle.split_command.proofs.files.deal_files.Goals as goal

pub returns-in_err-deal_file-clause-apart : goal.returns-in_err-deal_file-clause-apart
returns-in_err-deal_file-clause-apart g c =
    let named = slice_get_read c.args.libraries.now (length c.args.libraries.now) c.loop-index.index c.index-libraries-index.result refl (omega arith) c.index-libraries-index.is in
    files_in_part (g.R.Room.seen c.args.room.now) (g.R.Room.seen c.loop-index.room) (g.R.Room.seen c.deal_file.new.room) c.args.plan.now c.args.libraries.now c.loop-index.index
    c.index-libraries-index.result named (omega arith) (omega arith) c.requires.few c.loop-index.invariant.0 c.deal_file.ensures.apart c.loop-index.invariant.2

pub returns-in_err-deal_file-clause-left : goal.returns-in_err-deal_file-clause-left
returns-in_err-deal_file-clause-left g c =
    let named = slice_get_read c.args.libraries.now (length c.args.libraries.now) c.loop-index.index c.index-libraries-index.result refl (omega arith) c.index-libraries-index.is in
    files_left (g.R.Room.seen c.args.room.now) (g.R.Room.seen c.loop-index.room) (g.R.Room.seen c.deal_file.new.room) c.args.plan.now c.args.libraries.now c.loop-index.index
    c.index-libraries-index.result named (omega arith) (omega arith) c.requires.few c.loop-index.invariant.0 c.deal_file.ensures.apart c.loop-index.invariant.2
    c.deal_file.ensures.left

pub returns-in_err-deal_file-clause-cause : goal.returns-in_err-deal_file-clause-cause
returns-in_err-deal_file-clause-cause g c =
    let named = slice_get_read c.args.libraries.now (length c.args.libraries.now) c.loop-index.index c.index-libraries-index.result refl (omega arith) c.index-libraries-index.is in
    let exit = err_from_is_err_and c.from_residual.result c.from_residual.ensures.1 in
    rw (exit.1, exit.2)
    (files_cause (g.R.Room.seen c.args.room.now) (g.R.Room.seen c.loop-index.room) (g.R.Room.seen c.deal_file.new.room) c.args.libraries.now c.index-libraries-index.result
    c.args.plan.now.prefix c.args.plan.now.parts c.loop-index.index (names_of_files c.args.plan.now.prefix c.args.plan.now.parts 0 c.loop-index.index)
    c.in_err-deal_file.field-0.0 c.loop-index.invariant.0 named (omega arith) c.in_err-deal_file.ensures.cause)

pub loop-index-preserved : goal.loop-index-preserved
loop-index-preserved g c =
    let named = slice_get_read c.args.libraries.now (length c.args.libraries.now) c.loop-index.index c.index-libraries-index.result refl (omega arith) c.index-libraries-index.is in (
      files_apart (g.R.Room.seen c.args.room.now) (g.R.Room.seen c.loop-index.room) (g.R.Room.seen c.deal_file.new.room) c.args.plan.now c.args.libraries.now c.loop-index.index
          c.index-libraries-index.result named (omega arith) (omega arith) c.requires.few c.loop-index.invariant.0 c.deal_file.ensures.apart c.loop-index.invariant.2,
      c.deal_file.ensures.closed,
      files_more (g.R.Room.seen c.args.room.now) (g.R.Room.seen c.loop-index.room) (g.R.Room.seen c.deal_file.new.room) c.args.plan.now c.args.libraries.now c.loop-index.index
          c.index-libraries-index.result named (omega arith) (omega arith) c.requires.few c.loop-index.invariant.0 c.deal_file.ensures.apart c.loop-index.invariant.2
          c.in_ok-deal_file.ensures.whole,
    )
