use Rattle.std.proofs.Common.{◌≡◌, true, [], take}
use Rattle.outside.specs.Room.{SameBut}
use Rattle.split_command.specs.Surveying.{AreSurveyed}
use Rattle.split_command.proofs.surveying.survey_files.Given as goal

abbrev pub invariant-loop-index : goal.invariant-loop-index
invariant-loop-index g l = SameBut (g.R.Room.seen l.initial.room) (g.R.Room.seen l.room) []
    × ((g.R.Room.seen l.initial.room).tells ≡ true → AreSurveyed (g.R.Room.seen l.initial.room) (take l.index l.fn.libraries) l.survey)
