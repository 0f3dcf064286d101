use Rattle.std.proofs.Common.{[], ◌∷◌, refl}
use Rattle.outside.proofs.Rooms.{same_but_itself}
use Rattle.migrate_command.specs.Bringing.{Newest, Refused}
use Rattle.migrate_command.specs.Migrates.{Untouched}
use Rattle.migrate_command.proofs.Rooms.{untouched_of, untouched_into}
use Rattle.migrate_command.proofs.bringing.bring_old.Goals as goal

-- the log is of the newest version
pub returns-then-version-ne1-clause-apart : goal.returns-then-version-ne1-clause-apart
returns-then-version-ne1-clause-apart g c = same_but_itself (g.R.Room.seen c.args.room.now) (c.args.into.now ∷ [])

pub returns-then-version-ne1-clause-brings : goal.returns-then-version-ne1-clause-brings
returns-then-version-ne1-clause-brings g c was tells is_history =
    let room = g.R.Room.seen c.args.room.now in
    untouched_into c.args.history.items room room c.args.into.now (same_but_itself room [])

pub returns-then-version-ne1-clause-fault : goal.returns-then-version-ne1-clause-fault
returns-then-version-ne1-clause-fault g c =
    Newest refl c.if-version-ne1.true (same_but_itself (g.R.Room.seen c.args.room.now) [])

pub returns-then-version-ne1-clause-settled : goal.returns-then-version-ne1-clause-settled
returns-then-version-ne1-clause-settled g c other tells =
    let room = g.R.Room.seen c.args.room.now in
    Untouched (untouched_of room room c.args.into.now (same_but_itself room []))

-- it is of version 1
pub returns-in-Ok-clause-brought : goal.returns-in-Ok-clause-brought
returns-in-Ok-clause-brought g c = record { oldest = c.if-version-ne1.false; taken = c.in-Ok.ensures.taken }

pub returns-in-Err-clause-fault : goal.returns-in-Err-clause-fault
returns-in-Err-clause-fault g c = Refused c.if-version-ne1.false c.in-Err.ensures.fault
