use Rattle.std.proofs.Common.{refl, ap, sym, ◌∙◌}
use Rattle.catalogue_lock.specs.Views.{pass_of}
use Rattle.catalogue_lock.proofs.Meeting.{Seen, met_twice, begins_from, own_seen}
use Rattle.catalogue_lock.proofs.lock.HistoryLock.meet.Goals as goal

pub returns-clause-first : goal.returns-clause-first
returns-clause-first g c =
    let one = c.show.ensures in
    let two = c.show-2.ensures in
    (met_twice (pass_of c.first.inside.seat) (pass_of c.second.inside.seat) (pass_of c.show.new.from) (pass_of c.show.new.to) (pass_of c.show-2.new.to) (pass_of c.show-2.new.from) _ _
    one.from one.to two.to two.from c.first.view_is c.second.view_is).0

pub returns-clause-second : goal.returns-clause-second
returns-clause-second g c =
    let one = c.show.ensures in
    let two = c.show-2.ensures in
    (met_twice (pass_of c.first.inside.seat) (pass_of c.second.inside.seat) (pass_of c.show.new.from) (pass_of c.show.new.to) (pass_of c.show-2.new.to) (pass_of c.show-2.new.from) _ _
    one.from one.to two.to two.from c.first.view_is c.second.view_is).1

pub returns-clause-first_begins : goal.returns-clause-first_begins
returns-clause-first_begins g c = begins_from _ _ _ _ (ap Seen (c.show.ensures.from ∙ c.first.view_is)) refl c.show-2.ensures.to_begins

pub returns-clause-second_begins : goal.returns-clause-second_begins
returns-clause-second_begins g c = begins_from _ _ _ _ (ap Seen c.second.view_is) (sym (ap Seen c.show-2.ensures.from)) c.show.ensures.to_begins

pub returns-clause-first_own : goal.returns-clause-first_own
returns-clause-first_own g c = own_seen c.show-2.new.to.table_id _ c.show-2.ensures.to_rests

pub returns-clause-second_own : goal.returns-clause-second_own
returns-clause-second_own g c = own_seen c.show-2.new.from.table_id _ c.show-2.ensures.from_rests
