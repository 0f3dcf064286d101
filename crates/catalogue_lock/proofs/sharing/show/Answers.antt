use Rattle.std.proofs.Common.{rules, ap, ◌∙◌}
use Rattle.catalogue_lock.specs.Views.{copy_of}
use Rattle.catalogue_lock.proofs.Turning.{settles}
use Rattle.catalogue_lock.proofs.Splitting.{copies, joins}
use Rattle.catalogue_lock.proofs.Meeting.{meets, shows, rests_again, seen_first, seen_second}
use Rattle.catalogue_lock.proofs.sharing.show.Goals as goal

pub split_seat-copy-requires : goal.split_seat-copy-requires
split_seat-copy-requires g c = (search rules, search rules, copies _ _ _ _ _ c.requires.from.running)

pub join_seat-requires : goal.join_seat-requires
join_seat-requires g c = (
  search rules,
  search rules,
  search rules,
  search rules,
  joins _ _ _ _ _ _ _ c.requires.to.running c.requires.to.idle (ap (λ m. m.0.stage) c.split_seat-copy.ensures.4),
)

pub load-requires : goal.load-requires
load-requires g c = (search rules, search rules, settles _ _ _ _ _ _ (ap (λ m. m.0.opening) c.join_seat.ensures.2 ∙ c.requires.to.running))

pub returns-clause-to : goal.returns-clause-to
returns-clause-to g c =
    shows c.args.to.now.table_id c.load.new.seat.table_id _ c.args.from.now.me.0 _ (c.load.ensures.0 ∙ c.join_seat.ensures.0)
    (meets c.args.to.now.me.0 (copy_of c.args.from.now.me.0) _ _ _ _ c.join_seat.ensures.2 (ap (λ m. m.0) c.split_seat-copy.ensures.4) c.requires.to.hands c.load.ensures.2)

pub returns-clause-to_rests : goal.returns-clause-to_rests
returns-clause-to_rests g c =
    rests_again _ c.args.from.now.me.0 _ _ c.requires.to
    (meets c.args.to.now.me.0 (copy_of c.args.from.now.me.0) _ _ _ _ c.join_seat.ensures.2 (ap (λ m. m.0) c.split_seat-copy.ensures.4) c.requires.to.hands c.load.ensures.2)

pub returns-clause-from_begins : goal.returns-clause-from_begins
returns-clause-from_begins g c =
    seen_second _ _ _
    (meets c.args.to.now.me.0 (copy_of c.args.from.now.me.0) _ _ _ _ c.join_seat.ensures.2 (ap (λ m. m.0) c.split_seat-copy.ensures.4) c.requires.to.hands c.load.ensures.2)

pub returns-clause-to_begins : goal.returns-clause-to_begins
returns-clause-to_begins g c =
    seen_first _ _ _
    (meets c.args.to.now.me.0 (copy_of c.args.from.now.me.0) _ _ _ _ c.join_seat.ensures.2 (ap (λ m. m.0) c.split_seat-copy.ensures.4) c.requires.to.hands c.load.ensures.2)
