use Rattle.std.proofs.Common.{take}
use Rattle.marc_types.specs.declared.key.Class.TheVariants.{Authority}
use Rattle.catalogue_rules.specs.State.{linkable_authorities}
use Rattle.catalogue_tables.specs.Lent.{shown_forms}
use Rattle.linking_laws.specs.Stages.{choose_field}
use Rattle.linked_store.specs.Linked.{key_of}
use Rattle.commit_stages.specs.Noted.{AreNoted}
use Rattle.commit_stages.proofs.Choosing.{IsChoosing}
use Rattle.commit_stages.proofs.touched.settle_touched.Given as goal

abbrev pub invariant-loop-seat : goal.invariant-loop-seat
invariant-loop-seat g l =
    let key = key_of Authority l.number l.fn.store.keys in
    IsChoosing (shown_forms l.forms) key l.seat-items l.seat-index l.fn.store l.store l.fn.steps l.steps
    × AreNoted (choose_field (linkable_authorities l.fn.store.state) (shown_forms l.forms) key) l.fn.store (take l.seat-index l.seat-items) l.fn.noted l.noted
