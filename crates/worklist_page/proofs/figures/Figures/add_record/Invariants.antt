use Rattle.std.proofs.Common.{◌≡◌, fold, map, take}
use Rattle.catalogue_rules.specs.State.{linkable_authorities}
use Rattle.numbered_store.specs.Kept.{kept_record}
use Rattle.worklist_page.specs.Figures.{mark_of, with_mark}
use Rattle.worklist_page.proofs.figures.Figures.add_record.Given as goal

abbrev pub invariant-loop-place : goal.invariant-loop-place
invariant-loop-place l =
    l.self ≡ fold with_mark l.initial.self (map (mark_of (linkable_authorities l.engine.state) l.class l.key) (take l.place (kept_record l.kept).fields))
