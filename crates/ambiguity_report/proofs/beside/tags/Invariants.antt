use Rattle.std.proofs.Common.{◌≡◌, map, take}
use Rattle.marc_types.specs.Fields.{tag_of}
use Rattle.catalogue_rules.specs.State.{KeptField}
use Rattle.numbered_store.specs.Kept.{kept_record}
use Rattle.ambiguity_report.proofs.beside.tags.Given as goal

abbrev pub invariant-loop-place : goal.invariant-loop-place
invariant-loop-place l = l.tags.items ≡ map (λ (h : KeptField). tag_of h.field) (take l.place (kept_record l.kept).fields)
