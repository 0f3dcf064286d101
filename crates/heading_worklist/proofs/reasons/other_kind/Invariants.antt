use Rattle.std.proofs.Common.{◌≡◌, None, take}
use Rattle.std.specs.Prelude.{find}
use Rattle.catalogue_rules.specs.State.{linkable_authorities}
use Rattle.heading_worklist.specs.Reasons.{has_as}
use Rattle.heading_worklist.proofs.reasons.other_kind.Given as goal

abbrev pub invariant-loop-kind : goal.invariant-loop-kind
invariant-loop-kind l =
    (find (has_as (linkable_authorities l.engine.state) l.form) (take l.kind-index l.kind-items) ≡ None) × (l.other.items ≡ l.form.items)
