use Rattle.std.proofs.Common.{◌≡◌, None, take}
use Rattle.std.specs.Prelude.{find}
use Rattle.numbered_store.specs.Kept.{kept_record}
use Rattle.heading_worklist.specs.Texts.{is_name}
use Rattle.heading_worklist.proofs.names.name_field.Given as goal

abbrev pub invariant-loop-place : goal.invariant-loop-place
invariant-loop-place l = find (λ h. is_name l.class h.field) (take l.place (kept_record l.kept).fields) ≡ None
