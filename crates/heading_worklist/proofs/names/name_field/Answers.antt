use Rattle.std.proofs.Common.{◌≡◌, ◌∙◌, sym, subst, IfOk, Option}
use Rattle.std.specs.Option.{option_map}
use Rattle.catalogue_rules.specs.State.{KeptField}
use Rattle.numbered_store.specs.Kept.{kept_record}
use Rattle.heading_worklist.specs.Texts.{is_name}
use Rattle.heading_worklist.proofs.Searching.{found_here, passed_over}
use Rattle.heading_worklist.proofs.names.name_field.Goals as goal

pub returns-then-names_at : goal.returns-then-names_at
returns-then-names_at c =
    let fields = (kept_record c.args.kept.now).fields in
    subst (λ (h : Option KeptField). IfOk c.field_at.result (λ field. field ≡ option_map (λ h. h.field) h))
    (found_here (λ (h : KeptField). is_name c.args.class h.field) fields c.loop-place.place c.loop-place.invariant (sym c.names_at.ensures ∙ c.if-names_at.true))
    c.field_at.ensures

pub loop-place-preserved : goal.loop-place-preserved
loop-place-preserved c =
    let fields = (kept_record c.args.kept.now).fields in
    passed_over (λ (h : KeptField). is_name c.args.class h.field) fields c.loop-place.place c.loop-place.invariant (sym c.names_at.ensures ∙ c.if-names_at.false)
