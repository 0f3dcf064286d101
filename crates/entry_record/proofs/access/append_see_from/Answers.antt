use Rattle.std.proofs.Common.{rules, ◌≡◌, true, false, [], ◌∷◌, sym, ◌∙◌}
use Rattle.entry_record.specs.Authority.{see_from_forms}
use Rattle.entry_record.specs.Headings.{is_tracing_tag}
use Rattle.entry_record.proofs.Accessible.{no_tracing, empty_tracing, append_none}
use Rattle.entry_record.proofs.access.append_see_from.Goals as goal

pub returns-then-not-is_tracing_tag : goal.returns-then-not-is_tracing_tag
returns-then-not-is_tracing_tag c =
    let other : is_tracing_tag c.args.kind c.args.field.now ≡ false = search rules in
    append_none c.args.out.now.items (see_from_forms c.args.kind (c.args.field.now ∷ [])) (no_tracing c.args.kind c.args.field.now other)

pub returns-in-None : goal.returns-in-None
returns-in-None c =
    let own : is_tracing_tag c.args.kind c.args.field.now ≡ true = search rules in
    append_none c.args.out.now.items (see_from_forms c.args.kind (c.args.field.now ∷ []))
    (empty_tracing c.args.kind c.args.field.now own (sym c.in-None.is ∙ c.in_ok-form.ensures))
