use Rattle.std.proofs.Common.{Some, slice_get, option_and_then, ap, ◌∙◌}
use Rattle.entry_record.specs.Prepared.{full_form_of}
use Rattle.entry_record.proofs.Readings.{forms_found, full_at, no_full_at}
use Rattle.entry_record.proofs.preparation.Preparation.full_form.Goals as goal

pub returns-in-Some : goal.returns-in-Some
returns-in-Some c =
    let e = c.self.inside.whole.value in
    ap (λ g. Some g) c.full.ensures
    ∙ full_at e c.args.field c.in-Some.forms.now
    (c.in-Some.ensures ∙ ap (λ l. option_and_then (λ forms. forms) (slice_get l c.args.field)) (c.as_slice.ensures ∙ c.self.invariant.2.headings_are) ∙ forms_found e.class e.rec.fields c.args.field)
    ∙ ap (λ x. full_form_of x c.args.field) c.self.view_is

pub returns-in-None : goal.returns-in-None
returns-in-None c =
    let e = c.self.inside.whole.value in
    no_full_at e c.args.field
    (c.in-None.ensures ∙ ap (λ l. option_and_then (λ forms. forms) (slice_get l c.args.field)) (c.as_slice.ensures ∙ c.self.invariant.2.headings_are) ∙ forms_found e.class e.rec.fields c.args.field)
    ∙ ap (λ x. full_form_of x c.args.field) c.self.view_is
