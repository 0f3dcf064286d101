-- Which tags a heading field may have.
use Rattle.std.proofs.Common.{◌≡◌, ℕ, ◌==◌, false, ◌||◌, Option, Some, None, refl}
use Rattle.std.proofs.lemmas.Bool.{or_parts}
use Rattle.marc_types.specs.declared.field.Tag.{Tag}
use Rattle.marc_types.specs.declared.field.Field.{Field}
use Rattle.marc_types.specs.declared.field.Field.TheVariants.{Control, Variable}
use Rattle.marc_types.specs.declared.key.Class.{Class}
use Rattle.marc_types.specs.declared.key.Class.TheVariants.{Authority, Bibliographic}
use Rattle.marc_types.specs.declared.form.Kind.{Kind}
use Rattle.marc_types.specs.Fields.{tag_of}
use Rattle.heading_fields.specs.Tables.{kind_of, kind_by_tag}
use Rattle.kept_rows.specs.Tests.{may_be_heading}
use Rattle.entry_record.specs.Authority.{has_form, option_filter, heading_kind}

none_filtered : (f : Field) (o : Option Kind) → o ≡ None → option_filter (has_form f) o ≡ None
none_filtered f None e = refl
none_filtered f (Some kind) e = cc

no_kind_of_tag : (class : Class) (tag : Tag) (ind2 : ℕ) → may_be_heading class tag ≡ false → kind_by_tag class tag ind2 ≡ None
unfolding kind_by_tag may_be_heading
no_kind_of_tag Authority tag ind2 h = rw h refl
no_kind_of_tag Bibliographic tag ind2 h =
    let last = or_parts ((tag.a == 49) || (tag.a == 54) || (tag.a == 55)) (tag.a == 56) h in
    let third = or_parts ((tag.a == 49) || (tag.a == 54)) (tag.a == 55) last.0 in
    let first = or_parts (tag.a == 49) (tag.a == 54) third.0 in
    rw (first.1, first.0, third.1, last.1) refl

no_kind_of : (class : Class) (f : Field) → may_be_heading class (tag_of f) ≡ false → kind_of class f ≡ None
no_kind_of class (Control tag text) h = refl
no_kind_of class (Variable tag ind1 ind2 subs) h = no_kind_of_tag class tag ind2 h

pub no_kind : (class : Class) (f : Field) → may_be_heading class (tag_of f) ≡ false → heading_kind class f ≡ None
unfolding heading_kind
no_kind class f h = none_filtered f (kind_of class f) (no_kind_of class f h)
