-- A field whose tag can't be a heading's is none.
use Rattle.std.proofs.Common.{◌≡◌, ◌∙◌, refl, sym, ap, Bool, true, false, ◌||◌, ◌&&◌, Option, Some, None, is_some, if◌then◌else◌}
use Rattle.std.specs.Prelude.{◌==◌}
use Rattle.std.specs.Option.{option_or}
use mathlib.Core.Bool.{false≢true}
use Rattle.marc_types.specs.Fields.{tag_of}
use Rattle.marc_types.specs.declared.field.Field.{Field}
use Rattle.marc_types.specs.declared.field.Field.TheVariants.{Control, Variable}
use Rattle.marc_types.specs.declared.form.Kind.{Kind}
use Rattle.marc_types.specs.declared.key.Class.{Class}
use Rattle.marc_types.specs.declared.key.Class.TheVariants.{Authority, Bibliographic}
use Rattle.heading_fields.specs.Tables.{any_kind, kind_by_tag, kind_of, name_kind, subject_kind}
use Rattle.linked_store.specs.Holding.{can_be_heading}

one_begin : (b : Bool) (kind : Option Kind) → (b && is_some kind) ≡ false → (if b then kind else None) ≡ None
one_begin true None none = refl
one_begin true (Some kind) none = absurd (false≢true (sym none))
one_begin false kind none = refl

two_begins : (x y zero : Bool) (name subject : Option Kind) → ((x || y) && is_some (option_or name subject)) ≡ false
    → (if x then (if zero then option_or name subject else None) else (if y then name else None)) ≡ None
two_begins true y true None None none = refl
two_begins true y true None (Some kind) none = absurd (false≢true (sym none))
two_begins true y true (Some kind) subject none = absurd (false≢true (sym none))
two_begins true y false name subject none = refl
two_begins false true zero None subject none = refl
two_begins false true zero (Some kind) subject none = absurd (false≢true (sym none))
two_begins false false zero name subject none = refl

-- any of the beginnings, as the rules read them
one_or : (x : Bool) → (x || false) ≡ x
one_or true = refl
one_or false = refl

three_or : (x y z : Bool) → (x || (y || (z || false))) ≡ (x || y || z)
three_or true y z = refl
three_or false true z = refl
three_or false false z = one_or z

pub no_heading : (class : Class) (f : Field) → can_be_heading class (tag_of f) ≡ false → kind_of class f ≡ None
unfolding kind_by_tag any_kind
no_heading class (Control tag text) none = refl
no_heading Authority (Variable tag ind1 ind2 subs) none =
    one_begin (tag.a == 53) (any_kind tag.b tag.c) (ap (λ (b : Bool). b && is_some (any_kind tag.b tag.c)) (sym (one_or (tag.a == 53))) ∙ none)
no_heading Bibliographic (Variable tag ind1 ind2 subs) none =
    two_begins (tag.a == 54) ((tag.a == 49) || (tag.a == 55) || (tag.a == 56)) (ind2 == 48) (name_kind tag.b tag.c) (subject_kind tag.b tag.c)
    (ap (λ (b : Bool). ((tag.a == 54) || b) && is_some (any_kind tag.b tag.c)) (sym (three_or (tag.a == 49) (tag.a == 55) (tag.a == 56))) ∙ none)
