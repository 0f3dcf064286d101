-- The reach of a field never grows: not where it is rewritten, nor where it is linked, nor where it is unlinked.
use Rattle.std.proofs.Common.{◌≡◌, ◌≢◌, ◌+◌, ◌≤◌, Bool, true, false, not, List, [], Option, Some, None, refl, ap, ◌∙◌, arith}
use Rattle.marc_types.specs.declared.field.Field.{Field}
use Rattle.marc_types.specs.declared.field.Field.TheVariants.{Control, Variable}
use Rattle.marc_types.specs.declared.key.Class.{Class}
use Rattle.marc_types.specs.declared.key.Key.{Key}
use Rattle.marc_types.specs.declared.form.Kind.{Kind}
use Rattle.marc_types.specs.Valid.{subfields_size}
use Rattle.heading_fields.specs.Tables.{kind_of}
use Rattle.heading_fields.specs.Parts.{base_part, field_outside, reaches}
use Rattle.marc_types.specs.Fields.{subfields_of}
use Rattle.heading_fields.specs.Numbers.{is_naming, unnumbered}
use Rattle.heading_fields.specs.Rewriting.{rewriting, unlinking}
use Rattle.heading_fields.proofs.Fieldlaws.{base_part_rewriting, field_part_rewriting, field_outside_rewriting, kind_of_rewriting, kind_of_unlinking, tag_of_unlinking, field_part_unlinking}
use Rattle.heading_fields.proofs.Sublaws.{size_filter}
use Rattle.entry_record.specs.Authority.{Linkable, has_form, option_filter, heading_kind}
use Rattle.catalogue_rules.specs.State.{KeptField}
use Rattle.catalogue_rules.specs.Settle.{link_to, end_link}
use Rattle.catalogue_rules.specs.Valid.{other_subfields, heading_reach, reach}
use Rattle.catalogue_rules.proofs.Fit.{IsFit}
use Rattle.catalogue_rules.proofs.Proper.{option_passes, part_of_form}
use Rattle.catalogue_rules.proofs.Sizes.{part_within_full, outside_less, outside_unnumbered}

-- ---- the kind of a heading field stays

kind_by : (f : Field) (kind : Kind) (o : Option Kind) → o ≡ Some kind → has_form f kind ≡ true → option_filter (has_form f) o ≡ Some kind
kind_by f kind o e h = rw (e, h) refl

heading_kind_from : (class : Class) (f : Field) (kind : Kind) → kind_of class f ≡ Some kind → has_form f kind ≡ true → heading_kind class f ≡ Some kind
unfolding heading_kind
heading_kind_from class f kind e h = kind_by f kind (kind_of class f) e h

-- the tag's kind, and a base form that isn't empty
pub record IsHeadingOf (class : Class) (f : Field) (kind : Kind) : Type 0 where
  pub kind_is : kind_of class f ≡ Some kind
  pub formed : has_form f kind ≡ true
  pub some : base_part kind f ≢ []

pub heading_of_kind : (class : Class) (f : Field) (kind : Kind) → heading_kind class f ≡ Some kind → IsHeadingOf class f kind
unfolding heading_kind
heading_of_kind class f kind e =
    let both = option_passes (has_form f) kind (kind_of class f) e in
    record { kind_is = both.0; formed = both.1; some = part_of_form f kind both.1 }

form_by_part : (f g : Field) (kind : Kind) → base_part kind f ≡ base_part kind g → has_form f kind ≡ has_form g kind
unfolding has_form
form_by_part f g kind e = rw e refl

-- a rewritten heading field is a heading field of the same kind
pub kind_rewritten : (all : List Linkable) (class : Class) (f : Field) (c : Linkable) (whole : Bool) → IsFit all c → heading_kind class f ≡ Some c.kind →
    heading_kind class (rewriting f c.kind class c.heading c.key whole) ≡ Some c.kind
kind_rewritten all class f c whole fit e =
    let own = heading_of_kind class f c.kind e in
    let g = rewriting f c.kind class c.heading c.key whole in
    let same = base_part_rewriting f c.kind class c.heading c.key whole own.some in
    heading_kind_from class g c.kind (kind_of_rewriting f c.kind class c.heading c.key whole class ∙ own.kind_is)
    (form_by_part g c.heading c.kind same ∙ fit.formed)

form_filter : (f g : Field) (o : Option Kind) → ((kind : Kind) → has_form f kind ≡ has_form g kind) → option_filter (has_form f) o ≡ option_filter (has_form g) o
form_filter f g None same = refl
form_filter f g (Some kind) same = rw (same kind) refl

-- and so is an unlinked one
pub kind_unlinked : (class : Class) (f : Field) (key : Key) → heading_kind class (unlinking f key) ≡ heading_kind class f
unfolding heading_kind
kind_unlinked class f key =
    rw (kind_of_unlinking f key class)
    (form_filter (unlinking f key) f (kind_of class f) (λ kind. form_by_part (unlinking f key) f kind (field_part_unlinking f key kind class false)))

-- ---- the reach of a heading field

pub reach_of : (class : Class) (h : KeptField) (kind : Kind) → heading_kind class h.field ≡ Some kind → reach class h ≡ heading_reach class h kind
unfolding reach
reach_of class h kind e = rw e refl

-- a rewritten field's reach
reach_linked : (all : List Linkable) (class : Class) (h : KeptField) (c : Linkable) (whole : Bool) → IsFit all c → heading_kind class h.field ≡ Some c.kind →
    reach class (link_to class h whole c) ≤ 3 + subfields_size (unnumbered c.key (field_outside whole c.kind class h.field)) + 512 + 84
reach_linked all class h c whole fit e =
    let own = heading_of_kind class h.field c.kind e in
    let is = reach_of class (link_to class h whole c) c.kind (kind_rewritten all class h.field c whole fit e) in
    let out = ap subfields_size (field_outside_rewriting h.field c.kind class c.heading c.key whole fit.blankless) in
    let inside = ap subfields_size (field_part_rewriting h.field c.kind class c.heading c.key whole own.some) in
    let within = part_within_full (reaches whole class h.field) c.kind (subfields_of c.heading) in
    let short = fit.short in
    omega arith

-- a linked field that is rewritten
pub reach_rewritten : (all : List Linkable) (class : Class) (h : KeptField) (c : Linkable) → IsFit all c → heading_kind class h.field ≡ Some c.kind →
    h.tie.key ≡ Some c.key → reach class (link_to class h h.tie.whole c) ≤ reach class h
reach_rewritten all class h c fit e key =
    let now = reach_linked all class h c h.tie.whole fit e in
    let before = reach_of class h c.kind e in
    let own : subfields_size (other_subfields h.tie.key (field_outside h.tie.whole c.kind class h.field)) ≡ subfields_size (unnumbered c.key (field_outside h.tie.whole c.kind class h.field)) =
    rw key refl in
    omega arith

-- an unlinked field that is linked
pub reach_chosen : (all : List Linkable) (class : Class) (h : KeptField) (c : Linkable) (whole : Bool) → IsFit all c → heading_kind class h.field ≡ Some c.kind →
    h.tie.key ≡ None → (reaches h.tie.whole class h.field ≡ true → reaches whole class h.field ≡ true) → reach class (link_to class h whole c) ≤ reach class h
reach_chosen all class h c whole fit e key grows =
    let now = reach_linked all class h c whole fit e in
    let before = reach_of class h c.kind e in
    let own : subfields_size (other_subfields h.tie.key (field_outside h.tie.whole c.kind class h.field)) ≡ subfields_size (field_outside h.tie.whole c.kind class h.field) =
    rw key refl in
    let less = size_filter (λ s. not (is_naming c.key s)) (field_outside whole c.kind class h.field) in
    let fewer = outside_less (reaches h.tie.whole class h.field) (reaches whole class h.field) c.kind (subfields_of h.field) grows in
    omega arith

subfields_unlinked : (f : Field) (key : Key) → subfields_of (unlinking f key) ≡ unnumbered key (subfields_of f)
unfolding unlinking
subfields_unlinked (Control tag text) key = refl
subfields_unlinked (Variable tag ind1 ind2 subs) key = refl

outside_unlinked : (f : Field) (key : Key) (kind : Kind) (class : Class) (whole : Bool) →
    subfields_size (field_outside whole kind class (unlinking f key)) ≤ subfields_size (unnumbered key (field_outside whole kind class f))
outside_unlinked f key kind class whole =
    rw (tag_of_unlinking f key, subfields_unlinked f key) (outside_unnumbered (reaches whole class f) kind key (subfields_of f))

-- a linked field that is unlinked
pub reach_unlinked : (class : Class) (h : KeptField) (kind : Kind) (key : Key) (successor : Option Key) → heading_kind class h.field ≡ Some kind →
    h.tie.key ≡ Some key → reach class (end_link key successor h) ≤ reach class h
reach_unlinked class h kind key successor e linked =
    let now = reach_of class (end_link key successor h) kind (kind_unlinked class h.field key ∙ e) in
    let before = reach_of class h kind e in
    let own : subfields_size (other_subfields h.tie.key (field_outside h.tie.whole kind class h.field)) ≡ subfields_size (unnumbered key (field_outside h.tie.whole kind class h.field)) =
    rw linked refl in
    let out = outside_unlinked h.field key kind class h.tie.whole in
    let inside = ap subfields_size (field_part_unlinking h.field key kind class h.tie.whole) in
    omega arith

-- what a field awaits doesn't matter
pub reach_by : (class : Class) (g h : KeptField) → g.field ≡ h.field → g.tie.key ≡ h.tie.key → g.tie.whole ≡ h.tie.whole → reach class g ≡ reach class h
unfolding reach
reach_by class g h field key whole = rw (field, key, whole) refl
