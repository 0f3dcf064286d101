-- A field is the same as itself.
use Rattle.std.proofs.Common.{◌≡◌, refl, List, [], ◌∷◌, Option, Some, None, true}
use Rattle.std.specs.Prelude.{◌==◌, ◌&&◌, bytes_eq}
use Rattle.std.specs.Bool.{beq}
use Rattle.std.specs.Cmp.{booleans_Decides, unsigned_Decides}
use Rattle.std.specs.Cmp.Lexicographic.{pointwise}
use Rattle.std.specs.Option.{option_eq}
use Rattle.std.proofs.lemmas.Bool.{and_from}
use Rattle.marc_types.specs.Order.{key_Decides, same_key, text_Decides}
use Rattle.marc_types.specs.declared.entry.Tie.{Tie}
use Rattle.marc_types.specs.declared.field.Field.{Field}
use Rattle.marc_types.specs.declared.field.Field.TheVariants.{Control, Variable}
use Rattle.marc_types.specs.declared.field.Subfield.{Subfield}
use Rattle.marc_types.specs.declared.field.Tag.{Tag}
use Rattle.marc_types.specs.declared.key.Key.{Key}
use Rattle.catalogue_rules.specs.Sameness.{same_field, same_kept, same_subfield, same_tag, same_tie}
use Rattle.catalogue_rules.specs.State.{KeptField}

tag_alike : (s : Tag) → same_tag s s ≡ true
tag_alike s =
    and_from ((s.a == s.a) && (s.b == s.b)) (s.c == s.c)
    (and_from (s.a == s.a) (s.b == s.b) ((unsigned_Decides s.a s.a).1 refl) ((unsigned_Decides s.b s.b).1 refl)) ((unsigned_Decides s.c s.c).1 refl)

subfield_alike : (s : Subfield) → same_subfield s s ≡ true
subfield_alike s = and_from (s.code == s.code) (bytes_eq s.text s.text) ((unsigned_Decides s.code s.code).1 refl) ((text_Decides s.text s.text).1 refl)

subfields_alike : (subs : List Subfield) → pointwise same_subfield subs subs ≡ true
subfields_alike [] = refl
subfields_alike (s ∷ subs) = and_from (same_subfield s s) (pointwise same_subfield subs subs) (subfield_alike s) (subfields_alike subs)

field_alike : (f : Field) → same_field f f ≡ true
unfolding same_field
field_alike (Control tag text) = and_from (same_tag tag tag) (bytes_eq text text) (tag_alike tag) ((text_Decides text text).1 refl)
field_alike (Variable tag ind1 ind2 subs) =
    and_from (same_tag tag tag && (ind1 == ind1) && (ind2 == ind2)) (pointwise same_subfield subs subs)
    (and_from (same_tag tag tag && (ind1 == ind1)) (ind2 == ind2)
    (and_from (same_tag tag tag) (ind1 == ind1) (tag_alike tag) ((unsigned_Decides ind1 ind1).1 refl)) ((unsigned_Decides ind2 ind2).1 refl))
    (subfields_alike subs)

key_alike : (key : Option Key) → option_eq same_key key key ≡ true
key_alike None = refl
key_alike (Some key) = (key_Decides key key).1 refl

tie_alike : (t : Tie) → same_tie t t ≡ true
unfolding same_tie
tie_alike t =
    and_from (option_eq same_key t.key t.key && beq t.whole t.whole) (option_eq same_key t.awaits t.awaits)
    (and_from (option_eq same_key t.key t.key) (beq t.whole t.whole) (key_alike t.key) ((booleans_Decides t.whole t.whole).1 refl)) (key_alike t.awaits)

pub kept_alike : (h : KeptField) → same_kept h h ≡ true
kept_alike h = and_from (same_field h.field h.field) (same_tie h.tie h.tie) (field_alike h.field) (tie_alike h.tie)
