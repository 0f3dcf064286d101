-- When two kept fields are the same: the field and its tie.
use Rattle.std.specs.Prelude.{◌==◌, Bool, false, ◌&&◌, bytes_eq}
use Rattle.std.specs.Bool.{beq}
use Rattle.std.specs.Option.{option_eq}
use Rattle.std.specs.Cmp.Lexicographic.{pointwise}
use Rattle.marc_types.specs.declared.field.Tag.{Tag}
use Rattle.marc_types.specs.declared.field.Subfield.{Subfield}
use Rattle.marc_types.specs.declared.field.Field.{Field}
use Rattle.marc_types.specs.declared.field.Field.TheVariants.{Control, Variable}
use Rattle.marc_types.specs.declared.entry.Tie.{Tie}
use Rattle.marc_types.specs.Order.{same_key}
use Rattle.catalogue_rules.specs.State.{KeptField}

-- whether two tags are the same
abbrev pub same_tag : Tag → Tag → Bool
same_tag s t = (s.a == t.a) && (s.b == t.b) && (s.c == t.c)

-- whether two subfields are the same, byte for byte
abbrev pub same_subfield : Subfield → Subfield → Bool
same_subfield s t = (s.code == t.code) && bytes_eq s.text t.text

-- whether two fields are the same, byte for byte
unfoldable pub same_field : Field → Field → Bool
same_field (Control tag text) (Control other words) = same_tag tag other && bytes_eq text words
same_field (Variable tag ind1 ind2 subs) (Variable other one two others) =
    same_tag tag other && (ind1 == one) && (ind2 == two) && pointwise same_subfield subs others
same_field (Control tag text) (Variable other one two others) = false
same_field (Variable tag ind1 ind2 subs) (Control other words) = false

-- whether two ties are the same
unfoldable pub same_tie : Tie → Tie → Bool
same_tie s t = option_eq same_key s.key t.key && beq s.whole t.whole && option_eq same_key s.awaits t.awaits

-- whether two kept fields are the same, in field and tie
abbrev pub same_kept : KeptField → KeptField → Bool
same_kept g h = same_field g.field h.field && same_tie g.tie h.tie
