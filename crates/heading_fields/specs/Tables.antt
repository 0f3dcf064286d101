-- Which tags have headings and of what kind, and which subfield codes belong to a heading. Source: MARC 21 Format for
-- Bibliographic Data and MARC 21 Format for Authority Data (tags, indicators, subfield codes). Which codes are
-- controlled is this project's profile.
use Rattle.std.specs.Prelude.{ℕ, ◌==◌, Bool, ◌&&◌, ◌||◌, List, Option, Some, None, if◌then◌else◌, codes}
use Rattle.std.specs.Option.{option_or}
use Rattle.std.specs.List.{list_any}
use Rattle.marc_types.specs.declared.field.Tag.{Tag}
use Rattle.marc_types.specs.declared.field.Field.{Field}
use Rattle.marc_types.specs.declared.field.Field.TheVariants.{Control, Variable}
use Rattle.marc_types.specs.declared.key.Class.{Class}
use Rattle.marc_types.specs.declared.key.Class.TheVariants.{Authority, Bibliographic}
use Rattle.marc_types.specs.declared.form.Kind.{Kind}
use Rattle.marc_types.specs.declared.form.Kind.TheVariants.{Personal, Corporate, Meeting, Title, Chronological, Topical, Geographic, Genre}

-- the kind of a name or a title, by the last two characters of its tag: 00, 10, 11, 30
abbrev pub name_kind : ℕ → ℕ → Option Kind
name_kind b c =
    if (b == 48) && (c == 48) then Some Personal else
    (if (b == 49) && (c == 48) then Some Corporate else
    (if (b == 49) && (c == 49) then Some Meeting else
    (if (b == 51) && (c == 48) then Some Title else None)))

-- the kind of another heading, by the last two characters of its tag: 48, 50, 51, 55
abbrev pub subject_kind : ℕ → ℕ → Option Kind
subject_kind b c =
    if (b == 52) && (c == 56) then Some Chronological else
    (if (b == 53) && (c == 48) then Some Topical else
    (if (b == 53) && (c == 49) then Some Geographic else
    (if (b == 53) && (c == 53) then Some Genre else None)))

-- the kind by the last two characters of a tag
unfoldable pub any_kind : ℕ → ℕ → Option Kind
any_kind b c = option_or (name_kind b c) (subject_kind b c)

-- the kind of an authority's heading (1XX) or see-from heading (4XX)
unfoldable pub authority_kind_of : Tag → Option Kind
authority_kind_of t = if (t.a == 49) || (t.a == 52) then any_kind t.b t.c else None

-- the kind of a field that is put under a heading: in an authority record a 5XX; in a bibliographic one a 1XX, 7XX or
-- 8XX of a name or a title, or a 6XX whose second indicator is 0, as those of the Library of Congress Subject Headings
unfoldable pub kind_by_tag : Class → Tag → ℕ → Option Kind
kind_by_tag Authority t ind2 = if t.a == 53 then any_kind t.b t.c else None
kind_by_tag Bibliographic t ind2 =
    if t.a == 54 then (if ind2 == 48 then any_kind t.b t.c else None) else
    (if (t.a == 49) || (t.a == 55) || (t.a == 56) then name_kind t.b t.c else None)

-- the kind of a field in a record of a class
abbrev pub kind_of : Class → Field → Option Kind
kind_of class (Control tag text) = None
kind_of class (Variable tag ind1 ind2 subs) = kind_by_tag class tag ind2

-- a field takes subdivisions where it is a 1XX, 4XX or 5XX of an authority record, or a 6XX of a bibliographic one
unfoldable pub is_subdividable : Class → Tag → Bool
is_subdividable Authority t = (t.a == 49) || (t.a == 52) || (t.a == 53)
is_subdividable Bibliographic t = t.a == 54

-- the controlled codes of a kind
abbrev pub controlled_codes : Kind → List ℕ
controlled_codes Personal = codes "abcdfgklmnopqrst"
controlled_codes Corporate = codes "abcdfgklmnoprst"
controlled_codes Meeting = codes "acdefgklnpqst"
controlled_codes Title = codes "adfgklmnoprst"
controlled_codes Chronological = codes "a"
controlled_codes Topical = codes "ab"
controlled_codes Geographic = codes "a"
controlled_codes Genre = codes "a"

-- the code belongs to a heading of the kind
unfoldable pub is_controlled : Kind → ℕ → Bool
is_controlled kind code = list_any (λ c. c == code) (controlled_codes kind)

-- form, general, chronological and geographic subdivision: $v, $x, $y, $z
unfoldable pub is_subdivision : ℕ → Bool
is_subdivision code = list_any (λ c. c == code) (codes "vxyz")
