-- How a field takes over the heading of the authority that it is linked to, and how it gives a link up. The rules are
-- this project's own; that `$0` tells the authority, and that the first indicator belongs to a name, is MARC 21.
use Rattle.std.specs.Prelude.{ℕ, Bool, not, List, ◌∷◌, ◌++◌, filter}
use Rattle.marc_types.specs.declared.field.Subfield.{Subfield}
use Rattle.marc_types.specs.declared.field.Field.{Field}
use Rattle.marc_types.specs.declared.field.Field.TheVariants.{Control, Variable}
use Rattle.marc_types.specs.declared.key.Class.{Class}
use Rattle.marc_types.specs.declared.key.Key.{Key}
use Rattle.marc_types.specs.declared.form.Kind.{Kind}
use Rattle.marc_types.specs.declared.form.Kind.TheVariants.{Personal, Corporate, Meeting, Title, Chronological, Topical, Geographic, Genre}
use Rattle.heading_fields.specs.Parts.{before, onward, region, behind, is_part, part, reaches}
use Rattle.marc_types.specs.Fields.{subfields_of}
use Rattle.heading_fields.specs.Numbers.{unnumbered, number_of}

-- the first indicator of a field, or another number for a control field
abbrev pub indicator_of : Field → ℕ → ℕ
indicator_of (Control tag text) other = other
indicator_of (Variable tag ind1 ind2 subs) other = ind1

-- the first indicator of a rewritten field: with a name it is the heading's, which tells how the name is entered
abbrev pub rewritten_indicator : Kind → Field → ℕ → ℕ
rewritten_indicator Personal heading ind1 = indicator_of heading ind1
rewritten_indicator Corporate heading ind1 = indicator_of heading ind1
rewritten_indicator Meeting heading ind1 = indicator_of heading ind1
rewritten_indicator Title heading ind1 = ind1
rewritten_indicator Chronological heading ind1 = ind1
rewritten_indicator Topical heading ind1 = ind1
rewritten_indicator Geographic heading ind1 = ind1
rewritten_indicator Genre heading ind1 = ind1

-- the subfields outside a part that stand before its first one
unfoldable pub front : Bool → Kind → List Subfield → List Subfield
front whole kind subs = before (is_part whole kind) (region whole subs)

-- the other subfields outside the part
unfoldable pub rest : Bool → Kind → List Subfield → List Subfield
rest whole kind subs =
    filter (λ s. not (is_part whole kind s)) (onward (is_part whole kind) (region whole subs)) ++ behind whole subs

-- The part gives way to the heading's part and one `$0` with the key's text, at the place where it began. Each old `$0`
-- that names the key is dropped.
unfoldable pub rewritten_subfields : Bool → Kind → Key → List Subfield → List Subfield → List Subfield
rewritten_subfields whole kind key heading subs =
    unnumbered key (front whole kind subs) ++ part whole kind heading
    ++ number_of key ∷ unnumbered key (rest whole kind subs)

-- the rewriting of a field from the heading of the authority with that key, whole or by the base; a control field has
-- no heading and stays
unfoldable pub rewriting : Field → Kind → Class → Field → Key → Bool → Field
rewriting (Control tag text) kind class heading key whole = Control tag text
rewriting (Variable tag ind1 ind2 subs) kind class heading key whole =
    Variable tag (rewritten_indicator kind heading ind1) ind2
    (rewritten_subfields (reaches whole class (Variable tag ind1 ind2 subs)) kind key (subfields_of heading) subs)

-- a field without each `$0` that names the key
unfoldable pub unlinking : Field → Key → Field
unlinking (Control tag text) key = Control tag text
unlinking (Variable tag ind1 ind2 subs) key = Variable tag ind1 ind2 (unnumbered key subs)
