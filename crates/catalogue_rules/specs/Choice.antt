-- What an unlinked heading field is linked to: by a number, else by its form, each a scan of all authorities. Source: MARC 21
-- ($0, authority record control number; see from tracings); the order of the steps is this project's own.
use Rattle.std.specs.Prelude.{Bool, true, false, ◌&&◌, ◌||◌, not, List, [], ◌∷◌, map, filter, find, Option, Some, None, unwrap_or, option_and_then, if◌then◌else◌}
use Rattle.std.specs.List.{list_any}
use Rattle.std.specs.Option.{option_or, option_map}
use Rattle.marc_types.specs.Fields.{tag_of, subfields_of}
use Rattle.marc_types.specs.Order.{same_form, same_key}
use Rattle.marc_types.specs.declared.field.Subfield.{Subfield}
use Rattle.marc_types.specs.declared.key.Class.{Class}
use Rattle.marc_types.specs.declared.key.Key.{Key}
use Rattle.marc_types.specs.declared.form.Kind.{Kind}
use Rattle.marc_types.specs.declared.form.Form.{Form}
use Rattle.heading_fields.specs.Tables.{is_subdividable}
use Rattle.heading_fields.specs.Parts.{is_subdivided}
use Rattle.heading_fields.specs.Numbers.{is_naming}
use Rattle.entry_record.specs.Authority.{Linkable, is_bare, same_kind, base_form, full_form}
use Rattle.catalogue_rules.specs.State.{KeptField}

-- a link to an authority, whole or by its base; or no link, with the keys that it could be or with none
pub data Choice : Type 0 where
  Link : Linkable → Bool → Choice
  Ambiguous : List Key → Choice
  Unlinked : Choice

-- the authority stands under the key
abbrev pub has_key : Key → Linkable → Bool
has_key key c = same_key key c.key

-- the field's tag takes subdivisions in a record of the class
abbrev pub takes_subdivisions : Class → KeptField → Bool
takes_subdivisions class h = is_subdividable class (tag_of h.field)

-- the field has a subdivision
abbrev pub has_subdivision : KeptField → Bool
has_subdivision h = is_subdivided (subfields_of h.field)

-- an authority can take a field by number where it is of the field's kind, and the field takes subdivisions or the heading is
-- bare
abbrev pub can_take : Class → Kind → KeptField → Linkable → Bool
can_take class kind h c = same_kind kind c.kind && (takes_subdivisions class h || is_bare c)

-- taken so, the field is linked whole where it takes subdivisions and is whole already, or has none, or the heading isn't bare
abbrev pub is_taken_whole : Class → KeptField → Linkable → Bool
is_taken_whole class h c = takes_subdivisions class h && (h.tie.whole || not (has_subdivision h) || not (is_bare c))

-- the link to the first authority that passes and can take the field
abbrev pub link_where : (Linkable → Bool) → List Linkable → Class → Kind → KeptField → Option Choice
link_where test authorities class kind h =
    option_map (λ c. Link c (is_taken_whole class h c)) (find (λ c. test c && can_take class kind h c) authorities)

-- the authority with the awaited key
abbrev pub by_awaited : List Linkable → Class → Kind → KeptField → Option Choice
by_awaited authorities class kind h = option_and_then (λ key. link_where (has_key key) authorities class kind h) h.tie.awaits

-- the first `$0`, in order, that names an authority that can take the field
abbrev pub by_first_name : List Linkable → Class → Kind → KeptField → List Subfield → Option Choice
by_first_name authorities class kind h [] = None
by_first_name authorities class kind h (s ∷ subs) =
    option_or (link_where (λ c. is_naming c.key s) authorities class kind h) (by_first_name authorities class kind h subs)

-- by the awaited key, else by the first `$0` that names an authority which can take the field
unfoldable pub by_number : List Linkable → Class → Kind → KeptField → Option Choice
by_number authorities class kind h =
    option_or (by_awaited authorities class kind h) (by_first_name authorities class kind h (subfields_of h.field))

-- the keys of authorities, in their order
abbrev pub keys_of_linkable : List Linkable → List Key
keys_of_linkable found = map (λ c. c.key) found

-- one authority is a link, two or more are ambiguous
abbrev pub choice_among : Bool → List Linkable → Option Choice
choice_among link_whole [] = None
choice_among link_whole (c ∷ []) = Some (Link c link_whole)
choice_among link_whole (c ∷ other ∷ more) = Some (Ambiguous (keys_of_linkable (c ∷ other ∷ more)))

-- the form is the authority's established form
abbrev pub is_established : Form → Linkable → Bool
is_established form c = same_form form c.established

-- the form is one of the authority's see-from forms
abbrev pub is_see_from_form : Form → Linkable → Bool
is_see_from_form form c = list_any (same_form form) c.see_from

-- the authorities with this established form; if there is none, those with this form in a see from tracing
unfoldable pub by_form : List Linkable → Bool → Form → Option Choice
by_form authorities link_whole form =
    option_or
    (choice_among link_whole (filter (is_established form) authorities))
    (choice_among link_whole (filter (is_see_from_form form) authorities))

-- by the full form, where the field takes subdivisions
abbrev pub by_full_form : List Linkable → Class → Kind → KeptField → Option Choice
by_full_form authorities class kind h =
    if takes_subdivisions class h then by_form authorities true (full_form kind class h.field) else None

-- whether the field is looked up by its base: it isn't whole, and it takes no subdivisions or has one
abbrev pub asks_base : Class → KeptField → Bool
asks_base class h = not h.tie.whole && (not (takes_subdivisions class h) || has_subdivision h)

-- by the base form, among the headings without a subdivision
abbrev pub by_base_form : List Linkable → Class → Kind → KeptField → Option Choice
by_base_form authorities class kind h =
    if asks_base class h then by_form (filter is_bare authorities) false (base_form kind h.field) else None

-- the choice of an unlinked heading field of this kind, over all authorities
unfoldable pub choice : List Linkable → Class → Kind → KeptField → Choice
choice authorities class kind h =
    unwrap_or
    (option_or (by_number authorities class kind h)
    (option_or (by_full_form authorities class kind h) (by_base_form authorities class kind h)))
    Unlinked
