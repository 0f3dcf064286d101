-- Why an open heading isn't linked: the first reason that holds. The rules are this project's own.
use Rattle.std.specs.Prelude.{ℕ, Bool, false, ◌&&◌, ◌||◌, not, List, [], ◌∷◌, ◌++◌, find, codes, Option, None, if◌then◌else◌}
use Rattle.std.specs.List.{list_any}
use Rattle.std.specs.Option.{option_map_or, option_or}
use Rattle.marc_types.specs.declared.key.Key.{Key}
use Rattle.marc_types.specs.declared.form.Kind.{Kind}
use Rattle.marc_types.specs.declared.form.Kind.TheVariants.{Personal, Corporate, Meeting, Title, Chronological, Topical, Geographic, Genre}
use Rattle.marc_types.specs.declared.form.Form.{Form}
use Rattle.marc_types.specs.Order.{same_form}
use Rattle.entry_record.specs.Authority.{Linkable, same_kind}
use Rattle.catalogue_rules.specs.State.{State, linkable_authorities}
use Rattle.catalogue_rules.specs.Choice.{asks_base, is_established}
use Rattle.heading_worklist.specs.Texts.{kind_word}
use Rattle.heading_worklist.specs.Authorities.{form_of_heading, heading_under}
use Rattle.heading_worklist.specs.Identifying.{has_naming, is_absent, is_there}
use Rattle.heading_worklist.specs.declared.authorities.AuthorityHeading.{AuthorityHeading}
use Rattle.heading_worklist.specs.declared.identifying.Naming.TheVariants.{Otherwise, Nobody, Somebody}
use Rattle.heading_worklist.specs.declared.reasons.Reason.{Reason}
use Rattle.heading_worklist.specs.declared.reasons.Reason.TheVariants.{AwaitsAbsent, OtherIdentifier, NamesNobody, NamesUnfit, SharedHeading, SharedSeeFrom, OtherKind, NoAuthority}
use Rattle.heading_worklist.specs.Headings.{OpenHeading, compared, is_ambiguous}

-- it awaits a key that isn't there
abbrev pub awaits_absent : State → OpenHeading → Bool
awaits_absent s x = option_map_or (is_absent s) x.held.tie.awaits false

-- It names or awaits a key under which an authority record stands. Since the heading isn't linked, that one is of another kind, or can't be
-- linked to, or isn't for a heading with subdivisions.
abbrev pub has_unfit : State → OpenHeading → Bool
has_unfit s x = has_naming s Somebody x.held.field || option_map_or (is_there s) x.held.tie.awaits false

-- the authority's heading is the full form or the base form
abbrev pub is_headed_so : OpenHeading → AuthorityHeading → Bool
is_headed_so x h = same_form (compared x).full (form_of_heading h) || same_form (compared x).base (form_of_heading h)

-- the authority record under the key has such a heading
abbrev pub is_headed_under : State → OpenHeading → Key → Bool
is_headed_under s x key = option_map_or (is_headed_so x) (heading_under s key) false

-- its first two candidates have that heading; then all were found by it
abbrev pub shares_heading : State → List Key → OpenHeading → Bool
shares_heading s (key ∷ other ∷ keys) x = is_headed_under s x key && is_headed_under s x other
shares_heading s _ x = false

-- the eight kinds
abbrev pub all_kinds : List Kind
all_kinds = Personal ∷ Corporate ∷ Meeting ∷ Title ∷ Chronological ∷ Topical ∷ Geographic ∷ Genre ∷ []

-- a form as it is under another kind
abbrev pub form_as : Kind → Form → Form
form_as kind form = record { kind = kind; items = form.items }

-- an authority of another kind than the form's has the form as its established form
abbrev pub has_as : List Linkable → Form → Kind → Bool
has_as all form kind = not (same_kind kind form.kind) && list_any (is_established (form_as kind form)) all

-- the first kind of which such an authority is
abbrev pub other_kind : List Linkable → Form → Option Kind
other_kind all form = find (has_as all form) all_kinds

-- by its full form; else by its base form, where it is looked up by that
abbrev pub other_kind_of : List Linkable → OpenHeading → Option Kind
other_kind_of all x =
    option_or (other_kind all (compared x).full)
    (if asks_base x.class x.held then other_kind all (compared x).base else None)

-- why a heading isn't linked, where no key tells it
abbrev pub reason_by_form : State → OpenHeading → Reason
reason_by_form s x =
    if shares_heading s x.candidates x then SharedHeading
    else if is_ambiguous x then SharedSeeFrom
    else option_map_or (λ kind. OtherKind kind) (other_kind_of (linkable_authorities s) x) NoAuthority

-- why a heading isn't linked
abbrev pub reason_of : State → OpenHeading → Reason
reason_of s x =
    if awaits_absent s x then AwaitsAbsent
    else if has_naming s Otherwise x.held.field then OtherIdentifier
    else if has_naming s Nobody x.held.field then NamesNobody
    else if has_unfit s x then NamesUnfit
    else reason_by_form s x

-- a reason in words, of which the kind is told behind them
abbrev pub reason_stem : Reason → List ℕ
reason_stem AwaitsAbsent = codes "awaits an authority that isn't there"
reason_stem OtherIdentifier = codes "an identifier is no authority's key"
reason_stem NamesNobody = codes "an identifier names no authority"
reason_stem NamesUnfit = codes "it names or awaits an authority that doesn't fit"
reason_stem SharedHeading = codes "several authorities have this heading"
reason_stem SharedSeeFrom = codes "several authorities are found under this heading"
reason_stem (OtherKind kind) = codes "only an authority of another kind has this heading: "
reason_stem NoAuthority = codes "no authority has this heading"

-- the kind that a reason tells
abbrev pub reason_kind : Reason → List ℕ
reason_kind (OtherKind kind) = kind_word kind
reason_kind _ = []

-- a reason in words
abbrev pub reason_words : Reason → List ℕ
reason_words reason = reason_stem reason ++ reason_kind reason
