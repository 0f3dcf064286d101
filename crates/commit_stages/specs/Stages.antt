-- The stages of a commit for the entry that is committed.
use Rattle.std.specs.Prelude.{◌≡◌, ℕ, Bool, List, [], Option, find, if◌then◌else◌}
use Rattle.std.specs.Option.{option_map_or}
use Rattle.marc_types.specs.declared.entry.Entry.{Entry}
use Rattle.marc_types.specs.declared.form.Form.{Form}
use Rattle.marc_types.specs.declared.key.Class.{Class}
use Rattle.marc_types.specs.declared.key.Class.TheVariants.{Authority}
use Rattle.entry_record.specs.Authority.{Linkable}
use Rattle.entry_record.specs.Identity.{is_deletion}
use Rattle.catalogue_rules.specs.Choice.{has_key}
use Rattle.catalogue_rules.specs.Receipt.{Standing, is_linked, is_ambiguous, is_unlinked}
use Rattle.catalogue_rules.specs.Settle.{Arrival, arrival_of}
use Rattle.catalogue_rules.specs.State.{KeptField, linkable_authorities}
use Rattle.linking_laws.specs.Stages.{Dropping, DropNone, DropBases, DropAll, carry_by, drop_by, dropping_by, successor_in}
use Rattle.linking_laws.specs.Visits.{carry_visits, drop_visits_by}
use Rattle.linking_laws.specs.Waiting.{forms_of}
use Rattle.catalogue_tables.specs.Following.{authority_brought}
use Rattle.catalogue_tables.specs.Known.{IsKnownAs}
use Rattle.catalogue_tables.specs.declared.known.KnownAuthority.{KnownAuthority}
use Rattle.linked_store.specs.Linked.{Linked, key_of, record_at}
use Rattle.linked_store.specs.Placing.{record_brought}
use Rattle.commit_stages.specs.Counted.{count_settled}
use Rattle.commit_stages.specs.declared.counts.HeadingCounts.{HeadingCounts}
use Rattle.commit_stages.specs.declared.brought.Ending.{Ending}
use Rattle.commit_stages.specs.declared.brought.Ending.TheVariants.{Nothing, Bases, All}

-- which links end, by what ends
abbrev pub dropping_to : Ending → Dropping
dropping_to Nothing = DropNone
dropping_to Bases = DropBases
dropping_to All = DropAll

-- this is known of the authority under the key that has the number, if fields can be linked to it
abbrev pub IsKnownIn : ℕ → Linked → Option KnownAuthority → Type 0
IsKnownIn number x known = IsKnownAs (find (has_key (key_of Authority number x.keys)) (linkable_authorities x.state)) known

-- of an authority that was known as this one, or of none, those links end that the entry leaves none of
abbrev pub EndsLinksOf : Option KnownAuthority → Entry → Ending → Type 0
EndsLinksOf known e ending = (before : Option Linkable) → IsKnownAs before known → dropping_to ending ≡ dropping_by before (authority_brought (arrival_of e))

-- what dropping makes of a field, over these authorities
abbrev pub drop_of : Ending → Entry → List Linkable → Class → KeptField → KeptField
drop_of ending e all = drop_by (dropping_to ending) all e.key (successor_in (arrival_of e))

-- how many visits it takes
abbrev pub drop_visits_of : Ending → Entry → List Linkable → Class → KeptField → ℕ
drop_visits_of ending e all = drop_visits_by (dropping_to ending) all e.key (successor_in (arrival_of e))

-- what carrying makes of a field, from the heading of the authority that the entry brings, if fields can be linked to it
abbrev pub carry_of : Entry → Class → KeptField → KeptField
carry_of e = carry_by e.key (authority_brought (arrival_of e))

-- how many visits it takes
abbrev pub carry_visits_of : Entry → Class → KeptField → ℕ
carry_visits_of e = carry_visits e.key (authority_brought (arrival_of e))

-- under the number stands the record that the entry brings, as it came, or none where it is a deletion
abbrev pub IsBrought : ℕ → Entry → Linked → Type 0
IsBrought number e x = record_at e.class number x ≡ record_brought (arrival_of e)

-- how many of the fields that an entry brings stand so once they are settled; a deletion brings none
abbrev pub stand_brought : (Standing → Bool) → List Linkable → Entry → ℕ
stand_brought test all e =
    if is_deletion e.rec.leader then 0 else count_settled test all e.class e.rec.fields

-- how many of the headings that an entry brings are linked, ambiguous and unlinked
pub record AreCountsBrought (all : List Linkable) (e : Entry) (counts : HeadingCounts) : Type 0 where
  pub linked : counts.linked ≡ stand_brought is_linked all e
  pub ambiguous : counts.ambiguous ≡ stand_brought is_ambiguous all e
  pub unlinked : counts.unlinked ≡ stand_brought is_unlinked all e

-- the forms under which the authority is found that an entry brings, if fields can be linked to it
abbrev pub forms_of_brought : Arrival → List Form
forms_of_brought a = option_map_or forms_of (authority_brought a) []
