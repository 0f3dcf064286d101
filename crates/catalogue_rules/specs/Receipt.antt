-- How a field stands, and what a commit answers: how the committed record's headings stand, and how many other records it
-- changed. The rules are this project's own.
use Rattle.std.specs.Prelude.{ℕ, ◌+◌, Bool, true, false, ◌&&◌, not, List, length, Option}
use Rattle.std.specs.List.{count_by}
use Rattle.std.specs.Option.{option_map_or}
use Rattle.std.specs.Cmp.Lexicographic.{pointwise}
use Rattle.std.specs.Map.{lookup}
use Rattle.marc_types.specs.declared.key.Class.{Class}
use Rattle.marc_types.specs.declared.key.Class.TheVariants.{Authority, Bibliographic}
use Rattle.marc_types.specs.declared.key.Key.{Key}
use Rattle.marc_types.specs.declared.entry.Receipt.{Receipt}
use Rattle.marc_types.specs.Order.{same_key}
use Rattle.entry_record.specs.Authority.{Linkable, heading_kind}
use Rattle.catalogue_rules.specs.State.{KeptField, KeptRecord, Row, State, rows_of, linkable_authorities}
use Rattle.catalogue_rules.specs.Choice.{Choice, Link, Ambiguous, Unlinked, choice}
use Rattle.catalogue_rules.specs.Sameness.{same_kept}
use Rattle.catalogue_rules.specs.Settle.{Arrival, state_after, step}

-- linked under a key, ambiguous between the authorities with these keys (in key order), unlinked, or no heading field
pub data Standing : Type 0 where
  LinkedTo : Key → Standing
  AmbiguousAmong : List Key → Standing
  WithoutLink : Standing
  WithoutHeading : Standing

-- how a field without a link stands by its choice
abbrev pub standing_by : Choice → Standing
standing_by (Link c whole) = WithoutLink
standing_by (Ambiguous keys) = AmbiguousAmong keys
standing_by Unlinked = WithoutLink

-- how a field without a link stands: ambiguous, without a link, or no heading
abbrev pub standing_unlinked : List Linkable → Class → KeptField → Standing
standing_unlinked authorities class h =
    option_map_or (λ kind. standing_by (choice authorities class kind h)) (heading_kind class h.field) WithoutHeading

-- how a field stands: by its tie where it is linked, else by its choice
unfoldable pub standing_of : List Linkable → Class → KeptField → Standing
standing_of authorities class h = option_map_or (λ key. LinkedTo key) h.tie.key (standing_unlinked authorities class h)

-- it is linked
abbrev pub is_linked : Standing → Bool
is_linked (LinkedTo key) = true
is_linked (AmbiguousAmong keys) = false
is_linked WithoutLink = false
is_linked WithoutHeading = false

-- it is ambiguous
abbrev pub is_ambiguous : Standing → Bool
is_ambiguous (LinkedTo key) = false
is_ambiguous (AmbiguousAmong keys) = true
is_ambiguous WithoutLink = false
is_ambiguous WithoutHeading = false

-- a heading field that is neither linked nor ambiguous
abbrev pub is_unlinked : Standing → Bool
is_unlinked (LinkedTo key) = false
is_unlinked (AmbiguousAmong keys) = false
is_unlinked WithoutLink = true
is_unlinked WithoutHeading = false

-- how many fields of a record stand so
abbrev pub count_standing : (Standing → Bool) → List Linkable → Class → KeptRecord → ℕ
count_standing test authorities class r = count_by (λ h. test (standing_of authorities class h)) r.fields

-- the record that is kept under a key of a class, where there is one
abbrev pub kept_under : Class → Key → State → Option KeptRecord
kept_under class key s = lookup (same_key key) (rows_of class s)

-- whether two classes are the same
abbrev pub same_class : Class → Class → Bool
same_class Authority Authority = true
same_class Bibliographic Bibliographic = true
same_class Authority Bibliographic = false
same_class Bibliographic Authority = false

-- the committed record itself
abbrev pub is_committed : Arrival → Class → Key → Bool
is_committed a class key = same_class a.class class && same_key a.key key

-- a field or a tie differs
abbrev pub differs : KeptRecord → KeptRecord → Bool
differs now before = not (pointwise same_kept before.fields now.fields)

-- another record than the committed one, kept before and after, that differs
abbrev pub is_changed_row : Arrival → State → Class → Row → Bool
is_changed_row a before class row =
    not (is_committed a class row.0) && option_map_or (differs row.1) (kept_under class row.0 before) false

-- how many other records of a class are kept before and after, and differ
abbrev pub changed_in : Arrival → State → State → Class → ℕ
changed_in a before now class = count_by (is_changed_row a before class) (rows_of class now)

-- the receipt of a commit that takes one state to another, behind so many entries; a deletion leaves no record to count in
unfoldable pub receipt_of : ℕ → State → Arrival → State → Receipt
receipt_of at before a now = record {
  at = at;
  linked = count is_linked;
  ambiguous = count is_ambiguous;
  unlinked = count is_unlinked;
  changed_records = changed_in a before now Authority + changed_in a before now Bibliographic;
}
  where
    count : (Standing → Bool) → ℕ
    count test = option_map_or (count_standing test (linkable_authorities now) a.class) (kept_under a.class a.key now) 0

-- the receipt of one more entry behind a history
unfoldable pub receipt : List Arrival → Arrival → Receipt
receipt history a = let before = state_after history in receipt_of (length history) before a (step before a)
