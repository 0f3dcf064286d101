-- The numbers of a commit's receipt, from what the stages see: the records with a field that differs, and how the committed
-- record's own fields stand once they are settled. The rules are this project's own.
use Rattle.std.specs.Prelude.{◌≡◌, ℕ, Bool, true, false, List, [], ◌∷◌, map, length, Some, if◌then◌else◌}
use Rattle.std.specs.List.{list_any, count_by}
use Rattle.std.specs.Option.{option_map}
use Rattle.marc_types.specs.declared.key.Class.{Class}
use Rattle.marc_types.specs.declared.key.Key.{Key}
use Rattle.marc_types.specs.declared.key.Place.{Place}
use Rattle.marc_types.specs.declared.entry.Entry.{Entry}
use Rattle.entry_record.specs.Identity.{is_deletion}
use Rattle.marc_types.specs.Order.{same_key}
use Rattle.catalogue_rules.specs.State.{KeptField, KeptRecord, State, new_field, linkable_authorities}
use Rattle.catalogue_rules.specs.Settle.{Arrival, settle_field, step}
use Rattle.catalogue_rules.specs.Settle.{arrival_of}
use Rattle.marc_types.specs.declared.entry.Receipt.{Receipt}
use Rattle.catalogue_rules.specs.Receipt.{Standing, is_linked, is_ambiguous, is_unlinked, receipt_of, standing_of, kept_under, is_committed}
use Rattle.catalogue_rules.specs.Sameness.{same_kept}
use Rattle.catalogue_rules.specs.Store.{field_under}
use Rattle.linking_laws.specs.Commits.{placed_by}

-- the key is one of these
abbrev pub is_key_among : List Key → Key → Bool
is_key_among keys key = list_any (same_key key) keys

-- no key stands twice
abbrev pub AreDistinct : List Key → Type 0
AreDistinct [] = Unit {0}
AreDistinct (key ∷ keys) = (is_key_among keys key ≡ false) × AreDistinct keys

-- at a place there is one field before and another now
pub record IsExchanged (p : Place) (before now : State) : Type 0 where
  pub old : KeptField
  pub new : KeptField
  pub stood : field_under p before ≡ Some old
  pub stands : field_under p now ≡ Some new
  pub differs : same_kept old new ≡ false

-- the place of a field under a key of a class
abbrev pub place_in : Class → Key → ℕ → Place
place_in class key field = record { class = class; key = key; field = field }

-- the keys of the other records of a class with a field that differs, each once
pub record AreChanged (a : Arrival) (before now : State) (class : Class) (keys : List Key) : Type 0 where
  pub distinct : AreDistinct keys
  pub other : (key : Key) → is_key_among keys key ≡ true → is_committed a class key ≡ false
  pub changed : (key : Key) → is_key_among keys key ≡ true → (i : ℕ) × IsExchanged (place_in class key i) before now
  pub all : (key : Key) (i : ℕ) → is_committed a class key ≡ false → IsExchanged (place_in class key i) before now →
      is_key_among keys key ≡ true

-- how many fields a record has
abbrev pub count_fields : KeptRecord → ℕ
count_fields r = length r.fields

-- each other record that is kept before and now has as many fields as before
abbrev pub StayKept : Arrival → State → State → Class → Type 0
StayKept a before now class =
    (key : Key) → is_committed a class key ≡ false →
    option_map count_fields (kept_under class key now) ≡ option_map count_fields (kept_under class key before)

-- how many of the committed record's fields stand so once they are settled; a deletion has none
abbrev pub count_own : (Standing → Bool) → State → Entry → ℕ
count_own test s e =
    let now = linkable_authorities (placed_by e.class s e) in
    if is_deletion e.rec.leader then 0
    else count_by (λ h. test (standing_of now e.class h)) (map (settle_field now e.class) (map new_field e.rec.fields))

-- how the committed record's fields stand, in the receipt
pub record AreOwnCounts (s : State) (e : Entry) (r : Receipt) : Type 0 where
  pub linked : r.linked ≡ count_own is_linked s e
  pub ambiguous : r.ambiguous ≡ count_own is_ambiguous s e
  pub unlinked : r.unlinked ≡ count_own is_unlinked s e

-- what a commit behind so many entries answers
abbrev pub receipt_by : ℕ → State → Entry → Receipt
receipt_by at s e = receipt_of at s (arrival_of e) (step s (arrival_of e))

-- the keys of the records that the commit of an entry changed, without its own
abbrev pub AreChangedBy : State → Entry → Class → List Key → Type 0
AreChangedBy s e class keys = AreChanged (arrival_of e) s (step s (arrival_of e)) class keys
