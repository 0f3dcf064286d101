-- What is kept: each record under a key that has a number, and each a MARC record.
use Rattle.std.proofs.Common.{◌≡◌, ◌∙◌, refl, sym, ap, subst, Bool, true, false, ◌||◌, cond, List, [], ◌∷◌, Option, Some, None, IsSome, IfSome}
use Rattle.std.specs.List.{AllByRecursion}
use Rattle.std.specs.Map.{lookup}
use Rattle.std.specs.Option.{is_some}
use Rattle.marc_types.specs.Order.{same_key}
use Rattle.marc_types.specs.Valid.{is_record}
use Rattle.marc_types.specs.declared.key.Class.{Class}
use Rattle.marc_types.specs.declared.key.Class.TheVariants.{Authority, Bibliographic}
use Rattle.marc_types.specs.declared.key.Key.{Key}
use Rattle.numbering.specs.Numbers.{is_known}
use Rattle.catalogue_rules.specs.State.{KeptRecord}
use Rattle.catalogue_rules.specs.Receipt.{kept_under}
use Rattle.numbered_store.specs.Numbered.{Numbered, keys_in, numbered}
use Rattle.numbered_store.specs.Kept.{kept_record}
use Rattle.numbered_store.specs.declared.kept.StoredRecord.{StoredRecord}
use Rattle.numbered_store.specs.Rows.{IsProper, Shelved, present, rows_by, slot_records}
use Rattle.numbered_store.proofs.Tied.{kept_fields}
use Rattle.numbered_store.proofs.Ordered.{lookup_ordered}
use Rattle.numbered_store.proofs.Slotted.{absent}

-- ---- keys with numbers

apart_by : (key k : Key) (keys : List Key) (b : Bool) → same_key key k ≡ b → (b || is_known same_key keys key) ≡ false → (is_known same_key keys key ≡ false → AllByRecursion (λ other. same_key key other ≡ false) keys)
    → AllByRecursion (λ other. same_key key other ≡ false) (k ∷ keys)
apart_by key k keys true same unknown rest = cc
apart_by key k keys false same unknown rest = (same, rest unknown)

-- a key without a number stands apart from all that have one
apart : (key : Key) (keys : List Key) → is_known same_key keys key ≡ false → AllByRecursion (λ other. same_key key other ≡ false) keys
apart key [] unknown = tt
apart key (k ∷ keys) unknown = apart_by key k keys (same_key key k) refl unknown (apart key keys)

known_by : (key : Key) (keys : List Key) (slots : List (Option StoredRecord)) (b : Bool) → is_known same_key keys key ≡ b → IsSome (lookup (same_key key) (rows_by keys slots)) → b ≡ true
known_by key keys slots true known some = refl
known_by key keys slots false unknown some =
    let none : lookup (same_key key) (rows_by keys slots) ≡ None =
    lookup_ordered key (present keys (slot_records slots)) ∙ absent key keys (slot_records slots) (apart key keys unknown) in
    sym (ap is_some none) ∙ some

-- a key under which a record stands has a number
pub kept_known : (keys : List Key) (slots : List (Option StoredRecord)) (key : Key) → IsSome (lookup (same_key key) (rows_by keys slots)) → is_known same_key keys key ≡ true
kept_known keys slots key some = known_by key keys slots (is_known same_key keys key) refl some

-- ---- MARC records

pub proper_kept : (kept : StoredRecord) → IsProper (kept_record kept)
unfolding kept_record
proper_kept kept = ap (is_record kept.written.leader) (kept_fields kept) ∙ kept.written.valid

proper_at : (kept : StoredRecord) (b : Bool) (o : Option KeptRecord) → IfSome o IsProper → IfSome (cond b (Some (kept_record kept)) o) IsProper
proper_at kept true o rest = proper_kept kept
proper_at kept false o rest = rest

proper_present : (key : Key) (keys : List Key) (slots : List (Option StoredRecord)) → IfSome (lookup (same_key key) (present keys (slot_records slots))) IsProper
proper_present key [] slots = tt
proper_present key (k ∷ keys) [] = tt
proper_present key (k ∷ keys) (None ∷ slots) = proper_present key keys slots
proper_present key (k ∷ keys) (Some kept ∷ slots) =
    proper_at kept (same_key key k) (lookup (same_key key) (present keys (slot_records slots))) (proper_present key keys slots)

-- a record under a key is a MARC record
pub kept_proper : (keys : List Key) (slots : List (Option StoredRecord)) (key : Key) → IfSome (lookup (same_key key) (rows_by keys slots)) IsProper
kept_proper keys slots key =
    subst (λ (o : Option KeptRecord). IfSome o IsProper) (sym (lookup_ordered key (present keys (slot_records slots)))) (proper_present key keys slots)

-- ---- both classes

abbrev pub AreKnown : Shelved → Type 0
AreKnown x = (key : Key) → IsSome (lookup (same_key key) x.rows) → is_known same_key x.keys key ≡ true

abbrev pub AreProper : Shelved → Type 0
AreProper x = (key : Key) → IfSome (lookup (same_key key) x.rows) IsProper

abbrev pub EachHasNumber : Numbered → Type 0
EachHasNumber s = (class : Class) (key : Key) → IsSome (kept_under class key s.state) → is_known same_key (keys_in class s.keys) key ≡ true

abbrev pub EachIsProper : Numbered → Type 0
EachIsProper s = (class : Class) (key : Key) → IfSome (kept_under class key s.state) IsProper

pub known_in : (x y : Shelved) → AreKnown x → AreKnown y → EachHasNumber (numbered x y)
known_in x y first second Authority = first
known_in x y first second Bibliographic = second

pub proper_in : (x y : Shelved) → AreProper x → AreProper y → EachIsProper (numbered x y)
proper_in x y first second Authority = first
proper_in x y first second Bibliographic = second
