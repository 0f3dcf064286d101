-- A shelf's rows by its slots: reading one, exchanging one, one more.
use Rattle.std.proofs.Common.{◌≡◌, ℕ, zero, suc, ◌+◌, ◌<◌, ◌≤◌, Bool, true, false, cond, List, [], ◌∷◌, ◌++◌, length, Option, Some, None, refl, sym, ap, ◌∙◌, subst, if◌then◌else◌, arith}
use mathlib.Core.Bool.{false≢true}
use Rattle.std.specs.Prelude.{slice_get, slice_set}
use Rattle.std.specs.Borrow.{Bor}
use Rattle.std.specs.Option.{is_some, option_and_then, option_copied, option_map}
use Rattle.std.specs.List.{IsDistinct}
use Rattle.std.specs.Map.{lookup}
use Rattle.numbering.specs.Numbers.{IsNumberOf, is_known, with_thing}
use Rattle.numbering.proofs.Numberlaws.{number_below}
use Rattle.marc_types.specs.Order.{same_key}
use Rattle.marc_types.specs.declared.key.Key.{Key}
use Rattle.catalogue_rules.specs.State.{KeptField, KeptRecord}
use Rattle.catalogue_rules.specs.Store.{with_field}
use Rattle.numbered_store.specs.Kept.{kept_record}
use Rattle.numbered_store.specs.declared.kept.StoredRecord.{StoredRecord}
use Rattle.numbered_store.specs.Rows.{HaveSlots, count_in, in_key_order, present, row_under, rows_by, slot_at, slot_records, with_row, with_row_field}
use Rattle.numbered_store.proofs.Ordered.{lookup_ordered, ordered, row_back, row_changed}
use Rattle.numbered_store.proofs.Tied.{set_long}
use Rattle.numbered_store.proofs.Slotted.{length_present, length_rows, length_set, present_at, present_more, rows_set}

-- ---- slots as a state has them

pub records_long : (slots : List (Option StoredRecord)) → length (slot_records slots) ≡ length slots
records_long [] = refl
records_long (s ∷ slots) = ap suc (records_long slots)

records_set : (slots : List (Option StoredRecord)) (n : ℕ) (x : Option StoredRecord) → slot_records (slice_set slots n x) ≡ slice_set (slot_records slots) n (option_map kept_record x)
records_set [] n x = refl
records_set (s ∷ slots) zero x = refl
records_set (s ∷ slots) (suc n) x = ap (λ l. option_map kept_record s ∷ l) (records_set slots n x)

records_more : (slots : List (Option StoredRecord)) → slot_records (slots ++ None ∷ []) ≡ slot_records slots ++ None ∷ []
records_more [] = refl
records_more (s ∷ slots) = ap (λ l. option_map kept_record s ∷ l) (records_more slots)

records_at : (slots : List (Option StoredRecord)) (n : ℕ) → slot_at (slot_records slots) n ≡ option_map kept_record (slot_at slots n)
records_at [] n = refl
records_at (s ∷ slots) zero = refl
records_at (s ∷ slots) (suc n) = records_at slots n

slot_held : (slots : List (Option StoredRecord)) (n : ℕ) (x : Option StoredRecord) → slice_get slots n ≡ Some x → slot_at slots n ≡ x
slot_held slots n x e = ap (option_and_then (λ slot. slot)) e

beyond : {X : Type 0} (xs : List X) (n : ℕ) → length xs ≤ n → slice_get xs n ≡ None
beyond [] n high = refl
beyond (x ∷ xs) zero high = absurd (omega (arith, high))
beyond (x ∷ xs) (suc n) high = beyond xs n (omega (arith, high))

not_below : {X : Type 0} (xs : List X) (n : ℕ) → slice_get xs n ≡ None → length xs ≤ n
not_below [] n e = omega arith
not_below (x ∷ xs) zero e = absurd (false≢true (sym (ap is_some e)))
not_below (x ∷ xs) (suc n) e = let rest = not_below xs n e in omega arith

module _ (keys : List Key) (slots : List (Option StoredRecord)) (have : HaveSlots keys slots) where
  records_have : length (slot_records slots) ≡ length keys
  records_have = records_long slots ∙ have.long

  row_by : (n : ℕ) (key : Option Key) → slice_get keys n ≡ key → row_under key (rows_by keys slots) ≡ slot_at (slot_records slots) n
  row_by n None at = ap (option_and_then (λ slot. slot)) (sym (beyond (slot_records slots) n (let high = not_below keys n at in omega (arith, records_have))))
  row_by n (Some key) at =
      lookup_ordered key (present keys (slot_records slots)) ∙ present_at keys (slot_records slots) n key records_have have.once at

  -- the record under the key that has a number is what the slot holds
  pub row_at : (n : ℕ) → row_under (slice_get keys n) (rows_by keys slots) ≡ option_map kept_record (slot_at slots n)
  row_at n = row_by n (slice_get keys n) refl ∙ records_at slots n

  pub row_held : (n : ℕ) (x : Option StoredRecord) → slice_get slots n ≡ Some x → option_map kept_record x ≡ row_under (slice_get keys n) (rows_by keys slots)
  row_held n x e = ap (option_map kept_record) (sym (slot_held slots n x e)) ∙ sym (row_at n)

  -- the slot as it is lent
  pub row_lent : (n : ℕ) (found : Option (Bor StoredRecord)) → option_copied found ≡ slot_at slots n
      → option_map (λ kept. kept_record kept.now) found ≡ row_under (slice_get keys n) (rows_by keys slots)
  row_lent n found e = lent found ∙ ap (option_map kept_record) e ∙ sym (row_at n)
    where
      lent : (found : Option (Bor StoredRecord)) → option_map (λ kept. kept_record kept.now) found ≡ option_map kept_record (option_copied found)
      lent None = refl
      lent (Some kept) = refl

  -- ---- another thing in a slot

  pub have_set : (n : ℕ) (x : Option StoredRecord) → HaveSlots keys (slice_set slots n x)
  have_set n x = record { long = set_long slots n x ∙ have.long; once = have.once }

  pub rows_exchanged : (n : ℕ) (x : Option StoredRecord) → n < length keys → rows_by keys (slice_set slots n x) ≡ with_row (slice_get keys n) (option_map kept_record x) (rows_by keys slots)
  rows_exchanged n x low =
      ap (λ l. in_key_order (present keys l)) (records_set slots n x)
      ∙ rows_set keys (slot_records slots) n (option_map kept_record x) records_have have.once (slice_get keys n) refl low

  pub rows_back : (n : ℕ) (x was : Option StoredRecord) → n < length keys → slice_get slots n ≡ Some was
      → with_row (slice_get keys n) (option_map kept_record was) (rows_by keys (slice_set slots n x)) ≡ rows_by keys slots
  rows_back n x was low stood =
      ap (with_row (slice_get keys n) (option_map kept_record was)) (rows_exchanged n x low)
      ∙ row_back (slice_get keys n) (option_map kept_record x) (rows_by keys slots) (ordered (present keys (slot_records slots))) (option_map kept_record was) (λ k is.
      row_held n was stood ∙ ap (λ key. row_under key (rows_by keys slots)) is)

  some_kept : (o : Option StoredRecord) → is_some (option_map kept_record o) ≡ is_some o
  some_kept None = refl
  some_kept (Some kept) = refl

  pub count_set : (n : ℕ) (x was : Option StoredRecord) → n < length keys → slice_get slots n ≡ Some was
      → count_in keys (slice_set slots n x) + (if is_some was then 1 else 0) ≡ count_in keys slots + (if is_some x then 1 else 0)
  count_set n x was low stood =
      let same = length_set keys (slot_records slots) n (option_map kept_record x) records_have low in
      let now = ap (λ l. length (present keys l)) (records_set slots n x) in
      let old = ap {B = ℕ} (λ b. if b then 1 else 0) (ap is_some (records_at slots n ∙ ap (option_map kept_record) (slot_held slots n was stood)) ∙ some_kept was) in
      let new = ap {B = ℕ} (λ b. if b then 1 else 0) (some_kept x) in
      omega (arith, same, now, old, new)

  pub count_there : (n : ℕ) (was : Option StoredRecord) → n < length keys → slice_get slots n ≡ Some was → (if is_some was then 1 else 0) ≤ count_in keys slots
  count_there n was low stood = let counts = count_set n None was low stood in omega (arith, counts)

  pub count_low : count_in keys slots ≤ length keys
  count_low = length_present keys (slot_records slots)

  pub count_rows : count_in keys slots ≡ length (rows_by keys slots)
  count_rows = sym (length_rows keys (slot_records slots) have.once)

  -- a record with another field in its place
  pub field_changed : (key : Key) (at : ℕ) (h : KeptField) (r : KeptRecord) → lookup (same_key key) (rows_by keys slots) ≡ Some r
      → with_row (Some key) (Some (with_field at h r)) (rows_by keys slots) ≡ with_row_field (Some key) at h (rows_by keys slots)
  field_changed key at h r stood = row_changed key (with_field at h) r (rows_by keys slots) (ordered (present keys (slot_records slots))) stood

-- ---- one more key

known_by : (b : Bool) (old : List Key) (key : Key) → length old < length (cond b old (old ++ key ∷ [])) → cond b old (old ++ key ∷ []) ≡ old ++ key ∷ []
known_by true old key more = absurd (omega (arith, more))
known_by false old key more = refl

pub is_longer : (old new : List Key) (key : Key) → new ≡ with_thing same_key old key → length old < length new → new ≡ old ++ key ∷ []
is_longer old new key is more = is ∙ known_by (is_known same_key old key) old key (subst (λ l. length old < length l) is more)

module _ (old new : List Key) (key : Key) (slots now : List (Option StoredRecord)) (have : HaveSlots old slots) (is : new ≡ with_thing same_key old key) (more : length slots < length new) (items : now ≡ slots ++ None ∷ []) where
  keys_are : new ≡ old ++ key ∷ []
  keys_are = is_longer old new key is (omega (arith, more, have.long))

  pub more_present : present new (slot_records now) ≡ present old (slot_records slots)
  more_present =
      ap (λ l. present new (slot_records l)) items ∙ ap (present new) (records_more slots) ∙ ap (λ l. present l (slot_records slots ++ None ∷ [])) keys_are
      ∙ present_more old (slot_records slots) key (records_long slots ∙ have.long)

  pub more_rows : rows_by new now ≡ rows_by old slots
  more_rows = ap in_key_order more_present

  pub more_have : IsDistinct same_key new → HaveSlots new now
  more_have distinct = record { long = long; once = distinct }
    where
      push_long : {X : Type 0} (xs : List X) (x : X) → length (xs ++ x ∷ []) ≡ suc (length xs)
      push_long [] x = refl
      push_long (y ∷ xs) x = ap suc (push_long xs x)

      long : length now ≡ length new
      long = ap length items ∙ push_long slots None ∙ ap suc have.long ∙ sym (ap length keys_are ∙ push_long old key)

pub low_number : (keys : List Key) (key : Key) (number : ℕ) → IsNumberOf same_key keys key number → number < length keys
low_number keys key number is = let low = number_below same_key keys key is.known in omega (arith, low, is.is)
