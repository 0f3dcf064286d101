-- A field exchanged: its record is written anew, and comes in place of the one that stands there.
use Rattle.std.proofs.Common.{◌≡◌, ◌∙◌, refl, sym, ap, subst, ℕ, zero, suc, ◌<◌, arith, true, List, [], ◌∷◌, length, Option, Some, None, IsSome, IfSome}
use Rattle.std.specs.Prelude.{slice_get, slice_set}
use Rattle.std.specs.Borrow.{Bor}
use Rattle.std.specs.Option.{option_and_then, option_map}
use mathlib.Core.Bool.{false≢true}
use Rattle.marc_types.specs.Valid.{is_record}
use Rattle.marc_types.specs.declared.field.Field.{Field}
use Rattle.marc_types.specs.declared.key.Key.{Key}
use Rattle.numbering.specs.declared.seat.Seat.{Seat}
use Rattle.iso2709_record.specs.Written.{fits}
use Rattle.catalogue_rules.specs.State.{KeptField, KeptRecord, fields_of, rows_of}
use Rattle.catalogue_rules.specs.Store.{StaysFit, StaysRecord, field_at, with_field}
use Rattle.numbered_store.specs.Kept.{kept_record}
use Rattle.numbered_store.specs.Numbered.{IsNumber, Numbered, SuitsSeat, field_of, keys_in, record_at, with_field_of, with_record}
use Rattle.numbered_store.specs.Rows.{row_under}
use Rattle.numbered_store.specs.declared.kept.StoredRecord.{StoredRecord}
use Rattle.linked_store.specs.Contents.{ToRecord, apply, with_field_in}
use Rattle.linked_store.specs.Transactions.{contents, contents_of}
use Rattle.linked_store.specs.declared.transaction.Transaction.{Transaction}

within_by : {X : Type 0} (xs : List X) (i : ℕ) → IsSome (slice_get xs i) → i < length xs
within_by [] i some = absurd (false≢true some)
within_by (x ∷ xs) zero some = omega arith
within_by (x ∷ xs) (suc i) some = let rest = within_by xs i some in omega (arith, rest)

-- where a field stands, a record was found
pub record_found : (found : Option (Bor StoredRecord)) (o : Option KeptRecord) (i : ℕ) → option_map (λ (kept : Bor StoredRecord). kept_record kept.now) found ≡ o
    → IsSome (option_and_then (field_at i) o) → IsSome found
record_found None o i is some = absurd (false≢true (subst (λ o. IsSome (option_and_then (field_at i) o)) (sym is) some))
record_found (Some kept) o i is some = refl

pub number_low : (seat : Seat) (s : Numbered) → IsSome (field_of seat s) → IsNumber seat.class seat.number s
number_low seat s some = by (keys_in seat.class s.keys) seat.number some
  where
    by : (keys : List Key) (n : ℕ) → IsSome (option_and_then (field_at seat.field) (row_under (slice_get keys n) (rows_of seat.class s.state))) → n < length keys
    by [] n some = absurd (false≢true some)
    by (key ∷ keys) zero some = omega arith
    by (key ∷ keys) (suc n) some = let rest = by keys n some in omega (arith, rest)

module _ (seat : Seat) (s : Numbered) (r : KeptRecord) (stands : record_at seat.class seat.number s ≡ Some r) where
  pub place_low : IsSome (field_of seat s) → seat.field < length r.fields
  place_low some = within_by r.fields seat.field (subst (λ o. IsSome (option_and_then (field_at seat.field) o)) stands some)

  pub stays_valid : (field : Field) → SuitsSeat seat field s → seat.field < length r.fields → is_record r.leader (slice_set (fields_of r) seat.field field) ≡ true
  stays_valid field suits low = (subst (λ o. IfSome o (StaysRecord seat.field field)) stands suits.stays) low

  pub stays_fit : (field : Field) → SuitsSeat seat field s → seat.field < length r.fields → fits (slice_set (fields_of r) seat.field field) ≡ true
  stays_fit field suits low = (subst (λ o. IfSome o (StaysFit seat.field field)) stands suits.fits) low

-- the record that is found stands under the number
pub stands_there : (found : Option (Bor StoredRecord)) (kept : Bor StoredRecord) (o : Option KeptRecord) → found ≡ Some kept → option_map (λ (k : Bor StoredRecord). kept_record k.now) found ≡ o → o ≡ Some (kept_record kept.now)
stands_there found kept o is found_is = sym found_is ∙ ap (option_map (λ (k : Bor StoredRecord). kept_record k.now)) is

-- the record with the field in place of the one that stood there
pub field_swapped : (f g : Transaction) (seat : Seat) (h : KeptField) (r made : KeptRecord) → made ≡ with_field seat.field h r
    → with_record seat.class seat.number (Some (with_field seat.field h r)) f.store ≡ with_field_of seat h f.store
    → contents g ≡ apply (ToRecord seat.class seat.number (Some made)) (contents f) → contents g ≡ with_field_in seat h (contents f)
field_swapped f g seat h r made is same now =
    now ∙ ap (λ m. apply (ToRecord seat.class seat.number (Some m)) (contents f)) is ∙ ap (λ (s : Numbered). contents_of s f.tables) same
