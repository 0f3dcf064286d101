-- What two spellings have in common: a number is told by its bytes, and a record by its leader and its fields.
use Rattle.std.proofs.Common.{◌≡◌, ◌∙◌, ℕ, ◌^◌, ◌<◌, true, List, ◌++◌, refl, sym, ap, subst}
use Rattle.std.proofs.Math.Bool.{Bool-set}
use Rattle.std.proofs.lemmas.Nat.{from_be_bytes-to_be_bytes_4, from_be_bytes-to_be_bytes_8}
use Rattle.std.specs.Int.{w32, w64, to_be_bytes, from_be_bytes}
use Rattle.marc_types.specs.Valid.{is_record}
use Rattle.marc_types.specs.declared.record.Record.{Record}
use Rattle.iso2709_record.proofs.Spelled.{parts_same}

pub long_once : (n m : ℕ) (x y : List ℕ) → n < 2 ^ 64 → m < 2 ^ 64 → to_be_bytes w64 n ++ x ≡ to_be_bytes w64 m ++ y → (n ≡ m) × (x ≡ y)
long_once n m x y small other e =
    let parts = parts_same (to_be_bytes w64 n) (to_be_bytes w64 m) x y refl e in
    (sym (from_be_bytes-to_be_bytes_8 n small) ∙ ap (from_be_bytes w64) parts.0 ∙ from_be_bytes-to_be_bytes_8 m other, parts.1)

pub short_once : (n m : ℕ) (x y : List ℕ) → n < 2 ^ 32 → m < 2 ^ 32 → to_be_bytes w32 n ++ x ≡ to_be_bytes w32 m ++ y → (n ≡ m) × (x ≡ y)
short_once n m x y small other e =
    let parts = parts_same (to_be_bytes w32 n) (to_be_bytes w32 m) x y refl e in
    (sym (from_be_bytes-to_be_bytes_4 n small) ∙ ap (from_be_bytes w32) parts.0 ∙ from_be_bytes-to_be_bytes_4 m other, parts.1)

pub record_is : (r s : Record) → r.leader ≡ s.leader → r.fields ≡ s.fields → r ≡ s
record_is r s leader fields =
    subst (λ fs. (v : is_record s.leader fs ≡ true) → r ≡ record { leader = s.leader; fields = fs; valid = v }) fields
    (subst (λ l. (v : is_record l r.fields ≡ true) → r ≡ record { leader = l; fields = r.fields; valid = v }) leader
    (λ v. ap (λ p. record { leader = r.leader; fields = r.fields; valid = p }) (Bool-set (is_record r.leader r.fields) true r.valid v)))
    s.valid
