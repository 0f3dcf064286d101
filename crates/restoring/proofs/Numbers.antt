-- The number of a key, and the record that is found by it.
use Rattle.std.proofs.Common.{◌≡◌, ap, refl, subst, ℕ, Bool, true, false, List, Option, Some, None}
use Rattle.std.specs.Prelude.{if◌then◌else◌}
use Rattle.marc_types.specs.Order.{same_key}
use Rattle.marc_types.specs.declared.key.Class.{Class}
use Rattle.marc_types.specs.declared.key.Key.{Key}
use Rattle.numbering.specs.Numbers.{IsNumberOf, is_known, number_of}
use Rattle.catalogue_rules.specs.Receipt.{kept_under}
use Rattle.catalogue_rules.specs.State.{State}
use Rattle.numbered_store.proofs.Shelving.{low_number}
use Rattle.catalogue_tables.specs.Choosing.{number_known}
use Rattle.catalogue_tables.specs.Seam.{KeyLists, keys_in}
use Rattle.linked_store.specs.Linked.{IsNumber, Linked, key_of}
use Rattle.commit_stages.proofs.Numbers.{key_numbered_so}

pub number_given : (keys : List Key) (key : Key) (number : ℕ) → Some number ≡ number_known keys key → IsNumberOf same_key keys key number
number_given keys key number is = at (is_known same_key keys key) refl is
  where
    at : (b : Bool) → is_known same_key keys key ≡ b → Some number ≡ (if b then Some (number_of same_key keys key) else None) → IsNumberOf same_key keys key number
    at true known e = record { known = known; is = cc }
    at false known e = cc

module _ (class : Class) (key : Key) (keys : KeyLists) (s : State) where
  pub number_low : (number : ℕ) → Some number ≡ number_known (keys_in class keys) key → IsNumber class number keys
  number_low number is = low_number (keys_in class keys) key number (number_given (keys_in class keys) key number is)

  pub found_under : (number : ℕ) → Some number ≡ number_known (keys_in class keys) key → kept_under class (key_of class number keys) s ≡ kept_under class key s
  found_under number is = ap (λ (k : Key). kept_under class k s) (key_numbered_so (keys_in class keys) key number (number_given (keys_in class keys) key number is))

-- the number that a store that is lent says
pub number_lent : (x lent : Linked) (class : Class) (key : Key) (number : Option ℕ) → lent ≡ x → number ≡ number_known (keys_in class lent.keys) key
    → number ≡ number_known (keys_in class x.keys) key
number_lent x lent class key number same e = subst (λ (z : Linked). number ≡ number_known (keys_in class z.keys) key) same e
