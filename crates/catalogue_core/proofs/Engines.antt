-- The states of an engine are valid, and a record is found by its key's number.
use Rattle.std.proofs.Common.{◌≡◌, sym, ap, refl, subst, ℕ, Bool, true, false, List, [], Option, Some, None}
use Rattle.std.specs.Prelude.{if◌then◌else◌}
use Rattle.std.specs.Option.{option_and_then}
use Rattle.marc_types.specs.Order.{same_key}
use Rattle.marc_types.specs.declared.entry.Entry.{Entry}
use Rattle.marc_types.specs.declared.key.Class.{Class}
use Rattle.marc_types.specs.declared.key.Key.{Key}
use Rattle.marc_types.specs.declared.key.Place.{Place}
use Rattle.numbering.specs.Numbers.{IsNumberOf, is_known, number_of}
use Rattle.entry_record.specs.History.{IsAdmitted}
use Rattle.catalogue_rules.specs.Receipt.{kept_under}
use Rattle.catalogue_rules.specs.Settle.{arrival_of, state_after, state_of, step}
use Rattle.catalogue_rules.specs.State.{KeptRecord, State, empty_state}
use Rattle.catalogue_rules.specs.Valid.{IsValid}
use Rattle.catalogue_rules.specs.Store.{field_at, field_under}
use Rattle.numbered_store.proofs.Shelving.{low_number}
use Rattle.catalogue_tables.specs.Seam.{KeyLists, keys_in}
use Rattle.linking_laws.specs.Middle.{AreAuthoritiesInOrder}
use Rattle.linking_laws.proofs.Commits.{step_valid}
use Rattle.linked_store.specs.Linked.{IsNumber, key_of}
use Rattle.commit_stages.proofs.Numbers.{key_numbered_so}
use Rattle.catalogue_core.specs.Engines.{IsEngine}

pub empty_is : empty_state ≡ state_of []
unfolding state_after
empty_is = refl

pub engine_stepped : (s t before now : State) (e : Entry) → IsEngine s before → IsAdmitted e → t ≡ step s (arrival_of e) → now ≡ before → IsEngine t now
engine_stepped s t before now e engine admitted is stays = record {
  valid = subst IsValid (sym is) (step_valid s e engine.valid admitted);
  valid_before = subst IsValid (sym stays) engine.valid_before;
}

-- ---- a record by its key

-- the number of a key, if it has one
abbrev number_if : Bool → List Key → Key → Option ℕ
number_if b keys key = if b then Some (number_of same_key keys key) else None

pub number_given : (keys : List Key) (key : Key) (number : ℕ) → Some number ≡ number_if (is_known same_key keys key) keys key → IsNumberOf same_key keys key number
number_given keys key number is = at (is_known same_key keys key) refl is
  where
    at : (b : Bool) → is_known same_key keys key ≡ b → Some number ≡ number_if b keys key → IsNumberOf same_key keys key number
    at true known e = record { known = known; is = cc }
    at false known e = cc

module _ (class : Class) (key : Key) (keys : KeyLists) (s : State) where
  pub number_low : (number : ℕ) → Some number ≡ number_if (is_known same_key (keys_in class keys) key) (keys_in class keys) key → IsNumber class number keys
  number_low number is = low_number (keys_in class keys) key number (number_given (keys_in class keys) key number is)

  pub found_under : (number : ℕ) → Some number ≡ number_if (is_known same_key (keys_in class keys) key) (keys_in class keys) key
      → kept_under class (key_of class number keys) s ≡ kept_under class key s
  found_under number is = ap (λ (k : Key). kept_under class k s) (key_numbered_so (keys_in class keys) key number (number_given (keys_in class keys) key number is))

-- the field at a place of the record that was found
pub field_read : (place : Place) (s : State) (found : Option KeptRecord) → found ≡ kept_under place.class place.key s → option_and_then (field_at place.field) found ≡ field_under place s
field_read place s found is = ap (option_and_then (field_at place.field)) is

-- the authorities of a valid state are in order
pub valid_in_order : (s : State) → IsValid s → AreAuthoritiesInOrder s
valid_in_order s valid = record { ascend = valid.authorities_ascend; rows = valid.rows.0 }
