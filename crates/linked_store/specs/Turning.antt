-- One field exchanged with its rows: what the new rows have to say.
use Rattle.std.specs.Prelude.{◌≡◌, ℕ, ◌<◌, true, List, length, Option}
use Rattle.std.specs.List.{list_any}
use Rattle.marc_types.specs.declared.form.Form.{Form}
use Rattle.marc_types.specs.declared.key.Class.{Class}
use Rattle.marc_types.specs.declared.key.Key.{Key}
use Rattle.marc_types.specs.Order.{same_form, same_key}
use Rattle.numbering.specs.Numbers.{number_of}
use Rattle.numbering.specs.declared.seat.Seat.{Seat}
use Rattle.entry_record.specs.Authority.{is_valid_key}
use Rattle.catalogue_rules.specs.State.{KeptField}
use Rattle.catalogue_rules.specs.Settle.{is_linked_to}
use Rattle.numbered_store.specs.Numbered.{with_field_of}
use Rattle.link_table.specs.Links.{leads_to}
use Rattle.wait_table.specs.Waits.{asks_form, names_key}
use Rattle.wait_table.specs.declared.waiting.Waiting.{Waiting}
use Rattle.linking_laws.specs.Tables.{asks_at}
use Rattle.linking_laws.specs.Visits.{waits_for_key}
use Rattle.linked_store.specs.Contents.{Contents, at_seat}
use Rattle.linked_store.specs.Leading.{is_leading, leads_at, leads_form}

-- a seat's link is that of the field
pub record IsLinkOf (keys : List Key) (h : KeptField) (link : Option ℕ) : Type 0 where
  pub leads : (key : Key) → leads_to (number_of same_key keys key) link ≡ is_linked_to key h
  pub low : (n : ℕ) → leads_to n link ≡ true → n < length keys

-- a seat waits for what the field waits for
pub record IsWaitOf (forms : List Form) (keys : List Key) (class : Class) (h : KeptField) (waiting : Option Waiting) : Type 0 where
  pub asks : (form : Form) → asks_form (number_of same_form forms form) waiting ≡ asks_at form class h
  pub leads : (form : Form) → leads_form (number_of same_form forms form) waiting ≡ leads_at form class h
  pub names : (key : Key) → is_valid_key key ≡ true → names_key (number_of same_key keys key) waiting ≡ waits_for_key key class h
  pub low_forms : (n : ℕ) → asks_form n waiting ≡ true → n < length forms
  pub low_keys : (n : ℕ) → names_key n waiting ≡ true → n < length keys

-- what a field waits for, by the forms and keys themselves; its full form comes first
pub record Wants (class : Class) (h : KeptField) (forms : List Form) (keys : List Key) : Type 0 where
  pub asking : (form : Form) → list_any (same_form form) forms ≡ asks_at form class h
  pub leading : (form : Form) → is_leading forms form ≡ leads_at form class h
  pub naming : (key : Key) → is_valid_key key ≡ true → list_any (same_key key) keys ≡ waits_for_key key class h

-- a field with its link and what it waits for comes to a seat
abbrev pub turned : Seat → KeptField → Option ℕ → Option Waiting → Contents → Contents
turned seat h link waiting c = record {
  numbered = with_field_of seat h c.numbered;
  index = c.index;
  links = at_seat seat link c.links;
  waits = at_seat seat waiting c.waits;
}
