-- Tables that agree with a state, now and on the way back.
use Rattle.std.specs.Prelude.{◌≡◌, ℕ, ◌≤◌, true, length, drop, Option}
use Rattle.marc_types.specs.declared.form.Form.{Form}
use Rattle.marc_types.specs.declared.key.Key.{Key}
use Rattle.marc_types.specs.declared.key.Place.{Place}
use Rattle.numbering.specs.declared.seat.Seat.{Seat}
use Rattle.entry_record.specs.Authority.{is_valid_key}
use Rattle.catalogue_rules.specs.State.{State, linkable_authorities}
use Rattle.numbered_store.specs.Numbered.{KeyNumbers}
use Rattle.link_table.specs.Links.{Links}
use Rattle.wait_table.specs.Waits.{Waits}
use Rattle.wait_table.specs.declared.waiting.Waiting.{Waiting}
use Rattle.linking_laws.specs.Partway.{AreOrdered}
use Rattle.linking_laws.specs.Tables.{asks_at, holds_at, linked_at}
use Rattle.linking_laws.specs.Visits.{waits_for_key}
use Rattle.catalogue_tables.specs.Following.{TellsAuthorities}
use Rattle.catalogue_tables.specs.declared.tables.CatalogueTables.{CatalogueTables}
use Rattle.catalogue_tables.specs.Seam.{AreDistinct, KeyLists}
use Rattle.catalogue_tables.specs.Told.{LinksFit, linked_by}
use Rattle.catalogue_tables.specs.Waiting.{WaitsFit, asking_by, naming_by}
use Rattle.linked_store.specs.Contents.{CanGoBack, Contents, apply_back}
use Rattle.linked_store.specs.Transactions.{IsRoomy, contents, steps_of}
use Rattle.linked_store.specs.Leading.{leading_by, leads_at}
use Rattle.linked_store.specs.Linked.{Linked}
use Rattle.linked_store.specs.declared.transaction.Transaction.{Transaction}

-- the keys of both classes
abbrev pub key_lists : KeyNumbers → KeyLists
key_lists keys = record { authorities = keys.authorities; bibliographic = keys.bibliographic }

-- the keys of the contents
abbrev pub keys_of : Contents → KeyLists
keys_of c = key_lists c.numbered.keys

-- the state of the contents
abbrev pub state_in : Contents → State
state_in c = c.numbered.state

-- links and rows as tables of which no row is out
abbrev pub seen_links : (Seat → Option ℕ) → Links
seen_links links = record { key_of = links; taken = λ seat. 0; taken_from = λ n seat. 0 }

-- a waiting table with these rows, of which none is taken out
abbrev pub seen_waits : (Seat → Option Waiting) → Waits
seen_waits waits = record { waiting = waits; taken = λ seat. 0; taken_forms = λ n seat. 0; taken_keys = λ n seat. 0 }

-- The records stand in key order. The index tells of the linkable authorities, and the other tables say of each key, form and
-- place what the state says, within the numbers that were given. The first form of a row is the field's full form.
pub record AgreesWith (tables : CatalogueTables) (c : Contents) : Type 0 where
  pub ordered : AreOrdered (state_in c)
  pub told : TellsAuthorities tables.forms (keys_of c).authorities c.index (linkable_authorities (state_in c))
  pub links_fit : LinksFit (keys_of c) (seen_links c.links)
  pub waits_fit : WaitsFit (length tables.forms) (keys_of c) (seen_waits c.waits)
  pub linked : (key : Key) (p : Place) → linked_by (keys_of c) (seen_links c.links) key p ≡ holds_at (linked_at key) (state_in c) p
  pub asking : (form : Form) (p : Place) → asking_by tables.forms (keys_of c) (seen_waits c.waits) form p ≡ holds_at (asks_at form) (state_in c) p
  pub leading : (form : Form) (p : Place) → leading_by tables.forms (keys_of c) (seen_waits c.waits) form p ≡ holds_at (leads_at form) (state_in c) p
  pub naming : (key : Key) (p : Place) → is_valid_key key ≡ true →
      naming_by (keys_of c) (seen_waits c.waits) key p ≡ holds_at (waits_for_key key) (state_in c) p

-- what was at the mark, and before all changes
abbrev pub at_mark : Transaction → ℕ → Contents
at_mark f marked = apply_back (drop marked (steps_of f)) (contents f)

-- the contents before all changes
abbrev pub at_start : Transaction → Contents
at_start f = apply_back (steps_of f) (contents f)

-- the tables agree with the records now, at the mark and before all changes, and there is a way back
pub record IsSound (f : Transaction) (marked : ℕ) : Type 0 where
  pub distinct : AreDistinct (keys_of (contents f))
  pub low : marked ≤ length (steps_of f)
  pub can : CanGoBack (steps_of f) (contents f)
  pub rooms : IsRoomy f
  pub now : AgreesWith f.tables (contents f)
  pub mark : AgreesWith f.tables (at_mark f marked)
  pub start : AgreesWith f.tables (at_start f)

-- what callers see
abbrev pub linked_view : Transaction → ℕ → Linked
linked_view f marked = record {
  state = state_in (contents f);
  keys = keys_of (contents f);
  marked = state_in (at_mark f marked);
  before = state_in (at_start f);
}
