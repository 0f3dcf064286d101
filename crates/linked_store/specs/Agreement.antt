-- That the tables of a store agree with its records, said of the tables themselves, in the words in which `linking_laws` says it
-- of tables as tests (`Agree`).
use Rattle.std.specs.Prelude.{◌≡◌, true, length}
use Rattle.marc_types.specs.declared.form.Form.{Form}
use Rattle.marc_types.specs.declared.key.Key.{Key}
use Rattle.marc_types.specs.declared.key.Place.{Place}
use Rattle.entry_record.specs.Authority.{is_valid_key}
use Rattle.catalogue_rules.specs.State.{linkable_authorities}
use Rattle.linking_laws.specs.Tables.{asks_at, holds_at, linked_at}
use Rattle.linking_laws.specs.Visits.{waits_for_key}
use Rattle.catalogue_tables.specs.Following.{TellsAuthorities}
use Rattle.catalogue_tables.specs.Told.{LinksFit, linked_by}
use Rattle.catalogue_tables.specs.Waiting.{WaitsFit, asking_by, naming_by}
use Rattle.catalogue_tables.specs.declared.tables.CatalogueTables.{CatalogueTables}
use Rattle.linked_store.specs.Transactions.{links_in, waits_in}
use Rattle.linked_store.specs.Leading.{leading_by, leads_at}
use Rattle.linked_store.specs.Linked.{Linked}

-- The index has the row of each authority that fields can be linked to, and no other. The other tables list exactly the places that
-- they should: those linked to a key, those that ask for a form, also as the first, and those that name a valid key. No row stands
-- beyond the numbers that were given.
pub record TablesAgree (tables : CatalogueTables) (x : Linked) : Type 0 where
  pub authorities : TellsAuthorities tables.forms x.keys.authorities tables.index (linkable_authorities x.state)
  pub linked : (key : Key) (p : Place) → linked_by x.keys (links_in tables) key p ≡ holds_at (linked_at key) x.state p
  pub asking : (form : Form) (p : Place) → asking_by tables.forms x.keys (waits_in tables) form p ≡ holds_at (asks_at form) x.state p
  pub leading : (form : Form) (p : Place) → leading_by tables.forms x.keys (waits_in tables) form p ≡ holds_at (leads_at form) x.state p
  pub naming : (key : Key) (p : Place) → is_valid_key key ≡ true → naming_by x.keys (waits_in tables) key p ≡ holds_at (waits_for_key key) x.state p
  pub links_fit : LinksFit x.keys (links_in tables)
  pub waits_fit : WaitsFit (length tables.forms) x.keys (waits_in tables)
