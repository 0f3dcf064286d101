-- Which part of the tables a call changes.
use Rattle.std.specs.Prelude.{◌≡◌, List}
use Rattle.marc_types.specs.declared.key.Key.{Key}
use Rattle.form_index.specs.Index.{IsInOrder}
use Rattle.marc_types.specs.Order.{same_form}
use Rattle.numbering.specs.Numbers.{Keeps}
use Rattle.catalogue_tables.specs.declared.tables.CatalogueTables.{CatalogueTables}

-- nothing but the link table changed
pub record OnlyLinks (old new : CatalogueTables) : Type 0 where
  pub forms : new.forms ≡ old.forms
  pub index : new.index ≡ old.index
  pub waits : new.waits ≡ old.waits

-- nothing but the waiting table changed
pub record OnlyWaits (old new : CatalogueTables) : Type 0 where
  pub forms : new.forms ≡ old.forms
  pub index : new.index ≡ old.index
  pub links : new.links ≡ old.links

-- and forms may have got numbers
pub record OnlyWaitsAndForms (old new : CatalogueTables) : Type 0 where
  pub forms : Keeps same_form old.forms new.forms
  pub index : new.index ≡ old.index
  pub links : new.links ≡ old.links

-- whose lists are in key order
pub record OnlyIndex (keys : List Key) (old new : CatalogueTables) : Type 0 where
  pub forms : new.forms ≡ old.forms
  pub waits : new.waits ≡ old.waits
  pub links : new.links ≡ old.links
  pub ordered : IsInOrder keys new.index

-- and forms may have got numbers
pub record OnlyIndexAndForms (keys : List Key) (old new : CatalogueTables) : Type 0 where
  pub forms : Keeps same_form old.forms new.forms
  pub waits : new.waits ≡ old.waits
  pub links : new.links ≡ old.links
  pub ordered : IsInOrder keys new.index
