-- A store, its tables and the log of their changes, and how one leads to another.
use Rattle.std.specs.Prelude.{◌≡◌, ℕ, List, [], ◌∷◌, ◌++◌, map, take, drop, Some, ⊤}
use Rattle.marc_types.specs.declared.key.Key.{Key}
use Rattle.marc_types.specs.Order.{same_form}
use Rattle.marc_types.specs.declared.form.Form.{Form}
use Rattle.numbering.specs.Numbers.{Keeps}
use Rattle.numbering.specs.declared.seat.Seat.{Seat}
use Rattle.numbered_store.specs.Numbered.{Numbered}
use Rattle.link_table.specs.Links.{Links}
use Rattle.link_table.specs.Table.{links}
use Rattle.wait_table.specs.Waits.{Waits, forms_of}
use Rattle.form_index.specs.Index.{Indexed, IsInOrder, row_under}
use Rattle.wait_table.specs.Table.{waits}
use Rattle.wait_table.specs.declared.waiting.Waiting.{Waiting}
use Rattle.catalogue_tables.specs.Waiting.{AreNumbersOf}
use Rattle.catalogue_tables.specs.declared.tables.CatalogueTables.{CatalogueTables}
use Rattle.linked_store.specs.Contents.{CanGoBack, Contents, HaveRooms, Step, ToRecord, ToIndex, ToLink, ToWait, apply, apply_back, step_of}
use Rattle.linked_store.specs.Rooms.{IsOut, IsWaitOut}
use Rattle.linked_store.specs.declared.transaction.Transaction.{Transaction}

-- what the link table says
abbrev pub links_in : CatalogueTables → Links
links_in tables = links tables.links

-- what the waiting table says
abbrev pub waits_in : CatalogueTables → Waits
waits_in tables = waits tables.waits

-- the contents of a store and its tables
abbrev pub contents_of : Numbered → CatalogueTables → Contents
contents_of store tables = record {
  numbered = store;
  index = tables.index;
  links = (links_in tables).key_of;
  waits = (waits_in tables).waiting;
}

-- the contents now
abbrev pub contents : Transaction → Contents
contents f = contents_of f.store f.tables

-- the steps back, from the first to the last
abbrev pub steps_of : Transaction → List Step
steps_of f = map step_of f.log.items

-- the log has room for each row that is out
abbrev pub IsRoomy : Transaction → Type 0
IsRoomy f = HaveRooms (steps_of f) (links_in f.tables) (waits_in f.tables)

-- forms may have got numbers
pub record FormsKeep (old new : CatalogueTables) : Type 0 where
  pub forms : Keeps same_form old.forms new.forms

-- some steps more in the log, which lead back
pub record GoesOn (old new : Transaction) : Type 0 where
  pub more : List Step
  pub steps : steps_of new ≡ steps_of old ++ more
  pub back : apply_back more (contents new) ≡ contents old
  pub can : CanGoBack more (contents new)
  pub rooms : IsRoomy old → IsRoomy new
  pub rows : FormsKeep old.tables new.tables

-- the seat waits for these forms, which have numbers now, and for the keys with these numbers
pub record WaitsNow (seat : Seat) (asked : List Form) (keys : List ℕ) (old new : Transaction) : Type 0 where
  pub waiting : Waiting
  pub asked_are : AreNumbersOf same_form new.tables.forms asked (forms_of waiting.forms)
  pub keys_are : waiting.keys ≡ keys
  pub now : contents new ≡ apply (ToWait seat (Some waiting)) (contents old)

-- ---- the way back

-- the row that a step puts back is out
abbrev pub IsRowOut : Step → CatalogueTables → Type 0
IsRowOut (ToRecord class number r) tables = ⊤
IsRowOut (ToIndex number row) tables = ⊤
IsRowOut (ToLink seat number) tables = IsOut seat number (links_in tables)
IsRowOut (ToWait seat waiting) tables = IsWaitOut seat waiting (waits_in tables)

-- forms keep their numbers, and none gets one
pub record SameForms (old new : CatalogueTables) : Type 0 where
  pub forms : new.forms ≡ old.forms

-- the rooms that other steps need are still there, without those of this one
abbrev pub LeavesRooms : Step → CatalogueTables → CatalogueTables → Type 0
LeavesRooms step old new =
    (steps : List Step) → HaveRooms (steps ++ step ∷ []) (links_in old) (waits_in old) → HaveRooms steps (links_in new) (waits_in new)

-- a step was taken back
pub record TakesBack (step : Step) (old new : Transaction) : Type 0 where
  pub now : contents new ≡ apply step (contents old)
  pub rooms : LeavesRooms step old.tables new.tables
  pub same : SameForms old.tables new.tables
  pub log : new.log.items ≡ old.log.items

-- all steps behind a position of the log were taken back
pub record GoesBack (position : ℕ) (old new : Transaction) : Type 0 where
  pub steps : steps_of new ≡ take position (steps_of old)
  pub now : contents new ≡ apply_back (drop position (steps_of old)) (contents old)
  pub can : CanGoBack (steps_of new) (contents new)
  pub rooms : IsRoomy new
  pub same : SameForms old.tables new.tables

-- the index is in the order of some keys
pub record IsInSomeOrder (x : Indexed) : Type 0 where
  pub keys : List Key
  pub ordered : IsInOrder keys x

-- the index has the rows that it had, in order
pub record KeepsRows (old new : Indexed) : Type 0 where
  pub rows : (n : ℕ) → row_under n new ≡ row_under n old
  pub ordered : (keys : List Key) → IsInOrder keys old → IsInOrder keys new

-- the contents stay, but that the index may hold fewer places for rows that are out
pub record StaysButHeld (old new : Contents) : Type 0 where
  pub numbered : new.numbered ≡ old.numbered
  pub index : KeepsRows old.index new.index
  pub links : new.links ≡ old.links
  pub waits : new.waits ≡ old.waits

-- the contents stay, and the log is empty
pub record IsKept (old new : Transaction) : Type 0 where
  pub now : StaysButHeld (contents old) (contents new)
  pub steps : steps_of new ≡ []
  pub rooms : IsRoomy new
  pub same : SameForms old.tables new.tables

-- the rows that a step puts back are let go
pub record LetsGo (step : Step) (old new : CatalogueTables) : Type 0 where
  pub index : KeepsRows old.index new.index
  pub links : (links_in new).key_of ≡ (links_in old).key_of
  pub waits : (waits_in new).waiting ≡ (waits_in old).waiting
  pub rooms : LeavesRooms step old new
  pub same : SameForms old new
