-- A catalogue over a journal crosses threads where its disk does. It is shown from the inside out, since a search through all of it
-- runs out of steps.
use denote.RattleType.{RattleType}
use denote.Param.Send.{IsSend, sendable}
use Rattle.std.specs.declared.cmp.PartialEq as eq
use Rattle.std.specs.declared.hash.Hash as hash
use Rattle.std.proofs.Crossing.{Vec-send, crosses}
use Rattle.std.proofs.MapsCrossing as maps
use Rattle.marc_types.specs.contracts.text.Text as Text
use Rattle.marc_types.specs.contracts.key.Key as Key
use Rattle.marc_types.specs.contracts.form.Form as Form
use Rattle.numbering.specs.contracts.numbers.Numbering as Numbering
use Rattle.form_index.specs.contracts.key_list.KeyList as KeyList
use Rattle.form_index.specs.contracts.lists.Lists as Lists
use Rattle.form_index.specs.contracts.listings.Headings as Headings
use Rattle.form_index.specs.contracts.listings.Listings as Listings
use Rattle.form_index.specs.contracts.row.RowForms as RowForms
use Rattle.form_index.specs.contracts.index.FormIndex as FormIndex
use Rattle.wait_table.specs.contracts.key_numbers.KeyNumbers as KeyNumbers
use Rattle.wait_table.specs.contracts.waiting.Waiting as Waiting
use Rattle.wait_table.specs.contracts.table.WaitTable as WaitTable
use Rattle.link_table.specs.contracts.table.LinkTable as LinkTable
use Rattle.catalogue_tables.specs.contracts.tables.CatalogueTables as CatalogueTables
use Rattle.numbered_store.specs.contracts.kept.StoredRecord as StoredRecord
use Rattle.numbered_store.specs.contracts.shelf.Shelf as Shelf
use Rattle.numbered_store.specs.contracts.store.NumberedStore as NumberedStore
use Rattle.linked_store.specs.contracts.change.Change as Change
use Rattle.linked_store.specs.contracts.transaction.Transaction as Transaction
use Rattle.linked_store.specs.contracts.readable.ReadableStore as ReadableStore
use Rattle.linked_store.specs.contracts.store.LinkedStore as LinkedStore
use Rattle.catalogue_core.specs.contracts.engine.Engine as Engine
use Rattle.catalogue_core.specs.contracts.catalogue.Catalogue as Catalogue

-- ---- texts, keys, forms and records

text_send : IsSend Text.the_row
text_send = search (sendable, crosses) depth 40

key_send : IsSend Key.the_row
key_send = search (text_send, sendable, crosses) depth 40

form_send : IsSend Form.the_row
form_send = search (text_send, sendable, crosses) depth 40 fits 20000

kept_send : IsSend StoredRecord.the_row
kept_send = search (text_send, sendable, crosses) depth 40 fits 20000

-- ---- the tables; one without a model is a field by its own row

module _ (T : RattleType) (e : eq.Ghosts T.Denot) (h : hash.Ghosts T.Denot) where
  numbering_send : IsSend T → IsSend (Numbering.the_field T e h).row
  numbering_send t = search (sendable, crosses) depth 40 fits 20000

key_list_send : IsSend KeyList.the_row
key_list_send = search (sendable, crosses) depth 40 fits 20000

lists_send : IsSend Lists.the_row
lists_send = search (key_list_send, sendable, crosses) depth 40 fits 20000

headings_send : IsSend Headings.the_row
headings_send = search (lists_send, sendable, crosses) depth 40 fits 20000

listings_send : IsSend Listings.the_row
listings_send = search (headings_send, sendable, crosses) depth 40 fits 20000

row_send : IsSend RowForms.the_row
row_send = search (sendable, crosses) depth 40 fits 20000

index_send : IsSend FormIndex.the_row
index_send = search (row_send, listings_send, sendable, crosses) depth 40 fits 20000

links_send : IsSend (LinkTable.the_field).row
links_send = search (sendable, crosses, maps.crosses) depth 40 fits 20000

key_numbers_send : IsSend KeyNumbers.the_row
key_numbers_send = search (sendable, crosses) depth 40 fits 20000

waiting_send : IsSend Waiting.the_row
waiting_send = search (key_numbers_send, sendable, crosses) depth 40 fits 20000

waits_send : IsSend (WaitTable.the_field).row
waits_send = search (waiting_send, sendable, crosses, maps.crosses) depth 40 fits 20000

tables_send : IsSend (CatalogueTables.the_field).row
tables_send = search (form_send, numbering_send, index_send, waits_send, links_send, sendable) depth 40 fits 20000

-- ---- the records with their tables

shelf_send : IsSend Shelf.the_row
shelf_send = search (key_send, kept_send, sendable, crosses) depth 40 fits 20000

records_send : IsSend NumberedStore.the_row
records_send = search (shelf_send, sendable, crosses) depth 40 fits 20000

change_send : IsSend Change.the_row
change_send = search (text_send, kept_send, sendable, crosses) depth 40 fits 20000

frame_send : IsSend (Transaction.the_field).row
frame_send = search (records_send, tables_send, change_send, Vec-send, sendable) depth 40 fits 20000

store_send : IsSend LinkedStore.the_row
store_send = search (frame_send, sendable) depth 40 fits 20000

readable_send : IsSend ReadableStore.the_row
readable_send = search (store_send, sendable) depth 40 fits 20000

-- ---- the catalogue

engine_send : IsSend Engine.the_row
engine_send = search (readable_send, sendable, crosses) depth 40 fits 20000

pub catalogue_send : IsSend Catalogue.the_row
catalogue_send = search (engine_send, sendable, crosses) depth 40 fits 20000
