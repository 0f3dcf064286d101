-- Rows by number, in pages: the row of a number, if its page is there.
use Rattle.std.specs.Prelude.{ℕ, ◌/◌, ◌%◌, Bool, Option, Some, None, is_some, Vec, slice_get, unwrap_or}
use Rattle.std.specs.Borrow.{Lends, LendsIf, MutBor, Fml, RattleType}
use Rattle.std.specs.Vec.{with_item}
use Rattle.std.specs.declared.alloc.Global.{Global}
use Rattle.numbering.specs.PageSize.{rows_of_page}
use Rattle.numbering.specs.declared.pages.Pages.{Pages}
use Rattle.numbering.specs.contracts.pages.Pages.{the_row}

module _ {T : Type 0} where
  -- the row at a place of a page
  abbrev pub row_in_page : Option (Vec T Global) → ℕ → Option T
  row_in_page None place = None
  row_in_page (Some page) place = slice_get page.items place

  -- the row of a number, if it is there
  unfoldable pub there : Pages T → ℕ → Option T
  there pages n = row_in_page (slice_get pages.pages.items (n / rows_of_page)) (n % rows_of_page)

  -- whether a number has a row, blank or not
  abbrev pub is_there : Pages T → ℕ → Bool
  is_there pages n = is_some (there pages n)

  -- the row of a number, or the blank one
  abbrev pub row_or : T → Pages T → ℕ → T
  row_or blank pages n = unwrap_or (there pages n) blank

  -- the pages with this row at a place of one that is there
  abbrev pub with_in : Pages T → Option (Vec T Global) → ℕ → ℕ → T → Pages T
  with_in pages None number place row = pages
  with_in pages (Some page) number place row = record { pages = with_item pages.pages number (with_item page place row) }

  -- the pages with this row under the number, where one is there
  unfoldable pub with_row_under : Pages T → ℕ → T → Pages T
  with_row_under pages n row = with_in pages (slice_get pages.pages.items (n / rows_of_page)) (n / rows_of_page) (n % rows_of_page) row

module _ (T : RattleType) (pages : MutBor (Pages T.Denot)) (n : ℕ) where
  -- once the borrow r ends, the number has the last row written through r
  abbrev pub lends_row : MutBor T.Denot → Fml
  lends_row r = Lends (the_row T) T pages r (with_row_under pages.now n)

  -- the same where r is a reference, and at `None` the pages stay as they are
  abbrev pub lends_get : Option (MutBor T.Denot) → Fml
  lends_get r = LendsIf (the_row T) T pages r (with_row_under pages.now n) pages.now
