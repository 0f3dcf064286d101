-- A field exchanged with its rows: the rows out, the new ones in, and the field.
use Rattle.std.proofs.Common.{◌≡◌, ◌∙◌, sym, ap, refl, subst, ℕ, Option, Some, None}
use Rattle.numbering.specs.declared.seat.Seat.{Seat}
use Rattle.catalogue_rules.specs.State.{KeptField}
use Rattle.numbered_store.specs.Numbered.{with_field_of}
use Rattle.wait_table.specs.declared.waiting.Waiting.{Waiting}
use Rattle.catalogue_tables.specs.declared.tables.CatalogueTables.{CatalogueTables}
use Rattle.linked_store.specs.Contents.{Contents, ToLink, ToWait, apply, at_seat, with_field_in}
use Rattle.linked_store.specs.Transactions.{contents}
use Rattle.linked_store.specs.Turning.{turned}
use Rattle.linked_store.specs.Turns.{HasRows, IsTurned, IsWaiting, IsWaitingOf, without_rows}
use Rattle.linked_store.specs.declared.transaction.Transaction.{Transaction}
use Rattle.linked_store.specs.declared.turns.Row.{Row}
use Rattle.linked_store.proofs.Outside.{gone_at, none_at}
use Rattle.linked_store.proofs.Noted.{set_again}

-- no link comes to a seat that has none
pub no_link_comes : (seat : Seat) (link : Option ℕ) (c : Contents) → link ≡ None → c.links seat ≡ None → c ≡ apply (ToLink seat link) c
no_link_comes seat link c is free = λ i. record {
  numbered = c.numbered;
  index = c.index;
  links = λ s. (none_at seat c.links free s ∙ ap (λ l. at_seat seat l c.links s) (sym is)) i;
  waits = c.waits;
}

pub no_row_comes : (seat : Seat) (row : Option Row) (f : Transaction) → ((r : Row) → row ≡ Some r → ⊥) → (contents f).waits seat ≡ None → IsWaiting seat row f f
no_row_comes seat None f none free = record {
  waiting = None;
  is = tt;
  now = λ i. record { numbered = (contents f).numbered; index = (contents f).index; links = (contents f).links; waits = λ s. none_at seat (contents f).waits free s i };
}
no_row_comes seat (Some row) f none free = absurd (none row refl)

-- a seat without rows
pub no_link_at : (seat : Seat) (c d : Contents) → d ≡ without_rows seat c → d.links seat ≡ None
no_link_at seat c d is = ap (λ (x : Contents). x.links seat) is ∙ gone_at seat None c.links

pub no_row_at : (seat : Seat) (c d : Contents) → d ≡ without_rows seat c → d.waits seat ≡ None
no_row_at seat c d is = ap (λ (x : Contents). x.waits seat) is ∙ gone_at seat None c.waits

all_again : (seat : Seat) (h : KeptField) (link : Option ℕ) (waiting : Option Waiting) (c : Contents)
    → with_field_in seat h (apply (ToWait seat waiting) (apply (ToLink seat link) (without_rows seat c))) ≡ turned seat h link waiting c
all_again seat h link waiting c = λ i. record {
  numbered = with_field_of seat h c.numbered;
  index = c.index;
  links = λ s. set_again seat link None c.links s i;
  waits = λ s. set_again seat waiting None c.waits s i;
}

pub turned_rows : (start without with_rows now : Transaction) (seat : Seat) (h : KeptField) (link : Option ℕ) (row : Option Row) → contents without ≡ without_rows seat (contents start)
    → HasRows seat link row without with_rows → now.tables ≡ with_rows.tables → contents now ≡ with_field_in seat h (contents with_rows) → IsTurned seat h link row start now
turned_rows start without with_rows now seat h link row out rows tables is = record {
  waiting = rows.waiting;
  is = subst (λ (t : CatalogueTables). IsWaitingOf t.forms row rows.waiting) (sym tables) rows.is;
  now =
      is ∙ ap (with_field_in seat h) rows.now ∙ ap (λ (c : Contents). with_field_in seat h (apply (ToWait seat rows.waiting) (apply (ToLink seat link) c))) out
      ∙ all_again seat h link rows.waiting (contents start);
}
