-- The row that a seat can have, as its field tells.
use Rattle.std.proofs.Common.{◌≡◌, ◌∙◌, sym, ap, refl, subst, ℕ, Bool, true, false, Option, Some, None, is_some, ◌<◌, length}
use Rattle.std.specs.Prelude.{if◌then◌else◌}
use Rattle.std.specs.List.{IsDistinct}
use Rattle.std.specs.Option.{option_map, option_map_or}
use Rattle.marc_types.specs.declared.field.Field.{Field}
use Rattle.marc_types.specs.declared.entry.Tie.{Tie}
use Rattle.marc_types.specs.declared.form.Form.{Form}
use Rattle.marc_types.specs.declared.form.Kind.{Kind}
use Rattle.marc_types.specs.declared.key.Class.{Class}
use Rattle.marc_types.specs.declared.key.Key.{Key}
use Rattle.marc_types.specs.Order.{same_form, same_key}
use Rattle.numbering.specs.declared.seat.Seat.{Seat}
use Rattle.marc_types.specs.Fields.{tag_of}
use Rattle.marc_types.specs.declared.field.Tag.{Tag}
use mathlib.Core.Bool.{false≢true}
use Rattle.entry_record.specs.Authority.{has_form, heading_kind, option_filter}
use Rattle.catalogue_rules.specs.State.{KeptField, new_tie}
use Rattle.numbered_store.specs.Numbered.{field_of}
use Rattle.linking_laws.specs.Tables.{asks_at, holds_at, linked_at}
use Rattle.linking_laws.specs.Waiting.{asked_forms, is_form_among}
use Rattle.catalogue_tables.specs.Seam.{AreDistinct, HasKey, IsSeatOf, keys_in, place_at}
use Rattle.catalogue_tables.specs.declared.tables.CatalogueTables.{CatalogueTables}
use Rattle.catalogue_tables.proofs.Seams.{seat_back}
use Rattle.linked_store.specs.Contents.{Contents, ToLink, ToWait, apply}
use Rattle.linked_store.specs.Holding.{AreAsTold, HasNoOther, IsAsTold, can_be_heading, row_held, row_held_by}
use Rattle.linked_store.specs.Placing.{seat_in}
use Rattle.linked_store.specs.Sound.{AgreesWith, keys_of, state_in}
use Rattle.linked_store.specs.Turns.{without_rows}
use Rattle.linked_store.specs.declared.held.RowHeld.{RowHeld}
use Rattle.linked_store.specs.declared.held.RowHeld.TheVariants.{Link, Waiting, Nothing}
use Rattle.linked_store.proofs.Heading.{no_heading}
use Rattle.linked_store.proofs.Fielded.{field_there}
use Rattle.linked_store.proofs.Fieldless.{no_link, no_wait}
use Rattle.linked_store.proofs.Outside.{none_at}

-- ---- a field read at a place

pub held_off : (class : Class) (o : Option KeptField) → None ≡ option_map (λ (h : KeptField). tag_of h.field) o → Nothing ≡ row_held class o
held_off class None off = refl
held_off class (Some h) off = absurd (false≢true (ap is_some off))

pub held_read : (class : Class) (o : Option KeptField) (tag : Tag) (tie : Tie) → Some tag ≡ option_map (λ (h : KeptField). tag_of h.field) o
    → tie ≡ option_map_or (λ (h : KeptField). h.tie) o new_tie → row_held_by class tag tie ≡ row_held class o
held_read class None tag tie here own = absurd (false≢true (sym (ap is_some here)))
held_read class (Some h) tag tie here own =
    let same : tag ≡ tag_of h.field = cc in
    λ i. row_held_by class (same i) (own i)

-- ---- what the tables have

-- a field without a link is linked to no key
linked_not : (key : Key) (class : Class) (h : KeptField) → is_some h.tie.key ≡ false → linked_at key class h ≡ false
linked_not key class h unlinked = by h.tie.key unlinked
  where
    by : (o : Option Key) → is_some o ≡ false → option_map_or (same_key key) o false ≡ false
    by None e = refl
    by (Some k) e = cc

-- a linked field asks for nothing
asks_not_linked : (form : Form) (class : Class) (h : KeptField) → is_some h.tie.key ≡ true → asks_at form class h ≡ false
asks_not_linked form class h linked =
    ap (λ (b : Bool). if b then false else option_map_or (λ kind. is_form_among (asked_forms class kind h) form) (heading_kind class h.field) false) linked

-- nor does one without a heading's tag
pub no_kind : (class : Class) (f : Field) → can_be_heading class (tag_of f) ≡ false → heading_kind class f ≡ None
unfolding heading_kind
no_kind class f none = ap (option_filter (has_form f)) (no_heading class f none)

asks_not_plain : (form : Form) (class : Class) (h : KeptField) → can_be_heading class (tag_of h.field) ≡ false → asks_at form class h ≡ false
asks_not_plain form class h plain =
    ap (λ (o : Option Kind). if is_some h.tie.key then false else option_map_or (λ kind. is_form_among (asked_forms class kind h) form) o false) (no_kind class h.field plain) ∙ never (is_some h.tie.key)
  where
    never : (b : Bool) → (if b then false else false) ≡ false
    never true = refl
    never false = refl

module _ (tables : CatalogueTables) (c : Contents) (distinct : AreDistinct (keys_of c)) (once : IsDistinct same_form tables.forms) (agrees : AgreesWith tables c) (seat : Seat) (low : HasKey (keys_of c) seat) where
  at : IsSeatOf (keys_of c) (place_at (keys_of c) seat) seat
  at = seat_back (keys_of c) distinct seat low

  -- what stands at the seat decides what holds at its place
  holds_by : (test : Class → KeptField → Bool) (o : Option KeptField) → field_of seat c.numbered ≡ o → holds_at test (state_in c) (place_at (keys_of c) seat) ≡ option_map_or (test seat.class) o false
  holds_by test o is = ap (λ (x : Option KeptField). option_map_or (test seat.class) x false) (sym (field_there seat c.numbered low) ∙ is)

  free_link : ((key : Key) → holds_at (linked_at key) (state_in c) (place_at (keys_of c) seat) ≡ false) → c.links seat ≡ None
  free_link none = no_link tables c distinct once agrees (place_at (keys_of c) seat) seat at none

  free_wait : ((form : Form) → holds_at (asks_at form) (state_in c) (place_at (keys_of c) seat) ≡ false) → c.waits seat ≡ None
  free_wait none = no_wait tables c distinct once agrees (place_at (keys_of c) seat) seat at none

  pub as_told : IsAsTold seat c
  as_told = by (field_of seat c.numbered) refl
    where
      for : (h : KeptField) → field_of seat c.numbered ≡ Some h → (linked heading : Bool) → is_some h.tie.key ≡ linked → can_be_heading seat.class (tag_of h.field) ≡ heading
          → HasNoOther (if linked then Link else if heading then Waiting else Nothing) seat c
      for h is true heading l k = free_wait (λ form. holds_by (asks_at form) (Some h) is ∙ asks_not_linked form seat.class h l)
      for h is false true l k = free_link (λ key. holds_by (linked_at key) (Some h) is ∙ linked_not key seat.class h l)
      for h is false false l k = (
        free_link (λ key. holds_by (linked_at key) (Some h) is ∙ linked_not key seat.class h l),
        free_wait (λ form. holds_by (asks_at form) (Some h) is ∙ asks_not_plain form seat.class h k),
      )

      by : (o : Option KeptField) → field_of seat c.numbered ≡ o → HasNoOther (row_held seat.class o) seat c
      by None is = (free_link (λ key. holds_by (linked_at key) None is), free_wait (λ form. holds_by (asks_at form) None is))
      by (Some h) is = for h is (is_some h.tie.key) (can_be_heading seat.class (tag_of h.field)) refl refl

-- ---- one row taken out is all

module _ (seat : Seat) (c d : Contents) (told : IsAsTold seat c) where
  other : (row : RowHeld) → row ≡ row_held seat.class (field_of seat c.numbered) → HasNoOther row seat c
  other row is = subst (λ (r : RowHeld). HasNoOther r seat c) (sym is) told

  pub without_link : Link ≡ row_held seat.class (field_of seat c.numbered) → d ≡ apply (ToLink seat None) c → d ≡ without_rows seat c
  without_link held is = is ∙ (λ i. record {
    numbered = c.numbered;
    index = c.index;
    links = (apply (ToLink seat None) c).links;
    waits = λ s. none_at seat c.waits (other Link held) s i;
  })

  pub without_wait : Waiting ≡ row_held seat.class (field_of seat c.numbered) → d ≡ apply (ToWait seat None) c → d ≡ without_rows seat c
  without_wait held is = is ∙ (λ i. record {
    numbered = c.numbered;
    index = c.index;
    links = λ s. none_at seat c.links (other Waiting held) s i;
    waits = (apply (ToWait seat None) c).waits;
  })

  pub without_any : Nothing ≡ row_held seat.class (field_of seat c.numbered) → d ≡ c → d ≡ without_rows seat c
  without_any held is = is ∙ (λ i. record {
    numbered = c.numbered;
    index = c.index;
    links = λ s. none_at seat c.links (other Nothing held).0 s i;
    waits = λ s. none_at seat c.waits (other Nothing held).1 s i;
  })

-- the seats of a record are told by its fields
pub all_told : (tables : CatalogueTables) (c : Contents) (class : Class) (number : ℕ) → AreDistinct (keys_of c) → IsDistinct same_form tables.forms → AgreesWith tables c
    → number < length (keys_in class (keys_of c)) → AreAsTold class number c
all_told tables c class number distinct once agrees low = λ field. as_told tables c distinct once agrees (seat_in class number field) low
