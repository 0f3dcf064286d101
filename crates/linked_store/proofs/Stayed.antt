-- A field that stays linked to the same authority leaves all rows as they are.
use Rattle.std.proofs.Common.{◌≡◌, ◌∙◌, sym, ap, refl, subst, ℕ, Bool, true, false, cond, Option, Some, None, IfSome, is_some}
use Rattle.std.specs.Prelude.{unwrap_or, if◌then◌else◌}
use Rattle.std.specs.List.{IsDistinct}
use Rattle.std.specs.Option.{option_map_or}
use mathlib.Core.Bool.{false≢true}
use Rattle.marc_types.specs.declared.entry.Tie.{Tie}
use Rattle.marc_types.specs.declared.key.Key.{Key}
use Rattle.marc_types.specs.Order.{key_Decides, same_form, same_key}
use Rattle.numbering.specs.Numbers.{number_of}
use Rattle.numbering.specs.Seats.{same_seat, seat_Decides}
use Rattle.numbering.specs.declared.seat.Seat.{Seat}
use Rattle.marc_types.specs.Fields.{tag_of}
use Rattle.catalogue_rules.specs.State.{KeptField, new_tie}
use Rattle.numbered_store.specs.Numbered.{field_of as field_by_number, with_field_of}
use Rattle.link_table.specs.Links.{is_linked}
use Rattle.linking_laws.specs.Partway.{IsSteady, swapped}
use Rattle.linking_laws.specs.Tables.{linked_at}
use Rattle.catalogue_tables.specs.Seam.{IsSeatOf, place_at}
use Rattle.catalogue_tables.proofs.Seams.{seat_back}
use Rattle.linked_store.specs.Contents.{Contents, at_seat, with_field_in}
use Rattle.linked_store.specs.Transactions.{GoesOn, contents}
use Rattle.linked_store.specs.Holding.{HasNoOther, can_be_heading, row_held_for}
use Rattle.linked_store.specs.Linked.{IsAhead, Linked, SuitsSeat, field_of}
use Rattle.linked_store.specs.Sound.{AgreesWith, IsSound, keys_of, linked_view, seen_links, state_in}
use Rattle.linked_store.specs.Staying.{is_linked_alike, same_link}
use Rattle.linked_store.specs.Turning.{IsLinkOf, turned}
use Rattle.linked_store.specs.declared.transaction.Transaction.{Transaction}
use Rattle.linked_store.specs.declared.held.RowHeld.{RowHeld}
use Rattle.linked_store.specs.declared.held.RowHeld.TheVariants.{Link, Waiting, Nothing}
use Rattle.linked_store.proofs.Agreed.{agrees_turned, state_turned}
use Rattle.linked_store.proofs.Fielded.{IsLeft, ahead_turned, field_there, wait_of}
use Rattle.linked_store.proofs.Holding.{as_told}
use Rattle.linked_store.proofs.Outside.{none_at}
use Rattle.linked_store.proofs.Sounding.{sound_on}
use Rattle.linked_store.proofs.Wanting.{wants_linked}

-- ---- the tie at a place

alike_some : (o : Option KeptField) (tie own : Tie) → own ≡ option_map_or (λ (h : KeptField). h.tie) o new_tie → same_link own tie ≡ is_linked_alike tie o
alike_some None tie own is = ap (λ (t : Tie). same_link t tie) is
alike_some (Some h) tie own is = ap (λ (t : Tie). same_link t tie) is

pub alike_read : (o : Option KeptField) (tie own : Tie) → unwrap_or (Some own) new_tie ≡ option_map_or (λ (h : KeptField). h.tie) o new_tie → same_link own tie ≡ is_linked_alike tie o
alike_read o tie own is = alike_some o tie own is

pub alike_off : (o : Option KeptField) (tie : Tie) → unwrap_or None new_tie ≡ option_map_or (λ (h : KeptField). h.tie) o new_tie → false ≡ is_linked_alike tie o
alike_off o tie is = alike_some o tie new_tie is

-- ---- the same key

link_is : (own tie : Tie) → same_link own tie ≡ true → own.key ≡ tie.key
link_is own tie e = by own.key tie.key e
  where
    by : (a b : Option Key) → option_map_or (λ key. option_map_or (same_key key) b false) a false ≡ true → a ≡ b
    by None b e = absurd (false≢true e)
    by (Some a) None e = absurd (false≢true e)
    by (Some a) (Some b) e = ap (λ (k : Key). Some k) ((key_Decides a b).0 e)

link_some : (own tie : Tie) → same_link own tie ≡ true → is_some own.key ≡ true
link_some own tie e = by own.key tie.key e
  where
    by : (a b : Option Key) → option_map_or (λ key. option_map_or (same_key key) b false) a false ≡ true → is_some a ≡ true
    by None b e = absurd (false≢true e)
    by (Some a) b e = refl

-- the field that stands there
record StandsAlike (tie : Tie) (o : Option KeptField) : Type 0 where
  was : KeptField
  is : o ≡ Some was
  same : same_link was.tie tie ≡ true

stands_alike : (tie : Tie) (o : Option KeptField) → is_linked_alike tie o ≡ true → StandsAlike tie o
stands_alike tie None e = absurd (false≢true e)
stands_alike tie (Some h) e = record { was = h; is = refl; same = e }

-- ---- the rows

itself_at : {V : Type 0} (seat : Seat) (things : Seat → Option V) (s : Seat) → things s ≡ at_seat seat (things seat) things s
itself_at {V} seat things s = by (same_seat seat s) refl
  where
    by : (b : Bool) → same_seat seat s ≡ b → things s ≡ cond b (things seat) (things s)
    by true e = ap things (sym ((seat_Decides seat s).0 e))
    by false e = refl

module _ (f g : Transaction) (marked : ℕ) (seat : Seat) (h : KeptField) (sound : IsSound f marked) (once : IsDistinct same_form f.tables.forms) (suits : SuitsSeat seat h (linked_view f marked))
    (alike : is_linked_alike h.tie (field_of seat (linked_view f marked)) ≡ true) (goes : GoesOn f g) (now : contents g ≡ with_field_in seat h (contents f)) where
  abbrev c : Contents
  c = contents f

  stands : StandsAlike h.tie (field_of seat (linked_view f marked))
  stands = stands_alike h.tie (field_of seat (linked_view f marked)) alike

  at : IsSeatOf (keys_of c) (place_at (keys_of c) seat) seat
  at = seat_back (keys_of c) sound.distinct seat suits.known

  linked_own : is_some stands.was.tie.key ≡ true
  linked_own = link_some stands.was.tie h.tie stands.same

  linked_now : is_some h.tie.key ≡ true
  linked_now = ap (λ (o : Option Key). is_some o) (sym (link_is stands.was.tie h.tie stands.same)) ∙ linked_own

  waits_not : c.waits seat ≡ None
  waits_not =
      let told = as_told f.tables c sound.distinct once sound.now seat suits.known in
      let field : field_by_number seat f.store ≡ Some stands.was = field_there seat f.store suits.known ∙ stands.is in
      let told_link : HasNoOther (row_held_for seat.class stands.was) seat c = subst (λ (o : Option KeptField). HasNoOther (option_map_or (row_held_for seat.class) o Nothing) seat c) field told in
      by (is_some stands.was.tie.key) (if can_be_heading seat.class (tag_of stands.was.field) then Waiting else Nothing) linked_own told_link
    where
      by : (b : Bool) (other : RowHeld) → b ≡ true → HasNoOther (cond b Link other) seat c → c.waits seat ≡ None
      by true other e has = has
      by false other e has = absurd (false≢true e)

  link_of_it : IsLinkOf (keys_of c).authorities h (c.links seat)
  link_of_it = record {
    leads = λ key.
        ap (λ (s : Seat). is_linked (number_of same_key (keys_of c).authorities key) (seen_links c.links) s) at.is
        ∙ sound.now.linked key (place_at (keys_of c) seat)
        ∙ ap (λ (o : Option KeptField). option_map_or (linked_at key seat.class) o false) stands.is
        ∙ ap (λ (o : Option Key). option_map_or (same_key key) o false) (link_is stands.was.tie h.tie stands.same);
    low = λ n e. sound.now.links_fit.named n seat e;
  }

  turned_alike : contents g ≡ turned seat h (c.links seat) None c
  turned_alike = now ∙ (λ i. record {
    numbered = with_field_of seat h c.numbered;
    index = c.index;
    links = λ s. itself_at seat c.links s i;
    waits = λ s. none_at seat c.waits waits_not s i;
  })

  keys_alike : g.store.keys ≡ f.store.keys
  keys_alike = ap (λ (x : Contents). x.numbered.keys) now

  sound_alike : IsSound g marked
  sound_alike =
      sound_on f g marked goes keys_alike sound
      (subst (λ x. AgreesWith g.tables x) (sym turned_alike)
      (agrees_turned f.tables g.tables seat stands.was h (c.links seat) None c sound.distinct suits.known stands.is
      (λ class. subst (λ (o : Option KeptField). IfSome o (λ old. IsSteady old h)) stands.is (suits.steady class)) goes.rows link_of_it
      (wait_of g.tables.forms (keys_of c).authorities seat.class h None None (wants_linked seat.class h linked_now) tt) sound.now))

  state_alike : state_in (contents g) ≡ swapped (place_at (keys_of c) seat) h (state_in c)
  state_alike = ap state_in now ∙ state_turned seat h f.store suits.known

  ahead_alike : IsAhead (linked_view f marked) (linked_view g marked)
  ahead_alike = ahead_turned f g marked sound goes keys_alike

-- how the exchange leaves the store, of which its caller saw this
pub left_alike : (f g : Transaction) (marked : ℕ) (seen : Linked) → linked_view f marked ≡ seen → IsSound f marked → (seat : Seat) (h : KeptField) → IsDistinct same_form f.tables.forms
    → SuitsSeat seat h seen → is_linked_alike h.tie (field_of seat seen) ≡ true → GoesOn f g → contents g ≡ with_field_in seat h (contents f)
    → IsLeft seen (swapped (place_at seen.keys seat) h seen.state) g marked
left_alike f g marked seen view sound seat h once suits alike goes now =
    let suits_seat : SuitsSeat seat h (linked_view f marked) = subst (λ (x : Linked). SuitsSeat seat h x) (sym view) suits in
    let alike_there : is_linked_alike h.tie (field_of seat (linked_view f marked)) ≡ true = subst (λ (x : Linked). is_linked_alike h.tie (field_of seat x) ≡ true) (sym view) alike in
    subst (λ (x : Linked). IsLeft x (swapped (place_at x.keys seat) h x.state) g marked) view (record {
      sound = sound_alike f g marked seat h sound once suits_seat alike_there goes now;
      state_is = state_alike f g marked seat h sound once suits_seat alike_there goes now;
      ahead = ahead_alike f g marked seat h sound once suits_seat alike_there goes now;
    })
