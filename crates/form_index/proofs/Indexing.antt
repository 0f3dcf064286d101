-- The index as rows and lists: what each change leaves of them.
use Rattle.std.proofs.Common.{◌≡◌, ◌≢◌, ◌⊎◌, inl, inr, ◌∙◌, sym, ap, subst, refl, ℕ, arith, List, [], ◌∷◌, length, Option, Some, None, Result, Ok, Err, OnErr, eq-eqb}
use Rattle.std.specs.Prelude.{Bool, true, false, ◌||◌, ◌==◌, is_none, is_some, if◌then◌else◌}
use Rattle.std.specs.Option.{option_map_or}
use Rattle.std.specs.List.Sorted.{IsStrictlySortedBy}
use Rattle.std.proofs.lemmas.Bool.{true≢false, eqb-true}
use Rattle.marc_types.specs.declared.key.Key.{Key}
use Rattle.form_index.specs.Order.{Ascends, has}
use Rattle.numbering.specs.Pages.{is_there, row_or, there, with_row_under}
use Rattle.numbering.specs.declared.pages.Pages.{Pages}
use Rattle.form_index.specs.Trimmed.{trimmed, with_at}
use Rattle.form_index.specs.Listed.{Listed, no_list, released, entered, withdrawn, with_held}
use Rattle.form_index.specs.Forms.{Forms, belongs}
use Rattle.form_index.specs.Index.{ExchangesRow, Indexed, IsBlankScan, IsHeld, IsScan, IsShortListing, Listing, ListingInOrder, Puts, PutsBack, TakesOut, Took, listed, listing_step, no_index, rows_in, slot_at, taken, with_slot}
use Rattle.form_index.specs.Stands.{Fits, HasSlots, Stands}
use Rattle.form_index.specs.declared.among.Among.{Among}
use Rattle.form_index.specs.declared.among.Among.TheVariants.{All, Bare}
use Rattle.form_index.specs.declared.among.By.{By}
use Rattle.form_index.specs.declared.among.By.TheVariants.{Established, SeeFrom}
use Rattle.form_index.proofs.Listing.{listing_short, listing_took, same_listing}
use Rattle.form_index.proofs.Paging.{flat_blank, flat_none, flat_same, flat_with_row}
use Rattle.form_index.proofs.Places.{held_after_hold, held_after_enter, held_after_withdraw, held_withdrawn, live_entered, live_withdrawn, put_undone, reentered, still_has, turn}
use Rattle.form_index.proofs.Trims.{same_trimmed, trimmed_again, trimmed_at, with_at_at}

-- ---- rows

none_is : (x : Option Forms) → is_none x ≡ true → x ≡ None
none_is None e = refl
none_is (Some x) e = cc

pub slots_at : (rows : List (Option Forms)) (n : ℕ) → slot_at (trimmed is_none rows) n ≡ slot_at rows n
slots_at = trimmed_at None is_none none_is refl

pub rows_same : (old new : List (Option Forms)) → ((n : ℕ) → slot_at new n ≡ slot_at old n) → trimmed is_none new ≡ trimmed is_none old
rows_same old new same = same_trimmed None is_none none_is refl new old same

rows_with : (n : ℕ) (s : Option Forms) (old new : List (Option Forms)) → ((m : ℕ) → slot_at new m ≡ (if m == n then s else slot_at old m)) → trimmed is_none new ≡ with_slot n s (trimmed is_none old)
rows_with n s old new slots =
    same_trimmed None is_none none_is refl new (with_at None n s (trimmed is_none old))
    (λ m. slots m ∙ ap (λ z. if m == n then s else z) (sym (slots_at old m)) ∙ sym (with_at_at None n s (trimmed is_none old) m))

with_slot_at : (n : ℕ) (s : Option Forms) (rows : List (Option Forms)) (m : ℕ) → slot_at (with_slot n s rows) m ≡ (if m == n then s else slot_at rows m)
with_slot_at n s rows m = slots_at (with_at None n s rows) m ∙ with_at_at None n s rows m

-- a row that goes where it was
slots_back : (n : ℕ) (s t : Option Forms) (rows : List (Option Forms)) → trimmed is_none rows ≡ rows → slot_at rows n ≡ s → with_slot n s (with_slot n t rows) ≡ rows
slots_back n s t rows short at =
    same_trimmed None is_none none_is refl (with_at None n s (with_slot n t rows)) rows
    (λ m. with_at_at None n s (with_slot n t rows) m ∙ ap (λ z. if m == n then s else z) (with_slot_at n t rows m) ∙ by m (m == n) refl)
    ∙ short
  where
    by : (m : ℕ) (d : Bool) → (m == n) ≡ d → (if m == n then s else (if m == n then t else slot_at rows m)) ≡ slot_at rows m
    by m true e = ap (λ b. if b then s else (if b then t else slot_at rows m)) e ∙ sym at ∙ ap (slot_at rows) (sym (eqb-true m n e))
    by m false e = ap (λ b. if b then s else (if b then t else slot_at rows m)) e

-- where there is no row, to take none changes nothing
pub none_there : (n : ℕ) (rows : List (Option Forms)) → slot_at rows n ≡ None → (m : ℕ) → slot_at rows m ≡ (if m == n then None else slot_at rows m)
none_there n rows free m = by (m == n) refl
  where
    by : (d : Bool) → (m == n) ≡ d → slot_at rows m ≡ (if m == n then None else slot_at rows m)
    by true e = ap (slot_at rows) (eqb-true m n e) ∙ free ∙ sym (ap (λ b. if b then None else slot_at rows m) e)
    by false e = sym (ap (λ b. if b then None else slot_at rows m) e)

-- where there was no row, none went
pub none_taken : (n : ℕ) (rows more : List (Option Forms)) → slot_at rows n ≡ None → ((m : ℕ) → slot_at more m ≡ (if m == n then None else slot_at rows m)) → (m : ℕ) → slot_at more m ≡ slot_at rows m
none_taken n rows more free slots m = slots m ∙ sym (none_there n rows free m)

-- ---- rows in pages

pub same_slots : (old new : Pages (Option Forms)) → ((n : ℕ) → row_or None new n ≡ row_or None old n) → (n : ℕ) → slot_at (rows_in new) n ≡ slot_at (rows_in old) n
same_slots = flat_same None

-- a number with a row is there
pub row_there : (pages : Pages (Option Forms)) (n : ℕ) (r : Forms) → slot_at (rows_in pages) n ≡ Some r → is_there pages n ≡ true
row_there pages n r at = by (there pages n) refl
  where
    by : (o : Option (Option Forms)) → there pages n ≡ o → is_there pages n ≡ true
    by (Some slot) e = ap is_some e
    by None e = absurd (none≢some (sym (flat_none None pages n e) ∙ at))
      where
        none≢some : None ≡ Some r → ⊥
        none≢some h = cc

pub no_rows : (pages : Pages (Option Forms)) → ((n : ℕ) → there pages n ≡ None) → trimmed is_none (rows_in pages) ≡ []
no_rows = flat_blank None is_none none_is refl

-- a slot is exchanged
pub slots_with : (pages : Pages (Option Forms)) (n : ℕ) (slot : Option Forms) → is_there pages n ≡ true → (m : ℕ)
    → slot_at (rows_in (with_row_under pages n slot)) m ≡ (if m == n then slot else slot_at (rows_in pages) m)
slots_with pages n slot at m = flat_with_row None pages n slot at m ∙ ap (λ b. if b then slot else slot_at (rows_in pages) m) (turn n m)

-- ---- rows and lists together

abbrev pub shown : List (Option Forms) → Listing → Indexed
shown rows lists = record { rows = trimmed is_none rows; lists = lists }

module _ (n : ℕ) (r : Forms) (step : Listed → Listed) (old new : Listing) (took : Took r step old new) where
  took_in : (a : Among) (b : By) (f : ℕ) → belongs a b f r ≡ true → listed a b f new ≡ step (listed a b f old)
  took_in a b f e = took a b f ∙ ap (λ t. if t then step (listed a b f old) else listed a b f old) e

  took_out : (a : Among) (b : By) (f : ℕ) → belongs a b f r ≡ false → listed a b f new ≡ listed a b f old
  took_out a b f e = took a b f ∙ ap (λ t. if t then step (listed a b f old) else listed a b f old) e

  module _ (rows more : List (Option Forms)) (s : Option Forms) (slots : (m : ℕ) → slot_at more m ≡ (if m == n then s else slot_at rows m)) (fits : Fits rows old) where
    fits_after : ((a : Among) (b : By) (f : ℕ) → belongs a b f r ≡ true → (m : ℕ) → has m (step (listed a b f old)).live ≡ (if m == n then option_map_or (belongs a b f) s false else has m (listed a b f old).live))
        → ((a : Among) (b : By) (f : ℕ) → belongs a b f r ≡ false → has n (listed a b f old).live ≡ option_map_or (belongs a b f) s false)
        → Fits more new
    fits_after inside outside a b f m = by (belongs a b f r) refl
      where
        ends : (d : Bool) → (m == n) ≡ d → (if m == n then option_map_or (belongs a b f) s false else has m (listed a b f old).live) ≡ option_map_or (belongs a b f) (slot_at more m) false
        ends true e =
            ap (λ t. if t then option_map_or (belongs a b f) s false else has m (listed a b f old).live) e
            ∙ ap (λ o. option_map_or (belongs a b f) o false) (sym (slots m ∙ ap (λ t. if t then s else slot_at rows m) e))
        ends false e =
            ap (λ t. if t then option_map_or (belongs a b f) s false else has m (listed a b f old).live) e ∙ fits a b f m
            ∙ ap (λ o. option_map_or (belongs a b f) o false) (sym (slots m ∙ ap (λ t. if t then s else slot_at rows m) e))

        same : belongs a b f r ≡ false → (d : Bool) → (m == n) ≡ d → has m (listed a b f old).live ≡ (if m == n then option_map_or (belongs a b f) s false else has m (listed a b f old).live)
        same out true e =
            ap (λ k. has k (listed a b f old).live) (eqb-true m n e) ∙ outside a b f out
            ∙ sym (ap (λ t. if t then option_map_or (belongs a b f) s false else has m (listed a b f old).live) e)
        same out false e = sym (ap (λ t. if t then option_map_or (belongs a b f) s false else has m (listed a b f old).live) e)

        by : (t : Bool) → belongs a b f r ≡ t → has m (listed a b f new).live ≡ option_map_or (belongs a b f) (slot_at more m) false
        by true e = ap (λ l. has m l.live) (took_in a b f e) ∙ inside a b f e m ∙ ends (m == n) refl
        by false e = ap (λ l. has m l.live) (took_out a b f e) ∙ same e (m == n) refl ∙ ends (m == n) refl

  slots_after : ((l : Listed) (m : ℕ) → has m (step l).held ≡ true → (m ≡ n) ⊎ (has m l.held ≡ true)) → (reached now : ℕ → Bool) → now n ≡ true → ((m : ℕ) → reached m ≡ true → now m ≡ true)
      → HasSlots reached old → HasSlots now new
  slots_after held reached now known stays slots f m there = by (belongs All Established f r) refl
    where
      where_from : (m ≡ n) ⊎ (has m (listed All Established f old).held ≡ true) → now m ≡ true
      where_from (inl e) = ap now e ∙ known
      where_from (inr h) = stays m (slots f m h)

      by : (t : Bool) → belongs All Established f r ≡ t → now m ≡ true
      by true e = where_from (held (listed All Established f old) m (sym (ap (λ l. has m l.held) (took_in All Established f e)) ∙ there))
      by false e = where_from (inr (sym (ap (λ l. has m l.held) (took_out All Established f e)) ∙ there))

-- blank slots more change nothing
pub reached_stands : (rows more : List (Option Forms)) (reached now : ℕ → Bool) (lists : Listing) → Stands rows reached lists → ((m : ℕ) → slot_at more m ≡ slot_at rows m)
    → ((m : ℕ) → reached m ≡ true → now m ≡ true) → Stands more now lists
reached_stands rows more reached now lists stands same stays = record {
  fits = λ a b f m. stands.fits a b f m ∙ ap (λ o. option_map_or (belongs a b f) o false) (sym (same m));
  slots = λ f m held. stays m (stands.slots f m held);
  short = stands.short;
}

-- ---- a row is taken out

module _ (keys : List Key) (n : ℕ) (r : Forms) (rows more : List (Option Forms)) (reached now : ℕ → Bool) (old new : Listing) (stands : Stands rows reached old) (at : slot_at rows n ≡ Some r)
    (slots : (m : ℕ) → slot_at more m ≡ (if m == n then None else slot_at rows m)) (ordered : ListingInOrder keys old) (is : new ≡ listing_step r (withdrawn n) old) where
  listed_there : (a : Among) (b : By) (f : ℕ) → has n (listed a b f old).live ≡ belongs a b f r
  listed_there a b f = stands.fits a b f n ∙ ap (λ o. option_map_or (belongs a b f) o false) at

  took_withdraw : Took r (withdrawn n) old new
  took_withdraw = subst (Took r (withdrawn n) old) (sym is) (listing_took r (withdrawn n) old refl)

  pub take_stands : now n ≡ true → ((m : ℕ) → reached m ≡ true → now m ≡ true) → Stands more now new
  take_stands known stays = record {
    fits = fits_after n r (withdrawn n) old new took_withdraw rows more None slots stands.fits
        (λ a b f e m. live_withdrawn n (listed a b f old) keys (ordered a b f) (listed_there a b f ∙ e) m)
        (λ a b f e. listed_there a b f ∙ e);
    slots = slots_after n r (withdrawn n) old new took_withdraw (λ l m h. held_after_withdraw n l m h) reached now known stays stands.slots;
    short = subst IsShortListing (sym is) (listing_short r (withdrawn n) old stands.short);
  }

  lists_back : listing_step r (entered keys n) new ≡ old
  lists_back =
      same_listing old (listing_step r (entered keys n) new) stands.short
      (listing_short r (entered keys n) new (subst IsShortListing (sym is) (listing_short r (withdrawn n) old stands.short)))
      (λ a b f. by a b f (belongs a b f r) refl)
    where
      took_enter : Took r (entered keys n) new (listing_step r (entered keys n) new)
      took_enter = listing_took r (entered keys n) new refl

      by : (a : Among) (b : By) (f : ℕ) (t : Bool) → belongs a b f r ≡ t → listed a b f (listing_step r (entered keys n) new) ≡ listed a b f old
      by a b f true e =
          took_in n r (entered keys n) new (listing_step r (entered keys n) new) took_enter a b f e
          ∙ ap (entered keys n) (took_in n r (withdrawn n) old new took_withdraw a b f e)
          ∙ reentered n (listed a b f old) keys (ordered a b f) (listed_there a b f ∙ e)
      by a b f false e = took_out n r (entered keys n) new (listing_step r (entered keys n) new) took_enter a b f e ∙ took_out n r (withdrawn n) old new took_withdraw a b f e

  pub take_takes : TakesOut keys (taken n r) (shown rows old) (shown more new)
  take_takes = record {
    is = λ i. record { rows = rows_with n None rows more slots i; lists = is i };
    rows = λ m. slots_at more m ∙ slots m ∙ ap (λ z. if m == n then None else z) (sym (slots_at rows m));
    held = λ a b f e. ap (λ l. has n l.held) (took_in n r (withdrawn n) old new took_withdraw a b f e) ∙ held_withdrawn n (listed a b f old) (listed_there a b f ∙ e);
    undone =
        let rows_back : with_slot n (Some r) (trimmed is_none more) ≡ trimmed is_none rows =
        ap (with_slot n (Some r)) (rows_with n None rows more slots)
        ∙ slots_back n (Some r) None (trimmed is_none rows) (trimmed_again None is_none none_is refl rows) (slots_at rows n ∙ at) in
        λ i. record { rows = rows_back i; lists = lists_back i };
  }

-- ---- a row is entered, whose places are held

module _ (keys : List Key) (n : ℕ) (r : Forms) (rows more : List (Option Forms)) (old new : Listing) (fits : Fits rows old) (free : slot_at rows n ≡ None)
    (slots : (m : ℕ) → slot_at more m ≡ (if m == n then Some r else slot_at rows m)) (is : new ≡ listing_step r (entered keys n) old)
    (held : (a : Among) (b : By) (f : ℕ) → belongs a b f r ≡ true → has n (listed a b f old).held ≡ true) where
  absent : (a : Among) (b : By) (f : ℕ) → has n (listed a b f old).live ≡ false
  absent a b f = fits a b f n ∙ ap (λ o. option_map_or (belongs a b f) o false) free

  pub took_entered : Took r (entered keys n) old new
  took_entered = subst (Took r (entered keys n) old) (sym is) (listing_took r (entered keys n) old refl)

  enter_fits : Fits more new
  enter_fits =
      fits_after n r (entered keys n) old new took_entered rows more (Some r) slots fits
      (λ a b f e m. live_entered n (listed a b f old) keys (held a b f e) (absent a b f) m ∙ ap (λ t. if m == n then t else has m (listed a b f old).live) (sym e))
      (λ a b f e. absent a b f ∙ sym e)

  pub enter_stands : (reached now : ℕ → Bool) → IsShortListing old → HasSlots reached old → now n ≡ true → ((m : ℕ) → reached m ≡ true → now m ≡ true) → Stands more now new
  enter_stands reached now short places known stays = record {
    fits = enter_fits;
    slots = slots_after n r (entered keys n) old new took_entered (λ l m h. held_after_enter n l keys m h) reached now known stays places;
    short = subst IsShortListing (sym is) (listing_short r (entered keys n) old short);
  }

  pub enter_exchanges : ExchangesRow n (Some r) (shown rows old) (shown more new)
  enter_exchanges m = slots_at more m ∙ slots m ∙ ap (λ z. if m == n then Some r else z) (sym (slots_at rows m))

  pub enter_puts_back : PutsBack keys (taken n r) (shown rows old) (shown more new)
  enter_puts_back = record {
    is = λ i. record { rows = rows_with n (Some r) rows more slots i; lists = is i };
    rows = enter_exchanges;
  }

-- a place that is held has a slot
pub held_slot : (n : ℕ) (r : Forms) (rows : List (Option Forms)) (reached : ℕ → Bool) (lists : Listing) → Stands rows reached lists → IsHeld (taken n r) (shown rows lists) → reached n ≡ true
held_slot n r rows reached lists stands held =
    stands.slots r.established n (held All Established r.established (ap (λ t. t || false) (eq-eqb r.established r.established refl)))

-- ---- places are made, or given up

module _ (n : ℕ) (r : Forms) (rows : List (Option Forms)) (reached : ℕ → Bool) (old new : Listing) (stands : Stands rows reached old) where
  pub hold_fits : (more : List (Option Forms)) → ((m : ℕ) → slot_at more m ≡ slot_at rows m) → Took r (with_held n) old new → Fits more new
  hold_fits more same took a b f m = by (belongs a b f r) refl ∙ stands.fits a b f m ∙ ap (λ o. option_map_or (belongs a b f) o false) (sym (same m))
    where
      by : (t : Bool) → belongs a b f r ≡ t → has m (listed a b f new).live ≡ has m (listed a b f old).live
      by true e = ap (λ l. has m l.live) (took_in n r (with_held n) old new took a b f e)
      by false e = ap (λ l. has m l.live) (took_out n r (with_held n) old new took a b f e)

  pub hold_held : Took r (with_held n) old new → (a : Among) (b : By) (f : ℕ) → belongs a b f r ≡ true → has n (listed a b f new).held ≡ true
  hold_held took a b f e =
      ap (λ l. has n l.held) (took_in n r (with_held n) old new took a b f e) ∙ ap (λ t. t || has n (listed a b f old).held) (eq-eqb n n refl)

  pub hold_slots : (now : ℕ → Bool) → now n ≡ true → ((m : ℕ) → reached m ≡ true → now m ≡ true) → Took r (with_held n) old new → HasSlots now new
  hold_slots now known stays took = slots_after n r (with_held n) old new took (λ l m h. held_after_hold n l m h) reached now known stays stands.slots

  pub hold_ordered : (keys : List Key) → ListingInOrder keys old → Took r (with_held n) old new → ListingInOrder keys new
  hold_ordered keys ordered took a b f = by (belongs a b f r) refl
    where
      by : (t : Bool) → belongs a b f r ≡ t → Ascends keys (listed a b f new).live
      by true e = subst (λ l. Ascends keys l.live) (sym (took_in n r (with_held n) old new took a b f e)) (ordered a b f)
      by false e = subst (λ l. Ascends keys l.live) (sym (took_out n r (with_held n) old new took a b f e)) (ordered a b f)

  module _ (is : new ≡ listing_step r (released n) old) where
    took_release : Took r (released n) old new
    took_release = subst (Took r (released n) old) (sym is) (listing_took r (released n) old refl)

    same_live : (a : Among) (b : By) (f : ℕ) → (listed a b f new).live ≡ (listed a b f old).live
    same_live a b f = by (belongs a b f r) refl
      where
        by : (t : Bool) → belongs a b f r ≡ t → (listed a b f new).live ≡ (listed a b f old).live
        by true e = ap (λ l. l.live) (took_in n r (released n) old new took_release a b f e)
        by false e = ap (λ l. l.live) (took_out n r (released n) old new took_release a b f e)

    pub release_ordered : (keys : List Key) → ListingInOrder keys old → ListingInOrder keys new
    release_ordered keys ordered a b f = subst (Ascends keys) (sym (same_live a b f)) (ordered a b f)

    pub release_stands : Stands rows reached new
    release_stands = record {
      fits = λ a b f m. ap (has m) (same_live a b f) ∙ stands.fits a b f m;
      slots = λ f m there. stands.slots f m (by f m there (belongs All Established f r) refl);
      short = subst IsShortListing (sym is) (listing_short r (released n) old stands.short);
    }
      where
        by : (f m : ℕ) → has m (listed All Established f new).held ≡ true → (t : Bool) → belongs All Established f r ≡ t → has m (listed All Established f old).held ≡ true
        by f m there true e = still_has n m (listed All Established f old).held (sym (ap (λ l. has m l.held) (took_in n r (released n) old new took_release All Established f e)) ∙ there)
        by f m there false e = sym (ap (λ l. has m l.held) (took_out n r (released n) old new took_release All Established f e)) ∙ there

-- ---- a row that was put is taken out and let go

module _ (keys : List Key) (n : ℕ) (r : Forms) (rows more : List (Option Forms)) (reached : ℕ → Bool) (old mid new : Listing) (stands : Stands rows reached old) (free : slot_at rows n ≡ None)
    (slots : (m : ℕ) → slot_at more m ≡ (if m == n then Some r else slot_at rows m)) (held : Took r (with_held n) old mid) (is : new ≡ listing_step r (entered keys n) mid) where
  put_lists : IsShortListing mid → listing_step r (released n) (listing_step r (withdrawn n) new) ≡ old
  put_lists short =
      same_listing old (listing_step r (released n) (listing_step r (withdrawn n) new)) stands.short
      (listing_short r (released n) (listing_step r (withdrawn n) new) (listing_short r (withdrawn n) new (subst IsShortListing (sym is) (listing_short r (entered keys n) mid short))))
      (λ a b f. by a b f (belongs a b f r) refl)
    where
      enter : Took r (entered keys n) mid new
      enter = subst (Took r (entered keys n) mid) (sym is) (listing_took r (entered keys n) mid refl)

      out : Took r (withdrawn n) new (listing_step r (withdrawn n) new)
      out = listing_took r (withdrawn n) new refl

      go : Took r (released n) (listing_step r (withdrawn n) new) (listing_step r (released n) (listing_step r (withdrawn n) new))
      go = listing_took r (released n) (listing_step r (withdrawn n) new) refl

      by : (a : Among) (b : By) (f : ℕ) (t : Bool) → belongs a b f r ≡ t → listed a b f (listing_step r (released n) (listing_step r (withdrawn n) new)) ≡ listed a b f old
      by a b f true e =
          took_in n r (released n) (listing_step r (withdrawn n) new) (listing_step r (released n) (listing_step r (withdrawn n) new)) go a b f e
          ∙ ap (released n) (took_in n r (withdrawn n) new (listing_step r (withdrawn n) new) out a b f e
          ∙ ap (withdrawn n) (took_in n r (entered keys n) mid new enter a b f e ∙ ap (entered keys n) (took_in n r (with_held n) old mid held a b f e)))
          ∙ put_undone n (listed a b f old) keys (stands.fits a b f n ∙ ap (λ o. option_map_or (belongs a b f) o false) free)
      by a b f false e =
          took_out n r (released n) (listing_step r (withdrawn n) new) (listing_step r (released n) (listing_step r (withdrawn n) new)) go a b f e
          ∙ took_out n r (withdrawn n) new (listing_step r (withdrawn n) new) out a b f e
          ∙ took_out n r (entered keys n) mid new enter a b f e ∙ took_out n r (with_held n) old mid held a b f e

  pub put_puts : IsShortListing mid → Puts (taken n r) (shown rows old) (shown more new)
  put_puts short = record {
    rows = λ m. slots_at more m ∙ slots m ∙ ap (λ z. if m == n then Some r else z) (sym (slots_at rows m));
    undone =
        let rows_back : with_slot n None (trimmed is_none more) ≡ trimmed is_none rows =
        ap (with_slot n None) (rows_with n (Some r) rows more slots)
        ∙ slots_back n None (Some r) (trimmed is_none rows) (trimmed_again None is_none none_is refl rows) (slots_at rows n ∙ free) in
        λ i. record { rows = rows_back i; lists = put_lists short i };
  }

-- ---- what the lists say of the rows

module _ (rows : List (Option Forms)) (reached : ℕ → Bool) (lists : Listing) (stands : Stands rows reached lists) (a : Among) (b : By) (f : ℕ) where
  pub scans : (numbers : List ℕ) → numbers ≡ (listed a b f lists).live → IsScan a b f (shown rows lists) numbers
  scans numbers is = record {
    members = λ n. ap (has n) is ∙ stands.fits a b f n ∙ ap (λ o. option_map_or (belongs a b f) o false) (sym (slots_at rows n));
    ordered = λ keys ordered. subst (Ascends keys) (sym is) (ordered a b f);
  }

  pub scans_none : (numbers : List ℕ) → numbers ≡ (listed a b f lists).live → numbers ≡ [] → IsBlankScan a b f (shown rows lists)
  scans_none numbers is blank n = ap (λ o. option_map_or (belongs a b f) o false) (slots_at rows n) ∙ sym (stands.fits a b f n) ∙ ap (has n) (sym is ∙ blank)

-- ---- the blank index

nil_ascends : (keys : List Key) → Ascends keys []
unfolding IsStrictlySortedBy
nil_ascends keys = record { known = tt; rising = tt }

pub none_ordered : (keys : List Key) → ListingInOrder keys no_index.lists
none_ordered keys All Established f = nil_ascends keys
none_ordered keys All SeeFrom f = nil_ascends keys
none_ordered keys Bare Established f = nil_ascends keys
none_ordered keys Bare SeeFrom f = nil_ascends keys

none_listed : (a : Among) (b : By) (f : ℕ) → listed a b f no_index.lists ≡ no_list
none_listed All Established f = refl
none_listed All SeeFrom f = refl
none_listed Bare Established f = refl
none_listed Bare SeeFrom f = refl

none_short : IsShortListing no_index.lists
none_short All Established = refl
none_short All SeeFrom = refl
none_short Bare Established = refl
none_short Bare SeeFrom = refl

pub none_stands : (pages : Pages (Option Forms)) → ((n : ℕ) → there pages n ≡ None) → (lists : Listing) → lists ≡ no_index.lists → Stands (rows_in pages) (is_there pages) lists
none_stands pages none lists is = subst (Stands (rows_in pages) (is_there pages)) (sym is) (record {
  fits = λ a b f n. ap (λ l. has n l.live) (none_listed a b f) ∙ sym (ap (λ o. option_map_or (belongs a b f) o false) (flat_none None pages n (none n)));
  slots = λ f n held. absurd (true≢false (sym held));
  short = none_short;
})

-- ---- what a test for emptiness says, and what an error leaves

pub empty_is : (b : Bool) (l : List ℕ) → b ≡ (length l == 0) → b ≡ true → l ≡ []
empty_is b [] e t = refl
empty_is b (n ∷ ns) e t = absurd (omega (arith, eqb-true (length (n ∷ ns)) 0 (sym e ∙ t)))

pub filled_is : (b : Bool) (l : List ℕ) → b ≡ (length l == 0) → b ≡ false → l ≢ []
filled_is b l e f blank = true≢false (sym (e ∙ ap (λ l. length l == 0) blank) ∙ f)

pub on_err : {T E P : Type 0} (r : Result T E) → P → OnErr r P
on_err (Ok x) p = tt
on_err (Err x) p = p
