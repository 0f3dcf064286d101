-- The rows of authorities: what a change of one authority does to them, and that in order they are the rows of the authorities.
use Rattle.std.proofs.Common.{◌≡◌, ◌∙◌, refl, sym, ap, subst, Bool, true, false, cond, not, ◌&&◌, ◌||◌, List, [], ◌∷◌, Option, Some, None, Less, is_eq}
use Rattle.std.specs.Option.{option_flatten}
use Rattle.std.specs.List.{AllByRecursion, cons_option, filter_map}
use Rattle.std.specs.List.Sorted.{IsStrictlySortedBy}
use Rattle.std.specs.Map.{keys_of, lookup}
use Rattle.std.specs.Set.{is_member}
use Rattle.std.proofs.lemmas.Map.Keys.{sorted_head, sorted_tail}
use Rattle.marc_types.specs.Order.{key_cmp, key_Decides, same_key}
use Rattle.marc_types.specs.declared.key.Key.{Key}
use Rattle.heading_rows.specs.Rows.{row_cmp, same_row}
use Rattle.heading_rows.specs.Listing.{AreRowsOf, IsKeyed, Listed, is_row, row_under, rows_of_listing}
use Rattle.heading_rows.specs.declared.row.BrowseRow.{BrowseRow}
use Rattle.heading_rows.proofs.Ordered.{member_in_order, one_order, row_same, row_turned, sorted_in_order}

true_false : (b : Bool) → b ≡ true → b ≡ false → ⊥
true_false b t f = cc

-- ---- a row under another key is another row

abbrev joined : Option (Option BrowseRow) → Option BrowseRow
joined o = option_flatten o

-- a row of one key isn't that of another
pub apart_row : (key : Key) (row : Option BrowseRow) (q : BrowseRow) → IsKeyed key row → same_key key q.key ≡ false → is_row row q ≡ false
apart_row key None q keyed other = refl
apart_row key (Some r) q keyed other = at (same_row r q) refl
  where
    at : (b : Bool) → same_row r q ≡ b → b ≡ false
    at true e =
        let same : key ≡ q.key = sym keyed ∙ ap (λ r. r.key) (row_same r q e) in
        absurd (true_false (same_key key q.key) ((key_Decides key q.key).1 same) other)
    at false e = refl

swapped_here : (now former : Bool) → (now || (not former && (now || former))) ≡ now
swapped_here true true = refl
swapped_here true false = refl
swapped_here false true = refl
swapped_here false false = refl

gone_here : (former : Bool) → (not former && former) ≡ false
gone_here true = refl
gone_here false = refl

-- what stands under keys before and after a change at one key
module _ (key : Key) (under under' : Key → Option (Option BrowseRow)) (was : Option (Option BrowseRow)) (rows : BrowseRow → Bool)
    (members : (q : BrowseRow) → rows q ≡ is_row (joined (under q.key)) q) (keyed : (k : Key) → IsKeyed k (joined (under k)))
    (change : (k : Key) → under' k ≡ cond (same_key key k) was (under k)) where
  here : (q : BrowseRow) → same_key key q.key ≡ true → under q.key ≡ under key
  here q e = ap under (sym ((key_Decides key q.key).0 e))

  at_key : (q : BrowseRow) (b : Bool) → same_key key q.key ≡ b → under' q.key ≡ cond b was (under q.key)
  at_key q b e = change q.key ∙ ap (λ c. cond c was (under q.key)) e

  -- the row of the key gives way to another
  replaced : (row former : Option BrowseRow) → was ≡ Some row → former ≡ joined (under key) → IsKeyed key row → (q : BrowseRow)
      → (is_row row q || (not (is_row former q) && (is_row row q || rows q))) ≡ is_row (joined (under' q.key)) q
  replaced row former w f k q = at (same_key key q.key) refl
    where
      at : (b : Bool) → same_key key q.key ≡ b → (is_row row q || (not (is_row former q) && (is_row row q || rows q))) ≡ is_row (joined (under' q.key)) q
      at true e =
          let told : rows q ≡ is_row former q = members q ∙ ap (λ o. is_row (joined o) q) (here q e) ∙ ap (λ o. is_row o q) (sym f) in
          ap (λ b. is_row row q || (not (is_row former q) && (is_row row q || b))) told
          ∙ swapped_here (is_row row q) (is_row former q)
          ∙ ap (λ o. is_row (joined o) q) (sym w)
          ∙ ap (λ o. is_row (joined o) q) (sym (at_key q true e))
      at false e =
          let other : is_row row q ≡ false = apart_row key row q k e in
          let past : is_row former q ≡ false = apart_row key former q (subst (IsKeyed key) (sym f) (keyed key)) e in
          ap (λ b. b || (not (is_row former q) && (b || rows q))) other
          ∙ ap (λ b. not b && rows q) past
          ∙ members q ∙ ap (λ o. is_row (joined o) q) (sym (at_key q false e))

  -- the row of the key goes
  removed : (former : Option BrowseRow) → was ≡ None → former ≡ joined (under key) → (q : BrowseRow)
      → (not (is_row former q) && rows q) ≡ is_row (joined (under' q.key)) q
  removed former w f q = at (same_key key q.key) refl
    where
      at : (b : Bool) → same_key key q.key ≡ b → (not (is_row former q) && rows q) ≡ is_row (joined (under' q.key)) q
      at true e =
          let told : rows q ≡ is_row former q = members q ∙ ap (λ o. is_row (joined o) q) (here q e) ∙ ap (λ o. is_row o q) (sym f) in
          ap (λ b. not (is_row former q) && b) told
          ∙ gone_here (is_row former q)
          ∙ ap (λ o. is_row (joined o) q) (sym w)
          ∙ ap (λ o. is_row (joined o) q) (sym (at_key q true e))
      at false e =
          let past : is_row former q ≡ false = apart_row key former q (subst (IsKeyed key) (sym f) (keyed key)) e in
          ap (λ b. not b && rows q) past
          ∙ members q ∙ ap (λ o. is_row (joined o) q) (sym (at_key q false e))

  keyed_after : IsKeyed key (joined was) → (k : Key) → IsKeyed k (joined (under' k))
  keyed_after row k = at (same_key key k) refl
    where
      at : (b : Bool) → same_key key k ≡ b → IsKeyed k (joined (under' k))
      at true e =
          let same : key ≡ k = (key_Decides key k).0 e in
          subst (λ o. IsKeyed k (joined o)) (sym (change k ∙ ap (λ c. cond c was (under k)) e)) (subst (λ j. IsKeyed j (joined was)) same row)
      at false e = subst (λ o. IsKeyed k (joined o)) (sym (change k ∙ ap (λ c. cond c was (under k)) e)) (keyed k)

-- ---- the rows of a listing

abbrev found : List Listed → Key → Option (Option BrowseRow)
found listing key = lookup (same_key key) listing

-- an authority in the place of another
pub rows_kept : (before after : List Listed) (rows rows' : List BrowseRow) (key : Key) (row former : Option BrowseRow)
    → AreRowsOf before rows → IsStrictlySortedBy key_cmp (keys_of after)
    → ((k : Key) → found after k ≡ cond (same_key key k) (Some row) (found before k)) → former ≡ row_under before key → IsKeyed key row
    → ((q : BrowseRow) → is_member same_row rows' q ≡ (is_row row q || (not (is_row former q) && (is_row row q || is_member same_row rows q))))
    → AreRowsOf after rows'
rows_kept before after rows rows' key row former are up change f k left = record {
  ascending = up;
  keyed = keyed_after key (found before) (found after) (Some row) (is_member same_row rows) are.members are.keyed change k;
  members = λ q. left q ∙ replaced key (found before) (found after) (Some row) (is_member same_row rows) are.members are.keyed change row former refl f k q;
}

-- an authority taken away
pub rows_gone : (before after : List Listed) (rows rows' : List BrowseRow) (key : Key) (former : Option BrowseRow)
    → AreRowsOf before rows → IsStrictlySortedBy key_cmp (keys_of after)
    → ((k : Key) → found after k ≡ cond (same_key key k) None (found before k)) → former ≡ row_under before key
    → ((q : BrowseRow) → is_member same_row rows' q ≡ (not (is_row former q) && is_member same_row rows q))
    → AreRowsOf after rows'
rows_gone before after rows rows' key former are up change f left = record {
  ascending = up;
  keyed = keyed_after key (found before) (found after) None (is_member same_row rows) are.members are.keyed change tt;
  members = λ q. left q ∙ removed key (found before) (found after) None (is_member same_row rows) are.members are.keyed change former refl f q;
}

-- the same authorities, and the same rows
pub rows_same : (before after : List Listed) (rows rows' : List BrowseRow) → AreRowsOf before rows → after ≡ before
    → ((q : BrowseRow) → is_member same_row rows' q ≡ is_member same_row rows q) → AreRowsOf after rows'
rows_same before after rows rows' are same left =
    subst (λ l. AreRowsOf l rows') (sym same) (record { ascending = are.ascending; keyed = are.keyed; members = λ q. left q ∙ are.members q })

undone_here : (row old : Bool) → (row ≡ true → old ≡ false) → (not row && (row || old)) ≡ old
undone_here true true new = absurd (true_false true refl (new refl))
undone_here true false new = refl
undone_here false old new = refl

-- a row that was new, and is taken out again
pub rows_undone : (row : Option BrowseRow) (rows rows₁ rows₂ : List BrowseRow)
    → ((q : BrowseRow) → is_member same_row rows₁ q ≡ (is_row row q || is_member same_row rows q))
    → ((q : BrowseRow) → is_row row q ≡ true → is_member same_row rows q ≡ false)
    → ((q : BrowseRow) → is_member same_row rows₂ q ≡ (not (is_row row q) && is_member same_row rows₁ q))
    → (q : BrowseRow) → is_member same_row rows₂ q ≡ is_member same_row rows q
rows_undone row rows rows₁ rows₂ added new dropped q =
    dropped q ∙ ap (λ b. not (is_row row q) && b) (added q) ∙ undone_here (is_row row q) (is_member same_row rows q) (new q)

-- ---- in order they are the rows of the authorities

none_less : (key : Key) (es : List Listed) → AllByRecursion (λ k. key_cmp key k ≡ Less) (keys_of es) → lookup (same_key key) es ≡ None
none_less key [] all = refl
none_less key (e ∷ es) all = ap (λ o. cond (is_eq o) (Some e.1) (lookup (same_key key) es)) all.0 ∙ none_less key es all.1

member_option : (o : Option BrowseRow) (xs : List BrowseRow) (q : BrowseRow) → is_member same_row (cons_option o xs) q ≡ (is_row o q || is_member same_row xs q)
member_option None xs q = refl
member_option (Some r) xs q = ap (λ b. b || is_member same_row xs q) (row_turned q r)

or_none : (b : Bool) → (b || false) ≡ b
or_none true = refl
or_none false = refl

-- the rows that stand in a listing are those under their own keys
listed_is : (es : List Listed) → IsStrictlySortedBy key_cmp (keys_of es) → ((k : Key) → IsKeyed k (row_under es k)) → (q : BrowseRow)
    → is_member same_row (filter_map (λ e. e.1) es) q ≡ is_row (row_under es q.key) q
listed_is [] s keyed q = refl
listed_is (e ∷ es) s keyed q = member_option e.1 (filter_map (λ e. e.1) es) q ∙ ap (λ b. is_row e.1 q || b) (listed_is es below keyed_below q) ∙ at (same_key q.key e.0) refl
  where
    below : IsStrictlySortedBy key_cmp (keys_of es)
    below = sorted_tail key_cmp e.0 (keys_of es) s

    above : AllByRecursion (λ k. key_cmp e.0 k ≡ Less) (keys_of es)
    above = sorted_head key_cmp e.0 (keys_of es) s

    nothing : (k : Key) → same_key k e.0 ≡ true → row_under es k ≡ None
    nothing k d = ap (λ j. row_under es j) ((key_Decides k e.0).0 d) ∙ ap joined (none_less e.0 es above)

    keyed_below : (k : Key) → IsKeyed k (row_under es k)
    keyed_below k = by (same_key k e.0) refl
      where
        by : (b : Bool) → same_key k e.0 ≡ b → IsKeyed k (row_under es k)
        by true d = subst (IsKeyed k) (sym (nothing k d)) tt
        by false d = subst (λ b. IsKeyed k (joined (cond b (Some e.1) (lookup (same_key k) es)))) d (keyed k)

    own : IsKeyed e.0 e.1
    own = subst (λ b. IsKeyed e.0 (joined (cond b (Some e.1) (lookup (same_key e.0) es)))) ((key_Decides e.0 e.0).1 refl) (keyed e.0)

    turned : same_key q.key e.0 ≡ false → same_key e.0 q.key ≡ false
    turned d = by (same_key e.0 q.key) refl
      where
        by : (b : Bool) → same_key e.0 q.key ≡ b → b ≡ false
        by true h = absurd (true_false (same_key q.key e.0) ((key_Decides q.key e.0).1 (sym ((key_Decides e.0 q.key).0 h))) d)
        by false h = refl

    at : (b : Bool) → same_key q.key e.0 ≡ b → (is_row e.1 q || is_row (row_under es q.key) q) ≡ is_row (joined (cond (same_key q.key e.0) (Some e.1) (lookup (same_key q.key) es))) q
    at true d =
        ap (λ o. is_row e.1 q || is_row o q) (nothing q.key d) ∙ or_none (is_row e.1 q)
        ∙ ap (λ b. is_row (joined (cond b (Some e.1) (lookup (same_key q.key) es))) q) (sym d)
    at false d =
        ap (λ b. b || is_row (row_under es q.key) q) (apart_row e.0 e.1 q own (turned d))
        ∙ ap (λ b. is_row (joined (cond b (Some e.1) (lookup (same_key q.key) es))) q) (sym d)

pub rows_are : (listing : List Listed) (rows : List BrowseRow) → AreRowsOf listing rows → IsStrictlySortedBy row_cmp rows → rows ≡ rows_of_listing listing
unfolding rows_of_listing
rows_are listing rows are up =
    let all = filter_map (λ e. e.1) listing in
    one_order rows _ up (sorted_in_order all)
    (λ q. are.members q ∙ sym (listed_is listing are.ascending are.keyed q) ∙ sym (member_in_order all q))
