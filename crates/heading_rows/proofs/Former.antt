-- A row put among rows, and one taken out of them.
use Rattle.std.proofs.Common.{◌≡◌, ◌∙◌, refl, sym, ap, subst, Bool, true, false, cond, not, ◌&&◌, ◌||◌, List, Option, Some, None}
use Rattle.std.specs.Set.{is_member}
use Rattle.heading_rows.specs.Rows.{same_row}
use Rattle.heading_rows.specs.Listing.{is_row, is_same}
use Rattle.heading_rows.specs.declared.row.BrowseRow.{BrowseRow}
use Rattle.heading_rows.proofs.Ordered.{row_same}

true_false : (b : Bool) → b ≡ true → b ≡ false → ⊥
true_false b t f = cc

-- ---- a row put among rows

cond_or : (b c : Bool) → cond b true c ≡ (b || c)
cond_or true c = refl
cond_or false c = refl

pub put_among : (r : BrowseRow) (before after : List BrowseRow) → ((q : BrowseRow) → is_member same_row after q ≡ cond (same_row r q) true (is_member same_row before q))
    → (q : BrowseRow) → is_member same_row after q ≡ (is_row (Some r) q || is_member same_row before q)
put_among r before after put q = put q ∙ cond_or (same_row r q) (is_member same_row before q)

pub new_among : (r : BrowseRow) (before : List BrowseRow) → is_member same_row before r ≡ false
    → (q : BrowseRow) → is_row (Some r) q ≡ true → is_member same_row before q ≡ false
new_among r before new q e = ap (is_member same_row before) (sym (row_same r q e)) ∙ new

not_there : (m : Bool) → not m ≡ true → m ≡ false
not_there true e = absurd (true_false false e refl)
not_there false e = refl

-- what was found to be new was not among them
pub found_new : (row : Option BrowseRow) (r twin : BrowseRow) (before : List BrowseRow) (added : Bool) → row ≡ Some r → twin ≡ r
    → added ≡ not (is_member same_row before twin) → added ≡ true → (q : BrowseRow) → is_row row q ≡ true → is_member same_row before q ≡ false
found_new row r twin before added is same told new q own =
    let out : is_member same_row before r ≡ false = ap (is_member same_row before) (sym same) ∙ not_there (is_member same_row before twin) (sym told ∙ new) in
    new_among r before out q (sym (ap (λ o. is_row o q) is) ∙ own)

-- ---- a row taken out

cond_and : (b c : Bool) → cond b false c ≡ (not b && c)
cond_and true c = refl
cond_and false c = refl

pub out_of : (r : BrowseRow) (before after : List BrowseRow) → ((q : BrowseRow) → is_member same_row after q ≡ cond (same_row r q) false (is_member same_row before q))
    → (q : BrowseRow) → is_member same_row after q ≡ (not (is_row (Some r) q) && is_member same_row before q)
out_of r before after out q = out q ∙ cond_and (same_row r q) (is_member same_row before q)

-- ---- the former row, where another stands now

alike : (former standing : Option BrowseRow) (q : BrowseRow) → is_same former standing ≡ true → is_row former q ≡ is_row standing q
alike None standing q e = absurd (true_false false e refl)
alike (Some a) None q e = absurd (true_false false e refl)
alike (Some a) (Some b) q e = ap (λ r. same_row r q) (row_same a b e)

apart : (former standing : Option BrowseRow) (q : BrowseRow) → is_same former standing ≡ false → is_row standing q ≡ true → is_row former q ≡ false
apart None standing q e own = refl
apart (Some a) None q e own = absurd (true_false false own refl)
apart (Some a) (Some b) q e own = subst (λ r. same_row a r ≡ false) (row_same b q own) e

stays_here : (f s m : Bool) → f ≡ s → (s ≡ true → m ≡ true) → m ≡ (s || (not f && m))
stays_here f true m same in_it = in_it refl
stays_here f false m same in_it = ap (λ b. not b && m) (sym same)

goes_here : (f s m : Bool) → (s ≡ true → f ≡ false) → (s ≡ true → m ≡ true) → (not f && m) ≡ (s || (not f && m))
goes_here f true m other in_it = ap (λ b. not b && m) (other refl) ∙ in_it refl
goes_here f false m other in_it = refl

-- it is the one that stands, and stays
pub former_stays : (former standing : Option BrowseRow) (rows : List BrowseRow) → is_same former standing ≡ true
    → ((q : BrowseRow) → is_row standing q ≡ true → is_member same_row rows q ≡ true)
    → (q : BrowseRow) → is_member same_row rows q ≡ (is_row standing q || (not (is_row former q) && is_member same_row rows q))
former_stays former standing rows same in_them q = stays_here (is_row former q) (is_row standing q) (is_member same_row rows q) (alike former standing q same) (in_them q)

-- it is another, and goes
pub former_goes : (former standing : Option BrowseRow) (before after : List BrowseRow) → is_same former standing ≡ false
    → ((q : BrowseRow) → is_row standing q ≡ true → is_member same_row before q ≡ true)
    → ((q : BrowseRow) → is_member same_row after q ≡ (not (is_row former q) && is_member same_row before q))
    → (q : BrowseRow) → is_member same_row after q ≡ (is_row standing q || (not (is_row former q) && is_member same_row before q))
former_goes former standing before after other in_them gone q =
    gone q ∙ goes_here (is_row former q) (is_row standing q) (is_member same_row before q) (apart former standing q other) (in_them q)
