-- The visits of a commit are within the weights of what it touches: summed over fields, rows, and the state.
use Rattle.std.proofs.Common.{◌≡◌, ℕ, ◌+◌, ◌≤◌, Bool, true, false, ◌&&◌, cond, List, [], ◌∷◌, map, Option, Some, None, is_some, refl, sym, ap, ◌∙◌, subst, if◌then◌else◌, arith}
use Rattle.std.specs.Prelude.{find}
use Rattle.std.specs.List.{AllByRecursion, sum_by}
use Rattle.std.specs.Map.{keys_of, remove_entry}
use Rattle.std.specs.BTreeMap.{insert_entry}
use Rattle.std.specs.Ordering.{is_eq, match_ordering}
use Rattle.std.specs.declared.cmp.Ordering.{Ordering}
use Rattle.std.specs.declared.cmp.Ordering.TheVariants.{Less, Equal, Greater}
use Rattle.std.proofs.lemmas.List.Sums.{sum_by-cons}
use Rattle.std.proofs.lemmas.Map.Keys.{sorted_head, sorted_tail}
use Rattle.marc_types.specs.Order.{key_cmp, key_Decides}
use Rattle.marc_types.specs.declared.field.Field.{Field}
use Rattle.marc_types.specs.declared.key.Class.{Class}
use Rattle.marc_types.specs.declared.key.Class.TheVariants.{Authority, Bibliographic}
use Rattle.marc_types.specs.declared.key.Key.{Key}
use Rattle.marc_types.specs.declared.entry.Entry.{Entry}
use Rattle.entry_record.specs.Identity.{is_deletion}
use Rattle.marc_types.specs.Order.{same_key}
use Rattle.entry_record.specs.Authority.{Linkable}
use Rattle.catalogue_rules.specs.State.{KeptField, KeptRecord, Row, State, new_field, new_record, linkable_authorities, each_in_row, each_field}
use Rattle.catalogue_rules.specs.Choice.{has_key}
use Rattle.catalogue_rules.specs.Settle.{Arrival, place, settle_field}
use Rattle.catalogue_rules.specs.Settle.{arrival_of}
use Rattle.catalogue_rules.specs.Valid.{IsAscending}
use Rattle.catalogue_rules.proofs.Elements.{Each, each_weaker}
use Rattle.catalogue_rules.proofs.Fit.{IsFit}
use Rattle.catalogue_rules.proofs.Once.{field_once}
use Rattle.catalogue_rules.proofs.States.{fit_entry}
use Rattle.linking_laws.specs.Behind.{placed_in}
use Rattle.linking_laws.specs.Waiting.{forms_touched}
use Rattle.linking_laws.specs.Commits.{CanBeCommitted, IsSound, authorities_behind}
use Rattle.linking_laws.specs.Stages.{dropping_by, successor_in, drop_by, carry_by, in_own_row, settle_own}
use Rattle.linking_laws.specs.Weights.{touched_weight, sum_row, own_weight, arrival_weight, state_weight}
use Rattle.linking_laws.specs.Visits.{drop_visits_by, carry_visits, own_visits, choose_visits, own_row_visits, stage_visits, commit_visits, commit_weight, own_commit_visits}
use Rattle.linking_laws.proofs.Others.{own_key, above, below_equal, successor_deletes}
use Rattle.linking_laws.proofs.Staged.{turn_of, sound_authorities, sound_bibliographic, before_fit}
use Rattle.linking_laws.proofs.Touched.{IsTurn, carry_off, not_awaiting}
use Rattle.linking_laws.proofs.Visited.{visits, drop_by_none, carry_none, field_within, new_within}

-- ---- sums

-- four sums, each over what the step before made of the list
four_sums : {A : Type 0} (f g p q : A → ℕ) (u v w : A → A) (xs : List A) →
    sum_by f xs + sum_by g (map u xs) + sum_by p (map v (map u xs)) + sum_by q (map w (map v (map u xs))) ≡ sum_by (λ x. f x + g (u x) + p (v (u x)) + q (w (v (u x)))) xs
four_sums f g p q u v w [] = refl
four_sums f g p q u v w (x ∷ xs) =
    let a = sum_by-cons f x xs in
    let b = sum_by-cons g (u x) (map u xs) in
    let c = sum_by-cons p (v (u x)) (map v (map u xs)) in
    let d = sum_by-cons q (w (v (u x))) (map w (map v (map u xs))) in
    let all = sum_by-cons (λ y. f y + g (u y) + p (v (u y)) + q (w (v (u y)))) x xs in
    let rest = four_sums f g p q u v w xs in
    omega arith

three_sums : {A : Type 0} (f g q : A → ℕ) (u v : A → A) (xs : List A) →
    sum_by f xs + sum_by g (map u xs) + sum_by q (map v (map u xs)) ≡ sum_by (λ x. f x + g (u x) + q (v (u x))) xs
three_sums f g q u v [] = refl
three_sums f g q u v (x ∷ xs) =
    let a = sum_by-cons f x xs in
    let b = sum_by-cons g (u x) (map u xs) in
    let d = sum_by-cons q (v (u x)) (map v (map u xs)) in
    let all = sum_by-cons (λ y. f y + g (u y) + q (v (u y))) x xs in
    let rest = three_sums f g q u v xs in
    omega arith

sum_least : {A : Type 0} (f g : A → ℕ) (xs : List A) → Each (λ x. f x ≤ g x) xs → sum_by f xs ≤ sum_by g xs
sum_least f g [] a = omega arith
sum_least f g (x ∷ xs) a =
    let one = sum_by-cons f x xs in
    let two = sum_by-cons g x xs in
    let own = a.0 in
    let rest = sum_least f g xs a.1 in
    omega arith

-- ---- rows with one in its place

module _ (f g : Row → ℕ) (key : Key) (r : KeptRecord) (n : ℕ) (own : f (key, r) ≤ n) where
  sum_above : (rows : List Row) → AllByRecursion (λ y. key_cmp key y ≡ Less) (keys_of rows) → Each (λ (row : Row). same_key key row.0 ≡ false → f row ≤ g row) rows → sum_by f rows ≤ sum_by g rows
  sum_above [] b a = omega arith
  sum_above (row ∷ rows) b a =
      let one = sum_by-cons f row rows in
      let two = sum_by-cons g row rows in
      let here = a.0 (ap is_eq b.0) in
      let rest = sum_above rows b.1 a.1 in
      omega arith

  insert_at : (o : Ordering) (row : Row) (rows more : List Row) → key_cmp key row.0 ≡ o → AllByRecursion (λ y. key_cmp row.0 y ≡ Less) (keys_of rows) →
      Each (λ (x : Row). same_key key x.0 ≡ false → f x ≤ g x) (row ∷ rows) → sum_by f more ≤ n + sum_by g rows →
      sum_by f (match_ordering o ((key, r) ∷ row ∷ rows) ((row.0, r) ∷ rows) (row ∷ more)) ≤ n + sum_by g (row ∷ rows)
  insert_at Less row rows more e b a m =
      let one = sum_by-cons f (key, r) (row ∷ rows) in
      let all = sum_above (row ∷ rows) (e, above key row.0 e (keys_of rows) b) a in
      omega (arith, own)
  insert_at Equal row rows more e b a m =
      let same : key ≡ row.0 = (key_Decides key row.0).0 (ap is_eq e) in
      let here : f (row.0, r) ≤ n = subst (λ (k : Key). f (k, r) ≤ n) same own in
      let one = sum_by-cons f (row.0, r) rows in
      let two = sum_by-cons g row rows in
      let all = sum_above rows (below_equal key row.0 (keys_of rows) same b) a.1 in
      omega arith
  insert_at Greater row rows more e b a m =
      let one = sum_by-cons f row more in
      let two = sum_by-cons g row rows in
      let here = a.0 (ap is_eq e) in
      omega arith

  sum_insert : (rows : List Row) → IsAscending rows → Each (λ (x : Row). same_key key x.0 ≡ false → f x ≤ g x) rows → sum_by f (insert_entry key_cmp rows key r) ≤ n + sum_by g rows
  sum_insert [] s a = let one = sum_by-cons f (key, r) [] in omega (arith, own)
  sum_insert (row ∷ rows) s a =
      insert_at (key_cmp key row.0) row rows (insert_entry key_cmp rows key r) refl (sorted_head key_cmp row.0 (keys_of rows) s) a
      (sum_insert rows (sorted_tail key_cmp row.0 (keys_of rows) s) a.1)

  remove_at : (b : Bool) (row : Row) (rows more : List Row) → same_key key row.0 ≡ b → AllByRecursion (λ y. key_cmp row.0 y ≡ Less) (keys_of rows) →
      Each (λ (x : Row). same_key key x.0 ≡ false → f x ≤ g x) (row ∷ rows) → sum_by f more ≤ sum_by g rows → sum_by f (cond b rows (row ∷ more)) ≤ sum_by g (row ∷ rows)
  remove_at true row rows more e b a m =
      let two = sum_by-cons g row rows in
      let all = sum_above rows (below_equal key row.0 (keys_of rows) ((key_Decides key row.0).0 e) b) a.1 in
      omega arith
  remove_at false row rows more e b a m =
      let one = sum_by-cons f row more in
      let two = sum_by-cons g row rows in
      let here = a.0 e in
      omega arith

  sum_remove : (rows : List Row) → IsAscending rows → Each (λ (x : Row). same_key key x.0 ≡ false → f x ≤ g x) rows → sum_by f (remove_entry (same_key key) rows) ≤ sum_by g rows
  sum_remove [] s a = omega arith
  sum_remove (row ∷ rows) s a =
      remove_at (same_key key row.0) row rows (remove_entry (same_key key) rows) refl (sorted_head key_cmp row.0 (keys_of rows) s) a
      (sum_remove rows (sorted_tail key_cmp row.0 (keys_of rows) s) a.1)

-- ---- one row

module _ (key : Key) (successor : Option Key) (before now : List Linkable) (turn : IsTurn key successor before now) (class : Class) where
  abbrev drops : KeptField → KeptField
  drops h = drop_by (dropping_by (find (has_key key) before) (find (has_key key) now)) now key successor class h

  abbrev carries : KeptField → KeptField
  carries h = carry_by key (find (has_key key) now) class h

  abbrev dropped : KeptField → ℕ
  dropped h = drop_visits_by (dropping_by (find (has_key key) before) (find (has_key key) now)) now key successor class h

  abbrev carried : KeptField → ℕ
  carried h = carry_visits key (find (has_key key) now) class h

  abbrev chosen : KeptField → ℕ
  chosen h = choose_visits now (forms_touched key before now) key class h

  abbrev touched : KeptField → ℕ
  touched h = touched_weight (forms_touched key before now) key successor class h

  sound_within : (hs : List KeptField) → Each (IsSound before class) hs → sum_by dropped hs + sum_by carried (map drops hs) + sum_by chosen (map carries (map drops hs)) ≤ sum_by touched hs
  sound_within hs sound =
      let same = three_sums dropped carried chosen drops carries hs in
      let most = sum_least (visits key successor before now turn class) touched hs
      (each_weaker (IsSound before class) (λ h. visits key successor before now turn class h ≤ touched h) (field_within key successor before now turn class) hs sound) in
      omega arith

  -- the visits at a row, of all stages
  abbrev row_visits : Row → ℕ
  row_visits row =
      sum_row dropped row + sum_row carried (each_in_row drops row)
      + own_row_visits now class key (each_in_row carries (each_in_row drops row))
      + sum_row chosen (in_own_row key (settle_field now class) (each_in_row carries (each_in_row drops row)))

  apart_within : (row : Row) → Each (IsSound before class) row.1.fields → same_key key row.0 ≡ false → row_visits row ≤ sum_row touched row
  apart_within row sound apart =
      let x = each_in_row carries (each_in_row drops row) in
      let own = ap (λ (b : Bool). if b then sum_row (own_visits now class) x else 0) apart in
      let last = ap (λ (b : Bool). sum_row chosen (if b then each_in_row (settle_field now class) x else x)) apart in
      let most = sound_within row.1.fields sound in
      omega arith

  abbrev new_visits : KeptField → ℕ
  new_visits h = dropped h + carried (drops h) + own_visits now class (carries (drops h)) + chosen (settle_field now class (carries (drops h)))

  calm : (b : Bool) → successor ≡ None → (is_some successor && b) ≡ false
  calm b e = ap (λ (o : Option Key). is_some o && b) e

  new_field_within : (f : Field) → successor ≡ None → new_visits (new_field f) ≤ own_weight class (new_field f)
  new_field_within f none =
      let h = new_field f in
      let one = drop_by_none (dropping_by (find (has_key key) before) (find (has_key key) now)) now key successor class h refl (calm _ none) in
      let idle = not_awaiting key successor before now turn class h refl refl in
      let same : carries (drops h) ≡ h = ap (carry_by key (find (has_key key) now) class) idle ∙ carry_off key (find (has_key key) now) class h refl in
      let two = ap (λ (x : KeptField). carry_visits key (find (has_key key) now) class x) idle ∙ carry_none key (find (has_key key) now) class h refl in
      let three = ap (λ (x : KeptField). own_visits now class x) same in
      let four = ap (λ (x : KeptField). choose_visits now (forms_touched key before now) key class (settle_field now class x)) same in
      let most = new_within key successor before now turn class h refl (field_once now class turn.now_fit h) in
      omega arith

  new_all_within : (fs : List Field) → successor ≡ None → Each (λ h. new_visits h ≤ own_weight class h) (map new_field fs)
  new_all_within [] none = tt
  new_all_within (f ∷ fs) none = (new_field_within f none, new_all_within fs none)

  own_within : (a : Arrival) → same_key key a.key ≡ true → successor ≡ None → row_visits (a.key, new_record a.leader a.fields) ≤ sum_by (own_weight class) (map new_field a.fields)
  own_within a own none =
      let hs = map new_field a.fields in
      let row : Row = (a.key, new_record a.leader a.fields) in
      let x = each_in_row carries (each_in_row drops row) in
      let third = ap (λ (b : Bool). if b then sum_row (own_visits now class) x else 0) own in
      let last = ap (λ (b : Bool). sum_row chosen (if b then each_in_row (settle_field now class) x else x)) own in
      let same = four_sums dropped carried (own_visits now class) chosen drops carries (settle_field now class) hs in
      let most = sum_least new_visits (own_weight class) hs (new_all_within a.fields none) in
      omega arith

-- ---- the state

no_successor_at : (b : Bool) (o : Option Key) → (is_some o ≡ true → b ≡ true) → b ≡ false → o ≡ None
no_successor_at b None up e = refl
no_successor_at b (Some k) up e = let on = up refl in cc

no_successor : (a : Arrival) → is_deletion a.leader ≡ false → successor_in a ≡ None
no_successor a e = no_successor_at (is_deletion a.leader) (successor_in a) (successor_deletes a.leader a.key a.fields) e

none_more : {m : ℕ} (n : ℕ) → m ≤ n → m ≤ 0 + n
none_more n e = omega (arith, e)

place_within : (a : Arrival) (f g : Row → ℕ) (n : ℕ) (rows : List Row) (b : Bool) → is_deletion a.leader ≡ b → IsAscending rows → (b ≡ false → f (a.key, new_record a.leader a.fields) ≤ n) →
    Each (λ (x : Row). same_key a.key x.0 ≡ false → f x ≤ g x) rows →
    sum_by f (if b then remove_entry (same_key a.key) rows else insert_entry key_cmp rows a.key (new_record a.leader a.fields)) ≤ (if b then 0 else n) + sum_by g rows
place_within a f g n rows true e s own all = none_more (sum_by g rows) (sum_remove f g a.key (new_record a.leader a.fields) (f (a.key, new_record a.leader a.fields)) (omega arith) rows s all)
place_within a f g n rows false e s own all = sum_insert f g a.key (new_record a.leader a.fields) n (own refl) rows s all

placed_within : (a : Arrival) (f g : Row → ℕ) (rows : List Row) → IsAscending rows →
    (is_deletion a.leader ≡ false → f (a.key, new_record a.leader a.fields) ≤ sum_by (own_weight a.class) (map new_field a.fields)) →
    Each (λ (x : Row). same_key a.key x.0 ≡ false → f x ≤ g x) rows → sum_by f (place a rows) ≤ arrival_weight a + sum_by g rows
unfolding place arrival_weight
placed_within a f g rows s own all = place_within a f g (sum_by (own_weight a.class) (map new_field a.fields)) rows (is_deletion a.leader) refl s own all

-- sums of two classes, stage by stage
state_sum : (a b c d e f g n m all : ℕ) → a + c + e + f ≤ n + all → b + d + g ≤ m → (a + b) + (c + d) + e + (f + g) ≤ n + (all + m)
state_sum a b c d e f g n m all p q = omega arith

stages_within : (a : Arrival) (s : State) (before now : List Linkable) → a.class ≡ Authority → IsTurn a.key (successor_in a) before now → IsAscending s.authorities →
    Each (λ (row : Row). Each (IsSound before Authority) row.1.fields) s.authorities → Each (λ (row : Row). Each (IsSound before Bibliographic) row.1.fields) s.bibliographic →
    stage_visits a before now (placed_in Authority a s) ≤ arrival_weight a + state_weight a before now s
unfolding stage_visits each_field settle_own
stages_within a s before now is turn order authorities bibliographic =
    let key = a.key in
    let successor = successor_in a in
    let dropping = dropping_by (find (has_key key) before) (find (has_key key) now) in
    let forms = forms_touched key before now in
    let new = find (has_key key) now in
    let D = λ (class : Class). each_in_row (drop_by dropping now key successor class) in
    let C = λ (class : Class). each_in_row (carry_by key new class) in
    let S = in_own_row key (settle_field now Authority) in
    let rows = place a s.authorities in
    let first = four_sums (sum_row (drop_visits_by dropping now key successor Authority)) (sum_row (carry_visits key new Authority)) (own_row_visits now Authority key)
    (sum_row (choose_visits now forms key Authority)) (D Authority) (C Authority) S rows in
    let within = placed_within a (row_visits key successor before now turn Authority) (sum_row (touched_weight forms key successor Authority)) s.authorities order
    (λ living. subst (λ (k : Class). row_visits key successor before now turn Authority (a.key, new_record a.leader a.fields) ≤ sum_by (own_weight k) (map new_field a.fields)) (sym is)
    (own_within key successor before now turn Authority a (own_key key) (no_successor a living)))
    (each_weaker (λ (row : Row). Each (IsSound before Authority) row.1.fields)
    (λ row. same_key a.key row.0 ≡ false → row_visits key successor before now turn Authority row ≤ sum_row (touched_weight forms key successor Authority) row)
    (apart_within key successor before now turn Authority) s.authorities authorities) in
    let second = three_sums (sum_row (drop_visits_by dropping now key successor Bibliographic)) (sum_row (carry_visits key new Bibliographic))
    (sum_row (choose_visits now forms key Bibliographic)) (D Bibliographic) (C Bibliographic) s.bibliographic in
    let B = λ (row : Row). sum_row (drop_visits_by dropping now key successor Bibliographic) row + sum_row (carry_visits key new Bibliographic) (D Bibliographic row)
    + sum_row (choose_visits now forms key Bibliographic) (C Bibliographic (D Bibliographic row)) in
    let others = sum_least B (sum_row (touched_weight forms key successor Bibliographic)) s.bibliographic
    (each_weaker (λ (row : Row). Each (IsSound before Bibliographic) row.1.fields) (λ row. B row ≤ sum_row (touched_weight forms key successor Bibliographic) row)
    (λ row sound. sound_within key successor before now turn Bibliographic row.1.fields sound) s.bibliographic bibliographic) in
    state_sum
    (sum_by (sum_row (drop_visits_by dropping now key successor Authority)) rows) (sum_by (sum_row (drop_visits_by dropping now key successor Bibliographic)) s.bibliographic)
    (sum_by (sum_row (carry_visits key new Authority)) (map (D Authority) rows)) (sum_by (sum_row (carry_visits key new Bibliographic)) (map (D Bibliographic) s.bibliographic))
    (sum_by (own_row_visits now Authority key) (map (C Authority) (map (D Authority) rows)))
    (sum_by (sum_row (choose_visits now forms key Authority)) (map S (map (C Authority) (map (D Authority) rows))))
    (sum_by (sum_row (choose_visits now forms key Bibliographic)) (map (C Bibliographic) (map (D Bibliographic) s.bibliographic)))
    (arrival_weight a) (sum_by (sum_row (touched_weight forms key successor Bibliographic)) s.bibliographic)
    (sum_by (sum_row (touched_weight forms key successor Authority)) s.authorities)
    (subst (λ (k : ℕ). k ≤ arrival_weight a + sum_by (sum_row (touched_weight forms key successor Authority)) s.authorities) (sym first) within)
    (subst (λ (k : ℕ). k ≤ sum_by (sum_row (touched_weight forms key successor Bibliographic)) s.bibliographic) (sym second) others)

-- the visits of an authority's commit are within what it touches
pub visits_within : (s : State) (e : Entry) → CanBeCommitted Authority s e → commit_visits s e ≤ commit_weight s e
visits_within s e c =
    stages_within (arrival_of e) s (linkable_authorities s) (authorities_behind s e) c.class_is (turn_of (arrival_of e) s c.class_is (fit_entry e c.admitted) c.valid)
    c.valid.authorities_ascend (sound_authorities s c.valid) (sound_bibliographic s c.valid)

-- ---- a bibliographic commit

sum_zero : {A : Type 0} (xs : List A) → sum_by (λ (x : A). 0) xs ≡ 0
sum_zero [] = refl
sum_zero (x ∷ xs) = let one = sum_by-cons (λ y. 0) x xs in let rest = sum_zero xs in omega arith

no_turn : (key : Key) (all : List Linkable) → Each (IsFit all) all → IsTurn key None all all
no_turn key all fits = record { before_fit = fits; now_fit = fits; others = refl; gone = λ e. cc }

own_field_within : (key : Key) (all : List Linkable) (class : Class) → Each (IsFit all) all → (f : Field) → own_visits all class (new_field f) ≤ own_weight class (new_field f)
own_field_within key all class fits f =
    let most = new_within key None all all (no_turn key all fits) class (new_field f) refl (field_once all class fits (new_field f)) in omega arith

own_fields_within : (key : Key) (all : List Linkable) (class : Class) → Each (IsFit all) all → (fs : List Field) → Each (λ h. own_visits all class h ≤ own_weight class h) (map new_field fs)
own_fields_within key all class fits [] = tt
own_fields_within key all class fits (f ∷ fs) = (own_field_within key all class fits f, own_fields_within key all class fits fs)

own_record_within : (a : Arrival) (all : List Linkable) (class : Class) → Each (IsFit all) all →
    own_row_visits all class a.key (a.key, new_record a.leader a.fields) ≤ sum_by (own_weight class) (map new_field a.fields)
own_record_within a all class fits =
    let row : Row = (a.key, new_record a.leader a.fields) in
    let own = ap (λ (b : Bool). if b then sum_row (own_visits all class) row else 0) (own_key a.key) in
    let most = sum_least (own_visits all class) (own_weight class) (map new_field a.fields) (own_fields_within a.key all class fits a.fields) in
    omega arith

none_at : (key : Key) (all : List Linkable) (class : Class) (row : Row) → same_key key row.0 ≡ false → own_row_visits all class key row ≤ 0
none_at key all class row apart = let none = ap (λ (b : Bool). if b then sum_row (own_visits all class) row else 0) apart in omega arith

all_of : {P : Row → Type 0} → ((row : Row) → P row) → (rows : List Row) → Each P rows
all_of f [] = tt
all_of f (row ∷ rows) = (f row, all_of f rows)

-- the visits of a bibliographic commit are within what it brings
pub own_visits_within : (s : State) (e : Entry) → CanBeCommitted Bibliographic s e → own_commit_visits s e ≤ arrival_weight (arrival_of e)
own_visits_within s e c =
    let a = arrival_of e in
    let all = linkable_authorities s in
    let fits = before_fit s c.valid in
    let most = placed_within a (own_row_visits all Bibliographic a.key) (λ row. 0) s.bibliographic c.valid.bibliographic_ascend
    (λ living. subst (λ (k : Class). own_row_visits all Bibliographic a.key (a.key, new_record a.leader a.fields) ≤ sum_by (own_weight k) (map new_field a.fields)) (sym c.class_is)
    (own_record_within a all Bibliographic fits))
    (all_of (none_at a.key all Bibliographic) s.bibliographic) in
    let none = sum_zero s.bibliographic in
    omega arith
