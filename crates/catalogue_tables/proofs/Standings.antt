-- How a field stands is told by the authorities that its forms may mean.
use Rattle.std.proofs.Common.{◌≡◌, ◌≢◌, ◌∙◌, sym, ap, refl, subst, arith, ℕ, zero, suc, ◌+◌, ◌<◌, ◌≤◌, Bool, true, false, List, [], ◌∷◌, ◌++◌, length, take, get_or, Option, Some, None, unwrap_or, cond, if◌then◌else◌}
use Rattle.std.specs.Prelude.{◌==◌, ◌||◌, filter, slice_get}
use Rattle.std.specs.Cmp.{unsigned_Decides}
use Rattle.std.specs.Option.{option_map, option_map_or, option_or, option_to_list}
use Rattle.std.specs.List.{cons_option, list_any}
use Rattle.marc_types.specs.Fields.{tag_of}
use Rattle.marc_types.specs.declared.entry.Tie.{Tie}
use Rattle.marc_types.specs.declared.field.Field.{Field}
use Rattle.marc_types.specs.declared.form.Form.{Form}
use Rattle.marc_types.specs.declared.form.Kind.{Kind}
use Rattle.marc_types.specs.declared.key.Class.{Class}
use Rattle.marc_types.specs.declared.key.Key.{Key}
use Rattle.form_index.specs.Index.{Indexed}
use Rattle.form_index.specs.Order.{key_at}
use Rattle.form_index.specs.declared.among.Among.{Among}
use Rattle.form_index.specs.declared.among.Among.TheVariants.{All}
use Rattle.form_index.specs.declared.candidates.Candidates.{Candidates}
use Rattle.form_index.specs.declared.candidates.Candidates.TheVariants.{Established, SeeFrom, Nobody}
use Rattle.heading_fields.specs.Tables.{is_subdividable}
use Rattle.entry_record.specs.Authority.{Linkable, base_form, full_form, heading_kind, is_bare}
use Rattle.entry_record.specs.Headings.{divided_form}
use Rattle.entry_record.specs.Prepared.{heading_base_form}
use Rattle.entry_record.proofs.Undivided.{full_either}
use Rattle.catalogue_rules.specs.Choice as rules
use Rattle.catalogue_rules.specs.Choice.{Choice, asks_base, by_base_form, by_form, by_full_form, choice, choice_among, is_established, is_see_from_form}
use Rattle.catalogue_rules.specs.Receipt as definition
use Rattle.catalogue_rules.specs.Receipt.{WithoutHeading, WithoutLink, standing_by, standing_of}
use Rattle.catalogue_rules.specs.State.{KeptField, State, kept_field, linkable_authorities}
use Rattle.linking_laws.specs.Tables.{has_established, has_traced}
use Rattle.catalogue_tables.specs.Choosing.{TellsState, authorities_among, chosen_for, form_choice, link_by_taker, taker_by_number}
use Rattle.catalogue_tables.specs.Lent.{AreGiven, keys_at, keys_of as keys_numbered}
use Rattle.catalogue_tables.specs.Meant.{AreMeant, numbers_in, standing_among}
use Rattle.catalogue_tables.specs.Rows.{IsTold, rows_among}
use Rattle.catalogue_tables.specs.Stands.{field_standing, stands_as}
use Rattle.catalogue_tables.specs.declared.choosing.Chosen.TheVariants as chosen
use Rattle.catalogue_tables.specs.declared.choosing.Taker.{Taker}
use Rattle.catalogue_tables.specs.declared.standing.Standing.TheVariants as here
use Rattle.catalogue_tables.proofs.Chosens.{by_no_number, chosen_by_number, kind_made}
use Rattle.catalogue_tables.proofs.Picked.{keys_among, keys_of, nobody_left, somebody}

-- ---- keys of given numbers

given_at : (keys : List Key) (n : ℕ) → n < length keys → slice_get keys n ≡ Some (key_at keys n)
unfolding key_at
given_at [] n low = absurd (omega (arith, low))
given_at (k ∷ keys) zero low = refl
given_at (k ∷ keys) (suc n) low = given_at keys n (omega (arith, low))

pub given_keys : (keys : List Key) (ns : List ℕ) → AreGiven keys ns → keys_at keys ns ≡ keys_numbered keys ns
given_keys keys [] given = refl
given_keys keys (n ∷ ns) given =
    ap (λ o. cons_option o (keys_at keys ns)) (given_at keys n given.0) ∙ ap (λ (l : List Key). key_at keys n ∷ l) (given_keys keys ns given.1)

-- ---- the candidates of a form

some_of : {A B : Type 0} (f : A → B) (o : Option A) (y : B) → option_map f o ≡ Some y → (x : A) × (o ≡ Some x) × (f x ≡ y)
some_of f None y e = cc
some_of f (Some x) y e = let is : f x ≡ y = cc in (x, refl, is)

module _ (keys : List Key) (whole : Bool) where
  -- the numbers of some authorities' keys are those that a choice among these may mean
  meant_of : (numbers : List ℕ) (cs : List Linkable) → keys_numbered keys numbers ≡ keys_of cs → AreGiven keys numbers → AreMeant keys (choice_among whole cs) numbers
  meant_of [] [] are given = refl
  meant_of (n ∷ []) (c ∷ []) are given = (refl, given)
  meant_of (n ∷ m ∷ ns) (c ∷ d ∷ cs) are given = (ap (λ (l : List Key). Some (standing_among l)) (sym are), given)
  meant_of [] (c ∷ cs) are given = cc
  meant_of (n ∷ ns) [] are given = cc
  meant_of (n ∷ []) (c ∷ d ∷ cs) are given = cc
  meant_of (n ∷ m ∷ ns) (c ∷ []) are given = cc

  some_meant : (numbers : List ℕ) (cs : List Linkable) → keys_numbered keys numbers ≡ keys_of cs → numbers ≢ [] → cs ≢ []
  some_meant [] cs are some = absurd (some refl)
  some_meant (n ∷ ns) [] are some = cc
  some_meant (n ∷ ns) (c ∷ cs) are some = λ e. cc

  -- what is told of a form are those that it may mean
  pub told_meant : (among : Among) (all : List Linkable) (form : Form) (answer : Candidates) → IsTold keys (rows_among among all) form answer
      → AreMeant keys (by_form (authorities_among among all) whole form) (numbers_in answer)
  unfolding by_form
  told_meant among all form (Established numbers) told =
      let cs = filter (is_established form) (authorities_among among all) in
      let are = told.are ∙ keys_among among (has_established form) all in
      let other : Option Choice = choice_among whole (filter (is_see_from_form form) (authorities_among among all)) in
      subst (λ o. AreMeant keys o numbers.now) (sym (somebody whole cs other (some_meant numbers.now cs are told.some))) (meant_of numbers.now cs are told.given)
  told_meant among all form (SeeFrom numbers) told =
      let cs = filter (is_see_from_form form) (authorities_among among all) in
      let nobody : filter (is_established form) (authorities_among among all) ≡ [] =
      nobody_left (filter (is_established form) (authorities_among among all)) (sym (keys_among among (has_established form) all) ∙ told.0) in
      let are = told.1.are ∙ keys_among among (has_traced form) all in
      subst (λ l. AreMeant keys (option_or (choice_among whole l) (choice_among whole cs)) numbers.now) (sym nobody) (meant_of numbers.now cs are told.1.given)
  told_meant among all form Nobody told =
      let cs = filter (is_see_from_form form) (authorities_among among all) in
      let nobody : filter (is_established form) (authorities_among among all) ≡ [] =
      nobody_left (filter (is_established form) (authorities_among among all)) (sym (keys_among among (has_established form) all) ∙ told.0) in
      let none : cs ≡ [] = nobody_left cs (sym (keys_among among (has_traced form) all) ∙ told.1) in
      ap (λ l. option_or (choice_among whole l) (choice_among whole cs)) nobody ∙ ap (λ l. choice_among whole l) none

-- one passes exactly where some are left
none_at : (c : Linkable) (kept : List Linkable) (b rest : Bool) → (kept ≡ [] → false ≡ rest) → cond b (c ∷ kept) kept ≡ [] → false ≡ (b || rest)
none_at c kept true rest below none = cc
none_at c kept false rest below none = below none

none_passes : (test : Linkable → Bool) (all : List Linkable) → filter test all ≡ [] → false ≡ list_any test all
none_passes test [] none = refl
none_passes test (c ∷ all) none = none_at c (filter test all) (test c) (list_any test all) (none_passes test all) none

some_at : (c : Linkable) (kept : List Linkable) (b rest : Bool) → (kept ≢ [] → true ≡ rest) → cond b (c ∷ kept) kept ≢ [] → true ≡ (b || rest)
some_at c kept true rest below some = refl
some_at c kept false rest below some = below some

some_passes : (test : Linkable → Bool) (all : List Linkable) → filter test all ≢ [] → true ≡ list_any test all
some_passes test [] some = absurd (some refl)
some_passes test (c ∷ all) some = some_at c (filter test all) (test c) (list_any test all) (some_passes test all) some

-- the form is a heading exactly where the index tells so
abbrev pub told_heading : Candidates → Bool
told_heading (Established numbers) = true
told_heading (SeeFrom numbers) = false
told_heading Nobody = false

pub established_told : (keys : List Key) (all : List Linkable) (form : Form) (answer : Candidates) → IsTold keys (rows_among All all) form answer
    → told_heading answer ≡ list_any (is_established form) all
established_told keys all form (Established numbers) told =
    let are = told.are ∙ keys_among All (has_established form) all in
    some_passes (is_established form) all (some_meant keys true numbers.now (filter (is_established form) all) are told.some)
established_told keys all form (SeeFrom numbers) told =
    none_passes (is_established form) all (nobody_left (filter (is_established form) all) (sym (keys_among All (has_established form) all) ∙ told.0))
established_told keys all form Nobody told =
    none_passes (is_established form) all (nobody_left (filter (is_established form) all) (sym (keys_among All (has_established form) all) ∙ told.0))

-- by the full form, where the field takes subdivisions: one without any has its base form as its full form
pub full_meant : (keys : List Key) (all : List Linkable) (class : Class) (kind : Kind) (f : Field) (tie : Tie) (form base : Form) (divided : Option Form) (numbers : List ℕ)
    → is_subdividable class (tag_of f) ≡ true → base ≡ base_form kind f → divided ≡ divided_form kind class f → form ≡ unwrap_or divided base
    → AreMeant keys (by_form all true form) numbers → AreMeant keys (by_full_form all class kind (kept_field f tie)) numbers
full_meant keys all class kind f tie form base divided numbers takes is made full meant =
    let whole : form ≡ full_form kind class f = full ∙ ap (λ o. unwrap_or o base) made ∙ ap (λ b. unwrap_or (divided_form kind class f) b) is ∙ full_either kind class f in
    subst (λ b. AreMeant keys (if b then by_form all true (full_form kind class f) else None) numbers) (sym takes)
    (subst (λ g. AreMeant keys (by_form all true g) numbers) whole meant)

pub base_meant : (keys : List Key) (all : List Linkable) (class : Class) (kind : Kind) (h : KeptField) (base : Form) (numbers : List ℕ) → asks_base class h ≡ true
    → base ≡ base_form kind h.field → AreMeant keys (by_form (filter is_bare all) false base) numbers → AreMeant keys (by_base_form all class kind h) numbers
base_meant keys all class kind h base numbers asks is meant =
    subst (λ b. AreMeant keys (if b then by_form (filter is_bare all) false (base_form kind h.field) else None) numbers) (sym asks)
    (subst (λ g. AreMeant keys (by_form (filter is_bare all) false g) numbers) is meant)

-- by the full form nobody is meant
pub base_then : (keys : List Key) (full base : Option Choice) (none numbers : List ℕ) → none ≡ [] → AreMeant keys full none → AreMeant keys base numbers
    → AreMeant keys (option_or full base) numbers
base_then keys full base none numbers is unmeant meant =
    let gone : full ≡ None = subst (λ l. AreMeant keys full l) is unmeant in
    subst (λ o. AreMeant keys (option_or o base) numbers) (sym gone) meant

-- by the full form somebody is meant
pub full_then : (keys : List Key) (full base : Option Choice) (numbers : List ℕ) → numbers ≢ [] → AreMeant keys full numbers → AreMeant keys (option_or full base) numbers
full_then keys full base [] some meant = absurd (some refl)
full_then keys full base (n ∷ ns) some meant =
    let found = some_of standing_by full (standing_among (keys_numbered keys (n ∷ ns))) meant.0 in
    let same : option_or full base ≡ full = ap (λ o. option_or o base) found.1 ∙ sym found.1 in
    subst (λ o. AreMeant keys o (n ∷ ns)) (sym same) meant

-- ---- how the heading stands

pub all_given : (keys : List Key) (o : Option Choice) (numbers : List ℕ) → AreMeant keys o numbers → AreGiven keys numbers
all_given keys o [] meant = tt
all_given keys o (n ∷ ns) meant = meant.1

pub meant_stands : (keys : List Key) (o : Option Choice) (numbers : List ℕ) → AreMeant keys o numbers → standing_among (keys_numbered keys numbers) ≡ standing_by (unwrap_or o rules.Unlinked)
meant_stands keys o [] meant = ap (λ x. standing_by (unwrap_or x rules.Unlinked)) (sym meant)
meant_stands keys o (n ∷ ns) meant =
    let found = some_of standing_by o (standing_among (keys_numbered keys (n ∷ ns))) meant.0 in
    sym found.2 ∙ ap (λ x. standing_by (unwrap_or x rules.Unlinked)) (sym found.1)

link_stands : (keys : List Key) (n : ℕ) (whole : Bool) (c : Choice) → chosen.Link n whole ≡ chosen_for keys c → standing_by c ≡ WithoutLink
link_stands keys n whole (rules.Link c w) e = refl
link_stands keys n whole (rules.Ambiguous found) e = cc
link_stands keys n whole rules.Unlinked e = refl

module _ (names : List Form) (keys : List Key) (x : Indexed) (class : Class) (kind : Kind) (h : KeptField) (s : State) (tells : TellsState names keys x s) where
  -- a heading that a number would link is without a link
  pub numbered_stands : (taker : Taker) → Some taker ≡ taker_by_number names keys x class kind h
      → here.Unlinked ≡ stands_as (standing_by (choice (linkable_authorities s) class kind h))
  numbered_stands taker e =
      let link = link_by_taker class h taker in
      ap stands_as (sym (link_stands keys taker.number _ (choice (linkable_authorities s) class kind h) (chosen_by_number names keys x class kind h s tells taker e)))

  -- without a number the forms choose
  pub forms_choose : None ≡ taker_by_number names keys x class kind h → choice (linkable_authorities s) class kind h ≡ form_choice (linkable_authorities s) class kind h
  unfolding choice
  forms_choose none =
      ap (λ o. unwrap_or (option_or o (option_or (by_full_form (linkable_authorities s) class kind h) (by_base_form (linkable_authorities s) class kind h))) rules.Unlinked)
      (by_no_number names keys x class kind h s tells none)

pub linked_stands : (all : List Linkable) (class : Class) (h : KeptField) (key : Key) → h.tie.key ≡ Some key → here.Linked ≡ field_standing all class h
unfolding standing_of
linked_stands all class h key e = ap (λ (o : Option Key). stands_as (option_map_or (λ key. definition.LinkedTo key) o (definition.standing_unlinked all class h))) (sym e)

unlinked_by : (all : List Linkable) (class : Class) (h : KeptField) → h.tie.key ≡ None → stands_as (definition.standing_unlinked all class h) ≡ field_standing all class h
unfolding standing_of
unlinked_by all class h e = ap (λ (o : Option Key). stands_as (option_map_or (λ key. definition.LinkedTo key) o (definition.standing_unlinked all class h))) (sym e)

no_kind : (f : Field) (o : Option Kind) → None ≡ option_map (λ kind. base_form kind f) o → o ≡ None
no_kind f None e = refl
no_kind f (Some kind) e = cc

pub headless_stands : (all : List Linkable) (class : Class) (h : KeptField) → h.tie.key ≡ None → None ≡ heading_base_form class h.field → here.NoHeading ≡ field_standing all class h
headless_stands all class h unlinked none =
    ap (λ o. stands_as (option_map_or (λ kind. standing_by (choice all class kind h)) o WithoutHeading)) (sym (no_kind h.field (heading_kind class h.field) none))
    ∙ unlinked_by all class h unlinked

pub heading_stands : (all : List Linkable) (class : Class) (h : KeptField) (base : Form) → h.tie.key ≡ None → Some base ≡ heading_base_form class h.field
    → stands_as (standing_by (choice all class base.kind h)) ≡ field_standing all class h
heading_stands all class h base unlinked made =
    ap (λ o. stands_as (option_map_or (λ kind. standing_by (choice all class kind h)) o WithoutHeading)) (sym (kind_made h.field (heading_kind class h.field) base made))
    ∙ unlinked_by all class h unlinked

-- ---- several keys

pub several_among : (keys : List Key) (numbers : List ℕ) (found : List Key) → 2 ≤ length numbers → found ≡ keys_at keys numbers → AreGiven keys numbers
    → here.Ambiguous found ≡ stands_as (standing_among (keys_numbered keys numbers))
several_among keys [] found many are given = absurd (omega (arith, many))
several_among keys (n ∷ []) found many are given = absurd (omega (arith, many))
several_among keys (n ∷ m ∷ ns) found many are given = ap (λ (l : List Key). here.Ambiguous l) (are ∙ given_keys keys (n ∷ m ∷ ns) given)

pub few_among : (keys : List Key) (numbers : List ℕ) → length numbers < 2 → here.Unlinked ≡ stands_as (standing_among (keys_numbered keys numbers))
few_among keys [] few = refl
few_among keys (n ∷ []) few = refl
few_among keys (n ∷ m ∷ ns) few = absurd (omega (arith, few))

-- ---- a loop over numbers

one_listed : (o : Option Key) → option_to_list o ≡ cons_option o []
one_listed None = refl
one_listed (Some k) = refl

behind_one : (o : Option Key) (xs ys : List Key) → cons_option o xs ++ ys ≡ cons_option o (xs ++ ys)
behind_one None xs ys = refl
behind_one (Some k) xs ys = refl

one_at : (keys : List Key) (numbers : List ℕ) (i d : ℕ) → i < length numbers
    → keys_at keys (take i numbers) ++ option_to_list (slice_get keys (get_or numbers i d)) ≡ keys_at keys (take (suc i) numbers)
one_at keys [] i d low = absurd (omega (arith, low))
one_at keys (m ∷ numbers) zero d low = one_listed (slice_get keys m)
one_at keys (m ∷ numbers) (suc i) d low =
    behind_one (slice_get keys m) (keys_at keys (take i numbers)) (option_to_list (slice_get keys (get_or numbers i d)))
    ∙ ap (cons_option (slice_get keys m)) (one_at keys numbers i d (omega (arith, low)))

-- the keys of the numbers before a place, and that of the number there
pub keys_next : (keys : List Key) (numbers : List ℕ) (i d : ℕ) → i < length numbers
    → keys_at keys (take (i + 1) numbers) ≡ keys_at keys (take i numbers) ++ option_to_list (slice_get keys (get_or numbers i d))
keys_next keys numbers i d low =
    let next : i + 1 ≡ suc i = omega arith in
    ap (λ k. keys_at keys (take k numbers)) next ∙ sym (one_at keys numbers i d low)

pub next_at : (keys : List Key) (numbers : List ℕ) (i d : ℕ) (found more : List Key) → i < length numbers → found ≡ keys_at keys (take i numbers)
    → more ≡ found ++ option_to_list (slice_get keys (get_or numbers i d)) → more ≡ keys_at keys (take (i + 1) numbers)
next_at keys numbers i d found more low are put =
    put ∙ ap (λ (l : List Key). l ++ option_to_list (slice_get keys (get_or numbers i d))) are ∙ sym (keys_next keys numbers i d low)

-- ---- whether there are numbers

pub none_left : (numbers : List ℕ) (b : Bool) → b ≡ (length numbers == 0) → b ≡ true → numbers ≡ []
none_left [] b e t = refl
none_left (n ∷ ns) b e t = let long : suc (length ns) ≡ 0 = (unsigned_Decides (suc (length ns)) 0).0 (sym e ∙ t) in absurd (omega (arith, long))

pub some_left : (numbers : List ℕ) (b : Bool) → b ≡ (length numbers == 0) → b ≡ false → numbers ≢ []
some_left numbers b e f = λ is. let clash : false ≡ true = sym f ∙ e ∙ (unsigned_Decides (length numbers) 0).1 (ap (λ (l : List ℕ). length l) is) in cc
