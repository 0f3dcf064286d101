-- The authority to which a choice links a field stands under the number of its key, with its heading in its record.
use Rattle.std.proofs.Common.{◌≡◌, ◌∙◌, sym, ap, refl, subst, ℕ, ◌<◌, List, [], ◌∷◌, length, cond, Option, Some, None, Bool, true, false}
use Rattle.std.specs.Prelude.{◌&&◌, find, filter_map, nat_le, IsSome, IsSomeAnd, option_and_then}
use Rattle.std.specs.List.{AllByRecursion, cons_option, list_all}
use Rattle.std.specs.List.Sorted.{IsStrictlySortedBy}
use Rattle.std.specs.Map.{keys_of, lookup}
use Rattle.std.specs.Option.{option_map}
use Rattle.std.specs.declared.cmp.Ordering.TheVariants.{Less}
use Rattle.std.proofs.lemmas.Bool.{and_parts}
use Rattle.std.proofs.lemmas.Grind.{common_steps}
use Rattle.std.proofs.lemmas.List.Elements.{recursion_from_All}
use Rattle.std.proofs.Common.{arith}
use Rattle.marc_types.specs.Valid.{is_code, is_code_byte, is_data, is_graphic, is_number, is_text}
use Rattle.marc_types.specs.Order.{key_Decides, key_cmp, same_key}
use Rattle.marc_types.specs.declared.form.Kind.{Kind}
use Rattle.marc_types.specs.declared.key.Class.{Class}
use Rattle.marc_types.specs.declared.key.Class.TheVariants.{Authority}
use Rattle.marc_types.specs.declared.key.Key.{Key}
use Rattle.numbering.specs.Numbers.{is_known, number_of}
use Rattle.numbering.proofs.Numberlaws.{number_below, thing_at}
use Rattle.entry_record.specs.Authority.{Linkable, heading_kind, linkable_of}
use Rattle.catalogue_rules.specs.State.{KeptField, KeptRecord, Row, fields_of, linkable_authorities, row_linkable}
use Rattle.catalogue_rules.specs.Choice.{Link, choice, has_key}
use Rattle.catalogue_rules.specs.Receipt.{kept_under}
use Rattle.catalogue_rules.specs.Valid.{IsAscending, IsRow}
use Rattle.catalogue_rules.proofs.Elements.{Each}
use Rattle.catalogue_rules.proofs.Fit.{IfLink, IsFit, IsGood, good_choice}
use Rattle.catalogue_rules.proofs.Proper.{all_fit, proper_linkable}
use Rattle.linking_laws.specs.Middle.{AreAuthoritiesInOrder}
use Rattle.linking_laws.proofs.Others.{below_equal}
use Rattle.form_index.specs.Order.{key_at}
use Rattle.catalogue_tables.specs.Choosing.{heading_choice}
use Rattle.catalogue_tables.proofs.Rowed.{above_none, above_rows}
use Rattle.field_settling.specs.Held.{governing_of}
use Rattle.field_settling.proofs.Headings.{heading_found}
use Rattle.linked_store.specs.Linked.{IsNumber, Linked, key_of}
use Rattle.linked_store.proofs.Agreed.{key_there}
use Rattle.commit_stages.specs.Choosing.{heading_under}

-- ---- the row of an authority

record IsRowOf (key : Key) (rows : List Row) (c : Linkable) : Type 0 where
  r : KeptRecord
  stands : lookup (same_key key) rows ≡ Some r
  brings : linkable_of key (fields_of r) ≡ Some c
  proper : IsRow Authority (key, r)

some_same : {T : Type 0} (x y : T) → Some x ≡ Some y → x ≡ y
some_same x y e = cc

found_at : (key : Key) (row : Row) (xs : List Linkable) (d c : Linkable) → same_key key row.0 ≡ true → row_linkable row ≡ Some d
    → find (has_key key) (d ∷ xs) ≡ Some c → d ≡ c
found_at key row xs d c same e found =
    let here : same_key key d.key ≡ true = ap (same_key key) (proper_linkable row.0 (fields_of row.1) d e).key_is ∙ same in
    some_same d c (sym (ap (λ b. cond b (Some d) (find (has_key key) xs)) here) ∙ found)

skipped : (key : Key) (row : Row) (xs : List Linkable) (o : Option Linkable) → same_key key row.0 ≡ false → row_linkable row ≡ o
    → find (has_key key) (cons_option o xs) ≡ find (has_key key) xs
skipped key row xs None differs e = refl
skipped key row xs (Some d) differs e =
    ap (λ b. cond b (Some d) (find (has_key key) xs)) (ap (same_key key) (proper_linkable row.0 (fields_of row.1) d e).key_is ∙ differs)

here_row : (key : Key) (row : Row) (rows : List Row) (d c : Linkable) → same_key key row.0 ≡ true → row_linkable row ≡ Some d → d ≡ c → IsRow Authority row
    → IsRowOf key (row ∷ rows) c
here_row key row rows d c same e is proper =
    let key_is : key ≡ row.0 = (key_Decides key row.0).0 same in
    record {
      r = row.1;
      stands = ap (λ b. cond b (Some row.1) (lookup (same_key key) rows)) same;
      brings = ap (λ (k : Key). linkable_of k (fields_of row.1)) key_is ∙ e ∙ ap (λ (x : Linkable). Some x) is;
      proper = subst (λ (k : Key). IsRow Authority (k, row.1)) (sym key_is) (record { class_is = proper.class_is; code = proper.code; number = proper.number });
    }

row_behind : (key : Key) (row : Row) (rows : List Row) (c : Linkable) → same_key key row.0 ≡ false → IsRowOf key rows c → IsRowOf key (row ∷ rows) c
row_behind key row rows c differs of = record {
  r = of.r;
  stands = ap (λ b. cond b (Some row.1) (lookup (same_key key) rows)) differs ∙ of.stands;
  brings = of.brings;
  proper = of.proper;
}

nobody_behind : (key : Key) (row : Row) (rows : List Row) → same_key key row.0 ≡ true → AllByRecursion (λ k. key_cmp row.0 k ≡ Less) (keys_of rows)
    → find (has_key key) (filter_map row_linkable rows) ≡ None
nobody_behind key row rows same less =
    above_none key (filter_map row_linkable rows) (above_rows key rows (below_equal key row.0 (keys_of rows) ((key_Decides key row.0).0 same) less))

row_at : (key : Key) (row : Row) (rows : List Row) (c : Linkable) (b : Bool) (o : Option Linkable) → same_key key row.0 ≡ b → row_linkable row ≡ o
    → AllByRecursion (λ k. key_cmp row.0 k ≡ Less) (keys_of rows) → IsRow Authority row
    → (find (has_key key) (filter_map row_linkable rows) ≡ Some c → IsRowOf key rows c)
    → find (has_key key) (cons_option o (filter_map row_linkable rows)) ≡ Some c → IsRowOf key (row ∷ rows) c
row_at key row rows c true (Some d) same e less proper rest found =
    here_row key row rows d c same e (found_at key row (filter_map row_linkable rows) d c same e found) proper
row_at key row rows c true None same e less proper rest found = let clash : None ≡ Some c = sym (nobody_behind key row rows same less) ∙ found in cc
row_at key row rows c false o differs e less proper rest found =
    row_behind key row rows c differs (rest (sym (skipped key row (filter_map row_linkable rows) o differs e) ∙ found))

row_found : (key : Key) (rows : List Row) (c : Linkable) → IsAscending rows → Each (IsRow Authority) rows → find (has_key key) (filter_map row_linkable rows) ≡ Some c
    → IsRowOf key rows c
unfolding IsStrictlySortedBy
row_found key [] c s a found = cc
row_found key (row ∷ rows) c s a found =
    row_at key row rows c (same_key key row.0) (row_linkable row) refl refl s.0 a.0 (row_found key rows c s.1 a.1) found

-- the heading of a key's authority stands in the record under the number that the key has
pub heading_of_key : (x : Linked) → AreAuthoritiesInOrder x.state → (number : ℕ) (key : Key) (c : Linkable) → key_of Authority number x.keys ≡ key
    → find (has_key key) (linkable_authorities x.state) ≡ Some c → heading_under number x ≡ Some (c.kind, c.heading)
heading_of_key x order number key c named found =
    let row = row_found key x.state.authorities c order.ascend (recursion_from_All (IsRow Authority) x.state.authorities order.rows) found in
    ap (λ (k : Key). option_and_then (λ (r : KeptRecord). governing_of (fields_of r)) (kept_under Authority k x.state)) named
    ∙ ap (option_and_then (λ (r : KeptRecord). governing_of (fields_of r))) row.stands ∙ heading_found key (fields_of row.r) c row.brings

-- ---- a proper key can stand in a record

graphic_data : (b : ℕ) → is_graphic b ≡ true → is_data b ≡ true
graphic_data b h = grind (arith, common_steps)

code_data : (b : ℕ) → is_code_byte b ≡ true → is_data b ≡ true
code_data b h = grind (arith, common_steps)

all_data : (p : ℕ → Bool) → ((b : ℕ) → p b ≡ true → is_data b ≡ true) → (bs : List ℕ) → list_all p bs ≡ true → list_all is_data bs ≡ true
all_data p f [] h = refl
all_data p f (b ∷ bs) h = let both = and_parts (p b) (list_all p bs) h in rw (f b both.0) (all_data p f bs both.1)

pub code_text : (code : List ℕ) → is_code code ≡ true → is_text code ≡ true
unfolding is_code is_text
code_text code h = all_data is_code_byte code_data code (and_parts (nat_le 1 (length code) && nat_le (length code) 16) (list_all is_code_byte code) h).1

pub number_text : (number : List ℕ) → is_number number ≡ true → is_text number ≡ true
unfolding is_number is_text
number_text number h = all_data is_graphic graphic_data number (and_parts (nat_le 1 (length number) && nat_le (length number) 64) (list_all is_graphic number) h).1

-- ---- the authority under a number

pub record IsAuthorityUnder (number : ℕ) (c : Linkable) (x : Linked) : Type 0 where
  pub known : IsNumber Authority number x.keys
  pub key : key_of Authority number x.keys ≡ c.key
  pub heading : heading_under number x ≡ Some (c.kind, c.heading)
  pub code_proper : is_text c.key.code ≡ true
  pub number_proper : is_text c.key.number ≡ true

-- each linkable authority's key has a number
abbrev pub AreNumbered : Linked → Type 0
AreNumbered x = (key : Key) → IsSome (find (has_key key) (linkable_authorities x.state)) → is_known same_key x.keys.authorities key ≡ true

named_by_number : (keys : List Key) (key : Key) → is_known same_key keys key ≡ true → key_at keys (number_of same_key keys key) ≡ key
named_by_number keys key known =
    let low : number_of same_key keys key < length keys = number_below same_key keys key known in
    let alike : same_key key (key_at keys (number_of same_key keys key)) ≡ true =
    subst (λ (o : Option Key). IsSomeAnd o (λ found. same_key key found ≡ true)) (key_there keys (number_of same_key keys key) low) (thing_at same_key keys key known) in
    sym ((key_Decides key (key_at keys (number_of same_key keys key))).0 alike)

module _ (x : Linked) (order : AreAuthoritiesInOrder x.state) (numbered : AreNumbered x) where
  abbrev all : List Linkable
  all = linkable_authorities x.state

  abbrev number_for : Linkable → ℕ
  number_for c = number_of same_key x.keys.authorities c.key

  pub reached : (c : Linkable) → find (has_key c.key) all ≡ Some c → IsAuthorityUnder (number_for c) c x
  reached c found =
      let known : is_known same_key x.keys.authorities c.key ≡ true = numbered c.key (subst IsSome (sym found) refl) in
      let key : key_at x.keys.authorities (number_for c) ≡ c.key = named_by_number x.keys.authorities c.key known in
      let row = row_found c.key x.state.authorities c order.ascend (recursion_from_All (IsRow Authority) x.state.authorities order.rows) found in
      record {
        known = number_below same_key x.keys.authorities c.key known;
        key = key;
        heading = ap (λ (k : Key). option_and_then (λ (r : KeptRecord). governing_of (fields_of r)) (kept_under Authority k x.state)) key
            ∙ ap (option_and_then (λ (r : KeptRecord). governing_of (fields_of r))) row.stands ∙ heading_found c.key (fields_of row.r) c row.brings;
        code_proper = code_text c.key.code row.proper.code;
        number_proper = number_text c.key.number row.proper.number;
      }

  fits : Each (IsFit all) all
  fits = all_fit x.state.authorities order.ascend (recursion_from_All (IsRow Authority) x.state.authorities order.rows)

  -- the authority of a choice is found by its key
  pub choice_found_by_key : (class : Class) (h : KeptField) (c : Linkable) (whole : Bool) → heading_choice all class h ≡ Some (Link c whole) → find (has_key c.key) all ≡ Some c
  choice_found_by_key class h c whole is = by (heading_kind class h.field) is
    where
      by : (o : Option Kind) → option_map (λ kind. choice all class kind h) o ≡ Some (Link c whole) → find (has_key c.key) all ≡ Some c
      by None e = cc
      by (Some kind) e =
          (subst (IfLink (IsGood all class kind h)) (some_same (choice all class kind h) (Link c whole) e) (good_choice all class kind h fits)).fit.found
