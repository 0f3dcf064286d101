-- The authority that takes a field by number, found by the number of a key, is the one of the rules.
use Rattle.std.proofs.Common.{◌≡◌, ◌∙◌, sym, ap, refl, subst, List, [], ◌∷◌, Bool, true, false, ◌&&◌, ◌||◌, cond, Option, Some, None, slice_get, if◌then◌else◌}
use Rattle.std.specs.Prelude.{◌==◌, IsSomeAnd, find, option_and_then}
use Rattle.std.specs.List.Sorted.{IsStrictlySortedBy}
use Rattle.std.specs.Option.{option_map, option_map_or, option_or}
use Rattle.std.specs.Ordering.{is_eq}
use Rattle.std.proofs.lemmas.Bool.{and_from}
use Rattle.std.proofs.lemmas.Cmp.{eq_by_cmp_equiv}
use Rattle.std.proofs.lemmas.List.Elements.{recursion_from_All}
use Rattle.marc_types.specs.Fields.{subfields_of}
use Rattle.marc_types.specs.Order.{form_Decides, key_Decides, key_cmp_total, same_form, same_key}
use Rattle.marc_types.specs.Valid.{is_code, is_number}
use Rattle.marc_types.specs.declared.field.Subfield.{Subfield}
use Rattle.marc_types.specs.declared.form.Form.{Form}
use Rattle.marc_types.specs.declared.form.Kind.{Kind}
use Rattle.marc_types.specs.declared.key.Class.{Class}
use Rattle.marc_types.specs.declared.key.Class.TheVariants.{Authority}
use Rattle.marc_types.specs.declared.key.Key.{Key}
use Rattle.numbering.specs.Numbers.{is_known, number_of}
use Rattle.numbering.proofs.Numberlaws.{thing_at}
use Rattle.form_index.specs.Forms.{Forms}
use Rattle.form_index.specs.Index.{Indexed, row_under}
use Rattle.heading_fields.specs.Numbers.{is_naming, without_blanks}
use Rattle.entry_record.specs.Authority.{Linkable, is_bare, is_valid_key, key_of_text, option_filter, same_kind}
use Rattle.catalogue_rules.specs.Choice.{Choice, Link, by_awaited, by_first_name, by_number, can_take, has_key, is_taken_whole, link_where, takes_subdivisions}
use Rattle.catalogue_rules.specs.State.{KeptField, State, fields_of, linkable_authorities}
use Rattle.catalogue_rules.specs.Valid.{IsRow}
use Rattle.catalogue_rules.proofs.Elements.{Each, each_weaker, find_found}
use Rattle.catalogue_rules.proofs.Fit.{IsFit}
use Rattle.catalogue_rules.proofs.Proper.{all_fit, each_linkable, proper_linkable}
use Rattle.linking_laws.proofs.Naming.{naming_is}
use Rattle.catalogue_tables.specs.Choosing.{TellsState, chosen_for, first_taker, key_named, link_by_taker, named_taker, taker_by_number, taker_for, taker_of_row, taker_under}
use Rattle.catalogue_tables.specs.declared.choosing.Chosen.{Chosen}
use Rattle.catalogue_tables.specs.declared.choosing.Taker.{Taker}
use Rattle.catalogue_tables.specs.Following.{IsRowFor}
use Rattle.catalogue_tables.proofs.Rowed.{AreInOrder, IsAbove, ordered_rows, unknown_nobody}

-- ---- one authority a key

none_passes : (passes : Linkable → Bool) (key : Key) (cs : List Linkable) → IsAbove key cs → find (λ c. has_key key c && passes c) cs ≡ None
none_passes passes key [] above = refl
none_passes passes key (c ∷ cs) above = ap (λ o. cond (is_eq o && passes c) (Some c) (find (λ d. has_key key d && passes d) cs)) above.0 ∙ none_passes passes key cs above.1

found_passing : (passes : Linkable → Bool) (key : Key) (cs : List Linkable) → AreInOrder cs → find (λ c. has_key key c && passes c) cs ≡ option_filter passes (find (has_key key) cs)
unfolding IsStrictlySortedBy
found_passing passes key [] ordered = refl
found_passing passes key (c ∷ cs) ordered = by (same_key key c.key) (passes c) refl refl (found_passing passes key cs ordered.1)
  where
    by : (b p : Bool) → same_key key c.key ≡ b → passes c ≡ p → find (λ d. has_key key d && passes d) cs ≡ option_filter passes (find (has_key key) cs)
        → cond (b && p) (Some c) (find (λ d. has_key key d && passes d) cs) ≡ option_filter passes (cond b (Some c) (find (has_key key) cs))
    by true true same passed rest = ap (λ b. cond b (Some c) None) (sym passed)
    by true false same failed rest =
        none_passes passes key cs (subst (λ k. IsAbove k cs) (sym ((key_Decides key c.key).0 same)) ordered.0) ∙ ap (λ b. cond b (Some c) None) (sym failed)
    by false p differs passed rest = rest

find_alike : (p q : Linkable → Bool) (cs : List Linkable) → Each (λ c. p c ≡ q c) cs → find p cs ≡ find q cs
find_alike p q [] alike = refl
find_alike p q (c ∷ cs) alike = ap (λ b. cond b (Some c) (find p cs)) alike.0 ∙ ap (λ o. cond (q c) (Some c) o) (find_alike p q cs alike.1)

find_nobody : (p : Linkable → Bool) (cs : List Linkable) → Each (λ c. p c ≡ false) cs → find p cs ≡ None
find_nobody p [] none = refl
find_nobody p (c ∷ cs) none = ap (λ b. cond b (Some c) (find p cs)) none.0 ∙ find_nobody p cs none.1

-- ---- the row of an authority

form_there : (o : Option Form) (form : Form) → IsSomeAnd o (λ found. same_form form found ≡ true) → o ≡ Some form
form_there None form e = absurd e
form_there (Some found) form same = ap (λ (f : Form). Some f) (sym ((form_Decides form found).0 same))

pub form_at : (names : List Form) (form : Form) → is_known same_form names form ≡ true → slice_get names (number_of same_form names form) ≡ Some form
form_at names form known = form_there (slice_get names (number_of same_form names form)) form (thing_at same_form names form known)

module _ (names : List Form) (keys : List Key) (class : Class) (kind : Kind) (h : KeptField) where
  row_takes : (key : Key) (o : Option Linkable) (row : Option Forms) → IsRowFor names o row
      → ((c : Linkable) → o ≡ Some c → (c.established.kind ≡ c.kind) × (key ≡ c.key))
      → option_and_then (taker_of_row names kind (takes_subdivisions class h) (number_of same_key keys key)) row
      ≡ option_map (taker_for keys) (option_filter (can_take class kind h) o)
  row_takes key None None of is = refl
  row_takes key None (Some row) of is = absurd of
  row_takes key (Some c) None of is = absurd of
  row_takes key (Some c) (Some row) of is =
      let takes = takes_subdivisions class h in
      let n = number_of same_key keys key in
      let at : slice_get names row.established ≡ Some c.established = ap (slice_get names) of.established_is.is ∙ form_at names c.established of.established_is.known in
      ap (λ (o : Option Form). option_and_then (λ form. if same_kind kind form.kind && (takes || row.bare) then Some (record { number = n; bare = row.bare }) else None) o) at
      ∙ ap (λ (k : Kind). if same_kind kind k && (takes || row.bare) then Some (record { number = n; bare = row.bare }) else None) (is c refl).0
      ∙ ap (λ (b : Bool). if same_kind kind c.kind && (takes || b) then Some (record { number = n; bare = b }) else None) of.bare_is
      ∙ ap (λ (k : Key). if can_take class kind h c then Some (record { number = number_of same_key keys k; bare = is_bare c }) else None) (is c refl).1
      ∙ split (can_take class kind h c)
    where
      split : (b : Bool) → (if b then Some (taker_for keys c) else None) ≡ option_map (taker_for keys) (if b then Some c else None)
      split true = refl
      split false = refl

or_map : (f : Choice → Chosen) (a b : Option Choice) → option_map f (option_or a b) ≡ option_or (option_map f a) (option_map f b)
or_map f None b = refl
or_map f (Some c) b = refl

or_link : (f : Taker → Chosen) (a b : Option Taker) → option_map f (option_or a b) ≡ option_or (option_map f a) (option_map f b)
or_link f None b = refl
or_link f (Some t) b = refl

module _ (names : List Form) (keys : List Key) (x : Indexed) (s : State) (tells : TellsState names keys x s) (class : Class) (kind : Kind) (h : KeptField) where
  fits : Each (IsFit (linkable_authorities s)) (linkable_authorities s)
  fits = all_fit s.authorities tells.in_order.ascend (recursion_from_All (IsRow Authority) s.authorities tells.in_order.rows)

  apt : (key : Key) (c : Linkable) → find (has_key key) (linkable_authorities s) ≡ Some c → (c.established.kind ≡ c.kind) × (key ≡ c.key)
  apt key c e =
      let fit = find_found (IsFit (linkable_authorities s)) (has_key key) (linkable_authorities s) c fits e in
      (fit.0.established, (key_Decides key c.key).0 fit.1)

  valid : Each (λ (c : Linkable). is_valid_key c.key ≡ true) (linkable_authorities s)
  valid =
      each_linkable (IsRow Authority) (λ (c : Linkable). is_valid_key c.key ≡ true)
      (λ row c r e. subst (λ (k : Key). is_valid_key k ≡ true) (sym (proper_linkable row.0 (fields_of row.1) c e).key_is) (and_from (is_code row.0.code) (is_number row.0.number) r.code r.number))
      s.authorities (recursion_from_All (IsRow Authority) s.authorities tells.in_order.rows)

  -- the taker under a key is its authority, where that can take the field
  taken : (key : Key) → taker_under names keys x kind (takes_subdivisions class h) key
      ≡ option_map (taker_for keys) (find (λ c. has_key key c && can_take class kind h c) (linkable_authorities s))
  taken key = at (is_known same_key keys key) refl ∙ ap (option_map (taker_for keys)) (sym (found_passing (can_take class kind h) key (linkable_authorities s) (ordered_rows s.authorities tells.in_order.ascend)))
    where
      at : (b : Bool) → is_known same_key keys key ≡ b → taker_under names keys x kind (takes_subdivisions class h) key
          ≡ option_map (taker_for keys) (option_filter (can_take class kind h) (find (has_key key) (linkable_authorities s)))
      at true known =
          ap (λ b. option_and_then (λ number. option_and_then (taker_of_row names kind (takes_subdivisions class h) number) (row_under number x)) (cond b (Some (number_of same_key keys key)) None)) known
          ∙ row_takes names keys class kind h key (find (has_key key) (linkable_authorities s)) (row_under (number_of same_key keys key) x) (tells.tells.each key) (apt key)
      at false unknown =
          ap (λ b. option_and_then (λ number. option_and_then (taker_of_row names kind (takes_subdivisions class h) number) (row_under number x)) (cond b (Some (number_of same_key keys key)) None)) unknown
          ∙ ap (λ o. option_map (taker_for keys) (option_filter (can_take class kind h) o)) (sym (unknown_nobody names keys x (linkable_authorities s) tells.distinct tells.tells key unknown))

  linked : (o : Option Linkable) → option_map (link_by_taker class h) (option_map (taker_for keys) o) ≡ option_map (chosen_for keys) (option_map (λ c. Link c (is_taken_whole class h c)) o)
  linked None = refl
  linked (Some c) = refl

  awaited : (o : Option Key) → option_map (link_by_taker class h) (option_and_then (taker_under names keys x kind (takes_subdivisions class h)) o)
      ≡ option_map (chosen_for keys) (option_and_then (λ key. link_where (has_key key) (linkable_authorities s) class kind h) o)
  awaited None = refl
  awaited (Some key) =
      ap (option_map (link_by_taker class h)) (taken key) ∙ linked (find (λ c. has_key key c && can_take class kind h c) (linkable_authorities s))

  -- a `$0` names the authority under the key that it reads as
  naming_alike : (sub : Subfield) (c : Linkable) (b : Bool) (o : Option Key) → is_valid_key c.key ≡ true → (sub.code == 48) ≡ b → key_of_text (without_blanks sub.text) ≡ o
      → is_naming c.key sub ≡ option_map_or (λ k. has_key k c) (cond b o None) false
  naming_alike sub c b o ok coded reads =
      naming_is c.key sub ok
      ∙ ap (λ d. d && option_map_or (same_key c.key) (key_of_text (without_blanks sub.text)) false) coded
      ∙ ap (λ k. b && option_map_or (same_key c.key) k false) reads
      ∙ split b o
    where
      split : (b : Bool) (o : Option Key) → (b && option_map_or (same_key c.key) o false) ≡ option_map_or (λ k. has_key k c) (cond b o None) false
      split true None = refl
      split true (Some k) = (eq_by_cmp_equiv key_cmp_total).symm c.key k
      split false o = refl

  named_by : (sub : Subfield) (o : Option Key) → ((c : Linkable) → is_valid_key c.key ≡ true → is_naming c.key sub ≡ option_map_or (λ k. has_key k c) o false)
      → option_map (link_by_taker class h) (option_and_then (taker_under names keys x kind (takes_subdivisions class h)) o)
      ≡ option_map (chosen_for keys) (link_where (λ c. is_naming c.key sub) (linkable_authorities s) class kind h)
  named_by sub None alike =
      ap (λ f. option_map (chosen_for keys) (option_map (λ c. Link c (is_taken_whole class h c)) f))
      (sym (find_nobody (λ c. is_naming c.key sub && can_take class kind h c) (linkable_authorities s)
      (each_weaker (λ (c : Linkable). is_valid_key c.key ≡ true) (λ c. (is_naming c.key sub && can_take class kind h c) ≡ false) (λ c ok. ap (λ b. b && can_take class kind h c) (alike c ok))
      (linkable_authorities s) valid)))
  named_by sub (Some key) alike =
      awaited (Some key)
      ∙ ap (λ f. option_map (chosen_for keys) (option_map (λ c. Link c (is_taken_whole class h c)) f))
      (sym (find_alike (λ c. is_naming c.key sub && can_take class kind h c) (λ c. has_key key c && can_take class kind h c) (linkable_authorities s)
      (each_weaker (λ (c : Linkable). is_valid_key c.key ≡ true) (λ c. (is_naming c.key sub && can_take class kind h c) ≡ (has_key key c && can_take class kind h c))
      (λ c ok. ap (λ b. b && can_take class kind h c) (alike c ok)) (linkable_authorities s) valid)))

  named : (subs : List Subfield) → option_map (link_by_taker class h) (first_taker names keys x kind (takes_subdivisions class h) subs)
      ≡ option_map (chosen_for keys) (by_first_name (linkable_authorities s) class kind h subs)
  named [] = refl
  named (sub ∷ subs) =
      let first = named_taker names keys x kind (takes_subdivisions class h) sub in
      let more = first_taker names keys x kind (takes_subdivisions class h) subs in
      let here = named_by sub (key_named sub) (λ c ok. naming_alike sub c (sub.code == 48) (key_of_text (without_blanks sub.text)) ok refl refl) in
      or_link (link_by_taker class h) first more
      ∙ ap (λ o. option_or o (option_map (link_by_taker class h) more)) here
      ∙ ap (λ o. option_or (option_map (chosen_for keys) (link_where (λ c. is_naming c.key sub) (linkable_authorities s) class kind h)) o) (named subs)
      ∙ sym (or_map (chosen_for keys) (link_where (λ c. is_naming c.key sub) (linkable_authorities s) class kind h) (by_first_name (linkable_authorities s) class kind h subs))

  -- who takes the field by number is whom the rules link it to
  pub taken_by_number : option_map (link_by_taker class h) (taker_by_number names keys x class kind h) ≡ option_map (chosen_for keys) (by_number (linkable_authorities s) class kind h)
  unfolding by_number
  taken_by_number =
      let first = option_and_then (taker_under names keys x kind (takes_subdivisions class h)) h.tie.awaits in
      let more = first_taker names keys x kind (takes_subdivisions class h) (subfields_of h.field) in
      or_link (link_by_taker class h) first more
      ∙ ap (λ o. option_or o (option_map (link_by_taker class h) more)) (awaited h.tie.awaits)
      ∙ ap (λ o. option_or (option_map (chosen_for keys) (by_awaited (linkable_authorities s) class kind h)) o) (named (subfields_of h.field))
      ∙ sym (or_map (chosen_for keys) (by_awaited (linkable_authorities s) class kind h) (by_first_name (linkable_authorities s) class kind h (subfields_of h.field)))
