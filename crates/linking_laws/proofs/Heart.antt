-- The choice over all authorities is the choice over those without one key, where nothing of the field names the key.
use Rattle.std.proofs.Common.{◌≡◌, Bool, true, false, ◌&&◌, ◌||◌, not, cond, List, [], ◌∷◌, ◌++◌, Option, Some, None, refl, sym, ap, ◌∙◌, if◌then◌else◌}
use Rattle.std.specs.Prelude.{All, find, filter, unwrap_or}
use Rattle.std.specs.List.{list_any}
use Rattle.std.specs.Option.{option_map, option_map_or, option_or, option_and_then}
use Rattle.std.proofs.lemmas.List.Elements.{recursion_from_All}
use Rattle.marc_types.specs.Order.{key_Decides, form_Decides}
use Rattle.marc_types.specs.declared.field.Subfield.{Subfield}
use Rattle.marc_types.specs.declared.key.Class.{Class}
use Rattle.marc_types.specs.declared.key.Key.{Key}
use Rattle.marc_types.specs.declared.form.Kind.{Kind}
use Rattle.marc_types.specs.declared.form.Form.{Form}
use Rattle.marc_types.specs.Fields.{subfields_of}
use Rattle.heading_fields.specs.Numbers.{is_naming}
use Rattle.marc_types.specs.Order.{same_key}
use Rattle.entry_record.specs.Authority.{Linkable, is_bare, base_form, full_form}
use Rattle.catalogue_rules.specs.State.{KeptField}
use Rattle.catalogue_rules.specs.Choice.{Link, Unlinked, has_key, takes_subdivisions, can_take, is_taken_whole, link_where, by_awaited, by_first_name, by_number, choice_among, is_established, is_see_from_form, by_form, by_full_form, asks_base, by_base_form, choice}
use Rattle.marc_types.specs.Order.{same_form}
use Rattle.catalogue_rules.specs.Settle.{awaits_key}
use Rattle.catalogue_rules.proofs.Elements.{Each, each_weaker, each_filter}
use Rattle.linking_laws.specs.Waiting.{asked_full, is_form_among, asked_forms, asks_for, names_key, forms_of, others_of, IsUnasked}

-- ---- skipping what passes no test

find_at : {A : Type 0} (p : A → Bool) (x : A) (xs : List A) (o : Option A) (b : Bool) → (b ≡ true → p x ≡ false) → o ≡ find p xs →
    cond (p x) (Some x) o ≡ find p (cond (not b) (x ∷ xs) xs)
find_at p x xs o true off is = rw (off refl) is
find_at p x xs o false off is = ap (λ u. cond (p x) (Some x) u) is

pub find_others : {A : Type 0} (p skip : A → Bool) (xs : List A) → Each (λ x. skip x ≡ true → p x ≡ false) xs →
    find p xs ≡ find p (filter (λ x. not (skip x)) xs)
find_others p skip [] a = refl
find_others p skip (x ∷ xs) a =
    find_at p x (filter (λ y. not (skip y)) xs) (find p xs) (skip x) a.0 (find_others p skip xs a.1)

filter_at : {A : Type 0} (p : A → Bool) (x : A) (xs ys : List A) (b : Bool) → (b ≡ true → p x ≡ false) → ys ≡ filter p xs →
    cond (p x) (x ∷ ys) ys ≡ filter p (cond (not b) (x ∷ xs) xs)
filter_at p x xs ys true off is = rw (off refl) is
filter_at p x xs ys false off is = ap (λ l. cond (p x) (x ∷ l) l) is

pub filter_others : {A : Type 0} (p skip : A → Bool) (xs : List A) → Each (λ x. skip x ≡ true → p x ≡ false) xs →
    filter p xs ≡ filter p (filter (λ x. not (skip x)) xs)
filter_others p skip [] a = refl
filter_others p skip (x ∷ xs) a =
    filter_at p x (filter (λ y. not (skip y)) xs) (filter p xs) (skip x) a.0 (filter_others p skip xs a.1)

swap_at : {A : Type 0} (p q : A → Bool) (x : A) (ps qs : List A) (b c : Bool) → p x ≡ b → q x ≡ c → filter p qs ≡ filter q ps →
    filter p (cond c (x ∷ qs) qs) ≡ filter q (cond b (x ∷ ps) ps)
swap_at p q x ps qs true true pb qc is = rw (pb, qc) (ap (λ l. x ∷ l) is)
swap_at p q x ps qs true false pb qc is = rw qc is
swap_at p q x ps qs false true pb qc is = rw pb is
swap_at p q x ps qs false false pb qc is = is

pub filter_swap : {A : Type 0} (p q : A → Bool) (xs : List A) → filter p (filter q xs) ≡ filter q (filter p xs)
filter_swap p q [] = refl
filter_swap p q (x ∷ xs) = swap_at p q x (filter p xs) (filter q xs) (p x) (q x) refl refl (filter_swap p q xs)

-- ---- tests

pub or_false : (a b : Bool) → (a || b) ≡ false → (a ≡ false) × (b ≡ false)
or_false true b e = cc
or_false false b e = (refl, e)

other_at : (k key own : Key) (b : Bool) → same_key k own ≡ b → same_key key k ≡ false → key ≡ own → b ≡ false
other_at k key own true e apart is =
    let same : k ≡ own = (key_Decides k own).0 e in
    let again : same_key key k ≡ true = (key_Decides key k).1 (is ∙ sym same) in
    cc
other_at k key own false e apart is = refl

-- a key that isn't this one isn't that of its authority
pub other_key : (k key own : Key) → same_key key k ≡ false → same_key key own ≡ true → same_key k own ≡ false
other_key k key own apart is = other_at k key own (same_key k own) refl apart ((key_Decides key own).0 is)

and_off : (a b : Bool) → a ≡ false → (a && b) ≡ false
and_off a b e = rw e refl

-- ---- by number

module _ (key : Key) (class : Class) (kind : Kind) (h : KeptField) where
  where_others : (test : Linkable → Bool) (all : List Linkable) → ((c : Linkable) → has_key key c ≡ true → test c ≡ false) →
      link_where test all class kind h ≡ link_where test (others_of key all) class kind h
  where_others test all off =
      ap (option_map (λ c. Link c (is_taken_whole class h c)))
      (find_others (λ c. test c && can_take class kind h c) (has_key key) all
      (each (λ c is. and_off (test c) (can_take class kind h c) (off c is)) all))
    where
      each : {A : Type 0} {P : A → Type 0} → ((x : A) → P x) → (xs : List A) → Each P xs
      each f [] = tt
      each f (x ∷ xs) = (f x, each f xs)

  awaited_others : (all : List Linkable) (o : Option Key) → option_map_or (same_key key) o false ≡ false →
      option_and_then (λ k. link_where (has_key k) all class kind h) o ≡ option_and_then (λ k. link_where (has_key k) (others_of key all) class kind h) o
  awaited_others all None e = refl
  awaited_others all (Some k) e = where_others (has_key k) all (λ c is. other_key k key c.key e is)

  named_others : (all : List Linkable) (subs : List Subfield) → list_any (is_naming key) subs ≡ false →
      by_first_name all class kind h subs ≡ by_first_name (others_of key all) class kind h subs
  named_others all [] e = refl
  named_others all (s ∷ subs) e =
      let both = or_false (is_naming key s) (list_any (is_naming key) subs) e in
      let first = where_others (λ c. is_naming c.key s) all
      (λ c is. ap (λ (k : Key). is_naming k s) (sym ((key_Decides key c.key).0 is)) ∙ both.0) in
      let rest = named_others all subs both.1 in
      ap (λ o. option_or o (by_first_name all class kind h subs)) first
      ∙ ap (λ o. option_or (link_where (λ c. is_naming c.key s) (others_of key all) class kind h) o) rest

  number_others : (all : List Linkable) → names_key key h ≡ false → by_number all class kind h ≡ by_number (others_of key all) class kind h
  unfolding by_number
  number_others all e =
      let both = or_false (list_any (is_naming key) (subfields_of h.field)) (awaits_key key h) e in
      ap (λ o. option_or o (by_first_name all class kind h (subfields_of h.field))) (awaited_others all h.tie.awaits both.1)
      ∙ ap (λ o. option_or (by_awaited (others_of key all) class kind h) o) (named_others all (subfields_of h.field) both.0)

-- ---- by form

-- none of the key's authorities has the form
abbrev pub HasNot : Key → Form → Linkable → Type 0
HasNot key form c = has_key key c ≡ true → is_form_among (forms_of c) form ≡ false

form_others : (key : Key) (whole : Bool) (form : Form) (list : List Linkable) → Each (HasNot key form) list →
    by_form list whole form ≡ by_form (others_of key list) whole form
unfolding by_form
form_others key whole form list none =
    let E = λ (c : Linkable). has_key key c ≡ true → is_established form c ≡ false in
    let S = λ (c : Linkable). has_key key c ≡ true → is_see_from_form form c ≡ false in
    let established = filter_others (is_established form) (has_key key) list
    (each_weaker (HasNot key form) E (λ c n is. (or_false (is_established form c) (is_see_from_form form c) (n is)).0) list none) in
    let traced = filter_others (is_see_from_form form) (has_key key) list
    (each_weaker (HasNot key form) S (λ c n is. (or_false (is_established form c) (is_see_from_form form c) (n is)).1) list none) in
    ap (λ l. option_or (choice_among whole l) (choice_among whole (filter (is_see_from_form form) list))) established
    ∙ ap (λ l. option_or (choice_among whole (filter (is_established form) (others_of key list))) (choice_among whole l)) traced

pub any_append : {A : Type 0} (p : A → Bool) (xs ys : List A) → list_any p (xs ++ ys) ≡ (list_any p xs || list_any p ys)
any_append p [] ys = refl
any_append p (x ∷ xs) ys = at (p x) (list_any p (xs ++ ys)) (list_any p xs) (any_append p xs ys)
  where
    at : (a b c : Bool) → b ≡ (c || list_any p ys) → (a || b) ≡ ((a || c) || list_any p ys)
    at true b c e = refl
    at false b c e = e

-- a form that is looked up is none of these
full_at : (forms : List Form) (form : Form) (takes : Bool) (rest : List Form) → takes ≡ true →
    list_any (is_form_among forms) ((if takes then form ∷ [] else []) ++ rest) ≡ false → is_form_among forms form ≡ false
full_at forms form true rest t e = (or_false (is_form_among forms form) (list_any (is_form_among forms) rest) e).0
full_at forms form false rest t e = cc

pub full_asked : (forms : List Form) (class : Class) (kind : Kind) (h : KeptField) → asks_for forms class kind h ≡ false → takes_subdivisions class h ≡ true →
    is_form_among forms (full_form kind class h.field) ≡ false
unfolding asked_forms
full_asked forms class kind h e t = full_at forms (full_form kind class h.field) (takes_subdivisions class h) _ t e

same_among : (forms : List Form) (form full : Form) → same_form form full ≡ true → is_form_among forms full ≡ false → is_form_among forms form ≡ false
same_among forms form full same e = ap (is_form_among forms) ((form_Decides form full).0 same) ∙ e

base_kept : (forms : List Form) (form : Form) (b : Bool) → list_any (is_form_among forms) (cond (not b) (form ∷ []) []) ≡ false → (b ≡ true → is_form_among forms form ≡ false) →
    is_form_among forms form ≡ false
base_kept forms form true e known = known refl
base_kept forms form false e known = (or_false (is_form_among forms form) false e).0

base_at : (forms : List Form) (form full : Form) (takes : Bool) →
    list_any (is_form_among forms) ((if takes then full ∷ [] else []) ++ filter (λ f. not (is_form_among (if takes then full ∷ [] else []) f)) (form ∷ [])) ≡ false →
    is_form_among forms form ≡ false
base_at forms form full true e =
    let both = or_false (is_form_among forms full) (list_any (is_form_among forms) (filter (λ f. not (is_form_among (full ∷ []) f)) (form ∷ []))) e in
    base_kept forms form (is_form_among (full ∷ []) form) both.1 (λ same. same_among forms form full (once (same_form form full) same) both.0)
  where
    once : (b : Bool) → (b || false) ≡ true → b ≡ true
    once true e = refl
    once false e = e
base_at forms form full false e = (or_false (is_form_among forms form) false e).0

pub base_asked : (forms : List Form) (class : Class) (kind : Kind) (h : KeptField) → asks_for forms class kind h ≡ false → asks_base class h ≡ true →
    is_form_among forms (base_form kind h.field) ≡ false
unfolding asked_forms
base_asked forms class kind h e t =
    base_at forms (base_form kind h.field) (full_form kind class h.field) (takes_subdivisions class h)
    (ap (λ (b : Bool). list_any (is_form_among forms) (asked_full class kind h ++ filter (λ f. not (is_form_among (asked_full class kind h) f)) (if b then base_form kind h.field ∷ [] else []))) (sym t) ∙ e)

full_others : (key : Key) (all : List Linkable) (class : Class) (kind : Kind) (h : KeptField) (takes : Bool) → takes_subdivisions class h ≡ takes → Each (IsUnasked key class kind h) all →
    (if takes then by_form all true (full_form kind class h.field) else None) ≡ (if takes then by_form (others_of key all) true (full_form kind class h.field) else None)
full_others key all class kind h false t none = refl
full_others key all class kind h true t none =
    form_others key true (full_form kind class h.field) all
    (each_weaker (IsUnasked key class kind h) (HasNot key (full_form kind class h.field)) (λ c n is. full_asked (forms_of c) class kind h (n is) t) all none)

base_others : (key : Key) (all : List Linkable) (class : Class) (kind : Kind) (h : KeptField) (asks : Bool) → asks_base class h ≡ asks → Each (IsUnasked key class kind h) all →
    (if asks then by_form (filter is_bare all) false (base_form kind h.field) else None) ≡ (if asks then by_form (filter is_bare (others_of key all)) false (base_form kind h.field) else None)
base_others key all class kind h false t none = refl
base_others key all class kind h true t none =
    let form = base_form kind h.field in
    form_others key false form (filter is_bare all)
    (each_weaker (λ c. IsUnasked key class kind h c × (is_bare c ≡ true)) (HasNot key form) (λ c n is. base_asked (forms_of c) class kind h (n.0 is) t) (filter is_bare all)
    (each_filter (IsUnasked key class kind h) is_bare all none))
    ∙ ap (λ l. by_form l false form) (filter_swap (λ c. not (has_key key c)) is_bare all)

-- the choice over the authorities without a key is the choice over all
pub choice_stays : (key : Key) (all : List Linkable) (class : Class) (kind : Kind) (h : KeptField) → Each (IsUnasked key class kind h) all → names_key key h ≡ false →
    choice all class kind h ≡ choice (others_of key all) class kind h
unfolding choice
choice_stays key all class kind h none unnamed =
    let number = number_others key class kind h all unnamed in
    let full = full_others key all class kind h (takes_subdivisions class h) refl none in
    let base = base_others key all class kind h (asks_base class h) refl none in
    ap (λ o. unwrap_or (option_or o (option_or (by_full_form all class kind h) (by_base_form all class kind h))) Unlinked) number
    ∙ ap (λ o. unwrap_or (option_or (by_number (others_of key all) class kind h) (option_or o (by_base_form all class kind h))) Unlinked) full
    ∙ ap (λ o. unwrap_or (option_or (by_number (others_of key all) class kind h) (option_or (by_full_form (others_of key all) class kind h) o)) Unlinked) base

-- the same, of all of a list
pub choice_without : (key : Key) (all : List Linkable) (class : Class) (kind : Kind) (h : KeptField) → All (IsUnasked key class kind h) all → names_key key h ≡ false →
    choice all class kind h ≡ choice (others_of key all) class kind h
choice_without key all class kind h none unnamed = choice_stays key all class kind h (recursion_from_All (IsUnasked key class kind h) all none) unnamed
