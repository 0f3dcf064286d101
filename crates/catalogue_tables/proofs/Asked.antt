-- The choice for a field that waits, by the numbers of its row.
use Rattle.std.proofs.Common.{◌≡◌, ◌∙◌, sym, ap, refl, List, [], ◌∷◌, ℕ, Bool, true, false, ◌||◌, cond, Option, Some, None, if◌then◌else◌}
use Rattle.std.specs.Prelude.{◌==◌, ◌&&◌, is_some, option_and_then}
use Rattle.std.specs.List.{list_any}
use Rattle.std.specs.Option.{option_map, option_map_or, option_or}
use mathlib.Core.Bool.{false≢true}
use Rattle.marc_types.specs.Fields.{subfields_of}
use Rattle.marc_types.specs.Order.{key_Decides, same_key}
use Rattle.marc_types.specs.declared.field.Field.{Field}
use Rattle.marc_types.specs.declared.field.Subfield.{Subfield}
use Rattle.marc_types.specs.declared.form.Form.{Form}
use Rattle.marc_types.specs.declared.form.Kind.{Kind}
use Rattle.marc_types.specs.declared.key.Class.{Class}
use Rattle.marc_types.specs.declared.key.Key.{Key}
use Rattle.form_index.specs.Index.{Indexed}
use Rattle.heading_fields.specs.Numbers.{is_naming, without_blanks}
use Rattle.heading_fields.specs.Tables.{kind_of}
use Rattle.entry_record.specs.Authority.{Linkable, has_form, heading_kind, is_left_parenthesis, is_valid_key, key_of_text, key_split_at_parenthesis, option_filter}
use Rattle.catalogue_rules.specs.Choice.{choice, takes_subdivisions}
use Rattle.catalogue_rules.specs.State.{KeptField}
use Rattle.linking_laws.proofs.Naming.{naming_is}
use Rattle.catalogue_tables.specs.Asked.{NamesNone}
use Rattle.catalogue_tables.specs.Choosing.{chosen_for, first_taker, heading_choice, key_named, taker_by_number, taker_under}
use Rattle.catalogue_tables.specs.declared.choosing.Chosen.{Chosen}

-- ---- where no `$0` names a key, nobody takes the field by number

passed : (test : Key → Bool) (b : Bool) (split key : Key) → (if b then option_filter test (Some split) else None) ≡ Some key → test key ≡ true
passed test b split key e = by b (test split) refl e
  where
    by : (b c : Bool) → test split ≡ c → cond b (cond c (Some split) None) None ≡ Some key → test key ≡ true
    by true true is e = let same : split ≡ key = cc in ap test (sym same) ∙ is
    by true false is e = cc
    by false c is e = cc

read_valid : (text : List ℕ) (key : Key) → key_of_text text ≡ Some key → is_valid_key key ≡ true
unfolding key_of_text
read_valid [] key e = cc
read_valid (b ∷ text) key e = passed is_valid_key (is_left_parenthesis b) (key_split_at_parenthesis text) key e

none_read : (sub : Subfield) → ((key : Key) → is_valid_key key ≡ true → is_naming key sub ≡ false) → key_named sub ≡ None
none_read sub none = by (sub.code == 48) (key_of_text (without_blanks sub.text)) refl refl
  where
    by : (b : Bool) (o : Option Key) → (sub.code == 48) ≡ b → key_of_text (without_blanks sub.text) ≡ o → cond b o None ≡ None
    by false o coded reads = refl
    by true None coded reads = refl
    by true (Some key) coded reads =
        let valid = read_valid (without_blanks sub.text) key reads in
        absurd (false≢true (sym (none key valid) ∙ naming_is key sub valid
        ∙ ap (λ d. d && option_map_or (same_key key) (key_of_text (without_blanks sub.text)) false) coded
        ∙ ap (λ o. option_map_or (same_key key) o false) reads ∙ (key_Decides key key).1 refl))

pub or_first : (a b : Bool) → (a || b) ≡ false → a ≡ false
or_first true b e = cc
or_first false b e = refl

or_second : (a b : Bool) → (a || b) ≡ false → b ≡ false
or_second true b e = cc
or_second false b e = e

module _ (names : List Form) (keys : List Key) (x : Indexed) (kind : Kind) (takes : Bool) where
  none_takes : (subs : List Subfield) → ((key : Key) → is_valid_key key ≡ true → list_any (is_naming key) subs ≡ false) → first_taker names keys x kind takes subs ≡ None
  none_takes [] none = refl
  none_takes (sub ∷ subs) none =
      ap (λ o. option_or (option_and_then (taker_under names keys x kind takes) o) (first_taker names keys x kind takes subs))
      (none_read sub (λ key valid. or_first (is_naming key sub) (list_any (is_naming key) subs) (none key valid)))
      ∙ none_takes subs (λ key valid. or_second (is_naming key sub) (list_any (is_naming key) subs) (none key valid))

pub nobody_named : (names : List Form) (keys : List Key) (x : Indexed) (class : Class) (kind : Kind) (h : KeptField) → h.tie.awaits ≡ None → NamesNone h
    → None ≡ taker_by_number names keys x class kind h
nobody_named names keys x class kind h awaits none =
    sym (ap (λ o. option_or (option_and_then (taker_under names keys x kind (takes_subdivisions class h)) o) (first_taker names keys x kind (takes_subdivisions class h) (subfields_of h.field))) awaits
    ∙ none_takes names keys x kind (takes_subdivisions class h) (subfields_of h.field) none)

-- ---- the kind of a heading

pub tag_kind : (class : Class) (f : Field) (kind : Kind) → heading_kind class f ≡ Some kind → kind_of class f ≡ Some kind
unfolding heading_kind
tag_kind class f kind e = by (kind_of class f) e
  where
    of : (k : Kind) (b : Bool) → cond b (Some k) None ≡ Some kind → Some k ≡ Some kind
    of k true e = e
    of k false e = cc

    by : (o : Option Kind) → option_filter (has_form f) o ≡ Some kind → o ≡ Some kind
    by None e = e
    by (Some k) e = of k (has_form f k) e

pub none_there : (o : Option Key) → is_some o ≡ false → o ≡ None
none_there None e = refl
none_there (Some key) e = cc

-- the kind that was found is the one that the heading has
pub other_kind : (kind : Kind) (found : Option Kind) → found ≡ None → found ≡ Some kind → (A : Type 0) → A
other_kind kind found none is A = let both : None ≡ Some kind = sym none ∙ is in cc

pub the_kind : (own kind : Kind) (found : Option Kind) → found ≡ Some own → found ≡ Some kind → own ≡ kind
the_kind own kind found first second = let both : Some own ≡ Some kind = sym first ∙ second in cc

pub heading_chosen : (keys : List Key) (all : List Linkable) (class : Class) (h : KeptField) (kind : Kind) (c : Chosen) → heading_kind class h.field ≡ Some kind
    → c ≡ chosen_for keys (choice all class kind h) → Some c ≡ option_map (chosen_for keys) (heading_choice all class h)
heading_chosen keys all class h kind c is chosen =
    ap (λ (d : Chosen). Some d) chosen ∙ ap (λ (o : Option Kind). option_map (chosen_for keys) (option_map (λ k. choice all class k h) o)) (sym is)
