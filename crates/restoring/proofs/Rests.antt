-- When a field rests: a linked one under its authority's heading, an unlinked one where its choice is no link.
use Rattle.std.proofs.Common.{◌≡◌, ◌≢◌, ◌∙◌, sym, ap, refl, subst, arith, Bool, true, false, not, List, [], ◌∷◌, Option, Some, None}
use Rattle.std.specs.Prelude.{◌&&◌, ◌||◌, cond, filter, find, is_some, IfSome}
use Rattle.std.specs.Bool.{Decides}
use Rattle.std.specs.List.{list_any}
use Rattle.std.specs.Option.{option_map, option_map_or}
use Rattle.std.proofs.lemmas.Bool.{and_parts}
use Rattle.std.proofs.lemmas.List.Elements.{recursion_from_All}
use mathlib.Core.Bool.{false≢true}
use Rattle.marc_types.specs.Fields.{subfields_of, tag_of}
use Rattle.marc_types.specs.Order.{key_Decides}
use Rattle.marc_types.specs.declared.entry.Tie.{Tie}
use Rattle.marc_types.specs.declared.field.Field.{Field}
use Rattle.marc_types.specs.declared.field.Tag.{Tag}
use Rattle.marc_types.specs.declared.form.Kind.{Kind}
use Rattle.marc_types.specs.declared.key.Class.{Class}
use Rattle.marc_types.specs.declared.key.Class.TheVariants.{Authority}
use Rattle.marc_types.specs.declared.key.Key.{Key}
use Rattle.heading_fields.specs.Parts.{base_part, is_part, part, region}
use Rattle.heading_fields.specs.Rewriting.{rewriting}
use Rattle.heading_fields.specs.Tables.{is_subdividable, kind_of}
use Rattle.heading_fields.proofs.Fieldlaws.{base_part_rewriting}
use Rattle.entry_record.specs.Authority.{Linkable, has_form, heading_kind, is_bare, is_heading_field, is_kind, option_filter, same_kind}
use Rattle.catalogue_rules.specs.Choice.{Choice, Link, Ambiguous, Unlinked, choice, has_key}
use Rattle.catalogue_rules.specs.Settle.{keeps_link}
use Rattle.catalogue_rules.specs.State.{KeptField, State, linkable_authorities, new_tie}
use Rattle.catalogue_rules.specs.Valid.{IsLink, IsNoLink, IsRewritten, IsRewrittenFrom, IsRow}
use Rattle.catalogue_rules.proofs.Elements.{Each, each_anything, find_found}
use Rattle.catalogue_rules.proofs.Fit.{IsFit, same_kind_is}
use Rattle.catalogue_rules.proofs.Proper.{all_fit}
use Rattle.catalogue_rules.proofs.Reach.{heading_of_kind}
use Rattle.catalogue_rules.specs.Sameness.{same_kept}
use Rattle.linking_laws.specs.Middle.{AreAuthoritiesInOrder}
use Rattle.linking_laws.proofs.Sames.{kept_Decides}
use Rattle.field_settling.specs.Held.{linked_by}
use Rattle.kept_rows.specs.Standing.{DoesRest}
use Rattle.linked_store.specs.Holding.{can_be_heading}
use Rattle.linked_store.proofs.Holding.{no_kind}
use Rattle.catalogue_tables.specs.Choosing.{chosen_for, heading_choice}
use Rattle.catalogue_tables.specs.declared.choosing.Chosen.{Chosen}
use Rattle.restoring.specs.Resting.{CanHave, RestsUnder, heading_given, is_plain, is_whole_rightly, plain_rests, rests_by}

-- a whole field takes subdivisions
abbrev IsWholeRightly : Class → KeptField → Type 0
IsWholeRightly class h = h.tie.whole ≡ true → is_subdividable class (tag_of h.field) ≡ true

some_same : {T : Type 0} (x y : T) → Some x ≡ Some y → x ≡ y
some_same x y e = cc

-- ---- tests

not_so : (b : Bool) → not b ≡ true → b ≡ false
not_so true e = absurd (false≢true e)
not_so false e = refl

some_none : {T : Type 0} (o : Option T) → is_some o ≡ false → o ≡ None
some_none None e = refl
some_none (Some x) e = absurd (false≢true (sym e))

either_whole : (w s : Bool) → (not w || s) ≡ true → w ≡ true → s ≡ true
either_whole true s e w = e
either_whole false s e w = absurd (false≢true w)

whole_either : (w s : Bool) → (w ≡ true → s ≡ true) → (not w || s) ≡ true
whole_either true s f = f refl
whole_either false s f = refl

pub rightly : (class : Class) (h : KeptField) → is_whole_rightly class (tag_of h.field) h.tie ≡ true → IsWholeRightly class h
rightly class h e = either_whole h.tie.whole (is_subdividable class (tag_of h.field)) e

-- ---- the base part

some_at : {T : Type 0} (x : T) (xs : List T) (b any : Bool) → (any ≡ true → xs ≢ []) → (b || any) ≡ true → cond b (x ∷ xs) xs ≢ []
some_at x xs true any rest e none = cc
some_at x xs false any rest e none = rest e none

any_at : {T : Type 0} (x : T) (xs : List T) (b any : Bool) → (xs ≢ [] → any ≡ true) → cond b (x ∷ xs) xs ≢ [] → (b || any) ≡ true
any_at x xs true any rest some = refl
any_at x xs false any rest some = rest some

any_some : {T : Type 0} (test : T → Bool) (xs : List T) → list_any test xs ≡ true → filter test xs ≢ []
any_some test [] e = absurd (false≢true e)
any_some test (x ∷ xs) e = some_at x (filter test xs) (test x) (list_any test xs) (any_some test xs) e

some_any : {T : Type 0} (test : T → Bool) (xs : List T) → filter test xs ≢ [] → list_any test xs ≡ true
some_any test [] some = absurd (some refl)
some_any test (x ∷ xs) some = any_at x (filter test xs) (test x) (list_any test xs) (some_any test xs) some

pub has_part : (told : Bool) (kind : Kind) (f : Field) → told ≡ list_any (is_part false kind) (region false (subfields_of f)) → Decides told (base_part kind f ≢ [])
unfolding part
has_part told kind f e = (
  λ is. any_some (is_part false kind) (region false (subfields_of f)) (sym e ∙ is),
  λ some. e ∙ some_any (is_part false kind) (region false (subfields_of f)) some,
)

-- ---- the kind

kind_by : (kind : Kind) (o : Option Kind) → is_kind kind o ≡ true → o ≡ Some kind
kind_by kind None e = cc
kind_by kind (Some k) e = ap (λ (x : Kind). Some x) (sym (same_kind_is kind k e))

kind_alike : (kind : Kind) → same_kind kind kind ≡ true
kind_alike kind = grind arith

kind_at : (kind : Kind) (o : Option Kind) → o ≡ Some kind → is_kind kind o ≡ true
kind_at kind o e = ap (is_kind kind) e ∙ kind_alike kind

form_by_part : (f g : Field) (kind : Kind) → base_part kind f ≡ base_part kind g → has_form f kind ≡ has_form g kind
unfolding has_form
form_by_part f g kind e = rw e refl

heading_by : (class : Class) (f : Field) (kind : Kind) → kind_of class f ≡ Some kind → has_form f kind ≡ true → heading_kind class f ≡ Some kind
unfolding heading_kind
heading_by class f kind e formed = by (kind_of class f) e
  where
    by : (o : Option Kind) → o ≡ Some kind → option_filter (has_form f) o ≡ Some kind
    by o e = rw (e, formed) refl

-- ---- a linked field

module _ (all : List Linkable) (class : Class) (h : KeptField) (key : Key) (c : Linkable) (linked : h.tie.key ≡ Some key) (found : find (has_key key) all ≡ Some c) (fit : IsFit all c) where
  key_is : key ≡ c.key
  key_is = (key_Decides key c.key).0 (find_found (λ (x : Linkable). Unit {0}) (has_key key) all c (each_anything all) found).1

  keeps_by : keeps_link all class h key ≡ ((h.tie.whole || is_bare c) && is_kind c.kind (kind_of class h.field))
  keeps_by = ap (λ (o : Option Linkable). option_map_or (λ (d : Linkable). (h.tie.whole || is_bare d) && is_kind d.kind (kind_of class h.field)) o false) found

  module _ (rests : RestsUnder class h key (heading_given c)) where
    rewritten_so : rewriting h.field c.kind class c.heading key h.tie.whole ≡ h.field
    rewritten_so = ap (λ (k : KeptField). k.field) rests.same

    own_kind : kind_of class h.field ≡ Some c.kind
    own_kind = kind_by c.kind (kind_of class h.field) rests.can_have.kind

    formed : has_form h.field c.kind ≡ true
    formed =
        form_by_part h.field c.heading c.kind
        (ap (base_part c.kind) (sym rewritten_so) ∙ base_part_rewriting h.field c.kind class c.heading key h.tie.whole rests.can_have.headed)
        ∙ fit.formed

    heads : is_heading_field class h.field ≡ true
    heads = ap is_some (heading_by class h.field c.kind own_kind formed)

    unawaiting : h.tie.awaits ≡ None
    unawaiting = sym (ap (λ (k : KeptField). k.tie.awaits) rests.same)

    kept : keeps_link all class h key ≡ true
    kept = keeps_by ∙ (rw (rests.can_have.bare, rests.can_have.kind) refl)

    link : IsLink all class h key
    link = record { heading = heads; kept = kept; unawaiting = unawaiting }

    from_authority : IsRewrittenFrom class h c
    from_authority = ap (λ (k : Key). rewriting h.field c.kind class c.heading k h.tie.whole) (sym key_is) ∙ rewritten_so

    pub under_rests : IsWholeRightly class h → DoesRest all class h
    under_rests whole = record {
      tied = record {
        linked = subst (λ (o : Option Key). IfSome o (IsLink all class h)) (sym linked) link;
        awaits = λ awaits. heads;
        whole = whole;
      };
      rewritten = subst (λ (o : Option Key). IfSome o (λ k. IfSome (find (has_key k) all) (IsRewrittenFrom class h))) (sym linked)
          (subst (λ (o : Option Linkable). IfSome o (IsRewrittenFrom class h)) (sym found) from_authority);
      settled = λ none. let clash : Some key ≡ None = sym linked ∙ none in cc;
    }

  module _ (rests : DoesRest all class h) where
    link_there : IsLink all class h key
    link_there = subst (λ (o : Option Key). IfSome o (IsLink all class h)) linked rests.tied.linked

    kept_both : ((h.tie.whole || is_bare c) ≡ true) × (is_kind c.kind (kind_of class h.field) ≡ true)
    kept_both = and_parts (h.tie.whole || is_bare c) (is_kind c.kind (kind_of class h.field)) (sym keeps_by ∙ link_there.kept)

    headed_by : (o : Option Kind) → heading_kind class h.field ≡ o → is_some o ≡ true → base_part c.kind h.field ≢ []
    headed_by None e some = cc
    headed_by (Some k) e some =
        let own = heading_of_kind class h.field k e in
        let same : k ≡ c.kind = some_same k c.kind (sym own.kind_is ∙ kind_by c.kind (kind_of class h.field) kept_both.1) in
        subst (λ (x : Kind). base_part x h.field ≢ []) same own.some

    rewritten_there : IsRewrittenFrom class h c
    rewritten_there =
        subst (λ (o : Option Linkable). IfSome o (IsRewrittenFrom class h)) found
        (subst (λ (o : Option Key). IfSome o (λ k. IfSome (find (has_key k) all) (IsRewrittenFrom class h))) linked rests.rewritten)

    field_so : rewriting h.field c.kind class c.heading key h.tie.whole ≡ h.field
    field_so = ap (λ (k : Key). rewriting h.field c.kind class c.heading k h.tie.whole) key_is ∙ rewritten_there

    pub rests_under : RestsUnder class h key (heading_given c)
    rests_under = record {
      can_have = record { kind = kept_both.1; headed = headed_by (heading_kind class h.field) refl link_there.heading; bare = kept_both.0 };
      same = λ i. record { field = field_so i; tie = record { key = sym linked i; whole = h.tie.whole; awaits = sym link_there.unawaiting i } };
    }

-- linked to the heading anew, the field is the one that stands, or it isn't
pub linked_anew : (class : Class) (h : KeptField) (key : Key) (heading : Kind × Field) (made : KeptField) (told : Bool) → CanHave class h heading
    → made ≡ linked_by class h.field h.tie.whole key heading.0 heading.1 → told ≡ same_kept h made → Decides told (RestsUnder class h key heading)
linked_anew class h key heading made told can is e = (
  λ on. record { can_have = can; same = sym is ∙ sym ((kept_Decides h made).0 (sym e ∙ on)) },
  λ (rests : RestsUnder class h key heading). e ∙ (kept_Decides h made).1 (sym rests.same ∙ sym is),
)

-- a field that is linked to nobody doesn't rest
pub nobody_rests : (all : List Linkable) (class : Class) (h : KeptField) (key : Key) → h.tie.key ≡ Some key → find (has_key key) all ≡ None → DoesRest all class h → ⊥
nobody_rests all class h key linked nobody rests =
    let link : IsLink all class h key = subst (λ (o : Option Key). IfSome o (IsLink all class h)) linked rests.tied.linked in
    false≢true (sym (ap (λ (o : Option Linkable). option_map_or (λ (d : Linkable). (h.tie.whole || is_bare d) && is_kind d.kind (kind_of class h.field)) o false) nobody) ∙ link.kept)

module _ (s : State) (order : AreAuthoritiesInOrder s) (class : Class) (h : KeptField) (key : Key) (linked : h.tie.key ≡ Some key) where
  abbrev authorities : List Linkable
  authorities = linkable_authorities s

  fits : Each (IsFit authorities) authorities
  fits = all_fit s.authorities order.ascend (recursion_from_All (IsRow Authority) s.authorities order.rows)

  pub link_decides : (heading : Kind × Field) (told : Bool) → is_whole_rightly class (tag_of h.field) h.tie ≡ true
      → Some heading ≡ option_map heading_given (find (has_key key) authorities) → Decides told (RestsUnder class h key heading) → Decides told (DoesRest authorities class h)
  link_decides heading told whole is decides = by (find (has_key key) authorities) refl is
    where
      by : (o : Option Linkable) → find (has_key key) authorities ≡ o → Some heading ≡ option_map heading_given o → Decides told (DoesRest authorities class h)
      by None found is = cc
      by (Some c) found is =
          let same : heading ≡ heading_given c = some_same heading (heading_given c) is in
          let fit : IsFit authorities c = (find_found (IsFit authorities) (has_key key) authorities c fits found).0 in
          let so : Decides told (RestsUnder class h key (heading_given c)) = subst (λ (x : Kind × Field). Decides told (RestsUnder class h key x)) same decides in (
            λ on. under_rests authorities class h key c linked found fit (so.0 on) (rightly class h whole),
            λ rests. so.1 (rests_under authorities class h key c linked found fit rests),
          )

  pub nobody_decides : None ≡ option_map heading_given (find (has_key key) authorities) → Decides false (DoesRest authorities class h)
  nobody_decides is = (λ on. absurd (false≢true on), λ rests. absurd (nobody_rests authorities class h key linked (by (find (has_key key) authorities) is) rests))
    where
      by : (o : Option Linkable) → None ≡ option_map heading_given o → o ≡ None
      by None e = refl
      by (Some c) e = cc

-- ---- an unlinked field

module _ (all : List Linkable) (class : Class) (h : KeptField) (unlinked : h.tie.key ≡ None) where
  unlinked_tied : IfSome h.tie.key (IsLink all class h)
  unlinked_tied = subst (λ (o : Option Key). IfSome o (IsLink all class h)) (sym unlinked) tt

  unlinked_rewritten : IsRewritten all class h
  unlinked_rewritten = subst (λ (o : Option Key). IfSome o (λ k. IfSome (find (has_key k) all) (IsRewrittenFrom class h))) (sym unlinked) tt

  -- no heading: it rests where it awaits nothing
  module _ (none : heading_kind class h.field ≡ None) where
    pub headless_rests : IsWholeRightly class h → is_some h.tie.awaits ≡ false → DoesRest all class h
    headless_rests whole free = record {
      tied = record { linked = unlinked_tied; awaits = λ awaits. absurd (false≢true (sym free ∙ awaits)); whole = whole };
      rewritten = unlinked_rewritten;
      settled = λ e. subst (λ (o : Option Kind). IfSome o (λ kind. IsNoLink (choice all class kind h))) (sym none) tt;
    }

    pub headless_free : DoesRest all class h → is_some h.tie.awaits ≡ false
    headless_free rests = by (is_some h.tie.awaits) rests.tied.awaits
      where
        by : (b : Bool) → (b ≡ true → is_heading_field class h.field ≡ true) → b ≡ false
        by true so = absurd (false≢true (sym (ap is_some none) ∙ so refl))
        by false so = refl

  -- a heading
  module _ (kind : Kind) (is : heading_kind class h.field ≡ Some kind) where
    pub headed_rests : IsWholeRightly class h → IsNoLink (choice all class kind h) → DoesRest all class h
    headed_rests whole settled = record {
      tied = record { linked = unlinked_tied; awaits = λ awaits. ap is_some is; whole = whole };
      rewritten = unlinked_rewritten;
      settled = λ e. subst (λ (o : Option Kind). IfSome o (λ k. IsNoLink (choice all class k h))) (sym is) settled;
    }

    pub headed_settled : DoesRest all class h → IsNoLink (choice all class kind h)
    headed_settled rests = subst (λ (o : Option Kind). IfSome o (λ k. IsNoLink (choice all class k h))) is (rests.settled unlinked)

  -- ---- by the choice in numbers

  abbrev made : List Key → Option Kind → Option Chosen
  made keys o = option_map (chosen_for keys) (option_map (λ kind. choice all class kind h) o)

  no_link : (keys : List Key) (x : Choice) → rests_by (Some (chosen_for keys x)) h.tie ≡ true → IsNoLink x
  no_link keys (Link c whole) e = absurd (false≢true e)
  no_link keys (Ambiguous found) e = tt
  no_link keys Unlinked e = tt

  link_no : (keys : List Key) (x : Choice) → IsNoLink x → rests_by (Some (chosen_for keys x)) h.tie ≡ true
  link_no keys (Link c whole) none = absurd none
  link_no keys (Ambiguous found) none = refl
  link_no keys Unlinked none = refl

  pub choice_decides : (keys : List Key) (given : Option Chosen) (told : Bool) → is_whole_rightly class (tag_of h.field) h.tie ≡ true
      → given ≡ option_map (chosen_for keys) (heading_choice all class h) → told ≡ rests_by given h.tie → Decides told (DoesRest all class h)
  choice_decides keys given told whole is e = by (heading_kind class h.field) refl (e ∙ ap (λ (o : Option Chosen). rests_by o h.tie) is)
    where
      by : (o : Option Kind) → heading_kind class h.field ≡ o → told ≡ rests_by (made keys o) h.tie → Decides told (DoesRest all class h)
      by None none e = (
        λ on. headless_rests none (rightly class h whole) (not_so (is_some h.tie.awaits) (sym e ∙ on)),
        λ rests. e ∙ ap not (headless_free none rests),
      )
      by (Some kind) is e = (
        λ on. headed_rests kind is (rightly class h whole) (no_link keys (choice all class kind h) (sym e ∙ on)),
        λ rests. e ∙ link_no keys (choice all class kind h) (headed_settled kind is rests),
      )

-- ---- a field that is no heading by its tag

module _ (all : List Linkable) (class : Class) (h : KeptField) (plain : is_plain class (tag_of h.field) h.tie ≡ true) where
  both : (not (is_some h.tie.key) ≡ true) × (not (can_be_heading class (tag_of h.field)) ≡ true)
  both = and_parts (not (is_some h.tie.key)) (not (can_be_heading class (tag_of h.field))) plain

  without : h.tie.key ≡ None
  without = some_none h.tie.key (not_so (is_some h.tie.key) both.0)

  headless : heading_kind class h.field ≡ None
  headless = no_kind class h.field (not_so (can_be_heading class (tag_of h.field)) both.1)

  plain_decides : Decides (plain_rests class (tag_of h.field) h.tie) (DoesRest all class h)
  plain_decides = (
    λ e. let parts = and_parts (not (is_some h.tie.awaits)) (is_whole_rightly class (tag_of h.field) h.tie) e in
        headless_rests all class h without headless (rightly class h parts.1) (not_so (is_some h.tie.awaits) parts.0),
    λ rests. rw (headless_free all class h without headless rests) (whole_either h.tie.whole (is_subdividable class (tag_of h.field)) rests.tied.whole),
  )

-- ---- the field at a place of a record

module _ (all : List Linkable) (class : Class) where
  pub found_decides : (o : Option KeptField) (h : KeptField) (told : Bool) → Some h ≡ o → Decides told (DoesRest all class h) → Decides told (IfSome o (DoesRest all class))
  found_decides o h told e so = subst (λ (x : Option KeptField). Decides told (IfSome x (DoesRest all class))) e so

  pub plain_at : (o : Option KeptField) (tag : Tag) (tie : Tie) (plain told : Bool) → Some tag ≡ option_map (λ (h : KeptField). tag_of h.field) o
      → tie ≡ option_map_or (λ (h : KeptField). h.tie) o new_tie → plain ≡ is_plain class tag tie → plain ≡ true → told ≡ plain_rests class tag tie
      → Decides told (IfSome o (DoesRest all class))
  plain_at None tag tie plain told there own e is so = cc
  plain_at (Some h) tag tie plain told there own e is so =
      let tag_is : tag ≡ tag_of h.field = some_same tag (tag_of h.field) there in
      let is_so : is_plain class (tag_of h.field) h.tie ≡ true = sym (e ∙ λ i. is_plain class (tag_is i) (own i)) ∙ is in
      let told_so : told ≡ plain_rests class (tag_of h.field) h.tie = so ∙ λ i. plain_rests class (tag_is i) (own i) in
      subst (λ (b : Bool). Decides b (DoesRest all class h)) (sym told_so) (plain_decides all class h is_so)
