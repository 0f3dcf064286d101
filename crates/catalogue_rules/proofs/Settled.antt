-- What settling does to a field that is properly tied: it is tied, rewritten and settled, and its reach doesn't grow.
use Rattle.std.proofs.Common.{◌≡◌, ◌≤◌, Bool, true, false, ◌&&◌, ◌||◌, List, Option, Some, None, is_some, refl, sym, ap, ◌∙◌, arith}
use Rattle.std.specs.Prelude.{find, IfSome}
use Rattle.std.specs.Option.{option_map_or}
use Rattle.std.proofs.lemmas.Bool.{and_parts}
use Rattle.marc_types.specs.Order.{key_Decides}
use Rattle.marc_types.specs.declared.key.Class.{Class}
use Rattle.marc_types.specs.declared.key.Key.{Key}
use Rattle.marc_types.specs.declared.form.Kind.{Kind}
use Rattle.heading_fields.specs.Tables.{kind_of, is_subdividable}
use Rattle.marc_types.specs.Fields.{tag_of}
use Rattle.heading_fields.proofs.Fieldlaws.{rewriting_twice, tag_of_rewriting, kind_of_rewriting}
use Rattle.entry_record.specs.Authority.{Linkable, is_bare, same_kind, is_kind, heading_kind}
use Rattle.catalogue_rules.specs.State.{KeptField}
use Rattle.catalogue_rules.specs.Choice.{Choice, Link, Ambiguous, Unlinked, has_key, choice}
use Rattle.catalogue_rules.specs.Settle.{keeps_link, link_to, take_choice, settle_linked, settle_unlinked, settle_field}
use Rattle.catalogue_rules.specs.Valid.{IsLink, IsTied, IsRewritten, IsNoLink, IsSettled, reach}
use Rattle.catalogue_rules.proofs.Elements.{Each, find_found}
use Rattle.catalogue_rules.proofs.Fit.{IsFit, IsGood, IfLink, good_choice, same_kind_is}
use Rattle.catalogue_rules.proofs.Reach.{heading_of_kind, kind_rewritten, reach_rewritten, reach_chosen}

-- a field after settling, beside what it was before
pub record IsDone (all : List Linkable) (class : Class) (before now : KeptField) : Type 0 where
  pub tied : IsTied all class now
  pub rewritten : IsRewritten all class now
  pub settled : IsSettled all class now
  pub within : reach class now ≤ reach class before

same_kind_refl : (kind : Kind) → same_kind kind kind ≡ true
same_kind_refl kind = grind arith

-- a link to an authority, as a valid state has it
record IsFirm (all : List Linkable) (class : Class) (h : KeptField) (whole : Bool) (c : Linkable) : Type 0 where
  fit : IsFit all c
  kind_is : heading_kind class h.field ≡ Some c.kind
  bare : (whole || is_bare c) ≡ true
  takes : whole ≡ true → is_subdividable class (tag_of h.field) ≡ true

link_kept : (all : List Linkable) (class : Class) (g : KeptField) (c : Linkable) → find (has_key c.key) all ≡ Some c → (g.tie.whole || is_bare c) ≡ true →
    kind_of class g.field ≡ Some c.kind → keeps_link all class g c.key ≡ true
link_kept all class g c found bare kind = rw (found, bare, kind) (same_kind_refl c.kind)

tied_firm : (all : List Linkable) (class : Class) (h : KeptField) (whole : Bool) (c : Linkable) → IsFirm all class h whole c → IsTied all class (link_to class h whole c)
tied_firm all class h whole c f =
    let g = link_to class h whole c in
    let own = heading_of_kind class h.field c.kind f.kind_is in
    let still = kind_rewritten all class h.field c whole f.fit f.kind_is in
    record {
      linked = record {
        heading = rw still refl;
        kept = link_kept all class g c f.fit.found f.bare (kind_of_rewriting h.field c.kind class c.heading c.key whole class ∙ own.kind_is);
        unawaiting = refl;
      };
      awaits = λ e. cc;
      whole = λ e. ap (is_subdividable class) (tag_of_rewriting h.field c.kind class c.heading c.key whole) ∙ f.takes e;
    }

rewritten_firm : (all : List Linkable) (class : Class) (h : KeptField) (whole : Bool) (c : Linkable) → IsFirm all class h whole c → IsRewritten all class (link_to class h whole c)
rewritten_firm all class h whole c f =
    rw f.fit.found (rewriting_twice h.field c.kind class c.heading c.key whole f.fit.blankless f.fit.heading_part)

done_firm : (all : List Linkable) (class : Class) (h : KeptField) (whole : Bool) (c : Linkable) → IsFirm all class h whole c →
    reach class (link_to class h whole c) ≤ reach class h → IsDone all class h (link_to class h whole c)
done_firm all class h whole c f r = record {
  tied = tied_firm all class h whole c f;
  rewritten = rewritten_firm all class h whole c f;
  settled = λ e. cc;
  within = r;
}

-- ---- a linked field

-- the authority that keeps a link
pub record IsKeptBy (all : List Linkable) (class : Class) (h : KeptField) (key : Key) (c : Linkable) : Type 0 where
  pub found : find (has_key key) all ≡ Some c
  pub bare : (h.tie.whole || is_bare c) ≡ true
  pub kind_is : is_kind c.kind (kind_of class h.field) ≡ true

pub kept_by : (all : List Linkable) (class : Class) (h : KeptField) (key : Key) (o : Option Linkable) → find (has_key key) all ≡ o →
    option_map_or (λ c. (h.tie.whole || is_bare c) && is_kind c.kind (kind_of class h.field)) o false ≡ true → (c : Linkable) × IsKeptBy all class h key c
kept_by all class h key None e k = cc
kept_by all class h key (Some c) e k =
    let both = and_parts (h.tie.whole || is_bare c) (is_kind c.kind (kind_of class h.field)) k in
    (c, record { found = e; bare = both.0; kind_is = both.1 })

pub kind_by_is : (kind : Kind) (o : Option Kind) (own : Kind) → o ≡ Some own → is_kind kind o ≡ true → own ≡ kind
kind_by_is kind None own e k = cc
kind_by_is kind (Some other) own e k = let same : other ≡ own = cc in sym same ∙ sym (same_kind_is kind other k)

-- the kind of a heading field
pub heading_some : (o : Option Kind) → is_some o ≡ true → (kind : Kind) × (o ≡ Some kind)
heading_some None e = cc
heading_some (Some kind) e = (kind, refl)

found_done : (all : List Linkable) (class : Class) (h : KeptField) (key : Key) (c : Linkable) (kind : Kind) → Each (IsFit all) all → IsTied all class h → h.tie.key ≡ Some key →
    IsKeptBy all class h key c → heading_kind class h.field ≡ Some kind → IsDone all class h (settle_linked all class h key)
found_done all class h key c kind fits tied linked k heading =
    let own = heading_of_kind class h.field kind heading in
    let same : kind ≡ c.kind = kind_by_is c.kind (kind_of class h.field) kind own.kind_is k.kind_is in
    let found = find_found (IsFit all) (has_key key) all c fits k.found in
    let key_same : key ≡ c.key = (key_Decides key c.key).0 found.1 in
    let kind_is : heading_kind class h.field ≡ Some c.kind = heading ∙ ap (λ (x : Kind). Some x) same in
    rw k.found
    (done_firm all class h h.tie.whole c (record { fit = found.0; kind_is = kind_is; bare = k.bare; takes = tied.whole })
    (reach_rewritten all class h c found.0 kind_is (linked ∙ ap (λ (x : Key). Some x) key_same)))

linked_done : (all : List Linkable) (class : Class) (h : KeptField) (key : Key) → Each (IsFit all) all → IsTied all class h → h.tie.key ≡ Some key → IsLink all class h key →
    IsDone all class h (settle_linked all class h key)
linked_done all class h key fits tied linked link =
    let by = kept_by all class h key (find (has_key key) all) refl link.kept in
    let heading = heading_some (heading_kind class h.field) link.heading in
    found_done all class h key by.0 heading.0 fits tied linked by.1 heading.1

-- ---- an unlinked field

no_link : (all : List Linkable) (class : Class) (h : KeptField) → h.tie.key ≡ None → IsRewritten all class h
no_link all class h e = rw e tt

left_done : (all : List Linkable) (class : Class) (h : KeptField) → IsTied all class h → h.tie.key ≡ None → IsSettled all class h → IsDone all class h h
left_done all class h tied e settled = record { tied = tied; rewritten = no_link all class h e; settled = settled; within = omega arith }

settled_by_choice : (all : List Linkable) (class : Class) (kind : Kind) (h : KeptField) → heading_kind class h.field ≡ Some kind → IsNoLink (choice all class kind h) → IsSettled all class h
settled_by_choice all class kind h e none = λ unlinked. rw e none

reaches_grow : (w x t : Bool) → (w ≡ false → (x && t) ≡ false) → (x && t) ≡ true → (w ≡ true → t ≡ true) → (w && t) ≡ true
reaches_grow true x t less more takes = takes refl
reaches_grow false x t less more takes = let no = less refl in cc

chosen_done : (all : List Linkable) (class : Class) (kind : Kind) (h : KeptField) (x : Choice) → IsTied all class h → h.tie.key ≡ None →
    heading_kind class h.field ≡ Some kind → choice all class kind h ≡ x → IfLink (IsGood all class kind h) x → IsDone all class h (take_choice class h x)
chosen_done all class kind h (Link c whole) tied unlinked heading e good =
    let kind_is : heading_kind class h.field ≡ Some c.kind = heading ∙ ap (λ (x : Kind). Some x) good.kind_is in
    done_firm all class h whole c (record { fit = good.fit; kind_is = kind_is; bare = good.bare; takes = good.takes })
    (reach_chosen all class h c whole good.fit kind_is unlinked
    (λ more. reaches_grow whole h.tie.whole (is_subdividable class (tag_of h.field)) good.never_less more good.takes))
chosen_done all class kind h (Ambiguous keys) tied unlinked heading e good =
    left_done all class h tied unlinked (settled_by_choice all class kind h heading (rw e tt))
chosen_done all class kind h Unlinked tied unlinked heading e good =
    left_done all class h tied unlinked (settled_by_choice all class kind h heading (rw e tt))

unlinked_done : (all : List Linkable) (class : Class) (h : KeptField) (o : Option Kind) → Each (IsFit all) all → IsTied all class h → h.tie.key ≡ None → heading_kind class h.field ≡ o →
    IsDone all class h (option_map_or (λ kind. take_choice class h (choice all class kind h)) o h)
unlinked_done all class h None fits tied unlinked e = left_done all class h tied unlinked (λ u. rw e tt)
unlinked_done all class h (Some kind) fits tied unlinked e =
    chosen_done all class kind h (choice all class kind h) tied unlinked e refl (good_choice all class kind h fits)

done_at : (all : List Linkable) (class : Class) (h : KeptField) (o : Option Key) → Each (IsFit all) all → IsTied all class h → h.tie.key ≡ o → IfSome o (IsLink all class h) →
    IsDone all class h (option_map_or (settle_linked all class h) o (settle_unlinked all class h))
done_at all class h None fits tied e link = unlinked_done all class h (heading_kind class h.field) fits tied e refl
done_at all class h (Some key) fits tied e link = linked_done all class h key fits tied e link

-- a field that is tied is done once it is settled
pub field_done : (all : List Linkable) (class : Class) → Each (IsFit all) all → (h : KeptField) → IsTied all class h → IsDone all class h (settle_field all class h)
unfolding settle_field
field_done all class fits h tied = done_at all class h h.tie.key fits tied refl tied.linked
