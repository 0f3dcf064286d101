-- What an authority's commit does to the fields of a state: each is tied to the authorities that are then there.
use Rattle.std.proofs.Common.{◌≡◌, ◌≤◌, Bool, true, false, List, Option, Some, None, is_some, refl, sym, ap, ◌∙◌, inl, inr, arith, if◌then◌else◌}
use Rattle.std.specs.Prelude.{find, IfSome}
use Rattle.std.specs.Option.{option_map_or}
use Rattle.marc_types.specs.Order.{key_Decides, same_key}
use Rattle.marc_types.specs.declared.key.Class.{Class}
use Rattle.marc_types.specs.declared.key.Class.TheVariants.{Authority}
use Rattle.marc_types.specs.declared.key.Key.{Key}
use Rattle.heading_fields.specs.Tables.{is_subdividable}
use Rattle.marc_types.specs.Fields.{tag_of}
use Rattle.heading_fields.proofs.Fieldlaws.{tag_of_unlinking}
use Rattle.entry_record.specs.Authority.{Linkable, heading_kind, is_heading_field}
use Rattle.catalogue_rules.specs.State.{KeptField}
use Rattle.catalogue_rules.specs.Choice.{has_key}
use Rattle.catalogue_rules.specs.Settle.{keeps_link, is_linked_to, awaits_key, end_link, await, hand_on, loosen}
use Rattle.catalogue_rules.specs.Valid.{IsLink, IsTied, reach}
use Rattle.catalogue_rules.proofs.Reach.{kind_unlinked, reach_unlinked, reach_by}
use Rattle.catalogue_rules.proofs.Settled.{heading_some}
use Rattle.catalogue_rules.proofs.Steady.{IsSteady, heading_tag}

-- tied, but for a link to one key, which may not stay
pub record IsTiedBut (own : Key) (all : List Linkable) (class : Class) (h : KeptField) : Type 0 where
  pub heading : is_some h.tie.key ≡ true → is_heading_field class h.field ≡ true
  pub kept : (key : Key) → h.tie.key ≡ Some key → same_key own key ≡ false → keeps_link all class h key ≡ true
  pub unawaiting : is_some h.tie.key ≡ true → h.tie.awaits ≡ None
  pub awaits : is_some h.tie.awaits ≡ true → is_heading_field class h.field ≡ true
  pub whole : h.tie.whole ≡ true → is_subdividable class (tag_of h.field) ≡ true

link_of : (all : List Linkable) (class : Class) (h : KeptField) (key : Key) (o : Option Key) → o ≡ Some key → IfSome o (IsLink all class h) → IsLink all class h key
link_of all class h key None e l = cc
link_of all class h key (Some k) e l = let same : k ≡ key = cc in rw (← same) l

pub link_some : (all : List Linkable) (class : Class) (h : KeptField) (o : Option Key) → is_some o ≡ true → IfSome o (IsLink all class h) → (key : Key) × IsLink all class h key
link_some all class h None e l = cc
link_some all class h (Some key) e l = (key, l)

same_links : (all others : List Linkable) (class : Class) (h : KeptField) (key : Key) → find (has_key key) others ≡ find (has_key key) all → keeps_link others class h key ≡ keeps_link all class h key
same_links all others class h key e = rw e refl

-- a field that was tied, where other authorities are found as before
pub tied_but : (own : Key) (all now : List Linkable) (class : Class) → ((key : Key) → same_key own key ≡ false → find (has_key key) now ≡ find (has_key key) all) →
    (h : KeptField) → IsTied all class h → IsTiedBut own now class h
tied_but own all now class others h t = record {
  heading = λ e. (link_some all class h h.tie.key e t.linked).1.heading;
  kept = λ key e apart. same_links all now class h key (others key apart) ∙ (link_of all class h key h.tie.key e t.linked).kept;
  unawaiting = λ e. (link_some all class h h.tie.key e t.linked).1.unawaiting;
  awaits = t.awaits;
  whole = t.whole;
}

-- a field that comes in is tied to nothing
pub tied_new : (all : List Linkable) (class : Class) (h : KeptField) → h.tie.key ≡ None → h.tie.whole ≡ false → h.tie.awaits ≡ None → IsTied all class h
tied_new all class h key whole awaits = record {
  linked = rw key tt;
  awaits = λ e. cc;
  whole = λ e. cc;
}

-- ---- a field that isn't linked to the key

handed_by : (all : List Linkable) (class : Class) (own : Key) (h : KeptField) (successor : Option Key) → h.tie.key ≡ None → IsTied all class h → is_some h.tie.awaits ≡ true →
    IsTied all class (option_map_or (await h) successor h)
handed_by all class own h None e t some = t
handed_by all class own h (Some key) e t some = record { linked = rw e tt; awaits = λ x. t.awaits some; whole = t.whole }

handed_awaiting : (all : List Linkable) (class : Class) (own : Key) (h : KeptField) (successor : Option Key) (b : Bool) → h.tie.key ≡ None → IsTied all class h →
    (b ≡ true → is_some h.tie.awaits ≡ true) → IsTied all class (if b then option_map_or (await h) successor h else h)
handed_awaiting all class own h successor true e t some = handed_by all class own h successor e t (some refl)
handed_awaiting all class own h successor false e t some = t

awaits_some : (own : Key) (o : Option Key) → option_map_or (same_key own) o false ≡ true → is_some o ≡ true
awaits_some own None e = cc
awaits_some own (Some key) e = refl

hand_on_tied : (all : List Linkable) (class : Class) (own : Key) (successor : Option Key) (h : KeptField) → h.tie.key ≡ None → IsTied all class h → IsTied all class (hand_on own successor h)
hand_on_tied all class own successor h e t = handed_awaiting all class own h successor (awaits_key own h) e t (awaits_some own h.tie.awaits)

hand_on_nothing : (own : Key) (successor : Option Key) (h : KeptField) → h.tie.awaits ≡ None → hand_on own successor h ≡ h
hand_on_nothing own successor h e = rw e refl

-- ---- loosening

tied_unlinked : (own : Key) (all : List Linkable) (class : Class) (h : KeptField) → h.tie.key ≡ None → IsTiedBut own all class h → IsTied all class h
tied_unlinked own all class h e t = record { linked = rw e tt; awaits = t.awaits; whole = t.whole }

tied_linked : (own : Key) (all : List Linkable) (class : Class) (h : KeptField) (key : Key) → h.tie.key ≡ Some key → IsTiedBut own all class h → keeps_link all class h key ≡ true → IsTied all class h
tied_linked own all class h key e t kept =
    let some : is_some h.tie.key ≡ true = rw e refl in
    record {
      linked = rw e (record { heading = t.heading some; kept = kept; unawaiting = t.unawaiting some });
      awaits = t.awaits;
      whole = t.whole;
    }

end_tied : (own : Key) (all : List Linkable) (class : Class) (h : KeptField) (successor : Option Key) → is_some h.tie.key ≡ true → IsTiedBut own all class h → IsTied all class (end_link own successor h)
end_tied own all class h successor some t = record {
  linked = tt;
  awaits = λ e. ap is_some (kind_unlinked class h.field own) ∙ t.heading some;
  whole = λ e. ap (is_subdividable class) (tag_of_unlinking h.field own) ∙ t.whole e;
}

-- what becomes of a field
pub record IsLoosened (all : List Linkable) (class : Class) (before now : KeptField) : Type 0 where
  pub tied : IsTied all class now
  pub within : reach class now ≤ reach class before

stays : (all : List Linkable) (class : Class) (h : KeptField) → IsTied all class h → IsLoosened all class h h
stays all class h t = record { tied = t; within = omega arith }

end_within : (own : Key) (all : List Linkable) (class : Class) (h : KeptField) (successor : Option Key) → h.tie.key ≡ Some own → is_heading_field class h.field ≡ true →
    reach class (end_link own successor h) ≤ reach class h
end_within own all class h successor e heading =
    let kind = heading_some (heading_kind class h.field) heading in
    reach_unlinked class h kind.0 own successor kind.1 e

own_link : (own : Key) (all : List Linkable) (class : Class) (h : KeptField) (successor : Option Key) (b : Bool) → h.tie.key ≡ Some own → IsTiedBut own all class h → keeps_link all class h own ≡ b →
    IsLoosened all class h (if b then h else end_link own successor h)
own_link own all class h successor true e t k = stays all class h (tied_linked own all class h own e t k)
own_link own all class h successor false e t k =
    let some : is_some h.tie.key ≡ true = rw e refl in
    record { tied = end_tied own all class h successor some t; within = end_within own all class h successor e (t.heading some) }

linked_at : (own key : Key) (all : List Linkable) (class : Class) (h : KeptField) (successor : Option Key) (b : Bool) → h.tie.key ≡ Some key → same_key own key ≡ b → IsTiedBut own all class h →
    IsLoosened all class h (if b then (if keeps_link all class h own then h else end_link own successor h) else hand_on own successor h)
linked_at own key all class h successor true e s t =
    let same : own ≡ key = (key_Decides own key).0 s in
    own_link own all class h successor (keeps_link all class h own) (e ∙ ap (λ (k : Key). Some k) (sym same)) t refl
linked_at own key all class h successor false e s t =
    let some : is_some h.tie.key ≡ true = rw e refl in
    rw (hand_on_nothing own successor h (t.unawaiting some)) (stays all class h (tied_linked own all class h key e t (t.kept key e s)))

-- what awaiting doesn't touch stays
hand_on_as : {A : Type 0} (part : KeptField → A) → ((key : Key) (h : KeptField) → part (await h key) ≡ part h) → (own : Key) (successor : Option Key) (h : KeptField) → part (hand_on own successor h) ≡ part h
hand_on_as part same own successor h = at (awaits_key own h) successor
  where
    at : (b : Bool) (o : Option Key) → part (if b then option_map_or (await h) o h else h) ≡ part h
    at true None = refl
    at true (Some key) = same key h
    at false o = refl

hand_on_field : (own : Key) (successor : Option Key) (h : KeptField) → (hand_on own successor h).field ≡ h.field
hand_on_field = hand_on_as (λ h. h.field) (λ key h. refl)

hand_on_key : (own : Key) (successor : Option Key) (h : KeptField) → (hand_on own successor h).tie.key ≡ h.tie.key
hand_on_key = hand_on_as (λ h. h.tie.key) (λ key h. refl)

hand_on_whole : (own : Key) (successor : Option Key) (h : KeptField) → (hand_on own successor h).tie.whole ≡ h.tie.whole
hand_on_whole = hand_on_as (λ h. h.tie.whole) (λ key h. refl)

loosened_at : (own : Key) (all : List Linkable) (class : Class) (h : KeptField) (successor : Option Key) (o : Option Key) → h.tie.key ≡ o → IsTiedBut own all class h →
    IsLoosened all class h
    (if option_map_or (same_key own) o false then (if keeps_link all class h own then h else end_link own successor h) else hand_on own successor h)
loosened_at own all class h successor None e t = record {
  tied = hand_on_tied all class own successor h e (tied_unlinked own all class h e t);
  within = let same = reach_by class (hand_on own successor h) h (hand_on_field own successor h) (hand_on_key own successor h) (hand_on_whole own successor h) in omega arith;
}
loosened_at own all class h successor (Some key) e t = linked_at own key all class h successor (same_key own key) e refl t

-- after an authority's commit each field is tied, and its reach hasn't grown
pub field_loosened : (own : Key) (all : List Linkable) (successor : Option Key) (class : Class) (h : KeptField) → IsTiedBut own all class h → IsLoosened all class h (loosen all own successor class h)
unfolding loosen
field_loosened own all successor class h t = loosened_at own all class h successor h.tie.key refl t

-- ---- the headings of authorities stay

steady_end : (own : Key) (successor : Option Key) (h : KeptField) → is_heading_field Authority h.field ≡ true → IsSteady h.field (end_link own successor h).field
steady_end own successor h heading =
    let tag = heading_tag h.field heading in
    inr (tag, rw (tag_of_unlinking h.field own) tag)

steady_loosen_at : (own : Key) (successor : Option Key) (h : KeptField) (a b : Bool) → (a ≡ true → is_heading_field Authority h.field ≡ true) →
    IsSteady h.field (if a then (if b then h else end_link own successor h) else hand_on own successor h).field
steady_loosen_at own successor h true true heading = inl refl
steady_loosen_at own successor h true false heading = steady_end own successor h (heading refl)
steady_loosen_at own successor h false b heading = inl (sym (hand_on_field own successor h))

linked_some : (own : Key) (o : Option Key) → option_map_or (same_key own) o false ≡ true → is_some o ≡ true
linked_some own None e = cc
linked_some own (Some key) e = refl

pub steady_loosen : (own : Key) (all : List Linkable) (successor : Option Key) (h : KeptField) → IsTiedBut own all Authority h → IsSteady h.field (loosen all own successor Authority h).field
unfolding loosen
steady_loosen own all successor h t =
    steady_loosen_at own successor h (is_linked_to own h) (keeps_link all Authority h own) (λ e. t.heading (linked_some own h.tie.key e))
