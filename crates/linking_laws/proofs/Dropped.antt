-- Before links to a key are dropped, and after.
use Rattle.std.proofs.Common.{◌≡◌, ◌≤◌, Bool, true, false, ◌&&◌, List, [], ◌∷◌, map, Option, Some, None, is_some, refl, sym, ap, ◌∙◌, subst, if◌then◌else◌, arith, inl, inr, ◌⊎◌, ◌||◌}
use Rattle.std.specs.Prelude.{All, filter_map, find}
use Rattle.std.specs.Option.{option_map_or}
use Rattle.std.proofs.lemmas.List.Elements.{recursion_from_All, All-from_recursion}
use Rattle.marc_types.specs.Order.{key_Decides}
use Rattle.marc_types.specs.declared.field.Field.{Field}
use Rattle.marc_types.specs.declared.key.Class.{Class}
use Rattle.marc_types.specs.declared.key.Class.TheVariants.{Authority, Bibliographic}
use Rattle.marc_types.specs.declared.key.Key.{Key}
use Rattle.marc_types.specs.Fields.{tag_of}
use Rattle.marc_types.specs.Order.{same_key}
use Rattle.entry_record.specs.Authority.{Linkable, is_bare, same_kind, is_kind}
use Rattle.catalogue_rules.specs.State.{KeptField, Row, State, row_linkable, linkable_authorities, each_in_row, each_field, new_field, new_record}
use Rattle.catalogue_rules.specs.Settle.{keeps_link, is_linked_to, awaits_key, end_link, await, hand_on, loosen, settle_unlinked, settle_field, place}
use Rattle.catalogue_rules.specs.Valid.{IsRow, IsTied, HasRoom, reach}
use Rattle.catalogue_rules.proofs.Elements.{Each, each_weaker, each_both, each_map}
use Rattle.catalogue_rules.proofs.Fit.{IsFit}
use Rattle.catalogue_rules.proofs.Fitting.{field_within}
use Rattle.catalogue_rules.proofs.Once.{steady_field}
use Rattle.catalogue_rules.proofs.Proper.{all_fit}
use Rattle.catalogue_rules.proofs.Put.{IsTiedBut, field_loosened, steady_loosen, tied_new}
use Rattle.catalogue_rules.proofs.Room.{room_kept}
use Rattle.catalogue_rules.proofs.Rows.{ascend_changed, ascend_place, each_place}
use Rattle.catalogue_rules.proofs.Settled.{field_done, kept_by}
use Rattle.catalogue_rules.proofs.States.{link_of_heading, IsLooseRow, IsReadyRow, fit_entry}
use Rattle.catalogue_rules.proofs.Steady as steady
use Rattle.catalogue_rules.proofs.Steady.{linkables_stay}
use Rattle.linking_laws.specs.Middle.{IsWithinReach, IsMiddleWith, IsTiedButTo, IsSparedRightly, CanDrop, is_spared}
use Rattle.linking_laws.specs.Stages.{Dropping, DropNone, DropBases, DropAll, drop_field, drop_by, dropping_by}
use Rattle.linking_laws.proofs.Settling.{IsMiddleRow, IsHandled, middle_from, all_fields, valid_middle}
use Rattle.linking_laws.proofs.Touched.{drop_on, drop_off, settle_of_unlinked, kind_agrees, link_is, unlinked_to, linked_to}
use Rattle.marc_types.specs.declared.entry.Entry.{Entry}
use Rattle.heading_fields.specs.Tables.{kind_of}
use Rattle.catalogue_rules.specs.Choice.{has_key}
use Rattle.catalogue_rules.specs.Settle.{arrival_of}
use Rattle.linking_laws.specs.Commits.{CanBeCommitted, authorities_behind, placed_by}
use Rattle.linking_laws.proofs.Commits.{valid_ready, placed_fit, loosened_one, new_loose}

-- ---- one field

pub tied_but_of : (key : Key) (all : List Linkable) (class : Class) (h : KeptField) → IsTiedButTo key all class h → IsTiedBut key all class h
tied_but_of key all class h t = record { heading = t.heading; kept = t.kept; unawaiting = t.unawaiting; awaits = t.awaits; whole = t.whole }

-- a field is left where it is tied, or settled once it is loosened
abbrev IsLeftOrLoosened : List Linkable → Key → Option Key → Class → KeptField → KeptField → Type 0
IsLeftOrLoosened all key successor class h g = (IsTied all class h × (g ≡ h)) ⊎ (g ≡ settle_field all class (loosen all key successor class h))

module _ (all : List Linkable) (key : Key) (successor : Option Key) (class : Class) where
  loosen_on : (h : KeptField) (o : Option Key) → is_linked_to key h ≡ true → loosen all key o class h ≡ (if keeps_link all class h key then h else end_link key o h)
  unfolding loosen
  loosen_on h o e = ap (λ (b : Bool). if b then (if keeps_link all class h key then h else end_link key o h) else hand_on key o h) e

  loosen_off : (h : KeptField) (o : Option Key) → is_linked_to key h ≡ false → loosen all key o class h ≡ hand_on key o h
  unfolding loosen
  loosen_off h o e = ap (λ (b : Bool). if b then (if keeps_link all class h key then h else end_link key o h) else hand_on key o h) e

  kept_tied : (h : KeptField) → is_linked_to key h ≡ true → keeps_link all class h key ≡ true → IsTiedButTo key all class h → IsTied all class h
  kept_tied h linked keeps t =
      subst (IsTied all class) (loosen_on h successor linked ∙ ap (λ (b : Bool). if b then h else end_link key successor h) keeps)
      (field_loosened key all successor class h (tied_but_of key all class h t)).tied

  hand_none : (h : KeptField) (b : Bool) → (if b then h else h) ≡ h
  hand_none h true = refl
  hand_none h false = refl

  other_tied : (h : KeptField) → is_linked_to key h ≡ false → IsTiedButTo key all class h → IsTied all class h
  other_tied h off t =
      subst (IsTied all class) (loosen_off h None off ∙ hand_none h (awaits_key key h)) (field_loosened key all None class h (tied_but_of key all class h t)).tied

  on_at : (h : KeptField) (only_base b : Bool) → (only_base && h.tie.whole) ≡ b → is_linked_to key h ≡ true → keeps_link all class h key ≡ b → IsTiedButTo key all class h →
      IsLeftOrLoosened all key successor class h (drop_field all key only_base successor class h)
  on_at h only_base true e linked keeps t =
      inl (kept_tied h linked keeps t, drop_on all key only_base successor class h linked ∙ ap (λ (c : Bool). if c then h else settle_unlinked all class (end_link key successor h)) e)
  on_at h only_base false e linked keeps t =
      inr (drop_on all key only_base successor class h linked ∙ ap (λ (c : Bool). if c then h else settle_unlinked all class (end_link key successor h)) e
      ∙ sym (ap (settle_field all class) (loosen_on h successor linked ∙ ap (λ (c : Bool). if c then h else end_link key successor h) keeps)
      ∙ settle_of_unlinked all class (end_link key successor h) refl))

  no_key : (h : KeptField) (o : Option Key) → h.tie.key ≡ o → awaits_key key h ≡ true → IsTiedButTo key all class h → h.tie.key ≡ None
  no_key h None e awaits t = e
  no_key h (Some own) e awaits t =
      let none = t.unawaiting (ap is_some e) in
      let off : awaits_key key h ≡ false = ap (λ (o : Option Key). option_map_or (same_key key) o false) none in
      cc

  handed_at : (h : KeptField) (only_base : Bool) (o : Option Key) → successor ≡ o → is_linked_to key h ≡ false → awaits_key key h ≡ true → IsTiedButTo key all class h →
      IsLeftOrLoosened all key successor class h (drop_field all key only_base successor class h)
  handed_at h only_base None s off awaits t =
      inl (
        other_tied h off t,
        drop_off all key only_base successor class h off
            ∙ ap (λ (o : Option Key). if awaits_key key h then option_map_or (λ other. settle_unlinked all class (await h other)) o h else h) s ∙ hand_none h (awaits_key key h),
      )
  handed_at h only_base (Some other) s off awaits t =
      let loose : loosen all key successor class h ≡ await h other =
      loosen_off h successor off ∙ ap (λ (b : Bool). if b then option_map_or (await h) successor h else h) awaits ∙ ap (λ (k : Option Key). option_map_or (await h) k h) s in
      inr (drop_off all key only_base successor class h off
      ∙ ap (λ (b : Bool). if b then option_map_or (λ k. settle_unlinked all class (await h k)) successor h else h) awaits
      ∙ ap (λ (o : Option Key). option_map_or (λ k. settle_unlinked all class (await h k)) o h) s
      ∙ sym (ap (settle_field all class) loose ∙ settle_of_unlinked all class (await h other) (no_key h h.tie.key refl awaits t)))

  off_at : (h : KeptField) (only_base b : Bool) → awaits_key key h ≡ b → is_linked_to key h ≡ false → IsTiedButTo key all class h →
      IsLeftOrLoosened all key successor class h (drop_field all key only_base successor class h)
  off_at h only_base true awaits off t = handed_at h only_base successor refl off awaits t
  off_at h only_base false awaits off t =
      inl (
        other_tied h off t,
        drop_off all key only_base successor class h off
            ∙ ap (λ (b : Bool). if b then option_map_or (λ other. settle_unlinked all class (await h other)) successor h else h) awaits,
      )

  dropped_at : (h : KeptField) (only_base b : Bool) → is_linked_to key h ≡ b → (b ≡ true → keeps_link all class h key ≡ (only_base && h.tie.whole)) → IsTiedButTo key all class h →
      IsLeftOrLoosened all key successor class h (drop_field all key only_base successor class h)
  dropped_at h only_base true linked spared t = on_at h only_base (only_base && h.tie.whole) refl linked (spared refl) t
  dropped_at h only_base false off spared t = off_at h only_base (awaits_key key h) refl off t

  left_at : (h : KeptField) (b : Bool) → is_linked_to key h ≡ b → (b ≡ true → keeps_link all class h key ≡ true) → IsTiedButTo key all class h → IsTied all class h
  left_at h true linked spared t = kept_tied h linked (spared refl) t
  left_at h false off spared t = other_tied h off t

  pub dropped_field : (d : Dropping) (h : KeptField) → IsTiedButTo key all class h → IsSparedRightly d key all class h → IsLeftOrLoosened all key successor class h (drop_by d all key successor class h)
  dropped_field DropNone h t spared = inl (left_at h (is_linked_to key h) refl spared t, refl)
  dropped_field DropBases h t spared = dropped_at h true (is_linked_to key h) refl spared t
  dropped_field DropAll h t spared = dropped_at h false (is_linked_to key h) refl spared t

  pub handled : Each (IsFit all) all → (h g : KeptField) → IsTiedButTo key all class h → IsWithinReach class h → IsLeftOrLoosened all key successor class h g → IsHandled all class h g
  handled fits h g t w (inl both) = subst (IsHandled all class h) (sym both.1) (record { tied = both.0; less = omega arith; within = w })
  handled fits h g t w (inr e) =
      let loose = field_loosened key all successor class h (tied_but_of key all class h t) in
      let l = loosen all key successor class h in
      let done = field_done all class fits l loose.tied in
      let one = loose.within in
      let two = done.within in
      subst (IsHandled all class h) (sym e)
      (record { tied = done.tied; less = omega arith; within = field_within all class fits (settle_field all class l) (done.tied, done.rewritten) })

steady_then : (f g k : Field) → steady.IsSteady f g → steady.IsSteady g k → steady.IsSteady f k
steady_then f g k (inl p) (inl q) = inl (p ∙ q)
steady_then f g k (inl p) (inr q) = inr (ap (λ (x : Field). (tag_of x).a) p ∙ q.0, q.1)
steady_then f g k (inr p) (inl q) = inr (p.0, ap (λ (x : Field). (tag_of x).a) (sym q) ∙ p.1)
steady_then f g k (inr p) (inr q) = inr (p.0, q.1)

pub steady_dropped : (all : List Linkable) (key : Key) (successor : Option Key) (h g : KeptField) → IsTiedButTo key all Authority h → IsLeftOrLoosened all key successor Authority h g → steady.IsSteady h.field g.field
steady_dropped all key successor h g t (inl both) = inl (ap (λ (x : KeptField). x.field) (sym both.1))
steady_dropped all key successor h g t (inr e) =
    let l = loosen all key successor Authority h in
    let loose = field_loosened key all successor Authority h (tied_but_of key all Authority h t) in
    subst (λ (x : KeptField). steady.IsSteady h.field x.field) (sym e)
    (steady_then h.field l.field (settle_field all Authority l).field (steady_loosen key all successor h (tied_but_of key all Authority h t))
    (steady_field all l (link_of_heading all Authority l loose.tied)))

-- ---- rows

record IsDropRow (d : Dropping) (key : Key) (all : List Linkable) (class : Class) (row : Row) : Type 0 where
  row_is : IsRow class row
  ties : Each (IsTiedButTo key all class) row.1.fields
  spared : Each (IsSparedRightly d key all class) row.1.fields
  room : HasRoom class row
  within : Each (IsWithinReach class) row.1.fields

drop_rows : (d : Dropping) (key : Key) (all : List Linkable) (class : Class) (rows : List Row) → All (IsRow class) rows → All (λ (row : Row). All (IsTiedButTo key all class) row.1.fields) rows →
    All (λ (row : Row). All (IsSparedRightly d key all class) row.1.fields) rows → All (HasRoom class) rows → All (λ (row : Row). All (IsWithinReach class) row.1.fields) rows →
    Each (IsDropRow d key all class) rows
drop_rows d key all class rows r t p m w =
    let T = λ (row : Row). All (IsTiedButTo key all class) row.1.fields in
    let P = λ (row : Row). All (IsSparedRightly d key all class) row.1.fields in
    let W = λ (row : Row). All (IsWithinReach class) row.1.fields in
    let one = each_both (IsRow class) T rows (recursion_from_All (IsRow class) rows r) (recursion_from_All T rows t) in
    let two = each_both (HasRoom class) W rows (recursion_from_All (HasRoom class) rows m) (recursion_from_All W rows w) in
    let both = each_both (λ row. IsRow class row × T row) (λ row. HasRoom class row × W row) rows one two in
    each_weaker (λ row. ((IsRow class row × T row) × (HasRoom class row × W row)) × P row) (IsDropRow d key all class)
    (λ row x. record {
      row_is = x.0.0.0;
      ties = recursion_from_All (IsTiedButTo key all class) row.1.fields x.0.0.1;
      spared = recursion_from_All (IsSparedRightly d key all class) row.1.fields x.1;
      room = x.0.1.0;
      within = recursion_from_All (IsWithinReach class) row.1.fields x.0.1.1;
    }) rows
    (each_both (λ row. (IsRow class row × T row) × (HasRoom class row × W row)) P rows both (recursion_from_All P rows p))

module _ (d : Dropping) (all : List Linkable) (key : Key) (successor : Option Key) (class : Class) (fits : Each (IsFit all) all) where
  all_handled : (hs : List KeptField) → Each (IsTiedButTo key all class) hs → Each (IsSparedRightly d key all class) hs → Each (IsWithinReach class) hs →
      Each (λ h. IsHandled all class h (drop_by d all key successor class h)) hs
  all_handled [] t p w = tt
  all_handled (h ∷ hs) t p w =
      (handled all key successor class fits h (drop_by d all key successor class h) t.0 w.0 (dropped_field all key successor class d h t.0 p.0), all_handled hs t.1 p.1 w.1)

  drop_row : (row : Row) → IsDropRow d key all class row → IsMiddleRow all class (each_in_row (drop_by d all key successor class) row)
  drop_row row m =
      let change = drop_by d all key successor class in
      let done = all_handled row.1.fields m.ties m.spared m.within in
      let P = λ (h : KeptField). IsHandled all class h (drop_by d all key successor class h) in
      record {
        row_is = record { class_is = m.row_is.class_is; code = m.row_is.code; number = m.row_is.number };
        ties = each_map P (IsTied all class) change (λ h x. x.tied) row.1.fields done;
        room = room_kept class change row (each_weaker P (λ h. reach class (change h) ≤ reach class h) (λ h x. x.less) row.1.fields done) m.room;
        within = each_map P (IsWithinReach class) change (λ h x. x.within) row.1.fields done;
      }

all_steady : (d : Dropping) (all : List Linkable) (key : Key) (successor : Option Key) (hs : List KeptField) → Each (IsTiedButTo key all Authority) hs → Each (IsSparedRightly d key all Authority) hs →
    Each (λ h. steady.IsSteady h.field (drop_by d all key successor Authority h).field) hs
all_steady d all key successor [] t p = tt
all_steady d all key successor (h ∷ hs) t p =
    (steady_dropped all key successor h (drop_by d all key successor Authority h) t.0 (dropped_field all key successor Authority d h t.0 p.0), all_steady d all key successor hs t.1 p.1)

-- dropping leads between stages
pub drop_ready : (d : Dropping) (key : Key) (successor : Option Key) (s : State) → CanDrop d key s →
    IsMiddleWith (linkable_authorities s) (each_field (drop_by d (linkable_authorities s) key successor) s)
unfolding each_field
drop_ready d key successor s m =
    let all = linkable_authorities s in
    let fits = all_fit s.authorities m.authorities_ascend (recursion_from_All (IsRow Authority) s.authorities m.rows.0) in
    let first = drop_rows d key all Authority s.authorities m.rows.0 m.ties.0 m.spared.0 m.room.0 m.within.0 in
    let second = drop_rows d key all Bibliographic s.bibliographic m.rows.1 m.ties.1 m.spared.1 m.room.1 m.within.1 in
    let A = drop_by d all key successor Authority in
    let B = drop_by d all key successor Bibliographic in
    let stay : filter_map row_linkable (map (each_in_row A) s.authorities) ≡ all =
    linkables_stay A s.authorities
    (each_weaker (IsDropRow d key all Authority) (λ (row : Row). Each (λ h. steady.IsSteady h.field (drop_by d all key successor Authority h).field) row.1.fields)
    (λ row x. all_steady d all key successor row.1.fields x.ties x.spared) s.authorities first) in
    middle_from all (record { authorities = map (each_in_row A) s.authorities; bibliographic = map (each_in_row B) s.bibliographic }) stay
    (ascend_changed A s.authorities m.authorities_ascend) (ascend_changed B s.bibliographic m.bibliographic_ascend)
    (each_map (IsDropRow d key all Authority) (IsMiddleRow all Authority) (each_in_row A) (drop_row d all key successor Authority fits) s.authorities first)
    (each_map (IsDropRow d key all Bibliographic) (IsMiddleRow all Bibliographic) (each_in_row B) (drop_row d all key successor Bibliographic fits) s.bibliographic second)

-- ---- a commit can drop

abbrev keeps_by : Class → KeptField → Option Linkable → Bool
keeps_by class h o = option_map_or (λ c. (h.tie.whole || is_bare c) && is_kind c.kind (kind_of class h.field)) o false

spared_bits : (h : KeptField) (same bare whole : Bool) → h.tie.whole ≡ whole → ((whole || bare) && same) ≡ is_spared (if same then (if bare then DropNone else DropBases) else DropAll) h
spared_bits h true true true w = refl
spared_bits h true true false w = refl
spared_bits h true false true w = sym w
spared_bits h true false false w = sym w
spared_bits h false true true w = refl
spared_bits h false true false w = refl
spared_bits h false false true w = refl
spared_bits h false false false w = refl

spared_found : (class : Class) (h : KeptField) (old : Linkable) (new : Option Linkable) → is_kind old.kind (kind_of class h.field) ≡ true →
    keeps_by class h new ≡ is_spared (dropping_by (Some old) new) h
spared_found class h old None kind = refl
spared_found class h old (Some c) kind =
    ap (λ (b : Bool). (h.tie.whole || is_bare c) && b) (kind_agrees old.kind c.kind (kind_of class h.field) kind)
    ∙ spared_bits h (same_kind old.kind c.kind) (is_bare c) h.tie.whole refl

pub spared_at : (key : Key) (before now : List Linkable) (class : Class) (h : KeptField) (o : Option Key) → h.tie.key ≡ o → IsTied before class h →
    IsSparedRightly (dropping_by (find (has_key key) before) (find (has_key key) now)) key now class h
spared_at key before now class h None e t = λ linked. let off = unlinked_to key h e in cc
spared_at key before now class h (Some own) e t = λ linked.
    let is : key ≡ own = (key_Decides key own).0 (sym (linked_to key own h e) ∙ linked) in
    let link = link_is before class h own h.tie.key e t.linked in
    let kept : keeps_link before class h key ≡ true = ap (λ (k : Key). keeps_link before class h k) is ∙ link.kept in
    let by = kept_by before class h key (find (has_key key) before) refl kept in
    spared_found class h by.0 (find (has_key key) now) by.1.kind_is
    ∙ ap (λ (o : Option Linkable). is_spared (dropping_by o (find (has_key key) now)) h) (sym by.1.found)

pub but_of : (key : Key) (all : List Linkable) (class : Class) (h : KeptField) → IsTiedBut key all class h → IsTiedButTo key all class h
but_of key all class h t = record { heading = t.heading; kept = t.kept; unawaiting = t.unawaiting; awaits = t.awaits; whole = t.whole }

loose_drop : (d : Dropping) (key : Key) (all : List Linkable) (class : Class) (row : Row) → IsLooseRow key all class row → Each (IsSparedRightly d key all class) row.1.fields →
    Each (IsWithinReach class) row.1.fields → IsDropRow d key all class row
loose_drop d key all class row l p w = record {
  row_is = l.row_is;
  ties = each_weaker (IsTiedBut key all class) (IsTiedButTo key all class) (but_of key all class) row.1.fields l.ties;
  spared = p;
  room = l.room;
  within = w;
}

new_spared : (d : Dropping) (key : Key) (all : List Linkable) (class : Class) (fs : List Field) → Each (IsSparedRightly d key all class) (map new_field fs)
new_spared d key all class [] = tt
new_spared d key all class (f ∷ fs) = (λ linked. cc, new_spared d key all class fs)

pub new_within : (all : List Linkable) (class : Class) → Each (IsFit all) all → (fs : List Field) → Each (IsWithinReach class) (map new_field fs)
new_within all class fits [] = tt
new_within all class fits (f ∷ fs) = (field_within all class fits (new_field f) (tied_new all class (new_field f) refl refl refl, tt), new_within all class fits fs)

abbrev turned : State → Entry → Dropping
turned s e = dropping_by (find (has_key e.key) (linkable_authorities s)) (find (has_key e.key) (authorities_behind s e))

old_rows : (s : State) (e : Entry) (class : Class) (rows : List Row) → Each (IsReadyRow (linkable_authorities s) class) rows → Each (λ (row : Row). Each (IsWithinReach class) row.1.fields) rows →
    Each (IsDropRow (turned s e) e.key (authorities_behind s e) class) rows
old_rows s e class rows r w =
    let before = linkable_authorities s in
    let now = authorities_behind s e in
    each_weaker (λ row. IsReadyRow before class row × Each (IsWithinReach class) row.1.fields) (IsDropRow (turned s e) e.key now class)
    (λ row x. loose_drop (turned s e) e.key now class row (loosened_one class (arrival_of e) s row x.0)
    (each_weaker (IsTied before class) (IsSparedRightly (turned s e) e.key now class) (λ h t. spared_at e.key before now class h h.tie.key refl t) row.1.fields x.0.ties) x.1)
    rows (each_both (IsReadyRow before class) (λ (row : Row). Each (IsWithinReach class) row.1.fields) rows r w)

pub each_within : (class : Class) (rows : List Row) → All (λ (row : Row). All (IsWithinReach class) row.1.fields) rows → Each (λ (row : Row). Each (IsWithinReach class) row.1.fields) rows
each_within class rows w =
    each_weaker (λ (row : Row). All (IsWithinReach class) row.1.fields) (λ (row : Row). Each (IsWithinReach class) row.1.fields)
    (λ row a. recursion_from_All (IsWithinReach class) row.1.fields a) rows (recursion_from_All (λ (row : Row). All (IsWithinReach class) row.1.fields) rows w)

pub record AreDropRows (d : Dropping) (key : Key) (all : List Linkable) (class : Class) (rows : List Row) : Type 0 where
  pub rows_are : All (IsRow class) rows
  pub ties : All (λ (row : Row). All (IsTiedButTo key all class) row.1.fields) rows
  pub spared : All (λ (row : Row). All (IsSparedRightly d key all class) row.1.fields) rows
  pub room : All (HasRoom class) rows
  pub within : All (λ (row : Row). All (IsWithinReach class) row.1.fields) rows

drop_rows_are : (d : Dropping) (key : Key) (all : List Linkable) (class : Class) (rows : List Row) → Each (IsDropRow d key all class) rows → AreDropRows d key all class rows
drop_rows_are d key all class rows a =
    let M = IsDropRow d key all class in
    record {
      rows_are = All-from_recursion (IsRow class) rows (each_weaker M (IsRow class) (λ row x. x.row_is) rows a);
      ties = all_fields (IsTiedButTo key all class) rows (each_weaker M (λ (row : Row). Each (IsTiedButTo key all class) row.1.fields) (λ row x. x.ties) rows a);
      spared = all_fields (IsSparedRightly d key all class) rows (each_weaker M (λ (row : Row). Each (IsSparedRightly d key all class) row.1.fields) (λ row x. x.spared) rows a);
      room = All-from_recursion (HasRoom class) rows (each_weaker M (HasRoom class) (λ row x. x.room) rows a);
      within = all_fields (IsWithinReach class) rows (each_weaker M (λ (row : Row). Each (IsWithinReach class) row.1.fields) (λ row x. x.within) rows a);
    }

-- with the record of an admitted authority in its place a valid state can drop its links to the key
pub can_drop : (s : State) (e : Entry) → CanBeCommitted Authority s e → CanDrop (turned s e) e.key (placed_by Authority s e)
can_drop s e c =
    let a = arrival_of e in
    let fit = fit_entry e c.admitted in
    let ready = valid_ready s c.valid in
    let middle = valid_middle s c.valid in
    let now = authorities_behind s e in
    let fits = placed_fit Authority a s c.class_is fit ready in
    let first = drop_rows_are (turned s e) e.key now Authority (place a s.authorities)
    (each_place (IsDropRow (turned s e) e.key now Authority) a s.authorities
    (loose_drop (turned s e) e.key now Authority (a.key, new_record a.leader a.fields) (new_loose Authority a s c.class_is fit)
    (new_spared (turned s e) e.key now Authority a.fields) (new_within now Authority fits a.fields))
    (old_rows s e Authority s.authorities ready.authorities (each_within Authority s.authorities middle.within.0))) in
    let second = drop_rows_are (turned s e) e.key now Bibliographic s.bibliographic
    (old_rows s e Bibliographic s.bibliographic ready.bibliographic (each_within Bibliographic s.bibliographic middle.within.1)) in
    record {
      authorities_ascend = ascend_place a s.authorities c.valid.authorities_ascend;
      bibliographic_ascend = c.valid.bibliographic_ascend;
      rows = (first.rows_are, second.rows_are);
      ties = (first.ties, second.ties);
      spared = (first.spared, second.spared);
      room = (first.room, second.room);
      within = (first.within, second.within);
    }
