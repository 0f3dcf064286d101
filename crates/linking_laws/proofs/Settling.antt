-- A stage that leaves each field or settles it leads from one state between stages to another, with the same authorities.
use Rattle.std.proofs.Common.{◌≡◌, ℕ, zero, suc, ◌+◌, ◌≤◌, Bool, true, false, ◌&&◌, List, [], ◌∷◌, length, map, Option, refl, sym, ap, ◌∙◌, subst, if◌then◌else◌, arith, inl, inr}
use Rattle.std.specs.Prelude.{All, filter_map, find, slice_set, nat_le}
use Rattle.std.specs.List.Sorted.{IsStrictlySortedBy}
use Rattle.std.specs.Map.{keys_of}
use Rattle.marc_types.specs.Order.{key_cmp}
use Rattle.std.specs.List.{cons_option}
use Rattle.std.specs.List.{list_all, sum_by}
use Rattle.std.proofs.lemmas.Bool.{le-leb}
use Rattle.std.proofs.lemmas.List.Elements.{All-from_recursion, recursion_from_All}
use Rattle.std.proofs.lemmas.List.Sums.{sum_by-cons}
use Rattle.marc_types.specs.Valid.{is_leader, is_field, is_record, field_size, fields_size}
use Rattle.marc_types.specs.declared.field.Field.{Field}
use Rattle.marc_types.specs.declared.field.Field.TheVariants.{Control, Variable}
use Rattle.marc_types.specs.declared.field.Leader.{Leader}
use Rattle.marc_types.specs.declared.key.Class.{Class}
use Rattle.marc_types.specs.declared.key.Class.TheVariants.{Authority, Bibliographic}
use Rattle.marc_types.specs.declared.key.Key.{Key}
use Rattle.marc_types.specs.declared.form.Form.{Form}
use Rattle.iso2709_record.specs.Written.{field_length}
use Rattle.iso2709_record.proofs.Lengths.{field_length-control, field_length-variable}
use Rattle.marc_types.specs.Order.{same_key}
use Rattle.entry_record.specs.Authority.{Linkable}
use Rattle.catalogue_rules.specs.State.{KeptField, Row, State, fields_of, row_linkable, linkable_authorities, each_in_row, each_field}
use Rattle.catalogue_rules.specs.Choice.{has_key}
use Rattle.catalogue_rules.specs.Settle.{is_linked_to, settle_field}
use Rattle.catalogue_rules.specs.Valid.{IsAscending, IsRow, IsTied, IsRewritten, HasRoom, IsValid, reach}
use Rattle.catalogue_rules.proofs.Elements.{Each, each_weaker, each_both, each_map}
use Rattle.catalogue_rules.proofs.Fit.{IsFit}
use Rattle.catalogue_rules.proofs.Fitting.{field_within}
use Rattle.catalogue_rules.proofs.Once.{steady_field}
use Rattle.catalogue_rules.proofs.Proper.{all_fit}
use Rattle.std.proofs.lemmas.Bool.{and_parts}
use Rattle.catalogue_rules.proofs.Room.{room_kept}
use Rattle.catalogue_rules.proofs.Rows.{ascend_changed}
use Rattle.catalogue_rules.proofs.Settled.{field_done}
use Rattle.catalogue_rules.proofs.States.{link_of_heading}
use Rattle.catalogue_rules.proofs.Steady as steady
use Rattle.catalogue_rules.proofs.Steady.{linkable_stays, linkables_stay}
use Rattle.catalogue_rules.specs.Store.{StaysRecord}
use Rattle.linking_laws.specs.Middle.{IsWithinReach, IsMiddle, IsLeftOrSettled, IsEitherStage, IsMiddleWith, IsVisited}
use Rattle.linking_laws.specs.Stages.{carry_by, choose_field, in_own_row, settle_own}
use Rattle.linking_laws.specs.Waiting.{is_waiting_for}
use Rattle.linking_laws.proofs.Touched.{carry_linked, carry_off, choose_on, choose_off, waits_unlinked}

-- ---- rows between stages

pub record IsMiddleRow (all : List Linkable) (class : Class) (row : Row) : Type 0 where
  pub row_is : IsRow class row
  pub ties : Each (IsTied all class) row.1.fields
  pub room : HasRoom class row
  pub within : Each (IsWithinReach class) row.1.fields

pub middle_rows : (all : List Linkable) (class : Class) (rows : List Row) → All (IsRow class) rows → All (λ (row : Row). All (IsTied all class) row.1.fields) rows → All (HasRoom class) rows →
    All (λ (row : Row). All (IsWithinReach class) row.1.fields) rows → Each (IsMiddleRow all class) rows
middle_rows all class rows r t m w =
    let T = λ (row : Row). All (IsTied all class) row.1.fields in
    let W = λ (row : Row). All (IsWithinReach class) row.1.fields in
    let one = each_both (IsRow class) T rows (recursion_from_All (IsRow class) rows r) (recursion_from_All T rows t) in
    let two = each_both (HasRoom class) W rows (recursion_from_All (HasRoom class) rows m) (recursion_from_All W rows w) in
    each_weaker (λ row. (IsRow class row × T row) × (HasRoom class row × W row)) (IsMiddleRow all class)
    (λ row x. record {
      row_is = x.0.0;
      ties = recursion_from_All (IsTied all class) row.1.fields x.0.1;
      room = x.1.0;
      within = recursion_from_All (IsWithinReach class) row.1.fields x.1.1;
    }) rows
    (each_both (λ row. IsRow class row × T row) (λ row. HasRoom class row × W row) rows one two)

-- what becomes of a field
pub record IsHandled (all : List Linkable) (class : Class) (before now : KeptField) : Type 0 where
  pub tied : IsTied all class now
  pub less : reach class now ≤ reach class before
  pub within : IsWithinReach class now

module _ (all : List Linkable) (class : Class) (fits : Each (IsFit all) all) where
  pub handled_at : (h g : KeptField) → IsLeftOrSettled all class h g → IsTied all class h → IsWithinReach class h → IsHandled all class h g
  handled_at h g (inl e) t w = subst (IsHandled all class h) (sym e) (record { tied = t; less = omega arith; within = w })
  handled_at h g (inr e) t w =
      let done = field_done all class fits h t in
      subst (IsHandled all class h) (sym e)
      (record { tied = done.tied; less = done.within; within = field_within all class fits (settle_field all class h) (done.tied, done.rewritten) })

  handled : (change : KeptField → KeptField) → ((h : KeptField) → IsLeftOrSettled all class h (change h)) → (hs : List KeptField) → Each (IsTied all class) hs → Each (IsWithinReach class) hs →
      Each (λ h. IsHandled all class h (change h)) hs
  handled change either [] t w = tt
  handled change either (h ∷ hs) t w = (handled_at h (change h) (either h) t.0 w.0, handled change either hs t.1 w.1)

  handled_row : (change : KeptField → KeptField) → ((h : KeptField) → IsLeftOrSettled all class h (change h)) → (row : Row) → IsMiddleRow all class row → IsMiddleRow all class (each_in_row change row)
  handled_row change either row m =
      let done = handled change either row.1.fields m.ties m.within in
      let P = λ (h : KeptField). IsHandled all class h (change h) in
      record {
        row_is = record { class_is = m.row_is.class_is; code = m.row_is.code; number = m.row_is.number };
        ties = each_map P (IsTied all class) change (λ h d. d.tied) row.1.fields done;
        room = room_kept class change row (each_weaker P (λ h. reach class (change h) ≤ reach class h) (λ h d. d.less) row.1.fields done) m.room;
        within = each_map P (IsWithinReach class) change (λ h d. d.within) row.1.fields done;
      }

pub steady_at : (all : List Linkable) (h g : KeptField) → IsLeftOrSettled all Authority h g → IsTied all Authority h → steady.IsSteady h.field g.field
steady_at all h g (inl e) t = inl (ap (λ (x : KeptField). x.field) (sym e))
steady_at all h g (inr e) t =
    subst (λ (x : KeptField). steady.IsSteady h.field x.field) (sym e) (steady_field all h (link_of_heading all Authority h t))

pub all_fields : (P : KeptField → Type 0) (rows : List Row) → Each (λ (row : Row). Each P row.1.fields) rows → All (λ (row : Row). All P row.1.fields) rows
all_fields P rows a =
    All-from_recursion (λ (row : Row). All P row.1.fields) rows
    (each_weaker (λ (row : Row). Each P row.1.fields) (λ (row : Row). All P row.1.fields) (λ row b. All-from_recursion P row.1.fields b) rows a)

all_rows : (all : List Linkable) (class : Class) (rows : List Row) → Each (IsMiddleRow all class) rows →
    ((All (IsRow class) rows × All (λ (row : Row). All (IsTied all class) row.1.fields) rows) × (All (HasRoom class) rows × All (λ (row : Row). All (IsWithinReach class) row.1.fields) rows))
all_rows all class rows a =
    let M = IsMiddleRow all class in (
      (
        All-from_recursion (IsRow class) rows (each_weaker M (IsRow class) (λ row x. x.row_is) rows a),
        all_fields (IsTied all class) rows (each_weaker M (λ (row : Row). Each (IsTied all class) row.1.fields) (λ row x. x.ties) rows a),
      ),
      (
        All-from_recursion (HasRoom class) rows (each_weaker M (HasRoom class) (λ row x. x.room) rows a),
        all_fields (IsWithinReach class) rows (each_weaker M (λ (row : Row). Each (IsWithinReach class) row.1.fields) (λ row x. x.within) rows a),
      ),
    )

pub middle_from : (all : List Linkable) (s : State) → linkable_authorities s ≡ all → IsAscending s.authorities → IsAscending s.bibliographic →
    Each (IsMiddleRow all Authority) s.authorities → Each (IsMiddleRow all Bibliographic) s.bibliographic → IsMiddleWith all s
middle_from all s e first second a b =
    let x = all_rows all Authority s.authorities a in
    let y = all_rows all Bibliographic s.bibliographic b in
    record {
      middle = record {
        authorities_ascend = first;
        bibliographic_ascend = second;
        rows = (x.0.0, y.0.0);
        ties = subst (λ (l : List Linkable). All (λ (row : Row). All (IsTied l Authority) row.1.fields) s.authorities × All (λ (row : Row). All (IsTied l Bibliographic) row.1.fields) s.bibliographic)
            (sym e) (x.0.1, y.0.1);
        room = (x.1.0, y.1.0);
        within = (x.1.1, y.1.1);
      };
      authorities_are = e;
    }

-- what a state between stages gives: its authorities fit, and so does each row of either class
middle_parts : (all : List Linkable) (s : State) → linkable_authorities s ≡ all → IsMiddle s →
    Each (IsFit all) all × (Each (IsMiddleRow all Authority) s.authorities × Each (IsMiddleRow all Bibliographic) s.bibliographic)
middle_parts all s e m =
    let ties : All (λ (row : Row). All (IsTied all Authority) row.1.fields) s.authorities × All (λ (row : Row). All (IsTied all Bibliographic) row.1.fields) s.bibliographic =
    subst (λ (l : List Linkable). All (λ (row : Row). All (IsTied l Authority) row.1.fields) s.authorities × All (λ (row : Row). All (IsTied l Bibliographic) row.1.fields) s.bibliographic) e m.ties in
    let fits : Each (IsFit all) all =
    subst (λ (l : List Linkable). Each (IsFit l) l) e (all_fit s.authorities m.authorities_ascend (recursion_from_All (IsRow Authority) s.authorities m.rows.0)) in
    let first = middle_rows all Authority s.authorities m.rows.0 ties.0 m.room.0 m.within.0 in
    let second = middle_rows all Bibliographic s.bibliographic m.rows.1 ties.1 m.room.1 m.within.1 in
    (fits, (first, second))

stage_at : (all : List Linkable) (change : Class → KeptField → KeptField) (s : State) → linkable_authorities s ≡ all → IsEitherStage all change → IsMiddle s → IsMiddleWith all (each_field change s)
unfolding each_field
stage_at all change s e either m =
    let parts = middle_parts all s e m in
    let fits = parts.0 in
    let first = parts.1.0 in
    let second = parts.1.1 in
    let stay : filter_map row_linkable (map (each_in_row (change Authority)) s.authorities) ≡ filter_map row_linkable s.authorities =
    linkables_stay (change Authority) s.authorities
    (each_weaker (IsMiddleRow all Authority) (λ (row : Row). Each (λ h. steady.IsSteady h.field (change Authority h).field) row.1.fields)
    (λ row x. each_weaker (IsTied all Authority) (λ h. steady.IsSteady h.field (change Authority h).field) (λ h t. steady_at all h (change Authority h) (either.either Authority h) t) row.1.fields x.ties)
    s.authorities first) in
    middle_from all (record { authorities = map (each_in_row (change Authority)) s.authorities; bibliographic = map (each_in_row (change Bibliographic)) s.bibliographic })
    (stay ∙ e)
    (ascend_changed (change Authority) s.authorities m.authorities_ascend) (ascend_changed (change Bibliographic) s.bibliographic m.bibliographic_ascend)
    (each_map (IsMiddleRow all Authority) (IsMiddleRow all Authority) (each_in_row (change Authority)) (handled_row all Authority fits (change Authority) (either.either Authority)) s.authorities first)
    (each_map (IsMiddleRow all Bibliographic) (IsMiddleRow all Bibliographic) (each_in_row (change Bibliographic)) (handled_row all Bibliographic fits (change Bibliographic) (either.either Bibliographic)) s.bibliographic second)

-- a stage that leaves each field or settles it leads between stages, and its authorities stay
pub stage_ready : (all : List Linkable) (change : Class → KeptField → KeptField) (s : State) → IsMiddleWith all s → IsEitherStage all change → IsMiddleWith all (each_field change s)
stage_ready all change s m either = stage_at all change s m.authorities_are either m.middle

-- ---- the stages

carry_at : (key : Key) (all : List Linkable) (class : Class) (h : KeptField) (b : Bool) → is_linked_to key h ≡ b → IsLeftOrSettled all class h (carry_by key (find (has_key key) all) class h)
carry_at key all class h true e = inr (carry_linked key all class h e)
carry_at key all class h false e = inl (carry_off key (find (has_key key) all) class h e)

pub carry_either : (key : Key) (all : List Linkable) → IsEitherStage all (carry_by key (find (has_key key) all))
carry_either key all = record { either = λ class h. carry_at key all class h (is_linked_to key h) refl }

choose_at : (all : List Linkable) (forms : List Form) (key : Key) (class : Class) (h : KeptField) (b : Bool) → is_waiting_for forms key class h ≡ b → IsLeftOrSettled all class h (choose_field all forms key class h)
choose_at all forms key class h true e = inr (choose_on all forms key class h e ∙ waits_unlinked all forms key class h h.tie.key refl e)
choose_at all forms key class h false e = inl (choose_off all forms key class h e)

pub choose_either : (all : List Linkable) (forms : List Form) (key : Key) → IsEitherStage all (choose_field all forms key)
choose_either all forms key = record { either = λ class h. choose_at all forms key class h (is_waiting_for forms key class h) refl }

pub settle_either : (all : List Linkable) → IsEitherStage all (settle_field all)
settle_either all = record { either = λ class h. inr refl }

pub within_fields : (all : List Linkable) (class : Class) (rows : List Row) → Each (IsFit all) all → All (λ (row : Row). All (IsTied all class) row.1.fields) rows →
    All (λ (row : Row). All (IsRewritten all class) row.1.fields) rows → All (λ (row : Row). All (IsWithinReach class) row.1.fields) rows
within_fields all class rows fits t r =
    let T = λ (row : Row). All (IsTied all class) row.1.fields in
    let R = λ (row : Row). All (IsRewritten all class) row.1.fields in
    all_fields (IsWithinReach class) rows
    (each_weaker (λ row. T row × R row) (λ (row : Row). Each (IsWithinReach class) row.1.fields)
    (λ row x. each_weaker (λ h. IsTied all class h × IsRewritten all class h) (IsWithinReach class) (field_within all class fits) row.1.fields
    (each_both (IsTied all class) (IsRewritten all class) row.1.fields (recursion_from_All (IsTied all class) row.1.fields x.0) (recursion_from_All (IsRewritten all class) row.1.fields x.1)))
    rows (each_both T R rows (recursion_from_All T rows t) (recursion_from_All R rows r)))

-- a valid state is one between stages
pub valid_middle : (s : State) → IsValid s → IsMiddle s
valid_middle s v =
    let all = linkable_authorities s in
    let fits = all_fit s.authorities v.authorities_ascend (recursion_from_All (IsRow Authority) s.authorities v.rows.0) in
    record {
      authorities_ascend = v.authorities_ascend;
      bibliographic_ascend = v.bibliographic_ascend;
      rows = v.rows;
      ties = v.ties;
      room = v.room;
      within = (within_fields all Authority s.authorities fits v.ties.0 v.rewritten.0, within_fields all Bibliographic s.bibliographic fits v.ties.1 v.rewritten.1);
    }

-- ---- a record stays one

size_less : (f : Field) → field_size f ≤ field_length f
unfolding field_size
size_less (Control tag text) = omega (arith, field_length-control tag text)
size_less (Variable tag ind1 ind2 subs) = omega (arith, field_length-variable tag ind1 ind2 subs)

sizes_less : (class : Class) (hs : List KeptField) → Each (IsWithinReach class) hs → fields_size (map (λ h. h.field) hs) ≤ sum_by (reach class) hs
sizes_less class [] w = omega arith
sizes_less class (h ∷ hs) w =
    let total = sum_by-cons (reach class) h hs in
    let own = size_less h.field in
    let within = w.0 in
    let rest = sizes_less class hs w.1 in
    omega arith

set_size : (fs : List Field) (i : ℕ) (f : Field) → fields_size (slice_set fs i f) ≤ fields_size fs + field_size f
set_size [] i f = omega arith
set_size (x ∷ fs) zero f = omega arith
set_size (x ∷ fs) (suc i) f = let rest = set_size fs i f in omega arith

set_length : (fs : List Field) (i : ℕ) (f : Field) → length (slice_set fs i f) ≡ length fs
set_length [] i f = refl
set_length (x ∷ fs) zero f = refl
set_length (x ∷ fs) (suc i) f = ap suc (set_length fs i f)

both_true : (a b : Bool) → a ≡ true → b ≡ true → (a && b) ≡ true
both_true a b p q = rw (p, q) refl

set_fields : (fs : List Field) (i : ℕ) (f : Field) → list_all is_field fs ≡ true → is_field f ≡ true → list_all is_field (slice_set fs i f) ≡ true
set_fields [] i f all own = refl
set_fields (x ∷ fs) zero f all own = both_true (is_field f) (list_all is_field fs) own (and_parts (is_field x) (list_all is_field fs) all).1
set_fields (x ∷ fs) (suc i) f all own =
    let parts = and_parts (is_field x) (list_all is_field fs) all in
    both_true (is_field x) (list_all is_field (slice_set fs i f)) parts.0 (set_fields fs i f parts.1 own)

set_record : (l : Leader) (fs : List Field) (i : ℕ) (f : Field) → is_record l fs ≡ true → is_field f ≡ true → fields_size fs + field_size f ≤ 1000000 → is_record l (slice_set fs i f) ≡ true
unfolding is_record
set_record l fs i f visited own few =
    let one = and_parts (is_leader l && list_all is_field fs && nat_le (length fs) 8331) (nat_le (fields_size fs) 1000000) visited in
    let two = and_parts (is_leader l && list_all is_field fs) (nat_le (length fs) 8331) one.0 in
    let three = and_parts (is_leader l) (list_all is_field fs) two.0 in
    let size = set_size fs i f in
    let most : fields_size (slice_set fs i f) ≤ 1000000 = omega arith in
    both_true (is_leader l && list_all is_field (slice_set fs i f) && nat_le (length (slice_set fs i f)) 8331) (nat_le (fields_size (slice_set fs i f)) 1000000)
    (both_true (is_leader l && list_all is_field (slice_set fs i f)) (nat_le (length (slice_set fs i f)) 8331)
    (both_true (is_leader l) (list_all is_field (slice_set fs i f)) three.0 (set_fields fs i f three.1 own))
    (ap (λ (n : ℕ). nat_le n 8331) (set_length fs i f) ∙ two.1))
    (le-leb (fields_size (slice_set fs i f)) 1000000 most)

-- a visited record with room stays a record with another field at one place
pub stays_record : (class : Class) (row : Row) (i : ℕ) (field : Field) → IsVisited class row field → StaysRecord i field row.1
stays_record class row i field v = λ within.
    let total = sizes_less class row.1.fields (recursion_from_All (IsWithinReach class) row.1.fields v.within) in
    let fits = v.room.record_fits in
    let own = size_less field in
    let short = v.short in
    set_record row.1.leader (fields_of row.1) i field v.visited v.proper (omega arith)

-- ---- the own fields

own_row_ready : (all : List Linkable) (class : Class) (key : Key) → Each (IsFit all) all → (row : Row) → IsMiddleRow all class row → IsMiddleRow all class (in_own_row key (settle_field all class) row)
own_row_ready all class key fits row m = at (same_key key row.0)
  where
    at : (b : Bool) → IsMiddleRow all class (if b then each_in_row (settle_field all class) row else row)
    at true = handled_row all class fits (settle_field all class) (λ h. inr refl) row m
    at false = m

own_linkable : (all : List Linkable) (key : Key) (row : Row) (b : Bool) → Each (IsTied all Authority) row.1.fields →
    row_linkable (if b then each_in_row (settle_field all Authority) row else row) ≡ row_linkable row
own_linkable all key row true t =
    linkable_stays (settle_field all Authority) row
    (each_weaker (IsTied all Authority) (λ h. steady.IsSteady h.field (settle_field all Authority h).field) (λ h x. steady_field all h (link_of_heading all Authority h x)) row.1.fields t)
own_linkable all key row false t = refl

own_linkables : (all : List Linkable) (key : Key) (rows : List Row) → Each (IsMiddleRow all Authority) rows →
    filter_map row_linkable (map (in_own_row key (settle_field all Authority)) rows) ≡ filter_map row_linkable rows
own_linkables all key [] a = refl
own_linkables all key (row ∷ rows) a =
    ap (λ (o : Option Linkable). cons_option o (filter_map row_linkable (map (in_own_row key (settle_field all Authority)) rows))) (own_linkable all key row (same_key key row.0) a.0.ties)
    ∙ ap (cons_option (row_linkable row)) (own_linkables all key rows a.1)

own_keys : (key : Key) (f : KeptField → KeptField) (row : Row) (b : Bool) → (if b then each_in_row f row else row).0 ≡ row.0
own_keys key f row true = refl
own_keys key f row false = refl

own_all_keys : (key : Key) (f : KeptField → KeptField) (rows : List Row) → keys_of rows ≡ keys_of (map (in_own_row key f) rows)
own_all_keys key f [] = refl
own_all_keys key f (row ∷ rows) = λ i. sym (own_keys key f row (same_key key row.0)) i ∷ own_all_keys key f rows i

own_ascends : (key : Key) (f : KeptField → KeptField) (rows : List Row) → IsAscending rows → IsAscending (map (in_own_row key f) rows)
own_ascends key f rows s = subst (λ (keys : List Key). IsStrictlySortedBy key_cmp keys) (own_all_keys key f rows) s

own_at : (all : List Linkable) (class : Class) (key : Key) (s : State) → linkable_authorities s ≡ all → IsMiddle s → IsMiddleWith all (settle_own all class key s)
unfolding settle_own
own_at all Authority key s e m =
    let parts = middle_parts all s e m in
    let fits = parts.0 in
    let first = parts.1.0 in
    let second = parts.1.1 in
    middle_from all (record { authorities = map (in_own_row key (settle_field all Authority)) s.authorities; bibliographic = s.bibliographic })
    (own_linkables all key s.authorities first ∙ e) (own_ascends key (settle_field all Authority) s.authorities m.authorities_ascend) m.bibliographic_ascend
    (each_map (IsMiddleRow all Authority) (IsMiddleRow all Authority) (in_own_row key (settle_field all Authority)) (own_row_ready all Authority key fits) s.authorities first) second
own_at all Bibliographic key s e m =
    let parts = middle_parts all s e m in
    let fits = parts.0 in
    let first = parts.1.0 in
    let second = parts.1.1 in
    middle_from all (record { authorities = s.authorities; bibliographic = map (in_own_row key (settle_field all Bibliographic)) s.bibliographic })
    e m.authorities_ascend (own_ascends key (settle_field all Bibliographic) s.bibliographic m.bibliographic_ascend)
    first (each_map (IsMiddleRow all Bibliographic) (IsMiddleRow all Bibliographic) (in_own_row key (settle_field all Bibliographic)) (own_row_ready all Bibliographic key fits) s.bibliographic second)

-- settling the own fields leads from one state between stages to another
pub own_ready : (all : List Linkable) (class : Class) (key : Key) (s : State) → IsMiddleWith all s → IsMiddleWith all (settle_own all class key s)
own_ready all class key s m = own_at all class key s m.authorities_are m.middle
