-- A commit is its stages, one after another.
use Rattle.std.proofs.Common.{◌≡◌, Bool, true, false, List, [], ◌∷◌, map, Option, Some, None, refl, sym, ap, ◌∙◌, if◌then◌else◌}
use Rattle.std.specs.Prelude.{All, find}
use Rattle.std.proofs.lemmas.List.Elements.{All-from_recursion, recursion_from_All}
use Rattle.marc_types.specs.declared.field.Field.{Field}
use Rattle.marc_types.specs.declared.key.Class.{Class}
use Rattle.marc_types.specs.declared.key.Class.TheVariants.{Authority, Bibliographic}
use Rattle.marc_types.specs.declared.key.Key.{Key}
use Rattle.marc_types.specs.declared.entry.Entry.{Entry}
use Rattle.marc_types.specs.Order.{same_key}
use Rattle.entry_record.specs.Authority.{Linkable}
use Rattle.catalogue_rules.specs.State.{KeptField, Row, State, new_field, new_record, linkable_authorities, each_in_row, each_field}
use Rattle.catalogue_rules.specs.Choice.{has_key}
use Rattle.catalogue_rules.specs.Settle.{Arrival, place, loosen, settle_field, step}
use Rattle.entry_record.specs.History.{IsAdmitted}
use Rattle.catalogue_rules.specs.Settle.{arrival_of}
use Rattle.catalogue_rules.specs.Valid.{EachField, IsAscending, IsRow, IsTied, IsRewritten, IsSettled, IsValid}
use Rattle.catalogue_rules.proofs.Elements.{Each, each_weaker, each_both}
use Rattle.catalogue_rules.proofs.Fit.{IsFit}
use Rattle.catalogue_rules.proofs.Proper.{all_fit}
use Rattle.catalogue_rules.proofs.States.{IsFitArrival, fit_entry}
use Rattle.catalogue_rules.proofs.Still.{field_same}
use Rattle.linking_laws.specs.Behind.{placed_in, ended_in, row_behind, state_behind}
use Rattle.linking_laws.specs.Waiting.{forms_touched}
use Rattle.linking_laws.specs.Stages.{dropping_by, successor_in, drop_by, carry_by, choose_field, in_own_row, settle_own, by_stages, field_by_stages}
use Rattle.linking_laws.specs.Commits.{CanBeCommitted, IsSound, IsChosenAlike, StaysUntouched, authorities_behind, field_behind, field_staged, state_staged, placed_by}
use Rattle.linking_laws.proofs.Commits.{valid_ready, placed_fit, step_behind}
use Rattle.linking_laws.proofs.Others.{own_key, others_place, each_placed, successor_gone}
use Rattle.linking_laws.proofs.Touched.{IsTurn, field_touched, new_by_stages, unlinked_elsewhere, untouched_stays}

-- ---- maps in turn

three_maps : {A : Type 0} (p q r g : A → A) (xs : List A) → Each (λ x. p (q (r x)) ≡ g x) xs → map p (map q (map r xs)) ≡ map g xs
three_maps p q r g [] a = refl
three_maps p q r g (x ∷ xs) a = λ i. a.0 i ∷ three_maps p q r g xs a.1 i

four_maps : {A : Type 0} (p q r t g : A → A) (xs : List A) → Each (λ x. p (q (r (t x))) ≡ g x) xs → map p (map q (map r (map t xs))) ≡ map g xs
four_maps p q r t g [] a = refl
four_maps p q r t g (x ∷ xs) a = λ i. a.0 i ∷ four_maps p q r t g xs a.1 i

one_map : {A : Type 0} (p g : A → A) (xs : List A) → Each (λ x. p x ≡ g x) xs → map p xs ≡ map g xs
one_map p g [] a = refl
one_map p g (x ∷ xs) a = λ i. a.0 i ∷ one_map p g xs a.1 i

same_map : {A : Type 0} (g : A → A) (xs : List A) → Each (λ x. x ≡ g x) xs → xs ≡ map g xs
same_map g [] a = refl
same_map g (x ∷ xs) a = λ i. a.0 i ∷ same_map g xs a.1 i

two_maps : {A : Type 0} (p q g : A → A) (xs : List A) → Each (λ x. p (q x) ≡ g x) xs → map p (map q xs) ≡ map g xs
two_maps p q g [] a = refl
two_maps p q g (x ∷ xs) a = λ i. a.0 i ∷ two_maps p q g xs a.1 i

each_of : {A : Type 0} {P : A → Type 0} → ((x : A) → P x) → (xs : List A) → Each P xs
each_of f [] = tt
each_of f (x ∷ xs) = (f x, each_of f xs)

-- a change of fields that is two changes
fields_two : (f p q : KeptField → KeptField) (hs : List KeptField) → Each (λ h. f h ≡ p (q h)) hs → map f hs ≡ map p (map q hs)
fields_two f p q [] a = refl
fields_two f p q (h ∷ hs) a = λ i. a.0 i ∷ fields_two f p q hs a.1 i

-- ---- sound rows

sound_row : (all : List Linkable) (class : Class) (row : Row) →
    (All (IsTied all class) row.1.fields × All (IsRewritten all class) row.1.fields) × All (IsSettled all class) row.1.fields → Each (IsSound all class) row.1.fields
sound_row all class row x =
    each_weaker (λ h. (IsTied all class h × IsRewritten all class h) × IsSettled all class h) (IsSound all class)
    (λ h y. record { tied = y.0.0; settled = field_same all class h y.0.0 y.0.1 y.1 }) row.1.fields
    (each_both (λ h. IsTied all class h × IsRewritten all class h) (IsSettled all class) row.1.fields
    (each_both (IsTied all class) (IsRewritten all class) row.1.fields (recursion_from_All (IsTied all class) row.1.fields x.0.0) (recursion_from_All (IsRewritten all class) row.1.fields x.0.1))
    (recursion_from_All (IsSettled all class) row.1.fields x.1))

sound_rows : (all : List Linkable) (class : Class) (rows : List Row) → All (λ (row : Row). All (IsTied all class) row.1.fields) rows →
    All (λ (row : Row). All (IsRewritten all class) row.1.fields) rows → All (λ (row : Row). All (IsSettled all class) row.1.fields) rows →
    Each (λ (row : Row). Each (IsSound all class) row.1.fields) rows
sound_rows all class rows t r s =
    let X = λ (row : Row). All (IsTied all class) row.1.fields in
    let Y = λ (row : Row). All (IsRewritten all class) row.1.fields in
    let Z = λ (row : Row). All (IsSettled all class) row.1.fields in
    each_weaker (λ row. (X row × Y row) × Z row) (λ (row : Row). Each (IsSound all class) row.1.fields) (sound_row all class) rows
    (each_both (λ row. X row × Y row) Z rows (each_both X Y rows (recursion_from_All X rows t) (recursion_from_All Y rows r)) (recursion_from_All Z rows s))

pub sound_authorities : (s : State) → IsValid s → Each (λ (row : Row). Each (IsSound (linkable_authorities s) Authority) row.1.fields) s.authorities
sound_authorities s v = sound_rows (linkable_authorities s) Authority s.authorities v.ties.0 v.rewritten.0 v.settled.0

pub sound_bibliographic : (s : State) → IsValid s → Each (λ (row : Row). Each (IsSound (linkable_authorities s) Bibliographic) row.1.fields) s.bibliographic
sound_bibliographic s v = sound_rows (linkable_authorities s) Bibliographic s.bibliographic v.ties.1 v.rewritten.1 v.settled.1

-- ---- the authorities before and now

pub before_fit : (s : State) → IsValid s → Each (IsFit (linkable_authorities s)) (linkable_authorities s)
before_fit s v = all_fit s.authorities v.authorities_ascend (recursion_from_All (IsRow Authority) s.authorities v.rows.0)

pub turn_of : (a : Arrival) (s : State) → a.class ≡ Authority → IsFitArrival a → IsValid s → IsTurn a.key (successor_in a) (linkable_authorities s) (linkable_authorities (placed_in Authority a s))
turn_of a s e fit v = record {
  before_fit = before_fit s v;
  now_fit = placed_fit Authority a s e fit (valid_ready s v);
  others = others_place a s.authorities;
  gone = successor_gone a s.authorities v.authorities_ascend;
}

-- ---- an authority's commit, row by row

module _ (key : Key) (successor : Option Key) (before now : List Linkable) (turn : IsTurn key successor before now) where
  abbrev drops : Class → KeptField → KeptField
  drops class = drop_by (dropping_by (find (has_key key) before) (find (has_key key) now)) now key successor class

  abbrev carries : Class → KeptField → KeptField
  carries class = carry_by key (find (has_key key) now) class

  abbrev chooses : Class → KeptField → KeptField
  chooses class = choose_field now (forms_touched key before now) key class

  abbrev behind : Class → Row → Row
  behind class row = row_behind now (Some (key, successor)) class row

  field_is : (class : Class) (h : KeptField) → IsSound before class h → chooses class (carries class (drops class h)) ≡ settle_field now class (loosen now key successor class h)
  unfolding field_by_stages
  field_is class h sound = field_touched key successor before now turn class h sound

  fields_three : (class : Class) (hs : List KeptField) → Each (IsSound before class) hs →
      map (chooses class) (map (carries class) (map (drops class) hs)) ≡ map (settle_field now class) (map (loosen now key successor class) hs)
  fields_three class [] a = refl
  fields_three class (h ∷ hs) a = λ i. field_is class h a.0 i ∷ fields_three class hs a.1 i

  other_row : (class : Class) (row : Row) → Each (IsSound before class) row.1.fields →
      each_in_row (chooses class) (each_in_row (carries class) (each_in_row (drops class) row)) ≡ behind class row
  other_row class row sound = λ i. (row.0, record { leader = row.1.leader; fields = fields_three class row.1.fields sound i })

  apart_row : (class : Class) (row : Row) → Each (IsSound before class) row.1.fields → same_key key row.0 ≡ false →
      each_in_row (chooses class) (in_own_row key (settle_field now class) (each_in_row (carries class) (each_in_row (drops class) row))) ≡ behind class row
  apart_row class row sound apart =
      let x = each_in_row (carries class) (each_in_row (drops class) row) in
      ap (λ (b : Bool). each_in_row (chooses class) (if b then each_in_row (settle_field now class) x else x)) apart ∙ other_row class row sound

  fields_new : (class : Class) (fs : List Field) →
      map (chooses class) (map (settle_field now class) (map (carries class) (map (drops class) (map new_field fs)))) ≡ map (settle_field now class) (map (loosen now key successor class) (map new_field fs))
  fields_new class [] = refl
  fields_new class (f ∷ fs) = λ i. new_by_stages key successor before now turn class (new_field f) refl refl i ∷ fields_new class fs i

  own_row : (class : Class) (a : Arrival) → same_key key a.key ≡ true →
      each_in_row (chooses class) (in_own_row key (settle_field now class) (each_in_row (carries class) (each_in_row (drops class) (a.key, new_record a.leader a.fields))))
      ≡ behind class (a.key, new_record a.leader a.fields)
  own_row class a own =
      let row : Row = (a.key, new_record a.leader a.fields) in
      let x = each_in_row (carries class) (each_in_row (drops class) row) in
      ap (λ (b : Bool). each_in_row (chooses class) (if b then each_in_row (settle_field now class) x else x)) own
      ∙ (λ i. (a.key, record { leader = a.leader; fields = fields_new class a.fields i }))

stages_rows : (a : Arrival) (s : State) (before now : List Linkable) → IsTurn a.key (successor_in a) before now → IsAscending s.authorities →
    Each (λ (row : Row). Each (IsSound before Authority) row.1.fields) s.authorities → Each (λ (row : Row). Each (IsSound before Bibliographic) row.1.fields) s.bibliographic →
    by_stages a before now (placed_in Authority a s) ≡ state_behind now (ended_in Authority a) (placed_in Authority a s)
unfolding by_stages each_field settle_own
stages_rows a s before now turn order authorities bibliographic =
    let key = a.key in
    let successor = successor_in a in
    let one = λ (class : Class) (row : Row).
    each_in_row (choose_field now (forms_touched key before now) key class) (in_own_row key (settle_field now class) (each_in_row (carry_by key (find (has_key key) now) class)
    (each_in_row (drop_by (dropping_by (find (has_key key) before) (find (has_key key) now)) now key successor class) row))) ≡ row_behind now (Some (key, successor)) class row in
    let first = four_maps (each_in_row (choose_field now (forms_touched key before now) key Authority)) (in_own_row key (settle_field now Authority))
    (each_in_row (carry_by key (find (has_key key) now) Authority)) (each_in_row (drop_by (dropping_by (find (has_key key) before) (find (has_key key) now)) now key successor Authority))
    (row_behind now (Some (key, successor)) Authority) (place a s.authorities)
    (each_placed (one Authority) a s.authorities (own_row key successor before now turn Authority a (own_key key)) order
    (each_weaker (λ (row : Row). Each (IsSound before Authority) row.1.fields) (λ row. same_key a.key row.0 ≡ false → one Authority row)
    (apart_row key successor before now turn Authority) s.authorities authorities)) in
    let second = three_maps (each_in_row (choose_field now (forms_touched key before now) key Bibliographic))
    (each_in_row (carry_by key (find (has_key key) now) Bibliographic)) (each_in_row (drop_by (dropping_by (find (has_key key) before) (find (has_key key) now)) now key successor Bibliographic))
    (row_behind now (Some (key, successor)) Bibliographic) s.bibliographic
    (each_weaker (λ (row : Row). Each (IsSound before Bibliographic) row.1.fields)
    (λ (row : Row). each_in_row (choose_field now (forms_touched key before now) key Bibliographic) (each_in_row (carry_by key (find (has_key key) now) Bibliographic)
    (each_in_row (drop_by (dropping_by (find (has_key key) before) (find (has_key key) now)) now key successor Bibliographic) row)) ≡ row_behind now (Some (key, successor)) Bibliographic row)
    (other_row key successor before now turn Bibliographic) s.bibliographic bibliographic) in
    λ i. record { authorities = first i; bibliographic = second i }

-- an authority's commit is its stages
pub authority_by_stages : (s : State) (e : Entry) → IsValid s → IsAdmitted e → e.class ≡ Authority →
    step s (arrival_of e) ≡ by_stages (arrival_of e) (linkable_authorities s) (linkable_authorities (placed_in Authority (arrival_of e) s)) (placed_in Authority (arrival_of e) s)
authority_by_stages s e v admitted is =
    let a = arrival_of e in
    step_behind s e v admitted
    ∙ ap (λ (k : Class). state_behind (linkable_authorities (placed_in k a s)) (ended_in k a) (placed_in k a s)) is
    ∙ sym (stages_rows a s (linkable_authorities s) (linkable_authorities (placed_in Authority a s)) (turn_of a s is (fit_entry e admitted) v)
    v.authorities_ascend (sound_authorities s v) (sound_bibliographic s v))

-- ---- a bibliographic commit

settled_fields : (all : List Linkable) (class : Class) (hs : List KeptField) → Each (IsSound all class) hs → hs ≡ map (settle_field all class) (map (λ h. h) hs)
settled_fields all class [] a = refl
settled_fields all class (h ∷ hs) a = λ i. sym a.0.settled i ∷ settled_fields all class hs a.1 i

settled_row : (all : List Linkable) (class : Class) (row : Row) → Each (IsSound all class) row.1.fields → row ≡ row_behind all None class row
settled_row all class row sound = λ i. (row.0, record { leader = row.1.leader; fields = settled_fields all class row.1.fields sound i })

idle_fields : (all : List Linkable) (class : Class) (hs : List KeptField) → map (settle_field all class) hs ≡ map (settle_field all class) (map (λ h. h) hs)
idle_fields all class [] = refl
idle_fields all class (h ∷ hs) = λ i. settle_field all class h ∷ idle_fields all class hs i

own_settled : (all : List Linkable) (key : Key) (class : Class) (row : Row) → same_key key row.0 ≡ true → in_own_row key (settle_field all class) row ≡ row_behind all None class row
own_settled all key class row own =
    ap (λ (b : Bool). if b then each_in_row (settle_field all class) row else row) own
    ∙ (λ i. (row.0, record { leader = row.1.leader; fields = idle_fields all class row.1.fields i }))

apart_settled : (all : List Linkable) (key : Key) (class : Class) (row : Row) → Each (IsSound all class) row.1.fields → same_key key row.0 ≡ false →
    in_own_row key (settle_field all class) row ≡ row_behind all None class row
apart_settled all key class row sound apart =
    ap (λ (b : Bool). if b then each_in_row (settle_field all class) row else row) apart ∙ settled_row all class row sound

own_rows : (a : Arrival) (s : State) (all : List Linkable) → IsAscending s.bibliographic →
    Each (λ (row : Row). Each (IsSound all Authority) row.1.fields) s.authorities → Each (λ (row : Row). Each (IsSound all Bibliographic) row.1.fields) s.bibliographic →
    settle_own all Bibliographic a.key (placed_in Bibliographic a s) ≡ state_behind all None (placed_in Bibliographic a s)
unfolding settle_own
own_rows a s all order authorities bibliographic =
    let first = same_map (row_behind all None Authority) s.authorities
    (each_weaker (λ (row : Row). Each (IsSound all Authority) row.1.fields) (λ row. row ≡ row_behind all None Authority row) (settled_row all Authority) s.authorities authorities) in
    let One = λ (row : Row). in_own_row a.key (settle_field all Bibliographic) row ≡ row_behind all None Bibliographic row in
    let second = one_map (in_own_row a.key (settle_field all Bibliographic)) (row_behind all None Bibliographic) (place a s.bibliographic)
    (each_placed One a s.bibliographic (own_settled all a.key Bibliographic (a.key, new_record a.leader a.fields) (own_key a.key)) order
    (each_weaker (λ (row : Row). Each (IsSound all Bibliographic) row.1.fields) (λ row. same_key a.key row.0 ≡ false → One row)
    (apart_settled all a.key Bibliographic) s.bibliographic bibliographic)) in
    λ i. record { authorities = first i; bibliographic = second i }

-- a bibliographic commit settles the committed record alone
pub bibliographic_by_stages : (s : State) (e : Entry) → IsValid s → IsAdmitted e → e.class ≡ Bibliographic →
    step s (arrival_of e) ≡ settle_own (linkable_authorities s) Bibliographic e.key (placed_in Bibliographic (arrival_of e) s)
bibliographic_by_stages s e v admitted is =
    let a = arrival_of e in
    step_behind s e v admitted
    ∙ ap (λ (k : Class). state_behind (linkable_authorities (placed_in k a s)) (ended_in k a) (placed_in k a s)) is
    ∙ sym (own_rows a s (linkable_authorities s) v.bibliographic_ascend (sound_authorities s v) (sound_bibliographic s v))

-- ---- the laws of a commit

pub turn_by : (s : State) (e : Entry) → CanBeCommitted Authority s e → IsTurn e.key (successor_in (arrival_of e)) (linkable_authorities s) (authorities_behind s e)
turn_by s e c = turn_of (arrival_of e) s c.class_is (fit_entry e c.admitted) c.valid

pub chosen_alike : (s : State) (e : Entry) (class : Class) (h : KeptField) → CanBeCommitted Authority s e → IsChosenAlike s e class h
chosen_alike s e class h c = λ unlinked w.
    unlinked_elsewhere e.key (successor_in (arrival_of e)) (linkable_authorities s) (authorities_behind s e) (turn_by s e c) class h unlinked w

pub staged_field : (s : State) (e : Entry) (class : Class) (h : KeptField) → CanBeCommitted Authority s e → IsSound (linkable_authorities s) class h → field_staged s e class h ≡ field_behind s e class h
staged_field s e class h c sound = field_touched e.key (successor_in (arrival_of e)) (linkable_authorities s) (authorities_behind s e) (turn_by s e c) class h sound

pub untouched_field : (s : State) (e : Entry) (class : Class) (h : KeptField) → CanBeCommitted Authority s e → IsSound (linkable_authorities s) class h → StaysUntouched s e class h
untouched_field s e class h c sound = λ untouched.
    untouched_stays e.key (successor_in (arrival_of e)) (linkable_authorities s) (authorities_behind s e) (turn_by s e c) class h sound untouched

pub staged_state : (s : State) (e : Entry) → CanBeCommitted Authority s e → step s (arrival_of e) ≡ state_staged s e
staged_state s e c = authority_by_stages s e c.valid c.admitted c.class_is

pub settled_state : (s : State) (e : Entry) → CanBeCommitted Bibliographic s e → step s (arrival_of e) ≡ settle_own (linkable_authorities s) Bibliographic e.key (placed_by Bibliographic s e)
settled_state s e c = bibliographic_by_stages s e c.valid c.admitted c.class_is

all_sound : (all : List Linkable) (class : Class) (rows : List Row) → Each (λ (row : Row). Each (IsSound all class) row.1.fields) rows → All (λ (row : Row). All (IsSound all class) row.1.fields) rows
all_sound all class rows a =
    All-from_recursion (λ (row : Row). All (IsSound all class) row.1.fields) rows
    (each_weaker (λ (row : Row). Each (IsSound all class) row.1.fields) (λ (row : Row). All (IsSound all class) row.1.fields) (λ row b. All-from_recursion (IsSound all class) row.1.fields b) rows a)

pub every_sound : (s : State) → IsValid s → EachField (IsSound (linkable_authorities s)) s
every_sound s v =
    (all_sound (linkable_authorities s) Authority s.authorities (sound_authorities s v), all_sound (linkable_authorities s) Bibliographic s.bibliographic (sound_bibliographic s v))
