-- The visits of a commit's stages at one field are within what the field weighs.
use Rattle.std.proofs.Common.{◌≡◌, ℕ, ◌+◌, ◌*◌, ◌≤◌, Bool, true, false, ◌&&◌, ◌||◌, not, List, Option, Some, None, is_some, refl, sym, ap, ◌∙◌, if◌then◌else◌, arith}
use Rattle.std.specs.Prelude.{find}
use Rattle.std.specs.List.{list_any}
use Rattle.std.specs.Option.{option_map_or}
use Rattle.marc_types.specs.declared.key.Class.{Class}
use Rattle.marc_types.specs.declared.key.Key.{Key}
use Rattle.marc_types.specs.declared.form.Kind.{Kind}
use Rattle.marc_types.specs.declared.form.Form.{Form}
use Rattle.heading_fields.specs.Numbers.{is_naming}
use Rattle.marc_types.specs.Fields.{subfields_of}
use Rattle.marc_types.specs.Order.{same_key}
use Rattle.entry_record.specs.Authority.{Linkable, heading_kind, is_heading_field}
use Rattle.catalogue_rules.specs.State.{KeptField}
use Rattle.catalogue_rules.specs.Choice.{has_key, choice}
use Rattle.catalogue_rules.specs.Settle.{is_linked_to, awaits_key, end_link, await, loosen, take_choice, settle_unlinked, settle_field}
use Rattle.linking_laws.specs.Waiting.{asks_for, names_key, is_named, is_waiting_for, forms_touched}
use Rattle.linking_laws.specs.Commits.{IsSound}
use Rattle.linking_laws.specs.Stages.{Dropping, DropNone, DropBases, DropAll, dropping_by, drop_by, carry_by}
use Rattle.linking_laws.specs.Weights.{one_if, weight, linked_weight, touched_weight, own_weight}
use Rattle.linking_laws.specs.Visits.{link_visit, waits_for_key, drop_visits, drop_visits_by, carry_visits, own_visits, choose_visits}
use Rattle.linking_laws.proofs.Touched.{IsTurn, waiting_unlinked, waiting_linked, settle_of_unlinked, linked_to, unlinked_to, carry_off, link_is, once, own_carried, handed_carried, not_handed, not_awaiting, awaits_off, some_heading, awaits_some}

-- ---- a few at most

pub one_at_most : (b : Bool) → one_if b ≤ 1
one_at_most true = omega arith
one_at_most false = omega arith

pub weight_some : (h : KeptField) → 1 ≤ weight h
unfolding weight
weight_some h = omega arith

linked_weight_some : (successor : Option Key) (h : KeptField) → 1 ≤ linked_weight successor h
unfolding linked_weight
linked_weight_some successor h = omega arith

or_none_most : (b : Bool) (n : ℕ) → n ≤ 1 → 1 + (if b then 0 else n) ≤ 2
or_none_most true n e = omega arith
or_none_most false n e = omega arith

and_one_most : (b : Bool) (n : ℕ) → n ≤ 1 → 1 + (if b then n else 0) ≤ 2
and_one_most true n e = omega arith
and_one_most false n e = omega arith

handed_most : (now : List Linkable) (class : Class) (h : KeptField) (o : Option Key) → option_map_or (λ other. link_visit now class (await h other)) o 0 ≤ 1
handed_most now class h None = omega arith
handed_most now class h (Some other) = one_at_most (is_some (settle_unlinked now class (await h other)).tie.key)

three_most : (a b : Bool) (m n : ℕ) → m ≤ 2 → n ≤ 2 → (if a then m else if b then n else 0) ≤ 2
three_most true b m n p q = p
three_most false true m n p q = q
three_most false false m n p q = omega arith

drop_most : (now : List Linkable) (key : Key) (only_base : Bool) (successor : Option Key) (class : Class) (h : KeptField) → drop_visits now key only_base successor class h ≤ 2
unfolding drop_visits
drop_most now key only_base successor class h =
    three_most (is_linked_to key h) (is_some successor && waits_for_key key class h) _ _
    (or_none_most (only_base && h.tie.whole) (link_visit now class (end_link key successor h)) (one_at_most (is_some (settle_unlinked now class (end_link key successor h)).tie.key)))
    (and_one_most (awaits_key key h) _ (handed_most now class h successor))

drop_by_most : (d : Dropping) (now : List Linkable) (key : Key) (successor : Option Key) (class : Class) (h : KeptField) → drop_visits_by d now key successor class h ≤ 2
drop_by_most DropNone now key successor class h = omega arith
drop_by_most DropBases now key successor class h = drop_most now key true successor class h
drop_by_most DropAll now key successor class h = drop_most now key false successor class h

drop_none_at : (a b : Bool) (m n : ℕ) → a ≡ false → b ≡ false → (if a then m else if b then n else 0) ≡ 0
drop_none_at a b m n p q = rw (p, q) refl

drop_none : (now : List Linkable) (key : Key) (only_base : Bool) (successor : Option Key) (class : Class) (h : KeptField) → is_linked_to key h ≡ false →
    (is_some successor && waits_for_key key class h) ≡ false → drop_visits now key only_base successor class h ≡ 0
unfolding drop_visits
drop_none now key only_base successor class h off calm = drop_none_at (is_linked_to key h) (is_some successor && waits_for_key key class h) _ _ off calm

pub drop_by_none : (d : Dropping) (now : List Linkable) (key : Key) (successor : Option Key) (class : Class) (h : KeptField) → is_linked_to key h ≡ false →
    (is_some successor && waits_for_key key class h) ≡ false → drop_visits_by d now key successor class h ≡ 0
drop_by_none DropNone now key successor class h off calm = refl
drop_by_none DropBases now key successor class h off calm = drop_none now key true successor class h off calm
drop_by_none DropAll now key successor class h off calm = drop_none now key false successor class h off calm

carry_most : (key : Key) (o : Option Linkable) (class : Class) (h : KeptField) → carry_visits key o class h ≤ 1
carry_most key None class h = omega arith
carry_most key (Some c) class h = one_at_most (is_linked_to key h)

pub carry_none : (key : Key) (o : Option Linkable) (class : Class) (h : KeptField) → is_linked_to key h ≡ false → carry_visits key o class h ≡ 0
carry_none key None class h e = refl
carry_none key (Some c) class h e = ap one_if e

choose_at_most : (b : Bool) (n : ℕ) → n ≤ 1 → (if b then 1 + n else 0) ≤ 2
choose_at_most true n e = omega arith
choose_at_most false n e = omega arith

choose_most : (now : List Linkable) (forms : List Form) (key : Key) (class : Class) (h : KeptField) → choose_visits now forms key class h ≤ 2
unfolding choose_visits
choose_most now forms key class h = choose_at_most (is_waiting_for forms key class h) (link_visit now class h) (one_at_most (is_some (settle_unlinked now class h).tie.key))

pub choose_none : (now : List Linkable) (forms : List Form) (key : Key) (class : Class) (h : KeptField) → is_waiting_for forms key class h ≡ false → choose_visits now forms key class h ≡ 0
unfolding choose_visits
choose_none now forms key class h e = ap (λ (b : Bool). if b then 1 + link_visit now class h else 0) e

choose_one : (b : Bool) (n : ℕ) → n ≡ 0 → (if b then 1 + n else 0) ≤ 1
choose_one true n e = omega arith
choose_one false n e = omega arith

no_link_visit : (now : List Linkable) (class : Class) (h : KeptField) → h.tie.key ≡ None → settle_field now class h ≡ h → link_visit now class h ≡ 0
no_link_visit now class h e settled =
    ap (λ (x : KeptField). one_if (is_some x.tie.key)) (sym (settle_of_unlinked now class h e) ∙ settled) ∙ ap (λ (o : Option Key). one_if (is_some o)) e

settled_at : (now : List Linkable) (forms : List Form) (key : Key) (class : Class) (h : KeptField) (o : Option Key) → h.tie.key ≡ o → settle_field now class h ≡ h →
    choose_visits now forms key class h ≤ 1
unfolding choose_visits
settled_at now forms key class h None e settled = choose_one (is_waiting_for forms key class h) (link_visit now class h) (no_link_visit now class h e settled)
settled_at now forms key class h (Some own) e settled =
    let none = ap (λ (b : Bool). if b then 1 + link_visit now class h else 0) (waiting_linked forms key own class h e) in omega arith

-- a settled field is named once more at most
pub settled_visit : (now : List Linkable) (forms : List Form) (key : Key) (class : Class) (h : KeptField) → settle_field now class h ≡ h → choose_visits now forms key class h ≤ 1
settled_visit now forms key class h settled = settled_at now forms key class h h.tie.key refl settled

-- ---- what a field weighs

weighs : (a b c : Bool) (m n k : ℕ) → ℕ
weighs a b c m n k = if a then m else if b then (if c then n else k) else 0

weighs_linked : (a b c : Bool) (m n k : ℕ) → a ≡ true → m ≤ (if a then m else if b then (if c then n else k) else 0)
weighs_linked a b c m n k e = rw e (omega arith)

weighs_waiting : (a b c : Bool) (m n k : ℕ) → a ≡ false → b ≡ true → c ≡ true → n ≤ (if a then m else if b then (if c then n else k) else 0)
weighs_waiting a b c m n k e f g = rw (e, f, g) (omega arith)

weighs_once : (a b c : Bool) (m n k : ℕ) → a ≡ false → b ≡ true → c ≡ false → k ≤ (if a then m else if b then (if c then n else k) else 0)
weighs_once a b c m n k e f g = rw (e, f, g) (omega arith)

linked_touch : (forms : List Form) (key : Key) (successor : Option Key) (class : Class) (h : KeptField) → is_linked_to key h ≡ true → 4 ≤ touched_weight forms key successor class h
unfolding touched_weight
linked_touch forms key successor class h e =
    let some = linked_weight_some successor h in
    let is = weighs_linked (is_linked_to key h) (is_waiting_for forms key class h) (is_some successor && names_key key h) (2 * (1 + linked_weight successor h)) (2 * (1 + weight h)) (1 + weight h) e in
    omega arith

twice_touch : (forms : List Form) (key : Key) (successor : Option Key) (class : Class) (h : KeptField) → is_linked_to key h ≡ false → is_waiting_for forms key class h ≡ true →
    (is_some successor && names_key key h) ≡ true → 4 ≤ touched_weight forms key successor class h
unfolding touched_weight
twice_touch forms key successor class h e w n =
    let some = weight_some h in
    let is = weighs_waiting (is_linked_to key h) (is_waiting_for forms key class h) (is_some successor && names_key key h) (2 * (1 + linked_weight successor h)) (2 * (1 + weight h)) (1 + weight h) e w n in
    omega arith

once_touch : (forms : List Form) (key : Key) (successor : Option Key) (class : Class) (h : KeptField) → is_linked_to key h ≡ false → is_waiting_for forms key class h ≡ true →
    (is_some successor && names_key key h) ≡ false → 2 ≤ touched_weight forms key successor class h
unfolding touched_weight
once_touch forms key successor class h e w n =
    let some = weight_some h in
    let is = weighs_once (is_linked_to key h) (is_waiting_for forms key class h) (is_some successor && names_key key h) (2 * (1 + linked_weight successor h)) (2 * (1 + weight h)) (1 + weight h) e w n in
    omega arith

-- ---- one field

no_name : (s w n : Bool) → (w ≡ true → n ≡ true) → (s && n) ≡ false → (s && w) ≡ false
no_name true true n up e = let on = up refl in cc
no_name true false n up e = refl
no_name false w n up e = refl

key_named : (a b n : Bool) → (a && (b && n)) ≡ true → n ≡ true
key_named true true n e = e
key_named true false n e = cc
key_named false b n e = cc

heading_named : (a b n : Bool) → (a && (b && n)) ≡ true → b ≡ true
heading_named true true n e = refl
heading_named true false n e = cc
heading_named false b n e = cc

or_second : (a b : Bool) → b ≡ true → (a || b) ≡ true
or_second true b e = refl
or_second false b e = e

module _ (key : Key) (successor : Option Key) (before now : List Linkable) (turn : IsTurn key successor before now) (class : Class) where
  abbrev dropping : Dropping
  dropping = dropping_by (find (has_key key) before) (find (has_key key) now)

  abbrev forms : List Form
  forms = forms_touched key before now

  abbrev drops : KeptField → KeptField
  drops h = drop_by (dropping_by (find (has_key key) before) (find (has_key key) now)) now key successor class h

  abbrev carries : KeptField → KeptField
  carries h = carry_by key (find (has_key key) now) class h

  -- the visits of dropping, carrying and choosing at one field
  abbrev pub visits : KeptField → ℕ
  visits h =
      drop_visits_by (dropping_by (find (has_key key) before) (find (has_key key) now)) now key successor class h
      + carry_visits key (find (has_key key) now) class (drop_by (dropping_by (find (has_key key) before) (find (has_key key) now)) now key successor class h)
      + choose_visits now (forms_touched key before now) key class (carry_by key (find (has_key key) now) class (drop_by (dropping_by (find (has_key key) before) (find (has_key key) now)) now key successor class h))

  last_settled : (h x : KeptField) → x ≡ settle_field now class (loosen now key successor class h) → settle_field now class x ≡ x
  last_settled h x e = ap (settle_field now class) e ∙ once key successor before now turn class h ∙ sym e

  -- where the field has its last form once it is carried
  four_at_most : (h : KeptField) → carries (drops h) ≡ settle_field now class (loosen now key successor class h) → visits h ≤ 4
  four_at_most h e =
      let one = drop_by_most dropping now key successor class h in
      let two = carry_most key (find (has_key key) now) class (drops h) in
      let three = settled_visit now forms key class (carries (drops h)) (last_settled h (carries (drops h)) e) in
      omega arith

  linked_visits : (h : KeptField) (own : Key) → h.tie.key ≡ Some own → same_key key own ≡ true → IsSound before class h → visits h ≤ touched_weight forms key successor class h
  linked_visits h own e same sound =
      let few = four_at_most h (own_carried key successor before now turn class h own e same sound.tied) in
      let touch = linked_touch forms key successor class h (linked_to key own h e ∙ same) in
      omega arith

  -- where dropping leaves the field
  idle_visits : (h : KeptField) → is_linked_to key h ≡ false → drops h ≡ h → visits h ≤ drop_visits_by dropping now key successor class h + choose_visits now forms key class h
  idle_visits h off idle =
      let two = ap (λ (x : KeptField). carry_visits key (find (has_key key) now) class x) idle ∙ carry_none key (find (has_key key) now) class h off in
      let three = ap (λ (x : KeptField). choose_visits now (forms_touched key before now) key class (carry_by key (find (has_key key) now) class x)) idle
      ∙ ap (choose_visits now (forms_touched key before now) key class) (carry_off key (find (has_key key) now) class h off) in
      omega arith

  other_visits : (h : KeptField) (own : Key) → h.tie.key ≡ Some own → same_key key own ≡ false → IsSound before class h → visits h ≤ touched_weight forms key successor class h
  other_visits h own e apart sound =
      let off = linked_to key own h e ∙ apart in
      let link = link_is before class h own h.tie.key e sound.tied.linked in
      let idle = not_awaiting key successor before now turn class h off (awaits_off key successor before now turn class h link.unawaiting) in
      let most = idle_visits h off idle in
      let calm : (is_some successor && waits_for_key key class h) ≡ false =
      ap (λ (o : Option Key). is_some successor && (not (is_some o) && (is_heading_field class h.field && names_key key h))) e ∙ and_off (is_some successor) in
      let one = drop_by_none dropping now key successor class h off calm in
      let two = choose_none now forms key class h (waiting_linked forms key own class h e) in
      omega arith
    where
      and_off : (b : Bool) → (b && false) ≡ false
      and_off true = refl
      and_off false = refl

  named_of : (h : KeptField) (o : Option Kind) → heading_kind class h.field ≡ o → is_some o ≡ true → names_key key h ≡ true → option_map_or (λ kind. is_named forms key class kind h) o false ≡ true
  named_of h None e some named = cc
  named_of h (Some kind) e some named = or_second (asks_for forms class kind h) (names_key key h) named

  -- what waits for the key waits
  key_waits : (h : KeptField) → h.tie.key ≡ None → waits_for_key key class h ≡ true → is_waiting_for forms key class h ≡ true
  key_waits h e w =
      waiting_unlinked forms key class h e
      ∙ named_of h (heading_kind class h.field) refl (heading_named (not (is_some h.tie.key)) (is_heading_field class h.field) (names_key key h) w)
      (key_named (not (is_some h.tie.key)) (is_heading_field class h.field) (names_key key h) w)

  -- an unlinked field that doesn't wait
  calm_visits : (h : KeptField) → h.tie.key ≡ None → is_waiting_for forms key class h ≡ false → IsSound before class h → visits h ≤ 0
  calm_visits h e w sound =
      let off = unlinked_to key h e in
      let calm = some_heading key successor before now turn class h (heading_kind class h.field) (awaits_key key h) refl
      (λ x. sound.tied.awaits (awaits_some key successor before now turn class h.tie.awaits x)) (sym (waiting_unlinked forms key class h e) ∙ w) in
      let most = idle_visits h off (not_awaiting key successor before now turn class h off calm) in
      let one = drop_by_none dropping now key successor class h off (unnamed (is_some successor) (waits_for_key key class h) (key_waits h e) w) in
      let two = choose_none now forms key class h w in
      omega arith
    where
      unnamed : (s b : Bool) → (b ≡ true → is_waiting_for forms key class h ≡ true) → is_waiting_for forms key class h ≡ false → (s && b) ≡ false
      unnamed true true up off = let on = up refl in cc
      unnamed true false up off = refl
      unnamed false b up off = refl

  -- a waiting field that is named once
  once_visits : (h : KeptField) → h.tie.key ≡ None → is_waiting_for forms key class h ≡ true → (is_some successor && names_key key h) ≡ false → drops h ≡ h →
      visits h ≤ touched_weight forms key successor class h
  once_visits h e w n idle =
      let off = unlinked_to key h e in
      let most = idle_visits h off idle in
      let one = drop_by_none dropping now key successor class h off
      (no_name (is_some successor) (waits_for_key key class h) (names_key key h) (key_named (not (is_some h.tie.key)) (is_heading_field class h.field) (names_key key h)) n) in
      let two = choose_most now forms key class h in
      let touch = once_touch forms key successor class h off w n in
      omega arith

  -- a waiting field that names the key where there is a successor
  twice_visits : (h : KeptField) (other : Key) (b : Bool) → awaits_key key h ≡ b → successor ≡ Some other → h.tie.key ≡ None → is_waiting_for forms key class h ≡ true →
      (is_some successor && names_key key h) ≡ true → visits h ≤ touched_weight forms key successor class h
  twice_visits h other true awaits s e w n =
      let few = four_at_most h (handed_carried key successor before now turn class h other s e awaits) in
      let touch = twice_touch forms key successor class h (unlinked_to key h e) w n in
      omega arith
  twice_visits h other false awaits s e w n =
      let off = unlinked_to key h e in
      let most = idle_visits h off (not_awaiting key successor before now turn class h off awaits) in
      let one = drop_by_most dropping now key successor class h in
      let two = choose_most now forms key class h in
      let touch = twice_touch forms key successor class h off w n in
      omega arith

  some_successor : (o : Option Key) (n : Bool) → (is_some o && n) ≡ true → (other : Key) × (o ≡ Some other)
  some_successor None n e = cc
  some_successor (Some other) n e = (other, refl)

  awaits_names : (h : KeptField) → names_key key h ≡ false → awaits_key key h ≡ false
  awaits_names h e = second (list_any (is_naming key) (subfields_of h.field)) (awaits_key key h) e
    where
      second : (a b : Bool) → (a || b) ≡ false → b ≡ false
      second true b f = cc
      second false b f = f

  waiting_visits : (h : KeptField) (b : Bool) → (is_some successor && names_key key h) ≡ b → h.tie.key ≡ None → is_waiting_for forms key class h ≡ true →
      visits h ≤ touched_weight forms key successor class h
  waiting_visits h true n e w =
      let some = some_successor successor (names_key key h) n in twice_visits h some.0 (awaits_key key h) refl some.1 e w n
  waiting_visits h false n e w = once_visits h e w n (left successor refl)
    where
      left : (o : Option Key) → successor ≡ o → drops h ≡ h
      left None s = not_handed key successor before now turn class h e s
      left (Some other) s =
          let unnamed : names_key key h ≡ false = ap (λ (k : Option Key). is_some k && names_key key h) (sym s) ∙ n in
          not_awaiting key successor before now turn class h (unlinked_to key h e) (awaits_names h unnamed)

  unlinked_visits : (h : KeptField) (b : Bool) → is_waiting_for forms key class h ≡ b → h.tie.key ≡ None → IsSound before class h → visits h ≤ touched_weight forms key successor class h
  unlinked_visits h true w e sound = waiting_visits h (is_some successor && names_key key h) refl e w
  unlinked_visits h false w e sound = let none = calm_visits h e w sound in omega arith

  some_visits : (h : KeptField) (own : Key) (b : Bool) → same_key key own ≡ b → h.tie.key ≡ Some own → IsSound before class h → visits h ≤ touched_weight forms key successor class h
  some_visits h own true same e sound = linked_visits h own e same sound
  some_visits h own false same e sound = other_visits h own e same sound

  by_link : (h : KeptField) (o : Option Key) → h.tie.key ≡ o → IsSound before class h → visits h ≤ touched_weight forms key successor class h
  by_link h None e sound = unlinked_visits h (is_waiting_for forms key class h) refl e sound
  by_link h (Some own) e sound = some_visits h own (same_key key own) refl e sound

  -- the visits at a field of a valid state are within what it weighs
  pub field_within : (h : KeptField) → IsSound before class h → visits h ≤ touched_weight (forms_touched key before now) key successor class h
  field_within h sound = by_link h h.tie.key refl sound

  -- ---- a field of the committed record

  new_heading_at : (h r : KeptField) (o : Option Key) → r.tie.key ≡ o → settle_field now class r ≡ r → one_if (is_some r.tie.key) + choose_visits now forms key class r ≤ 1
  new_heading_at h r None e settled =
      let one = ap (λ (k : Option Key). one_if (is_some k)) e in
      let two = settled_visit now forms key class r settled in
      omega arith
  new_heading_at h r (Some own) e settled =
      let one = ap (λ (k : Option Key). one_if (is_some k)) e in
      let two = choose_none now forms key class r (waiting_linked forms key own class r e) in
      omega arith

  settle_of_new : (h : KeptField) → h.tie.key ≡ None → heading_kind class h.field ≡ None → settle_unlinked now class h ≡ h
  settle_of_new h e none = ap (λ (o : Option Kind). option_map_or (λ kind. take_choice class h (choice now class kind h)) o h) none

  new_at : (h : KeptField) (o : Option Kind) → heading_kind class h.field ≡ o → h.tie.key ≡ None → settle_field now class (settle_field now class h) ≡ settle_field now class h →
      own_visits now class h + choose_visits now forms key class (settle_field now class h) ≤ own_weight class h
  new_at h None k e settled =
      let same = settle_of_new h e k in
      let plain = settle_of_unlinked now class h e in
      let own : own_visits now class h ≡ 0 =
      ap (λ (x : Option Key). if is_some x then 0 else link_visit now class h) e ∙ ap (λ (x : KeptField). one_if (is_some x.tie.key)) same ∙ ap (λ (x : Option Key). one_if (is_some x)) e in
      let calm : is_waiting_for forms key class h ≡ false = waiting_unlinked forms key class h e ∙ ap (λ (x : Option Kind). option_map_or (λ kind. is_named forms key class kind h) x false) k in
      let two = ap (choose_visits now (forms_touched key before now) key class) (plain ∙ same) ∙ choose_none now forms key class h calm in
      omega arith
  new_at h (Some kind) k e settled =
      let plain = settle_of_unlinked now class h e in
      let own : own_visits now class h ≡ one_if (is_some (settle_field now class h).tie.key) =
      ap (λ (x : Option Key). if is_some x then 0 else link_visit now class h) e ∙ ap (λ (x : KeptField). one_if (is_some x.tie.key)) (sym plain) in
      let most = new_heading_at h (settle_field now class h) (settle_field now class h).tie.key refl settled in
      let some = weight_some h in
      let is : own_weight class h ≡ weight h = ap (λ (x : Option Kind). if is_some x then weight h else 0) k in
      omega arith

  pub new_within : (h : KeptField) → h.tie.key ≡ None → settle_field now class (settle_field now class h) ≡ settle_field now class h →
      own_visits now class h + choose_visits now (forms_touched key before now) key class (settle_field now class h) ≤ own_weight class h
  new_within h e settled = new_at h (heading_kind class h.field) refl e settled
