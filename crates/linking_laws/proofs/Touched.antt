-- What a commit makes of one field: where nothing of it is touched, it stays; else the stages make of it what a pass over all does.
use Rattle.std.proofs.Common.{◌≡◌, Bool, true, false, ◌&&◌, ◌||◌, cond, List, [], ◌∷◌, ◌++◌, Option, Some, None, is_some, refl, sym, ap, ◌∙◌, subst, if◌then◌else◌}
use Rattle.std.specs.Prelude.{find, IfSome}
use Rattle.std.specs.List.{list_any}
use Rattle.std.specs.Option.{option_map_or}
use Rattle.marc_types.specs.Order.{key_Decides}
use Rattle.marc_types.specs.declared.key.Class.{Class}
use Rattle.marc_types.specs.declared.key.Key.{Key}
use Rattle.marc_types.specs.declared.form.Kind.{Kind}
use Rattle.marc_types.specs.declared.form.Form.{Form}
use Rattle.heading_fields.specs.Tables.{kind_of}
use Rattle.heading_fields.specs.Numbers.{is_naming}
use Rattle.marc_types.specs.Fields.{subfields_of}
use Rattle.heading_fields.specs.Rewriting.{rewriting}
use Rattle.marc_types.specs.Order.{same_key}
use Rattle.entry_record.specs.Authority.{Linkable, is_bare, same_kind, is_kind, heading_kind}
use Rattle.catalogue_rules.specs.State.{KeptField}
use Rattle.catalogue_rules.specs.Choice.{has_key, choice}
use Rattle.marc_types.specs.Order.{same_form}
use Rattle.catalogue_rules.specs.Settle.{keeps_link, is_linked_to, awaits_key, end_link, await, hand_on, loosen, link_to, take_choice, settle_linked, settle_unlinked, settle_field}
use Rattle.catalogue_rules.specs.Valid.{IsLink, IsTied}
use Rattle.catalogue_rules.proofs.Elements.{Each, each_weaker}
use Rattle.catalogue_rules.proofs.Fit.{IsFit, same_kind_is}
use Rattle.catalogue_rules.proofs.Once.{field_once}
use Rattle.catalogue_rules.proofs.Settled.{kept_by}
use Rattle.linking_laws.specs.Waiting.{is_form_among, asked_forms, asks_for, names_key, is_named, is_waiting_for, forms_of, forms_under, is_touched, forms_touched, others_of, IsUnasked}
use Rattle.linking_laws.specs.Commits.{IsSound}
use Rattle.linking_laws.specs.Stages.{Dropping, DropNone, DropBases, DropAll, dropping_by, drop_field, drop_by, carry_field, carry_by, choose_field, field_by_stages}
use Rattle.linking_laws.proofs.Heart.{find_others, or_false, other_key, any_append, choice_stays}

-- ---- forms of two lists

asks_at : (xs ys : List Form) (f : Form) (b rest : Bool) → is_form_among (xs ++ ys) f ≡ b → (b || rest) ≡ false →
    ((is_form_among xs f ≡ false) × (is_form_among ys f ≡ false)) × (rest ≡ false)
asks_at xs ys f true rest is e = cc
asks_at xs ys f false rest is e = (or_false (is_form_among xs f) (is_form_among ys f) (sym (any_append (same_form f) xs ys) ∙ is), e)

-- what asks for none of the forms of two lists asks for none of either
asks_neither : (xs ys fs : List Form) → list_any (is_form_among (xs ++ ys)) fs ≡ false →
    (list_any (is_form_among xs) fs ≡ false) × (list_any (is_form_among ys) fs ≡ false)
asks_neither xs ys [] e = (refl, refl)
asks_neither xs ys (f ∷ fs) e =
    let here = asks_at xs ys f (is_form_among (xs ++ ys) f) (list_any (is_form_among (xs ++ ys)) fs) refl e in
    let more = asks_neither xs ys fs here.1 in
    (or_both (is_form_among xs f) (list_any (is_form_among xs) fs) here.0.0 more.0, or_both (is_form_among ys f) (list_any (is_form_among ys) fs) here.0.1 more.1)
  where
    or_both : (a b : Bool) → a ≡ false → b ≡ false → (a || b) ≡ false
    or_both a b p q = rw (p, q) refl

-- an authority that is found by its key is the key's
unasked_one : (key : Key) (all : List Linkable) (class : Class) (kind : Kind) (h : KeptField) → asks_for (forms_under key all) class kind h ≡ false → (c : Linkable) → IsFit all c →
    IsUnasked key class kind h c
unasked_one key all class kind h e c fit own =
    let same : key ≡ c.key = (key_Decides key c.key).0 own in
    let found : find (has_key key) all ≡ Some c = subst (λ (k : Key). find (has_key k) all ≡ Some c) (sym same) fit.found in
    ap (λ (o : Option Linkable). asks_for (option_map_or forms_of o []) class kind h) (sym found) ∙ e

pub unasked : (key : Key) (all : List Linkable) (class : Class) (kind : Kind) (h : KeptField) → Each (IsFit all) all → asks_for (forms_under key all) class kind h ≡ false →
    Each (IsUnasked key class kind h) all
unasked key all class kind h fits e = each_weaker (IsFit all) (IsUnasked key class kind h) (unasked_one key all class kind h e) all fits

-- ---- a field that waits or doesn't

pub waiting_unlinked : (forms : List Form) (key : Key) (class : Class) (h : KeptField) → h.tie.key ≡ None →
    is_waiting_for forms key class h ≡ option_map_or (λ kind. is_named forms key class kind h) (heading_kind class h.field) false
unfolding is_waiting_for
waiting_unlinked forms key class h e =
    ap (λ (o : Option Key). if is_some o then false else option_map_or (λ kind. is_named forms key class kind h) (heading_kind class h.field) false) e

pub waiting_linked : (forms : List Form) (key own : Key) (class : Class) (h : KeptField) → h.tie.key ≡ Some own → is_waiting_for forms key class h ≡ false
unfolding is_waiting_for
waiting_linked forms key own class h e =
    ap (λ (o : Option Key). if is_some o then false else option_map_or (λ kind. is_named forms key class kind h) (heading_kind class h.field) false) e

pub settle_of_unlinked : (all : List Linkable) (class : Class) (h : KeptField) → h.tie.key ≡ None → settle_field all class h ≡ settle_unlinked all class h
unfolding settle_field
settle_of_unlinked all class h e = ap (λ (o : Option Key). option_map_or (settle_linked all class h) o (settle_unlinked all class h)) e

settle_of_linked : (all : List Linkable) (class : Class) (h : KeptField) (own : Key) → h.tie.key ≡ Some own → settle_field all class h ≡ settle_linked all class h own
unfolding settle_field
settle_of_linked all class h own e = ap (λ (o : Option Key). option_map_or (settle_linked all class h) o (settle_unlinked all class h)) e

-- ---- carrying

pub linked_to : (key own : Key) (h : KeptField) → h.tie.key ≡ Some own → is_linked_to key h ≡ same_key key own
linked_to key own h e = ap (λ (o : Option Key). option_map_or (same_key key) o false) e

pub unlinked_to : (key : Key) (h : KeptField) → h.tie.key ≡ None → is_linked_to key h ≡ false
unlinked_to key h e = ap (λ (o : Option Key). option_map_or (same_key key) o false) e

pub carry_off : (key : Key) (o : Option Linkable) (class : Class) (h : KeptField) → is_linked_to key h ≡ false → carry_by key o class h ≡ h
unfolding carry_field
carry_off key None class h e = refl
carry_off key (Some c) class h e =
    ap (λ (b : Bool). if b then (record {
      field = rewriting h.field c.kind class c.heading key h.tie.whole;
      tie = record { key = Some key; whole = h.tie.whole; awaits = None };
    }) else h) e

carry_on : (key : Key) (c : Linkable) (class : Class) (h : KeptField) → is_linked_to key h ≡ true → key ≡ c.key → carry_by key (Some c) class h ≡ link_to class h h.tie.whole c
unfolding carry_field
carry_on key c class h e same =
    ap (λ (b : Bool). if b then (record {
      field = rewriting h.field c.kind class c.heading key h.tie.whole;
      tie = record { key = Some key; whole = h.tie.whole; awaits = None };
    }) else h) e
    ∙ (λ i. record {
      field = rewriting h.field c.kind class c.heading (same i) h.tie.whole;
      tie = record { key = Some (same i); whole = h.tie.whole; awaits = None };
    })

found_at : {A : Type 0} (test : A → Bool) (x c : A) (o : Option A) (b : Bool) → test x ≡ b → (o ≡ Some c → test c ≡ true) → cond b (Some x) o ≡ Some c → test c ≡ true
found_at test x c o true is more f = let same : x ≡ c = cc in ap test (sym same) ∙ is
found_at test x c o false is more f = more f

found_own : {A : Type 0} (test : A → Bool) (xs : List A) (c : A) → find test xs ≡ Some c → test c ≡ true
found_own test [] c e = cc
found_own test (x ∷ xs) c e = found_at test x c (find test xs) (test x) refl (found_own test xs c) e

carry_found : (key : Key) (all : List Linkable) (class : Class) (h : KeptField) (o : Option Linkable) → find (has_key key) all ≡ o → is_linked_to key h ≡ true →
    carry_by key o class h ≡ option_map_or (link_to class h h.tie.whole) o h
carry_found key all class h None e linked = refl
carry_found key all class h (Some c) e linked = carry_on key c class h linked ((key_Decides key c.key).0 (found_own (has_key key) all c e))

carry_linked_at : (key : Key) (all : List Linkable) (class : Class) (h : KeptField) (o : Option Key) → h.tie.key ≡ o → is_linked_to key h ≡ true →
    carry_by key (find (has_key key) all) class h ≡ settle_field all class h
carry_linked_at key all class h None e linked = let off = unlinked_to key h e in cc
carry_linked_at key all class h (Some own) e linked =
    let same : key ≡ own = (key_Decides key own).0 (sym (linked_to key own h e) ∙ linked) in
    carry_found key all class h (find (has_key key) all) refl linked
    ∙ ap (λ (k : Key). settle_linked all class h k) same
    ∙ sym (settle_of_linked all class h own e)

-- a link to the key is carried as it is settled
pub carry_linked : (key : Key) (all : List Linkable) (class : Class) (h : KeptField) → is_linked_to key h ≡ true → carry_by key (find (has_key key) all) class h ≡ settle_field all class h
carry_linked key all class h linked = carry_linked_at key all class h h.tie.key refl linked

carried_at : (key : Key) (all : List Linkable) (class : Class) (h : KeptField) (b : Bool) → is_linked_to key h ≡ b → settle_field all class h ≡ h → carry_by key (find (has_key key) all) class h ≡ h
carried_at key all class h true linked e = carry_linked key all class h linked ∙ e
carried_at key all class h false linked e = carry_off key (find (has_key key) all) class h linked

-- a settled field is carried to itself
pub carried_settled : (key : Key) (all : List Linkable) (class : Class) (h : KeptField) → settle_field all class h ≡ h → carry_by key (find (has_key key) all) class h ≡ h
carried_settled key all class h e = carried_at key all class h (is_linked_to key h) refl e

-- ---- choosing

pub choose_on : (all : List Linkable) (forms : List Form) (key : Key) (class : Class) (h : KeptField) → is_waiting_for forms key class h ≡ true → choose_field all forms key class h ≡ settle_unlinked all class h
unfolding choose_field
choose_on all forms key class h e = ap (λ (b : Bool). if b then settle_unlinked all class h else h) e

pub choose_off : (all : List Linkable) (forms : List Form) (key : Key) (class : Class) (h : KeptField) → is_waiting_for forms key class h ≡ false → choose_field all forms key class h ≡ h
unfolding choose_field
choose_off all forms key class h e = ap (λ (b : Bool). if b then settle_unlinked all class h else h) e

pub waits_unlinked : (all : List Linkable) (forms : List Form) (key : Key) (class : Class) (h : KeptField) (o : Option Key) → h.tie.key ≡ o → is_waiting_for forms key class h ≡ true →
    settle_unlinked all class h ≡ settle_field all class h
waits_unlinked all forms key class h None e w = sym (settle_of_unlinked all class h e)
waits_unlinked all forms key class h (Some own) e w = let off = waiting_linked forms key own class h e in cc

chosen_at : (all : List Linkable) (forms : List Form) (key : Key) (class : Class) (h : KeptField) (b : Bool) → is_waiting_for forms key class h ≡ b → settle_field all class h ≡ h →
    choose_field all forms key class h ≡ h
chosen_at all forms key class h true w e = choose_on all forms key class h w ∙ waits_unlinked all forms key class h h.tie.key refl w ∙ e
chosen_at all forms key class h false w e = choose_off all forms key class h w

-- a settled field is given the choice that it has
pub chosen_settled : (all : List Linkable) (forms : List Form) (key : Key) (class : Class) (h : KeptField) → settle_field all class h ≡ h → choose_field all forms key class h ≡ h
chosen_settled all forms key class h e = chosen_at all forms key class h (is_waiting_for forms key class h) refl e

-- ---- kinds

kind_turned : (a b : Kind) (x y : Bool) → same_kind a b ≡ x → same_kind b a ≡ y → x ≡ y
kind_turned a b true true p q = refl
kind_turned a b false false p q = refl
kind_turned a b true false p q =
    let same = same_kind_is a b p in
    sym p ∙ ap (λ (k : Kind). same_kind a k) (sym same) ∙ ap (λ (k : Kind). same_kind k a) same ∙ q
kind_turned a b false true p q =
    let same = same_kind_is b a q in
    sym p ∙ ap (λ (k : Kind). same_kind k b) (sym same) ∙ ap (λ (k : Kind). same_kind b k) same ∙ q

pub kind_agrees : (old new : Kind) (o : Option Kind) → is_kind old o ≡ true → is_kind new o ≡ same_kind old new
kind_agrees old new None e = cc
kind_agrees old new (Some k) e =
    let same = same_kind_is old k e in
    ap (λ (x : Kind). same_kind new x) (sym same) ∙ kind_turned new old (same_kind new old) (same_kind old new) refl refl

-- ---- dropping

abbrev keeps_by : Class → KeptField → Option Linkable → Bool
keeps_by class h o = option_map_or (λ c. (h.tie.whole || is_bare c) && is_kind c.kind (kind_of class h.field)) o false

pub drop_on : (now : List Linkable) (key : Key) (only_base : Bool) (successor : Option Key) (class : Class) (h : KeptField) → is_linked_to key h ≡ true →
    drop_field now key only_base successor class h ≡ (if only_base && h.tie.whole then h else settle_unlinked now class (end_link key successor h))
unfolding drop_field
drop_on now key only_base successor class h e =
    ap (λ (b : Bool). if b
    then (if only_base && h.tie.whole then h else settle_unlinked now class (end_link key successor h))
    else (if awaits_key key h then option_map_or (λ other. settle_unlinked now class (await h other)) successor h else h)) e

pub drop_off : (now : List Linkable) (key : Key) (only_base : Bool) (successor : Option Key) (class : Class) (h : KeptField) → is_linked_to key h ≡ false →
    drop_field now key only_base successor class h ≡ (if awaits_key key h then option_map_or (λ other. settle_unlinked now class (await h other)) successor h else h)
unfolding drop_field
drop_off now key only_base successor class h e =
    ap (λ (b : Bool). if b
    then (if only_base && h.tie.whole then h else settle_unlinked now class (end_link key successor h))
    else (if awaits_key key h then option_map_or (λ other. settle_unlinked now class (await h other)) successor h else h)) e

drop_bits : (now : List Linkable) (key : Key) (successor : Option Key) (class : Class) (h : KeptField) (same bare whole : Bool) → is_linked_to key h ≡ true → h.tie.whole ≡ whole →
    drop_by (if same then (if bare then DropNone else DropBases) else DropAll) now key successor class h
    ≡ (if (whole || bare) && same then h else settle_unlinked now class (end_link key successor h))
drop_bits now key successor class h true true true linked w = refl
drop_bits now key successor class h true true false linked w = refl
drop_bits now key successor class h true false true linked w =
    drop_on now key true successor class h linked ∙ ap (λ (b : Bool). if true && b then h else settle_unlinked now class (end_link key successor h)) w
drop_bits now key successor class h true false false linked w =
    drop_on now key true successor class h linked ∙ ap (λ (b : Bool). if true && b then h else settle_unlinked now class (end_link key successor h)) w
drop_bits now key successor class h false true true linked w = drop_on now key false successor class h linked
drop_bits now key successor class h false true false linked w = drop_on now key false successor class h linked
drop_bits now key successor class h false false true linked w = drop_on now key false successor class h linked
drop_bits now key successor class h false false false linked w = drop_on now key false successor class h linked

drop_found : (now : List Linkable) (key : Key) (successor : Option Key) (class : Class) (h : KeptField) (old : Linkable) (new : Option Linkable) → is_linked_to key h ≡ true →
    is_kind old.kind (kind_of class h.field) ≡ true →
    drop_by (dropping_by (Some old) new) now key successor class h ≡ (if keeps_by class h new then h else settle_unlinked now class (end_link key successor h))
drop_found now key successor class h old None linked kind = drop_on now key false successor class h linked
drop_found now key successor class h old (Some c) linked kind =
    drop_bits now key successor class h (same_kind old.kind c.kind) (is_bare c) h.tie.whole linked refl
    ∙ ap (λ (b : Bool). if (h.tie.whole || is_bare c) && b then h else settle_unlinked now class (end_link key successor h)) (sym (kind_agrees old.kind c.kind (kind_of class h.field) kind))

-- ---- a field before and behind the commit

pub link_is : (all : List Linkable) (class : Class) (h : KeptField) (key : Key) (o : Option Key) → o ≡ Some key → IfSome o (IsLink all class h) → IsLink all class h key
link_is all class h key None e l = cc
link_is all class h key (Some k) e l = let same : k ≡ key = cc in subst (IsLink all class h) same l

-- the authorities before and behind the commit of one under a key
pub record IsTurn (key : Key) (successor : Option Key) (before now : List Linkable) : Type 0 where
  pub before_fit : Each (IsFit before) before
  pub now_fit : Each (IsFit now) now
  pub others : others_of key before ≡ others_of key now
  pub gone : is_some successor ≡ true → find (has_key key) now ≡ None

module _ (key : Key) (successor : Option Key) (before now : List Linkable) (turn : IsTurn key successor before now) (class : Class) where
  -- a choice that neither names the key nor asks for one of its forms stays
  pub choice_elsewhere : (kind : Kind) (h : KeptField) → is_named (forms_touched key before now) key class kind h ≡ false → choice before class kind h ≡ choice now class kind h
  choice_elsewhere kind h e =
      let both = or_false (asks_for (forms_touched key before now) class kind h) (names_key key h) e in
      let neither = asks_neither (forms_under key before) (forms_under key now) (asked_forms class kind h) both.0 in
      choice_stays key before class kind h (unasked key before class kind h turn.before_fit neither.0) both.1
      ∙ ap (λ l. choice l class kind h) turn.others
      ∙ sym (choice_stays key now class kind h (unasked key now class kind h turn.now_fit neither.1) both.1)

  unlinked_at : (h : KeptField) (o : Option Kind) → option_map_or (λ kind. is_named (forms_touched key before now) key class kind h) o false ≡ false →
      option_map_or (λ kind. take_choice class h (choice before class kind h)) o h ≡ option_map_or (λ kind. take_choice class h (choice now class kind h)) o h
  unlinked_at h None e = refl
  unlinked_at h (Some kind) e = ap (take_choice class h) (choice_elsewhere kind h e)

  -- an unlinked field that doesn't wait is given the same choice
  pub unlinked_elsewhere : (h : KeptField) → h.tie.key ≡ None → is_waiting_for (forms_touched key before now) key class h ≡ false →
      settle_unlinked before class h ≡ settle_unlinked now class h
  unlinked_elsewhere h e w = unlinked_at h (heading_kind class h.field) (sym (waiting_unlinked (forms_touched key before now) key class h e) ∙ w)

  others_found : (own : Key) (all : List Linkable) → same_key key own ≡ false → find (has_key own) all ≡ find (has_key own) (others_of key all)
  others_found own all apart = find_others (has_key own) (has_key key) all (each (λ c is. other_key own key c.key apart is) all)
    where
      each : {A : Type 0} {P : A → Type 0} → ((x : A) → P x) → (xs : List A) → Each P xs
      each f [] = tt
      each f (x ∷ xs) = (f x, each f xs)

  -- a link to another key finds its authority as before
  pub found_elsewhere : (own : Key) → same_key key own ≡ false → find (has_key own) before ≡ find (has_key own) now
  found_elsewhere own apart = others_found own before apart ∙ ap (find (has_key own)) turn.others ∙ sym (others_found own now apart)

  other_link_stays : (h : KeptField) (own : Key) → h.tie.key ≡ Some own → same_key key own ≡ false → settle_field before class h ≡ settle_field now class h
  other_link_stays h own e apart =
      settle_of_linked before class h own e
      ∙ ap (λ (o : Option Linkable). option_map_or (link_to class h h.tie.whole) o h) (found_elsewhere own apart)
      ∙ sym (settle_of_linked now class h own e)

  abbrev pub T : KeptField → KeptField
  T h = settle_field now class (loosen now key successor class h)

  abbrev pub D : KeptField → KeptField
  D h = drop_by (dropping_by (find (has_key key) before) (find (has_key key) now)) now key successor class h

  rest : KeptField → KeptField
  rest x = choose_field now (forms_touched key before now) key class (carry_by key (find (has_key key) now) class x)

  pub once : (h : KeptField) → settle_field now class (T h) ≡ T h
  once h = field_once now class turn.now_fit (loosen now key successor class h)

  finish : (h x : KeptField) → x ≡ T h → rest x ≡ T h
  unfolding rest
  finish h x e =
      ap rest e
      ∙ ap (choose_field now (forms_touched key before now) key class) (carried_settled key now class (T h) (once h))
      ∙ chosen_settled now (forms_touched key before now) key class (T h) (once h)

  finish_carried : (h x : KeptField) → carry_by key (find (has_key key) now) class x ≡ T h → rest x ≡ T h
  unfolding rest
  finish_carried h x e =
      ap (choose_field now (forms_touched key before now) key class) e ∙ chosen_settled now (forms_touched key before now) key class (T h) (once h)

  -- loosening, by what the field is linked to
  loosen_on : (h : KeptField) → is_linked_to key h ≡ true → loosen now key successor class h ≡ (if keeps_link now class h key then h else end_link key successor h)
  unfolding loosen
  loosen_on h e = ap (λ (b : Bool). if b then (if keeps_link now class h key then h else end_link key successor h) else hand_on key successor h) e

  loosen_off : (h : KeptField) → is_linked_to key h ≡ false → loosen now key successor class h ≡ hand_on key successor h
  unfolding loosen
  loosen_off h e = ap (λ (b : Bool). if b then (if keeps_link now class h key then h else end_link key successor h) else hand_on key successor h) e

  -- what is dropped to its last form is carried to it
  carried : (h x : KeptField) → x ≡ T h → carry_by key (find (has_key key) now) class x ≡ T h
  carried h x e = ap (carry_by key (find (has_key key) now) class) e ∙ carried_settled key now class (T h) (once h)

  kept_or_ended : (h : KeptField) (b : Bool) → is_linked_to key h ≡ true → loosen now key successor class h ≡ (if b then h else end_link key successor h) →
      D h ≡ (if b then h else settle_unlinked now class (end_link key successor h)) → carry_by key (find (has_key key) now) class (D h) ≡ T h
  kept_or_ended h true linked l d =
      ap (carry_by key (find (has_key key) now) class) d ∙ carry_linked key now class h linked ∙ sym (ap (settle_field now class) l)
  kept_or_ended h false linked l d =
      carried h (D h) (d ∙ sym (ap (settle_field now class) l ∙ settle_of_unlinked now class (end_link key successor h) refl))

  -- a link to the key has its last form once it is carried
  pub own_carried : (h : KeptField) (own : Key) → h.tie.key ≡ Some own → same_key key own ≡ true → IsTied before class h →
      carry_by key (find (has_key key) now) class (D h) ≡ settle_field now class (loosen now key successor class h)
  own_carried h own e same tied =
      let is : key ≡ own = (key_Decides key own).0 same in
      let linked = linked_to key own h e ∙ same in
      let link = link_is before class h own h.tie.key e tied.linked in
      let kept : keeps_link before class h key ≡ true = ap (λ (k : Key). keeps_link before class h k) is ∙ link.kept in
      let by = kept_by before class h key (find (has_key key) before) refl kept in
      kept_or_ended h (keeps_link now class h key) linked (loosen_on h linked)
      (ap (λ (o : Option Linkable). drop_by (dropping_by o (find (has_key key) now)) now key successor class h) by.1.found
      ∙ drop_found now key successor class h by.0 (find (has_key key) now) linked by.1.kind_is)

  own_link : (h : KeptField) (own : Key) → h.tie.key ≡ Some own → same_key key own ≡ true → IsTied before class h → rest (D h) ≡ T h
  own_link h own e same tied = finish_carried h (D h) (own_carried h own e same tied)

  pub awaits_off : (h : KeptField) → h.tie.awaits ≡ None → awaits_key key h ≡ false
  awaits_off h e = ap (λ (o : Option Key). option_map_or (same_key key) o false) e

  drop_idle : (h : KeptField) (d : Dropping) → is_linked_to key h ≡ false → (if awaits_key key h then option_map_or (λ other. settle_unlinked now class (await h other)) successor h else h) ≡ h →
      drop_by d now key successor class h ≡ h
  drop_idle h DropNone off e = refl
  drop_idle h DropBases off e = drop_off now key true successor class h off ∙ e
  drop_idle h DropAll off e = drop_off now key false successor class h off ∙ e

  hand_off : (h : KeptField) → awaits_key key h ≡ false → hand_on key successor h ≡ h
  hand_off h e = ap (λ (b : Bool). if b then option_map_or (await h) successor h else h) e

  other_link : (h : KeptField) (own : Key) → h.tie.key ≡ Some own → same_key key own ≡ false → IsSound before class h → rest (D h) ≡ T h
  other_link h own e apart sound =
      let off = linked_to key own h e ∙ apart in
      let link = link_is before class h own h.tie.key e sound.tied.linked in
      let calm = awaits_off h link.unawaiting in
      let idle = drop_idle h (dropping_by (find (has_key key) before) (find (has_key key) now)) off
      (ap (λ (b : Bool). if b then option_map_or (λ other. settle_unlinked now class (await h other)) successor h else h) calm) in
      finish h (D h) (idle ∙ sym (ap (settle_field now class) (loosen_off h off ∙ hand_off h calm) ∙ sym (other_link_stays h own e apart) ∙ sound.settled))

  waits_or_not : (h : KeptField) (b : Bool) → is_waiting_for (forms_touched key before now) key class h ≡ b → h.tie.key ≡ None → settle_field before class h ≡ h →
      choose_field now (forms_touched key before now) key class h ≡ settle_unlinked now class h
  waits_or_not h true w e settled = choose_on now (forms_touched key before now) key class h w
  waits_or_not h false w e settled =
      choose_off now (forms_touched key before now) key class h w ∙ sym settled ∙ settle_of_unlinked before class h e ∙ unlinked_elsewhere h e w

  -- an unlinked field that isn't handed on
  left : (h : KeptField) → h.tie.key ≡ None → IsSound before class h → D h ≡ h → loosen now key successor class h ≡ h → rest (D h) ≡ T h
  unfolding rest
  left h e sound d l =
      ap rest d
      ∙ ap (choose_field now (forms_touched key before now) key class) (carry_off key (find (has_key key) now) class h (unlinked_to key h e))
      ∙ waits_or_not h (is_waiting_for (forms_touched key before now) key class h) refl e sound.settled
      ∙ sym (ap (settle_field now class) l ∙ settle_of_unlinked now class h e)

  -- what is handed on has its last form at once
  pub handed_on : (h : KeptField) (other : Key) → successor ≡ Some other → h.tie.key ≡ None → awaits_key key h ≡ true →
      D h ≡ settle_field now class (loosen now key successor class h)
  handed_on h other s e awaits =
      let off = unlinked_to key h e in
      let none = turn.gone (ap is_some s) in
      let dropped : D h ≡ settle_unlinked now class (await h other) =
      ap (λ (o : Option Linkable). drop_by (dropping_by (find (has_key key) before) o) now key successor class h) none
      ∙ drop_off now key false successor class h off
      ∙ ap (λ (b : Bool). if b then option_map_or (λ k. settle_unlinked now class (await h k)) successor h else h) awaits
      ∙ ap (λ (o : Option Key). option_map_or (λ k. settle_unlinked now class (await h k)) o h) s in
      let loose : loosen now key successor class h ≡ await h other =
      loosen_off h off ∙ ap (λ (b : Bool). if b then option_map_or (await h) successor h else h) awaits ∙ ap (λ (k : Option Key). option_map_or (await h) k h) s in
      dropped ∙ sym (ap (settle_field now class) loose ∙ settle_of_unlinked now class (await h other) e)

  pub handed_carried : (h : KeptField) (other : Key) → successor ≡ Some other → h.tie.key ≡ None → awaits_key key h ≡ true →
      carry_by key (find (has_key key) now) class (D h) ≡ settle_field now class (loosen now key successor class h)
  handed_carried h other s e awaits = carried h (D h) (handed_on h other s e awaits)

  -- an unlinked field that isn't handed on isn't dropped
  pub not_handed : (h : KeptField) → h.tie.key ≡ None → successor ≡ None → D h ≡ h
  not_handed h e s =
      let off = unlinked_to key h e in
      drop_idle h (dropping_by (find (has_key key) before) (find (has_key key) now)) off
      (ap (λ (k : Option Key). if awaits_key key h then option_map_or (λ other. settle_unlinked now class (await h other)) k h else h) s ∙ same (awaits_key key h))
    where
      same : (b : Bool) → (if b then h else h) ≡ h
      same true = refl
      same false = refl

  pub not_awaiting : (h : KeptField) → is_linked_to key h ≡ false → awaits_key key h ≡ false → D h ≡ h
  not_awaiting h off calm =
      drop_idle h (dropping_by (find (has_key key) before) (find (has_key key) now)) off
      (ap (λ (b : Bool). if b then option_map_or (λ other. settle_unlinked now class (await h other)) successor h else h) calm)

  handed : (h : KeptField) (o : Option Key) → successor ≡ o → h.tie.key ≡ None → awaits_key key h ≡ true → IsSound before class h → rest (D h) ≡ T h
  handed h None s e awaits sound =
      let off = unlinked_to key h e in
      left h e sound
      (drop_idle h (dropping_by (find (has_key key) before) (find (has_key key) now)) off
      (ap (λ (b : Bool). if b then option_map_or (λ other. settle_unlinked now class (await h other)) successor h else h) awaits
      ∙ ap (λ (k : Option Key). option_map_or (λ other. settle_unlinked now class (await h other)) k h) s))
      (loosen_off h off ∙ ap (λ (b : Bool). if b then option_map_or (await h) successor h else h) awaits ∙ ap (λ (k : Option Key). option_map_or (await h) k h) s)
  handed h (Some other) s e awaits sound = finish h (D h) (handed_on h other s e awaits)

  no_link : (h : KeptField) (b : Bool) → awaits_key key h ≡ b → h.tie.key ≡ None → IsSound before class h → rest (D h) ≡ T h
  no_link h true awaits e sound = handed h successor refl e awaits sound
  no_link h false awaits e sound =
      let off = unlinked_to key h e in
      left h e sound
      (drop_idle h (dropping_by (find (has_key key) before) (find (has_key key) now)) off
      (ap (λ (b : Bool). if b then option_map_or (λ other. settle_unlinked now class (await h other)) successor h else h) awaits))
      (loosen_off h off ∙ hand_off h awaits)

  some_link : (h : KeptField) (own : Key) (b : Bool) → same_key key own ≡ b → h.tie.key ≡ Some own → IsSound before class h → rest (D h) ≡ T h
  some_link h own true same e sound = own_link h own e same sound.tied
  some_link h own false same e sound = other_link h own e same sound

  by_link : (h : KeptField) (o : Option Key) → h.tie.key ≡ o → IsSound before class h → rest (D h) ≡ T h
  by_link h None e sound = no_link h (awaits_key key h) refl e sound
  by_link h (Some own) e sound = some_link h own (same_key key own) refl e sound

  -- a field behind the commit is what the stages make of it
  pub field_touched : (h : KeptField) → IsSound before class h →
      field_by_stages before now key successor class h ≡ settle_field now class (loosen now key successor class h)
  unfolding rest field_by_stages
  field_touched h sound = by_link h h.tie.key refl sound

  -- a field of the committed record comes in with no tie: it is settled
  pub new_by_stages : (h : KeptField) → h.tie.key ≡ None → h.tie.awaits ≡ None →
      choose_field now (forms_touched key before now) key class (settle_field now class (carry_by key (find (has_key key) now) class (D h))) ≡ T h
  new_by_stages h e awaits =
      let off = unlinked_to key h e in
      let calm = awaits_off h awaits in
      let dropped = drop_idle h (dropping_by (find (has_key key) before) (find (has_key key) now)) off
      (ap (λ (b : Bool). if b then option_map_or (λ other. settle_unlinked now class (await h other)) successor h else h) calm) in
      let carried : carry_by key (find (has_key key) now) class (D h) ≡ h = ap (carry_by key (find (has_key key) now) class) dropped ∙ carry_off key (find (has_key key) now) class h off in
      let settled : settle_field now class (carry_by key (find (has_key key) now) class (D h)) ≡ T h = ap (settle_field now class) carried ∙ sym (ap (settle_field now class) (loosen_off h off ∙ hand_off h calm)) in
      ap (choose_field now (forms_touched key before now) key class) settled ∙ chosen_settled now (forms_touched key before now) key class (T h) (once h)

  named_awaits : (a b c : Bool) → (a || (b || c)) ≡ false → c ≡ false
  named_awaits false false c e = e
  named_awaits true b c e = cc
  named_awaits false true c e = cc

  pub some_heading : (h : KeptField) (o : Option Kind) (b : Bool) → awaits_key key h ≡ b → (b ≡ true → is_some o ≡ true) →
      option_map_or (λ kind. is_named (forms_touched key before now) key class kind h) o false ≡ false → awaits_key key h ≡ false
  some_heading h None true e heading w = let no = heading refl in cc
  some_heading h None false e heading w = e
  some_heading h (Some kind) b e heading w =
      named_awaits (asks_for (forms_touched key before now) class kind h) (list_any (is_naming key) (subfields_of h.field)) (awaits_key key h) w

  pub awaits_some : (o : Option Key) → option_map_or (same_key key) o false ≡ true → is_some o ≡ true
  awaits_some None e = cc
  awaits_some (Some k) e = refl

  stays_unlinked : (h : KeptField) → h.tie.key ≡ None → is_waiting_for (forms_touched key before now) key class h ≡ false → IsSound before class h → T h ≡ h
  stays_unlinked h e w sound =
      let calm = some_heading h (heading_kind class h.field) (awaits_key key h) refl (λ x. sound.tied.awaits (awaits_some h.tie.awaits x)) (sym (waiting_unlinked (forms_touched key before now) key class h e) ∙ w) in
      ap (settle_field now class) (loosen_off h (unlinked_to key h e) ∙ hand_off h calm)
      ∙ settle_of_unlinked now class h e ∙ sym (unlinked_elsewhere h e w) ∙ sym (settle_of_unlinked before class h e) ∙ sound.settled

  stays_linked : (h : KeptField) (own : Key) → h.tie.key ≡ Some own → same_key key own ≡ false → IsSound before class h → T h ≡ h
  stays_linked h own e apart sound =
      let link = link_is before class h own h.tie.key e sound.tied.linked in
      ap (settle_field now class) (loosen_off h (linked_to key own h e ∙ apart) ∙ hand_off h (awaits_off h link.unawaiting)) ∙ sym (other_link_stays h own e apart) ∙ sound.settled

  stays_by : (h : KeptField) (o : Option Key) → h.tie.key ≡ o → is_linked_to key h ≡ false → is_waiting_for (forms_touched key before now) key class h ≡ false → IsSound before class h → T h ≡ h
  stays_by h None e off w sound = stays_unlinked h e w sound
  stays_by h (Some own) e off w sound = stays_linked h own e (sym (linked_to key own h e) ∙ off) sound

  -- a field of which nothing is touched stays
  pub untouched_stays : (h : KeptField) → IsSound before class h → is_touched (forms_touched key before now) key class h ≡ false → settle_field now class (loosen now key successor class h) ≡ h
  untouched_stays h sound e =
      let both = or_false (is_linked_to key h) (is_waiting_for (forms_touched key before now) key class h) e in
      stays_by h h.tie.key refl both.0 both.1 sound
