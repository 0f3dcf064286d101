-- What a commit exchanges in records other than its own: what one of its stages makes another of.
use Rattle.std.proofs.Common.{◌≡◌, Bool, true, false, ◌&&◌, ◌||◌, not, List, Option, Some, None, refl, sym, ap, ◌∙◌, if◌then◌else◌, inl, inr, ◌⊎◌}
use mathlib.Core.Bool.{false≢true}
use Rattle.std.specs.Option.{option_and_then, option_map, option_map_or}
use Rattle.marc_types.specs.declared.key.Class.{Class}
use Rattle.marc_types.specs.declared.key.Class.TheVariants.{Authority, Bibliographic}
use Rattle.marc_types.specs.declared.key.Place.{Place}
use Rattle.marc_types.specs.declared.entry.Entry.{Entry}
use Rattle.marc_types.specs.Order.{same_key}
use Rattle.entry_record.specs.Authority.{Linkable}
use Rattle.catalogue_rules.specs.State.{KeptField, State, linkable_authorities}
use Rattle.catalogue_rules.specs.Receipt.{is_committed, same_class}
use Rattle.catalogue_rules.specs.Sameness.{same_kept}
use Rattle.catalogue_rules.specs.Settle.{arrival_of, settle_field, step}
use Rattle.catalogue_rules.proofs.Put.{tied_but}
use Rattle.catalogue_rules.proofs.Rows.{other_place}
use Rattle.catalogue_rules.specs.Store.{field_at, field_under}
use Rattle.linking_laws.specs.Changes.{IsLeftByStages, are_exchanged, carry_of_commit, choose_of_commit, drop_of_commit, is_changed_by_stages, is_exchanged_at, state_carried, state_dropped, state_own_settled}
use Rattle.linking_laws.specs.Commits.{CanBeCommitted, IsSound, authorities_behind, dropping_of, field_behind, field_staged, forms_of_commit, placed_by, state_staged}
use Rattle.linking_laws.specs.Receipts.{IsExchanged}
use Rattle.linking_laws.specs.Stages.{by_stages, field_by_stages, settle_own, successor_in}
use Rattle.linking_laws.proofs.Counts.{kept_placed}
use Rattle.linking_laws.proofs.Dropped.{but_of, dropped_field, spared_at}
use Rattle.linking_laws.proofs.Exchanges.{field_each}
use Rattle.linking_laws.proofs.Owning.{own_in}
use Rattle.linking_laws.proofs.Sames.{kept_Decides}
use Rattle.linking_laws.proofs.Staged.{every_sound, settled_state, staged_field, staged_state, turn_by}
use Rattle.linking_laws.proofs.Touched.{carried_settled, chosen_settled, once}
use Rattle.linking_laws.proofs.Turning.{field_at_place}

-- ---- one field

left_or_made : {P : Type 0} (g h made : KeptField) → (P × (g ≡ h)) ⊎ (g ≡ made) → made ≡ h → g ≡ h
left_or_made g h made (inl both) e = both.1
left_or_made g h made (inr is) e = is ∙ e

-- A field that ends as it was is settled over the authorities behind the commit, so that carrying and choosing leave it. Dropping leaves
-- it, or makes of it what it ends as.
pub left_by_stages : (s : State) (e : Entry) (class : Class) (h : KeptField) → CanBeCommitted Authority s e → IsSound (linkable_authorities s) class h → field_staged s e class h ≡ h →
    IsLeftByStages s e class h
left_by_stages s e class h c sound ends =
    let before = linkable_authorities s in
    let now = authorities_behind s e in
    let successor = successor_in (arrival_of e) in
    let left : field_behind s e class h ≡ h = sym (staged_field s e class h c sound) ∙ ends in
    let settled : settle_field now class h ≡ h = ap (settle_field now class) (sym left) ∙ once e.key successor before now (turn_by s e c) class h ∙ left in
    let tied = but_of e.key now class h (tied_but e.key before now class (λ key apart. other_place key (arrival_of e) s.authorities apart) h sound.tied) in
    let spared = spared_at e.key before now class h h.tie.key refl sound.tied in
    record {
      dropped = left_or_made (drop_of_commit s e class h) h (field_behind s e class h) (dropped_field now e.key successor class (dropping_of s e) h tied spared) left;
      carried = carried_settled e.key now class h settled;
      chosen = chosen_settled now (forms_of_commit s e) e.key class h settled;
    }

-- ---- three changes in turn

steps_differ : (x y z w : KeptField) (a b c t : Bool) → same_kept x y ≡ a → same_kept y z ≡ b → same_kept z w ≡ c → same_kept x w ≡ t →
    (t ≡ true → (a ≡ true) × ((b ≡ true) × (c ≡ true))) → not t ≡ (not a || not b || not c)
steps_differ x y z w true true true true ea eb ec et all = refl
steps_differ x y z w false b c true ea eb ec et all = absurd (false≢true (all refl).0)
steps_differ x y z w true false c true ea eb ec et all = absurd (false≢true (all refl).1.0)
steps_differ x y z w true true false true ea eb ec et all = absurd (false≢true (all refl).1.1)
steps_differ x y z w true true true false ea eb ec et all =
    let same : x ≡ w = (kept_Decides x y).0 ea ∙ (kept_Decides y z).0 eb ∙ (kept_Decides z w).0 ec in
    absurd (false≢true (sym et ∙ (kept_Decides x w).1 same))
steps_differ x y z w false b c false ea eb ec et all = refl
steps_differ x y z w true false c false ea eb ec et all = refl
steps_differ x y z w true true false false ea eb ec et all = refl

-- each of three changes leaves the field
abbrev AreLeft : (drop carry choose : KeptField → KeptField) → KeptField → Type 0
AreLeft drop carry choose h = (drop h ≡ h) × ((carry h ≡ h) × (choose h ≡ h))

abbrev differs_in : (KeptField → KeptField) → Option KeptField → Bool
differs_in change o = option_map_or (λ h. not (same_kept h (change h))) o false

module _ (drop carry choose : KeptField → KeptField) where
  all_same : (h : KeptField) → (choose (carry (drop h)) ≡ h → AreLeft drop carry choose h) → same_kept h (choose (carry (drop h))) ≡ true →
      (same_kept h (drop h) ≡ true) × ((same_kept (drop h) (carry (drop h)) ≡ true) × (same_kept (carry (drop h)) (choose (carry (drop h))) ≡ true))
  all_same h left e =
      let ends : choose (carry (drop h)) ≡ h = sym ((kept_Decides h (choose (carry (drop h)))).0 e) in
      let each = left ends in
      let carried : carry (drop h) ≡ h = ap carry each.0 ∙ each.1.0 in (
        (kept_Decides h (drop h)).1 (sym each.0),
        ((kept_Decides (drop h) (carry (drop h))).1 (each.0 ∙ sym carried), (kept_Decides (carry (drop h)) (choose (carry (drop h)))).1 (carried ∙ sym ends)),
      )

  differs_at_once : (o : Option KeptField) → ((h : KeptField) → o ≡ Some h → choose (carry (drop h)) ≡ h → AreLeft drop carry choose h) →
      are_exchanged o (option_map choose (option_map carry (option_map drop o)))
      ≡ (differs_in drop o || differs_in carry (option_map drop o) || differs_in choose (option_map carry (option_map drop o)))
  differs_at_once None left = refl
  differs_at_once (Some h) left =
      steps_differ h (drop h) (carry (drop h)) (choose (carry (drop h))) (same_kept h (drop h)) (same_kept (drop h) (carry (drop h)))
      (same_kept (carry (drop h)) (choose (carry (drop h)))) (same_kept h (choose (carry (drop h)))) refl refl refl refl (all_same h (left h refl))

-- ---- at a place of another record

same_there : (o : Option KeptField) → are_exchanged o o ≡ false
same_there None = refl
same_there (Some h) = ap not ((kept_Decides h h).1 refl)

apart_in : (k : Class) (s : State) (e : Entry) (p : Place) → CanBeCommitted k s e → is_committed (arrival_of e) p.class p.key ≡ false → (same_class k p.class && same_key e.key p.key) ≡ false
apart_in k s e p c other = ap (λ (x : Class). same_class x p.class && same_key e.key p.key) (sym c.class_is) ∙ other

placed_there : (k : Class) (s : State) (e : Entry) (p : Place) → CanBeCommitted k s e → is_committed (arrival_of e) p.class p.key ≡ false → field_under p (placed_by k s e) ≡ field_under p s
placed_there k s e p c other = ap (option_and_then (field_at p.field)) (kept_placed k p.class (arrival_of e) s p.key c.class_is (apart_in k s e p c other))

own_there : (k : Class) (all : List Linkable) (s middle : State) (e : Entry) (p : Place) → CanBeCommitted k s e → is_committed (arrival_of e) p.class p.key ≡ false →
    field_under p (settle_own all k e.key middle) ≡ field_under p middle
own_there k all s middle e p c other =
    own_in all k p.class e.key p.key p.field middle
    ∙ ap (λ (b : Bool). if b then option_map (settle_field all p.class) (field_under p middle) else field_under p middle) (apart_in k s e p c other)

ends_by : (s : State) (e : Entry) (class : Class) (h : KeptField) → choose_of_commit s e class (carry_of_commit s e class (drop_of_commit s e class h)) ≡ field_staged s e class h
unfolding field_by_stages
ends_by s e class h = refl

state_by : (s : State) (e : Entry) (p : Place) → field_under p (state_staged s e) ≡ option_map (choose_of_commit s e p.class) (field_under p (state_own_settled s e))
unfolding by_stages
state_by s e p = field_each (choose_of_commit s e) p (state_own_settled s e)

module _ (s : State) (e : Entry) (p : Place) (c : CanBeCommitted Authority s e) (other : is_committed (arrival_of e) p.class p.key ≡ false) where
  abbrev o : Option KeptField
  o = field_under p s

  abbrev drop : KeptField → KeptField
  drop = drop_of_commit s e p.class

  abbrev carry : KeptField → KeptField
  carry = carry_of_commit s e p.class

  abbrev choose : KeptField → KeptField
  choose = choose_of_commit s e p.class

  dropped_is : field_under p (state_dropped s e) ≡ option_map drop o
  dropped_is = field_each (drop_of_commit s e) p (placed_by Authority s e) ∙ ap (option_map drop) (placed_there Authority s e p c other)

  carried_is : field_under p (state_carried s e) ≡ option_map carry (option_map drop o)
  carried_is = field_each (carry_of_commit s e) p (state_dropped s e) ∙ ap (option_map carry) dropped_is

  settled_is : field_under p (state_own_settled s e) ≡ option_map carry (option_map drop o)
  settled_is = own_there Authority (authorities_behind s e) s (state_carried s e) e p c other ∙ carried_is

  ended_is : field_under p (step s (arrival_of e)) ≡ option_map choose (option_map carry (option_map drop o))
  ended_is = ap (field_under p) (staged_state s e c) ∙ state_by s e p ∙ ap (option_map choose) settled_is

  left_there : (h : KeptField) → o ≡ Some h → choose (carry (drop h)) ≡ h → AreLeft drop carry choose h
  left_there h there ends =
      let sound = field_at_place (IsSound (linkable_authorities s)) s p h p.class refl (every_sound s c.valid) there in
      let left = left_by_stages s e p.class h c sound (sym (ends_by s e p.class h) ∙ ends) in
      (left.dropped, (left.carried, left.chosen))

  exchanged_there : is_exchanged_at s (step s (arrival_of e)) p ≡ is_changed_by_stages s e p
  exchanged_there =
      ap (are_exchanged o) ended_is ∙ differs_at_once drop carry choose o left_there
      ∙ (λ i. differs_in drop (sym (placed_there Authority s e p c other) i) || differs_in carry (sym dropped_is i)
      || differs_in choose (sym settled_is i))

pub exchanged_by_stages : (s : State) (e : Entry) (p : Place) → CanBeCommitted Authority s e → is_committed (arrival_of e) p.class p.key ≡ false →
    is_exchanged_at s (step s (arrival_of e)) p ≡ is_changed_by_stages s e p
exchanged_by_stages s e p c other = exchanged_there s e p c other

-- ---- a bibliographic commit

pub nothing_exchanged : (s : State) (e : Entry) (p : Place) → CanBeCommitted Bibliographic s e → is_committed (arrival_of e) p.class p.key ≡ false →
    is_exchanged_at s (step s (arrival_of e)) p ≡ false
nothing_exchanged s e p c other =
    let ended : field_under p (step s (arrival_of e)) ≡ field_under p s =
    ap (field_under p) (settled_state s e c) ∙ own_there Bibliographic (linkable_authorities s) s (placed_by Bibliographic s e) e p c other ∙ placed_there Bibliographic s e p c other in
    ap (are_exchanged (field_under p s)) ended ∙ same_there (field_under p s)

-- ---- the test

not_true : (b : Bool) → not b ≡ true → b ≡ false
not_true true e = absurd (false≢true e)
not_true false e = refl

told_by : (p : Place) (before now : State) (o n : Option KeptField) → field_under p before ≡ o → field_under p now ≡ n → are_exchanged o n ≡ true → IsExchanged p before now
told_by p before now None n stood stands e = absurd (false≢true e)
told_by p before now (Some old) None stood stands e = absurd (false≢true e)
told_by p before now (Some old) (Some new) stood stands e = record { old = old; new = new; stood = stood; stands = stands; differs = not_true (same_kept old new) e }

pub exchange_told : (p : Place) (before now : State) → is_exchanged_at before now p ≡ true → IsExchanged p before now
exchange_told p before now e = told_by p before now (field_under p before) (field_under p now) refl refl e

pub exchange_tells : (p : Place) (before now : State) → IsExchanged p before now → is_exchanged_at before now p ≡ true
exchange_tells p before now x =
    ap (λ (o : Option KeptField). are_exchanged o (field_under p now)) x.stood ∙ ap (are_exchanged (Some x.old)) x.stands ∙ ap not x.differs
