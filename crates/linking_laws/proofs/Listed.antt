-- A listing of the places that a stage names holds each place that the stage changes.
use Rattle.std.proofs.Common.{◌≡◌, Bool, true, false, ◌&&◌, ◌||◌, not, List, [], ◌∷◌, ◌++◌, Option, Some, None, is_some, refl, sym, ap, ◌∙◌, if◌then◌else◌}
use Rattle.std.specs.List.{list_any}
use Rattle.std.specs.Option.{option_map_or}
use Rattle.marc_types.specs.declared.key.Class.{Class}
use Rattle.marc_types.specs.declared.key.Class.TheVariants.{Authority, Bibliographic}
use Rattle.marc_types.specs.declared.key.Key.{Key}
use Rattle.marc_types.specs.declared.key.Place.{Place}
use Rattle.marc_types.specs.declared.form.Form.{Form}
use Rattle.heading_fields.specs.Numbers.{is_naming}
use Rattle.marc_types.specs.Fields.{subfields_of}
use Rattle.std.specs.Ordering.{eq_by_cmp}
use Rattle.marc_types.specs.Order.{place_cmp, place_Decides, same_key}
use Rattle.linking_laws.proofs.Naming.{same_tests}
use Rattle.entry_record.specs.Authority.{Linkable, is_heading_field}
use Rattle.catalogue_rules.specs.State.{KeptField, State, linkable_authorities}
use Rattle.catalogue_rules.specs.Settle.{is_linked_to, awaits_key, await, settle_unlinked, settle_field}
use Rattle.catalogue_rules.specs.Valid.{EachField}
use Rattle.catalogue_rules.specs.Store.{field_under}
use Rattle.linking_laws.specs.Middle.{IsTiedButTo, CanDrop}
use Rattle.linking_laws.specs.Partway.{same_place, is_place_among, IsWhole}
use Rattle.linking_laws.specs.Stages.{Dropping, DropNone, DropBases, DropAll, drop_field, drop_by, carry_by, choose_field, carry_field}
use Rattle.linking_laws.specs.Tables.{linked_at, holds_at, AreOnce, IsListing, dropped_at}
use Rattle.linking_laws.specs.Visits.{waits_for_key}
use Rattle.linking_laws.specs.Waiting.{names_key, is_waiting_for}
use Rattle.linking_laws.proofs.Heart.{or_false, any_append}
use Rattle.linking_laws.proofs.Partial.{place_is, own_place}
use Rattle.linking_laws.proofs.Steadily.{field_of_authority, field_of_bibliographic}
use Rattle.linking_laws.proofs.Touched.{drop_off, carry_off, choose_off, carried_settled}
use Rattle.catalogue_rules.specs.Choice.{has_key}
use Rattle.std.specs.Prelude.{find}

-- a place outside the listing doesn't pass
not_listed : (test : Class → KeptField → Bool) (s : State) (places : List Place) (q : Place) (h : KeptField) → IsListing (holds_at test s) places → is_place_among places q ≡ false →
    field_under q s ≡ Some h → test q.class h ≡ false
not_listed test s places q h l off there = sym (ap (λ (o : Option KeptField). option_map_or (test q.class) o false) there) ∙ sym (l.members_are q) ∙ off

-- carrying changes no place but those linked to the key
pub carry_whole : (key : Key) (o : Option Linkable) (s : State) (places : List Place) → IsListing (holds_at (linked_at key) s) places → IsWhole (carry_by key o) places s
carry_whole key o s places l = record { others_stay = λ q h off there. carry_off key o q.class h (not_listed (linked_at key) s places q h l off there) }

-- choosing changes no place but those that wait
pub choose_whole : (now : List Linkable) (forms : List Form) (key : Key) (s : State) (places : List Place) → IsListing (holds_at (is_waiting_for forms key) s) places →
    IsWhole (choose_field now forms key) places s
choose_whole now forms key s places l = record { others_stay = λ q h off there. choose_off now forms key q.class h (not_listed (is_waiting_for forms key) s places q h l off there) }

-- ---- dropping

tied_at : (key : Key) (s : State) (q : Place) (h : KeptField) (k : Class) → q.class ≡ k → EachField (IsTiedButTo key (linkable_authorities s)) s → field_under q s ≡ Some h → IsTiedButTo key (linkable_authorities s) k h
tied_at key s q h Authority e m there = field_of_authority (IsTiedButTo key (linkable_authorities s) Authority) s q h m.0 e there
tied_at key s q h Bibliographic e m there = field_of_bibliographic (IsTiedButTo key (linkable_authorities s) Bibliographic) s q h m.1 e there

awaits_some : (key : Key) (o : Option Key) → option_map_or (same_key key) o false ≡ true → is_some o ≡ true
awaits_some key None e = cc
awaits_some key (Some k) e = refl

or_second : (a b : Bool) → b ≡ true → (a || b) ≡ true
or_second true b e = refl
or_second false b e = e

three_true : (a b c : Bool) → a ≡ true → b ≡ true → c ≡ true → (a && (b && c)) ≡ true
three_true a b c p q r = rw (p, q, r) refl

no_link : (h : KeptField) (o : Option Key) → h.tie.key ≡ o → (is_some h.tie.key ≡ true → h.tie.awaits ≡ None) → is_some h.tie.awaits ≡ true → is_some h.tie.key ≡ false
no_link h None e alone some = ap is_some e
no_link h (Some k) e alone some = let none = ap is_some (alone (ap is_some e)) in cc

-- a field that awaits the key waits for it
awaits_waits : (key : Key) (all : List Linkable) (class : Class) (h : KeptField) → IsTiedButTo key all class h → awaits_key key h ≡ true → waits_for_key key class h ≡ true
awaits_waits key all class h t awaits =
    let some = awaits_some key h.tie.awaits awaits in
    three_true (not (is_some h.tie.key)) (is_heading_field class h.field) (names_key key h) (ap not (no_link h h.tie.key refl t.unawaiting some)) (t.awaits some)
    (or_second (list_any (is_naming key) (subfields_of h.field)) (awaits_key key h) awaits)

calm_at : (key : Key) (all : List Linkable) (class : Class) (h : KeptField) (b : Bool) → awaits_key key h ≡ b → IsTiedButTo key all class h → waits_for_key key class h ≡ false → awaits_key key h ≡ false
calm_at key all class h true e t off = let on = awaits_waits key all class h t e in cc
calm_at key all class h false e t off = e

stays_either : (b : Bool) (h : KeptField) → (if b then h else h) ≡ h
stays_either true h = refl
stays_either false h = refl

-- a field that isn't linked to the key stays, where it doesn't await it or there is no successor
idle : (now : List Linkable) (key : Key) (only_base : Bool) (successor : Option Key) (class : Class) (h : KeptField) → is_linked_to key h ≡ false →
    (is_some successor ≡ true → awaits_key key h ≡ false) → drop_field now key only_base successor class h ≡ h
idle now key only_base None class h off calm = drop_off now key only_base None class h off ∙ stays_either (awaits_key key h) h
idle now key only_base (Some other) class h off calm =
    drop_off now key only_base (Some other) class h off ∙ ap (λ (b : Bool). if b then settle_unlinked now class (await h other) else h) (calm refl)

idle_by : (d : Dropping) (now : List Linkable) (key : Key) (successor : Option Key) (class : Class) (h : KeptField) → is_linked_to key h ≡ false →
    (is_some successor ≡ true → awaits_key key h ≡ false) → drop_by d now key successor class h ≡ h
idle_by DropNone now key successor class h off calm = refl
idle_by DropBases now key successor class h off calm = idle now key true successor class h off calm
idle_by DropAll now key successor class h off calm = idle now key false successor class h off calm

and_off : (a b : Bool) → (a && b) ≡ false → a ≡ true → b ≡ false
and_off true b e on = e
and_off false b e on = cc

-- dropping changes no place but those linked to the key or, with a successor, waiting for it
pub drop_whole : (d : Dropping) (key : Key) (successor : Option Key) (s : State) (places : List Place) → CanDrop d key s → IsListing (holds_at (dropped_at key successor) s) places →
    IsWhole (drop_by d (linkable_authorities s) key successor) places s
drop_whole d key successor s places m l = record {
  others_stay = λ q h off there.
      let both = or_false (is_linked_to key h) (is_some successor && waits_for_key key q.class h) (not_listed (dropped_at key successor) s places q h l off there) in
      let tied = tied_at key s q h q.class refl m.ties there in
      idle_by d (linkable_authorities s) key successor q.class h both.0
      (λ some. calm_at key (linkable_authorities s) q.class h (awaits_key key h) refl tied (and_off (is_some successor) (waits_for_key key q.class h) both.1 some));
}

-- ---- each place once

place_turned : (p q : Place) (b : Bool) → same_place q p ≡ b → same_place p q ≡ false → b ≡ false
place_turned p q true e off = let same = place_is q p e in let on : same_place p q ≡ true = ap (λ (x : Place). same_place p x) same ∙ own_place p in cc
place_turned p q false e off = refl

or_middle : (a b c : Bool) → (a || (b || c)) ≡ false → b ≡ false
or_middle true b c e = cc
or_middle false true c e = cc
or_middle false false c e = refl

-- in a listing the next place isn't among those before it
pub next_is_new : (done : List Place) (p : Place) (rest : List Place) → AreOnce (done ++ p ∷ rest) → is_place_among done p ≡ false
next_is_new [] p rest once = refl
next_is_new (x ∷ done) p rest once =
    let apart = or_middle (is_place_among done x) (same_place p x) (is_place_among rest x) (sym (any_append (λ y. same_place y x) done (p ∷ rest)) ∙ once.0) in
    let here = place_turned p x (same_place x p) refl apart in
    ap (λ (b : Bool). b || is_place_among done p) here ∙ next_is_new done p rest once.1

-- two places are the same where neither comes before the other
pub place_by_order : (p q : Place) → same_place p q ≡ eq_by_cmp place_cmp p q
place_by_order p q =
    same_tests (same_place p q) (eq_by_cmp place_cmp p q) (λ e. (place_Decides p q).1 (place_is p q e))
    (λ e. ap (same_place p) (sym ((place_Decides p q).0 e)) ∙ own_place p)

-- ---- the same heading

-- carrying the heading that the key's authority has leaves a settled field
pub carry_idle : (all : List Linkable) (key : Key) (c : Linkable) (class : Class) (h : KeptField) → settle_field all class h ≡ h → find (has_key key) all ≡ Some c →
    carry_field key c.heading c.kind class h ≡ h
carry_idle all key c class h settled found =
    ap (λ (o : Option Linkable). carry_by key o class h) (sym found) ∙ carried_settled key all class h settled
