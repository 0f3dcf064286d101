-- The states of an authority's commit, stage by stage.
use Rattle.std.proofs.Common.{◌≡◌, ◌∙◌, sym, ap, refl, subst, ℕ, ◌+◌, ◌≤◌, Bool, true, false, List, [], ◌∷◌, ◌++◌, map, Option, Some, None}
use Rattle.std.specs.Prelude.{◌||◌, find, if◌then◌else◌}
use Rattle.std.specs.List.{list_any, sum_by}
use Rattle.std.specs.Option.{option_map, option_map_or}
use Rattle.marc_types.specs.declared.entry.Entry.{Entry}
use Rattle.marc_types.specs.declared.form.Form.{Form}
use Rattle.marc_types.specs.Order.{same_form, same_key}
use Rattle.marc_types.specs.declared.key.Class.{Class}
use Rattle.marc_types.specs.declared.key.Class.TheVariants.{Authority, Bibliographic}
use Rattle.marc_types.specs.declared.key.Key.{Key}
use Rattle.marc_types.specs.declared.field.Field.{Field}
use Rattle.entry_record.specs.Authority.{Linkable}
use Rattle.entry_record.specs.Identity.{is_deletion}
use Rattle.numbering.specs.declared.seat.Seat.{Seat}
use Rattle.catalogue_rules.specs.Choice.{has_key}
use Rattle.catalogue_rules.specs.Receipt.{kept_under}
use Rattle.catalogue_rules.specs.Settle.{Arrival, arrival_of, step}
use Rattle.catalogue_rules.specs.State.{KeptField, KeptRecord, State, each_field, each_in_record, linkable_authorities, new_field, new_record}
use Rattle.catalogue_tables.specs.Following.{authority_brought}
use Rattle.catalogue_tables.proofs.Comings.{placing_exchanges}
use Rattle.std.proofs.lemmas.List.Folds.{list_any-append}
use Rattle.std.proofs.lemmas.Map.Made.{lookup-map_values}
use Rattle.linking_laws.specs.Changes.{carry_of_commit, choose_of_commit, drop_of_commit, state_carried, state_dropped, state_own_settled}
use Rattle.linking_laws.specs.Commits.{CanBeCommitted, authorities_behind, dropping_of, forms_of_commit, placed_by, state_staged}
use Rattle.linking_laws.specs.Middle.{CanDrop, IsMiddleWith}
use Rattle.linking_laws.specs.Stages.{Dropping, DropNone, DropBases, DropAll, by_stages, dropping_by, carry_by, carry_field, choose_field, drop_by, drop_field, settle_own, successor_in}
use Rattle.linking_laws.specs.Visits.{carry_visits, choose_visits, commit_visits, drop_visits_by, own_row_visits, stage_visits, touched}
use Rattle.linking_laws.specs.Waiting.{AreSameForms, forms_of, forms_under, is_form_among}
use Rattle.linking_laws.specs.Weights.{sum_fields}
use Rattle.linking_laws.proofs.Alike.{choose_alike, visits_alike}
use Rattle.linking_laws.proofs.Dropped.{can_drop}
use Rattle.linking_laws.proofs.Staged.{staged_state}
use Rattle.linking_laws.proofs.Worked.{visits_touched}
use Rattle.linked_store.specs.Linked.{IsAhead, IsNumber, Linked, key_of, record_at}
use Rattle.linked_store.specs.Placing.{record_brought}
use Rattle.commit_stages.specs.Noted.{NotesChanges}
use Rattle.commit_stages.specs.Turns.{IsCarriedOut}
use Rattle.commit_stages.specs.OwnFields.{IsOwnSettled, own_visits_of}
use Rattle.commit_stages.specs.Stages.{IsBrought, drop_of, drop_visits_of, dropping_to, forms_of_brought}
use Rattle.commit_stages.specs.declared.brought.Ending.{Ending}
use Rattle.commit_stages.proofs.Parts.{stands_placed}

-- ---- numbers of keys on the way

abbrev seat_in : Class → ℕ → Seat
seat_in class number = record { class = class; number = number; field = 0 }

pub number_ahead : (class : Class) (number : ℕ) (x y : Linked) → IsAhead x y → IsNumber class number x.keys → IsNumber class number y.keys
number_ahead class number x y ahead known = ahead.keys.seats (seat_in class number) known

pub key_ahead : (class : Class) (number : ℕ) (x y : Linked) → IsAhead x y → IsNumber class number x.keys → key_of class number y.keys ≡ key_of class number x.keys
key_ahead class number x y ahead known = ap (λ p. p.key) (ahead.keys.places (seat_in class number) known)

-- ---- a record as it came stays so while links are dropped and a heading is carried

new_dropped : (d : Dropping) (all : List Linkable) (key : Key) (successor : Option Key) (class : Class) (f : Field) → drop_by d all key successor class (new_field f) ≡ new_field f
unfolding drop_field
new_dropped DropNone all key successor class f = refl
new_dropped DropBases all key successor class f = refl
new_dropped DropAll all key successor class f = refl

new_carried : (key : Key) (own : Option Linkable) (class : Class) (f : Field) → carry_by key own class (new_field f) ≡ new_field f
unfolding carry_field
new_carried key None class f = refl
new_carried key (Some c) class f = refl

kept_each : (change : Class → KeptField → KeptField) (class : Class) (key : Key) (s : State) → kept_under class key (each_field change s) ≡ option_map (each_in_record (change class)) (kept_under class key s)
unfolding each_field
kept_each change Authority key s = lookup-map_values (each_in_record (change Authority)) (same_key key) s.authorities
kept_each change Bibliographic key s = lookup-map_values (each_in_record (change Bibliographic)) (same_key key) s.bibliographic

came_same : (change : KeptField → KeptField) → ((f : Field) → change (new_field f) ≡ new_field f) → (fields : List Field) → map change (map new_field fields) ≡ map new_field fields
came_same change same [] = refl
came_same change same (f ∷ fields) = λ i. same f i ∷ came_same change same fields i

brought_same : (change : KeptField → KeptField) → ((f : Field) → change (new_field f) ≡ new_field f) → (a : Arrival) → option_map (each_in_record change) (record_brought a) ≡ record_brought a
brought_same change same a = at (is_deletion a.leader)
  where
    at : (b : Bool) → option_map (each_in_record change) (if b then None else Some (new_record a.leader a.fields)) ≡ (if b then None else Some (new_record a.leader a.fields))
    at true = refl
    at false = λ i. Some (record { leader = a.leader; fields = came_same change same a.fields i })

module _ (s : State) (e : Entry) where
  abbrev a : Arrival
  a = arrival_of e

  abbrev all : List Linkable
  all = authorities_behind s e

  abbrev own : Option Linkable
  own = find (has_key e.key) all

  abbrev drops : Class → KeptField → KeptField
  drops = drop_of_commit s e

  abbrev carries : Class → KeptField → KeptField
  carries = carry_of_commit s e

  abbrev chooses : Class → KeptField → KeptField
  chooses = choose_of_commit s e

  abbrev placed : State
  placed = placed_by Authority s e

  abbrev dropped : State
  dropped = state_dropped s e

  abbrev carried : State
  carried = state_carried s e

  abbrev settled : State
  settled = state_own_settled s e

  abbrev chosen : State
  chosen = each_field chooses settled

  staged_is : state_staged s e ≡ chosen
  unfolding by_stages
  staged_is = refl

  abbrev pub drop_cost : ℕ
  drop_cost = sum_fields (drop_visits_by (dropping_of s e) all e.key (successor_in a)) placed

  abbrev pub carry_cost : ℕ
  carry_cost = sum_fields (carry_visits e.key own) dropped

  abbrev pub own_cost : ℕ
  own_cost = sum_by (own_row_visits all Authority e.key) carried.authorities

  abbrev pub choose_cost : ℕ
  choose_cost = sum_fields (choose_visits all (forms_of_commit s e) e.key) settled

  costs_are : commit_visits s e ≡ drop_cost + carry_cost + own_cost + choose_cost
  unfolding stage_visits
  costs_are = refl

  module _ (c : CanBeCommitted Authority s e) where
    pub costs : drop_cost + carry_cost + own_cost + choose_cost ≤ touched s e
    costs = subst (λ (n : ℕ). n ≤ touched s e) costs_are (visits_touched Authority s e c)

    pub own_is : own ≡ authority_brought a
    own_is = (placing_exchanges a s c.valid.authorities_ascend).own

    -- what ends, by the authority that was known and the one that is brought
    pub ending_right : (ending : Ending) → dropping_to ending ≡ dropping_by (find (has_key e.key) (linkable_authorities s)) (authority_brought a) → dropping_to ending ≡ dropping_of s e
    ending_right ending is = is ∙ ap (dropping_by (find (has_key e.key) (linkable_authorities s))) (sym own_is)

    -- the forms under which the authority was found, and those under which it is
    pub same_forms : (known brought : List Form) → AreSameForms known (forms_under e.key (linkable_authorities s)) → brought ≡ forms_of_brought a
        → AreSameForms (known ++ brought) (forms_of_commit s e)
    same_forms known brought are is form =
        list_any-append (same_form form) known brought
        ∙ ap (λ b. b || list_any (same_form form) brought) (are form)
        ∙ ap (λ (l : List Form). is_form_among (forms_under e.key (linkable_authorities s)) form || list_any (same_form form) l) (is ∙ ap (λ (o : Option Linkable). option_map_or forms_of o []) (sym own_is))
        ∙ sym (list_any-append (same_form form) (forms_under e.key (linkable_authorities s)) (forms_under e.key all))

    pub committed : (t : State) → t ≡ chosen → t ≡ step s a
    committed t is = is ∙ sym staged_is ∙ sym (staged_state s e c)

    -- ---- the record in its place

    pub placed_is : (x : Linked) → x.state ≡ placed_by e.class s e → x.state ≡ placed
    placed_is x is = is ∙ ap (λ (k : Class). placed_by k s e) c.class_is

    module _ (ending : Ending) (right : dropping_to ending ≡ dropping_of s e) (x : Linked) (at : x.state ≡ placed) where
      pub can_drop_now : CanDrop (dropping_to ending) e.key x.state
      can_drop_now = subst (λ (d : Dropping). CanDrop d e.key x.state) (sym right) (subst (CanDrop (dropping_of s e) e.key) (sym at) (can_drop s e c))

      pub dropped_on : (y : Linked) → IsCarriedOut (linkable_authorities x.state) (drop_of ending e (linkable_authorities x.state)) x y → IsCarriedOut all drops x y
      dropped_on y out =
          subst (λ (d : Dropping). IsCarriedOut all (drop_by d all e.key (successor_in a)) x y) right
          (subst (λ (t : State). IsCarriedOut (linkable_authorities t) (drop_of ending e (linkable_authorities t)) x y) at out)

      pub drop_noted : (before after : List Seat) → NotesChanges (drop_of ending e (linkable_authorities x.state)) x before after → NotesChanges drops x before after
      drop_noted before after noted =
          subst (λ (d : Dropping). NotesChanges (drop_by d all e.key (successor_in a)) x before after) right
          (subst (λ (t : State). NotesChanges (drop_of ending e (linkable_authorities t)) x before after) at noted)

      pub drop_within : (before after : ℕ) → after ≤ before + sum_fields (drop_visits_of ending e (linkable_authorities x.state)) x.state → after ≤ before + drop_cost
      drop_within before after low =
          subst (λ (d : Dropping). after ≤ before + sum_fields (drop_visits_by d all e.key (successor_in a)) placed) right
          (subst (λ (t : State). after ≤ before + sum_fields (drop_visits_of ending e (linkable_authorities t)) t) at low)

    pub dropped_is : (x y : Linked) → x.state ≡ placed → IsCarriedOut all drops x y → y.state ≡ dropped
    dropped_is x y at out = out.state ∙ ap (each_field drops) at

    -- ---- the heading

    pub own_there : (x : Linked) → IsMiddleWith all x.state → find (has_key e.key) (linkable_authorities x.state) ≡ authority_brought a
    own_there x middle = ap (find (has_key e.key)) middle.authorities_are ∙ own_is

    module _ (x : Linked) (at : x.state ≡ dropped) where
      pub carried_on : (y : Linked) → IsMiddleWith all x.state → IsCarriedOut (linkable_authorities x.state) (carry_by e.key (authority_brought a)) x y → IsCarriedOut all carries x y
      carried_on y middle out =
          subst (λ (o : Option Linkable). IsCarriedOut all (carry_by e.key o) x y) (sym own_is)
          (subst (λ (l : List Linkable). IsCarriedOut l (carry_by e.key (authority_brought a)) x y) middle.authorities_are out)

      pub carry_noted : (before after : List Seat) → NotesChanges (carry_by e.key (authority_brought a)) x before after → NotesChanges carries x before after
      carry_noted before after noted = subst (λ (o : Option Linkable). NotesChanges (carry_by e.key o) x before after) (sym own_is) noted

      pub carry_within : (before after : ℕ) → after ≤ before + sum_fields (carry_visits e.key (authority_brought a)) x.state → after ≤ before + carry_cost
      carry_within before after low =
          subst (λ (o : Option Linkable). after ≤ before + sum_fields (carry_visits e.key o) dropped) (sym own_is)
          (subst (λ (t : State). after ≤ before + sum_fields (carry_visits e.key (authority_brought a)) t) at low)

    pub carried_is : (x y : Linked) → x.state ≡ dropped → IsCarriedOut all carries x y → y.state ≡ carried
    carried_is x y at out = out.state ∙ ap (each_field carries) at

    -- ---- the own fields

    brought_stays : kept_under Authority e.key carried ≡ record_brought a
    brought_stays =
        kept_each carries Authority e.key dropped
        ∙ ap (option_map (each_in_record (carries Authority))) (kept_each drops Authority e.key placed)
        ∙ ap (λ (o : Option KeptRecord). option_map (each_in_record (carries Authority)) (option_map (each_in_record (drops Authority)) o)) (stands_placed a s.authorities c.valid.authorities_ascend)
        ∙ ap (option_map (each_in_record (carries Authority))) (brought_same (drops Authority) (new_dropped (dropping_of s e) all e.key (successor_in a) Authority) a)
        ∙ brought_same (carries Authority) (new_carried e.key own Authority) a

    pub brought_now : (number : ℕ) (x : Linked) → key_of Authority number x.keys ≡ e.key → x.state ≡ carried → IsBrought number e x
    brought_now number x key at =
        ap (λ (k : Class). record_at k number x) c.class_is
        ∙ ap (λ (k : Key). kept_under Authority k x.state) key
        ∙ ap (kept_under Authority e.key) at
        ∙ brought_stays

    module _ (x : Linked) (at : x.state ≡ carried) (middle : IsMiddleWith all x.state) where
      pub settled_on : (y : Linked) → IsOwnSettled (linkable_authorities x.state) e.class e.key x y → IsOwnSettled all Authority e.key x y
      settled_on y out =
          subst (λ (k : Class). IsOwnSettled all k e.key x y) c.class_is
          (subst (λ (l : List Linkable). IsOwnSettled l e.class e.key x y) middle.authorities_are out)

      pub own_within : (before after : ℕ) → after ≤ before + own_visits_of (linkable_authorities x.state) e.class e.key x.state → after ≤ before + own_cost
      own_within before after low =
          subst (λ (t : State). after ≤ before + own_visits_of all Authority e.key t) at
          (subst (λ (k : Class). after ≤ before + own_visits_of all k e.key x.state) c.class_is
          (subst (λ (l : List Linkable). after ≤ before + own_visits_of l e.class e.key x.state) middle.authorities_are low))

    pub settled_is : (x y : Linked) → x.state ≡ carried → IsOwnSettled all Authority e.key x y → y.state ≡ settled
    settled_is x y at out = out.state ∙ ap (settle_own all Authority e.key) at

    -- ---- what waits

    module _ (forms : List Form) (number : ℕ) (x : Linked) (at : x.state ≡ settled) (middle : IsMiddleWith all x.state) (key : key_of Authority number x.keys ≡ e.key)
        (same : AreSameForms forms (forms_of_commit s e)) where
      alike : choose_field all forms e.key ≡ chooses
      alike = λ i class h. choose_alike all forms (forms_of_commit s e) e.key class h same i

      same_visits : choose_visits all forms e.key ≡ choose_visits all (forms_of_commit s e) e.key
      same_visits = λ i class h. visits_alike all forms (forms_of_commit s e) e.key class h same i

      pub chosen_noted : (before after : List Seat) → NotesChanges (choose_field (linkable_authorities x.state) forms (key_of Authority number x.keys)) x before after → NotesChanges chooses x before after
      chosen_noted before after noted =
          subst (λ (f : Class → KeptField → KeptField). NotesChanges f x before after) alike
          (subst (λ (k : Key). NotesChanges (choose_field all forms k) x before after) key
          (subst (λ (l : List Linkable). NotesChanges (choose_field l forms (key_of Authority number x.keys)) x before after) middle.authorities_are noted))

      pub chosen_on : (y : Linked) → IsCarriedOut (linkable_authorities x.state) (choose_field (linkable_authorities x.state) forms (key_of Authority number x.keys)) x y → IsCarriedOut all chooses x y
      chosen_on y out =
          subst (λ (f : Class → KeptField → KeptField). IsCarriedOut all f x y) alike
          (subst (λ (k : Key). IsCarriedOut all (choose_field all forms k) x y) key
          (subst (λ (l : List Linkable). IsCarriedOut l (choose_field l forms (key_of Authority number x.keys)) x y) middle.authorities_are out))

      pub choose_within : (before after : ℕ) → after ≤ before + sum_fields (choose_visits (linkable_authorities x.state) forms (key_of Authority number x.keys)) x.state → after ≤ before + choose_cost
      choose_within before after low =
          subst (λ (v : Class → KeptField → ℕ). after ≤ before + sum_fields v settled) same_visits
          (subst (λ (t : State). after ≤ before + sum_fields (choose_visits all forms e.key) t) at
          (subst (λ (k : Key). after ≤ before + sum_fields (choose_visits all forms k) x.state) key
          (subst (λ (l : List Linkable). after ≤ before + sum_fields (choose_visits l forms (key_of Authority number x.keys)) x.state) middle.authorities_are low)))

    pub chosen_is : (x y : Linked) → x.state ≡ settled → IsCarriedOut all chooses x y → y.state ≡ step s a
    chosen_is x y at out = committed y.state (out.state ∙ ap (each_field chooses) at)
