-- Lists with the same forms make the same stage.
use Rattle.std.proofs.Common.{◌≡◌, ℕ, ◌+◌, Bool, false, ◌||◌, List, [], ◌∷◌, Option, Some, None, is_some, refl, ap, ◌∙◌, if◌then◌else◌}
use Rattle.std.specs.List.{list_any}
use Rattle.std.specs.Option.{option_map_or}
use Rattle.marc_types.specs.declared.key.Class.{Class}
use Rattle.marc_types.specs.declared.key.Key.{Key}
use Rattle.marc_types.specs.declared.form.Kind.{Kind}
use Rattle.marc_types.specs.declared.form.Form.{Form}
use Rattle.entry_record.specs.Authority.{Linkable, heading_kind}
use Rattle.catalogue_rules.specs.State.{KeptField, State, each_field}
use Rattle.catalogue_rules.specs.Settle.{settle_unlinked}
use Rattle.linking_laws.specs.Waiting.{AreSameForms, asked_forms, is_form_among, is_named, is_waiting_for, names_key}
use Rattle.linking_laws.specs.Stages.{choose_field}
use Rattle.linking_laws.specs.Visits.{choose_visits, link_visit}
use Rattle.linking_laws.specs.Weights.{sum_fields}

module _ (forms others : List Form) (same : AreSameForms forms others) (key : Key) (class : Class) (h : KeptField) where
  asks_alike : (asked : List Form) → list_any (is_form_among forms) asked ≡ list_any (is_form_among others) asked
  asks_alike [] = refl
  asks_alike (f ∷ asked) = ap (λ b. b || list_any (is_form_among forms) asked) (same f) ∙ ap (λ b. is_form_among others f || b) (asks_alike asked)

  named_alike : (o : Option Kind) → option_map_or (λ kind. is_named forms key class kind h) o false ≡ option_map_or (λ kind. is_named others key class kind h) o false
  named_alike None = refl
  named_alike (Some kind) = ap (λ b. b || names_key key h) (asks_alike (asked_forms class kind h))

  -- a field waits for the one as for the other
  pub waits_alike : is_waiting_for forms key class h ≡ is_waiting_for others key class h
  unfolding is_waiting_for
  waits_alike = ap (λ (b : Bool). if is_some h.tie.key then false else b) (named_alike (heading_kind class h.field))

pub choose_alike : (now : List Linkable) (forms others : List Form) (key : Key) (class : Class) (h : KeptField) → AreSameForms forms others →
    choose_field now forms key class h ≡ choose_field now others key class h
unfolding choose_field
choose_alike now forms others key class h same = ap (λ (b : Bool). if b then settle_unlinked now class h else h) (waits_alike forms others same key class h)

pub visits_alike : (now : List Linkable) (forms others : List Form) (key : Key) (class : Class) (h : KeptField) → AreSameForms forms others →
    choose_visits now forms key class h ≡ choose_visits now others key class h
unfolding choose_visits
visits_alike now forms others key class h same = ap {B = ℕ} (λ (b : Bool). if b then 1 + link_visit now class h else 0) (waits_alike forms others same key class h)

pub state_alike : (now : List Linkable) (forms others : List Form) (key : Key) (s : State) → AreSameForms forms others →
    each_field (choose_field now forms key) s ≡ each_field (choose_field now others key) s
state_alike now forms others key s same = λ i. each_field (λ class h. choose_alike now forms others key class h same i) s

pub sum_alike : (now : List Linkable) (forms others : List Form) (key : Key) (s : State) → AreSameForms forms others →
    sum_fields (choose_visits now forms key) s ≡ sum_fields (choose_visits now others key) s
sum_alike now forms others key s same = λ i. sum_fields (λ class h. visits_alike now forms others key class h same i) s
