-- Worked cases of what a commit touches, and the bound on its visits in one name.
use Rattle.std.proofs.Common.{◌≡◌, ◌≤◌, ℕ, ◌+◌, Bool, true, false, ◌||◌, refl, sym, ap, ◌∙◌, subst, if◌then◌else◌, List, Some, None, Option}
use Rattle.marc_types.specs.Order.{key_cmp}
use Rattle.marc_types.specs.Valid.{is_code, is_number}
use Rattle.marc_types.specs.declared.key.Class.{Class}
use Rattle.marc_types.specs.declared.key.Class.TheVariants.{Authority, Bibliographic}
use Rattle.marc_types.specs.declared.entry.Entry.{Entry}
use Rattle.marc_types.specs.declared.form.Kind.TheVariants.{Personal}
use Rattle.marc_types.specs.declared.form.Kind.{Kind}
use Rattle.marc_types.specs.declared.form.Form.{Form}
use Rattle.heading_fields.specs.Tables.{kind_by_tag}
use Rattle.entry_record.specs.Authority.{successor_of, key_of_text, heading_kind, has_form}
use Rattle.catalogue_rules.specs.State.{State, linkable_authorities}
use Rattle.catalogue_rules.specs.Settle.{arrival_of}
use Rattle.catalogue_rules.specs.Worked.{numbered}
use Rattle.linking_laws.specs.Commits.{CanBeCommitted}
use Rattle.linking_laws.specs.Visits.{touched, touched_by, touched_in, visits_in}
use Rattle.linking_laws.specs.Waiting.{asks_for, forms_touched, is_named, is_waiting_for}
use Rattle.linking_laws.specs.Behind.{placed_in}
use Rattle.heading_fields.specs.Numbers.{is_naming}
use Rattle.std.specs.Option.{option_map_or}
use Rattle.linking_laws.specs.Weights.{arrival_weight, linked_weight, touched_weight, weight}
use Rattle.linking_laws.specs.Worked.{arrived, awaiting_name, awaiting_state, clemens_key, brought, deleted, linked_state, plain_name, replaced}
use Rattle.linking_laws.proofs.Sums.{visits_within, own_visits_within}

pub visits_touched : (class : Class) (s : State) (e : Entry) → CanBeCommitted class s e → visits_in class s e ≤ touched s e
visits_touched Authority s e c = subst (λ (k : Class). visits_in Authority s e ≤ touched_in k s (arrival_of e)) (sym c.class_is) (visits_within s e c)
visits_touched Bibliographic s e c =
    subst (λ (k : Class). visits_in Bibliographic s e ≤ touched_in k s (arrival_of e)) (sym c.class_is) (own_visits_within s e c)

pub replacing_touches : touched_by linked_state replaced ≡ 8
unfolding arrival_weight touched_weight linked_weight is_waiting_for heading_kind kind_by_tag successor_of key_of_text is_code is_number key_cmp
replacing_touches = refl

pub deleting_touches : touched_by linked_state deleted ≡ 6
unfolding arrival_weight touched_weight linked_weight is_waiting_for heading_kind kind_by_tag successor_of key_cmp
deleting_touches = refl

pub bringing_touches : has_form numbered Personal ≡ true → touched_by linked_state brought ≡ 2
unfolding arrival_weight weight heading_kind kind_by_tag
bringing_touches has_form_is = rw has_form_is refl

or_true : (b : Bool) → (b || true) ≡ true
or_true true = refl
or_true false = refl

-- the field that awaits the key, whatever forms the key's authority has
awaiting_weighs : (forms : List Form) → has_form plain_name Personal ≡ true →
    touched_weight forms clemens_key None Bibliographic awaiting_name ≡ 3
unfolding touched_weight is_waiting_for weight heading_kind kind_by_tag is_naming key_cmp
awaiting_weighs forms has_form_is =
    let kind : heading_kind Bibliographic plain_name ≡ Some Personal =
    ap (λ (b : Bool). if b then Some Personal else None) has_form_is in
    let waits : is_waiting_for forms clemens_key Bibliographic awaiting_name ≡ true =
    ap (λ (o : Option Kind). option_map_or (λ k. is_named forms clemens_key Bibliographic k awaiting_name) o false) kind
    ∙ or_true (asks_for forms Bibliographic Personal awaiting_name) in
    ap {B = ℕ} (λ (b : Bool). if b then 3 else 0) waits

pub arriving_touches : has_form plain_name Personal ≡ true → touched_by awaiting_state arrived ≡ 3
unfolding arrival_weight heading_kind kind_by_tag successor_of
arriving_touches has_form_is =
    ap {B = ℕ} (λ (n : ℕ). 0 + (0 + (0 + (0 + n))))
    (awaiting_weighs (forms_touched clemens_key (linkable_authorities awaiting_state) (linkable_authorities (placed_in Authority arrived awaiting_state))) has_form_is)
