-- What the stages of a commit change at a place, and what the whole commit has exchanged there. The rules are this project's own.
use Rattle.std.specs.Prelude.{◌≡◌, Bool, false, ◌||◌, not, Option, None, Some, find}
use Rattle.marc_types.specs.declared.key.Class.{Class}
use Rattle.marc_types.specs.declared.key.Class.TheVariants.{Authority}
use Rattle.marc_types.specs.declared.key.Place.{Place}
use Rattle.marc_types.specs.declared.entry.Entry.{Entry}
use Rattle.catalogue_rules.specs.State.{KeptField, State, each_field}
use Rattle.catalogue_rules.specs.Choice.{has_key}
use Rattle.catalogue_rules.specs.Sameness.{same_kept}
use Rattle.catalogue_rules.specs.Settle.{arrival_of}
use Rattle.catalogue_rules.specs.Store.{field_under}
use Rattle.linking_laws.specs.Commits.{authorities_behind, dropping_of, forms_of_commit, placed_by}
use Rattle.linking_laws.specs.Stages.{carry_by, choose_field, drop_by, settle_own, successor_in}
use Rattle.linking_laws.specs.Tables.{holds_at}

-- ---- the stages of an authority's commit, and the states behind them

-- what the stage that drops links makes of a field
abbrev pub drop_of_commit : State → Entry → Class → KeptField → KeptField
drop_of_commit s e = drop_by (dropping_of s e) (authorities_behind s e) e.key (successor_in (arrival_of e))

-- what the stage that carries the heading makes of a field
abbrev pub carry_of_commit : State → Entry → Class → KeptField → KeptField
carry_of_commit s e = carry_by e.key (find (has_key e.key) (authorities_behind s e))

-- what the stage that chooses makes of a field
abbrev pub choose_of_commit : State → Entry → Class → KeptField → KeptField
choose_of_commit s e = choose_field (authorities_behind s e) (forms_of_commit s e) e.key

-- the state behind the stage that drops links
abbrev pub state_dropped : State → Entry → State
state_dropped s e = each_field (drop_of_commit s e) (placed_by Authority s e)

-- the state behind the stage that carries the heading
abbrev pub state_carried : State → Entry → State
state_carried s e = each_field (carry_of_commit s e) (state_dropped s e)

-- the committed record's own fields are settled
abbrev pub state_own_settled : State → Entry → State
state_own_settled s e = settle_own (authorities_behind s e) Authority e.key (state_carried s e)

-- no stage changes the field
pub record IsLeftByStages (s : State) (e : Entry) (class : Class) (h : KeptField) : Type 0 where
  pub dropped : drop_of_commit s e class h ≡ h
  pub carried : carry_of_commit s e class h ≡ h
  pub chosen : choose_of_commit s e class h ≡ h

-- ---- places that differ

-- there is a field in both, and the one isn't the other
abbrev pub are_exchanged : Option KeptField → Option KeptField → Bool
are_exchanged None now = false
are_exchanged (Some old) None = false
are_exchanged (Some old) (Some new) = not (same_kept old new)

-- at the place there is one field before and another now
abbrev pub is_exchanged_at : State → State → Place → Bool
is_exchanged_at before now p = are_exchanged (field_under p before) (field_under p now)

-- a change makes another field of this one
abbrev pub is_another : (Class → KeptField → KeptField) → Class → KeptField → Bool
is_another change class h = not (same_kept h (change class h))

-- there is a field at the place, and the change makes another of it
abbrev pub differs_at : (Class → KeptField → KeptField) → State → Place → Bool
differs_at change s p = holds_at (is_another change) s p

-- one of the stages makes another of the field at the place
abbrev pub is_changed_by_stages : State → Entry → Place → Bool
is_changed_by_stages s e p =
    differs_at (drop_of_commit s e) (placed_by Authority s e) p
    || differs_at (carry_of_commit s e) (state_dropped s e) p
    || differs_at (choose_of_commit s e) (state_own_settled s e) p
