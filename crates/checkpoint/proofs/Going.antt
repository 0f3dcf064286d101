-- A history in two steps.
use Rattle.std.proofs.Common.{◌≡◌, ◌∙◌, ℕ, List, ◌++◌, take, drop, map, sym, ap}
use Rattle.std.specs.Prelude.{fold}
use Rattle.std.proofs.lemmas.List.{take-append-drop}
use Rattle.std.proofs.lemmas.List.Sums.{fold-append}
use mathlib.Core.List.{map-append}
use Rattle.marc_types.specs.declared.entry.Entry.{Entry}
use Rattle.catalogue_rules.specs.State.{State, empty_state}
use Rattle.catalogue_rules.specs.Settle.{step, arrival_of, state_after, state_of}
use Rattle.checkpoint.specs.Resuming.{gone_on, resumed}

map_joined : (xs ys : List Entry) → map arrival_of (xs ++ ys) ≡ map arrival_of xs ++ map arrival_of ys
map_joined xs ys = map-append arrival_of xs ys

gone_on_from : (xs ys : List Entry) → gone_on (state_of xs) ys ≡ state_of (xs ++ ys)
unfolding state_after
gone_on_from xs ys = sym (fold-append step empty_state (map arrival_of xs) (map arrival_of ys)) ∙ ap (fold step empty_state) (sym (map_joined xs ys))

pub resumed_whole : (history : List Entry) (taken : ℕ) (s : State) → s ≡ state_of (take taken history) → resumed s taken history ≡ state_of history
resumed_whole history taken s is =
    ap (λ t. gone_on t (drop taken history)) is
    ∙ gone_on_from (take taken history) (drop taken history)
    ∙ ap state_of (take-append-drop taken history)
