-- What is due of a catalogue's history.
use Rattle.std.proofs.Common.{◌≡◌, ◌∙◌, ℕ, List, [], ◌++◌, Bool, ap, append-nil, subst}
use Rattle.marc_types.specs.declared.key.Key.{Key}
use Rattle.catalogue_rules.specs.State.{State}
use Rattle.catalogue_rules.specs.Settle.{state_of}
use Rattle.catalogue_core.specs.Catalogues.{Catalogued, all_entries}
use Rattle.heading_worklist.specs.Counts.{Counted}
use Rattle.heading_worklist.specs.Csv.{list_bytes}
use Rattle.heading_worklist.specs.Worklist.{lines_behind, worklist_lines, worklist_of}
use Rattle.worklist_page.specs.Headings.{all_open_headings}
use Rattle.worklist_page.specs.Page.{state_page}
use Rattle.worklist_page.specs.declared.bringer.Bringer.{Bringer}

-- the state behind all entries is that behind the history, where nothing is staged
behind_history : (core : Catalogued) (s : State) → core.staged ≡ [] → s ≡ state_of (all_entries core) → s ≡ state_of core.history
behind_history core s settled is = is ∙ ap state_of (ap (λ es. core.history ++ es) settled ∙ append-nil core.history)

-- the lines of the headings that were found and counted are the worklist of the state behind the history, where nothing is staged
list_of_history : (keep : Key → Bool) (core : Catalogued) (s : State) (lines : List Counted)
    → core.staged ≡ [] → s ≡ state_of (all_entries core) → lines ≡ all_open_headings s
    → list_bytes (lines_behind keep s lines) ≡ worklist_of keep (state_of core.history)
unfolding worklist_of worklist_lines
list_of_history keep core s lines settled is l =
    ap (λ ls. list_bytes (lines_behind keep s ls)) l
    ∙ ap (λ t. list_bytes (lines_behind keep t (all_open_headings t))) (behind_history core s settled is)

-- the page of the state is that of the state behind the history, where nothing is staged
page_of_history : (core : Catalogued) (s : State) (brought : List (Bringer × ℕ)) (page : List ℕ)
    → core.staged ≡ [] → s ≡ state_of (all_entries core) → page ≡ state_page s brought → page ≡ state_page (state_of core.history) brought
page_of_history core s brought page settled is p = p ∙ ap (λ t. state_page t brought) (behind_history core s settled is)

-- what holds of the lines and the page that were made of the state holds of what is due of the history, where nothing is staged
pub both_of_history : (P : List ℕ → List ℕ → Type 0) (keep : Key → Bool) (core : Catalogued) (s : State) (lines : List Counted) (brought : List (Bringer × ℕ))
    (page : List ℕ) → core.staged ≡ [] → s ≡ state_of (all_entries core) → lines ≡ all_open_headings s → page ≡ state_page s brought
    → P (list_bytes (lines_behind keep s lines)) page → P (worklist_of keep (state_of core.history)) (state_page (state_of core.history) brought)
both_of_history P keep core s lines brought page settled is l p both =
    subst (λ shown. P shown (state_page (state_of core.history) brought)) (list_of_history keep core s lines settled is l)
    (subst (P (list_bytes (lines_behind keep s lines))) (page_of_history core s brought page settled is p) both)
