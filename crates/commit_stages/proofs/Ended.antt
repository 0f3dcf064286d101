-- Links that end, and none.
use Rattle.std.proofs.Common.{◌≡◌, ◌∙◌, sym, ap, refl, subst, ℕ, ◌+◌, ◌≤◌, Bool, List, Option}
use Rattle.std.specs.Option.{option_copied}
use Rattle.marc_types.specs.declared.entry.Entry.{Entry}
use Rattle.marc_types.specs.declared.key.Key.{Key}
use Rattle.entry_record.specs.Authority.{Linkable}
use Rattle.numbering.specs.declared.seat.Seat.{Seat}
use Rattle.catalogue_rules.specs.Settle.{arrival_of}
use Rattle.catalogue_rules.specs.State.{State, each_field, linkable_authorities}
use Rattle.linking_laws.specs.Middle.{CanDrop, IsMiddleWith}
use Rattle.linking_laws.specs.Stages.{Dropping, DropNone, successor_in}
use Rattle.linking_laws.specs.Visits.{drop_visits_by}
use Rattle.linking_laws.specs.Weights.{sum_fields}
use Rattle.linking_laws.proofs.Dropped.{drop_ready}
use Rattle.linked_store.specs.Linked.{Linked}
use Rattle.commit_stages.specs.Turns.{IsCarriedOut}
use Rattle.commit_stages.proofs.Turning.{ahead_itself}
use Rattle.commit_stages.specs.Dropping.{dropping_as, ending_visits}
use Rattle.commit_stages.specs.declared.ending.EndingLinks.{EndingLinks}
use Rattle.commit_stages.specs.Noted.{NotesChanges}
use Rattle.commit_stages.specs.Stages.{drop_of, drop_visits_of, dropping_to}
use Rattle.commit_stages.specs.declared.brought.Ending.{Ending}
use Rattle.commit_stages.specs.declared.brought.Ending.TheVariants.{Nothing}
use Rattle.commit_stages.proofs.Idle.{idle_noted}
use Rattle.commit_stages.proofs.Parts.{same_state}

module _ (ending : Ending) (e : Entry) (x : Linked) (is : ending ≡ Nothing) where
  abbrev all : List Linkable
  all = linkable_authorities x.state

  stays : each_field (drop_of Nothing e all) x.state ≡ x.state
  stays = same_state (drop_of Nothing e all) x.state (λ class h. refl)

  pub nothing_dropped : CanDrop (dropping_to ending) e.key x.state → IsCarriedOut all (drop_of ending e all) x x
  nothing_dropped can =
      let can_none : CanDrop DropNone e.key x.state = subst (λ (n : Ending). CanDrop (dropping_to n) e.key x.state) is can in
      subst (λ (n : Ending). IsCarriedOut all (drop_of n e all) x x) (sym is)
      (record {
        ahead = ahead_itself x;
        state = sym stays;
        middle = subst (λ (t : State). IsMiddleWith all t) stays (drop_ready DropNone e.key (successor_in (arrival_of e)) x.state can_none);
      })

  pub nothing_noted : (seats : List Seat) → NotesChanges (drop_of ending e all) x seats seats
  nothing_noted seats = subst (λ (n : Ending). NotesChanges (drop_of n e all) x seats seats) (sym is) (idle_noted (drop_of Nothing e all) x seats (λ class h. refl))

-- the visits of dropping these links are those of the entry's stage
pub dropped_steps : (ending which : Ending) (only_base : Bool) (e : Entry) (links : EndingLinks) (s : State) (before after : ℕ) → dropping_as only_base ≡ dropping_to which → ending ≡ which
    → links.key.now ≡ e.key → links.only_base ≡ only_base → option_copied links.successor ≡ successor_in (arrival_of e)
    → after ≤ before + sum_fields (ending_visits links (linkable_authorities s)) s → after ≤ before + sum_fields (drop_visits_of ending e (linkable_authorities s)) s
dropped_steps ending which only_base e links s before after fits is key base successor low =
    let dropping : dropping_as links.only_base ≡ dropping_to ending = ap dropping_as base ∙ fits ∙ ap dropping_to (sym is) in
    subst (λ (d : Dropping). after ≤ before + sum_fields (drop_visits_by d (linkable_authorities s) e.key (successor_in (arrival_of e))) s) dropping
    (subst (λ (o : Option Key). after ≤ before + sum_fields (drop_visits_by (dropping_as links.only_base) (linkable_authorities s) e.key o) s) successor
    (subst (λ (k : Key). after ≤ before + sum_fields (drop_visits_by (dropping_as links.only_base) (linkable_authorities s) k (option_copied links.successor)) s) key low))
