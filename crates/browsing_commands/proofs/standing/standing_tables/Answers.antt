use Rattle.std.proofs.Common.{◌++◌, length, map, ap, subst, ◌∙◌, append-nil}
use Rattle.catalogue_rules.specs.Settle.{state_of}
use Rattle.catalogue_rules.specs.Valid.{IsValid}
use Rattle.numbered_store.specs.Kept.{shown_row}
use Rattle.browsing_commands.proofs.Stands.{listing_goes_on, listing_ends}
use Rattle.browsing_commands.proofs.standing.standing_tables.Goals as goal

pub loop-key-preserved : goal.loop-key-preserved
loop-key-preserved c =
    let valid = subst IsValid c.engine.ensures c.stays_valid.ensures in
    let steps = ap (map shown_row) c.in-Some.ensures.steps in (
      listing_goes_on _ _ _ _ _ _ _ valid c.loop-key.invariant.0 steps c.in_ok-keep_standing.ensures.first,
      listing_goes_on _ _ _ _ _ _ _ valid c.loop-key.invariant.1 steps c.in_ok-keep_standing.ensures.second,
    )

pub returns : goal.returns
returns c =
    let history = c.args.core.now.history in
    let state = ap (λ staged. state_of (history ++ staged)) c.requires ∙ ap state_of (append-nil history) in
    let count = c.history_len-count.ensures.value ∙ (ap (λ staged. length (history ++ staged)) c.requires ∙ ap length (append-nil history)) in
    let none = ap (map shown_row) c.in-None.ensures.steps.0 in (
      listing_ends _ _ _ _ _ _ state c.loop-key.invariant.0 none count c.behind.ensures,
      listing_ends _ _ _ _ _ _ state c.loop-key.invariant.1 none count c.behind-2.ensures,
    )
