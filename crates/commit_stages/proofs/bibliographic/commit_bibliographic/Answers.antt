use Rattle.entry_record.proofs.Admitted.{admitted_fits}
use Rattle.commit_stages.proofs.Alone.{alone_brought, alone_committed, alone_key, alone_middle, alone_number, alone_numbers, alone_within}
use Rattle.commit_stages.proofs.bibliographic.commit_bibliographic.Goals as goal

pub place-requires-clause-fit : goal.place-requires-clause-fit
place-requires-clause-fit g c = admitted_fits c.args.item.now c.requires.commit.admitted

pub settle_brought-requires-clause-number : goal.settle_brought-requires-clause-number
settle_brought-requires-clause-number g c = alone_number c.args.store.now c.args.item.now c.requires.commit c.args.number c.requires.number c.place.new.self c.place.ensures.ahead

pub settle_brought-requires-clause-key : goal.settle_brought-requires-clause-key
settle_brought-requires-clause-key g c = alone_key c.args.store.now c.args.item.now c.requires.commit c.args.number c.requires.number c.place.new.self c.place.ensures.ahead

pub settle_brought-requires-clause-came : goal.settle_brought-requires-clause-came
settle_brought-requires-clause-came g c =
    alone_brought c.args.store.now c.args.item.now c.requires.commit c.args.number c.requires.number c.place.new.self c.place.ensures.ahead c.in_ok-own.ensures.ok

pub settle_brought-requires-clause-middle : goal.settle_brought-requires-clause-middle
settle_brought-requires-clause-middle g c = alone_middle c.args.store.now c.args.item.now c.requires.commit c.place.new.self c.in_ok-own.ensures.ok

pub returns-in_err-counts-clause-visits : goal.returns-in_err-counts-clause-visits
returns-in_err-counts-clause-visits g c =
    alone_within c.args.store.now c.args.item.now c.requires.commit c.place.new.self c.in_ok-own.ensures.ok c.args.steps.now c.settle_brought.new.steps c.settle_brought.ensures.visits

pub returns-clause-state : goal.returns-clause-state
returns-clause-state g c =
    alone_committed c.args.store.now c.args.item.now c.requires.commit c.place.new.self c.in_ok-own.ensures.ok c.settle_brought.new.store c.in_ok-counts.ensures.ok

pub returns-clause-changes : goal.returns-clause-changes
returns-clause-changes g c =
    alone_numbers c.args.store.now c.args.item.now c.requires.commit c.place.new.self c.in_ok-own.ensures.ok c.in_ok-counts.counts c.in_ok-counts.ensures.counts

pub returns-clause-visits : goal.returns-clause-visits
returns-clause-visits g c =
    alone_within c.args.store.now c.args.item.now c.requires.commit c.place.new.self c.in_ok-own.ensures.ok c.args.steps.now c.settle_brought.new.steps c.settle_brought.ensures.visits
