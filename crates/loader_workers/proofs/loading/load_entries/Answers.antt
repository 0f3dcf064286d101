use Rattle.std.proofs.Common.{ap, sym, subst, ◌∙◌, Option, Some}
use Rattle.loader_workers.specs.Gathering.{HasGathered}
use Rattle.loader_workers.specs.Loading.{CountsFaults, LoadsOneFile}
use Rattle.loader_workers.specs.declared.file_end.FileEnd.{FileEnd}
use Rattle.loader_workers.specs.declared.result.FileResult.{FileResult}
use Rattle.loader_workers.proofs.Loaded.{loads_on, loads_to_end, loads_to_fault, loading_none, turned_whole, faults_at_end, faults_before, no_read_fault}
use Rattle.loader_workers.proofs.loading.load_entries.Goals as goal

pub turns-init : goal.turns-init
turns-init g c = loading_none _ _ _ _ _ c.requires.going c.requires.pass.seen c.none-counts.ensures c.new-refused.ensures.items

pub returns-in-Some-clause-loads : goal.returns-in-Some-clause-loads
returns-in-Some-clause-loads g c origin commits =
    subst (λ (r : FileResult). LoadsOneFile origin c.args.entries.now c.gather-batch.new.entries.stream.left c.args.pass.now c.commit.new.pass r) (sym c.result.ensures)
    (loads_to_fault _ origin _ _ _ _ _ _ _ _ _ _ _ _ _ commits c.turns.invariant
    (record { gathers = c.gather-batch.ensures.gathers; commits = c.in-Some.ensures.front; turned = c.commit.ensures.pass }))

pub returns-in-Some-clause-pass : goal.returns-in-Some-clause-pass
returns-in-Some-clause-pass g c = turned_whole _ _ _ _ _ _ _ _ c.turns.invariant c.commit.ensures.pass

pub returns-in-Some-clause-faults : goal.returns-in-Some-clause-faults
returns-in-Some-clause-faults g c =
    faults_before _ _ _ _ c.turns.invariant.taken.answered.faults c.gather-batch.ensures.faults (λ is.
    no_read_fault _ _ _ _ _ _ _ c.requires.catalogue.answers c.in-Some.ensures.front
    (ap (λ (end : FileEnd). Some end) (sym (ap (λ (r : FileResult). r.end) c.result.ensures) ∙ is)))

pub returns-in-Some-over-clause-loads : goal.returns-in-Some-over-clause-loads
returns-in-Some-over-clause-loads g c origin commits =
    let gathers = subst (λ (end : Option FileEnd). HasGathered c.turns.entries c.gather-batch.new.entries c.turns.refused.items c.gather-batch.new.refused.items c.gather-batch.result.0 end)
    c.in-Some-over.is c.gather-batch.ensures.gathers in
    subst (λ (r : FileResult). LoadsOneFile origin c.args.entries.now c.gather-batch.new.entries.stream.left c.args.pass.now c.commit.new.pass r) (sym c.result-in-Some-over.ensures)
    (loads_to_end _ origin _ _ _ _ _ _ _ _ _ _ _ _ commits c.requires.fresh c.turns.invariant
    (record { gathers = gathers; commits = c.in_default.ensures.front; turned = c.commit.ensures.pass }))

pub returns-in-Some-over-clause-pass : goal.returns-in-Some-over-clause-pass
returns-in-Some-over-clause-pass g c = turned_whole _ _ _ _ _ _ _ _ c.turns.invariant c.commit.ensures.pass

pub returns-in-Some-over-clause-faults : goal.returns-in-Some-over-clause-faults
returns-in-Some-over-clause-faults g c =
    subst (λ (r : FileResult). CountsFaults c.args.entries.now.stream.faults c.gather-batch.new.entries.stream.faults r.end) (sym c.result-in-Some-over.ensures)
    (faults_at_end _ _ _ _ _ c.turns.invariant.taken.answered.faults c.gather-batch.ensures.faults c.gather-batch.ensures.cause c.in-Some-over.is)

pub turns-preserved : goal.turns-preserved
turns-preserved g c =
    let gathers = subst (λ (end : Option FileEnd). HasGathered c.turns.entries c.gather-batch.new.entries c.turns.refused.items c.gather-batch.new.refused.items c.gather-batch.result.0 end)
    c.in_default-over.is c.gather-batch.ensures.gathers in
    loads_on _ _ _ _ _ _ _ _ _ _ _ _ c.requires.catalogue.answers c.turns.invariant
    (record { gathers = gathers; commits = c.in_default.ensures.front; turned = c.commit.ensures.pass })
    c.commit.ensures.counted
