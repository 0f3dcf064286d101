use Rattle.std.proofs.Common.{◌∙◌, length, arith, refl, sym, ap, subst, IsSome}
use denote.Param.Send.{IsSend, sendable}
use Rattle.std.proofs.Crossing.{crosses}
use Rattle.heading_rows.proofs.Crosses.{heading_send}
use Rattle.loader_workers.proofs.Crosses.{catalogue_send}
use Rattle.loader_workers.specs.contracts.parallel.load_under.{D-row as the_disk}
use Rattle.loader_workers.proofs.Tasks.{each_so, each_count}
use Rattle.loader_workers.proofs.Under.{none_given, many_passes, many_places, can_load, own_passes, all_passes, loaded_under}
use Rattle.loader_workers.proofs.parallel.load_under.Goals as goal

pub deal-places-requires-clause-same : goal.deal-places-requires-clause-same
deal-places-requires-clause-same g c = many_passes _ _ _ _ _ _ _ c.requires.lock c.requires.files

pub load_all-places-requires-send-O : goal.load_all-places-requires-send-O
load_all-places-requires-send-O g c κs within =
    let disk : IsSend (the_disk g.row.H g.row.D g.row.S g.row.G) = c.type_bounds.send-D in search (catalogue_send, heading_send, sendable, crosses) depth 40 fits 20000

pub load_all-places-requires-clause-wait : goal.load_all-places-requires-clause-wait
load_all-places-requires-clause-wait g c κs within = can_load _ _ _ _ _ _ _ c.requires.lock c.requires.files _ c.deal-places.ensures

pub load_all-places-requires-clause-catalogue : goal.load_all-places-requires-clause-catalogue
load_all-places-requires-clause-catalogue g c κs within = record {
  takes = λ batch some. some;
  answers = record {
    origin = record { limits = c.args.lock.opened.core.limits; run = c.args.lock.opened.run };
    commits = λ before batch reply added is. is;
    few = c.requires.lock.few;
  };
}

pub take_apart-files-requires-clause-done : goal.take_apart-files-requires-clause-done
take_apart-files-requires-clause-done g c = each_so _ _ (λ old new did. subst IsSome (sym did.told) refl) _ _ c.load_all-places.ensures.each

pub take_apart-files-requires-clause-files : goal.take_apart-files-requires-clause-files
take_apart-files-requires-clause-files g c =
    let all = each_count _ _ _ c.load_all-places.ensures.each in
    let dealt = many_places _ _ _ _ _ _ _ c.requires.lock c.requires.files _ c.deal-places.ensures in
    (c.requires.reserved.files.0, omega (arith, all, dealt, c.requires.reserved.files.1))

pub take_apart-files-requires-clause-passes : goal.take_apart-files-requires-clause-passes
take_apart-files-requires-clause-passes g c =
    let all = each_count _ _ _ c.load_all-places.ensures.each in
    let dealt = many_places _ _ _ _ _ _ _ c.requires.lock c.requires.files _ c.deal-places.ensures in
    omega (arith, all, dealt, ap length c.requires.reserved.passes.0, c.requires.reserved.passes.1)

pub take_apart-files-requires-clause-results : goal.take_apart-files-requires-clause-results
take_apart-files-requires-clause-results g c =
    let all = each_count _ _ _ c.load_all-places.ensures.each in
    let dealt = many_places _ _ _ _ _ _ _ c.requires.lock c.requires.files _ c.deal-places.ensures in
    (c.requires.reserved.results.0, omega (arith, all, dealt, c.requires.reserved.results.1))

pub close-requires-clause-own : goal.close-requires-clause-own
close-requires-clause-own g c =
    own_passes _ _ _ _ _ _ _ c.requires.lock c.requires.files _ c.deal-places.ensures
    g.S.Source.left g.S.Source.bound g.S.Source.faults _ c.load_all-places.ensures.each _ _ _
    c.take_apart-files.ensures.files (none_given _ _ _ c.requires.reserved.passes.0 c.take_apart-files.ensures.passes) c.take_apart-files.ensures.results

pub close-requires-clause-all : goal.close-requires-clause-all
close-requires-clause-all g c =
    all_passes _ _ _ _ _ _ _ c.requires.lock c.requires.files _ c.deal-places.ensures
    g.S.Source.left g.S.Source.bound g.S.Source.faults _ c.load_all-places.ensures.each _ _ _
    c.take_apart-files.ensures.files (none_given _ _ _ c.requires.reserved.passes.0 c.take_apart-files.ensures.passes) c.take_apart-files.ensures.results
    ∙ sym c.requires.callers

pub returns-clause-loaded : goal.returns-clause-loaded
returns-clause-loaded g c =
    loaded_under _ _ _ _ _ _ _ c.requires.lock c.requires.files _ c.deal-places.ensures
    g.S.Source.left g.S.Source.bound g.S.Source.faults _ c.load_all-places.ensures.each _ _ _
    c.take_apart-files.ensures.files (none_given _ _ _ c.requires.reserved.passes.0 c.take_apart-files.ensures.passes) c.take_apart-files.ensures.results
    _ _ _ c.requires.callers c.close.ensures.history c.close.result.few
