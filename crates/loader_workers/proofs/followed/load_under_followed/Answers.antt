use Rattle.std.proofs.Common.{◌∙◌, length, arith, refl, sym, ap, subst, IsSome}
use Rattle.durable_catalogue.specs.Asked.{Beginning, IsFrom}
use Rattle.catalogue_lock.specs.Passes.{IsPassOf}
use denote.Param.Send.{IsSend, sendable}
use Rattle.std.proofs.Crossing.{crosses}
use Rattle.heading_rows.proofs.Crosses.{heading_send}
use Rattle.loader_workers.proofs.Crosses.{catalogue_send}
use Rattle.loader_workers.specs.contracts.followed.load_under_followed.{D-row as the_disk}
use Rattle.loader_workers.proofs.Tasks.{each_so, each_count}
use Rattle.loader_workers.proofs.Under.{many_passes, many_places, can_load, own_passes, all_passes, loaded_under, without_idle, one_more, all_with, closed_so}
use Rattle.loader_workers.proofs.Follows.{from_later, taken_begins, can_begin, first_given, idle_now}
use Rattle.loader_workers.proofs.followed.load_under_followed.Goals as goal

pub deal-places-requires-clause-same : goal.deal-places-requires-clause-same
deal-places-requires-clause-same g c = many_passes _ _ _ _ _ _ _ c.requires.lock c.requires.files

pub load_beside-follower-requires-send-O : goal.load_beside-follower-requires-send-O
load_beside-follower-requires-send-O g c κs within =
    let disk : IsSend (the_disk g.row.H g.row.D g.row.S g.row.G g.row.T g.row.P) = c.type_bounds.send-D in search (catalogue_send, heading_send, sendable, crosses) depth 40 fits 20000

pub load_beside-follower-requires-clause-follow : goal.load_beside-follower-requires-clause-follow
load_beside-follower-requires-clause-follow g c κs within =
    can_begin g.T.HeadingTaker.taken g.T.HeadingTaker.takes _ _ _ _ _ _ _ c.requires.last c.requires.news c.requires.begins c.requires.takes

pub load_beside-follower-requires-clause-wait : goal.load_beside-follower-requires-clause-wait
load_beside-follower-requires-clause-wait g c κs within = can_load _ _ _ _ _ _ _ c.requires.lock c.requires.files _ c.deal-places.ensures

pub load_beside-follower-requires-clause-catalogue : goal.load_beside-follower-requires-clause-catalogue
load_beside-follower-requires-clause-catalogue g c κs within = record {
  takes = λ batch some. some;
  answers = record {
    origin = record { limits = c.args.lock.opened.core.limits; run = c.args.lock.opened.run };
    commits = λ before batch reply added is. is;
    few = c.requires.lock.few;
  };
}

pub take_apart-files-requires-clause-done : goal.take_apart-files-requires-clause-done
take_apart-files-requires-clause-done g c = each_so _ _ (λ old new did. subst IsSome (sym did.told) refl) _ _ c.load_beside-follower.ensures.each

pub take_apart-files-requires-clause-files : goal.take_apart-files-requires-clause-files
take_apart-files-requires-clause-files g c =
    let all = each_count _ _ _ c.load_beside-follower.ensures.each in
    let dealt = many_places _ _ _ _ _ _ _ c.requires.lock c.requires.files _ c.deal-places.ensures in
    (c.requires.reserved.files.0, omega (arith, all, dealt, c.requires.reserved.files.1))

pub take_apart-files-requires-clause-results : goal.take_apart-files-requires-clause-results
take_apart-files-requires-clause-results g c =
    let all = each_count _ _ _ c.load_beside-follower.ensures.each in
    let dealt = many_places _ _ _ _ _ _ _ c.requires.lock c.requires.files _ c.deal-places.ensures in
    (c.requires.reserved.results.0, omega (arith, all, dealt, c.requires.reserved.results.1))

pub take_apart-files-requires-clause-passes : goal.take_apart-files-requires-clause-passes
take_apart-files-requires-clause-passes g c =
    let all = each_count _ _ _ c.load_beside-follower.ensures.each in
    let dealt = many_places _ _ _ _ _ _ _ c.requires.lock c.requires.files _ c.deal-places.ensures in
    let one = one_more _ _ _ c.requires.reserved.passes.0 c.push_reserved.ensures.items in
    omega (arith, all, dealt, one, c.requires.reserved.passes.1, c.push_reserved.ensures.capacity)

pub close-requires-clause-own : goal.close-requires-clause-own
close-requires-clause-own g c =
    let idle = idle_now c.args.lock _ _ _ _ c.requires.last c.load_beside-follower.ensures.followed.pass in
    all_with (IsPassOf c.args.lock) _ _ _ (first_given _ _ _ _ _ c.requires.reserved.passes.0 c.push_reserved.ensures.items c.take_apart-files.ensures.passes) idle.own
    (own_passes _ _ _ _ _ _ _ c.requires.lock c.requires.files _ c.deal-places.ensures
    g.S.Source.left g.S.Source.bound g.S.Source.faults _ c.load_beside-follower.ensures.each _ _ _
    c.take_apart-files.ensures.files refl c.take_apart-files.ensures.results)

pub close-requires-clause-all : goal.close-requires-clause-all
close-requires-clause-all g c =
    let all = first_given _ _ _ _ _ c.requires.reserved.passes.0 c.push_reserved.ensures.items c.take_apart-files.ensures.passes in
    let loaders = all_passes _ _ _ _ _ _ _ c.requires.lock c.requires.files _ c.deal-places.ensures
    g.S.Source.left g.S.Source.bound g.S.Source.faults _ c.load_beside-follower.ensures.each _ _ _
    c.take_apart-files.ensures.files refl c.take_apart-files.ensures.results in
    ap length all ∙ omega (arith, loaders, c.requires.callers)

pub returns-clause-loaded : goal.returns-clause-loaded
returns-clause-loaded g c =
    let idle = idle_now c.args.lock _ _ _ _ c.requires.last c.load_beside-follower.ensures.followed.pass in
    let all = first_given _ _ _ _ _ c.requires.reserved.passes.0 c.push_reserved.ensures.items c.take_apart-files.ensures.passes in
    loaded_under _ _ _ _ _ _ _ c.requires.lock c.requires.files _ c.deal-places.ensures
    g.S.Source.left g.S.Source.bound g.S.Source.faults _ c.load_beside-follower.ensures.each _ _ _
    c.take_apart-files.ensures.files refl c.take_apart-files.ensures.results
    _ _ _ refl (without_idle _ _ _ _ _ idle.added idle.number (closed_so _ _ _ _ _ _ c.requires.callers all c.close.ensures.history)) c.close.result.few

pub returns-clause-news : goal.returns-clause-news
returns-clause-news g c =
    subst (λ (o : Beginning). IsFrom o.news (length (g.T.HeadingTaker.taken c.load_beside-follower.result.0.taker))) (sym c.close.ensures.origin)
    (from_later _ _ _ c.requires.news c.load_beside-follower.ensures.followed.longer)

pub returns-clause-begins : goal.returns-clause-begins
returns-clause-begins g c =
    let all = first_given _ _ _ _ _ c.requires.reserved.passes.0 c.push_reserved.ensures.items c.take_apart-files.ensures.passes in
    let closed = closed_so _ _ _ _ _ _ c.requires.callers all c.close.ensures.history in
    taken_begins _ _ _ _ _ c.load_beside-follower.ensures.followed.behind (closed.begins 0 _ refl) closed.whole
