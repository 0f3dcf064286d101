use Rattle.std.proofs.Common.{rules, ◌∙◌, subst, IsSome}
use Rattle.loader_workers.proofs.Tasks.{none_left, same_places, first_there, first_of, others_of, taken_none, told_none, taken_one, told_one, taken_all, told_all, behind_none, behind_one, behind_all}
use Rattle.loader_workers.proofs.dealing.take_apart.Goals as goal

pub loop-place-init : goal.loop-place-init
loop-place-init g c = (
  taken_none (λ t. t.file) _ _ _ c.into_iter-places.ensures.rest c.requires.files.0,
  behind_none (λ t. t.pass) _ _ _ c.into_iter-places.ensures.rest,
  told_none _ _ _ c.into_iter-places.ensures.rest c.requires.results.0,
  same_places _ _ _ c.requires.done c.into_iter-places.ensures.rest,
  search rules,
  search rules,
  search rules,
  search rules,
  search rules,
  search rules,
)

pub unreachable-requires : goal.unreachable-requires
unreachable-requires g c = first_there _ _ _ _ c.in-Some.ensures.items c.loop-place.invariant.3 c.in_default-place.is

pub unreachable-requires-in_default-result : goal.unreachable-requires-in_default-result
unreachable-requires-in_default-result g c =
    absurd (cc (subst IsSome c.in_default-result.is (first_of _ _ _ _ _ c.in-Some.ensures.items c.loop-place.invariant.3 c.in-Some-place.is)))

pub loop-place-preserved : goal.loop-place-preserved
loop-place-preserved g c =
    let (files, passes, results, done, files_count, passes_count, results_count, files_room, passes_room, results_room) = c.loop-place.invariant in (
      taken_one (λ t. t.file) c.args.places.items _ _ _ _ _ _ files c.in-Some.ensures.items c.in-Some-place.is c.push_reserved.ensures.items,
      behind_one (λ t. t.pass) c.args.places.items _ _ _ _ _ _ _ passes c.in-Some.ensures.items c.in-Some-place.is c.push_reserved-in-Some.ensures.items,
      told_one c.args.places.items _ _ _ _ _ _ _ results c.in-Some.ensures.items c.in-Some-place.is c.in-Some-result.is c.push_reserved-in-Some-2.ensures.items,
      others_of _ _ _ _ c.in-Some.ensures.items done,
      search rules,
      search rules,
      search rules,
      search rules,
      search rules,
      search rules,
    )

pub returns-clause-files : goal.returns-clause-files
returns-clause-files g c =
    c.from_vec.ensures ∙ taken_all (λ t. t.file) c.args.places.items _ _ c.loop-place.invariant.0 (none_left _ _ c.loop-place.places.rest.ok.0 (search rules))

pub returns-clause-passes : goal.returns-clause-passes
returns-clause-passes g c =
    c.from_vec-2.ensures ∙ behind_all (λ t. t.pass) c.args.places.items _ _ _ c.loop-place.invariant.1 (none_left _ _ c.loop-place.places.rest.ok.0 (search rules))

pub returns-clause-results : goal.returns-clause-results
returns-clause-results g c =
    c.from_vec-3.ensures ∙ told_all c.args.places.items _ _ c.loop-place.invariant.2 (none_left _ _ c.loop-place.places.rest.ok.0 (search rules))
