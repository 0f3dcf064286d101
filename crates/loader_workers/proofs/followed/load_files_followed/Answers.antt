use Rattle.std.proofs.Common.{rules, ◌≡◌, ◌∙◌, ◌+◌, ◌≤◌, length, sym, ap, subst}
use Rattle.marc_types.specs.Limits.{most_entries}
use Rattle.entry_record.specs.History.{next_run}
use Rattle.catalogue_core.specs.Catalogues.{Catalogued}
use Rattle.durable_catalogue.specs.Durables.{mark_of, events}
use Rattle.durable_catalogue.specs.declared.durable.Durable.{Durable}
use Rattle.loader_workers.specs.Files.{IsLockOver, extra_pass}
use Rattle.loader_workers.proofs.Works.{on_err}
use Rattle.loader_workers.proofs.Follows.{new_first, same_begins}
use Rattle.loader_workers.proofs.Under.{loaded_so}
use Rattle.loader_workers.proofs.followed.load_files_followed.Goals as goal

pub returns-in_default-new-clause-unmarked : goal.returns-in_default-new-clause-unmarked
returns-in_default-new-clause-unmarked g c = on_err _ _ (c.as_it_was-in_default-new.ensures.mark ∙ c.requires.whole)

pub load_under_followed-loaded-requires-clause-lock : goal.load_under_followed-loaded-requires-clause-lock
load_under_followed-loaded-requires-clause-lock g c κs within =
    subst (λ (d : Durable g.row.D.Denot g.D.Disk).
    IsLockOver d.core.history (mark_of d.mark) d.core.limits d.run (length c.args.files) c.in-Ok-new-2.lock c.last_apart-passes.result.0)
    (sym c.in-Ok-new-2.ensures.lock.0) (record {
      passes_are = (c.last_apart-passes.ensures _ _ (new_first c.in-Ok-new-2.lock _ _ (length c.args.files + 1) c.in-Ok-new-2.ensures.passes (search rules))).0;
      whole = ap mark_of c.keep_news.ensures.mark ∙ c.requires.whole;
      run_is = c.keep_news.ensures.stays.run_stays ∙ (c.requires.run ∙ sym (ap (λ (k : Catalogued). next_run k.history) c.keep_news.ensures.core));
      few = subst (λ (k : Catalogued). k.limits.entries ≤ most_entries) (sym c.keep_news.ensures.core) c.requires.limits;
    })

pub load_under_followed-loaded-requires-clause-last : goal.load_under_followed-loaded-requires-clause-last
load_under_followed-loaded-requires-clause-last g c κs within =
    subst (λ (d : Durable g.row.D.Denot g.D.Disk).
    c.last_apart-passes.result.1 ≡ extra_pass c.in-Ok-new-2.lock (events d.core.history (mark_of d.mark)) (length c.args.files))
    (sym c.in-Ok-new-2.ensures.lock.0)
    (c.last_apart-passes.ensures _ _ (new_first c.in-Ok-new-2.lock _ _ (length c.args.files + 1) c.in-Ok-new-2.ensures.passes (search rules))).1

pub returns-in-Ok-new-2-clause-loaded : goal.returns-in-Ok-new-2-clause-loaded
returns-in-Ok-new-2-clause-loaded g c =
    loaded_so g.S.Source.left g.S.Source.faults _ _ _ _ _ _ _ _ _ _ _ _ _ (search rules) (search rules) c.take_rest.ensures.files c.take_rest.ensures.results
    (ap (λ (d : Durable g.row.D.Denot g.D.Disk). d.core.history) c.take_rest.ensures.durable)
    (ap (λ (d : Durable g.row.D.Denot g.D.Disk). mark_of d.mark) c.take_rest.ensures.durable) c.load_under_followed-loaded.ensures.loaded

pub returns-in-Err-clause-unmarked : goal.returns-in-Err-clause-unmarked
returns-in-Err-clause-unmarked g c =
    on_err _ _ (c.as_it_was-in-Err.ensures.mark ∙ (ap (λ (d : Durable g.row.D.Denot g.D.Disk). mark_of d.mark) c.in-Err.ensures.err
    ∙ (ap mark_of c.keep_news.ensures.mark ∙ c.requires.whole)))

pub returns-in-Err-clause-front : goal.returns-in-Err-clause-front
returns-in-Err-clause-front g c = same_begins _ _ (search rules)
