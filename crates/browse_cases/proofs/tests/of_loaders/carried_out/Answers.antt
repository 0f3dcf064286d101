use Rattle.browse_cases.proofs.tests.of_loaders.carried_out.Goals as goal

pub end-end-requires-clause-waiting : goal.end-end-requires-clause-waiting
end-end-requires-clause-waiting g c κs within = c.load_keeping-loaded.ensures.waiting c.begun.new.room c.in_ok-loading.ensures.waiting
