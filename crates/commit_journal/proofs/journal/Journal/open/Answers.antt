use Rattle.commit_journal.proofs.journal.Journal.open.Goals as goal

pub returns-in-Ok-clause-content : goal.returns-in-Ok-clause-content
returns-in-Ok-clause-content g c = (c.in-Ok.ensures.crash c.args.disk c.in_ok-found.frames c.in_ok-found.ensures.found).content

pub returns-in-Err-clause-content : goal.returns-in-Err-clause-content
returns-in-Err-clause-content g c = (c.in-Err.ensures.crash c.args.disk c.in_ok-found.frames c.in_ok-found.ensures.found).content
