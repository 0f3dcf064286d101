use Rattle.std.proofs.Common.{[]}
use Rattle.commit_journal.specs.Log.{payloads_of}
use Rattle.commit_journal.specs.Versions.{number_of}
use Rattle.entry_history.specs.Payloads.{IsHistory}
use Rattle.durable_catalogue.proofs.Founds.{found_since}
use Rattle.durable_catalogue.proofs.Loads.{catalogue_made, passed_made}
use Rattle.durable_catalogue.proofs.loading.load_either.Goals as goal

pub returns-in-Some-clause-found : goal.returns-in-Some-clause-found
returns-in-Some-clause-found g c =
    let log = c.in-Ok.found in
    let built = c.in-Ok.built in
    let found = c.in-Ok.ensures.found in
    record {
      frames = found.frames;
      read = found.read;
      made = catalogue_made (IsHistory (number_of log.version) [] (payloads_of found.frames)) c.args.limits built.core c.in-Some.core built.last_run c.in-Some.is found.made;
      unchanged = found.unchanged;
      later = found.later;
      version_is = found.version_is;
    }

pub returns-in-None-clause-refused : goal.returns-in-None-clause-refused
returns-in-None-clause-refused g c before begun =
    let log = c.in-Ok.found in
    let built = c.in-Ok.built in
    let found = c.in-Ok.ensures.found in
    let version = number_of log.version in
    c.refuse_log.ensures.refused before found.frames c.args.limits
    (found_since c.args.begun log found before begun (g.met.D.Disk.content_len log.disk))
    (passed_made version found.frames c.args.limits built.core built.last_run c.in-None.is found.made)

pub returns-in-Err-clause-refused : goal.returns-in-Err-clause-refused
returns-in-Err-clause-refused g c before begun = c.in-Err.ensures.refused before c.args.limits begun
