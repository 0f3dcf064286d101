use Rattle.std.proofs.Common.{[], refl, sym, subst}
use Rattle.commit_journal.specs.Log.{payloads_of}
use Rattle.commit_journal.specs.Versions.{number_of}
use Rattle.entry_history.specs.Payloads.{IsHistory}
use Rattle.durable_catalogue.specs.Loading.{IsBuilt}
use Rattle.durable_catalogue.proofs.Loads.{loaded_of}
use Rattle.durable_catalogue.proofs.loading.build_in.Goals as goal

pub find_entries-requires : goal.find_entries-requires
find_entries-requires g c =
    record { none = (refl, subst (λ l. IsBuilt l [] c.new-building.result.core) (sym c.new-building.ensures.limits) c.new-building.ensures.built) }

pub returns-in-Ok-clause-found : goal.returns-in-Ok-clause-found
returns-in-Ok-clause-found g c =
    let log = c.in-Ok.found in
    let found = c.in-Ok.ensures.found in
    record {
      frames = found.frames;
      read = found.read;
      made = loaded_of (IsHistory (number_of log.version) [] (payloads_of found.frames)) c.args.limits c.new-building.result.limits c.find_entries.new.taker.limits
          c.find_entries.new.taker.core c.in-Ok.reading c.new-building.ensures.limits found.made;
      unchanged = found.unchanged;
      later = found.later;
      version_is = found.version_is;
    }
