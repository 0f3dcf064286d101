use Rattle.std.proofs.Common.{◌∙◌, ap}
use Rattle.std.proofs.lemmas.Result.{on_ok_weaker}
use Rattle.catalogue_rules.specs.Settle.{arrival_of}
use Rattle.match_report.specs.Matches.{take_numbers}
use Rattle.archive_commands.proofs.Taken.{table_behind}
use Rattle.archive_commands.proofs.taking.HistoryMatchesEntryTaker.take.Goals as goal

pub returns : goal.returns
returns c =
    let table = c.args.self.now.table in
    record {
      taken = on_ok_weaker c.put.result (λ put begun before so_far.
          table_behind before c.args.item table c.put.new.self so_far (put ∙ ap (λ e. take_numbers table (arrival_of e)) c.entry.ensures.value))
          c.put.ensures.ok;
    }
