use Rattle.std.proofs.Common.{rules, subst}
use Rattle.std.specs.Option.{option_copied}
use Rattle.std.specs.Io.KnownBytes.{Appends}
use Rattle.outside.specs.Sink.{WritesFront}
use Rattle.output_files.specs.Kept.{kept_keys}
use Rattle.output_files.proofs.export.ExportDocument.write_to.Goals as goal

pub returns-in_err-write_rows-clause-front : goal.returns-in_err-write_rows-clause-front
returns-in_err-write_rows-clause-front g c =
    let kept = kept_keys (option_copied c.self.inside.code) in
    subst (WritesFront _ _) c.self.view_is (c.write_rows.ensures.front kept (c.new-kept.ensures.selects kept (search rules)))

pub returns-clause-written : goal.returns-clause-written
returns-clause-written g c =
    let kept = kept_keys (option_copied c.self.inside.code) in
    subst (Appends _ _) c.self.view_is (c.in_ok-write_rows.ensures.written kept (c.new-kept.ensures.selects kept (search rules)))

pub returns-clause-front : goal.returns-clause-front
returns-clause-front g c =
    let kept = kept_keys (option_copied c.self.inside.code) in
    subst (WritesFront _ _) c.self.view_is (c.write_rows.ensures.front kept (c.new-kept.ensures.selects kept (search rules)))
