use Rattle.std.proofs.Common.{OnOk, subst}
use Rattle.std.specs.Option.{option_copied}
use Rattle.std.specs.Io.KnownBytes.{Appends}
use Rattle.outside.specs.Sink.{WritesFront}
use Rattle.heading_worklist.specs.Csv.{list_bytes}
use Rattle.heading_worklist.specs.Counting.{kept_in}
use Rattle.heading_worklist.specs.Worklist.{lines_behind}
use Rattle.heading_worklist.proofs.writing.write_worklist.Goals as goal

pub returns-clause-bytes : goal.returns-clause-bytes
returns-clause-bytes g c =
    let old = g.K.Sink.written c.args.out.now in
    let new = g.K.Sink.written c.write_lines.new.out in
    let lines = c.args.lines.now.keys in
    subst (λ s. OnOk c.write_lines.result (Appends old new (list_bytes (lines_behind (kept_in (option_copied c.args.code)) s lines)))) c.in-Ok.ensures.engine
    (subst (λ code. OnOk c.write_lines.result (Appends old new (list_bytes (lines_behind (kept_in (option_copied code)) c.in-Ok.lister.engine.now.state lines))))
    c.in-Ok.ensures.code c.write_lines.ensures.bytes)

pub returns-clause-front : goal.returns-clause-front
returns-clause-front g c =
    let old = g.K.Sink.written c.args.out.now in
    let new = g.K.Sink.written c.write_lines.new.out in
    let lines = c.args.lines.now.keys in
    subst (λ s. WritesFront old new (list_bytes (lines_behind (kept_in (option_copied c.args.code)) s lines))) c.in-Ok.ensures.engine
    (subst (λ code. WritesFront old new (list_bytes (lines_behind (kept_in (option_copied code)) c.in-Ok.lister.engine.now.state lines)))
    c.in-Ok.ensures.code c.write_lines.ensures.front)
