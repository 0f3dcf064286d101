use Rattle.std.proofs.Common.{OnOk, subst, sym}
use Rattle.std.specs.List.{flat_map}
use Rattle.std.specs.Option.{option_copied}
use Rattle.std.specs.Io.KnownBytes.{Appends}
use Rattle.std.proofs.lemmas.Result.{on_ok_weaker}
use Rattle.outside.specs.Sink.{WritesFront}
use Rattle.outside.proofs.Fronts.{appends_then, front_more, front_then}
use Rattle.heading_worklist.specs.Csv.{line_bytes}
use Rattle.heading_worklist.specs.Counting.{kept_in}
use Rattle.heading_worklist.specs.Lines.{column_names, crossing_lines, shared_lines}
use Rattle.heading_worklist.specs.Worklist.{counted_lines}
use Rattle.heading_worklist.proofs.Pieces.{in_parts}
use Rattle.heading_worklist.proofs.writing.Lister.write_lines.Goals as goal

pub returns-in_err-write_all-clause-front : goal.returns-in_err-write_all-clause-front
returns-in_err-write_all-clause-front g c =
    subst (WritesFront _ _) (sym (in_parts (kept_in (option_copied c.args.self.now.code)) c.args.self.now.engine.now.state c.args.lines.now.keys))
    (front_more _ _ _ (flat_map line_bytes (crossing_lines (kept_in (option_copied c.args.self.now.code)) c.args.self.now.engine.now.state))
    (front_more _ _ _ (flat_map line_bytes (shared_lines (kept_in (option_copied c.args.self.now.code)) c.args.self.now.engine.now.state))
    (front_more _ _ _ (flat_map line_bytes (counted_lines (kept_in (option_copied c.args.self.now.code)) c.args.self.now.engine.now.state c.args.lines.now.keys))
    (front_more _ _ _ (line_bytes column_names) c.write_all.ensures.front))))

pub returns-in_err-write_all-2-clause-front : goal.returns-in_err-write_all-2-clause-front
returns-in_err-write_all-2-clause-front g c =
    subst (WritesFront _ _) (sym (in_parts (kept_in (option_copied c.args.self.now.code)) c.args.self.now.engine.now.state c.args.lines.now.keys))
    (front_more _ _ _ _ (front_more _ _ _ _ (front_more _ _ _ _
    (front_then _ _ _ _ _ c.in_ok-write_all.ensures.bytes (subst (WritesFront _ _) c.column_names.ensures c.write_all-2.ensures.front)))))

pub returns-in_err-write_counted-clause-front : goal.returns-in_err-write_counted-clause-front
returns-in_err-write_counted-clause-front g c =
    subst (WritesFront _ _) (sym (in_parts (kept_in (option_copied c.args.self.now.code)) c.args.self.now.engine.now.state c.args.lines.now.keys))
    (front_more _ _ _ _ (front_more _ _ _ _
    (front_then _ _ _ _ _ (appends_then _ _ _ _ _ c.in_ok-write_all.ensures.bytes (subst (Appends _ _) c.column_names.ensures c.in_ok-write_all-2.ensures.bytes)) c.write_counted.ensures.front)))

pub returns-in_err-write_shared_lines-clause-front : goal.returns-in_err-write_shared_lines-clause-front
returns-in_err-write_shared_lines-clause-front g c =
    subst (WritesFront _ _) (sym (in_parts (kept_in (option_copied c.args.self.now.code)) c.args.self.now.engine.now.state c.args.lines.now.keys))
    (front_more _ _ _ _
    (front_then _ _ _ _ _ (appends_then _ _ _ _ _ (appends_then _ _ _ _ _ c.in_ok-write_all.ensures.bytes (subst (Appends _ _) c.column_names.ensures c.in_ok-write_all-2.ensures.bytes)) c.in_ok-write_counted.ensures.bytes) c.write_shared_lines.ensures.front))

pub returns-clause-bytes : goal.returns-clause-bytes
returns-clause-bytes g c =
    subst (λ due. OnOk c.write_crossing_lines.result (Appends (g.K.Sink.written c.args.out.now) (g.K.Sink.written c.write_crossing_lines.new.out) due))
    (sym (in_parts (kept_in (option_copied c.args.self.now.code)) c.args.self.now.engine.now.state c.args.lines.now.keys))
    (on_ok_weaker _ (appends_then _ _ _ _ _ (appends_then _ _ _ _ _ (appends_then _ _ _ _ _ (appends_then _ _ _ _ _ c.in_ok-write_all.ensures.bytes (subst (Appends _ _) c.column_names.ensures c.in_ok-write_all-2.ensures.bytes)) c.in_ok-write_counted.ensures.bytes) c.in_ok-write_shared_lines.ensures.bytes)) c.write_crossing_lines.ensures.bytes)

pub returns-clause-front : goal.returns-clause-front
returns-clause-front g c =
    subst (WritesFront _ _) (sym (in_parts (kept_in (option_copied c.args.self.now.code)) c.args.self.now.engine.now.state c.args.lines.now.keys))
    (front_then _ _ _ _ _ (appends_then _ _ _ _ _ (appends_then _ _ _ _ _ (appends_then _ _ _ _ _ c.in_ok-write_all.ensures.bytes (subst (Appends _ _) c.column_names.ensures c.in_ok-write_all-2.ensures.bytes)) c.in_ok-write_counted.ensures.bytes) c.in_ok-write_shared_lines.ensures.bytes) c.write_crossing_lines.ensures.front)
