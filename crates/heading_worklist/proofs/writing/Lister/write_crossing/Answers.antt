use Rattle.std.proofs.Common.{◌∙◌, OnOk, subst, sym}
use Rattle.std.specs.List.{flat_map}
use Rattle.std.specs.Option.{option_copied}
use Rattle.std.specs.Io.KnownBytes.{Appends}
use Rattle.outside.specs.Sink.{WritesFront}
use Rattle.heading_worklist.specs.Csv.{line_bytes}
use Rattle.heading_worklist.specs.Counting.{kept_in}
use Rattle.heading_worklist.proofs.Pieces.{crossing_kept}
use Rattle.heading_worklist.proofs.writing.Lister.write_crossing.Goals as goal

pub returns-clause-bytes : goal.returns-clause-bytes
returns-clause-bytes g c =
    let is = crossing_kept (kept_in (option_copied c.args.self.now.code)) c.args.self.now.engine.now.state c.args.own.now c.args.others.now c.in-len1-up.len_at_least
    (sym c.is_kept_among.ensures ∙ c.if-not-is_kept_among.false) in
    subst (λ lines. OnOk c.write_across.result (Appends (g.K.Sink.written c.args.out.now) (g.K.Sink.written c.write_across.new.out) (flat_map line_bytes lines))) (sym is)
    c.write_across.ensures.bytes

pub returns-clause-front : goal.returns-clause-front
returns-clause-front g c =
    let is = crossing_kept (kept_in (option_copied c.args.self.now.code)) c.args.self.now.engine.now.state c.args.own.now c.args.others.now c.in-len1-up.len_at_least
    (sym c.is_kept_among.ensures ∙ c.if-not-is_kept_among.false) in
    subst (λ lines. WritesFront (g.K.Sink.written c.args.out.now) (g.K.Sink.written c.write_across.new.out) (flat_map line_bytes lines)) (sym is)
    c.write_across.ensures.front
