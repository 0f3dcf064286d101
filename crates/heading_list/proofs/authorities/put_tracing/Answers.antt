use Rattle.std.proofs.Common.{rules, ◌≡◌, false, [], ◌∷◌}
use Rattle.entry_record.specs.Authority.{is_tracing_of}
use Rattle.heading_list.specs.Rows.{tracing_rows}
use Rattle.heading_list.proofs.Firsts.{takes_none, takes_these}
use Rattle.heading_list.proofs.Tracings.{no_tracing}
use Rattle.heading_list.proofs.authorities.put_tracing.Goals as goal

pub returns-then-not-branch : goal.returns-then-not-branch
returns-then-not-branch c =
    let first = c.args.first.now in
    let isnt : is_tracing_of c.args.kind c.args.field.now ≡ false = search rules in
    takes_these first first [] (tracing_rows c.args.key.now c.args.kind (c.args.field.now ∷ []))
    (no_tracing c.args.key.now c.args.kind c.args.field.now isnt) (takes_none first)
