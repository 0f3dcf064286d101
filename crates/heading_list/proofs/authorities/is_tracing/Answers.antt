use Rattle.std.proofs.Common.{rules, ◌≡◌, true}
use Rattle.entry_record.specs.Headings.{is_tracing_tag}
use Rattle.heading_list.proofs.Tracings.{filled}
use Rattle.heading_list.proofs.authorities.is_tracing.Goals as goal

pub returns : goal.returns
returns c =
    let tag : is_tracing_tag c.args.kind c.args.field.now ≡ true = search rules in
    filled c.args.kind c.args.field.now c.in_ok-base.base c.is_empty.result tag c.is_empty.ensures c.in_ok-base.ensures
