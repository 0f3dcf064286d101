use Rattle.std.proofs.Common.{◌≡◌, ◌∙◌, ap}
use Rattle.catalogue_tables.specs.Sharing.{shown_keys}
use Rattle.heading_worklist.specs.Lines.{other_keys}
use Rattle.heading_worklist.proofs.writing.Lister.member.Goals as goal

pub returns : goal.returns
returns c =
    let others : shown_keys c.deref.result.now ≡ other_keys c.args.key.now (shown_keys c.args.group.now) = ap shown_keys c.deref.ensures.value ∙ c.in_ok-others.ensures in
    rw others at c.authority.ensures
