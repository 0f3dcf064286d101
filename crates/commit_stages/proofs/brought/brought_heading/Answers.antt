use Rattle.std.proofs.Common.{◌∙◌, sym}
use Rattle.commit_stages.proofs.Parts.{heading_brought}
use Rattle.commit_stages.proofs.brought.brought_heading.Goals as goal

pub returns-in-Some : goal.returns-in-Some
returns-in-Some c =
    heading_brought c.args.item.now c.in-Some.form.now c.has_bare_heading.result c.requires (sym c.is_deletion.ensures ∙ c.if-is_deletion.false) c.in-Some.ensures
    c.has_bare_heading.ensures
