use Rattle.std.proofs.Common.{◌∙◌, ap, refl}
use Rattle.form_index.specs.Listed.{each_of, lists_in, released}
use Rattle.form_index.proofs.Stepping.{each_of_is}
use Rattle.form_index.proofs.lists.Lists.release.Goals as goal

pub returns : goal.returns
returns c =
    each_of_is c.args.forms.now (released c.args.number) (lists_in c.self.inside.lists) (lists_in c.release_each.new.lists) refl c.release_each.ensures
    ∙ ap (each_of c.args.forms.now (released c.args.number)) c.self.view_is
