use Rattle.std.proofs.Common.{◌≡◌, ◌++◌, take}
use Rattle.catalogue_tables.specs.Lent.{shown_forms}
use Rattle.commit_stages.proofs.authority.lend.Given as goal

abbrev pub invariant-loop-form : goal.invariant-loop-form
invariant-loop-form l = shown_forms l.forms.items ≡ shown_forms l.fn.forms.items ++ take l.form-index l.more
