-- Entries that are staged together. The rules are this project's own.
use Rattle.std.specs.Prelude.{List, ◌++◌}
use Rattle.marc_types.specs.declared.entry.Entry.{Entry}
use Rattle.catalogue_core.specs.Catalogues.{Catalogued}

-- with these entries staged behind the others
abbrev pub with_all_staged : Catalogued → List Entry → Catalogued
with_all_staged c entries = record { history = c.history; staged = c.staged ++ entries; limits = c.limits }
