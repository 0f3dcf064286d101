-- How many headings are linked, ambiguous and unlinked. The rules are this project's own.
use Rattle.std.specs.Prelude.{ℕ, ◌+◌}
use Rattle.catalogue_tables.specs.declared.standing.Standing.{Standing}
use Rattle.catalogue_tables.specs.declared.standing.Standing.TheVariants.{Linked, Ambiguous, Unlinked, NoHeading}
use Rattle.worklist_page.specs.declared.shares.Shares.{Shares}

-- nothing counted
abbrev pub no_shares : Shares
no_shares = record { linked = 0; ambiguous = 0; unlinked = 0 }

-- with one more field, which stands so
abbrev pub with_standing : Standing → Shares → Shares
with_standing Linked s = record { linked = s.linked + 1; ambiguous = s.ambiguous; unlinked = s.unlinked }
with_standing (Ambiguous keys) s = record { linked = s.linked; ambiguous = s.ambiguous + 1; unlinked = s.unlinked }
with_standing Unlinked s = record { linked = s.linked; ambiguous = s.ambiguous; unlinked = s.unlinked + 1 }
with_standing NoHeading s = s

-- all of them
abbrev pub total_of : Shares → ℕ
total_of s = s.linked + s.ambiguous + s.unlinked

-- two together
abbrev pub together : Shares → Shares → Shares
together x y = record { linked = x.linked + y.linked; ambiguous = x.ambiguous + y.ambiguous; unlinked = x.unlinked + y.unlinked }
