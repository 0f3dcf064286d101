-- What of the heading that an entry brings decides which links stay.
use Rattle.entry_record.specs.Authority.{Linkable, is_bare}
use Rattle.commit_stages.specs.declared.brought.BroughtHeading.{BroughtHeading}

-- what is asked of the heading that an authority brings: its kind, and whether it is bare
abbrev pub brought_as : Linkable → BroughtHeading
brought_as c = record { kind = c.kind; bare = is_bare c }
