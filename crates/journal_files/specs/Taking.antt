-- What is handed on of a history, entry by entry. The rules are this project's own.
use Rattle.std.specs.Prelude.{List}
use Rattle.marc_types.specs.declared.entry.Entry.{Entry}
use Rattle.marc_types.specs.declared.entry.Limits.{Limits}
use Rattle.entry_record.specs.History.{IsWithin}

-- Entries that are a history, by some property, were handed on, all of them in their order, and are within the limits.
pub record IsHandedOn (Has IsThat : List Entry → Type 0) (limits : Limits) : Type 0 where
  pub entries : List Entry
  pub history : IsThat entries
  pub within : IsWithin limits entries
  pub taken : Has entries
