-- Entries of one library that are in no run yet, and of the first loader.
use Rattle.std.proofs.Common.{◌≡◌, ℕ, List, [], ◌∷◌, ◌++◌, sym, ap, subst}
use Rattle.std.specs.List.{All}
use Rattle.std.proofs.lemmas.List.Elements.{All-push}
use Rattle.marc_types.specs.declared.entry.Entry.{Entry}
use Rattle.marc_types.specs.declared.record.Record.{Record}
use Rattle.entry_record.specs.Prepared.{new_entry}

pub record IsNewOf (library : List ℕ) (e : Entry) : Type 0 where
  pub run : e.run ≡ 0
  pub loader_is : e.loader ≡ 0
  pub library_is : e.library ≡ library

is_new : (library : List ℕ) (ordinal : ℕ) (rec : Record) (e : Entry) → e ≡ new_entry library 0 ordinal rec → IsNewOf library e
is_new library ordinal rec e is = record {
  run = ap (λ (e : Entry). e.run) is;
  loader_is = ap (λ (e : Entry). e.loader) is;
  library_is = ap (λ (e : Entry). e.library) is;
}

pub one_more : (library : List ℕ) (ordinal : ℕ) (rec : Record) (before after : List Entry) (e : Entry) → All (IsNewOf library) before
    → e ≡ new_entry library 0 ordinal rec → after ≡ before ++ e ∷ [] → All (IsNewOf library) after
one_more library ordinal rec before after e all is grown =
    subst (All (IsNewOf library)) (sym grown) (All-push (IsNewOf library) before e all (is_new library ordinal rec e is))
