-- The authorities that a heading may mean, by the numbers of their keys, and how it stands then.
use Rattle.std.specs.Prelude.{◌≡◌, ℕ, List, [], ◌∷◌, Option, Some, None}
use Rattle.std.specs.Option.{option_map}
use Rattle.marc_types.specs.declared.key.Key.{Key}
use Rattle.form_index.specs.declared.candidates.Candidates.{Candidates}
use Rattle.form_index.specs.declared.candidates.Candidates.TheVariants.{Established, SeeFrom, Nobody}
use Rattle.catalogue_rules.specs.Choice.{Choice}
use Rattle.catalogue_rules.specs.Receipt.{Standing, AmbiguousAmong, WithoutLink, standing_by}
use Rattle.catalogue_tables.specs.Lent.{AreGiven, keys_of}

-- the numbers of candidates, whichever forms they have
abbrev pub numbers_in : Candidates → List ℕ
numbers_in (Established numbers) = numbers.now
numbers_in (SeeFrom numbers) = numbers.now
numbers_in Nobody = []

-- how a heading without a link stands that may mean the authorities with these keys
abbrev pub standing_among : List Key → Standing
standing_among [] = WithoutLink
standing_among (key ∷ []) = WithoutLink
standing_among (key ∷ other ∷ more) = AmbiguousAmong (key ∷ other ∷ more)

-- the choice is among the authorities with these numbers, if there is one
abbrev pub AreMeant : List Key → Option Choice → List ℕ → Type 0
AreMeant keys choice [] = choice ≡ None
AreMeant keys choice (n ∷ ns) = (option_map standing_by choice ≡ Some (standing_among (keys_of keys (n ∷ ns)))) × AreGiven keys (n ∷ ns)
