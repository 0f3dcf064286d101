-- Where a numbering keeps its things.
use Rattle.std.specs.Prelude.{List}
use Rattle.numbering.specs.declared.numbers.Things.{Things}
use Rattle.numbering.specs.declared.numbers.Things.TheVariants.{Few, Many}

-- the things in the order of their numbers
abbrev pub things_in : {T : Type 0} → Things T → List T
things_in (Few things) = things.items
things_in (Many things) = things.keys
