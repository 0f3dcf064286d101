use Rattle.std.proofs.Common.{◌≡◌, ◌++◌, string_bytes}
use Rattle.std.specs.Iterator.Adapters.{zip_first, zip_second}
use Rattle.std.specs.Slice.Iter.{iter_rest}
use Rattle.loading_commands.specs.Texts.{refused_text, totals_text}
use Rattle.loading_commands.proofs.texts.files_text.Given as goal

abbrev pub invariant-loop-library : goal.invariant-loop-library
invariant-loop-library l =
    let libraries = iter_rest (zip_first l.library-iterator) in
    let results = iter_rest (zip_second l.library-iterator) in
    (string_bytes l.text ++ refused_text libraries results ≡ refused_text l.fn.libraries l.fn.results)
    × (string_bytes l.totals ++ totals_text libraries results ≡ totals_text l.fn.libraries l.fn.results)
