-- What clauses see of the bytes that a sink gathers.
use Rattle.std.specs.Prelude.{◌≡◌, vec_capacity}
use Rattle.outside_real.specs.declared.sink.FileSink.{FileSink}

-- a sink that has no place to gather bytes in, so that each piece goes on at once
abbrev pub GathersNothing : {W : Type 0} → FileSink W → Type 0
GathersNothing sink = vec_capacity sink.gathered ≡ 0
