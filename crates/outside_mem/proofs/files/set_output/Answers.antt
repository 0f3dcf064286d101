use Rattle.std.proofs.Common.{refl}
use Rattle.outside_mem.proofs.Places.{changes_place, is_under}
use Rattle.outside_mem.proofs.files.set_output.Goals as goal

pub returns : goal.returns
returns c name at =
    let old = c.index_mut-file.result.now in
    rw (is_under c.args.files.now.items name c.args.place old at c.index_mut-file.ensures.value)
    (changes_place c.args.files.now.items name c.args.place old (record old { is_output = c.args.is_output }) at c.index_mut-file.ensures.value refl)
