use Rattle.std.proofs.Common.{◌≡◌, ◌∙◌, ◌-◌, ◌++◌, ap, arith}
use Rattle.std.specs.Int.{w32, w64, to_be_bytes}
use Rattle.marc_types.specs.declared.entry.Entry.{Entry}
use Rattle.iso2709_record.specs.Written.{record_length, record_bytes}
use Rattle.entry_record.specs.History.{entry_size}
use Rattle.entry_history.specs.Format.{entry_bytes}
use Rattle.entry_history.proofs.Format.{entry_joined}
use Rattle.entry_history.proofs.written.append_entry.Goals as goal

pub returns-clause-ok : goal.returns-clause-ok
unfolding entry_bytes
returns-clause-ok c =
    let e = c.entry-entry.result.now in
    let out = c.args.out.now.items in
    let same = c.entry-entry.ensures.value in
    let count : c.size.result - 12 ≡ record_length e.rec.fields = omega (arith, c.size.ensures.value, ap entry_size same) in
    c.in-Ok.ensures.ok
    ∙ ap (λ xs. xs ++ record_bytes e.rec.leader e.rec.fields) (c.in_ok-append_numbers.ensures.ok ∙ ap (λ n. (out ++ to_be_bytes w64 e.ordinal) ++ to_be_bytes w32 n) count)
    ∙ entry_joined out (to_be_bytes w64 e.ordinal) (to_be_bytes w32 (record_length e.rec.fields)) (record_bytes e.rec.leader e.rec.fields)
    ∙ ap (λ (f : Entry). out ++ entry_bytes f) same
