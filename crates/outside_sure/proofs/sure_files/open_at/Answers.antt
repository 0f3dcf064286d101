use Rattle.std.proofs.Common.{refl, sym, ap, ◌∙◌, not, Some, List, ℕ, ◌≡◌}
use Rattle.outside.specs.Room.{bytes_or_none}
use Rattle.outside_sure.specs.SureKept.{told_kept, kept_opened, can_open}
use Rattle.outside_sure.specs.declared.drawer.Opened.TheVariants.{Log}
use Rattle.outside_sure.specs.SureFiles.{IsAt, kept_in}
use Rattle.outside_sure.proofs.Kepts.{changes_at, kept_at, if_some_then}
use Rattle.outside_sure.proofs.sure_files.open_at.Goals as goal

pub returns-clause-none : goal.returns-clause-none
returns-clause-none g c name at =
    c.open.ensures.none ∙ sym (ap (λ k. not (can_open c.args.sort k)) (kept_at c.args.files.now.items name c.args.place c.index_mut-file.result.now at c.index_mut-file.ensures.value))

pub returns-clause-bytes : goal.returns-clause-bytes
returns-clause-bytes g c =
    let files = c.args.files.now.items in
    let old = c.index_mut-file.result.now in
    if_some_then c.open.result (λ held. c.args.sort ≡ Log → held.buffer.items ≡ bytes_or_none (told_kept (Some old.kept)))
    (λ held. (name : List ℕ) → IsAt files name c.args.place → c.args.sort ≡ Log → held.buffer.items ≡ bytes_or_none (told_kept (kept_in files name)))
    (λ held is name at as_log. is as_log ∙ sym (ap (λ k. bytes_or_none (told_kept k)) (kept_at files name c.args.place old at c.index_mut-file.ensures.value))) c.open.ensures.bytes

pub returns-clause-now : goal.returns-clause-now
returns-clause-now g c name at =
    let old = c.index_mut-file.result.now in
    changes_at c.args.files.now.items name c.args.place old (record old { kept = c.open.new.self }) (kept_opened c.args.sort)
    at c.index_mut-file.ensures.value refl c.open.ensures.now
