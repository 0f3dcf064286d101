use Rattle.std.proofs.Common.{◌≡◌, ℕ, List, set, refl}
use Rattle.outside_mem.proofs.Places.{changes_fails, changes_nothing, is_under, on_err}
use Rattle.outside_mem.specs.Files.{IsPlaceOf, file_in}
use Rattle.outside_mem.proofs.files.let_call_fail.Goals as goal

pub returns-in_err-push-clause-err : goal.returns-in_err-push-clause-err
returns-in_err-push-clause-err c =
    let old = c.index_mut-file.result.now in
    let files = c.args.files.now.items in
    let value = c.index_mut-file.ensures.value in
    let new = record old { fails = c.push.new.self } in
    on_err _ ((name : List ℕ) → IsPlaceOf files name c.args.place → (n : List ℕ) → file_in (set files c.args.place new) n ≡ file_in files n)
    (λ name at. changes_nothing files (set files c.args.place new) name (changes_fails files name c.args.place old new (file_in files name).fails at value refl
    (rw (is_under files name c.args.place old at value) c.in_err-push.ensures.items) refl refl refl))

pub returns-clause-ok : goal.returns-clause-ok
returns-clause-ok c name at =
    let old = c.index_mut-file.result.now in
    let files = c.args.files.now.items in
    let value = c.index_mut-file.ensures.value in
    changes_fails files name c.args.place old (record old { fails = c.push.new.self }) _ at value refl
    (rw (is_under files name c.args.place old at value) c.in_ok-push.ensures.items) refl refl refl
