use Rattle.std.proofs.Common.{rules, ◌≡◌, true}
use Rattle.marc_types.specs.Valid.{is_code}
use Rattle.entry_history.proofs.ReadPayloads.{code_is_text}
use Rattle.entry_history.proofs.payload.read_library.Goals as goal

pub returns-in-Err-clause-bad : goal.returns-in-Err-clause-bad
returns-in-Err-clause-bad c =
    let code : is_code c.args.bytes.now ≡ true = search rules in
    absurd (c.in-Err.ensures.cases.0 (code_is_text c.args.bytes.now code))
