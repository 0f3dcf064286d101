use Rattle.std.proofs.Common.{◌≡◌, ◌++◌, string_bytes, rules}
use Rattle.std.proofs.lemmas.Str.{IsCharBoundary-at_seam}
use Rattle.packed_keys.proofs.packed_key.PackedKey.of.Goals as goal

pub invariant_of-result : goal.invariant_of-result
invariant_of-result c =
    let text = string_bytes c.push_str-2.new.self in
    let code = c.as_str-code.result.now in
    let both : text ≡ code ++ c.as_str-number.result.now = search rules in
    IsCharBoundary-at_seam text code _ both c.as_str-number.utf8
