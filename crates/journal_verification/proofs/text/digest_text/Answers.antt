use Rattle.std.proofs.Common.{◌≡◌, ◌++◌, ◌∙◌, ap, subst, append_assoc}
use Rattle.std.specs.Prelude.{string_bytes, codes}
use Rattle.std.specs.Fmt.{decimal}
use Rattle.hex.specs.Hex.{encode_lower}
use Rattle.journal_verification.specs.Digests.{digest_line}
use Rattle.journal_verification.proofs.text.digest_text.Goals as goal

pub returns : goal.returns
unfolding digest_line
returns c =
    let digits : string_bytes c.in_ok-digits.digits ≡ encode_lower c.args.digest.now = c.in_ok-digits.ensures ∙ ap encode_lower c.as_slice.ensures in
    simp append_assoc (subst (λ d. string_bytes c.in_ok-format.field-0 ≡ codes "sha256 " ++ (d ++ (codes " of " ++ (decimal c.args.count ++ codes " entries\n"))))
    digits c.in_ok-format.ensures.ok)
