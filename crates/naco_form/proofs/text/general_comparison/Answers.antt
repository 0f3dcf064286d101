use Rattle.std.proofs.Common.{◌≡◌, ℕ, List, chars, encode_utf8_all, IsUtf8, sym, ap, ◌∙◌}
use Rattle.std.proofs.lemmas.Str.{chars_from_encodes}
use Rattle.caseless.specs.Caseless.{default_case_fold}
use Rattle.unicode_normalization.specs.Forms.{nfd}
use Rattle.naco_form.specs.Comparison.{commas, squeezed, keeps_first_comma, without_last_comma, by_table, without_marks, tidied, comparison_text, comparison_bytes}
use Rattle.naco_form.proofs.text.general_comparison.Goals as goal

chars_of : (bs cs : List ℕ) → IsUtf8 bs → bs ≡ encode_utf8_all cs → chars bs ≡ cs
chars_of bs cs text e = sym (chars_from_encodes cs bs text (sym e))

pub returns : goal.returns
unfolding tidied comparison_text comparison_bytes
returns c =
    let folded : chars c.as_str.result.now ≡ default_case_fold (chars c.args.text.now) =
    chars_of _ _ c.as_str.utf8 (c.as_str.ensures.value ∙ c.in_ok-folded.ensures) in
    let decomposed : chars c.as_str-2.result.now ≡ nfd (default_case_fold (chars c.args.text.now)) =
    chars_of _ _ c.as_str-2.utf8 (c.as_str-2.ensures.value ∙ c.in_ok-decomposed.ensures) ∙ ap nfd folded in
    let written = c.in_ok-write_without_marks.ensures ∙ c.in_ok-pen.ensures _ ∙ ap (λ l. squeezed (commas (keeps_first_comma c.args.code) (by_table (without_marks l)))) decomposed in
    c.finish.ensures ∙ ap (λ l. encode_utf8_all (without_last_comma l)) written
