use Rattle.std.proofs.Common.{flat_map, encode_utf8_all, sym, ap, ◌∙◌}
use Rattle.naco_form.specs.Ascii.{ascii_entry}
use Rattle.naco_form.specs.Comparison.{commas, squeezed, keeps_first_comma, without_last_comma, tidied, comparison_text, comparison_bytes}
use Rattle.naco_form.proofs.AsciiLemmas.{ascii_steps}
use Rattle.naco_form.proofs.text.ascii_comparison.Goals as goal

pub returns : goal.returns
unfolding tidied comparison_text comparison_bytes
returns c =
    let steps = ap (flat_map ascii_entry) c.as_bytes.ensures.value ∙ sym (ascii_steps c.args.text.now c.requires) in
    let written = c.in_ok-write_ascii.ensures ∙ c.in_ok-pen.ensures _ ∙ ap (λ l. squeezed (commas (keeps_first_comma c.args.code) l)) steps in
    c.finish.ensures ∙ ap (λ l. encode_utf8_all (without_last_comma l)) written
