use Rattle.std.proofs.Common.{rules, ◌≡◌, ◌∙◌, ◌++◌, string_bytes, refl, ap}
use Rattle.std.proofs.lemmas.Slice.Zip.{Zip-more, either_empty_from_Zip}
use Rattle.std.specs.Iterator.Adapters.{zip_first, zip_second}
use Rattle.std.specs.Slice.Iter.{iter_rest}
use Rattle.console_lines.specs.Lines.{refused_lines, totals_line}
use Rattle.loading_commands.specs.Texts.{refused_text, totals_text}
use Rattle.loading_commands.proofs.Textual.{told_more, told_whole, refused_line, next_refused, none_refused, counted_line, next_counted, none_counted}
use Rattle.loading_commands.proofs.texts.files_text.Goals as goal

pub loop-library-init : goal.loop-library-init
loop-library-init c =
    let libraries : iter_rest (zip_first c.into_iter-library-iterator.result) ≡ c.args.libraries.now = search rules in
    let results : iter_rest (zip_second c.into_iter-library-iterator.result) ≡ c.args.results.now = search rules in
    (rw (c.new-text.ensures.bytes, libraries, results) refl, rw (c.new-totals.ensures.bytes, libraries, results) refl)

pub loop-library-preserved : goal.loop-library-preserved
loop-library-preserved c =
    let l = c.loop-library in
    let turn = Zip-more _ c.next.new.self _ (c.in-Some.library, c.in-Some.loaded) c.in-Some.is c.next.ensures.steps in (
      told_more refused_line refused_text next_refused _ _ _ _ l.invariant.0 _ _ _ _ _ _ turn.0 turn.1
          (c.in_ok-push_str.ensures.bytes ∙ ap (λ more. string_bytes l.text ++ more) c.as_str.ensures.value)
          (c.in_ok-lines.ensures ∙ (ap (λ file. refused_lines file c.as_slice.result.now) c.as_str-file.ensures ∙ ap (refused_lines c.in-Some.library.now.file) c.as_slice.ensures)),
      told_more counted_line totals_text next_counted _ _ _ _ l.invariant.1 _ _ _ _ _ _ turn.0 turn.1
          (c.in_ok-push_str-2.ensures.bytes ∙ ap (λ more. string_bytes l.totals ++ more) c.as_str-in-loop-library.ensures.value)
          (c.in_ok-line.ensures ∙ (ap (λ file. totals_line file c.totals_in.result) c.as_str-file.ensures ∙ ap (totals_line c.in-Some.library.now.file) c.totals_in.ensures)),
    )

pub returns : goal.returns
returns c =
    let l = c.loop-library in
    let spent = either_empty_from_Zip _ c.next.new.self _ c.in-None.is c.next.ensures.steps in
    c.in_ok-push_str-3.ensures.bytes
    ∙ (ap (λ refused. refused ++ c.as_str-2.result.now) (told_whole refused_line refused_text next_refused _ _ _ _ l.invariant.0 (none_refused _ _ spent))
    ∙ ap (λ totals. refused_text c.args.libraries.now c.args.results.now ++ totals)
    (c.as_str-2.ensures.value ∙ told_whole counted_line totals_text next_counted _ _ _ _ l.invariant.1 (none_counted _ _ spent)))
