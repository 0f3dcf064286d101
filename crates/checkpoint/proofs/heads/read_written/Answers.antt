use Rattle.std.proofs.Common.{rules, ◌≡◌, ◌∙◌, sym, ap, true, false}
use Rattle.std.proofs.lemmas.Bool.{both_ways}
use Rattle.marc_types.specs.declared.record.Record.{Record}
use Rattle.iso2709_record.specs.Written.{record_bytes}
use Rattle.checkpoint.proofs.Rowing.{unfit_record, otherwise_written, record_there}
use Rattle.checkpoint.proofs.heads.read_written.Goals as goal

pub returns-then-not-fits-clause-bad : goal.returns-then-not-fits-clause-bad
returns-then-not-fits-clause-bad c =
    let no : c.fits.result ≡ false = search rules in
    unfit_record c.args.written.now c.in_ok-rec.rec c.in_ok-rec.ensures.read (sym c.fits.ensures ∙ no)

pub returns-then-not-is_same-clause-bad : goal.returns-then-not-is_same-clause-bad
returns-then-not-is_same-clause-bad c =
    let no : c.is_same.result ≡ false = search rules in
    let bytes = ap (λ (rec : Record). record_bytes rec.leader rec.fields) c.in_ok-made.ensures in
    otherwise_written c.args.written.now c.in_ok-rec.rec c.in_ok-rec.ensures.read (λ same. both_ways _ no (c.is_same.ensures.1 (bytes ∙ same)))

pub returns-clause-read : goal.returns-clause-read
returns-clause-read c =
    let yes : c.fits.result ≡ true = search rules in
    let bytes = ap (λ (rec : Record). record_bytes rec.leader rec.fields) c.in_ok-made.ensures in
    record_there c.args.written.now c.in_ok-rec.rec c.in_ok-rec.ensures.read (sym c.fits.ensures ∙ yes) (sym bytes ∙ c.is_same.ensures.0 (search rules))
