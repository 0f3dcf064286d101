use Rattle.std.proofs.Common.{◌∙◌, ap}
use Rattle.std.specs.Prelude.{slice_get}
use Rattle.std.specs.Option.{option_copied}
use Rattle.numbered_store.proofs.Tied.{tie_blank, tie_read}
use Rattle.numbered_store.proofs.kept.StoredRecord.tie_at.Goals as goal

pub returns-in-Some : goal.returns-in-Some
returns-in-Some c =
    tie_read c.args.self.now c.args.place c.in-Some.ties (option_copied c.at.result) c.in-Some.is (c.at.ensures ∙ ap (λ l. slice_get l c.args.place) c.as_slice.ensures)

pub returns-in-None : goal.returns-in-None
returns-in-None c = tie_blank c.args.self.now c.args.place c.in-None.is
