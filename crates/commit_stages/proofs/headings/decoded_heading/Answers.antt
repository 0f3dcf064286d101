use Rattle.std.proofs.lemmas.Result.{IfOk-weaker}
use Rattle.numbered_store.specs.Kept.{kept_record}
use Rattle.commit_stages.proofs.Headed.{governing_first, governing_none}
use Rattle.commit_stages.proofs.headings.decoded_heading.Goals as goal

pub returns-in-Some : goal.returns-in-Some
returns-in-Some c =
    IfOk-weaker c.heading_at.result _ _ (λ heading is. governing_first (kept_record c.args.kept.now) c.in-Some.place _ c.in-Some.ensures is) c.heading_at.ensures

pub returns-in-None : goal.returns-in-None
returns-in-None c = governing_none (kept_record c.args.kept.now) c.in-None.ensures
