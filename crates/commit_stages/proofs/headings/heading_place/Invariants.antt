use Rattle.numbered_store.specs.Kept.{kept_record}
use Rattle.commit_stages.specs.Headings.{HasNoHeadingBefore}
use Rattle.commit_stages.proofs.headings.heading_place.Given as goal

abbrev pub invariant-loop-place : goal.invariant-loop-place
invariant-loop-place l = HasNoHeadingBefore (kept_record l.kept) l.place
