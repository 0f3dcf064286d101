use Rattle.numbered_store.specs.Kept.{kept_record}
use Rattle.linked_store.proofs.Brought.{most_found}
use Rattle.linked_store.proofs.store.LinkedStore.fields_under.Goals as goal

pub returns-in-Some : goal.returns-in-Some
returns-in-Some c = λ r is. most_found (kept_record c.in-Some.kept.now) _ c.field_count.result c.in-Some.ensures c.field_count.ensures r is
