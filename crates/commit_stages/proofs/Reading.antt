-- The fields of a kept record, as they are counted, and that the record is one.
use Rattle.std.proofs.Common.{◌≡◌, ◌∙◌, ap, refl, subst, suc, ℕ, List, [], ◌∷◌, map, length, Option, Some, None, true}
use Rattle.std.specs.Prelude.{IfSome}
use Rattle.std.specs.Option.{option_map_or}
use Rattle.marc_types.specs.Valid.{is_record}
use Rattle.catalogue_rules.specs.State.{KeptField, KeptRecord, fields_of}
use Rattle.numbered_store.specs.Kept.{kept_record}
use Rattle.numbered_store.specs.declared.kept.StoredRecord.{StoredRecord}
use Rattle.numbered_store.proofs.Keeping.{proper_kept}

fields_long : (hs : List KeptField) → length hs ≡ length (map (λ (h : KeptField). h.field) hs)
fields_long [] = refl
fields_long (h ∷ hs) = ap suc (fields_long hs)

-- how many fields the record that was found has, and none
pub count_read : (r : KeptRecord) (o : Option KeptRecord) (n : ℕ) → Some r ≡ o → n ≡ length r.fields → n ≡ length (option_map_or fields_of o [])
count_read r o n e is = is ∙ fields_long r.fields ∙ ap (λ (p : Option KeptRecord). length (option_map_or fields_of p [])) e

pub none_counted : (o : Option KeptRecord) → None ≡ o → 0 ≡ length (option_map_or fields_of o [])
none_counted o e = ap (λ (p : Option KeptRecord). length (option_map_or fields_of p [])) e

pub proper_there : (kept : StoredRecord) (o : Option KeptRecord) → Some (kept_record kept) ≡ o → IfSome o (λ (r : KeptRecord). is_record r.leader (fields_of r) ≡ true)
proper_there kept o e = subst (λ (x : Option KeptRecord). IfSome x (λ (r : KeptRecord). is_record r.leader (fields_of r) ≡ true)) e (proper_kept kept)
