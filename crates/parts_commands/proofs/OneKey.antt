-- The keys that pieces tell by themselves.
use Rattle.std.proofs.Common.{◌≡◌, ◌↔◌, ◌∙◌, ℕ, Bool, true, List, [], Some, None, refl, sym, ap, ap₂}
use Rattle.std.specs.Ordering.{is_lt}
use Rattle.marc_types.specs.Order.{key_cmp}
use Rattle.marc_types.specs.declared.field.Field.{Field}
use Rattle.marc_types.specs.declared.field.Leader.{Leader}
use Rattle.marc_types.specs.declared.key.Key.{Key}
use Rattle.marc_types.specs.declared.refusal.Refusal.{Refusal}
use Rattle.entry_record.specs.Identifying.{key_refusal}
use Rattle.entry_record.specs.Identity.{key_of}
use Rattle.reading.specs.Reading.{IsReadAs, IsRefusedAs}
use Rattle.reading.proofs.OneReading.{one_fields, read_or_refused}
use Rattle.parts_commands.specs.Exports.{MayFollow, TellsKey}

module _ (piece : List ℕ) where
  -- it can't be read
  pub unread : (refusal : Refusal) (key : Key) → IsRefusedAs piece refusal → TellsKey piece key → ⊥
  unread refusal key refused tells = read_or_refused piece tells.leader tells.fields refusal tells.read refused

  -- its numbers make no key
  pub improper : (leader : Leader) (fields others : List Field) (library : List ℕ) (refusal : Refusal) (key : Key) → IsReadAs piece leader fields
      → key_refusal library others ≡ Some refusal → library ≡ [] → others ≡ fields → TellsKey piece key → ⊥
  improper leader fields others library refusal key read refused none are tells =
      let same = one_fields piece tells.leader leader tells.fields fields tells.read read in
      let both : None ≡ Some refusal =
      sym tells.proper ∙ ap (key_refusal []) (same ∙ sym are) ∙ ap (λ l. key_refusal l others) (sym none) ∙ refused in
      cc

  one_key : (a b : Key) → TellsKey piece a → TellsKey piece b → a ≡ b
  one_key a b one other = one.key_is ∙ ap (key_of []) (one_fields piece one.leader other.leader one.fields other.fields one.read other.read) ∙ sym other.key_is

-- a piece without a key may stand anywhere
pub any_follows : (one other : List ℕ) → ((key : Key) → TellsKey one key → ⊥) → (true ≡ true) ↔ MayFollow one other
any_follows one other none = ((λ yes a b tells_a tells_b. absurd (none a tells_a)), (λ may. refl))

pub follows_any : (one other : List ℕ) → ((key : Key) → TellsKey other key → ⊥) → (true ≡ true) ↔ MayFollow one other
follows_any one other none = ((λ yes a b tells_a tells_b. absurd (none b tells_b)), (λ may. refl))

-- keys that are told have to ascend
pub follows_when : (one other : List ℕ) (a b : Key) (may : Bool) → TellsKey one a → TellsKey other b → may ≡ is_lt (key_cmp a b) → (may ≡ true) ↔ MayFollow one other
follows_when one other a b may one_tells other_tells is = (
  (λ yes x y tells_x tells_y. ap₂ (λ p q. is_lt (key_cmp p q)) (one_key one x a tells_x one_tells) (one_key other y b tells_y other_tells) ∙ sym is ∙ yes),
  (λ follows. is ∙ follows a b one_tells other_tells),
)
