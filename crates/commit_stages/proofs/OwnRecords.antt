-- The record that a commit has put under a number is the one that it may look at.
use Rattle.std.proofs.Common.{◌≡◌, ◌∙◌, ℕ, Option, ap, subst, sym}
use Rattle.marc_types.specs.declared.key.Class.{Class}
use Rattle.catalogue_rules.specs.State.{KeptRecord}
use Rattle.catalogue_tables.specs.Seam.{KeyLists}
use Rattle.linked_store.specs.Linked.{IsNumber, Linked, record_at}
use Rattle.linked_store.specs.Placing.{own_record}
use Rattle.linked_store.specs.declared.own.OwnRecord.{OwnRecord}

module _ (own : OwnRecord) (class : Class) (number : ℕ) (is : own ≡ own_record class number) where
  pub own_known : (keys : KeyLists) → IsNumber class number keys → IsNumber own.class own.number keys
  own_known keys known = subst (λ (o : OwnRecord). IsNumber o.class o.number keys) (sym is) known

  pub own_there : (x : Linked) (found : Option KeptRecord) → found ≡ record_at own.class own.number x → found ≡ record_at class number x
  own_there x found there = there ∙ ap (λ (o : OwnRecord). record_at o.class o.number x) is
