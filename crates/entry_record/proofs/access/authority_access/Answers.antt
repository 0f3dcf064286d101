use Rattle.std.proofs.Common.{sym, ◌∙◌, arith}
use Rattle.entry_record.specs.Authority.{linkable_of}
use Rattle.entry_record.proofs.Growing.{heading_small}
use Rattle.entry_record.proofs.Accessible.{headless, unlinkable, linked, access_same}
use Rattle.entry_record.proofs.access.authority_access.Goals as goal

pub returns-in_default : goal.returns-in_default
returns-in_default c =
    λ key. access_same (linkable_of key c.args.fields.now) c.no_access.result (headless key c.args.fields.now c.in_default.ensures) c.no_access.ensures

pub established_form-requires : goal.established_form-requires
established_form-requires c = omega (arith, heading_small c.args.fields.now c.in-Some.heading.now (sym c.in-Some.ensures))

pub returns-in_default-2 : goal.returns-in_default-2
returns-in_default-2 c =
    λ key. access_same (linkable_of key c.args.fields.now) c.no_access-in_default-2.result
    (unlinkable key c.args.fields.now c.in-Some.heading.now c.in-Some.ensures (sym c.in_default-2.is ∙ c.in_ok-established.ensures))
    c.no_access-in_default-2.ensures

pub returns : goal.returns
returns c =
    λ key. let both = linked key c.args.fields.now c.in-Some.heading.now c.in-Some-2.established c.in-Some.ensures (sym c.in-Some-2.is ∙ c.in_ok-established.ensures) in
    record { established_is = both.0; see_from_is = c.in_ok-see_from.ensures ∙ both.1 }
