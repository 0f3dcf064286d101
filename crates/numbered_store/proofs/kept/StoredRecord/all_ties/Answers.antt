use Rattle.std.proofs.Common.{◌∙◌, ap, sym, List, length, Some}
use Rattle.std.proofs.lemmas.Result.{IfOk-weaker}
use Rattle.marc_types.specs.declared.entry.Tie.{Tie}
use Rattle.numbered_store.specs.Kept.{blanks}
use Rattle.numbered_store.proofs.Tied.{all_blank, all_own, blanks_long, own_long}
use Rattle.numbered_store.proofs.kept.StoredRecord.all_ties.Goals as goal

pub returns-in-Some-clause-long : goal.returns-in-Some-clause-long
returns-in-Some-clause-long c =
    IfOk-weaker c.copy.result _ _ (λ (ties : List Tie) is. ap (λ (l : List Tie). length l) is ∙ own_long c.args.self.now c.in-Some.ties c.in-Some.is) c.copy.ensures

pub returns-in-Some-clause-same : goal.returns-in-Some-clause-same
returns-in-Some-clause-same c =
    IfOk-weaker c.copy.result _ _
    (λ (ties : List Tie) is. all_own c.args.self.now ties (c.in-Some.is ∙ ap Some (sym is))) c.copy.ensures

pub returns-in-None-clause-long : goal.returns-in-None-clause-long
returns-in-None-clause-long c =
    IfOk-weaker c.blank_ties.result _ _ (λ (ties : List Tie) is. ap (λ (l : List Tie). length l) is ∙ blanks_long _ ∙ c.field_count.ensures) c.blank_ties.ensures

pub returns-in-None-clause-same : goal.returns-in-None-clause-same
returns-in-None-clause-same c =
    IfOk-weaker c.blank_ties.result _ _ (λ (ties : List Tie) is. all_blank c.args.self.now ties c.in-None.is (is ∙ ap blanks c.field_count.ensures)) c.blank_ties.ensures
