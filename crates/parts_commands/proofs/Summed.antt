-- Numbers that are summed, report after report.
use Rattle.std.proofs.Common.{◌≡◌, ◌∙◌, ℕ, ◌+◌, ◌-◌, List, [], ◌∷◌, ◌++◌, map, refl, sym, ap, subst, arith}
use Rattle.std.specs.List.{sum_by}
use Rattle.std.proofs.lemmas.List.Sums.{sum_by_push}
use Rattle.catalogue_parts.specs.declared.totals.Totals.{Totals}
use Rattle.catalogue_parts.specs.Joined.{joined_number, joined_totals}
use Rattle.parts_commands.specs.Reading.{with_part, IsAdded}
use Rattle.parts_commands.specs.Reports.{FileOf, AreReports, AreSummed, IsPartReport}

map_push : (f : Totals → ℕ) (xs : List Totals) (y : Totals) → map f (xs ++ y ∷ []) ≡ map f xs ++ f y ∷ []
map_push f [] y = refl
map_push f (x ∷ xs) y = ap (λ l. f x ∷ l) (map_push f xs y)

number_more : (shared next : ℕ) (f : Totals → ℕ) (parts : List Totals) (t : Totals) → next ≡ f t
    → joined_number shared (map f (parts ++ t ∷ [])) ≡ joined_number shared (map f parts) + (next - shared)
number_more shared next f parts t is =
    let mapped = map_push f parts t in
    let sum = sum_by_push (λ number. number - shared) (map f parts) (f t) in
    ap (λ l. shared + sum_by (λ number. number - shared) l) mapped ∙ omega (arith, sum, is)

-- the numbers of one more part
totals_more : (shared : Totals) (parts : List Totals) (t : Totals) → joined_totals shared (parts ++ t ∷ []) ≡ with_part (joined_totals shared parts) shared t
totals_more shared parts t = λ i. record {
  authorities = number_more shared.authorities t.authorities (λ x. x.authorities) parts t refl i;
  bibliographic = number_more shared.bibliographic t.bibliographic (λ x. x.bibliographic) parts t refl i;
  linked = number_more shared.linked t.linked (λ x. x.linked) parts t refl i;
  ambiguous = number_more shared.ambiguous t.ambiguous (λ x. x.ambiguous) parts t refl i;
  unlinked = number_more shared.unlinked t.unlinked (λ x. x.unlinked) parts t refl i;
}

reports_more : (file : FileOf) (shared : Totals) (names : List (List ℕ)) (name : List ℕ) (parts : List Totals) (t : Totals) → AreReports file shared names parts
    → IsPartReport file shared name t → AreReports file shared (names ++ name ∷ []) (parts ++ t ∷ [])
reports_more file shared [] name [] t so report = (report, tt)
reports_more file shared [] name (p ∷ parts) t so report = absurd so
reports_more file shared (n ∷ names) name [] t so report = absurd so
reports_more file shared (n ∷ names) name (p ∷ parts) t so report = (so.0, reports_more file shared names name parts t so.1 report)

-- the report of one more part
pub summed_more : (file : FileOf) (shared : Totals) (names all : List (List ℕ)) (name : List ℕ) (old new : Totals) → AreSummed file shared names old
    → IsAdded file shared name old new → names ++ name ∷ [] ≡ all → AreSummed file shared all new
summed_more file shared names all name old new so added e = record {
  parts = so.parts ++ added.part ∷ [];
  reports = subst (λ l. AreReports file shared l (so.parts ++ added.part ∷ [])) e (reports_more file shared names name so.parts added.part so.reports added.report);
  whole_is = added.new_is ∙ ap (λ w. with_part w shared added.part) so.whole_is ∙ sym (totals_more shared so.parts added.part);
}
