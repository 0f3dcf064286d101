-- The groups of two or more, found in one walk over postings in order.
use Rattle.std.specs.Prelude.{List, [], ◌∷◌, ◌++◌, if◌then◌else◌}
use Rattle.match_report.specs.Postings.{Posting}
use Rattle.match_report.specs.Groups.{NumberGroup, number_group, same_number, is_match}

-- a group of two or more, alone
abbrev pub matching : NumberGroup → List NumberGroup
matching g = if is_match g then g ∷ [] else []

-- the groups of two or more among a group that may grow and what stands behind it
abbrev pub matches_from : NumberGroup → List Posting → List NumberGroup
matches_from g [] = matching g
matches_from g (h ∷ hs) =
    if same_number g.number h.number then matches_from (number_group g.number (g.keys ++ h.key ∷ [])) hs
    else matching g ++ matches_from (number_group h.number (h.key ∷ [])) hs
