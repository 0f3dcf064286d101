-- What becomes a record, by draws. The rules are this project's own.
use Rattle.std.specs.Prelude.{ℕ, ◌==◌, if◌then◌else◌}
use Rattle.workload.specs.Draws.{state_after, drawn_below}
use Rattle.workload.specs.declared.drafts.Draft.{Draft}
use Rattle.workload.specs.declared.drafts.Draft.TheVariants.{Authority, LinkedAuthority, Deletion, Bibliographic}

-- the first, the second, .. number that is drawn from a state on
abbrev pub draw : ℕ → ℕ → ℕ → ℕ
draw state place bound = drawn_below bound (state_after place state)

-- the draft of the record with a number: of eight kinds the first is an authority, the second one linked to
-- another name, the third a deletion, and all others are bibliographic; names are drawn below their number
unfoldable pub draft_of : ℕ → ℕ → ℕ → Draft
draft_of names number state =
    if draw state 1 8 == 0 then Authority (draw state 2 names) (draw state 3 4)
    else if draw state 1 8 == 1 then LinkedAuthority (draw state 2 names) (draw state 3 4) (draw state 4 names)
    else if draw state 1 8 == 2 then Deletion (draw state 2 names)
    else Bibliographic number (draw state 2 names)

-- how many numbers are drawn for a draft
abbrev pub draws_for : Draft → ℕ
draws_for (Authority name variant) = 3
draws_for (LinkedAuthority name variant other) = 4
draws_for (Deletion name) = 2
draws_for (Bibliographic number author) = 2

-- the state behind a record's draws
abbrev pub state_behind : ℕ → ℕ → ℕ → ℕ
state_behind names number state = state_after (draws_for (draft_of names number state)) state
