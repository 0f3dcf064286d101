-- The generator: a linear congruential one of 64 bits. Source: the multiplier and the increment are those of Knuth's MMIX.
use Rattle.std.specs.Prelude.{ℕ, zero, suc, ◌+◌, ◌*◌, ◌/◌, ◌%◌, ◌^◌}

-- the state behind a state
unfoldable pub next_state : ℕ → ℕ
next_state state = (state * 6364136223846793005 + 1442695040888963407) % 2 ^ 64

-- the state after so many draws
abbrev pub state_after : ℕ → ℕ → ℕ
state_after zero state = state
state_after (suc draws) state = state_after draws (next_state state)

-- the number below a bound that a draw gives, from the state that it made
unfoldable pub drawn_below : ℕ → ℕ → ℕ
drawn_below bound state = (state / 2 ^ 33) % bound
