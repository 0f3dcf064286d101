-- The generator's step by words of 64 bits.
use Rattle.std.proofs.Common.{◌≡◌, ℕ, ◌+◌, ◌%◌, ◌^◌}
use Rattle.std.proofs.Math.Nat.{mod-add-mod}

-- a product that wraps, and a sum of it that wraps, is the sum that wraps
pub added_behind : (product increment : ℕ) → (product % 2 ^ 64 + increment) % 2 ^ 64 ≡ (product + increment) % 2 ^ 64
added_behind product increment = mod-add-mod product (2 ^ 64) increment
