-- The places of rows that stand one after another.
use Rattle.std.specs.Prelude.{ℕ, suc, ◌+◌, ◌*◌, ◌<◌, ◌≤◌}
use Rattle.std.proofs.Common.{arith, suc-mul}
use Rattle.std.proofs.Math.Nat.{mul-le-mul_right}

-- a row of entries ends within them
pub row_end : (i count width : ℕ) → i < count → i * width + width ≤ count * width
row_end i count width below =
    let next : suc i ≤ count = omega arith in
    let fits : suc i * width ≤ count * width = mul-le-mul_right width next in
    omega (arith, suc-mul i width, fits)

-- a place of entries that stand row by row
pub place_within : (i j count width : ℕ) → i < count → j < width → i * width + j < count * width
place_within i j count width below inside = let fits = row_end i count width below in omega (arith, fits, inside)
