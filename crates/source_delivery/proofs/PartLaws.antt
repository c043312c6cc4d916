-- How rows are shared among sources: what a split says.
use Rattle.std.specs.Prelude.{◌≡◌, ◌<◌, ◌≤◌, nat_lt, ℕ, true}
use Rattle.std.proofs.Common.{arith}
use Rattle.std.proofs.lemmas.Bool.{and_parts, ltb-true}
use Rattle.source_delivery.specs.Parts.{is_split}
use Rattle.source_delivery.specs.declared.parts.Parts.TheVariants.{Two}

-- of two sources each has some rows
pub split-rows : (rows rate : ℕ) → is_split (Two rows) rate ≡ true → (1 ≤ rows) × (rows < rate)
split-rows rows rate is =
    let parts = and_parts (nat_lt 0 rows) (nat_lt rows rate) is in
    let some : 0 < rows = ltb-true 0 rows parts.0 in
    (omega (arith, some), ltb-true rows rate parts.1)
