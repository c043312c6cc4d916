-- What an operand of a link reads.
use Rattle.std.specs.Prelude.{◌≡◌, ℕ, ◌<◌, true, false}
use Rattle.gf_tables.specs.Product.{size_of}
use Rattle.gf_tables.specs.declared.kind.FieldKind.{FieldKind}
use Rattle.net_model.specs.declared.net.Net.{Net}
use Rattle.net_model.specs.Walks.{leaves_source}
use Rattle.node_program.specs.declared.Operand.{Operand}

-- a nonzero element, and a row of the source below the rate, or a link of a lower number
pub record IsOperand (net : Net) (rate : ℕ) (field : FieldKind) (link : ℕ) (operand : Operand) : Type 0 where
  pub coefficient : operand.times < size_of field
  pub nonzero : 0 < operand.times
  pub source_row : leaves_source net link ≡ true → operand.from < rate
  pub earlier_link : leaves_source net link ≡ false → operand.from < link
