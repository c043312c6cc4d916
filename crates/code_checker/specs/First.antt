-- The first failure of a batch of demands, while they are gone through pattern by pattern.
use Rattle.std.specs.Prelude.{◌≡◌, ℕ, ◌+◌, List, Option, Some, Result, Ok, slice_get}
use Rattle.std.specs.declared.alloc.AllocError.{AllocError}
use Rattle.failure_patterns.specs.Batches.{batch_start}
use Rattle.failure_patterns.specs.First as demands
use Rattle.net_model.specs.Demands.{demand_count}
use Rattle.node_program.specs.declared.code.Code.{Code}
use Rattle.code_checker.specs.Checking.{demand_product, DiffersFirst, IsIdentity}
use Rattle.code_checker.specs.declared.products.Failure.{Failure}

-- the demand of a failure
abbrev pub failed_demand : Failure → ℕ
failed_demand failure = failure.demand

-- a failure is where the product of its demand differs first from the identity
abbrev pub IsFailure : Code → Failure → Type 0
IsFailure code failure = DiffersFirst code.rate (demand_product code failure.demand) failure.row failure.column failure.found

-- of the demands from one number on and below another, the first that fails, or that none does
abbrev pub IsFirstIn : Code → ℕ → ℕ → Option Failure → Type 0
IsFirstIn code = demands.IsFirstIn (IsIdentity code) failed_demand (IsFailure code)

-- for each batch, by its number, the first of its demands that fails, or want of memory
abbrev pub AreBatches : Code → ℕ → List (Result (Option Failure) AllocError) → Type 0
AreBatches code batches made =
    (batch : ℕ) (first : Option Failure) → slice_get made batch ≡ Some (Ok first)
    → IsFirstIn code (batch_start batch batches (demand_count code.net)) (batch_start (batch + 1) batches (demand_count code.net)) first

-- the first failure of the demands whose pattern is before one, or that none was found
abbrev pub IsFirstBefore : Code → ℕ → ℕ → ℕ → Option Failure → Type 0
IsFirstBefore code = demands.IsFirstBefore code.net (IsIdentity code) failed_demand (IsFailure code)

-- the first failure with a pattern, of these sinks, or that there is none
abbrev pub IsFirstOf : Code → ℕ → ℕ → ℕ → Option Failure → Type 0
IsFirstOf code = demands.IsFirstOf code.net (IsIdentity code) failed_demand (IsFailure code)

-- below which number a demand may yet fail first
abbrev pub limit_of : ℕ → Option Failure → ℕ
limit_of = demands.limit_of failed_demand
