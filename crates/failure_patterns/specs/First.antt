-- The first demand of a network that fails, while its demands are gone through pattern by pattern. `Good` is what holds
-- of a demand that doesn't fail, by its number; `number` is the demand of a failure, and `Shows` what it shows of that.
use Rattle.std.specs.Prelude.{◌≡◌, ℕ, ◌<◌, ◌≤◌, ◌+◌, ◌-◌, ◌*◌, ◌/◌, Option, Some, None, length}
use Rattle.net_model.specs.Demands.{pattern_of_demand}
use Rattle.net_model.specs.declared.net.Net.{Net}

-- the demands from one number on and below another are good
abbrev pub AreGood : (ℕ → Type 0) → ℕ → ℕ → Type 0
AreGood Good from to = (demand : ℕ) → from ≤ demand → demand < to → Good demand

-- the demand is one of those from one number on and below another, this is shown of it, and those before it are good
pub record FailsFirstIn (Good : ℕ → Type 0) (from to demand : ℕ) (Shown : Type 0) : Type 0 where
  pub from_on : from ≤ demand
  pub within : demand < to
  pub before : AreGood Good from demand
  pub shown : Shown

-- of the demands from one number on and below another, the first that fails, or that none does
abbrev pub IsFirstIn : {X : Type 0} → (ℕ → Type 0) → (X → ℕ) → (X → Type 0) → ℕ → ℕ → Option X → Type 0
IsFirstIn Good number Shows from to None = AreGood Good from to
IsFirstIn Good number Shows from to (Some failure) = FailsFirstIn Good from to (number failure) (Shows failure)

-- below which number a demand may yet fail first
abbrev pub limit_of : {X : Type 0} → (X → ℕ) → ℕ → Option X → ℕ
limit_of number to None = to
limit_of number to (Some failure) = number failure

-- how many sinks' demands with a pattern are below a number, where there are so many patterns
abbrev pub sinks_below : ℕ → ℕ → ℕ → ℕ
sinks_below patterns pattern number = (number + patterns - 1 - pattern) / patterns

-- those of the demands whose pattern is before one are good
abbrev pub AreGoodBefore : Net → (ℕ → Type 0) → ℕ → ℕ → ℕ → Type 0
AreGoodBefore net Good from to pattern = (demand : ℕ) → from ≤ demand → demand < to → pattern_of_demand net demand < pattern → Good demand

-- the demands of a pattern, with the sinks from one on and before another, are good
abbrev pub AreClear : Net → (ℕ → Type 0) → ℕ → ℕ → ℕ → Type 0
AreClear net Good pattern begin end = (sink : ℕ) → begin ≤ sink → sink < end → Good (sink * length net.patterns + pattern)

module _ {X : Type 0} (net : Net) (Good : ℕ → Type 0) (number : X → ℕ) (Shows : X → Type 0) where
  -- the failure is that of its demand, and no lower one that was gone through fails
  pub record IsFirst (from to pattern : ℕ) (failure : X) : Type 0 where
    pub from_on : from ≤ number failure
    pub within : number failure < to
    pub before : AreGoodBefore net Good from (number failure) pattern
    pub shown : Shows failure

  -- the first failure of the demands whose pattern is before one, or that none was found
  abbrev pub IsFirstBefore : ℕ → ℕ → ℕ → Option X → Type 0
  IsFirstBefore from to pattern None = AreGoodBefore net Good from to pattern
  IsFirstBefore from to pattern (Some failure) = IsFirst from to pattern failure

  -- the failure is that of the demand with one of these sinks, and none with an earlier one fails
  pub record IsFirstAt (pattern begin end sink : ℕ) (failure : X) : Type 0 where
    pub from_on : begin ≤ sink
    pub within : sink < end
    pub demand : number failure ≡ sink * length net.patterns + pattern
    pub before : AreClear net Good pattern begin sink
    pub shown : Shows failure

  -- the first failure with a pattern, of these sinks, or that there is none
  abbrev pub IsFirstOf : ℕ → ℕ → ℕ → Option X → Type 0
  IsFirstOf pattern begin end None = AreClear net Good pattern begin end
  IsFirstOf pattern begin end (Some failure) = (sink : ℕ) × IsFirstAt pattern begin end sink failure
