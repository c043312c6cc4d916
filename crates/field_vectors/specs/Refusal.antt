-- What a refusal to invert a matrix says.
use Rattle.field_vectors.specs.Grid.{Grid}
use Rattle.field_vectors.specs.Inverse.{IsSentToZero}
use Rattle.field_vectors.specs.declared.refusal.InvertRefusal.{InvertRefusal}
use Rattle.field_vectors.specs.declared.refusal.InvertRefusal.TheVariants.{OutOfMemory, Singular}

-- a block that is not all zeros is sent to zero, or there was too little memory
abbrev pub IsRefusal : {A : Type 0} → (A → Type 0) → A → (A → A → A) → (A → A → A) → Grid A → InvertRefusal A → Type 0
IsRefusal is_element zero add mul a OutOfMemory = Unit {0}
IsRefusal is_element zero add mul a (Singular block) = IsSentToZero is_element zero add mul a block
