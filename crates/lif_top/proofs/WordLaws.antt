-- Words that a system told, and those that a run is given.
use Rattle.std.proofs.Common.{◌≡◌, ◌⊎◌, ℕ, List, sym, subst, inl, inr}
use Rattle.std.specs.Prelude.{Option, Some, None, IfSome}
use Rattle.system_files.specs.declared.words.Words.{Words}
use Rattle.system_files.specs.declared.words.Words.TheVariants.{NoMemory}
use Rattle.system_files.specs.Words.{Gives}

-- they are those that the system gave, or there was no memory for them
pub gives-named : (told : Option (List (List ℕ))) (given named : Words) → IfSome told (λ words. Gives words given) → (named ≡ given) ⊎ (named ≡ NoMemory)
    → IfSome told (λ words. Gives words named)
gives-named None given named gives is = tt
gives-named (Some words) given named gives (inl same) = subst (Gives words) (sym same) gives
gives-named (Some words) given named gives (inr none) = subst (Gives words) (sym none) tt
