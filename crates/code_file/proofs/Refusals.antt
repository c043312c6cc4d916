-- Which refusals there are.
use Rattle.std.proofs.Common.{◌≡◌, ◌≢◌, Result, Ok, Err, refl}
use Rattle.code_items.specs.declared.refusal.CodeRefusal.{CodeRefusal}
use Rattle.code_items.specs.declared.refusal.CodeRefusal.TheVariants.{OutOfMemory}

-- a refusal that is no other one is for want of memory
pub memory_alone : (why : CodeRefusal) → ((why ≢ OutOfMemory) → ⊥) → why ≡ OutOfMemory
memory_alone OutOfMemory not_other = refl
memory_alone _ not_other = absurd (not_other (λ same. absurd cc))

-- what is read is not refused
pub not_both : {X : Type 0} (read : Result X CodeRefusal) (x : X) (why : CodeRefusal) → read ≡ Ok x → read ≡ Err why → ⊥
not_both read x why good bad = absurd cc
