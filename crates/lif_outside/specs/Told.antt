-- What an object tells of its content. An object that tells nothing has `None` there.
use Rattle.std.specs.Prelude.{◌≡◌, Option, Some, is_some, IfSome}

-- where the content is told, this holds of it
abbrev pub Told : {X : Type 0} → Option X → (X → Type 0) → Type 0
Told content P = IfSome content P

-- Whether the content is told doesn't change. Where it is, what is told before and after are related so.
pub record Becomes {X : Type 0} (before after : Option X) (R : X → X → Type 0) : Type 0 where
  pub tells : is_some after ≡ is_some before
  pub related : (old new : X) → before ≡ Some old → after ≡ Some new → R old new
