-- Lists of calls on an object, whatever its calls are.
use Rattle.std.specs.Prelude.{◌≡◌, List, [], ◌∷◌, ◌++◌}

-- The calls are some of which P holds, and then some of which Q holds.
pub record Then {E : Type 0} (P Q : List E → Type 0) (events : List E) : Type 0 where
  pub first : List E
  pub later : List E
  pub events_are : events ≡ first ++ later
  pub holds_first : P first
  pub holds_later : Q later

-- the calls are these
abbrev pub Are : {E : Type 0} → List E → List E → Type 0
Are these events = events ≡ these

-- the calls are the first of these
abbrev pub IsFrontOf : {E : Type 0} → List E → List E → Type 0
IsFrontOf {E} these events = (rest : List E) × (these ≡ events ++ rest)

-- The calls are these up to one, and that one failed: it is as `failed` makes it of the call that was due.
pub record Stops {E : Type 0} (failed : E → E) (these events : List E) : Type 0 where
  pub front : List E
  pub next : E
  pub rest : List E
  pub these_are : these ≡ front ++ next ∷ rest
  pub events_are : events ≡ front ++ failed next ∷ []
