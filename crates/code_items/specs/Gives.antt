-- What a function of the reader returns, against what reading gives.
use Rattle.std.specs.Prelude.{◌≡◌, ◌≢◌, ℕ, List, map, Vec, Ok, Err}
use Rattle.std.specs.Global.{Global}
use Rattle.net_model.specs.declared.Pattern.{Pattern}
use Rattle.code_items.specs.declared.refusal.CodeRefusal.{CodeRefusal}
use Rattle.code_items.specs.declared.refusal.CodeRefusal.TheVariants.{OutOfMemory}
use Rattle.code_items.specs.declared.rest.Rest as rust
use Rattle.code_items.specs.Reading.{Rest, Reading, Refusable}

-- a refusal is that of the reading, unless memory ran out
abbrev pub Fails : {Y : Type 0} → CodeRefusal → Refusable Y → Type 0
Fails refusal reading = refusal ≢ OutOfMemory → reading ≡ Err refusal

-- what was returned, seen by view, is what reading gives, unless memory ran out
abbrev pub Gives : {X Y : Type 0} → (X → Y) → Refusable X → Refusable Y → Type 0
Gives view (Ok x) reading = reading ≡ Ok (view x)
Gives view (Err refusal) reading = Fails refusal reading

-- what is left, without where it lies in memory
abbrev pub left_of : rust.Rest → Rest
left_of rest = record { at = rest.at; bytes = rest.bytes.now }

-- what a reader returned, and what is left
abbrev pub Read : Type 0 → Type 0
Read X = Refusable (X × rust.Rest)

-- The result of a reader that starts here: what it returned, seen by view, is the part that is read
-- here, and the rest is what is left behind it; a refusal is that of the part.
abbrev pub ReadsAs : {X Y : Type 0} → (X → Y) → Read X → (Rest → Reading Y) → rust.Rest → Type 0
ReadsAs view result part start =
    Gives (λ x. (view x.0, left_of x.1)) result (part (left_of start))

-- the same of what is seen as it is
abbrev pub Reads : {X : Type 0} → Read X → (Rest → Reading X) → rust.Rest → Type 0
Reads result part start = Gives (λ x. (x.0, left_of x.1)) result (part (left_of start))

-- the same of a vector, which is seen as the list of its items
abbrev pub ReadsAll :
    {X : Type 0} → Read (Vec X Global) → (Rest → Reading (List X)) → rust.Rest → Type 0
ReadsAll result part start = ReadsAs (λ all. all.items) result part start

-- a reader that knows of the earlier parts only their names
abbrev pub ReadsBehind :
    (List Pattern → Rest → Reading Pattern) → List (List ℕ) → Read Pattern → rust.Rest → Type 0
ReadsBehind part names result start = (earlier : List Pattern)
    → names ≡ map (λ pattern. pattern.name) earlier → Reads result (part earlier) start
