-- What a function of the reader returns, against what reading gives.
use Rattle.std.specs.Prelude.{◌≡◌, ◌≢◌, Result, Ok, Err, IfOk}
use Rattle.net_reader.specs.declared.refusal.ReadRefusal.{ReadRefusal}
use Rattle.net_reader.specs.declared.refusal.ReadRefusal.TheVariants.{OutOfMemory}

-- a refusal is that of the reading, unless memory ran out
abbrev pub Fails : {Y : Type 0} → ReadRefusal → Result Y ReadRefusal → Type 0
Fails refusal reading = refusal ≢ OutOfMemory → reading ≡ Err refusal

-- what was returned, seen by view, is what reading gives, unless memory ran out
abbrev pub Gives : {X Y : Type 0} → (X → Y) → Result X ReadRefusal → Result Y ReadRefusal → Type 0
Gives view (Ok x) reading = reading ≡ Ok (view x)
Gives view (Err refusal) reading = Fails refusal reading

-- what was returned, seen by view, is this
abbrev pub Makes : {X Y : Type 0} → (X → Y) → Result X ReadRefusal → Y → Type 0
Makes view result value = IfOk result (λ x. view x ≡ value)
