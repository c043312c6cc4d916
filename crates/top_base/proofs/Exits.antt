-- Exits by `?`.
use Rattle.std.specs.Prelude.{◌≡◌, Result, Ok, Err, IfErr, IfOk}
use Rattle.std.specs.Result.{IsErrAnd}
use Rattle.std.proofs.Common.{sym, subst}

-- what holds of the error that an exit is made with
pub if_err : {T E : Type 0} (P : E → Type 0) (r : Result T E) (made : E) → IsErrAnd r (λ error. error ≡ made) → P made → IfErr r P
if_err P (Ok x) made is p = tt
if_err P (Err error) made is p = subst P (sym is) p

-- what holds of a value, or of an error, gives what follows from it
pub ok_weaker : {T E : Type 0} (P Q : T → Type 0) (r : Result T E) → ((value : T) → P value → Q value) → IfOk r P → IfOk r Q
ok_weaker P Q (Ok x) more p = more x p
ok_weaker P Q (Err error) more p = tt

pub err_weaker : {T E : Type 0} (P Q : E → Type 0) (r : Result T E) → ((error : E) → P error → Q error) → IfErr r P → IfErr r Q
err_weaker P Q (Ok x) more p = tt
err_weaker P Q (Err error) more p = more error p
