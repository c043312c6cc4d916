use Rattle.std.proofs.Common.{◌≡◌, ◌∙◌, ◌+◌, ◌-◌, ◌*◌, ◌≤◌, ◌<◌, ◌∷◌, [], ◌++◌, List, ℕ, ap, sym, length, take, get_or, arith}
use Rattle.std.specs.List.{concat}
use Rattle.std.proofs.Math.Path.{ap₂}
use Rattle.std.proofs.lemmas.List.{append-nil, take_more}
use Rattle.std.proofs.lemmas.List.Folds.{concat-append}
use Rattle.std.proofs.lemmas.Slice.{take-put_mid}
use Rattle.vector_headers.specs.Rows.{Holding}
use Rattle.vector_headers.proofs.blind.Blind.block.Goals as goal

pub loop-k-preserved : goal.loop-k-preserved
loop-k-preserved g c = λ block admitted.
    let k = c.loop-k.k in
    let at = k * 1024 in
    let into = c.loop-k.into in
    let new = c.fill_row.new.into in
    let row = get_or block k [] in
    let rate : c.self.inside.rate ≡ c.args.self.now.rate = ap (λ (holding : Holding). holding.rate) c.self.view_is in
    let next : (k + 1) * 1024 ≡ at + length new = omega arith in
    let within : at ≤ length into = omega (arith, rate) in
    let below : k < length block = omega (arith, rate, admitted.count) in
    take-put_mid at (at + 1024 - at) into new ((k + 1) * 1024) next within
    ∙ ap₂ (λ (xs ys : List ℕ). xs ++ ys) (c.loop-k.invariant block admitted) (c.fill_row.ensures block admitted)
    ∙ sym (ap concat (take_more block k [] below) ∙ concat-append (take k block) (row ∷ []) ∙ ap (λ (xs : List ℕ). concat (take k block) ++ xs) (append-nil row))
