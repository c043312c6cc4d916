use Rattle.std.specs.Prelude.{ℕ, ◌≤◌}
use Rattle.std.proofs.Common.{◌*◌, ◌/◌, ◌∙◌, ap, sym, arith}
use Rattle.std.proofs.Math.Nat.{div-mul-le_self, mul-le-mul_left}
use Rattle.source_delivery.proofs.PartLaws.{split-rows}
use Rattle.source_delivery.specs.Parts.{is_split}
use Rattle.source_delivery.proofs.delivery.SourceDelivery.twin_counts.Goals as goal

-- where blocks are of two bytes or more, they are at most half as many
halved : (bytes size : ℕ) → 2 ≤ size → (bytes / size) * 2 ≤ bytes
halved bytes size some =
    let blocks = bytes / size in
    let each : blocks * 2 ≤ blocks * size = mul-le-mul_left blocks some in
    omega (arith, each, div-mul-le_self bytes size)

pub overflow_add-result : goal.overflow_add-result
overflow_add-result g c =
    let self = c.args.self.now in
    let first = c.args.first.now in
    let second = c.args.second.now in
    let rate = self.runner.code.rate in
    let rows = split-rows first.rate rate (ap (λ parts. is_split parts rate) (sym c.requires.parts) ∙ self.split) in
    let front : 2 ≤ c.from.result = omega (arith, rows.0, c.cap.ensures, c.from.ensures) in
    let rest : 2 ≤ c.from-2.result = omega (arith, rows.1, c.requires.rates, c.cap-2.ensures, c.from-2.ensures) in
    omega (arith, c.max.ensures, halved first.at c.from.result front, halved second.at c.from-2.result rest)
