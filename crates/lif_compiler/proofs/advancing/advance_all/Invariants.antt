use Rattle.std.proofs.Common.{◌≡◌, ◌*◌, ℕ, All}
use Rattle.counted_steps.specs.Steps.{RoseBy, RoseByAtMost}
use Rattle.lif_compiler.specs.Steps.{AreAdvancedTo, IsApart}
use Rattle.lif_compiler.specs.Bases.{HasMatrices, HasWidth, inverses_in}
use Rattle.lif_compiler.proofs.CountLaws.{advanced_below}
use Rattle.lif_compiler.proofs.advancing.advance_all.Given as goal

-- the bases of the hops before this one are advanced, each in its steps; the others are as they were
abbrev pub invariant-loop-hop : goal.invariant-loop-hop
invariant-loop-hop g l = record {
  advanced : AreAdvancedTo l.link l.vectors l.hops l.hop-index l.initial.bases l.bases;
  widths : All (HasWidth l.rate) l.bases;
  matrices : All HasMatrices l.bases;
  inverses : (demand : ℕ) → IsApart l.hops l.hop-index demand → inverses_in l.bases demand ≡ inverses_in l.initial.bases demand;
  ticks : RoseBy (advanced_below l.link l.vectors l.initial.bases l.hops l.hop-index) l.initial.steps l.steps;
  few_ticks : RoseByAtMost (l.hop-index * (3 * l.rate * l.rate)) l.initial.steps l.steps;
}
