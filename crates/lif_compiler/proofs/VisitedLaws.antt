-- That links are visited, by what is known of the parts of a code in the making.
use Rattle.std.specs.Prelude.{◌≡◌, ◌<◌, ℕ, List, length}
use Rattle.std.specs.declared.cmp.PartialEq.{Ghosts as EqualityWords}
use Rattle.std.proofs.Common.{sym, ap, ◌∙◌, subst}
use Rattle.field_vectors.specs.Grid.{Grid}
use Rattle.gf_tables.specs.declared.field.Field.{Ghosts as FieldWords}
use Rattle.net_model.specs.Demands.{demand_count}
use Rattle.net_model.specs.declared.net.Net.{Net}
use Rattle.node_program.specs.declared.Operand.{Operand}
use Rattle.sink_basis.specs.declared.basis.Basis.{Basis}
use Rattle.lif_compiler.specs.Compiled.{marked_kind}
use Rattle.lif_compiler.specs.Hops.{Routes}
use Rattle.lif_compiler.specs.Visits.{AreChosen, AreVectorsOf, IsVisited, Stands}
use Rattle.lif_compiler.specs.declared.partial_code.PartialCode.{PartialCode}

-- a code whose parts are these is visited where they are
pub IsVisited-of : {X : Type 0} {F : FieldWords X} {E : EqualityWords X} {net : Net} {routes : Routes} (rate : ℕ) (visited : List (List Operand)) (vectors : List (Grid X)) (bases : List (Basis X F E)) (code : PartialCode X F E)
    → code.rate ≡ rate → code.operands.items ≡ visited → code.vectors.items ≡ vectors → code.bases.items ≡ bases
    → AreChosen net (marked_kind F.MARK) rate routes visited → AreVectorsOf F net rate visited vectors → length bases ≡ demand_count net
    → ((demand : ℕ) → demand < demand_count net → Stands net routes rate visited bases demand) → IsVisited net routes code
IsVisited-of {X} {F} {E} {net} {routes} rate visited vectors bases code r o v b chosen carried count stands = record {
  chosen = subst (λ rate. AreChosen net (marked_kind F.MARK) rate routes code.operands.items) (sym r) (subst (AreChosen net (marked_kind F.MARK) rate routes) (sym o) chosen);
  carried = subst (λ rate. AreVectorsOf F net rate code.operands.items code.vectors.items) (sym r)
      (subst (λ visited. AreVectorsOf F net rate visited code.vectors.items) (sym o) (subst (AreVectorsOf F net rate visited) (sym v) carried));
  each_basis = ap length b ∙ count;
  stands = λ demand within.
      subst (λ rate. Stands net routes rate code.operands.items code.bases.items demand) (sym r)
      (subst (λ visited. Stands net routes rate visited code.bases.items demand) (sym o)
      (subst (λ bases. Stands net routes rate visited bases demand) (sym b) (stands demand within)));
}
