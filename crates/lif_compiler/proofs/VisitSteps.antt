-- Steps of the visit of a link, by the values that its calls take and give.
use Rattle.std.specs.Prelude.{◌≡◌, ◌≢◌, ◌<◌, ◌++◌, ℕ, true, false, All, List, Some, drop, length, replicate, slice_get, take}
use Rattle.std.specs.declared.cmp.PartialEq.{Ghosts as EqualityWords}
use Rattle.std.proofs.Common.{sym, ap, ◌∙◌, subst}
use Rattle.item_list.proofs.Writes.{written_back}
use Rattle.field_vectors.specs.Elements.{dot_of}
use Rattle.field_vectors.specs.Grid.{Grid, IsMatrix, row_of}
use Rattle.gf_tables.specs.declared.field.Field.{Ghosts as FieldWords}
use Rattle.net_model.specs.declared.net.Net.{Net}
use Rattle.node_program.specs.Value.{leaves_source}
use Rattle.node_program.specs.declared.Operand.{Operand}
use Rattle.sink_basis.specs.declared.basis.Basis.{Basis}
use Rattle.lif_compiler.specs.Bases.{HasMatrices, inverses_in}
use Rattle.lif_compiler.specs.Compiled.{marked_kind}
use Rattle.lif_compiler.specs.Hops.{Routes}
use Rattle.lif_compiler.specs.PartialCodes.{AreChosenBy}
use Rattle.lif_compiler.specs.Steps.{AreCarried, AreFromBelow}
use Rattle.lif_compiler.specs.Tables.{AreOfShape, vectors_for}
use Rattle.lif_compiler.specs.Visits.{CanVisit}
use Rattle.lif_compiler.specs.declared.hops.Hop.{Hop}
use Rattle.lif_compiler.specs.declared.partial_code.PartialCode.{PartialCode}
use Rattle.lif_compiler.proofs.AfterSteps.{operand_links, operand_rows, operand_times, product_nonzero, vectors_more}
use Rattle.lif_compiler.proofs.BasesLaws.{LawsOf}
use Rattle.lif_compiler.proofs.CarrySteps.{carried_at}
use Rattle.lif_compiler.proofs.ReadySteps.{item_of, shape, some_basis, vectors_shape, zeros_here}
use Rattle.lif_compiler.proofs.AdvanceSteps.{nonzero_at_link}

module _ {X : Type 0} {F : FieldWords X} {E : EqualityWords X} (L : LawsOf F) {net : Net} {routes : Routes} {hops : List Hop} {code : PartialCode X F E} (can : CanVisit net routes hops code)
    (next : length code.operands.items < length net.links) (link : ℕ) (link_is : link ≡ length code.operands.items) where
  -- before the vectors of the link are made
  module _ (vectors : List (Grid X)) (vectors_are : vectors ≡ code.vectors.items) where
    pub carry_shape : AreOfShape (length net.links) code.rate vectors
    carry_shape = subst (AreOfShape (length net.links) code.rate) (sym vectors_are) (shape L can)

    pub carry_zeros : All (λ m. row_of m link ≡ replicate code.rate F.zero) vectors
    carry_zeros =
        subst (λ (ms : List (Grid X)). All (λ m. row_of m link ≡ replicate code.rate F.zero) ms) (sym vectors_are)
        (subst (λ link. All (λ (m : Grid X). row_of m link ≡ replicate code.rate F.zero) code.vectors.items) (sym link_is) (zeros_here L can next))

  module _ {operands : List Operand} (chosen : AreChosenBy net link hops code operands) where
    -- the operands, as they are chosen for the next link
    pub chosen_here : AreChosenBy net (length code.operands.items) hops code operands
    chosen_here = subst (λ link. AreChosenBy net link hops code operands) link_is chosen

    module _ (given : List Operand) (given_are : given ≡ operands) where
      pub carry_times : All (λ operand. operand.times < F.SIZE) given
      carry_times = subst (λ (os : List Operand). All (λ operand. operand.times < F.SIZE) os) (sym given_are) (operand_times L can next operands chosen_here)

      pub carry_rows : leaves_source net link ≡ true → AreFromBelow code.rate given
      carry_rows leaves = subst (AreFromBelow code.rate) (sym given_are) (operand_rows L can next operands chosen_here (ap (leaves_source net) (sym link_is) ∙ leaves))

      pub carry_links : leaves_source net link ≡ false → AreFromBelow link given
      carry_links leaves =
          subst (AreFromBelow link) (sym given_are)
          (subst (λ link. AreFromBelow link operands) (sym link_is) (operand_links L can next operands chosen_here (ap (leaves_source net) (sym link_is) ∙ leaves)))

      -- after they are made
      module _ (vectors : List (Grid X)) (vectors_are : vectors ≡ code.vectors.items) (new : List (Grid X)) (carried : AreCarried (marked_kind F.MARK) F.number net link given vectors new) where
        pub carried_here : AreCarried (marked_kind F.MARK) F.number net (length code.operands.items) operands code.vectors.items new
        carried_here = carried_at link_is given_are vectors_are carried

        pub new_back : (count : ℕ) → count ≡ length code.vectors.items → take count (new ++ drop (length new) code.vectors.items) ≡ new
        new_back count whole = written_back code.vectors.items new count whole carried_here.each_pattern

        module _ (made : List (Grid X)) (made_are : made ≡ new) where
          pub advance_shape : AreOfShape (length net.links) code.rate made
          advance_shape = subst (AreOfShape (length net.links) code.rate) (sym made_are) (vectors_shape new (vectors_more L can next operands chosen_here new carried_here))

          pub advance_nonzero : (bases : List (Basis X F E)) → bases ≡ code.bases.items → All HasMatrices code.bases.items → All (IsMatrix F.is_element) new
              → (k : ℕ) (hop : Hop) → slice_get hops k ≡ Some hop → dot_of F.zero F.add F.mul (row_of (vectors_for made hop.demand) link) (row_of (inverses_in bases hop.demand) hop.path) ≢ F.zero
          advance_nonzero bases bases_are matrices kept k hop here =
              nonzero_at_link link_is made_are bases_are hop
              (product_nonzero L can next operands chosen_here new carried_here k hop here matrices kept (item_of code.bases.items (some_basis L can)))
