-- The laws of the end of the compiler for the bases of a code in the making.
use Rattle.std.specs.Prelude.{◌≡◌, ◌<◌, ℕ, List, Option, All, Some, length, map, slice_get}
use Rattle.std.specs.declared.cmp.PartialEq.{Ghosts as EqualityWords}
use Rattle.std.proofs.Common.{arith, sym, ap, subst, ◌∙◌, get_or, inl, inr}
use Rattle.std.proofs.lemmas.Option.{get_or_from_slice_get, slice_get_cases}
use Rattle.gf_tables.specs.declared.field.Field.{Ghosts as FieldWords}
use Rattle.field_vectors.specs.Grid.{Grid}
use Rattle.linear_algebra.specs.Elements.{numbers}
use Rattle.net_model.specs.Demands.{demand_count}
use Rattle.net_model.specs.declared.net.Net.{Net}
use Rattle.node_program.specs.Code.{IsCode}
use Rattle.node_program.specs.Decoding.{IsAccepted}
use Rattle.node_program.specs.declared.Decoder.{Decoder}
use Rattle.node_program.specs.declared.code.Code.{Code}
use Rattle.sink_basis.specs.declared.basis.Basis.{Basis}
use Rattle.lif_compiler.specs.Bases.{HasMatrices, HasWidth, frontier_in, inverses_in, vectors_in}
use Rattle.lif_compiler.specs.Compiled.{marked_kind}
use Rattle.lif_compiler.specs.Decoders.{AreInverse, AreReadOff, IsReadOff}
use Rattle.lif_compiler.specs.Hops.{Routes}
use Rattle.lif_compiler.specs.ReadOff.{AreApart, AreReached}
use Rattle.lif_compiler.specs.Visits.{AreRoutes, IsVisited}
use Rattle.lif_compiler.specs.declared.partial_code.PartialCode.{PartialCode}
use Rattle.lif_compiler.proofs.BasesLaws.{LawsOf, frontier_in-at, inverses_in-at, vectors_in-at}
use Rattle.lif_compiler.proofs.FinalLaws.{AreInverse-numbers, IsAccepted-final, IsCode-final, apart, length-frontier, reached}

module _ {X : Type 0} {F : FieldWords X} {E : EqualityWords X} {net : Net} {routes : Routes} {code : PartialCode X F E}
    (are : AreRoutes net code.rate routes) (whole : length code.operands.items ≡ length net.links) (is : IsVisited net routes code) where
  -- each frontier has a place for each path
  pub widths-bases : All (HasWidth code.rate) code.bases.items
  widths-bases demand basis within = ap length (sym (frontier_in-at code.bases.items demand basis within)) ∙ length-frontier are whole is demand (omega (arith, is.each_basis))

  -- each path has a frontier link
  pub reached-bases : All (λ basis. AreReached basis.frontier) code.bases.items
  reached-bases demand basis within = subst AreReached (frontier_in-at code.bases.items demand basis within) (reached are whole is demand (omega (arith, is.each_basis)))

  -- no two paths of a demand have the same
  pub apart-bases : All (λ basis. AreApart basis.frontier) code.bases.items
  apart-bases demand basis within = subst AreApart (frontier_in-at code.bases.items demand basis within) (apart are whole is demand (omega (arith, is.each_basis)))

  -- decoders that are read off the bases
  module _ (L : LawsOf F) (decoders : List Decoder) (read : AreReadOff code.bases.items decoders) where
    -- the inverse vectors of a demand
    abbrev inverses : ℕ → List (List ℕ)
    inverses demand = map (numbers F.number) (inverses_in code.bases.items demand).rows

    -- by demands
    read_off : (demand : ℕ) (decoder : Decoder) → demand < demand_count net → slice_get decoders demand ≡ Some decoder
        → IsReadOff F.SIZE code.rate (frontier_in code.bases.items demand) (inverses demand) decoder
    read_off demand decoder within at = elim (slice_get_cases code.bases.items demand).1 [
      | inl found ↦
          (let basis = found.0 in
          let here : get_or code.bases.items demand basis ≡ basis = get_or_from_slice_get code.bases.items demand basis basis found.2 in
          let frontier : frontier_in code.bases.items demand ≡ basis.frontier = frontier_in-at code.bases.items demand basis found.1 ∙ ap (λ (one : Basis X F E). one.frontier) here in
          let grid : inverses_in code.bases.items demand ≡ basis.inverses = inverses_in-at code.bases.items demand basis found.1 ∙ ap (λ (one : Basis X F E). one.inverses) here in
          let width : length basis.frontier ≡ code.rate = ap length (sym frontier) ∙ length-frontier are whole is demand within in
          let Read : ℕ → List (Option ℕ) → Grid X → Type 0 = λ width frontier grid. IsReadOff F.SIZE width frontier (map (numbers F.number) grid.rows) decoder in
          subst (λ width. Read width (frontier_in code.bases.items demand) (inverses_in code.bases.items demand)) width
          (subst (λ frontier. Read (length basis.frontier) frontier (inverses_in code.bases.items demand)) (sym frontier)
          (subst (Read (length basis.frontier) basis.frontier) (sym grid) (read demand basis decoder found.2 at))))
      | inr past ↦ absurd (omega (arith, past.0, is.each_basis))
    ]

    -- they make a code
    pub IsCode-made : length decoders ≡ length code.bases.items → IsCode net code.rate (marked_kind F.MARK) code.operands.items decoders
    IsCode-made count = IsCode-final are whole is inverses decoders read_off L.of_kind.size (count ∙ is.each_basis)

    -- and an accepted one
    pub IsAccepted-made : All HasMatrices code.bases.items
        → (made : Code) → made.net ≡ net → made.rate ≡ code.rate → made.field ≡ marked_kind F.MARK → made.operands ≡ code.operands.items → made.decoders ≡ decoders → IsAccepted made
    IsAccepted-made matrices = IsAccepted-final are whole is inverses decoders read_off (λ demand within. elim (slice_get_cases code.bases.items demand).1 [
      | inl found ↦
          (let basis = found.0 in
          let one : Basis X F E = get_or code.bases.items demand basis in
          let vectors : vectors_in code.bases.items demand ≡ one.vectors = vectors_in-at code.bases.items demand basis found.1 in
          let grid : inverses_in code.bases.items demand ≡ one.inverses = inverses_in-at code.bases.items demand basis found.1 in
          let Inverse : ℕ → Grid X → Grid X → Type 0 = λ width first second. AreInverse (marked_kind F.MARK) width (map (numbers F.number) first.rows) (map (numbers F.number) second.rows) in
          subst (λ width. Inverse width (vectors_in code.bases.items demand) (inverses_in code.bases.items demand)) (widths-bases demand basis found.1)
          (subst (λ first. Inverse (length one.frontier) first (inverses_in code.bases.items demand)) (sym vectors)
          (subst (Inverse (length one.frontier) one.vectors) (sym grid) (AreInverse-numbers L one (matrices demand basis found.1)))))
      | inr past ↦ absurd (omega (arith, past.0, is.each_basis))
    ])
