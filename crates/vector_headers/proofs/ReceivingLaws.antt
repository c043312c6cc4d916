-- What live links bring of a block is admitted by the block.
use Rattle.std.specs.Prelude.{◌≡◌, ◌<◌, ◌+◌, ◌*◌, ◌∷◌, ◌++◌, ◌&&◌, ◌==◌, ℕ, suc, Bool, true, false, cond, filter, Option, Some, None, IsSome, List, [], get_or, length, map, reverse, take, drop}
use Rattle.std.specs.List.{All, AllByRecursion, range_with_len}
use Rattle.std.proofs.Common.{arith, refl, sym, ap, subst, ◌∙◌}
use Rattle.std.proofs.lemmas.Bool.{and_parts}
use Rattle.std.proofs.lemmas.List.{append-nil, reverse-append, take_more}
use Rattle.std.proofs.lemmas.List.Elements.{All-filter, filter_passes}
use Rattle.std.proofs.lemmas.List.FromFn.{get_or-range_with_len, length-range_with_len}
use Rattle.item_list.proofs.Ranges.{filter-range_more}
use Rattle.coded_traffic.proofs.BlockLaws.{AreRows-block_elements, IsBlock-block_elements, width_of-block_elements}
use Rattle.coded_traffic.proofs.PieceLaws.{elements_in, elements_in-combination, elements_of-piece, elements_of-piece_of_row}
use Rattle.coded_traffic.proofs.RowLaws.{length-row_of, row_lies_within, row_of-bytes}
use Rattle.coded_traffic.specs.CodeBlocks.{block_elements, IsBlockOf, row_width}
use Rattle.coded_traffic.specs.Traffic.{payload_where, piece_width}
use Rattle.generation_frame.specs.Blocks.{row_bytes}
use Rattle.generation_frame.specs.declared.frame.Packet.{Packet}
use Rattle.gf_tables.specs.declared.kind.FieldKind.{FieldKind}
use Rattle.linear_algebra.proofs.EntryLaws.{get_or-rows_of}
use Rattle.linear_algebra.proofs.MatrixLaws.{length-rows_of}
use Rattle.linear_algebra.specs.Elements.{elements_of}
use Rattle.linear_algebra.specs.Matrices.{rows_of}
use Rattle.linear_algebra.specs.Rows.{combination}
use Rattle.node_program.proofs.VectorLaws.{value-vector}
use Rattle.net_model.specs.Walks.{head_of}
use Rattle.node_program.specs.Value.{global_vector, is_live, value}
use Rattle.node_program.specs.declared.code.Code.{Code}
use Rattle.row_spans.proofs.SumLaws.{all_by_places}
use Rattle.vector_headers.proofs.GivenLaws.{piece_rows}
use Rattle.vector_headers.proofs.RankLaws.{IsKept-accepted}
use Rattle.vector_headers.specs.Fabric.{Carried, Carrying, packet_at, vector_at}
use Rattle.vector_headers.specs.Ranks.{AreAccepted, IsAccepted}
use Rattle.vector_headers.specs.Receiving.{IsLiveLink, IsReceived, ins_where, rank_over, rows_carried, vectors_over}
use Rattle.vector_headers.specs.Rows.{AdmitTheSame, Admits, CodedRow, Holding, IsAdmitted, IsBlockRow, IsPieceOfBlock, IsWhole, piece_of_block, row_of_bytes, rows_of_piece}
use Rattle.vector_headers.specs.declared.blind.Gain.{Gain}
use Rattle.vector_headers.specs.declared.blind.Gain.TheVariants.{Raised, Same}

-- a piece of the elements of rows
piece_elements : (field : FieldKind) (piece : ℕ) (rows : List (List ℕ))
    → map (take (piece_width field)) (map (drop (piece * piece_width field)) (map (elements_of field) rows)) ≡ piece_of_block field rows piece
piece_elements field piece [] = refl
piece_elements field piece (row ∷ rows) = rw (elements_of-piece field piece row, piece_elements field piece rows) refl

module _ (code : Code) (block : List ℕ) (is : IsBlockOf code block) where
  -- the rows of a block
  pub block_rows : AllByRecursion IsBlockRow (rows_of code.rate row_bytes block)
  block_rows =
      all_by_places IsBlockRow (rows_of code.rate row_bytes block) (λ i inside.
      let below : i < code.rate = omega (arith, inside, length-rows_of code.rate row_bytes block) in
      let within = row_lies_within block code.rate i is.size below in
      subst IsBlockRow (sym (get_or-rows_of code.rate row_bytes i block below))
      (record { count = length-row_of block i within; bytes = row_of-bytes block i is.bytes }))

  module _ (failed : List ℕ) (piece : ℕ) (low : piece < 8) where
    -- what a block has of a piece
    pub piece_is : IsPieceOfBlock code.field code.rate (piece_of_block code.field (rows_of code.rate row_bytes block) piece)
    piece_is = record {
      count = length-pieces (rows_of code.rate row_bytes block) ∙ length-rows_of code.rate row_bytes block;
      rows = piece_rows code.field piece low (rows_of code.rate row_bytes block) block_rows;
    }
      where
        length-pieces : (rows : List (List ℕ)) → length (piece_of_block code.field rows piece) ≡ length rows
        length-pieces [] = refl
        length-pieces (row ∷ rows) = ap suc (length-pieces rows)

    -- the row that a link brings is admitted by the block
    pub Admits-link : (link : ℕ)
        → Admits code.field (piece_of_block code.field (rows_of code.rate row_bytes block) piece)
        (row_of_bytes code.field (global_vector code.net code.field code.operands failed code.rate link) (payload_where code failed block piece link))
    Admits-link link =
        let field = code.field in
        let vector = global_vector code.net field code.operands failed code.rate link in
        let carried = value code.net field code.operands failed (block_elements code block) link in
        let sum : carried ≡ combination field (row_width field) vector (block_elements code block) =
        value-vector code.code.draft (IsBlock-block_elements code block is) failed link
        ∙ ap (λ (n : ℕ). combination field n vector (block_elements code block)) (width_of-block_elements code block is)
        in
        sym (elements_of-piece_of_row field piece carried
        ∙ ap (elements_in field piece) sum
        ∙ elements_in-combination field piece vector (block_elements code block) low (AreRows-block_elements code block is)
        ∙ ap (combination field (piece_width field) vector) (piece_elements field piece (rows_of code.rate row_bytes block)))

-- a row came to rows that a block admits
admits_more : (field : FieldKind) (rate : ℕ) (block : List (List ℕ)) (old new : List CodedRow) (row : CodedRow) (gain : Gain) → IsPieceOfBlock field rate block
    → AllByRecursion (Admits field block) old → Admits field block row → (gain ≡ Same → new ≡ old) → (gain ≡ Raised → AdmitTheSame field rate new (row ∷ old))
    → AllByRecursion (Admits field block) new
admits_more field rate block old new row Raised is each here same admits = (admits refl block is).1 (here, each)
admits_more field rate block old new row Same is each here same admits =
    let All : List CodedRow → Type 0 = AllByRecursion (Admits field block) in
    subst All (sym (same refl)) each

module _ (code : Code) (failed : List ℕ) (one : Carried) where
  -- nothing is received where nothing is kept
  pub IsReceived-none : (piece : ℕ) (holding : Holding) → rows_of_piece holding piece ≡ [] → IsReceived code failed one [] piece holding
  IsReceived-none piece holding none = record {
    accepted = none;
    admits = rw none tt;
  }

  -- what was received of a piece, where its rows stay
  pub IsReceived-same : (links : List ℕ) (piece : ℕ) (old new : Holding) → rows_of_piece new piece ≡ rows_of_piece old piece → IsReceived code failed one links piece old
      → IsReceived code failed one links piece new
  IsReceived-same links piece old new same is = record {
    accepted = rw same is.accepted;
    admits = rw same is.admits;
  }

  -- a link brought a piece
  pub IsReceived-more : IsBlockOf code one.block → (links : List ℕ) (link piece : ℕ) (old new : Holding) (gain : Gain) → piece < 8
      → IsAccepted code.field code.rate (rows_of_piece old piece) (rows_of_piece new piece) (global_vector code.net code.field code.operands failed code.rate link) gain
      → (gain ≡ Raised → AdmitTheSame code.field code.rate (rows_of_piece new piece)
      (row_of_bytes code.field (global_vector code.net code.field code.operands failed code.rate link) (payload_where code failed one.block piece link) ∷ rows_of_piece old piece))
      → IsReceived code failed one links piece old → IsReceived code failed one (link ∷ links) piece new
  IsReceived-more block links link piece old new gain low accepted admits is = record {
    accepted = (rows_of_piece old piece, gain, is.accepted, accepted);
    admits = admits_more code.field code.rate (piece_of_block code.field (rows_carried code one) piece) (rows_of_piece old piece) (rows_of_piece new piece)
        (row_of_bytes code.field (global_vector code.net code.field code.operands failed code.rate link) (payload_where code failed one.block piece link)) gain
        (piece_is code one.block block failed piece low) is.admits (Admits-link code one.block block failed piece low link) accepted.same admits;
  }

  -- links of full rank brought all pieces
  pub IsWhole-received : (ins : List ℕ) (holding : Holding) → holding.rate ≡ code.rate → rank_over code failed ins ≡ code.rate
      → ((piece : ℕ) → piece < 8 → IsReceived code failed one (reverse ins) piece holding) → IsWhole holding
  IsWhole-received ins holding rate full are piece low =
      (IsKept-accepted code.field code.rate (vectors_over code failed (reverse ins)) (rows_of_piece holding piece) (are piece low).accepted).count ∙ full ∙ sym rate

  -- the block admits all that is kept
  pub IsAdmitted-received : IsBlockOf code one.block → (links : List ℕ) (holding : Holding) → holding.field ≡ code.field → holding.rate ≡ code.rate
      → ((piece : ℕ) → piece < 8 → IsReceived code failed one links piece holding) → IsAdmitted holding (rows_carried code one)
  IsAdmitted-received block links holding field rate are = record {
    count = length-rows_of code.rate row_bytes one.block ∙ sym rate;
    rows = block_rows code one.block block;
    admitted = λ piece low.
        let P : FieldKind → Type 0 = λ f. AllByRecursion (Admits f (piece_of_block f (rows_carried code one) piece)) (rows_of_piece holding piece) in
        subst P (sym field) (are piece low).admits;
  }

-- rank zero is that of no links, so links of full rank are some
pub some_links : (code : Code) (failed ins : List ℕ) → rank_over code failed ins ≡ code.rate → 0 < length ins
some_links code failed [] full = let some = code.code.draft.some_rate in absurd (omega arith)
some_links code failed (link ∷ ins) full = omega arith

-- one link more, the last one first
pub reverse-more : (ins : List ℕ) (i : ℕ) → i < length ins → reverse (take (i + 1) ins) ≡ get_or ins i 0 ∷ reverse (take i ins)
reverse-more ins i below = ap reverse (take_more ins i 0 below) ∙ reverse-append (take i ins) (get_or ins i 0 ∷ [])

-- what was carried, where something was
pub some_carried : (carried : Option Carried) → IsSome carried → (one : Carried) × (carried ≡ Some one)
some_carried None is = let wrong : false ≡ true = is in absurd (cc)
some_carried (Some one) is = (one, refl)

-- one more number passes a test
pub passes_more : (test : ℕ → Bool) (number : ℕ) (passed : List ℕ) → test number ≡ true → passed ≡ filter test (range_with_len 0 number) → passed ++ number ∷ [] ≡ filter test (range_with_len 0 (number + 1))
passes_more test number passed passes are =
    ap (λ (some : List ℕ). some ++ number ∷ []) are ∙ ap (λ (b : Bool). filter test (range_with_len 0 number) ++ cond b (number ∷ []) []) (sym passes) ∙ sym (filter-range_more test number)

-- or doesn't
pub fails_more : (test : ℕ → Bool) (number : ℕ) (passed : List ℕ) → test number ≡ false → passed ≡ filter test (range_with_len 0 number) → passed ≡ filter test (range_with_len 0 (number + 1))
fails_more test number passed fails are =
    are ∙ sym (append-nil (filter test (range_with_len 0 number))) ∙ ap (λ (b : Bool). filter test (range_with_len 0 number) ++ cond b (number ∷ []) []) (sym fails) ∙ sym (filter-range_more test number)

-- live links into a node are live links
pub AreLiveLinks-into : (code : Code) (failed : List ℕ) (node : ℕ) → All (IsLiveLink code failed) (ins_where code failed node)
AreLiveLinks-into code failed node = λ k d below.
    let links = length code.net.links in
    let test : ℕ → Bool = λ link. is_live code.net code.operands failed link && (head_of code.net.links link == node) in
    let Low : ℕ → Type 0 = λ link. link < links in
    let lower : All Low (range_with_len 0 links) = λ i d inside.
    let low : i < links = omega (arith, inside, length-range_with_len 0 links) in
    subst Low (sym (get_or-range_with_len 0 links i d low)) (omega (arith, low))
    in
    record {
      within = All-filter test Low (range_with_len 0 links) lower k d below;
      live = (and_parts _ _ (filter_passes test (range_with_len 0 links) k d below)).0;
    }

module _ (fabric : Carrying) where
  -- the vector of a link was accepted
  pub AreAccepted-came : (links : List ℕ) (link piece : ℕ) (old new : Holding) (gain : Gain) (vector : List ℕ) → old.field ≡ fabric.code.field → old.rate ≡ fabric.code.rate → vector ≡ vector_at fabric link
      → IsAccepted old.field old.rate (rows_of_piece old piece) (rows_of_piece new piece) vector gain
      → AreAccepted fabric.code.field fabric.code.rate (vectors_over fabric.code fabric.failed links) (rows_of_piece old piece)
      → AreAccepted fabric.code.field fabric.code.rate (vectors_over fabric.code fabric.failed (link ∷ links)) (rows_of_piece new piece)
  AreAccepted-came links link piece old new gain vector field rate same accepted earlier =
      let Is : FieldKind → ℕ → List ℕ → Type 0 = λ f r v. IsAccepted f r (rows_of_piece old piece) (rows_of_piece new piece) v gain in
      let here = subst (Is fabric.code.field fabric.code.rate) same (subst (λ (r : ℕ). Is fabric.code.field r vector) rate (subst (λ (f : FieldKind). Is f old.rate vector) field accepted)) in
      (rows_of_piece old piece, gain, earlier, here)

  -- the packet of a link came with its vector
  pub IsReceived-came : (one : Carried) → IsBlockOf fabric.code one.block → (links : List ℕ) (link piece : ℕ) → piece < 8 → (old new : Holding) (gain : Gain) (packet : Packet) (vector : List ℕ)
      → old.field ≡ fabric.code.field → old.rate ≡ fabric.code.rate → packet ≡ packet_at fabric one link piece → vector ≡ vector_at fabric link
      → IsAccepted old.field old.rate (rows_of_piece old packet.piece) (rows_of_piece new packet.piece) vector gain
      → (gain ≡ Raised → AdmitTheSame old.field old.rate (rows_of_piece new packet.piece) (row_of_bytes old.field vector packet.payload ∷ rows_of_piece old packet.piece))
      → IsReceived fabric.code fabric.failed one links piece old → IsReceived fabric.code fabric.failed one (link ∷ links) piece new
  IsReceived-came one block links link piece low old new gain packet vector field rate came same accepted admits =
      let Is : FieldKind → ℕ → Packet → List ℕ → Type 0 = λ f r p v. IsAccepted f r (rows_of_piece old p.piece) (rows_of_piece new p.piece) v gain
      × (gain ≡ Raised → AdmitTheSame f r (rows_of_piece new p.piece) (row_of_bytes f v p.payload ∷ rows_of_piece old p.piece))
      in
      let first : Is old.field old.rate packet vector = (accepted, admits) in
      let here : Is fabric.code.field fabric.code.rate (packet_at fabric one link piece) (vector_at fabric link) =
      subst (Is fabric.code.field fabric.code.rate (packet_at fabric one link piece)) same
      (subst (λ (p : Packet). Is fabric.code.field fabric.code.rate p vector) came
      (subst (λ (r : ℕ). Is fabric.code.field r packet vector) rate (subst (λ (f : FieldKind). Is f old.rate packet vector) field first)))
      in
      IsReceived-more fabric.code fabric.failed one block links link piece old new gain low here.0 here.1
