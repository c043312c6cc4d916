-- Laws of what a fabric holds.
use Rattle.std.specs.Prelude.{◌≡◌, ℕ, ◌<◌, ◌≤◌, ◌+◌, ◌*◌, ◌-◌, Bool, Option, None, Some, List, [], ◌++◌, length, take, drop, slice_get, slice_index_or}
use Rattle.std.specs.List.{concat}
use Rattle.std.proofs.Common.{arith, sym, ap, subst, ◌∙◌, inl, inr}
use Rattle.std.proofs.lemmas.Bool.{cases_lt}
use Rattle.std.proofs.lemmas.List.{drop-append-le, drop-map, drop_at, length-append, length-drop, length-map, length-take-le, take-append-le, take-map, take_all, take_at}
use Rattle.gf_tables.specs.declared.kind.FieldKind.{FieldKind}
use Rattle.item_list.proofs.Places.{row_end}
use Rattle.linear_algebra.proofs.EntryLaws.{concat-rows_of}
use Rattle.linear_algebra.proofs.MatrixLaws.{length-rows_of}
use Rattle.linear_algebra.specs.Elements.{elements_of, numbers}
use Rattle.linear_algebra.specs.Matrices.{rows_of}
use Rattle.linear_algebra.specs.Rows.{zero_row}
use Rattle.net_model.specs.declared.net.Net.{Net}
use Rattle.node_program.proofs.VectorLaws.{IsRow-global_vector}
use Rattle.node_program.specs.Code.{IsDraft}
use Rattle.node_program.specs.LiveTable.{IsFailTable}
use Rattle.node_program.specs.Value.{global_vector, is_live}
use Rattle.node_program.specs.declared.Operand.{Operand}
use Rattle.node_program.specs.declared.code.Code.{Code}
use Rattle.field_rows.proofs.ElementLaws.{length-elements_in, room_in}
use Rattle.link_rows.specs.LinkRows.{AreLinkRows}
use Rattle.link_rows.specs.Vectors.{wide_width, AreVectorRows}
use Rattle.field_rows.specs.Widths.{rows_in}
use Rattle.generation_frame.specs.Blocks.{row_bytes}
use Rattle.coded_traffic.specs.CodeBlocks.{block_elements, IsBlockOf}
use Rattle.vector_headers.specs.Fabric.{AreVectorElements, Carried, IsFabric}

-- so many parts of one width, each the front of a row
pub record AreParts (width parts : ℕ) (row : ℕ → List ℕ) (all : List ℕ) : Type 0 where
  pub count : length all ≡ parts * width
  pub part : (e : ℕ) → e < parts → take width (drop (e * width) all) ≡ take width (row e)

-- one part more
pub AreParts-more : (width parts : ℕ) (row : ℕ → List ℕ) (all more : List ℕ) → width ≤ length (row parts) → AreParts width parts row all
    → more ≡ all ++ take width (row parts) → AreParts width (parts + 1) row more
AreParts-more width parts row all more room are made =
    let new = take width (row parts) in
    let long : length new ≡ width = length-take-le width (row parts) room in
    let Are : List ℕ → Type 0 = AreParts width (parts + 1) row in
    subst Are (sym made) (record {
      count = length-append all new ∙ omega (arith, are.count, long);
      part = λ e below. elim (cases_lt e parts) [
        | inl earlier ↦
            let fits = row_end e parts width earlier in
            let left : width ≤ length (drop (e * width) all) = omega (arith, length-drop (e * width) all, fits, are.count) in
            ap (take width) (drop-append-le (e * width) all new (omega (arith, fits, are.count)))
            ∙ take-append-le width (drop (e * width) all) new left ∙ are.part e earlier
        | inr last ↦
            let this : parts ≡ e = omega (arith, below, last) in
            let At : ℕ → Type 0 = λ n. take width (drop (n * width) (all ++ new)) ≡ take width (row n) in
            subst At this (ap (take width) (drop_at all new (parts * width) are.count) ∙ take_all width new (omega (arith, long)))
      ];
    })

-- rows of 64 bytes have room for as many elements as a rate
pub wide_enough : (field : FieldKind) (rate : ℕ) (row : List ℕ) → rate ≤ 32 → length row ≡ 64 → rate ≤ length (elements_of field row)
wide_enough field rate row low long =
    omega (arith, length-elements_in field 64 row (omega arith) long, room_in field 64 rate (omega arith) low)

-- the fronts of the rows that links' vectors are, with zeros behind them, are the vectors
pub AreVectorElements-parts : {F : Type 0} (number : F → ℕ) {net : Net} {rate : ℕ} {field : FieldKind} {operands : List (List Operand)} → IsDraft net rate field operands
    → (links : ℕ) (wide : List (List ℕ)) (elements : List F) → AreParts rate links (λ e. elements_of field (slice_index_or wide e [])) (numbers number elements)
    → (failed : List ℕ) → AreVectorRows net field operands failed rate links wide
    → AreVectorElements number net field operands failed rate links elements
AreVectorElements-parts number {net} {rate} {field} {operands} draft links wide elements are failed rows =
    record {
      count = sym (length-map elements number) ∙ are.count;
      vector = λ e below.
          let vector = global_vector net field operands failed rate e in
          sym (take-map number rate (drop (e * rate) elements))
          ∙ ap (take rate) (sym (drop-map number (e * rate) elements))
          ∙ are.part e below
          ∙ ap (take rate) (rows.vector e below)
          ∙ take_at vector (zero_row (wide_width field - length vector)) rate (IsRow-global_vector draft failed e).width;
    }

-- the rows of a block are its bytes, one after another
pub concat-rows : (rate : ℕ) (bytes : List ℕ) (block : List (List ℕ)) → length bytes ≡ rate * row_bytes → block ≡ rows_of rate row_bytes bytes → concat block ≡ bytes
concat-rows rate bytes block size copied = ap (λ (rows : List (List ℕ)). concat rows) copied ∙ concat-rows_of rate row_bytes bytes size

-- parts of a coding, which are those of a code
module _ {F : Type 0} (number : F → ℕ) (code : Code) (net : Net) (rate : ℕ) (field : FieldKind) (operands : List (List Operand))
    (same_net : net ≡ code.net) (same_rate : rate ≡ code.rate) (same_field : field ≡ code.field) (same_operands : operands ≡ code.operands)
    (failed : List ℕ) (fails : List Bool) (table : IsFailTable failed (length code.net.links) fails) where
  -- which links are live
  live_of_code : (marks live : List Bool) → marks ≡ fails
      → ((listed : List ℕ) → IsFailTable listed (length net.links) marks → (e : ℕ) → e < length net.links → slice_get live e ≡ Some (is_live net operands listed e))
      → (e : ℕ) → e < length code.net.links → slice_get live e ≡ Some (is_live code.net code.operands failed e)
  live_of_code marks live same are =
      let At : Net → List (List Operand) → List Bool → Type 0 = λ n o m. (listed : List ℕ) → IsFailTable listed (length n.links) m → (e : ℕ) → e < length n.links
      → slice_get live e ≡ Some (is_live n o listed e) in
      let first : At code.net operands marks = subst (λ n. At n operands marks) same_net are in
      let second : At code.net code.operands marks = subst (λ o. At code.net o marks) same_operands first in
      subst (At code.net code.operands) same second failed table

  -- the vectors
  vectors_of_code : (marks : List Bool) (vectors : List F) → marks ≡ fails
      → ((listed : List ℕ) → IsFailTable listed (length net.links) marks → AreVectorElements number net field operands listed rate (length net.links) vectors)
      → AreVectorElements number code.net code.field code.operands failed code.rate (length code.net.links) vectors
  vectors_of_code marks vectors same are =
      let At : Net → FieldKind → List (List Operand) → ℕ → List Bool → Type 0 = λ n f o r m. (listed : List ℕ) → IsFailTable listed (length n.links) m
      → AreVectorElements number n f o listed r (length n.links) vectors in
      let first : At code.net field operands rate marks = subst (λ n. At n field operands rate marks) same_net are in
      let second : At code.net code.field operands rate marks = subst (λ f. At code.net f operands rate marks) same_field first in
      let third : At code.net code.field code.operands rate marks = subst (λ o. At code.net code.field o rate marks) same_operands second in
      let fourth : At code.net code.field code.operands code.rate marks = subst (λ r. At code.net code.field code.operands r marks) same_rate third in
      subst (At code.net code.field code.operands code.rate) same fourth failed table

  -- the rows
  rows_of_code : (marks : List Bool) (block rows : List (List ℕ)) → marks ≡ fails
      → ((listed : List ℕ) → IsFailTable listed (length net.links) marks → AreLinkRows net field operands listed (rows_in field block) (length net.links) rows)
      → AreLinkRows code.net code.field code.operands failed (rows_in code.field block) (length code.net.links) rows
  rows_of_code marks block rows same are =
      let At : Net → FieldKind → List (List Operand) → List Bool → Type 0 = λ n f o m. (listed : List ℕ) → IsFailTable listed (length n.links) m
      → AreLinkRows n f o listed (rows_in f block) (length n.links) rows in
      let first : At code.net field operands marks = subst (λ n. At n field operands marks) same_net are in
      let second : At code.net code.field operands marks = subst (λ f. At code.net f operands marks) same_field first in
      let third : At code.net code.field code.operands marks = subst (λ o. At code.net code.field o marks) same_operands second in
      subst (At code.net code.field code.operands) same third failed table

  -- a fabric by which nothing was carried
  pub opened-IsFabric : (copied : List ℕ) (of_vectors of_live of_rows live : List Bool) (vectors : List F) (block given rows : List (List ℕ)) → copied ≡ failed
      → length fails ≡ length code.net.links → of_vectors ≡ fails → of_live ≡ fails → of_rows ≡ fails
      → length live ≡ length net.links
      → ((listed : List ℕ) → IsFailTable listed (length net.links) of_live → (e : ℕ) → e < length net.links → slice_get live e ≡ Some (is_live net operands listed e))
      → ((listed : List ℕ) → IsFailTable listed (length net.links) of_vectors → AreVectorElements number net field operands listed rate (length net.links) vectors)
      → length block ≡ code.rate
      → ((listed : List ℕ) → IsFailTable listed (length net.links) of_rows → AreLinkRows net field operands listed (rows_in field given) (length net.links) rows)
      → IsFabric number (record { code = code; failed = copied; carried = None }) fails live vectors block rows
  opened-IsFabric copied of_vectors of_live of_rows live vectors block given rows same count vectors_marks live_marks rows_marks many are_live are_vectors high are_rows =
      let Is : List ℕ → Type 0 = λ listed. IsFabric number (record { code = code; failed = listed; carried = None }) fails live vectors block rows in
      subst Is (sym same) (record {
        fail_count = count;
        fail_table = table;
        live_count = many ∙ ap (λ (n : Net). length n.links) same_net;
        live_table = live_of_code of_live live live_marks are_live;
        vector_elements = vectors_of_code of_vectors vectors vectors_marks are_vectors;
        block_count = high;
        row_count = (rows_of_code of_rows given rows rows_marks are_rows).count;
        link_rows = λ one is. absurd (cc);
        whole_block = λ one is. absurd (cc);
      })

  -- a fabric by which a block was carried
  pub carried-IsFabric : (before : Option Carried) (live : List Bool) (vectors : List F) (old_block old_rows : List (List ℕ))
      → IsFabric number (record { code = code; failed = failed; carried = before }) fails live vectors old_block old_rows
      → (generation : ℕ) (bytes : List ℕ) (marks : List Bool) (block given rows : List (List ℕ)) → IsBlockOf code bytes → block ≡ rows_of code.rate row_bytes bytes
      → marks ≡ fails → given ≡ block
      → ((listed : List ℕ) → IsFailTable listed (length net.links) marks → AreLinkRows net field operands listed (rows_in field given) (length net.links) rows)
      → IsFabric number (record { code = code; failed = failed; carried = Some (record { generation = generation; block = concat block }) }) fails live vectors block rows
  carried-IsFabric before live vectors old_block old_rows is generation bytes marks block given rows whole copied marked same are =
      let Made : List (List ℕ) → Type 0 = λ rows_now. AreLinkRows code.net code.field code.operands failed (rows_in code.field rows_now) (length code.net.links) rows in
      let made : AreLinkRows code.net code.field code.operands failed (block_elements code bytes) (length code.net.links) rows =
      subst Made (same ∙ copied) (rows_of_code marks given rows marked are) in
      let Of : List ℕ → Type 0 = λ whole. AreLinkRows code.net code.field code.operands failed (block_elements code whole) (length code.net.links) rows in
      let of_block : Of (concat block) = subst Of (sym (concat-rows code.rate bytes block whole.size copied)) made in
      let whole_now : IsBlockOf code (concat block) = subst (IsBlockOf code) (sym (concat-rows code.rate bytes block whole.size copied)) whole in
      record {
        fail_count = is.fail_count;
        fail_table = is.fail_table;
        live_count = is.live_count;
        live_table = is.live_table;
        vector_elements = is.vector_elements;
        block_count = ap (length {A = List ℕ}) copied ∙ length-rows_of code.rate row_bytes bytes;
        row_count = made.count;
        link_rows = λ one found.
            let now : Carried = record { generation = generation; block = concat block } in
            let there : now ≡ one = cc in
            subst Of (ap (λ (c : Carried). c.block) there) of_block;
        whole_block = λ one found.
            let now : Carried = record { generation = generation; block = concat block } in
            let there : now ≡ one = cc in
            subst (IsBlockOf code) (ap (λ (c : Carried). c.block) there) whole_now;
      }
