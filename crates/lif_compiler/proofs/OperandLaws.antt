-- Laws of the operands that sources and coefficients make.
use Rattle.std.specs.Prelude.{◌≡◌, ◌≢◌, ◌<◌, ◌==◌, ℕ, zero, suc, Bool, true, false, List, [], ◌∷◌, ◌++◌, All, length, map, take, nat_lt, if◌then◌else◌}
use Rattle.std.specs.List.{list_all}
use Rattle.std.proofs.Common.{arith, refl, sym, ap, ◌∙◌, get_or}
use Rattle.std.proofs.lemmas.Bool.{and_parts, and_from, cond_both, eq-eqb, eqb-false, eqb-true, ne_eqb}
use Rattle.std.proofs.lemmas.List.Elements.{All-nil, All-cons, All-head, All-tail}
use Rattle.gf_tables.specs.declared.kind.FieldKind.{FieldKind}
use Rattle.linear_algebra.proofs.CombinationLaws.{length-combination}
use Rattle.linear_algebra.proofs.RowLaws.{scale_row-zero, zero_row-add_rows}
use Rattle.linear_algebra.specs.Rows.{AreRows, IsRow, add_rows, combination, scale_row, zero_row}
use Rattle.net_model.specs.Lists.{is_rising}
use Rattle.node_program.specs.declared.Operand.{Operand}
use Rattle.lif_compiler.specs.Operands.{operands_of}

-- an item in front, but for one that is left out
first_cond : {X : Type 0} (b : Bool) (x : X) (xs ys : List X) → (if b then xs ++ ys else x ∷ (xs ++ ys)) ≡ (if b then xs else x ∷ xs) ++ ys
first_cond true x xs ys = refl
first_cond false x xs ys = refl

-- the operand of a source with its coefficient, if that isn't zero
abbrev pub operand_of : ℕ → ℕ → List Operand
operand_of from times = if times == 0 then [] else record { from = from; times = times } ∷ []

pub operand_of-some : (from times : ℕ) → times ≢ 0 → operand_of from times ≡ record { from = from; times = times } ∷ []
operand_of-some from times nonzero = let no : (times == 0) ≡ false = ne_eqb times 0 nonzero in rw no refl

pub operand_of-none : (from times : ℕ) → times ≡ 0 → operand_of from times ≡ []
operand_of-none from times none = let yes : (times == 0) ≡ true = eq-eqb times 0 none in rw yes refl

-- the operands of one more source
pub operands_of-more : (sources times : List ℕ) (k : ℕ) → k < length sources → k < length times
    → operands_of (take (suc k) sources) (take (suc k) times) ≡ operands_of (take k sources) (take k times) ++ operand_of (get_or sources k 0) (get_or times k 0)
operands_of-more [] times k below within = absurd (omega arith)
operands_of-more (from ∷ sources) [] k below within = absurd (omega arith)
operands_of-more (from ∷ sources) (one ∷ times) zero below within = refl
operands_of-more (from ∷ sources) (one ∷ times) (suc k) below within =
    rw (operands_of-more sources times k (omega arith) (omega arith))
    (first_cond (one == 0) (record { from = from; times = one }) (operands_of (take k sources) (take k times)) (operand_of (get_or sources k 0) (get_or times k 0)))

-- what all sources are above, the operands come from above
froms_above : (x : ℕ) (sources times : List ℕ) → list_all (nat_lt x) sources ≡ true → list_all (nat_lt x) (map (λ (o : Operand). o.from) (operands_of sources times)) ≡ true
froms_above x [] times above = refl
froms_above x (from ∷ sources) [] above = refl
froms_above x (from ∷ sources) (one ∷ times) above =
    let parts = and_parts _ _ above in
    let rest = froms_above x sources times parts.1 in
    cond_both (one == 0) (operands_of sources times) (record { from = from; times = one } ∷ operands_of sources times)
    (λ operands. list_all (nat_lt x) (map (λ (o : Operand). o.from) operands) ≡ true) (λ _. rest) (λ _. and_from _ _ parts.0 rest)

-- the operands of rising sources come from rising ones
pub rising-operands_of : (sources times : List ℕ) → is_rising sources ≡ true → is_rising (map (λ (o : Operand). o.from) (operands_of sources times)) ≡ true
rising-operands_of [] times rising = refl
rising-operands_of (from ∷ sources) [] rising = refl
rising-operands_of (from ∷ sources) (one ∷ times) rising =
    let parts = and_parts _ _ rising in
    let rest = rising-operands_of sources times parts.1 in
    cond_both (one == 0) (operands_of sources times) (record { from = from; times = one } ∷ operands_of sources times)
    (λ operands. is_rising (map (λ (o : Operand). o.from) operands) ≡ true) (λ _. rest) (λ _. and_from _ _ (froms_above from sources times parts.0) rest)

-- what holds of all sources and of all coefficients holds of those of the operands, whose coefficients aren't zero
pub All-operands_of : (Q R : ℕ → Type 0) (sources times : List ℕ) → All Q sources → All R times → All (λ (o : Operand). Q o.from × R o.times × (0 < o.times)) (operands_of sources times)
All-operands_of Q R [] times froms coefficients = All-nil (λ (o : Operand). Q o.from × R o.times × (0 < o.times))
All-operands_of Q R (from ∷ sources) [] froms coefficients = All-nil (λ (o : Operand). Q o.from × R o.times × (0 < o.times))
All-operands_of Q R (from ∷ sources) (one ∷ times) froms coefficients =
    let P : Operand → Type 0 = λ o. Q o.from × R o.times × (0 < o.times) in
    let rest = All-operands_of Q R sources times (All-tail Q from sources froms) (All-tail R one times coefficients) in
    let first : Operand = record { from = from; times = one } in
    cond_both (one == 0) (operands_of sources times) (first ∷ operands_of sources times) (All P)
    (λ _. rest) (λ no. let nonzero = eqb-false one 0 no in All-cons P first (operands_of sources times) (All-head Q from sources froms, All-head R one times coefficients, omega arith) rest)

-- the rows of the sources
pub AreRows-map : (field : FieldKind) (width : ℕ) (row : ℕ → List ℕ) (sources : List ℕ) → All (λ s. IsRow field width (row s)) sources → AreRows field width (map row sources)
AreRows-map field width row [] rows = tt
AreRows-map field width row (from ∷ sources) rows =
    let Good : ℕ → Type 0 = λ s. IsRow field width (row s) in
    (All-head Good from sources rows, AreRows-map field width row sources (All-tail Good from sources rows))

-- the combination that operands make is that of all sources
pub combination-operands_of : (field : FieldKind) (width : ℕ) (row : ℕ → List ℕ) (sources times : List ℕ) → All (λ s. IsRow field width (row s)) sources
    → combination field width (map (λ (o : Operand). o.times) (operands_of sources times)) (map (λ (o : Operand). row o.from) (operands_of sources times))
    ≡ combination field width times (map row sources)
combination-operands_of field width row [] [] rows = refl
combination-operands_of field width row [] (one ∷ times) rows = refl
combination-operands_of field width row (from ∷ sources) [] rows = refl
combination-operands_of field width row (from ∷ sources) (one ∷ times) rows =
    let Good : ℕ → Type 0 = λ s. IsRow field width (row s) in
    let first = All-head Good from sources rows in
    let others = All-tail Good from sources rows in
    let rest = combination-operands_of field width row sources times others in
    let whole = combination field width times (map row sources) in
    let wide = length-combination field width times (map row sources) (AreRows-map field width row sources others) in
    cond_both (one == 0) (operands_of sources times) (record { from = from; times = one } ∷ operands_of sources times)
    (λ operands. combination field width (map (λ (o : Operand). o.times) operands) (map (λ (o : Operand). row o.from) operands) ≡ add_rows (scale_row field one (row from)) whole)
    (λ none.
    let nothing : scale_row field one (row from) ≡ zero_row (length whole) =
    ap (λ t. scale_row field t (row from)) (eqb-true one 0 none) ∙ scale_row-zero field (row from) ∙ ap zero_row (first.width ∙ sym wide) in
    rest ∙ sym (ap (λ scaled. add_rows scaled whole) nothing ∙ zero_row-add_rows whole))
    (λ _. ap (add_rows (scale_row field one (row from))) rest)
