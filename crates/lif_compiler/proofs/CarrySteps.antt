-- Steps of the vectors of a link under all patterns.
use Rattle.std.specs.Prelude.{◌≡◌, ◌≢◌, ◌<◌, ◌≤◌, ◌+◌, ℕ, All, Bool, List, [], length, slice_index_or, slice_set}
use Rattle.std.proofs.Common.{refl, sym, ◌∙◌, arith, inl, inr, subst}
use Rattle.std.proofs.lemmas.Bool.{cases_eq}
use Rattle.std.proofs.lemmas.List.{get_or_default, get_or-set_other, get_or-set_same, length-set}
use Rattle.field_vectors.specs.Grid.{Grid}
use Rattle.gf_tables.specs.declared.kind.FieldKind.{FieldKind}
use Rattle.net_model.specs.Failed.{is_failed_in}
use Rattle.net_model.specs.declared.net.Net.{Net}
use Rattle.node_program.specs.Value.{leaves_source}
use Rattle.node_program.specs.declared.Operand.{Operand}
use Rattle.lif_compiler.specs.Steps.{AreCarried, AreCarriedTo, IsCarriedUnless}
use Rattle.lif_compiler.specs.Tables.{AreOfShape, grid_at}

-- the matrices from a place on are as they were
pub record HasShape {A : Type 0} (count : ℕ) (old new : List (Grid A)) : Type 0 where
  pub same_count : length new ≡ length old
  pub behind : (pattern : ℕ) → count ≤ pattern → grid_at new pattern ≡ grid_at old pattern

-- at first all are
pub shape_first : {A : Type 0} (old : List (Grid A)) → HasShape 0 old old
shape_first old = record { same_count = refl; behind = λ pattern from. refl }

-- what held of all matrices holds of the one that is next
pub held_next : {A : Type 0} (P : Grid A → Type 0) (count : ℕ) (old now : List (Grid A)) (m : Grid A) → HasShape count old now → count < length now → All P old → P (slice_index_or now count m)
held_next {A} P count old now m so_far within held =
    let none : Grid A = record { columns = 0; rows = [] } in
    subst P (sym (get_or_default now count m none within ∙ so_far.behind count (omega arith))) (held count none (omega (arith, so_far.same_count)))

-- its shape
pub shape_next : {A : Type 0} (count rows columns : ℕ) (old now : List (Grid A)) (m : Grid A) → HasShape count old now → count < length now → AreOfShape rows columns old
    → (length (slice_index_or now count m).rows ≡ rows) × ((slice_index_or now count m).columns ≡ columns)
shape_next {A} count rows columns old now m so_far within shape = held_next (λ (m : Grid A). (length m.rows ≡ rows) × (m.columns ≡ columns)) count old now m so_far within shape

-- one more may be another
pub shape_more : {A : Type 0} (count : ℕ) (old new : List (Grid A)) (m : Grid A) → HasShape count old new → HasShape (count + 1) old (slice_set new count m)
shape_more count old new m so_far = record {
  same_count = length-set new count m ∙ so_far.same_count;
  behind = λ pattern from. get_or-set_other new count pattern m (record { columns = 0; rows = [] }) (λ same. absurd (omega arith)) ∙ so_far.behind pattern (omega arith);
}

-- what holds of the first matrices holds of one more
pub kept_more : {A : Type 0} (P : Grid A → Type 0) (count : ℕ) (new : List (Grid A)) (m : Grid A) → count < length new → P m → ((k : ℕ) (none : Grid A) → k < count → P (slice_index_or new k none))
    → (k : ℕ) (none : Grid A) → k < count + 1 → P (slice_index_or (slice_set new count m) k none)
kept_more {A} P count new m within kept so_far k none below = elim (cases_eq k count) [
  | inl same ↦ (let At : ℕ → Type 0 = λ k. P (slice_index_or (slice_set new count m) k none) in subst At (sym same) (subst P (sym (get_or-set_same new count m none within)) kept))
  | inr apart ↦ subst P (sym (get_or-set_other new count k m none apart)) (so_far k none (omega arith))
]

module _ {A : Type 0} (field : FieldKind) (number : A → ℕ) (operands : List Operand) (link : ℕ) where
  -- the same, by equal tests and matrices
  pub carried_same : (failed failed' leaves leaves' : Bool) (old old' new : Grid A) → failed ≡ failed' → leaves ≡ leaves' → old ≡ old' → IsCarriedUnless failed field number leaves operands link old new
      → IsCarriedUnless failed' field number leaves' operands link old' new
  carried_same failed failed' leaves leaves' old old' new f l o is =
      subst (λ (failed : Bool). IsCarriedUnless failed field number leaves' operands link old' new) f
      (subst (λ (leaves : Bool). IsCarriedUnless failed field number leaves operands link old' new) l (subst (λ (old : Grid A). IsCarriedUnless failed field number leaves operands link old new) o is))

  -- at first none is made
  pub carried_first : (net : Net) (old : List (Grid A)) → AreCarriedTo field number net link operands 0 old old
  carried_first net old = record { each_pattern = refl; made = λ pattern below inside. absurd (omega arith); others = λ pattern from. refl }

  -- one more matrix is made
  pub carried_more : (net : Net) (count : ℕ) (old new : List (Grid A)) (m : Grid A) → count < length old → AreCarriedTo field number net link operands count old new
      → IsCarriedUnless (is_failed_in net.patterns count link) field number (leaves_source net link) operands link (grid_at new count) m
      → AreCarriedTo field number net link operands (count + 1) old (slice_set new count m)
  carried_more net count old new m within so_far made =
      let none : Grid A = record { columns = 0; rows = [] } in
      let at : grid_at (slice_set new count m) count ≡ m = get_or-set_same new count m none (omega (arith, so_far.each_pattern)) in
      let elsewhere : (pattern : ℕ) → pattern ≢ count → grid_at (slice_set new count m) pattern ≡ grid_at new pattern = λ pattern apart. get_or-set_other new count pattern m none apart in
      record {
        each_pattern = length-set new count m ∙ so_far.each_pattern;
        made = λ pattern below inside. elim (cases_eq pattern count) [
          | inl same ↦
              (let Made : ℕ → Type 0 = λ pattern. IsCarriedUnless (is_failed_in net.patterns pattern link) field number (leaves_source net link) operands link (grid_at old pattern) (grid_at (slice_set new count m) pattern) in
              let Here : Grid A → Grid A → Type 0 = IsCarriedUnless (is_failed_in net.patterns count link) field number (leaves_source net link) operands link in
              subst Made (sym same) (subst (λ before. Here before (grid_at (slice_set new count m) count)) (so_far.others count (omega arith)) (subst (Here (grid_at new count)) (sym at) made)))
          | inr apart ↦
              (let Here : Grid A → Type 0 = IsCarriedUnless (is_failed_in net.patterns pattern link) field number (leaves_source net link) operands link (grid_at old pattern) in
              subst Here (sym (elsewhere pattern apart)) (so_far.made pattern (omega arith) inside))
        ];
        others = λ pattern from. elsewhere pattern (λ same. absurd (omega arith)) ∙ so_far.others pattern (omega arith);
      }

-- the same, by equal links, operands and matrices
pub carried_at : {A : Type 0} {field : FieldKind} {number : A → ℕ} {net : Net} {link link' : ℕ} {operands operands' : List Operand} {old old' new : List (Grid A)} → link ≡ link' → operands ≡ operands' → old ≡ old'
    → AreCarried field number net link operands old new → AreCarried field number net link' operands' old' new
carried_at {A} {field} {number} {net} {link} {link'} {operands} {operands'} {old} {old'} {new} l o v is =
    subst (λ link. AreCarried field number net link operands' old' new) l
    (subst (λ operands. AreCarried field number net link operands old' new) o (subst (λ old. AreCarried field number net link operands old new) v is))
