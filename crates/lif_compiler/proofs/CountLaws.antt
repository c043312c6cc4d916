-- Laws of the steps that the parts of a visit count exactly: the products of a table, the vectors under all patterns, and the
-- bases of the hops.
use Rattle.std.specs.Prelude.{◌≡◌, ◌≢◌, ◌<◌, ◌≤◌, ◌+◌, ◌*◌, ℕ, Bool, true, false, not, cond, List, count_by, if◌then◌else◌, length, slice_index_or, sum_by, take}
use Rattle.std.specs.Cmp.Lexicographic.{pointwise}
use Rattle.std.specs.Bool.{Decides}
use Rattle.std.specs.List.{range_with_len}
use Rattle.std.specs.declared.cmp.PartialEq.{Ghosts as EqualityWords}
use Rattle.std.proofs.Common.{refl, sym, ap, ◌∙◌, arith, subst}
use Rattle.std.proofs.lemmas.List.{take_all}
use Rattle.std.proofs.lemmas.List.FromFn.{length-range_with_len}
use Rattle.std.proofs.lemmas.List.Sums.{count_by-le-length, sum_by_more}
use Rattle.std.proofs.lemmas.Nat.{mul-le}
use Rattle.std.proofs.lemmas.Slice.Eq.{slice_eq-Decides}
use Rattle.counted_steps.specs.Steps.{RoseBy, RoseByAtMost}
use Rattle.field_vectors.specs.Grid.{Grid, row_of}
use Rattle.gf_tables.specs.declared.field.Field.{Ghosts as FieldWords}
use Rattle.net_model.specs.Failed.{is_failed_in}
use Rattle.net_model.specs.declared.net.Net.{Net}
use Rattle.node_program.specs.Carried.{carry_steps}
use Rattle.sink_basis.proofs.RenewalSteps.{count_by-more}
use Rattle.sink_basis.specs.Renewal.{renewal_steps}
use Rattle.sink_basis.specs.declared.basis.Basis.{Basis}
use Rattle.lif_compiler.specs.Bases.{inverses_in, vectors_in}
use Rattle.lif_compiler.specs.Steps.{advance_steps, advances_steps, carry_steps_unless, carrying_patterns}
use Rattle.lif_compiler.specs.Tables.{product_steps, vectors_for}
use Rattle.lif_compiler.specs.declared.hops.Hop.{Hop}

-- one more turn of a loop whose turns count so many steps each
pub turn_counted : (turns each' each old between new : ℕ) → each' ≡ each → RoseBy (turns * each) old between → RoseBy each' between new → RoseBy ((turns + 1) * each) old new
turn_counted turns each' each old between new same before after =
    let one : RoseBy each between new = after ∙ ap (λ each. between + each) same in
    omega arith

-- all turns of it
pub turns_counted : (turns all each old new : ℕ) → turns ≡ all → RoseBy (turns * each) old new → RoseBy (all * each) old new
turns_counted turns all each old new same rose = subst (λ turns. RoseBy (turns * each) old new) same rose

-- the product of a row, where the link leaves the source
pub product_read : (leaves : Bool) (width old : ℕ) → leaves ≡ true → RoseBy (product_steps leaves width) old old
product_read true width old is = omega arith
product_read false width old is = cc

-- and where it doesn't
pub product_made : (leaves : Bool) (places width old new : ℕ) → leaves ≡ false → places ≡ width → RoseBy places old new → RoseBy (product_steps leaves width) old new
product_made true places width old new is same rose = cc
product_made false places width old new is same rose = rose ∙ ap (λ places. old + places) same

-- the products of a table are at most those of all places
pub table_few : (leaves : Bool) (rows columns width old new : ℕ) → RoseBy (rows * (columns * product_steps leaves width)) old new → RoseByAtMost (rows * (columns * width)) old new
table_few true rows columns width old new rose = record { not_below = omega (arith, rose); not_above = omega (arith, rose) }
table_few false rows columns width old new rose = record { not_below = omega (arith, rose); not_above = omega (arith, rose) }

module _ (net : Net) (link : ℕ) where
  -- under how many of the first patterns the link carries
  abbrev pub carrying_below : ℕ → ℕ
  carrying_below count = count_by (λ pattern. not (is_failed_in net.patterns pattern link)) (range_with_len 0 count)

  -- under one more pattern
  pub carry_counted : (pattern : ℕ) (failed leaves leaves' : Bool) (operands columns width old between new : ℕ) → failed ≡ is_failed_in net.patterns pattern link → leaves ≡ leaves' → columns ≡ width
      → RoseBy (carrying_below pattern * carry_steps leaves' operands width) old between → RoseBy (carry_steps_unless failed leaves operands columns) between new
      → RoseBy (carrying_below (pattern + 1) * carry_steps leaves' operands width) old new
  carry_counted pattern failed leaves leaves' operands columns width old between new fails same wide before after =
      let once = carry_steps leaves' operands width in
      let count = carrying_below pattern in
      let here = is_failed_in net.patterns pattern link in
      let rose : RoseBy (carry_steps_unless here leaves' operands width) between new =
      subst (λ failed. RoseBy (carry_steps_unless failed leaves' operands width) between new) fails
      (subst (λ leaves. RoseBy (carry_steps_unless failed leaves operands width) between new) same (subst (λ columns. RoseBy (carry_steps_unless failed leaves operands columns) between new) wide after)) in
      let at : (fails : Bool) → RoseBy (carry_steps_unless fails leaves' operands width) between new → RoseBy ((count + cond (not fails) 1 0) * once) old new = λ fails.
      elim fails as (λ fails. RoseBy (carry_steps_unless fails leaves' operands width) between new → RoseBy ((count + cond (not fails) 1 0) * once) old new) [
        | true ↦ (λ none. omega (arith, before, none))
        | false ↦ (λ one. omega (arith, before, one))
      ] in
      subst (λ count. RoseBy (count * once) old new) (sym (count_by-more (λ pattern. not (is_failed_in net.patterns pattern link)) pattern)) (at here rose)

  -- under all patterns there are at most the steps of all places
  pub carry_few : (leaves : Bool) (vectors operands width old new : ℕ) → vectors ≡ length net.patterns → RoseBy (carrying_patterns net link * carry_steps leaves operands width) old new
      → RoseByAtMost (vectors * (operands * width)) old new
  carry_few leaves vectors operands width old new same rose =
      let few : carrying_patterns net link ≤ vectors =
      omega (arith, same, count_by-le-length (λ pattern. not (is_failed_in net.patterns pattern link)) (range_with_len 0 (length net.patterns)), length-range_with_len 0 (length net.patterns)) in
      let Few : Bool → Type 0 = λ leaves. carry_steps leaves operands width ≤ operands * width in
      let once : Few leaves = elim leaves as Few [ true ↦ omega arith | false ↦ omega arith ] in
      let most = mul-le (carrying_patterns net link) (carry_steps leaves operands width) vectors (operands * width) few once in
      record { not_below = omega (arith, rose); not_above = omega (arith, rose, most) }

module _ {X : Type 0} {F : FieldWords X} {E : EqualityWords X} (link : ℕ) (vectors : List (Grid X)) (bases : List (Basis X F E)) where
  -- the basis of a hop is advanced
  pub hop_counted : (hop : Hop) (m n : Grid X) (v : List X) (old new : ℕ) → ((x y : X) → Decides (E.eq x y) (x ≡ y)) → m ≡ vectors_in bases hop.demand → n ≡ inverses_in bases hop.demand
      → v ≡ row_of (vectors_for vectors hop.demand) link → (row_of m hop.path ≡ v → RoseBy 0 old new)
      → (row_of m hop.path ≢ v → RoseBy (renewal_steps F.number F.zero F.add F.mul hop.path v n) old new) → RoseBy (advance_steps link vectors bases hop) old new
  hop_counted hop m n v old new equal m_is n_is v_is same other =
      let count : Grid X → Grid X → List X → ℕ = λ m n v. if pointwise E.eq (row_of m hop.path) v then 0 else renewal_steps F.number F.zero F.add F.mul hop.path v n in
      let at : (b : Bool) → Decides b (row_of m hop.path ≡ v) → RoseBy (if b then 0 else renewal_steps F.number F.zero F.add F.mul hop.path v n) old new = λ b.
      elim b as (λ b. Decides b (row_of m hop.path ≡ v) → RoseBy (if b then 0 else renewal_steps F.number F.zero F.add F.mul hop.path v n) old new) [
        | true ↦ (λ decides. same (decides.0 refl))
        | false ↦ (λ decides. other (λ is. let both = decides.1 is in cc))
      ] in
      subst (λ m. RoseBy (count m (inverses_in bases hop.demand) (row_of (vectors_for vectors hop.demand) link)) old new) m_is
      (subst (λ n. RoseBy (count m n (row_of (vectors_for vectors hop.demand) link)) old new) n_is
      (subst (λ v. RoseBy (count m n v) old new) v_is (at (pointwise E.eq (row_of m hop.path) v) (slice_eq-Decides equal (row_of m hop.path) v _ refl))))

  -- those of the first hops
  abbrev pub advanced_below : List Hop → ℕ → ℕ
  advanced_below hops count = sum_by (advance_steps link vectors bases) (take count hops)

  -- one more
  pub hops_counted : (hops : List Hop) (k : ℕ) (none : Hop) (old between new : ℕ) → k < length hops → RoseBy (advanced_below hops k) old between
      → RoseBy (advance_steps link vectors bases (slice_index_or hops k none)) between new → RoseBy (advanced_below hops (k + 1)) old new
  hops_counted hops k none old between new within before after = omega (arith, before, after, sum_by_more (advance_steps link vectors bases) hops k none within)

  -- all of them
  pub hops_all : (hops : List Hop) (k old new : ℕ) → length hops ≤ k → RoseBy (advanced_below hops k) old new → RoseBy (advances_steps link vectors bases hops) old new
  hops_all hops k old new whole rose = subst (λ hops. RoseBy (sum_by (advance_steps link vectors bases) hops) old new) (take_all k hops whole) rose
