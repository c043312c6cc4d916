-- How many operands a draft has at most.
use Rattle.std.specs.Prelude.{◌≡◌, ◌<◌, ◌≤◌, ◌+◌, ◌*◌, ◌==◌, ℕ, zero, suc, Bool, true, false, ◌&&◌, cond, nat_lt, if◌then◌else◌, List, [], ◌∷◌, drop, length, map}
use Rattle.std.specs.List.{list_all, sum_by}
use Rattle.std.proofs.Common.{◌∙◌, arith}
use Rattle.std.proofs.lemmas.Bool.{and_parts, false≢true, ltb-true}
use Rattle.std.proofs.lemmas.List.{length-map}
use Rattle.std.proofs.lemmas.List.Folds.{list_all-map}
use Rattle.std.proofs.lemmas.List.Sums.{sum_by-cons, sum_by-take-drop}
use Rattle.item_list.proofs.Tests.{list_all-implied}
use Rattle.gf_tables.specs.Product.{size_of}
use Rattle.gf_tables.specs.declared.kind.FieldKind.{FieldKind}
use Rattle.net_model.proofs.RisingLaws.{length-is_rising}
use Rattle.net_model.specs.Lists.{is_rising}
use Rattle.net_model.specs.declared.Link.{Link}
use Rattle.net_model.specs.declared.net.Net.{Net}
use Rattle.node_program.proofs.AdjacentLaws.{into_count-cons}
use Rattle.node_program.specs.Adjacent.{adjacent_count, into_count}
use Rattle.node_program.specs.Code.{IsDraft, are_operands, are_operands_of, is_source_of, leads_into}
use Rattle.node_program.specs.declared.Operand.{Operand}

-- from a later number on, one link fewer leads into a node that the link of the number leads into
fewer_behind : (links : List Link) (node x y : ℕ) → leads_into links node x ≡ true → x < y → into_count (drop y links) node < into_count (drop x links) node
fewer_behind [] node x y into above = absurd (false≢true into)
fewer_behind (link ∷ links) node zero zero into above = absurd (omega arith)
fewer_behind (link ∷ links) node zero (suc y) into above =
    let one : 1 ≤ cond (link.head == node) 1 0 = rw into (omega arith) in
    omega (arith, into_count-cons link links node, one, sum_by-take-drop (λ a. cond (a.head == node) 1 0) links y)
fewer_behind (link ∷ links) node (suc x) zero into above = absurd (omega arith)
fewer_behind (link ∷ links) node (suc x) (suc y) into above = fewer_behind links node x y into (omega arith)

-- rising numbers of links into a node are at most as many as the links into it from the first number on
few_from : (links : List Link) (node x : ℕ) (xs : List ℕ) → is_rising (x ∷ xs) ≡ true → list_all (leads_into links node) (x ∷ xs) ≡ true
    → length (x ∷ xs) ≤ into_count (drop x links) node
few_from links node x [] rising into =
    let fewer = fewer_behind links node x (suc x) (and_parts _ _ into).0 (omega arith) in
    omega arith
few_from links node x (y ∷ ys) rising into =
    let parts = and_parts (list_all (nat_lt x) (y ∷ ys)) (is_rising (y ∷ ys)) rising in
    let here = and_parts (leads_into links node x) (list_all (leads_into links node) (y ∷ ys)) into in
    let fewer = fewer_behind links node x y here.0 (ltb-true x y (and_parts _ _ parts.0).0) in
    let rest = few_from links node y ys parts.1 here.1 in
    omega arith

-- and at most as many as all the links into it
few_into : (links : List Link) (node : ℕ) (xs : List ℕ) → is_rising xs ≡ true → list_all (leads_into links node) xs ≡ true → length xs ≤ into_count links node
few_into links node [] rising into = omega arith
few_into links node (x ∷ xs) rising into =
    omega (arith, few_from links node x xs rising into, sum_by-take-drop (λ a. cond (a.head == node) 1 0) links x)

module _ (net : Net) (rate : ℕ) (field : FieldKind) where
  -- a link has at most an operand for each link into its tail, or for each source row
  few_operands : (link : Link) (operands : List Operand) → are_operands net rate field link operands ≡ true → length operands ≤ into_count net.links link.tail + rate
  few_operands link operands are =
      let test : Operand → Bool = λ operand. is_source_of net rate link operand.from && nat_lt 0 operand.times && nat_lt operand.times (size_of field) in
      let numbers = map (λ (operand : Operand). operand.from) operands in
      let parts = and_parts (is_rising numbers) (list_all test operands) are in
      let named : list_all (is_source_of net rate link) numbers ≡ true =
      list_all-map (is_source_of net rate link) (λ (operand : Operand). operand.from) operands
      ∙ list_all-implied test (λ operand. is_source_of net rate link operand.from) operands (λ operand h. (and_parts _ _ (and_parts _ _ h).0).0) parts.1 in
      omega (arith, length-map operands (λ (operand : Operand). operand.from), either (link.tail == net.source) numbers parts.0 named)
    where
      either : (leaves : Bool) (xs : List ℕ) → is_rising xs ≡ true → list_all (λ from. if leaves then nat_lt from rate else leads_into net.links link.tail from) xs ≡ true
          → length xs ≤ into_count net.links link.tail + rate
      either true xs rising below = omega (arith, length-is_rising xs rate rising below)
      either false xs rising into = omega (arith, few_into net.links link.tail xs rising into)

  -- so have they all
  few_in_all : (links : List Link) (table : List (List Operand)) → are_operands_of net rate field links table ≡ true
      → sum_by (λ operands. length operands) table ≤ sum_by (λ link. into_count net.links link.tail) links + rate * length links
  few_in_all [] [] are = omega arith
  few_in_all [] (operands ∷ table) are = absurd (false≢true are)
  few_in_all (link ∷ links) [] are = absurd (false≢true are)
  few_in_all (link ∷ links) (operands ∷ table) are =
      let parts = and_parts _ _ are in
      let here = few_operands link operands parts.0 in
      let rest = few_in_all links table parts.1 in
      omega (arith, sum_by-cons (λ (one : List Operand). length one) operands table, sum_by-cons (λ one. into_count net.links one.tail) link links)

-- a draft has at most an operand for each adjacent pair of links, and as many more as the rate for each link
pub operand_count-bound : {net : Net} {rate : ℕ} {field : FieldKind} {operands : List (List Operand)} → IsDraft net rate field operands
    → sum_by (λ list. length list) operands ≤ adjacent_count net.links + rate * length net.links
operand_count-bound {net} {rate} {field} {operands} draft = few_in_all net rate field net.links operands draft.link_operands
