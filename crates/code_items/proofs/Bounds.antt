-- How many bytes the items of a code have at most.
use Rattle.std.specs.Prelude.{◌≡◌, ◌≤◌, ◌+◌, ◌*◌, ◌==◌, ℕ, Bool, true, false, List, [], ◌∷◌, ◌++◌, length, map, drop, if◌then◌else◌}
use Rattle.std.specs.List.{flat_map, list_all, sum_by}
use Rattle.std.proofs.Common.{arith}
use Rattle.std.proofs.lemmas.Bool.{and_parts, eqb-true, leb-true}
use Rattle.std.proofs.lemmas.List.Sums.{sum_by-cons}
use Rattle.std.proofs.lemmas.Nat.{mul-le}
use Rattle.failure_patterns.proofs.DemandLaws.{few_sinks}
use Rattle.gf_tables.specs.Product.{bytes_of_element}
use Rattle.gf_tables.specs.declared.kind.FieldKind.{FieldKind}
use Rattle.gf_tables.specs.declared.kind.FieldKind.TheVariants.{Eight, Nine, Sixteen}
use Rattle.net_model.specs.Failed.{member_count}
use Rattle.net_model.specs.Name.{is_name}
use Rattle.net_model.specs.declared.Link.{Link}
use Rattle.net_model.specs.declared.Pattern.{Pattern}
use Rattle.net_model.specs.declared.net.Net.{Net}
use Rattle.node_program.proofs.AdjacentLaws.{adjacent_count-bound}
use Rattle.node_program.proofs.LiveLaws.{length-operands}
use Rattle.node_program.proofs.OperandCounts.{operand_count-bound}
use Rattle.node_program.specs.Adjacent.{adjacent_count}
use Rattle.node_program.specs.Code.{IsDraft}
use Rattle.node_program.specs.declared.Decoder.{Decoder}
use Rattle.node_program.specs.declared.Operand.{Operand}
use Rattle.code_items.specs.Items.{Item, name_item, long_item, link_items, pattern_items, operand_list_items, operand_table_items, decoder_items, demand_items, front_items, shared_table_items}
use Rattle.code_items.specs.Limits.{code_limit, fitting_members}
use Rattle.code_items.specs.Room.{size_of_items}
use Rattle.code_items.specs.Sharing.{same_of}
use Rattle.code_items.specs.Written.{has_size}
use Rattle.code_items.proofs.Sizes.{size-append, size-cons, size-nil, link-size, pattern-size, operand_list-size, decoder-size, front-size}

-- a name has at most 32 bytes
short : (name : List ℕ) → is_name name ≡ true → length name ≤ 32
short name is = leb-true _ _ (and_parts _ _ (and_parts _ _ is).0).1

-- the names of nodes
names-bound : (names : List (List ℕ)) → list_all is_name names ≡ true → size_of_items (map name_item names) ≤ 33 * length names
names-bound [] all = omega (arith, size-nil)
names-bound (name ∷ names) all =
    omega (arith, size-cons (name_item name) (map name_item names), short name (and_parts _ _ all).0, names-bound names (and_parts _ _ all).1)

-- links with their names and ends
links-bound : (links : List Link) → list_all is_name (map (λ link. link.name) links) ≡ true → size_of_items (flat_map link_items links) ≤ 37 * length links
links-bound [] all = omega (arith, size-nil)
links-bound (link ∷ links) all =
    omega (arith, size-append (link_items link) (flat_map link_items links), link-size link, short link.name (and_parts _ _ all).0, links-bound links (and_parts _ _ all).1)

-- patterns with their names and links
patterns-bound : (patterns : List Pattern) → list_all is_name (map (λ pattern. pattern.name) patterns) ≡ true
    → size_of_items (flat_map pattern_items patterns) ≤ 2 * member_count patterns + 35 * length patterns
patterns-bound [] all = omega (arith, size-nil)
patterns-bound (pattern ∷ patterns) all =
    omega (
      arith,
      size-append (pattern_items pattern) (flat_map pattern_items patterns),
      pattern-size pattern,
      short pattern.name (and_parts _ _ all).0,
      sum_by-cons (λ (one : Pattern). length one.links) pattern patterns,
      patterns-bound patterns (and_parts _ _ all).1,
    )

-- so have all patterns but the first
listed-bound : (patterns : List Pattern) → list_all is_name (map (λ pattern. pattern.name) patterns) ≡ true
    → size_of_items (flat_map pattern_items (drop 1 patterns)) ≤ 2 * member_count patterns + 35 * length patterns
listed-bound [] all = patterns-bound [] all
listed-bound (none ∷ listed) all =
    omega (arith, sum_by-cons (λ (one : Pattern). length one.links) none listed, patterns-bound listed (and_parts _ _ all).1)

-- all that stands before the operands
pub front-bound : (mark : Item) (version rate : ℕ) (field : FieldKind) (net : Net) → length mark ≡ 4
    → size_of_items (front_items mark version net rate field)
    ≤ 33 * length net.nodes + 37 * length net.links + 2 * length net.sinks + 2 * member_count net.patterns + 35 * length net.patterns + 17
front-bound mark version rate field net four =
    omega (
      arith,
      front-size mark version rate field net four,
      names-bound net.nodes (and_parts _ _ net.network.node_names).0,
      links-bound net.links (and_parts _ _ net.network.link_names).0,
      listed-bound net.patterns (and_parts _ _ net.network.pattern_names).0,
    )

module _ (field : FieldKind) where
  -- an element has one byte or two
  small_element : (n : ℕ) → bytes_of_element field * n ≤ 2 * n
  small_element n = elim field as (λ field. bytes_of_element field * n ≤ 2 * n) [ Eight ↦ omega arith | Nine ↦ omega arith | Sixteen ↦ omega arith ]

  -- the operands of all links
  pub operand_table-bound : (table : List (List Operand)) → size_of_items (operand_table_items field table) ≤ 4 * sum_by (λ operands. length operands) table + 2 * length table
  operand_table-bound [] = omega (arith, size-nil)
  operand_table-bound (operands ∷ table) =
      omega (
        arith,
        size-append (operand_list_items field operands) (operand_table_items field table),
        operand_list-size field operands,
        small_element (length operands),
        sum_by-cons (λ (one : List Operand). length one) operands table,
        operand_table-bound table,
      )

  module _ (rate : ℕ) where
    -- a decoder
    decoder-bound : (decoder : Decoder) → has_size rate decoder ≡ true → size_of_items (decoder_items field decoder) ≤ 2 * rate + 2 * (rate * rate)
    decoder-bound decoder sized =
        let square = and_parts (length decoder.links == rate) (length decoder.entries == rate * rate) (and_parts _ _ sized).0 in
        omega (arith, decoder-size field decoder, small_element (length decoder.entries), eqb-true _ _ square.0, eqb-true _ _ square.1)

    -- what stands for a demand
    demand-bound : (same : ℕ) (decoder : Decoder) → has_size rate decoder ≡ true → size_of_items (demand_items field same decoder) ≤ 4 + 2 * rate + 2 * (rate * rate)
    demand-bound same decoder sized = either (same == 0)
      where
        either : (whole : Bool) → size_of_items (long_item same ∷ (if whole then decoder_items field decoder else [])) ≤ 4 + 2 * rate + 2 * (rate * rate)
        either true = omega (arith, size-cons (long_item same) (decoder_items field decoder), decoder-bound decoder sized)
        either false = omega (arith, size-cons (long_item same) [], size-nil)

    -- what stands for all demands
    pub shared_table-bound : (earlier decoders : List Decoder) → list_all (has_size rate) decoders ≡ true
        → size_of_items (shared_table_items field earlier decoders) ≤ (4 + 2 * rate + 2 * (rate * rate)) * length decoders
    unfolding shared_table_items
    shared_table-bound earlier [] sized = omega (arith, size-nil)
    shared_table-bound earlier (decoder ∷ decoders) sized =
        let first = demand_items field (same_of earlier decoder) decoder in
        let later = shared_table_items field (earlier ++ decoder ∷ []) decoders in
        omega (arith, size-append first later, demand-bound (same_of earlier decoder) decoder (and_parts _ _ sized).0, shared_table-bound (earlier ++ decoder ∷ []) decoders (and_parts _ _ sized).1)

module _ (mark : Item) (version : ℕ) (net : Net) (rate : ℕ) (field : FieldKind) (operands : List (List Operand)) (decoders : List Decoder) where
  -- the whole of a code, where the network's patterns have few links together
  pub whole-bound : length mark ≡ 4 → IsDraft net rate field operands → list_all (has_size rate) decoders ≡ true → length decoders ≤ 65536 → member_count net.patterns ≤ fitting_members
      → size_of_items (front_items mark version net rate field ++ (operand_table_items field operands ++ shared_table_items field [] decoders)) ≤ code_limit
  whole-bound four draft sized few_decoders few_members =
      let front = front_items mark version net rate field in
      let table = operand_table_items field operands in
      let shared = shared_table_items field [] decoders in
      let nodes = net.network.few_nodes in
      let links = net.network.few_links in
      let patterns = net.network.few_patterns in
      let rates = draft.low_rate in
      let lists = length-operands draft in
      let pairs : adjacent_count net.links ≤ 16777216 = omega (arith, adjacent_count-bound net.links draft.link_order, mul-le (length net.links) (length net.links) 8192 8192 links links) in
      let sources = mul-le rate (length net.links) 32 8192 rates links in
      let entries = mul-le rate rate 32 32 rates rates in
      let demands = mul-le (4 + 2 * rate + 2 * (rate * rate)) (length decoders) 2116 65536 (omega arith) few_decoders in
      let counted : sum_by (λ (list : List Operand). length list) operands ≤ 17039360 = omega (arith, operand_count-bound draft) in
      omega (
        arith,
        size-append front (table ++ shared),
        size-append table shared,
        front-bound mark version rate field net four,
        operand_table-bound field operands,
        shared_table-bound field rate [] decoders sized,
        few_sinks net,
      )
