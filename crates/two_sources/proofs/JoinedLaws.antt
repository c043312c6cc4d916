-- Laws of networks in which one node feeds two, and of the codes that are made of them.
use Rattle.std.specs.Prelude.{◌≡◌, ◌≢◌, ◌<◌, ◌≤◌, ◌+◌, ◌-◌, ◌*◌, ℕ, nat_lt, List, [], ◌∷◌, ◌++◌, length, map, slice_get, slice_index, unwrap_or}
use Rattle.std.specs.Option.{option_map, option_map_or}
use Rattle.std.proofs.Common.{refl, sym, ◌∙◌, ap, arith, inl, inr}
use Rattle.std.proofs.lemmas.Bool.{cases_lt, eq-eqb, false_from_ne_true, le-ltb, lt-ltb}
use Rattle.std.proofs.lemmas.List.{append_assoc, length-append, length-map}
use Rattle.std.proofs.lemmas.List.FromFn.{length-map-range_with_len}
use Rattle.std.proofs.lemmas.List.Sums.{sum_by-cons}
use Rattle.std.proofs.lemmas.Option.{slice_get-map}
use Rattle.gf_tables.specs.declared.kind.FieldKind.{FieldKind}
use Rattle.net_model.specs.Demands.{demand_count}
use Rattle.net_model.specs.Failed.{member_count}
use Rattle.net_model.specs.Renumbering.{HasEachOnce, new_number, old_number}
use Rattle.net_model.specs.Walks.{IsAcyclic, head_of, leaves_source, tail_of}
use Rattle.net_model.specs.declared.Link.{Link}
use Rattle.net_model.specs.declared.Pattern.{Pattern}
use Rattle.net_model.specs.declared.net.Net.{Net}
use Rattle.net_model.proofs.EndLaws.{ends_apart, ends_below, leaves_source-tail, tail_of-leaves_source}
use Rattle.net_model.proofs.RenumberedParts.{slice_get-renumbered_links}
use Rattle.net_model.proofs.RenumberingLaws.{length-renumbered_links, new-old}
use Rattle.net_reader.specs.Bundles.{made_name, made_names}
use Rattle.net_reader.proofs.SameNet.{same_net}
use Rattle.topo_order.specs.Order.{order_of}
use Rattle.node_program.specs.declared.code.Code.{Code}
use Rattle.lif_compiler.specs.Compiled.{IsCompiled}
use Rattle.lif_compiler.proofs.InOrderLaws.{HasEachOnce-order_of}
use Rattle.two_sources.proofs.LinkLaws.{IsAcyclic-behind, NoneLeadsInto, head_of-behind, leaves_source-renumbered, order_of-free, slice_get-behind, slice_get-front, tail_of-behind, tail_of-named}
use Rattle.two_sources.proofs.NetworkLaws.{name-joined_links}
use Rattle.two_sources.specs.Joined.{IsJoined, bundle_links, first_bundle, moved_pattern, second_bundle, super_links, super_name}
use Rattle.two_sources.specs.Separated.{HasFirstLinks}

-- the links of a bundle are so many
length-bundle : (bundle : List ℕ) (count tail head : ℕ) → length (bundle_links bundle count tail head) ≡ count
length-bundle bundle count tail head = length-map (made_names bundle count) _ ∙ length-map-range_with_len (made_name bundle) 1 count

-- and so are the names that are made
pub length-super_links : (r1 r2 : ℕ) → length (super_links r1 r2) ≡ r1 + r2
length-super_links r1 r2 =
    omega (
      arith,
      length-append (made_names first_bundle r1) (made_names second_bundle r2),
      length-map-range_with_len (made_name first_bundle) 1 r1,
      length-map-range_with_len (made_name second_bundle) 1 r2,
    )

-- patterns with higher numbers have as many links
member_count-moved : (by : ℕ) (patterns : List Pattern) → member_count (map (moved_pattern by) patterns) ≡ member_count patterns
member_count-moved by [] = refl
member_count-moved by (pattern ∷ patterns) =
    let size : Pattern → ℕ = λ pattern. length pattern.links in
    let here : size (moved_pattern by pattern) ≡ size pattern = length-map pattern.links _ in
    let rest = member_count-moved by patterns in
    sum_by-cons size (moved_pattern by pattern) (map (moved_pattern by) patterns) ∙ (λ i. here i + rest i)
    ∙ sym (sum_by-cons size pattern patterns)

-- ---- a joined network

module _ (second r1 r2 : ℕ) (net joined : Net) (is : IsJoined second r1 r2 net joined) where
  -- the links into the source, and those into the second node
  abbrev first_links : List Link
  first_links = bundle_links first_bundle r1 (length net.nodes) net.source

  abbrev second_links : List Link
  second_links = bundle_links second_bundle r2 (length net.nodes) second

  length-made : length (first_links ++ second_links) ≡ r1 + r2
  length-made =
      omega (
        arith,
        length-append first_links second_links,
        length-bundle first_bundle r1 (length net.nodes) net.source,
        length-bundle second_bundle r2 (length net.nodes) second,
      )

  pub length-joined : length joined.links ≡ r1 + r2 + length net.links
  length-joined = ap length is.links ∙ omega (arith, length-append (first_links ++ second_links) net.links, length-made)

  -- a link that is made leaves the new node
  tail_of-made : (link : ℕ) → link < r1 + r2 → tail_of joined.links link ≡ length net.nodes
  tail_of-made link below =
      let node = length net.nodes in
      let count = length-bundle first_bundle r1 node net.source in
      ap (λ links. tail_of links link) (is.links ∙ append_assoc first_links second_links net.links)
      ∙ elim (cases_lt link r1) [
        | inl into ↦
            tail_of-named node net.source (made_names first_bundle r1) (second_links ++ net.links) link
            (omega (arith, length-map-range_with_len (made_name first_bundle) 1 r1))
        | inr later ↦
            let past : length first_links ≤ link = omega (arith, count) in
            ap (λ found. option_map_or (λ l. l.tail) found 0) (slice_get-behind first_links (second_links ++ net.links) link past)
            ∙ tail_of-named node second (made_names second_bundle r2) net.links (link - length first_links)
            (omega (arith, count, length-map-range_with_len (made_name second_bundle) 1 r2))
      ]

  -- each other link is one of the network, with the ends that it has there
  tail_of-old : (link : ℕ) → r1 + r2 ≤ link → tail_of joined.links link ≡ tail_of net.links (link - (r1 + r2))
  tail_of-old = tail_of-behind joined.links (first_links ++ second_links) net.links (r1 + r2) is.links length-made

  head_of-old : (link : ℕ) → r1 + r2 ≤ link → head_of joined.links link ≡ head_of net.links (link - (r1 + r2))
  head_of-old = head_of-behind joined.links (first_links ++ second_links) net.links (r1 + r2) is.links length-made

  -- which are nodes of the network
  old_ends : (link : ℕ) → r1 + r2 ≤ link → link < length joined.links
      → (tail_of joined.links link < length net.nodes) × (head_of joined.links link < length net.nodes)
  old_ends link past within =
      let old : link - (r1 + r2) < length net.links = omega (arith, length-joined) in
      let ends = ends_below net.links (length net.nodes) (link - (r1 + r2)) net.network.link_ends old in
      (omega (arith, ends.0, tail_of-old link past), omega (arith, ends.1, head_of-old link past))

  -- no link leads into the new node
  pub joined-heads : (link : ℕ) → link < length joined.links → head_of joined.links link < length net.nodes
  joined-heads link within =
      let nodes = length joined.nodes in
      let ends = ends_below joined.links nodes link joined.network.link_ends within in
      elim (cases_lt link (r1 + r2)) [
        | inl below ↦
            let apart : length net.nodes ≢ head_of joined.links link =
            λ same. ends_apart joined.links nodes link joined.network.link_ends within (tail_of-made link below ∙ same) in
            omega (arith, ends.1, apart, ap length is.nodes, length-append net.nodes (super_name ∷ []))
        | inr past ↦ (old_ends link past within).1
      ]

  -- the links that are made are those that leave the source
  pub joined-first : (link : ℕ) → leaves_source joined link ≡ nat_lt link (r1 + r2)
  joined-first link = elim (cases_lt link (r1 + r2)) [
    | inl below ↦
        leaves_source-tail joined link (omega (arith, length-joined))
        ∙ eq-eqb (tail_of joined.links link) joined.source (tail_of-made link below ∙ sym is.source)
        ∙ sym (lt-ltb link (r1 + r2) below)
    | inr past ↦
        false_from_ne_true (leaves_source joined link) (λ leaves.
        let parts = tail_of-leaves_source joined link leaves in
        absurd (omega (arith, (old_ends link past parts.0).0, parts.1, is.source)))
        ∙ sym (le-ltb link (r1 + r2) past)
  ]

  -- so none leads into the tail of one that is made
  joined-free : NoneLeadsInto joined.links (r1 + r2)
  joined-free link l below within same = absurd (omega (arith, joined-heads l within, same, tail_of-made link below))

  -- the order has those in front
  pub joined-order : (link : ℕ) → link < r1 + r2 → slice_index (order_of joined.links) link ≡ link
  joined-order = order_of-free joined.links (r1 + r2) (omega (arith, length-joined)) joined-free

  -- demands and links in patterns are as many as before
  pub joined-demands : demand_count joined ≡ demand_count net
  joined-demands = λ i. length (is.sinks i) * (ap length is.patterns ∙ length-map net.patterns (moved_pattern (r1 + r2))) i

  pub joined-members : member_count joined.patterns ≡ member_count net.patterns
  joined-members = ap member_count is.patterns ∙ member_count-moved (r1 + r2) net.patterns

  -- a joined network has no cycle where the network has none
  pub joined-acyclic : IsAcyclic net.links → IsAcyclic joined.links
  joined-acyclic = IsAcyclic-behind joined.links (first_links ++ second_links) net.links (r1 + r2) is.links length-made joined-free

  -- the names of its links
  joined-names : map (λ link. link.name) joined.links ≡ super_links r1 r2 ++ map (λ link. link.name) net.links
  joined-names = ap (map (λ link. link.name)) is.links ∙ name-joined_links net second r1 r2

  -- what is joined of one network is one
  pub joined-once : (other : Net) → IsJoined second r1 r2 net other → joined ≡ other
  joined-once other also =
      same_net joined other (λ i. record {
        nodes = (is.nodes ∙ sym also.nodes) i;
        links = (is.links ∙ sym also.links) i;
        source = (is.source ∙ sym also.source) i;
        sinks = (is.sinks ∙ sym also.sinks) i;
        patterns = (is.patterns ∙ sym also.patterns) i;
        field = (is.field ∙ sym also.field) i;
        wanted = (is.wanted ∙ sym also.wanted) i;
      })

  -- ---- a code that was compiled of it

  module _ (field : FieldKind) (code : Code) (certs : _) (compiled : IsCompiled joined field code certs) where
    abbrev order : List ℕ
    order = order_of joined.links

    once : HasEachOnce (length joined.links) order
    once = HasEachOnce-order_of joined.links compiled.acyclic

    -- a link has a number below the rate exactly where its old number is
    in_front : (link : ℕ) → link < length order → nat_lt (old_number order link) (r1 + r2) ≡ nat_lt link (r1 + r2)
    in_front link within =
        let old = old_number order link in
        elim (cases_lt link (r1 + r2)) [
          | inl below ↦ ap (λ number. nat_lt number (r1 + r2)) (joined-order link below)
          | inr past ↦
              let old_past : r1 + r2 ≤ old = elim (cases_lt old (r1 + r2)) [
                | inl below ↦
                    let inside : old < length order = omega (arith, once.whole, length-joined) in
                    let same : old ≡ link =
                    sym (new-old once old inside) ∙ ap (new_number order) (joined-order old below) ∙ new-old once link within in
                    absurd (omega arith)
                | inr past ↦ past
              ] in
              le-ltb old (r1 + r2) old_past ∙ sym (le-ltb link (r1 + r2) past)
        ]

    -- the rate is that of both
    pub compiled-rate : code.rate ≡ r1 + r2
    compiled-rate = compiled.rate ∙ ap (λ wanted. unwrap_or wanted compiled.least) is.wanted

    -- the links that leave the source are the first
    pub compiled-first_links : HasFirstLinks code.net code.rate
    compiled-first_links link = elim (cases_lt link (length order)) [
      | inl within ↦
          leaves_source-renumbered joined code.net order once compiled.network.links compiled.network.source link within
          ∙ joined-first (old_number order link) ∙ in_front link within ∙ ap (nat_lt link) (sym compiled-rate)
      | inr past ↦
          false_from_ne_true (leaves_source code.net link) (λ leaves.
          let inside = (tail_of-leaves_source code.net link leaves).0 in
          let count = ap length compiled.network.links ∙ length-renumbered_links joined.links once in
          absurd (omega (arith, inside, count, once.whole)))
          ∙ sym (le-ltb link code.rate (omega (arith, compiled-rate, once.whole, length-joined)))
    ]

    -- and they have the names that were made
    pub compiled-names : (link : ℕ) → link < code.rate
        → slice_get (map (λ l. l.name) code.net.links) link ≡ slice_get (super_links r1 r2) link
    compiled-names link within =
        let name : Link → List ℕ = λ l. l.name in
        let below : link < r1 + r2 = omega (arith, compiled-rate) in
        let inside : link < length order = omega (arith, once.whole, length-joined) in
        slice_get-map name code.net.links link
        ∙ ap (λ links. option_map name (slice_get links link)) compiled.network.links
        ∙ ap (option_map name) (slice_get-renumbered_links joined.links order link once inside)
        ∙ ap (λ old. option_map name (slice_get joined.links old)) (joined-order link below)
        ∙ sym (slice_get-map name joined.links link) ∙ ap (λ names. slice_get names link) joined-names
        ∙ slice_get-front (super_links r1 r2) (map name net.links) link (omega (arith, length-super_links r1 r2))
