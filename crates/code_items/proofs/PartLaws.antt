-- What the items of the parts say one by one is what holds of a network and of a code.
use Rattle.std.specs.Prelude.{◌≡◌, ℕ, zero, suc, ◌+◌, ◌*◌, ◌<◌, ◌≤◌, Bool, true, false, ◌&&◌, ◌==◌, nat_eq, nat_lt, None, List, [], ◌∷◌, ◌++◌, length, map, drop, slice_index, codes, if◌then◌else◌}
use Rattle.std.specs.Bool.{MatchBool}
use Rattle.std.specs.List.{list_all, list_any}
use Rattle.std.specs.Str.{bytes_eq}
use Rattle.std.proofs.Common.{refl, sym, subst, ap, ◌∙◌, append_assoc, get_or, length-append, arith}
use Rattle.std.proofs.lemmas.Bool.{false≢true, and_parts, and_from, or_parts, not-true, not_from_false, eqb-true, eq-eqb, ltb-true, lt-ltb}
use Rattle.std.proofs.lemmas.List.{get_or_append_left, nil_from_length, length-map}
use Rattle.std.proofs.lemmas.List.Folds.{list_all-map}
use Rattle.std.proofs.lemmas.Slice.Eq.{bytes_eq-Decides}
use Rattle.gf_tables.specs.Product.{size_of}
use Rattle.gf_tables.specs.declared.kind.FieldKind.{FieldKind}
use Rattle.failure_patterns.proofs.DemandLaws.{length-sinks_of_demands}
use Rattle.net_model.specs.Demands.{demand_count, sinks_of_demands}
use Rattle.net_model.specs.Lists.{are_distinct, is_rising, is_among}
use Rattle.std.proofs.lemmas.Cmp.{nat_eq_equiv}
use Rattle.item_list.proofs.Tests.{list_all-implied, list_any-map}
use Rattle.net_model.proofs.ListLaws.{length-are_distinct, is_among-same}
use Rattle.net_model.proofs.RisingLaws.{length-is_rising}
use Rattle.net_model.specs.Network.{are_names, is_link_among, is_sink_among, is_listed_pattern, are_patterns, IsNetwork}
use Rattle.net_model.specs.declared.Link.{Link}
use Rattle.net_model.specs.declared.Pattern.{Pattern}
use Rattle.net_model.specs.declared.net.Net.{Net}
use Rattle.node_program.proofs.DecodingLaws.{link_within}
use Rattle.node_program.proofs.LinkLaws.{head_of-leads_into}
use Rattle.node_program.specs.Code.{choice_of, leads_into, are_in_order, is_source_of, are_operands, are_operands_of, is_decoder, are_decoders, IsDraft, IsCode}
use Rattle.node_program.specs.declared.Operand.{Operand}
use Rattle.node_program.specs.declared.Decoder.{Decoder}
use Rattle.code_items.specs.Reading.{Front, has_field, demand_sinks, names_of, none_pattern}
use Rattle.code_items.specs.Sharing.{decoder_of, no_decoder, same_of}
use Rattle.code_items.specs.Spelling.{front_of}
use Rattle.code_items.specs.Written.{has_elements, has_size}
use Rattle.code_items.proofs.Readers.{AllAfter, EachFits, FitsAfter}
use Rattle.code_items.proofs.FrontReaders.{NameAfter, LinkAfter, SinkAfter, LinkNumberAfter, PatternAfter}
use Rattle.code_items.proofs.PartReaders.{OperandAfter, AreOperandsRead, AreDecodersRead, DecoderLinkAfter, IsDecoderRead, IsFrontRead, IsSharedRead}
use Rattle.code_items.proofs.SharingLaws.{IsFirst-from_same, same_of-within}
use Rattle.code_items.proofs.AfterLaws.{Rises, LeadsOn, AllAfter-weaker, AllAfter-both, AllAfter-map, AllAfter-from_map, AllAfter-from_list_all, list_all-from_AllAfter, are_distinct-from_AllAfter, AllAfter-from_are_distinct, are_names-from_AllAfter, AllAfter-from_are_names, is_rising-from_AllAfter, AllAfter-from_is_rising, are_in_order-from_AllAfter, AllAfter-from_are_in_order}

-- ---- links

-- the names of the links
link_names-from_read : (nodes : ℕ) (links : List Link) → AllAfter (LinkAfter nodes) [] links → are_names (names_of links) ≡ true
link_names-from_read nodes links all =
    are_names-from_AllAfter (names_of links)
    (AllAfter-map (λ (link : Link). link.name) NameAfter [] links
    (AllAfter-weaker (LinkAfter nodes) (λ before link. NameAfter (map (λ (one : Link). one.name) before) link.name) [] links
    (λ before link is. (is.name, list_any-map (λ (one : Link). one.name) (bytes_eq link.name) before ∙ is.is_new)) all))

-- the tails and heads of the links
link_ends-from_read : (nodes : ℕ) (links : List Link) → AllAfter (LinkAfter nodes) [] links → list_all (is_link_among nodes) links ≡ true
link_ends-from_read nodes links all =
    list_all-from_AllAfter (is_link_among nodes) [] links
    (AllAfter-weaker (LinkAfter nodes) (λ before link. is_link_among nodes link ≡ true) [] links
    (λ before link is.
    let apart = or_parts (link.head == link.tail) (is_among (map (λ one. one.tail) before) link.head) is.leads_on in
    and_from _ _ (and_from _ _ (lt-ltb _ _ is.tail) (lt-ltb _ _ is.head)) (not_from_false _ (nat_eq_equiv.symm link.tail link.head ∙ apart.0))) all)

-- the order of the links
pub link_order-from_read : (nodes : ℕ) (links : List Link) → AllAfter (LinkAfter nodes) [] links → are_in_order [] links ≡ true
link_order-from_read nodes links all = are_in_order-from_AllAfter links (AllAfter-weaker (LinkAfter nodes) LeadsOn [] links (λ before link is. is.leads_on) all)

-- links of a network in order are read
LinkAfter-from_network : (nodes : ℕ) (links : List Link) → nodes ≤ 4096 → are_names (names_of links) ≡ true → list_all (is_link_among nodes) links ≡ true → are_in_order [] links ≡ true
    → AllAfter (LinkAfter nodes) [] links
LinkAfter-from_network nodes links few names ends order =
    let Named : List Link → Link → Type 0 = λ before link. NameAfter (map (λ (one : Link). one.name) before) link.name in
    let Ended : List Link → Link → Type 0 = λ before link. is_link_among nodes link ≡ true in
    let named : AllAfter Named [] links = AllAfter-from_map (λ (link : Link). link.name) NameAfter [] links (AllAfter-from_are_names (names_of links) names) in
    let ended : AllAfter Ended [] links = AllAfter-from_list_all (is_link_among nodes) [] links ends in
    let ordered : AllAfter LeadsOn [] links = AllAfter-from_are_in_order links order in
    AllAfter-weaker (λ before link. Named before link × (Ended before link × LeadsOn before link)) (LinkAfter nodes) [] links
    (λ before link is.
    let inside = and_parts _ _ (and_parts _ _ is.1.0).0 in
    let tail : link.tail < nodes = ltb-true _ _ inside.0 in
    let head : link.head < nodes = ltb-true _ _ inside.1 in
    record {
      name = is.0.0;
      is_new = sym (list_any-map (λ (one : Link). one.name) (bytes_eq link.name) before) ∙ is.0.1;
      tail_fits = omega arith;
      tail = tail;
      head_fits = omega arith;
      head = head;
      leads_on = is.1.1;
    })
    (AllAfter-both Named (λ before link. Ended before link × LeadsOn before link) [] links named (AllAfter-both Ended LeadsOn [] links ended ordered))

-- ---- sinks

-- the sinks are nodes
sink_nodes-from_read : (nodes source : ℕ) (sinks : List ℕ) → AllAfter (SinkAfter nodes source) [] sinks → list_all (is_sink_among nodes source) sinks ≡ true
sink_nodes-from_read nodes source sinks all =
    list_all-from_AllAfter (is_sink_among nodes source) [] sinks
    (AllAfter-weaker (SinkAfter nodes source) (λ before sink. is_sink_among nodes source sink ≡ true) [] sinks
    (λ before sink is. and_from _ _ (lt-ltb _ _ is.node) (not_from_false _ is.not_source)) all)

-- the sinks are distinct
distinct_sinks-from_read : (nodes source : ℕ) (sinks : List ℕ) → AllAfter (SinkAfter nodes source) [] sinks → are_distinct nat_eq sinks ≡ true
distinct_sinks-from_read nodes source sinks all =
    are_distinct-from_AllAfter nat_eq nat_eq_equiv.symm sinks
    (AllAfter-weaker (SinkAfter nodes source) (λ before sink. list_any (nat_eq sink) before ≡ false) [] sinks (λ before sink is. is_among-same before sink ∙ is.is_new) all)

-- sinks of a network are read
SinkAfter-from_network : (nodes source : ℕ) (sinks : List ℕ) → nodes ≤ 4096 → list_all (is_sink_among nodes source) sinks ≡ true → are_distinct nat_eq sinks ≡ true → AllAfter (SinkAfter nodes source) [] sinks
SinkAfter-from_network nodes source sinks few among distinct =
    let Among : List ℕ → ℕ → Type 0 = λ before sink. is_sink_among nodes source sink ≡ true in
    let New : List ℕ → ℕ → Type 0 = λ before sink. list_any (nat_eq sink) before ≡ false in
    AllAfter-weaker (λ before sink. Among before sink × New before sink) (SinkAfter nodes source) [] sinks
    (λ before sink is.
    let parts = and_parts _ _ is.0 in
    let node : sink < nodes = ltb-true _ _ parts.0 in
    record { fits = omega arith; node = node; not_source = not-true _ parts.1; is_new = sym (is_among-same before sink) ∙ is.1 })
    (AllAfter-both Among New [] sinks (AllAfter-from_list_all (is_sink_among nodes source) [] sinks among) (AllAfter-from_are_distinct nat_eq nat_eq_equiv.symm sinks distinct))

-- ---- patterns

-- the links of a pattern
pattern_links-from_read : (links : ℕ) (numbers : List ℕ) → AllAfter (LinkNumberAfter links) [] numbers → (is_rising numbers ≡ true) × (list_all (λ link. nat_lt link links) numbers ≡ true)
pattern_links-from_read links numbers all = (
  is_rising-from_AllAfter numbers (AllAfter-weaker (LinkNumberAfter links) Rises [] numbers (λ before n is. is.rises) all),
  list_all-from_AllAfter (λ link. nat_lt link links) [] numbers (AllAfter-weaker (LinkNumberAfter links) (λ before n. nat_lt n links ≡ true) [] numbers (λ before n is. lt-ltb _ _ is.below) all),
)

-- the links of a pattern of a network are read
LinkNumberAfter-from_network : (links : ℕ) (numbers : List ℕ) → links ≤ 8192 → is_rising numbers ≡ true → list_all (λ link. nat_lt link links) numbers ≡ true → AllAfter (LinkNumberAfter links) [] numbers
LinkNumberAfter-from_network links numbers few rising below =
    AllAfter-weaker (λ before n. Rises before n × (nat_lt n links ≡ true)) (LinkNumberAfter links) [] numbers
    (λ before n is.
    let within : n < links = ltb-true _ _ is.1 in
    record { fits = omega arith; below = within; rises = is.0 })
    (AllAfter-both Rises (λ before n. nat_lt n links ≡ true) [] numbers (AllAfter-from_is_rising numbers rising) (AllAfter-from_list_all (λ link. nat_lt link links) [] numbers below))

-- the names of the patterns
pattern_names-from_read : (links : ℕ) (listed : List Pattern) → AllAfter (PatternAfter links) (none_pattern ∷ []) listed → are_names (map (λ pattern. pattern.name) (none_pattern ∷ listed)) ≡ true
pattern_names-from_read links listed all =
    let named = AllAfter-map (λ (pattern : Pattern). pattern.name) NameAfter (none_pattern ∷ []) listed
    (AllAfter-weaker (PatternAfter links) (λ before pattern. NameAfter (map (λ (one : Pattern). one.name) before) pattern.name) (none_pattern ∷ []) listed
    (λ before pattern is. (is.name, list_any-map (λ (one : Pattern). one.name) (bytes_eq pattern.name) before ∙ is.is_new)) all) in
    are_names-from_AllAfter (codes "none" ∷ map (λ (pattern : Pattern). pattern.name) listed) ((refl, refl), named)

-- the patterns
are_patterns-from_read : (links : ℕ) (listed : List Pattern) → AllAfter (PatternAfter links) (none_pattern ∷ []) listed → are_patterns links (none_pattern ∷ listed) ≡ true
are_patterns-from_read links listed all =
    list_all-from_AllAfter (is_listed_pattern links) (none_pattern ∷ []) listed
    (AllAfter-weaker (PatternAfter links) (λ before pattern. is_listed_pattern links pattern ≡ true) (none_pattern ∷ []) listed
    (λ before pattern is.
    let numbers = pattern_links-from_read links pattern.links is.numbers in
    and_from _ _ (and_from _ _ (lt-ltb _ _ is.some_link) numbers.0) numbers.1) all)

-- the first of patterns is `none` without links
none_is_first : (links : ℕ) (patterns : List Pattern) → are_patterns links patterns ≡ true → patterns ≡ none_pattern ∷ drop 1 patterns
none_is_first links [] are = absurd (false≢true are)
none_is_first links (none ∷ listed) are =
    let front = and_parts _ _ (and_parts (bytes_eq none.name (codes "none") && (length none.links == 0)) (list_all (is_listed_pattern links) listed) are).0 in
    let name : none.name ≡ codes "none" = (bytes_eq-Decides none.name (codes "none")).0 front.0 in
    let empty : none.links ≡ [] = nil_from_length none.links (eqb-true _ _ front.1) in
    let same : none ≡ none_pattern = ap (λ (n : List ℕ). record { name = n; links = none.links }) name ∙ ap (λ (ls : List ℕ). record { name = codes "none"; links = ls }) empty in
    ap (λ (first : Pattern). first ∷ listed) same

-- the listed patterns of a network are read
PatternAfter-from_network : (links : ℕ) (listed : List Pattern) → links ≤ 8192 → are_names (map (λ pattern. pattern.name) (none_pattern ∷ listed)) ≡ true → are_patterns links (none_pattern ∷ listed) ≡ true
    → AllAfter (PatternAfter links) (none_pattern ∷ []) listed
PatternAfter-from_network links listed few names are =
    let Named : List Pattern → Pattern → Type 0 = λ before pattern. NameAfter (map (λ (one : Pattern). one.name) before) pattern.name in
    let Listed : List Pattern → Pattern → Type 0 = λ before pattern. is_listed_pattern links pattern ≡ true in
    let named : AllAfter Named (none_pattern ∷ []) listed =
    AllAfter-from_map (λ (pattern : Pattern). pattern.name) NameAfter (none_pattern ∷ []) listed (AllAfter-from_are_names (codes "none" ∷ map (λ (pattern : Pattern). pattern.name) listed) names).1 in
    AllAfter-weaker (λ before pattern. Named before pattern × Listed before pattern) (PatternAfter links) (none_pattern ∷ []) listed
    (λ before pattern is.
    let upper = and_parts (nat_lt 0 (length pattern.links) && is_rising pattern.links) (list_all (λ link. nat_lt link links) pattern.links) is.1 in
    let lower = and_parts (nat_lt 0 (length pattern.links)) (is_rising pattern.links) upper.0 in
    let within : length pattern.links ≤ links = length-is_rising pattern.links links lower.1 upper.1 in
    record {
      name = is.0.0;
      is_new = sym (list_any-map (λ (one : Pattern). one.name) (bytes_eq pattern.name) before) ∙ is.0.1;
      count_fits = omega arith;
      some_link = ltb-true _ _ lower.0;
      few_links = within;
      numbers = LinkNumberAfter-from_network links pattern.links few lower.1 upper.1;
    })
    (AllAfter-both Named Listed (none_pattern ∷ []) listed named (AllAfter-from_list_all (is_listed_pattern links) (none_pattern ∷ []) listed are))

-- ---- the front

-- what is read up to the operands is a network
pub IsNetwork-from_read : (version : ℕ) (front : Front) → IsFrontRead version front → IsNetwork front.nodes front.links front.source front.sinks front.patterns
IsNetwork-from_read version front is =
    let nodes = length front.nodes in
    let listed = drop 1 front.patterns in
    let back : none_pattern ∷ listed ≡ front.patterns = sym is.patterns.none_first in
    let count : length front.patterns ≡ suc (length listed) = ap (λ (ps : List Pattern). length ps) is.patterns.none_first in
    record {
      node_names = are_names-from_AllAfter front.nodes is.nodes;
      link_names = link_names-from_read nodes front.links is.links;
      link_ends = link_ends-from_read nodes front.links is.links;
      source_node = is.source;
      some_sink = is.some_sink;
      sink_nodes = sink_nodes-from_read nodes front.source front.sinks is.sinks;
      distinct_sinks = distinct_sinks-from_read nodes front.source front.sinks is.sinks;
      pattern_names = subst (λ (ps : List Pattern). are_names (map (λ pattern. pattern.name) ps) ≡ true) back (pattern_names-from_read (length front.links) listed is.patterns.each_listed);
      pattern_links = subst (λ (ps : List Pattern). are_patterns (length front.links) ps ≡ true) back (are_patterns-from_read (length front.links) listed is.patterns.each_listed);
      few_nodes = is.few_nodes;
      few_links = is.few_links;
      few_patterns = omega (arith, count, is.patterns.few_listed);
    }

-- it has few demands
pub few_demands-from_read : (version : ℕ) (front : Front) → IsFrontRead version front → length front.sinks * length front.patterns ≤ 65536
few_demands-from_read version front is =
    let count : length front.patterns ≡ length (drop 1 front.patterns) + 1 = ap (λ (ps : List Pattern). length ps) is.patterns.none_first ∙ omega arith in
    rw count is.patterns.few_demands

-- a network with few demands and with links in order is read, over a field of the version
pub IsFrontRead-from_network : (version : ℕ) (front : Front) → has_field version front.field ≡ true → IsNetwork front.nodes front.links front.source front.sinks front.patterns
    → 1 ≤ front.rate → front.rate ≤ 32 → length front.sinks * length front.patterns ≤ 65536 → are_in_order [] front.links ≡ true → IsFrontRead version front
IsFrontRead-from_network version front says_field is some_rate low_rate few_demands order =
    let nodes = length front.nodes in
    let links = length front.links in
    let listed = drop 1 front.patterns in
    let first : front.patterns ≡ none_pattern ∷ listed = none_is_first links front.patterns is.pattern_links in
    let count : length front.patterns ≡ length listed + 1 = ap (λ (ps : List Pattern). length ps) first ∙ omega arith in
    let demands : length front.sinks * (length listed + 1) ≤ 65536 = rw count at few_demands in
    let sinks : length front.sinks ≤ nodes =
    length-are_distinct front.sinks nodes is.distinct_sinks (list_all-implied (is_sink_among nodes front.source) (λ sink. nat_lt sink nodes) front.sinks (λ sink among. (and_parts _ _ among).0) is.sink_nodes) in
    record {
      says_field = says_field;
      some_rate = some_rate;
      low_rate = low_rate;
      few_nodes = is.few_nodes;
      nodes = AllAfter-from_are_names front.nodes is.node_names;
      few_links = is.few_links;
      links = LinkAfter-from_network nodes front.links is.few_nodes is.link_names is.link_ends order;
      source_fits = omega (arith, is.source_node, is.few_nodes);
      source = is.source_node;
      some_sink = is.some_sink;
      few_sinks = omega (arith, sinks, is.few_nodes);
      sinks = SinkAfter-from_network nodes front.source front.sinks is.few_nodes is.sink_nodes is.distinct_sinks;
      patterns = record {
        few_listed = omega (arith, count, is.few_patterns);
        few_demands = demands;
        none_first = first;
        each_listed = PatternAfter-from_network links listed is.few_links
            (subst (λ (ps : List Pattern). are_names (map (λ pattern. pattern.name) ps) ≡ true) first is.pattern_names)
            (subst (λ (ps : List Pattern). are_patterns links ps ≡ true) first is.pattern_links);
      };
    }

-- ---- the decoders by the version

module _ {X Y : Type 0} (Fits : X → Y → Type 0) where
  -- items that fit one by one are as many
  EachFits-length : (xs : List X) (ys : List Y) → EachFits Fits xs ys → length xs ≡ length ys
  EachFits-length [] [] fit = refl
  EachFits-length [] (y ∷ ys) fit = absurd fit
  EachFits-length (x ∷ xs) [] fit = absurd fit
  EachFits-length (x ∷ xs) (y ∷ ys) fit = ap suc (EachFits-length xs ys fit.1)

  -- those at one place fit
  EachFits-at : (xs : List X) (ys : List Y) (d : X) (e : Y) (i : ℕ) → EachFits Fits xs ys → i < length ys → Fits (get_or xs i d) (get_or ys i e)
  EachFits-at [] [] d e i fit within = absurd (omega arith)
  EachFits-at [] (y ∷ ys) d e i fit within = absurd fit
  EachFits-at (x ∷ xs) [] d e i fit within = absurd fit
  EachFits-at (x ∷ xs) (y ∷ ys) d e zero fit within = fit.0
  EachFits-at (x ∷ xs) (y ∷ ys) d e (suc i) fit within = EachFits-at xs ys d e i fit.1 (omega arith)

  -- and one more of each
  EachFits-more : (xs : List X) (ys : List Y) (x : X) (y : Y) → EachFits Fits xs ys → Fits x y → EachFits Fits (xs ++ x ∷ []) (ys ++ y ∷ [])
  EachFits-more [] [] x y fit one = (one, tt)
  EachFits-more [] (z ∷ ys) x y fit one = absurd fit
  EachFits-more (z ∷ xs) [] x y fit one = absurd fit
  EachFits-more (z ∷ xs) (w ∷ ys) x y fit one = (fit.0, EachFits-more xs ys x y fit.1 one)

module _ (front : Front) where
  -- a decoder with links is that of one sink
  one_sink : (one other : ℕ) (decoder : Decoder) → 1 ≤ front.rate → IsDecoderRead front one decoder → IsDecoderRead front other decoder → one ≡ other
  one_sink one other decoder some_rate is is' = either decoder.links (omega (arith, is.link_count)) is.links is'.links
    where
      either : (links : List ℕ) → 0 < length links → AllAfter (DecoderLinkAfter front one) [] links → AllAfter (DecoderLinkAfter front other) [] links → one ≡ other
      either [] some all all' = absurd (omega arith)
      either (link ∷ links) some all all' = sym (head_of-leads_into front.links one link all.0.into) ∙ head_of-leads_into front.links other link all'.0.into

  module _ (all : List ℕ) where
    -- the decoder that a number names is that of its sink
    named_decoder : (passed later : List ℕ) (earlier : List Decoder) (demand : ℕ) (decoder : Decoder) → all ≡ passed ++ later → EachFits (IsDecoderRead front) passed earlier
        → same_of earlier decoder ≡ suc demand → IsDecoderRead front (slice_index all demand) decoder
    named_decoder passed later earlier demand decoder whole own same =
        let first = IsFirst-from_same earlier decoder demand same in
        let within : demand < length passed = omega (arith, first.below, EachFits-length (IsDecoderRead front) passed earlier own) in
        let sink : slice_index passed demand ≡ slice_index all demand = sym (get_or_append_left passed later 0 demand within) ∙ ap (λ (sinks : List ℕ). slice_index sinks demand) (sym whole) in
        subst (λ (d : Decoder). IsDecoderRead front (slice_index all demand) d) first.is
        (subst (λ (sink : ℕ). IsDecoderRead front sink (decoder_of earlier demand)) sink (EachFits-at (IsDecoderRead front) passed earlier 0 no_decoder demand own first.below))

    -- each decoder that is said in view of the earlier ones is that of its sink
    EachFits-from_shared : (passed later : List ℕ) (earlier decoders : List Decoder) → all ≡ passed ++ later → EachFits (IsDecoderRead front) passed earlier
        → FitsAfter (IsSharedRead front all) earlier later decoders → EachFits (IsDecoderRead front) later decoders
    EachFits-from_shared passed [] earlier [] whole own said = tt
    EachFits-from_shared passed [] earlier (decoder ∷ decoders) whole own said = absurd said
    EachFits-from_shared passed (sink ∷ later) earlier [] whole own said = absurd said
    EachFits-from_shared passed (sink ∷ later) earlier (decoder ∷ decoders) whole own said =
        let here = either (same_of earlier decoder) refl in (
          here,
          EachFits-from_shared (passed ++ sink ∷ []) later (earlier ++ decoder ∷ []) decoders (whole ∙ sym (append_assoc passed (sink ∷ []) later))
              (EachFits-more (IsDecoderRead front) passed earlier sink decoder own here) said.1,
        )
      where
        either : (same : ℕ) → same_of earlier decoder ≡ same → IsDecoderRead front sink decoder
        either zero is = said.0.own is
        either (suc demand) is =
            subst (λ (sink : ℕ). IsDecoderRead front sink decoder) (said.0.same_sink demand is) (named_decoder passed (sink ∷ later) earlier demand decoder whole own is)

    -- and the other way round
    FitsAfter-from_decoders : (passed later : List ℕ) (earlier decoders : List Decoder) → all ≡ passed ++ later → 1 ≤ front.rate → length earlier + length decoders ≤ 65536
        → EachFits (IsDecoderRead front) passed earlier → EachFits (IsDecoderRead front) later decoders → FitsAfter (IsSharedRead front all) earlier later decoders
    FitsAfter-from_decoders passed [] earlier [] whole some_rate few own each = tt
    FitsAfter-from_decoders passed [] earlier (decoder ∷ decoders) whole some_rate few own each = absurd each
    FitsAfter-from_decoders passed (sink ∷ later) earlier [] whole some_rate few own each = absurd each
    FitsAfter-from_decoders passed (sink ∷ later) earlier (decoder ∷ decoders) whole some_rate few own each = (
      record {
        fits = omega (arith, same_of-within earlier decoder);
        own = λ none. each.0;
        same_sink = λ demand is. one_sink (slice_index all demand) sink decoder some_rate (named_decoder passed (sink ∷ later) earlier demand decoder whole own is) each.0;
      },
      FitsAfter-from_decoders (passed ++ sink ∷ []) later (earlier ++ decoder ∷ []) decoders (whole ∙ sym (append_assoc passed (sink ∷ []) later)) some_rate
          (omega (arith, length-append earlier (decoder ∷ [])))
          (EachFits-more (IsDecoderRead front) passed earlier sink decoder own each.0) each.1,
    )

  -- a decoder of a demand has the size that the rate asks for
  pub has_size-from_read : (sink : ℕ) (decoder : Decoder) → IsDecoderRead front sink decoder → has_size front.rate decoder ≡ true
  has_size-from_read sink decoder is =
      and_from _ _ (and_from _ _ (eq-eqb _ _ is.link_count) (eq-eqb _ _ is.entry_count))
      (list_all-from_AllAfter (λ link. nat_lt link 65536) [] decoder.links
      (AllAfter-weaker (DecoderLinkAfter front sink) (λ before link. nat_lt link 65536 ≡ true) [] decoder.links (λ before link fit. lt-ltb _ _ fit.fits) is.links))

  -- and its entries are elements
  pub has_elements-from_read : (sink : ℕ) (decoder : Decoder) → IsDecoderRead front sink decoder → has_elements front.field decoder ≡ true
  has_elements-from_read sink decoder is =
      list_all-from_AllAfter (λ entry. nat_lt entry (size_of front.field)) [] decoder.entries
      (AllAfter-weaker (λ before n. n < size_of front.field) (λ before n. nat_lt n (size_of front.field) ≡ true) [] decoder.entries (λ before n below. lt-ltb _ _ below) is.entries)

  -- so have those of all demands
  pub have_size-from_read : (sinks : List ℕ) (decoders : List Decoder) → EachFits (IsDecoderRead front) sinks decoders → list_all (has_size front.rate) decoders ≡ true
  have_size-from_read [] [] each = refl
  have_size-from_read [] (decoder ∷ decoders) each = absurd each
  have_size-from_read (sink ∷ sinks) [] each = absurd each
  have_size-from_read (sink ∷ sinks) (decoder ∷ decoders) each = and_from _ _ (has_size-from_read sink decoder each.0) (have_size-from_read sinks decoders each.1)

-- each decoder that is said is that of its sink, in each version
pub EachFits-from_read : (version : ℕ) (front : Front) (decoders : List Decoder) → AreDecodersRead version front decoders → EachFits (IsDecoderRead front) (demand_sinks front) decoders
EachFits-from_read version front decoders =
    let sinks = demand_sinks front in
    elim (version == 1) as (λ first. MatchBool first (EachFits (IsDecoderRead front) sinks decoders) (FitsAfter (IsSharedRead front sinks) [] sinks decoders) → EachFits (IsDecoderRead front) sinks decoders) [
      | true ↦ λ said. said
      | false ↦ EachFits-from_shared front sinks [] sinks [] decoders refl tt
    ]

-- and the other way round
AreDecodersRead-from_each : (version : ℕ) (front : Front) (decoders : List Decoder) → 1 ≤ front.rate → length decoders ≤ 65536 → EachFits (IsDecoderRead front) (demand_sinks front) decoders
    → AreDecodersRead version front decoders
AreDecodersRead-from_each version front decoders some_rate few each =
    let sinks = demand_sinks front in
    elim (version == 1) as (λ first. MatchBool first (EachFits (IsDecoderRead front) sinks decoders) (FitsAfter (IsSharedRead front sinks) [] sinks decoders)) [
      | true ↦ each
      | false ↦ FitsAfter-from_decoders front sinks [] sinks [] decoders refl some_rate (omega arith) tt each
    ]

-- ---- the operands and the decoders of a code

module _ (net : Net) (rate : ℕ) (field : FieldKind) where
  -- the operands of a link
  are_operands-from_read : (link : Link) (operands : List Operand) → AreOperandsRead (front_of net rate field) link operands → are_operands net rate field link operands ≡ true
  are_operands-from_read link operands is =
      let front = front_of net rate field in
      let rising = is_rising-from_AllAfter (map (λ (operand : Operand). operand.from) operands)
      (AllAfter-map (λ (operand : Operand). operand.from) Rises [] operands
      (AllAfter-weaker (OperandAfter front link) (λ before operand. Rises (map (λ (one : Operand). one.from) before) operand.from) [] operands (λ before operand fit. fit.rises) is.each)) in
      let each = list_all-from_AllAfter (λ operand. is_source_of net rate link operand.from && nat_lt 0 operand.times && nat_lt operand.times (size_of field)) [] operands
      (AllAfter-weaker (OperandAfter front link) (λ before operand. (is_source_of net rate link operand.from && nat_lt 0 operand.times && nat_lt operand.times (size_of field)) ≡ true) [] operands
      (λ before operand fit. and_from _ _ (and_from _ _ fit.reads (lt-ltb _ _ fit.nonzero)) (lt-ltb _ _ fit.coefficient)) is.each) in
      and_from _ _ rising each

  -- the operands of all links
  are_operands_of-from_read : (links : List Link) (table : List (List Operand)) → EachFits (AreOperandsRead (front_of net rate field)) links table → are_operands_of net rate field links table ≡ true
  are_operands_of-from_read [] [] fit = refl
  are_operands_of-from_read [] (operands ∷ table) fit = absurd fit
  are_operands_of-from_read (link ∷ links) [] fit = absurd fit
  are_operands_of-from_read (link ∷ links) (operands ∷ table) fit = and_from _ _ (are_operands-from_read link operands fit.0) (are_operands_of-from_read links table fit.1)

  -- what a link may read has a low number
  reads_low : (link : Link) (n : ℕ) → rate ≤ 32 → length net.links ≤ 8192 → is_source_of net rate link n ≡ true → n < 8192
  reads_low link n low few reads = either (link.tail == net.source) reads
    where
      either : (b : Bool) → (if b then nat_lt n rate else leads_into net.links link.tail n) ≡ true → n < 8192
      either true h = omega (arith, ltb-true n rate h)
      either false h = omega (arith, link_within net.links link.tail n h)

  -- the operands of a link of a code are read
  AreOperandsRead-from_code : (link : Link) (operands : List Operand) → rate ≤ 32 → length net.links ≤ 8192 → are_operands net rate field link operands ≡ true → AreOperandsRead (front_of net rate field) link operands
  AreOperandsRead-from_code link operands low few are =
      let test : Operand → Bool = λ operand. is_source_of net rate link operand.from && nat_lt 0 operand.times && nat_lt operand.times (size_of field) in
      let numbers = map (λ (operand : Operand). operand.from) operands in
      let parts = and_parts (is_rising numbers) (list_all test operands) are in
      let Rising : List Operand → Operand → Type 0 = λ before operand. Rises (map (λ (one : Operand). one.from) before) operand.from in
      let Tested : List Operand → Operand → Type 0 = λ before operand. test operand ≡ true in
      let below : list_all (λ n. nat_lt n 8192) numbers ≡ true =
      list_all-map (λ n. nat_lt n 8192) (λ (operand : Operand). operand.from) operands
      ∙ list_all-implied test (λ operand. nat_lt operand.from 8192) operands
      (λ operand h. lt-ltb _ _ (reads_low link operand.from low few (and_parts (is_source_of net rate link operand.from) (nat_lt 0 operand.times) (and_parts _ _ h).0).0)) parts.1 in
      record {
        few_operands = omega (arith, length-is_rising numbers 8192 parts.0 below, length-map operands (λ (operand : Operand). operand.from));
        each = AllAfter-weaker (λ before operand. Rising before operand × Tested before operand) (OperandAfter (front_of net rate field) link) [] operands
            (λ before operand is.
            let upper = and_parts (is_source_of net rate link operand.from && nat_lt 0 operand.times) (nat_lt operand.times (size_of field)) is.1 in
            let lower = and_parts (is_source_of net rate link operand.from) (nat_lt 0 operand.times) upper.0 in
            let small : operand.from < 8192 = reads_low link operand.from low few lower.0 in
            record { fits = omega arith; rises = is.0; reads = lower.0; coefficient = ltb-true _ _ upper.1; nonzero = ltb-true _ _ lower.1 })
            (AllAfter-both Rising Tested [] operands (AllAfter-from_map (λ (operand : Operand). operand.from) Rises [] operands (AllAfter-from_is_rising numbers parts.0)) (AllAfter-from_list_all test [] operands parts.1));
      }

  -- the operands of all links of a code are read
  pub EachFits-from_operands_of_code : (links : List Link) (table : List (List Operand)) → rate ≤ 32 → length net.links ≤ 8192 → are_operands_of net rate field links table ≡ true → EachFits (AreOperandsRead (front_of net rate field)) links table
  EachFits-from_operands_of_code [] [] low few are = tt
  EachFits-from_operands_of_code [] (operands ∷ table) low few are = absurd (false≢true are)
  EachFits-from_operands_of_code (link ∷ links) [] low few are = absurd (false≢true are)
  EachFits-from_operands_of_code (link ∷ links) (operands ∷ table) low few are =
      let parts = and_parts _ _ are in
      (AreOperandsRead-from_code link operands low few parts.0, EachFits-from_operands_of_code links table low few parts.1)

  -- the decoder of a demand
  is_decoder-from_read : (sink : ℕ) (decoder : Decoder) → IsDecoderRead (front_of net rate field) sink decoder → is_decoder net rate field sink decoder ≡ true
  is_decoder-from_read sink decoder is =
      let front = front_of net rate field in
      let rising = is_rising-from_AllAfter decoder.links (AllAfter-weaker (DecoderLinkAfter front sink) Rises [] decoder.links (λ before n fit. fit.rises) is.links) in
      let into = list_all-from_AllAfter (leads_into net.links sink) [] decoder.links
      (AllAfter-weaker (DecoderLinkAfter front sink) (λ before n. leads_into net.links sink n ≡ true) [] decoder.links (λ before n fit. fit.into) is.links) in
      and_from _ _ (and_from _ _ (and_from _ _ (and_from _ _ (eq-eqb _ _ is.link_count) rising) into) (eq-eqb _ _ is.entry_count)) (has_elements-from_read front sink decoder is)

  -- the decoders of all demands
  are_decoders-from_read : (sinks : List ℕ) (decoders : List Decoder) → EachFits (IsDecoderRead (front_of net rate field)) sinks decoders → are_decoders net rate field sinks decoders ≡ true
  are_decoders-from_read [] [] fit = refl
  are_decoders-from_read [] (decoder ∷ decoders) fit = absurd fit
  are_decoders-from_read (sink ∷ sinks) [] fit = absurd fit
  are_decoders-from_read (sink ∷ sinks) (decoder ∷ decoders) fit = and_from _ _ (is_decoder-from_read sink decoder fit.0) (are_decoders-from_read sinks decoders fit.1)

  -- a decoder of a code is read
  IsDecoderRead-from_code : (sink : ℕ) (decoder : Decoder) → length net.links ≤ 8192 → is_decoder net rate field sink decoder ≡ true → IsDecoderRead (front_of net rate field) sink decoder
  IsDecoderRead-from_code sink decoder few is =
      let all_into = list_all (leads_into net.links sink) decoder.links in
      let counted = length decoder.links == rate in
      let rising = is_rising decoder.links in
      let p4 = and_parts (counted && rising && all_into && (length decoder.entries == rate * rate)) (list_all (λ entry. nat_lt entry (size_of field)) decoder.entries) is in
      let p3 = and_parts (counted && rising && all_into) (length decoder.entries == rate * rate) p4.0 in
      let p2 = and_parts (counted && rising) all_into p3.0 in
      let p1 = and_parts counted rising p2.0 in
      let Into : List ℕ → ℕ → Type 0 = λ before n. leads_into net.links sink n ≡ true in
      record {
        link_count = eqb-true _ _ p1.0;
        links = AllAfter-weaker (λ before n. Rises before n × Into before n) (DecoderLinkAfter (front_of net rate field) sink) [] decoder.links
            (λ before n both. record { fits = omega (arith, link_within net.links sink n both.1); rises = both.0; into = both.1 })
            (AllAfter-both Rises Into [] decoder.links (AllAfter-from_is_rising decoder.links p1.1) (AllAfter-from_list_all (leads_into net.links sink) [] decoder.links p2.1));
        entry_count = eqb-true _ _ p3.1;
        entries = AllAfter-weaker (λ before n. nat_lt n (size_of field) ≡ true) (λ before n. n < size_of field) [] decoder.entries (λ before n below. ltb-true _ _ below)
            (AllAfter-from_list_all (λ entry. nat_lt entry (size_of field)) [] decoder.entries p4.1);
      }

  -- the decoders of a code are read
  pub EachFits-from_decoders_of_code : (sinks : List ℕ) (decoders : List Decoder) → length net.links ≤ 8192 → are_decoders net rate field sinks decoders ≡ true → EachFits (IsDecoderRead (front_of net rate field)) sinks decoders
  EachFits-from_decoders_of_code [] [] few are = tt
  EachFits-from_decoders_of_code [] (decoder ∷ decoders) few are = absurd (false≢true are)
  EachFits-from_decoders_of_code (sink ∷ sinks) [] few are = absurd (false≢true are)
  EachFits-from_decoders_of_code (sink ∷ sinks) (decoder ∷ decoders) few are =
      let parts = and_parts _ _ are in
      (IsDecoderRead-from_code sink decoder few parts.0, EachFits-from_decoders_of_code sinks decoders few parts.1)

  -- so there is one for each demand
  pub length-decoders_of_code : (decoders : List Decoder) → length net.links ≤ 8192 → are_decoders net rate field (sinks_of_demands net) decoders ≡ true → length decoders ≡ demand_count net
  length-decoders_of_code decoders few are =
      let sinks = sinks_of_demands net in
      omega (arith, length-sinks_of_demands net, EachFits-length (IsDecoderRead (front_of net rate field)) sinks decoders (EachFits-from_decoders_of_code sinks decoders few are))

  -- and they are read in each version
  pub AreDecodersRead-from_code : (version : ℕ) (decoders : List Decoder) → length net.links ≤ 8192 → 1 ≤ rate → demand_count net ≤ 65536 → are_decoders net rate field (sinks_of_demands net) decoders ≡ true
      → AreDecodersRead version (front_of net rate field) decoders
  AreDecodersRead-from_code version decoders few some_rate few_demands are =
      AreDecodersRead-from_each version (front_of net rate field) decoders some_rate (omega (arith, few_demands, length-decoders_of_code decoders few are))
      (EachFits-from_decoders_of_code (sinks_of_demands net) decoders few are)

  -- what is read with the parts of a network makes a draft with it
  pub IsDraft-from_read : (version : ℕ) (operands : List (List Operand)) → net.field ≡ choice_of field → net.wanted ≡ None
      → IsFrontRead version (front_of net rate field) → EachFits (AreOperandsRead (front_of net rate field)) net.links operands → IsDraft net rate field operands
  IsDraft-from_read version operands named unwanted front links = record {
    some_rate = front.some_rate;
    low_rate = front.low_rate;
    few_demands = few_demands-from_read version (front_of net rate field) front;
    link_order = link_order-from_read (length net.nodes) net.links front.links;
    link_operands = are_operands_of-from_read net.links operands links;
    named_field = named;
    no_wanted = unwanted;
  }

  -- and with decoders a code
  pub IsCode-from_read : (version : ℕ) (operands : List (List Operand)) (decoders : List Decoder) → net.field ≡ choice_of field → net.wanted ≡ None
      → IsFrontRead version (front_of net rate field) → EachFits (AreOperandsRead (front_of net rate field)) net.links operands
      → EachFits (IsDecoderRead (front_of net rate field)) (sinks_of_demands net) decoders → IsCode net rate field operands decoders
  IsCode-from_read version operands decoders named unwanted front links demands = record {
    draft = IsDraft-from_read version operands named unwanted front links;
    demand_decoders = are_decoders-from_read (sinks_of_demands net) decoders demands;
  }
