-- Readers of the front, of the operands and of the decoders.
use Rattle.std.specs.Prelude.{◌≡◌, ℕ, zero, suc, ◌+◌, ◌-◌, ◌*◌, ◌<◌, ◌≤◌, true, false, not, ◌==◌, List, [], ◌∷◌, ◌++◌, length, map, drop, slice_index, if◌then◌else◌}
use Rattle.std.specs.Bool.{MatchBool}
use Rattle.std.specs.List.{concat, flat_map}
use Rattle.std.specs.Str.{bytes_eq}
use Rattle.std.proofs.Common.{refl, sym, subst, ap, ◌∙◌, append_assoc, append-nil, arith}
use Rattle.std.proofs.lemmas.Bool.{not-false, not_from_true, ltb-true, lt-ltb, eqb-true, eqb-false, eq-eqb, ne_eqb}
use Rattle.std.proofs.lemmas.List.Folds.{concat-append}
use Rattle.std.proofs.lemmas.Slice.Eq.{bytes_eq-Decides}
use Rattle.gf_tables.specs.Product.{bytes_of_element, mark_of, size_of}
use Rattle.gf_tables.specs.declared.kind.FieldKind.{FieldKind}
use Rattle.net_model.specs.Lists.{is_among}
use Rattle.net_model.specs.declared.Link.{Link}
use Rattle.node_program.specs.Code.{leads_into}
use Rattle.node_program.specs.declared.Operand.{Operand}
use Rattle.node_program.specs.declared.Decoder.{Decoder}
use Rattle.code_items.specs.Items.{Item, byte_item, number_item, element_item, name_item, link_items, pattern_items, operand_items, operand_list_items, decoder_items, decoder_table_items, demand_items, shared_table_items, decoders_items}
use Rattle.code_items.specs.Reading.{Rest, Front, item, element_at, is_above_last, mark_at, has_field, front_at, may_read, operand_at, operands_at_link, decoder_at, decoder_link_at, decoders_at, demand_sinks, same_conditions, new_decoder_at, named_decoder_at, shared_decoder_at, shared_decoders_at, decoder_table_at, any, reads_of, Conditions}
use Rattle.code_items.specs.Sharing.{is_shared, same_of, decoder_of, shares}
use Rattle.code_items.specs.Spelling.{front_items_in}
use Rattle.code_items.proofs.Readers.{ok_of, IsReader, NoneHolds, AreNotMemory, AllAfter, EachFits, FitsAfter, spelled_after, item_takes, item_again, item_not_memory, empty_reader, then_reader, same_reader, repeated_reader, each_reader, each_after_reader}
use Rattle.code_items.proofs.ItemReaders.{AreConditions, checked_reader, byte_reader, number_reader, long_reader, element_reader}
use Rattle.code_items.proofs.FrontReaders.{NameAfter, LinkAfter, SinkAfter, ArePatternsRead, concat-map, counted_reader, count_conditions, field_reader, rate_reader, nodes_reader, links_reader, source_reader, sinks_reader, patterns_reader}
use Rattle.code_items.proofs.SharingLaws.{IsFirst-from_same, same_of-none, same_of-first_demand, is_shared-from_none}
use Rattle.code_items.specs.declared.refusal.CodeRefusal.TheVariants.{BadMagic, BadVersion, NotRising, ZeroCoefficient, BadOperand, Written}

-- ---- the mark and the version

-- when the mark is refused
abbrev mark_conditions : List ℕ → List ℕ → Conditions
mark_conditions mark bytes = (not (bytes_eq bytes mark), BadMagic) ∷ []

-- the mark alone
only_mark_reader : (mark : List ℕ) → length mark ≡ 4 → IsReader (λ rest. item 4 rest (mark_conditions mark)) (λ bytes. bytes) (λ bytes. bytes ≡ mark)
only_mark_reader mark four = record {
  takes = λ rest bytes left fits e.
      let t = item_takes 4 rest (mark_conditions mark) bytes left fits e in
      (t.takes, (bytes_eq-Decides bytes mark).0 (not-false _ t.none_holds.0));
  again = λ at more bytes is.
      let size : length bytes ≡ 4 = ap (λ (text : List ℕ). length text) is ∙ four in
      item_again 4 at bytes more (mark_conditions mark) size (not_from_true _ ((bytes_eq-Decides bytes mark).1 is), tt)
      ∙ ap (λ (n : ℕ). ok_of (bytes, record { at = at + n; bytes = more })) (sym size);
  not_memory = λ rest. item_not_memory 4 rest (mark_conditions mark) (λ text. (refl, tt));
}

-- the version
version_conditions : (versions : List ℕ) → AreConditions (λ rest n. (not (is_among versions n), BadVersion) ∷ []) (λ n. is_among versions n ≡ true)
version_conditions versions = record {
  to = λ rest n none. not-false _ none.0;
  from = λ rest n is. (not_from_true _ is, tt);
  not_memory = λ rest n. (refl, tt);
}

-- the mark, and a version that it allows
pub mark_reader : (mark versions : List ℕ) → length mark ≡ 4 → ((v : ℕ) → is_among versions v ≡ true → v < 256)
    → IsReader (mark_at mark versions) (λ version. mark ++ byte_item version) (λ version. is_among versions version ≡ true)
unfolding mark_at
mark_reader mark versions four small =
    same_reader (then_reader (λ version. mark) (only_mark_reader mark four) (λ bytes. byte_reader (version_conditions versions)) (λ bytes version is more. sym is))
    (λ version fit. refl) (λ version fit. fit.1.1) (λ version is. (refl, (small version is, is)))

-- ---- the front

-- what the items of the front say one by one
pub record IsFrontRead (version : ℕ) (front : Front) : Type 0 where
  pub says_field : has_field version front.field ≡ true
  pub some_rate : 1 ≤ front.rate
  pub low_rate : front.rate ≤ 32
  pub few_nodes : length front.nodes ≤ 4096
  pub nodes : AllAfter NameAfter [] front.nodes
  pub few_links : length front.links ≤ 8192
  pub links : AllAfter (LinkAfter (length front.nodes)) [] front.links
  pub source_fits : front.source < 65536
  pub source : front.source < length front.nodes
  pub some_sink : 0 < length front.sinks
  pub few_sinks : length front.sinks ≤ 4096
  pub sinks : AllAfter (SinkAfter (length front.nodes) front.source) [] front.sinks
  pub patterns : ArePatternsRead (length front.links) (length front.sinks) front.patterns

-- the items of each of these are spelled one after another
pub concat-flat_map : {X : Type 0} (items : X → List Item) (xs : List X) → concat (flat_map items xs) ≡ flat_map (λ x. concat (items x)) xs
concat-flat_map items [] = refl
concat-flat_map items (x ∷ xs) = concat-append (items x) (flat_map items xs) ∙ ap (λ (t : List ℕ). concat (items x) ++ t) (concat-flat_map items xs)

-- an item for each of these, and further items
concat-map-append : {X : Type 0} (spell : X → List ℕ) (xs : List X) (items : List Item) → concat (map spell xs ++ items) ≡ flat_map spell xs ++ concat items
concat-map-append spell xs items = concat-append (map spell xs) items ∙ ap (λ (t : List ℕ). t ++ concat items) (concat-map spell xs)

-- the items of each of these, and further items
pub concat-flat_map-append : {X : Type 0} (some : X → List Item) (xs : List X) (items : List Item) → concat (flat_map some xs ++ items) ≡ flat_map (λ x. concat (some x)) xs ++ concat items
concat-flat_map-append some xs items = concat-append (flat_map some xs) items ∙ ap (λ (t : List ℕ). t ++ concat items) (concat-flat_map some xs)

-- the texts of the front in a row
in_a_row : (field rate nodes nodes' links links' source sinks sinks' listed listed' : List ℕ)
    → field ++ (rate ++ ((nodes ++ nodes') ++ ((links ++ links') ++ (source ++ ((sinks ++ sinks') ++ ((listed ++ listed') ++ []))))))
    ≡ field ++ (rate ++ (nodes ++ (nodes' ++ (links ++ (links' ++ (source ++ (sinks ++ (sinks' ++ (listed ++ listed')))))))))
in_a_row field rate nodes nodes' links links' source sinks sinks' listed listed' = simp (append_assoc, append-nil)

-- the items of the front as texts
front_text : (front : Front)
    → byte_item (mark_of front.field) ++ (byte_item front.rate ++ (number_item (length front.nodes) ++ (flat_map name_item front.nodes ++ (number_item (length front.links)
    ++ (flat_map (λ link. concat (link_items link)) front.links ++ (number_item front.source ++ (number_item (length front.sinks) ++ (flat_map number_item front.sinks
    ++ (number_item (length (drop 1 front.patterns)) ++ flat_map (λ pattern. concat (pattern_items pattern)) (drop 1 front.patterns))))))))))
    ≡ concat (front_items_in front)
unfolding front_items_in
front_text front =
    let listed = drop 1 front.patterns in
    let last = number_item (length listed) ∷ flat_map pattern_items listed in
    let sinks = map number_item front.sinks ++ last in
    let middle = number_item front.source ∷ number_item (length front.sinks) ∷ sinks in
    let links = number_item (length front.links) ∷ (flat_map link_items front.links ++ middle) in
    ap (λ (t : List ℕ). byte_item (mark_of front.field) ++ (byte_item front.rate ++ (number_item (length front.nodes) ++ t)))
    (sym (concat-map-append name_item front.nodes links
    ∙ ap (λ (t : List ℕ). flat_map name_item front.nodes ++ (number_item (length front.links) ++ t))
    (concat-flat_map-append link_items front.links middle
    ∙ ap (λ (t : List ℕ). flat_map (λ link. concat (link_items link)) front.links ++ (number_item front.source ++ (number_item (length front.sinks) ++ t)))
    (concat-map-append number_item front.sinks last
    ∙ ap (λ (t : List ℕ). flat_map number_item front.sinks ++ (number_item (length listed) ++ t)) (concat-flat_map pattern_items listed)))))

-- all behind the version and up to the operands
pub front_reader : (version : ℕ) → IsReader (front_at version) (λ front. concat (front_items_in front)) (IsFrontRead version)
unfolding front_at
front_reader version =
    same_reader
    (then_reader (λ (f : Front). f.field) (field_reader version)
    (λ field. then_reader (λ (f : Front). f.rate) rate_reader
    (λ rate. then_reader (λ (f : Front). f.nodes) nodes_reader
    (λ nodes. then_reader (λ (f : Front). f.links) (links_reader (length nodes))
    (λ links. then_reader (λ (f : Front). f.source) (source_reader (length nodes))
    (λ source. then_reader (λ (f : Front). f.sinks) (sinks_reader (length nodes) source)
    (λ sinks. then_reader (λ (f : Front). f.patterns) (patterns_reader (length links) (length sinks))
    (λ patterns. empty_reader (record { field = field; rate = rate; nodes = nodes; links = links; source = source; sinks = sinks; patterns = patterns }))
    (λ patterns f fit more. ap (λ (f : Front). f.patterns) more))
    (λ sinks f fit more. ap (λ (f : Front). f.sinks) more.1))
    (λ source f fit more. ap (λ (f : Front). f.source) more.1.1))
    (λ links f fit more. ap (λ (f : Front). f.links) more.1.1.1))
    (λ nodes f fit more. ap (λ (f : Front). f.nodes) more.1.1.1.1))
    (λ rate f fit more. ap (λ (f : Front). f.rate) more.1.1.1.1.1))
    (λ field f fit more. ap (λ (f : Front). f.field) more.1.1.1.1.1.1))
    (λ f fit.
    in_a_row (byte_item (mark_of f.field)) (byte_item f.rate) (number_item (length f.nodes)) (flat_map name_item f.nodes) (number_item (length f.links))
    (flat_map (λ link. concat (link_items link)) f.links) (number_item f.source) (number_item (length f.sinks)) (flat_map number_item f.sinks)
    (number_item (length (drop 1 f.patterns))) (flat_map (λ pattern. concat (pattern_items pattern)) (drop 1 f.patterns))
    ∙ front_text f)
    (λ f fit. record {
      says_field = fit.0;
      some_rate = fit.1.0.0;
      low_rate = fit.1.0.1;
      few_nodes = fit.1.1.0.0;
      nodes = fit.1.1.0.1;
      few_links = fit.1.1.1.0.0;
      links = fit.1.1.1.0.1;
      source_fits = fit.1.1.1.1.0.0;
      source = fit.1.1.1.1.0.1;
      some_sink = fit.1.1.1.1.1.0.0;
      few_sinks = fit.1.1.1.1.1.0.1.0;
      sinks = fit.1.1.1.1.1.0.1.1;
      patterns = fit.1.1.1.1.1.1.0;
    })
    (λ f is. (is.says_field, ((is.some_rate, is.low_rate), ((is.few_nodes, is.nodes), ((is.few_links, is.links), ((is.source_fits, is.source), ((is.some_sink, (is.few_sinks, is.sinks)), (is.patterns, refl))))))))

-- ---- the operands

-- an operand that names what the link may read, above the one before, with a nonzero element
pub record OperandAfter (front : Front) (link : Link) (earlier : List Operand) (operand : Operand) : Type 0 where
  pub fits : operand.from < 65536
  pub rises : is_above_last (map (λ one. one.from) earlier) operand.from ≡ true
  pub reads : may_read front link operand.from ≡ true
  pub coefficient : operand.times < size_of front.field
  pub nonzero : 0 < operand.times

-- what a link may read, above the one before
from_conditions : (front : Front) (link : Link) (earlier : List Operand)
    → AreConditions (λ rest n. (not (is_above_last (reads_of earlier) n), NotRising rest.at) ∷ (not (may_read front link n), BadOperand rest.at) ∷ [])
    (λ n. (is_above_last (reads_of earlier) n ≡ true) × (may_read front link n ≡ true))
from_conditions front link earlier = record {
  to = λ rest n none. (not-false _ none.0, not-false _ none.1.0);
  from = λ rest n fit. (not_from_true _ fit.0, (not_from_true _ fit.1, tt));
  not_memory = λ rest n. (refl, (refl, tt));
}

-- a coefficient
times_conditions : AreConditions (λ rest n. (n == 0, ZeroCoefficient rest.at) ∷ []) (λ n. 0 < n)
times_conditions = record {
  to = λ rest n none.
      let apart = eqb-false n 0 none.0 in
      omega arith;
  from = λ rest n above. (ne_eqb n 0 (λ e. absurd (omega arith)), tt);
  not_memory = λ rest n. (refl, tt);
}

-- one operand
operand_reader : (front : Front) (link : Link) (earlier : List Operand) → IsReader (operand_at front link earlier) (λ operand. concat (operand_items front.field operand)) (OperandAfter front link earlier)
unfolding operand_at
operand_reader front link earlier =
    same_reader
    (then_reader (λ (operand : Operand). operand.from) (number_reader (from_conditions front link earlier))
    (λ from. then_reader (λ (operand : Operand). operand.times) (element_reader front.field times_conditions)
    (λ times. empty_reader (record { from = from; times = times }))
    (λ times operand fit more. ap (λ (o : Operand). o.times) more))
    (λ from operand fit more. ap (λ (o : Operand). o.from) more.1))
    (λ operand fit. refl)
    (λ operand fit. record { fits = fit.0.0; rises = fit.0.1.0; reads = fit.0.1.1; coefficient = fit.1.0.0; nonzero = fit.1.0.1 })
    (λ operand fit. ((fit.fits, (fit.rises, fit.reads)), ((fit.coefficient, fit.nonzero), refl)))

-- what the items of a link's operands say one by one
pub record AreOperandsRead (front : Front) (link : Link) (operands : List Operand) : Type 0 where
  pub few_operands : length operands ≤ 8192
  pub each : AllAfter (OperandAfter front link) [] operands

-- the operands of a link behind their number
pub operands_reader : (front : Front) (link : Link) → IsReader (operands_at_link front link) (λ operands. concat (operand_list_items front.field operands)) (AreOperandsRead front link)
unfolding operands_at_link
operands_reader front link =
    same_reader
    (counted_reader (number_reader (count_conditions 8192)) (operand_at front link) (λ operand. concat (operand_items front.field operand)) (OperandAfter front link) (operand_reader front link) [])
    (λ operands fit. ap (λ (t : List ℕ). number_item (length operands) ++ t) (sym (concat-flat_map (operand_items front.field) operands)))
    (λ operands fit. record { few_operands = fit.0.1; each = fit.1.1 })
    (λ operands fit. ((omega (arith, fit.few_operands), fit.few_operands), (refl, fit.each)))

-- ---- the decoders

-- a link into the sink, above the one before
pub record DecoderLinkAfter (front : Front) (sink : ℕ) (earlier : List ℕ) (link : ℕ) : Type 0 where
  pub fits : link < 65536
  pub rises : is_above_last earlier link ≡ true
  pub into : leads_into front.links sink link ≡ true

-- a link into the sink, above the one before
decoder_link_conditions : (front : Front) (sink : ℕ) (earlier : List ℕ)
    → AreConditions (λ rest n. (not (is_above_last earlier n), NotRising rest.at) ∷ (not (leads_into front.links sink n), BadOperand rest.at) ∷ [])
    (λ n. (is_above_last earlier n ≡ true) × (leads_into front.links sink n ≡ true))
decoder_link_conditions front sink earlier = record {
  to = λ rest n none. (not-false _ none.0, not-false _ none.1.0);
  from = λ rest n fit. (not_from_true _ fit.0, (not_from_true _ fit.1, tt));
  not_memory = λ rest n. (refl, (refl, tt));
}

-- one link of a decoder
decoder_link_reader : (front : Front) (sink : ℕ) (earlier : List ℕ)
    → IsReader (decoder_link_at front.links sink earlier) number_item (DecoderLinkAfter front sink earlier)
decoder_link_reader front sink earlier =
    same_reader (number_reader (decoder_link_conditions front sink earlier)) (λ n fit. refl)
    (λ n fit. record { fits = fit.0; rises = fit.1.0; into = fit.1.1 })
    (λ n fit. (fit.fits, (fit.rises, fit.into)))

-- every number
no_conditions : AreConditions (λ rest n. []) (λ (n : ℕ). Unit {0})
no_conditions = record {
  to = λ rest n none. tt;
  from = λ rest n fit. tt;
  not_memory = λ rest n. tt;
}

-- one entry of a matrix
entry_reader : (field : FieldKind) (earlier : List ℕ) → IsReader (any (element_at field)) (element_item field) (λ n. n < size_of field)
entry_reader field earlier = same_reader (element_reader field no_conditions) (λ n fit. refl) (λ n fit. fit.0) (λ n fit. (fit, tt))

-- what the items of a decoder say one by one
pub record IsDecoderRead (front : Front) (sink : ℕ) (decoder : Decoder) : Type 0 where
  pub link_count : length decoder.links ≡ front.rate
  pub links : AllAfter (DecoderLinkAfter front sink) [] decoder.links
  pub entry_count : length decoder.entries ≡ front.rate * front.rate
  pub entries : AllAfter (λ earlier n. n < size_of front.field) [] decoder.entries

-- the decoder of a demand
pub decoder_reader : (front : Front) (sink : ℕ) → IsReader (decoder_at front sink) (λ decoder. concat (decoder_items front.field decoder)) (IsDecoderRead front sink)
unfolding decoder_at
decoder_reader front sink =
    same_reader
    (then_reader (λ (decoder : Decoder). decoder.links)
    (repeated_reader (decoder_link_at front.links sink)
    number_item (DecoderLinkAfter front sink) (decoder_link_reader front sink) front.rate [])
    (λ links. then_reader (λ (decoder : Decoder). decoder.entries)
    (repeated_reader (λ _. any (element_at front.field)) (element_item front.field) (λ earlier n. n < size_of front.field) (entry_reader front.field) (front.rate * front.rate) [])
    (λ entries. empty_reader (record { links = links; entries = entries }))
    (λ entries decoder fit more. ap (λ (d : Decoder). d.entries) more))
    (λ links decoder fit more. ap (λ (d : Decoder). d.links) more.1))
    (λ decoder fit.
    ap (λ (t : List ℕ). flat_map number_item decoder.links ++ t) (append-nil (flat_map (element_item front.field) decoder.entries) ∙ sym (concat-map (element_item front.field) decoder.entries))
    ∙ sym (concat-map-append number_item decoder.links (map (element_item front.field) decoder.entries)))
    (λ decoder fit. record { link_count = fit.0.0; links = fit.0.1.1; entry_count = fit.1.0.0; entries = fit.1.0.1.1 })
    (λ decoder fit. ((fit.link_count, (refl, fit.links)), ((fit.entry_count, (refl, fit.entries)), refl)))

-- ---- the decoders of demands that share them

-- a decoder that none before is
new_conditions : (field : FieldKind) (earlier : List Decoder) → AreConditions (λ left decoder. (is_shared earlier decoder, Written (left.at - bytes_of_element field)) ∷ []) (λ decoder. is_shared earlier decoder ≡ false)
new_conditions field earlier = record {
  to = λ left decoder none. none.0;
  from = λ left decoder new. (new, tt);
  not_memory = λ left decoder. (refl, tt);
}

-- what a number that names a demand has to be: 0, or one more than that of an earlier demand of the sink, the first with its decoder
abbrev NamesFirst : List ℕ → List Decoder → ℕ → ℕ → Type 0
NamesFirst sinks earlier sink zero = Unit {0}
NamesFirst sinks earlier sink (suc demand) = (demand < length earlier) × (slice_index sinks demand ≡ sink) × (shares earlier demand ≡ false)

-- such numbers
same_conditions_are : (sinks : List ℕ) (earlier : List Decoder) (sink : ℕ) → AreConditions (λ rest. same_conditions sinks earlier sink rest.at) (NamesFirst sinks earlier sink)
same_conditions_are sinks earlier sink = record { to = to; from = from; not_memory = not_memory }
  where
    to : (rest : Rest) (n : ℕ) → NoneHolds (same_conditions sinks earlier sink rest.at n) → NamesFirst sinks earlier sink n
    to rest zero none = tt
    to rest (suc demand) none = (ltb-true _ _ (not-false _ none.0), eqb-true _ _ (not-false _ none.1.0), none.1.1.0)

    from : (rest : Rest) (n : ℕ) → NamesFirst sinks earlier sink n → NoneHolds (same_conditions sinks earlier sink rest.at n)
    from rest zero names = tt
    from rest (suc demand) names = (not_from_true _ (lt-ltb _ _ names.0), (not_from_true _ (eq-eqb _ _ names.1), (names.2, tt)))

    not_memory : (rest : Rest) (n : ℕ) → AreNotMemory (same_conditions sinks earlier sink rest.at n)
    not_memory rest zero = tt
    not_memory rest (suc demand) = (refl, (refl, (refl, tt)))

-- the decoder that a number stands for: the one that it names, or a new one
abbrev IsNamed : Front → List Decoder → ℕ → ℕ → Decoder → Type 0
IsNamed front earlier sink zero decoder = IsDecoderRead front sink decoder × (is_shared earlier decoder ≡ false)
IsNamed front earlier sink (suc demand) decoder = decoder ≡ decoder_of earlier demand

-- what stands behind such a number
abbrev named_items : FieldKind → ℕ → Decoder → List Item
named_items field same decoder = if same == 0 then decoder_items field decoder else []

-- the decoder that a number stands for
named_decoder_reader : (front : Front) (earlier : List Decoder) (sink same : ℕ)
    → IsReader (named_decoder_at front earlier sink same) (λ decoder. concat (named_items front.field same decoder)) (IsNamed front earlier sink same)
unfolding new_decoder_at
named_decoder_reader front earlier sink zero = checked_reader (decoder_reader front sink) (new_conditions front.field earlier)
named_decoder_reader front earlier sink (suc demand) =
    same_reader (empty_reader (decoder_of earlier demand))
    (λ decoder is. rw (ne_eqb (suc demand) 0 (λ e. absurd (omega arith))) refl)
    (λ decoder is. is) (λ decoder is. is)

-- the number is that of the decoder
same_of-named : (front : Front) (sinks : List ℕ) (earlier : List Decoder) (sink same : ℕ) (decoder : Decoder) → NamesFirst sinks earlier sink same → IsNamed front earlier sink same decoder → same_of earlier decoder ≡ same
same_of-named front sinks earlier sink zero decoder names named = same_of-none earlier decoder named.1
same_of-named front sinks earlier sink (suc demand) decoder names named = same_of-first_demand earlier decoder demand (record { below = names.0; is = sym named; first = names.2 })

-- what the items of a demand say one by one, behind those with earlier decoders
pub record IsSharedRead (front : Front) (sinks : List ℕ) (earlier : List Decoder) (sink : ℕ) (decoder : Decoder) : Type 0 where
  pub fits : same_of earlier decoder < 4294967296
  pub own : same_of earlier decoder ≡ 0 → IsDecoderRead front sink decoder
  pub same_sink : (demand : ℕ) → same_of earlier decoder ≡ suc demand → slice_index sinks demand ≡ sink

-- what is said of a demand, by its number
named-from_read : (front : Front) (sinks : List ℕ) (earlier : List Decoder) (sink : ℕ) (decoder : Decoder) → IsSharedRead front sinks earlier sink decoder
    → NamesFirst sinks earlier sink (same_of earlier decoder) × IsNamed front earlier sink (same_of earlier decoder) decoder
named-from_read front sinks earlier sink decoder read = go (same_of earlier decoder) refl
  where
    go : (same : ℕ) → same_of earlier decoder ≡ same → NamesFirst sinks earlier sink same × IsNamed front earlier sink same decoder
    go zero is = (tt, (read.own is, is_shared-from_none earlier decoder is))
    go (suc demand) is =
        let first = IsFirst-from_same earlier decoder demand is in
        ((first.below, read.same_sink demand is, first.first), sym first.is)

-- the decoder of a demand behind those with earlier decoders
pub shared_decoder_reader : (front : Front) (sinks : List ℕ) (earlier : List Decoder) (sink : ℕ)
    → IsReader (shared_decoder_at front sinks earlier sink) (λ decoder. concat (demand_items front.field (same_of earlier decoder) decoder)) (IsSharedRead front sinks earlier sink)
unfolding shared_decoder_at
shared_decoder_reader front sinks earlier sink =
    same_reader
    (then_reader (same_of earlier) (long_reader (same_conditions_are sinks earlier sink)) (named_decoder_reader front earlier sink)
    (λ same decoder fit named. same_of-named front sinks earlier sink same decoder fit.1 named))
    (λ decoder fit. refl)
    (λ decoder fit. record {
      fits = fit.0.0;
      own = λ none. (subst (λ (same : ℕ). IsNamed front earlier sink same decoder) none fit.1).0;
      same_sink = λ demand is. (subst (NamesFirst sinks earlier sink) is fit.0.1).1;
    })
    (λ decoder read.
    let named = named-from_read front sinks earlier sink decoder read in
    ((read.fits, named.0), named.1))

-- ---- the decoders of all demands

-- the items of demands as texts
shared_table_text : (field : FieldKind) (earlier decoders : List Decoder)
    → spelled_after (λ earlier decoder. concat (demand_items field (same_of earlier decoder) decoder)) earlier decoders ≡ concat (shared_table_items field earlier decoders)
unfolding shared_table_items
shared_table_text field earlier [] = refl
shared_table_text field earlier (decoder ∷ decoders) =
    let here = demand_items field (same_of earlier decoder) decoder in
    ap (λ (t : List ℕ). concat here ++ t) (shared_table_text field (earlier ++ decoder ∷ []) decoders)
    ∙ sym (concat-append here (shared_table_items field (earlier ++ decoder ∷ []) decoders))

-- what the items of all demands say one by one, by the version
abbrev pub AreDecodersRead : ℕ → Front → List Decoder → Type 0
AreDecodersRead version front decoders =
    MatchBool (version == 1) (EachFits (IsDecoderRead front) (demand_sinks front) decoders)
    (FitsAfter (IsSharedRead front (demand_sinks front)) [] (demand_sinks front) decoders)

-- the decoders of all demands, by the version
pub decoder_table_reader : (version : ℕ) (front : Front) → IsReader (decoder_table_at version front) (λ decoders. concat (decoders_items version front.field decoders)) (AreDecodersRead version front)
decoder_table_reader version front =
    let sinks = demand_sinks front in
    elim (version == 1) as (λ first. IsReader (if first then decoders_at front sinks else shared_decoders_at front sinks)
    (λ decoders. concat (if first then decoder_table_items front.field decoders else shared_table_items front.field [] decoders))
    (λ decoders. MatchBool first (EachFits (IsDecoderRead front) sinks decoders) (FitsAfter (IsSharedRead front sinks) [] sinks decoders))) [
      | true ↦
          same_reader (each_reader (decoder_at front) (λ decoder. concat (decoder_items front.field decoder)) (IsDecoderRead front) (decoder_reader front) sinks)
          (λ decoders fit. sym (concat-flat_map (decoder_items front.field) decoders)) (λ decoders fit. fit) (λ decoders fit. fit)
      | false ↦
          same_reader (each_after_reader (shared_decoder_at front sinks) (λ earlier decoder. concat (demand_items front.field (same_of earlier decoder) decoder)) (IsSharedRead front sinks) (shared_decoder_reader front sinks) sinks [])
          (λ decoders fit. shared_table_text front.field [] decoders) (λ decoders fit. fit.1) (λ decoders fit. (refl, fit))
    ]
