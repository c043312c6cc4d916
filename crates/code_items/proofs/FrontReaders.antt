-- Readers of the parts of a code file up to the operands.
use Rattle.std.specs.Prelude.{◌≡◌, ℕ, ◌+◌, ◌*◌, ◌<◌, ◌≤◌, Bool, true, false, not, ◌||◌, ◌==◌, nat_lt, List, [], ◌∷◌, ◌++◌, length, map, drop, Option, Some, None, unwrap_or, if◌then◌else◌}
use Rattle.std.specs.List.{concat, flat_map, list_any}
use Rattle.std.specs.Option.{option_map_or}
use Rattle.std.specs.Str.{bytes_eq}
use Rattle.std.proofs.Common.{refl, sym, ap, ◌∙◌, append-nil, arith}
use Rattle.std.proofs.lemmas.Option.{same_Some}
use Rattle.std.proofs.lemmas.Bool.{or_parts, or_from, not-false, not_from_true, ltb-true, ltb-false, lt-ltb, le-ltb, eqb-true, eqb-false, ne_eqb, false≢true}
use Rattle.gf_tables.specs.Product.{kind_of_mark, mark_of}
use Rattle.gf_tables.specs.declared.kind.FieldKind.{FieldKind}
use Rattle.gf_tables.specs.declared.kind.FieldKind.TheVariants.{Eight, Nine, Sixteen}
use Rattle.net_model.specs.Lists.{is_among}
use Rattle.net_model.specs.Name.{is_name}
use Rattle.net_model.specs.declared.Link.{Link}
use Rattle.net_model.specs.declared.Pattern.{Pattern}
use Rattle.code_items.specs.Items.{byte_item, number_item, name_item, link_items, pattern_items}
use Rattle.code_items.specs.Reading.{Rest, Reading, ◌>>=◌, repeated_at, is_above_last, has_field, is_field, field_at, rate_at, nodes_at, link_at, links_at, source_at, sinks_at, pattern_at, patterns_at, failed_at, sink_at, other_name_at, tails_of, none_pattern}
use Rattle.code_items.proofs.Readers.{IsReader, AllAfter, empty_reader, then_reader, same_reader, repeated_reader}
use Rattle.code_items.proofs.ItemReaders.{AreConditions, byte_reader, number_reader, name_reader}
use Rattle.code_items.specs.declared.refusal.CodeRefusal.TheVariants.{BadField, BadRate, BadIndex, OutOfOrder, NotRising, TooMany}

-- the items of a list are spelled one after another
pub concat-map : {X : Type 0} (spell : X → List ℕ) (xs : List X) → concat (map spell xs) ≡ flat_map spell xs
concat-map spell [] = refl
concat-map spell (x ∷ xs) = ap (λ (t : List ℕ). spell x ++ t) (concat-map spell xs)

-- so many items behind their number and behind the earlier ones
pub counted_reader : {X : Type 0} {count_at : Rest → Reading ℕ} {FitsCount : ℕ → Type 0} → IsReader count_at number_item FitsCount
    → (part : List X → Rest → Reading X) (spell : X → List ℕ) (Fits : List X → X → Type 0) → ((earlier : List X) → IsReader (part earlier) spell (Fits earlier)) → (earlier : List X)
    → IsReader (λ rest. count_at rest >>= λ count. repeated_at part count.0 earlier count.1) (λ all. number_item (length (drop (length earlier) all)) ++ flat_map spell (drop (length earlier) all))
    (λ all. FitsCount (length (drop (length earlier) all)) × ((all ≡ earlier ++ drop (length earlier) all) × AllAfter Fits earlier (drop (length earlier) all)))
counted_reader counts part spell Fits each earlier =
    same_reader (then_reader (λ all. length (drop (length earlier) all)) counts (λ n. repeated_reader part spell Fits each n earlier) (λ n all fit more. more.0))
    (λ all fit. refl) (λ all fit. (fit.0, fit.1.1)) (λ all fit. (fit.0, (refl, fit.1)))

-- ---- conditions

-- a number below a limit
pub index_conditions : (limit : ℕ) → AreConditions (λ rest n. (not (nat_lt n limit), BadIndex rest.at) ∷ []) (λ n. n < limit)
index_conditions limit = record {
  to = λ rest n none. ltb-true _ _ (not-false _ none.0);
  from = λ rest n below. (not_from_true _ (lt-ltb _ _ below), tt);
  not_memory = λ rest n. (refl, tt);
}

-- a number up to a limit
pub count_conditions : (limit : ℕ) → AreConditions (λ rest n. (nat_lt limit n, TooMany rest.at) ∷ []) (λ n. n ≤ limit)
count_conditions limit = record {
  to = λ rest n none. ltb-false _ _ none.0;
  from = λ rest n within. (le-ltb _ _ within, tt);
  not_memory = λ rest n. (refl, tt);
}

-- a number above 0 and up to a limit
pub some_conditions : (limit : ℕ) → AreConditions (λ rest n. (n == 0, BadIndex rest.at) ∷ (nat_lt limit n, TooMany rest.at) ∷ []) (λ n. (0 < n) × (n ≤ limit))
some_conditions limit = record {
  to = λ rest n none.
      let apart = eqb-false n 0 none.0 in
      (omega arith, ltb-false _ _ none.1.0);
  from = λ rest n within. (ne_eqb n 0 (λ e. absurd (omega arith)), (le-ltb _ _ within.1, tt));
  not_memory = λ rest n. (refl, (refl, tt));
}

-- ---- the field and the rate

-- a kind of field is that of its mark
kind_of_own_mark : (field : FieldKind) → kind_of_mark (mark_of field) ≡ Some field
kind_of_own_mark Eight = refl
kind_of_own_mark Nine = refl
kind_of_own_mark Sixteen = refl

-- a number that is a mark is that of its kind of field
mark_of_kind : (n : ℕ) (field : FieldKind) → kind_of_mark n ≡ Some field → mark_of field ≡ n
mark_of_kind n field is = either (n == 8) (n == 9) (n == 16) (eqb-true n 8) (eqb-true n 9) (eqb-true n 16) is
  where
    either : (eight nine sixteen : Bool) → (eight ≡ true → n ≡ 8) → (nine ≡ true → n ≡ 9) → (sixteen ≡ true → n ≡ 16)
        → (if eight then Some Eight else if nine then Some Nine else if sixteen then Some Sixteen else None) ≡ Some field → mark_of field ≡ n
    either true nine sixteen e f g is = rw (e refl) (sym (ap mark_of (same_Some Eight field is)))
    either false true sixteen e f g is = rw (f refl) (sym (ap mark_of (same_Some Nine field is)))
    either false false true e f g is = rw (g refl) (sym (ap mark_of (same_Some Sixteen field is)))
    either false false false e f g is = absurd cc

-- a number that is a mark has a kind, which is a field of the version
field_of_number : (version n : ℕ) → is_field version n ≡ true → (field : FieldKind) × (kind_of_mark n ≡ Some field) × (has_field version field ≡ true)
field_of_number version n is = go (kind_of_mark n) refl is
  where
    go : (kind : Option FieldKind) → kind_of_mark n ≡ kind → option_map_or (has_field version) kind false ≡ true → (field : FieldKind) × (kind_of_mark n ≡ Some field) × (has_field version field ≡ true)
    go None e is = absurd (false≢true is)
    go (Some field) e is = (field, e, is)

-- a mark fits a byte
mark_small : (field : FieldKind) → mark_of field < 256
mark_small Eight = omega arith
mark_small Nine = omega arith
mark_small Sixteen = omega arith

-- the marks of the fields of a version
field_conditions : (version : ℕ) → AreConditions (λ rest n. (not (is_field version n), BadField) ∷ []) (λ n. is_field version n ≡ true)
field_conditions version = record {
  to = λ rest n none. not-false _ none.0;
  from = λ rest n is. (not_from_true _ is, tt);
  not_memory = λ rest n. (refl, tt);
}

-- the field
pub field_reader : (version : ℕ) → IsReader (field_at version) (λ field. byte_item (mark_of field)) (λ field. has_field version field ≡ true)
unfolding field_at
field_reader version =
    same_reader (then_reader mark_of (byte_reader (field_conditions version)) (λ n. empty_reader (unwrap_or (kind_of_mark n) Eight))
    (λ n field fit is.
    let of = field_of_number version n fit.1 in
    let same : field ≡ of.0 = is ∙ ap (λ (kind : Option FieldKind). unwrap_or kind Eight) of.1 in
    ap mark_of same ∙ mark_of_kind n of.0 of.1))
    (λ field fit. refl)
    (λ field fit.
    let of = field_of_number version (mark_of field) fit.0.1 in
    let same : field ≡ of.0 = same_Some field of.0 (sym (kind_of_own_mark field) ∙ of.1) in
    ap (has_field version) same ∙ of.2)
    (λ field fit.
    let own = kind_of_own_mark field in
    ((mark_small field, ap (λ (kind : Option FieldKind). option_map_or (has_field version) kind false) own ∙ fit), sym (ap (λ (kind : Option FieldKind). unwrap_or kind Eight) own)))

-- the limits of the rate
rate_conditions : AreConditions (λ rest n. ((n == 0) || nat_lt 32 n, BadRate) ∷ []) (λ n. (1 ≤ n) × (n ≤ 32))
rate_conditions = record {
  to = λ rest n none.
      let neither = or_parts (n == 0) (nat_lt 32 n) none.0 in
      let apart = eqb-false n 0 neither.0 in
      (omega arith, ltb-false _ _ neither.1);
  from = λ rest n within. (or_from _ _ (ne_eqb n 0 (λ e. absurd (omega arith))) (le-ltb _ _ within.1), tt);
  not_memory = λ rest n. (refl, tt);
}

-- the rate
pub rate_reader : IsReader rate_at byte_item (λ n. (1 ≤ n) × (n ≤ 32))
rate_reader = same_reader (byte_reader rate_conditions) (λ n fit. refl) (λ n fit. fit.1) (λ n fit. (omega (arith, fit.1), fit))

-- ---- nodes

-- a name that none before has
abbrev pub NameAfter : List (List ℕ) → List ℕ → Type 0
NameAfter earlier name = (is_name name ≡ true) × (list_any (bytes_eq name) earlier ≡ false)

-- the nodes behind their number
pub nodes_reader : IsReader nodes_at (λ nodes. number_item (length nodes) ++ flat_map name_item nodes) (λ nodes. (length nodes ≤ 4096) × AllAfter NameAfter [] nodes)
unfolding nodes_at
nodes_reader =
    same_reader (counted_reader (number_reader (count_conditions 4096)) other_name_at name_item NameAfter (λ earlier. name_reader (λ name. list_any (bytes_eq name) earlier)) [])
    (λ nodes fit. refl) (λ nodes fit. (fit.0.1, fit.1.1)) (λ nodes fit. ((omega (arith, fit.0), fit.0), (refl, fit.1)))

-- ---- links

-- a link of a new name whose head is no tail so far
pub record LinkAfter (nodes : ℕ) (earlier : List Link) (link : Link) : Type 0 where
  pub name : is_name link.name ≡ true
  pub is_new : list_any (λ one. bytes_eq link.name one.name) earlier ≡ false
  pub tail_fits : link.tail < 65536
  pub tail : link.tail < nodes
  pub head_fits : link.head < 65536
  pub head : link.head < nodes
  pub leads_on : ((link.head == link.tail) || is_among (map (λ one. one.tail) earlier) link.head) ≡ false

-- a node that is neither the tail of the link nor that of an earlier one
head_conditions : (nodes : ℕ) (earlier : List Link) (tail : ℕ)
    → AreConditions (λ rest n. (not (nat_lt n nodes), BadIndex rest.at) ∷ ((n == tail) || is_among (tails_of earlier) n, OutOfOrder (length earlier)) ∷ [])
    (λ n. (n < nodes) × (((n == tail) || is_among (tails_of earlier) n) ≡ false))
head_conditions nodes earlier tail = record {
  to = λ rest n none. (ltb-true _ _ (not-false _ none.0), none.1.0);
  from = λ rest n fit. (not_from_true _ (lt-ltb _ _ fit.0), (fit.1, tt));
  not_memory = λ rest n. (refl, (refl, tt));
}

-- one link
pub link_reader : (nodes : ℕ) (earlier : List Link) → IsReader (link_at nodes earlier) (λ link. concat (link_items link)) (LinkAfter nodes earlier)
unfolding link_at
link_reader nodes earlier =
    same_reader
    (then_reader (λ (link : Link). link.name) (name_reader (λ name. list_any (λ link. bytes_eq name link.name) earlier))
    (λ name. then_reader (λ (link : Link). link.tail) (number_reader (index_conditions nodes))
    (λ tail. then_reader (λ (link : Link). link.head) (number_reader (head_conditions nodes earlier tail))
    (λ head. empty_reader (record { name = name; tail = tail; head = head }))
    (λ head link fit more. ap (λ (l : Link). l.head) more))
    (λ tail link fit more. ap (λ (l : Link). l.tail) more.1))
    (λ name link fit more. ap (λ (l : Link). l.name) more.1.1))
    (λ link fit. refl)
    (λ link fit. record { name = fit.0.0; is_new = fit.0.1; tail_fits = fit.1.0.0; tail = fit.1.0.1; head_fits = fit.1.1.0.0; head = fit.1.1.0.1.0; leads_on = fit.1.1.0.1.1 })
    (λ link fit. ((fit.name, fit.is_new), ((fit.tail_fits, fit.tail), ((fit.head_fits, (fit.head, fit.leads_on)), refl))))

-- the links behind their number
pub links_reader : (nodes : ℕ) → IsReader (links_at nodes) (λ links. number_item (length links) ++ flat_map (λ link. concat (link_items link)) links)
    (λ links. (length links ≤ 8192) × AllAfter (LinkAfter nodes) [] links)
unfolding links_at
links_reader nodes =
    same_reader (counted_reader (number_reader (count_conditions 8192)) (link_at nodes) (λ link. concat (link_items link)) (LinkAfter nodes) (link_reader nodes) [])
    (λ links fit. refl) (λ links fit. (fit.0.1, fit.1.1)) (λ links fit. ((omega (arith, fit.0), fit.0), (refl, fit.1)))

-- ---- the source and the sinks

-- the source
pub source_reader : (nodes : ℕ) → IsReader (source_at nodes) number_item (λ n. (n < 65536) × (n < nodes))
source_reader nodes = number_reader (index_conditions nodes)

-- a node other than the source and the sinks before
pub record SinkAfter (nodes source : ℕ) (earlier : List ℕ) (sink : ℕ) : Type 0 where
  pub fits : sink < 65536
  pub node : sink < nodes
  pub not_source : (sink == source) ≡ false
  pub is_new : is_among earlier sink ≡ false

-- a node that is neither the source nor an earlier sink
sink_conditions : (nodes source : ℕ) (earlier : List ℕ)
    → AreConditions (λ rest n. (not (nat_lt n nodes) || (n == source) || is_among earlier n, BadIndex rest.at) ∷ [])
    (λ n. (n < nodes) × (((n == source) ≡ false) × (is_among earlier n ≡ false)))
sink_conditions nodes source earlier = record {
  to = λ rest n none.
      let upper = or_parts (not (nat_lt n nodes) || (n == source)) (is_among earlier n) none.0 in
      let lower = or_parts (not (nat_lt n nodes)) (n == source) upper.0 in
      (ltb-true _ _ (not-false _ lower.0), (lower.1, upper.1));
  from = λ rest n fit. (or_from _ _ (or_from _ _ (not_from_true _ (lt-ltb _ _ fit.0)) fit.1.0) fit.1.1, tt);
  not_memory = λ rest n. (refl, tt);
}

-- one sink
pub sink_reader : (nodes source : ℕ) (earlier : List ℕ)
    → IsReader (sink_at nodes source earlier) number_item (SinkAfter nodes source earlier)
sink_reader nodes source earlier =
    same_reader (number_reader (sink_conditions nodes source earlier)) (λ n fit. refl)
    (λ n fit. record { fits = fit.0; node = fit.1.0; not_source = fit.1.1.0; is_new = fit.1.1.1 })
    (λ n fit. (fit.fits, (fit.node, (fit.not_source, fit.is_new))))

-- the sinks behind their number
pub sinks_reader : (nodes source : ℕ) → IsReader (sinks_at nodes source) (λ sinks. number_item (length sinks) ++ flat_map number_item sinks)
    (λ sinks. (0 < length sinks) × ((length sinks ≤ 4096) × AllAfter (SinkAfter nodes source) [] sinks))
unfolding sinks_at
sinks_reader nodes source =
    same_reader
    (counted_reader (number_reader (some_conditions 4096)) (sink_at nodes source)
    number_item (SinkAfter nodes source) (sink_reader nodes source) [])
    (λ sinks fit. refl) (λ sinks fit. (fit.0.1.0, (fit.0.1.1, fit.1.1))) (λ sinks fit. ((omega (arith, fit.1.0), (fit.0, fit.1.0)), (refl, fit.1.1)))

-- ---- patterns

-- a number below a limit and above the one before
pub record LinkNumberAfter (links : ℕ) (earlier : List ℕ) (link : ℕ) : Type 0 where
  pub fits : link < 65536
  pub below : link < links
  pub rises : is_above_last earlier link ≡ true

-- a link above the one before
link_number_conditions : (links : ℕ) (earlier : List ℕ)
    → AreConditions (λ rest n. (not (nat_lt n links), BadIndex rest.at) ∷ (not (is_above_last earlier n), NotRising rest.at) ∷ [])
    (λ n. (n < links) × (is_above_last earlier n ≡ true))
link_number_conditions links earlier = record {
  to = λ rest n none. (ltb-true _ _ (not-false _ none.0), not-false _ none.1.0);
  from = λ rest n fit. (not_from_true _ (lt-ltb _ _ fit.0), (not_from_true _ fit.1, tt));
  not_memory = λ rest n. (refl, (refl, tt));
}

-- one link of a pattern
link_number_reader : (links : ℕ) (earlier : List ℕ)
    → IsReader (failed_at links earlier) number_item (LinkNumberAfter links earlier)
link_number_reader links earlier =
    same_reader (number_reader (link_number_conditions links earlier)) (λ n fit. refl)
    (λ n fit. record { fits = fit.0; below = fit.1.0; rises = fit.1.1 })
    (λ n fit. (fit.fits, (fit.below, fit.rises)))

-- a pattern of a new name with some links that rise
pub record PatternAfter (links : ℕ) (earlier : List Pattern) (pattern : Pattern) : Type 0 where
  pub name : is_name pattern.name ≡ true
  pub is_new : list_any (λ one. bytes_eq pattern.name one.name) earlier ≡ false
  pub count_fits : length pattern.links < 65536
  pub some_link : 0 < length pattern.links
  pub few_links : length pattern.links ≤ links
  pub numbers : AllAfter (LinkNumberAfter links) [] pattern.links

-- one listed pattern
pub pattern_reader : (links : ℕ) (earlier : List Pattern) → IsReader (pattern_at links earlier) (λ pattern. concat (pattern_items pattern)) (PatternAfter links earlier)
unfolding pattern_at
pattern_reader links earlier =
    same_reader
    (then_reader (λ (pattern : Pattern). pattern.name) (name_reader (λ name. list_any (λ pattern. bytes_eq name pattern.name) earlier))
    (λ name. then_reader (λ (pattern : Pattern). length pattern.links) (number_reader (some_conditions links))
    (λ count. then_reader (λ (pattern : Pattern). pattern.links)
    (repeated_reader (failed_at links)
    number_item (LinkNumberAfter links) (link_number_reader links) count [])
    (λ failed. empty_reader (record { name = name; links = failed }))
    (λ failed pattern fit more. ap (λ (p : Pattern). p.links) more))
    (λ count pattern fit more. more.0.0))
    (λ name pattern fit more. ap (λ (p : Pattern). p.name) more.1.1))
    (λ pattern fit. ap (λ (t : List ℕ). name_item pattern.name ++ (number_item (length pattern.links) ++ t)) (append-nil (flat_map number_item pattern.links) ∙ sym (concat-map number_item pattern.links)))
    (λ pattern fit. record { name = fit.0.0; is_new = fit.0.1; count_fits = fit.1.0.0; some_link = fit.1.0.1.0; few_links = fit.1.0.1.1; numbers = fit.1.1.0.1.1 })
    (λ pattern fit. ((fit.name, fit.is_new), ((fit.count_fits, (fit.some_link, fit.few_links)), ((refl, (refl, fit.numbers)), refl))))

-- the limits of the number of listed patterns
patterns_conditions : (sinks : ℕ) → AreConditions (λ rest n. (nat_lt 4095 n || nat_lt 65536 (sinks * (n + 1)), TooMany rest.at) ∷ []) (λ n. (n ≤ 4095) × (sinks * (n + 1) ≤ 65536))
patterns_conditions sinks = record {
  to = λ rest n none.
      let neither = or_parts (nat_lt 4095 n) (nat_lt 65536 (sinks * (n + 1))) none.0 in
      (ltb-false _ _ neither.0, ltb-false _ _ neither.1);
  from = λ rest n fit. (or_from _ _ (le-ltb _ _ fit.0) (le-ltb _ _ fit.1), tt);
  not_memory = λ rest n. (refl, tt);
}

-- `none` and the listed patterns
pub record ArePatternsRead (links sinks : ℕ) (patterns : List Pattern) : Type 0 where
  pub few_listed : length (drop 1 patterns) ≤ 4095
  pub few_demands : sinks * (length (drop 1 patterns) + 1) ≤ 65536
  pub none_first : patterns ≡ none_pattern ∷ drop 1 patterns
  pub each_listed : AllAfter (PatternAfter links) (none_pattern ∷ []) (drop 1 patterns)

-- the listed patterns behind their number
pub patterns_reader : (links sinks : ℕ) → IsReader (patterns_at links sinks) (λ patterns. number_item (length (drop 1 patterns)) ++ flat_map (λ pattern. concat (pattern_items pattern)) (drop 1 patterns))
    (ArePatternsRead links sinks)
unfolding patterns_at
patterns_reader links sinks =
    same_reader (counted_reader (number_reader (patterns_conditions sinks)) (pattern_at links) (λ pattern. concat (pattern_items pattern)) (PatternAfter links) (pattern_reader links) (none_pattern ∷ []))
    (λ patterns fit. refl)
    (λ patterns fit. record { few_listed = fit.0.1.0; few_demands = fit.0.1.1; none_first = fit.1.0; each_listed = fit.1.1 })
    (λ patterns fit. ((omega (arith, fit.few_listed), (fit.few_listed, fit.few_demands)), (fit.none_first, fit.each_listed)))
