-- A combination network is a network.
use Rattle.std.specs.Prelude.{◌≡◌, ℕ, zero, suc, ◌+◌, ◌*◌, ◌^◌, ◌<◌, ◌≤◌, true, false, ◌&&◌, nat_eq, nat_le, nat_lt, List, [], ◌∷◌, ◌++◌, codes, decimal, length, map}
use Rattle.std.specs.List.{AllByRecursion, list_all, list_any, range_with_len}
use Rattle.std.specs.Str.{bytes_eq}
use Rattle.std.proofs.Common.{refl, ap, ◌∙◌, arith}
use Rattle.std.proofs.lemmas.Bool.{and_from, and_parts, lt-ltb, ne_eqb, not_from_false, or_from}
use Rattle.std.proofs.lemmas.List.{length-append, length-map}
use Rattle.std.proofs.lemmas.List.Folds.{list_all-append, list_any-append}
use Rattle.std.proofs.lemmas.List.FromFn.{length-map-range_with_len, length-range_with_len}
use Rattle.net_model.specs.Lists.{are_distinct, is_rising}
use Rattle.net_model.specs.Name.{is_name}
use Rattle.net_model.specs.Network.{IsNetwork, are_names, is_link_among, is_sink_among}
use Rattle.net_model.specs.declared.Link.{Link}
use Rattle.net_model.specs.declared.Pattern.{Pattern}
use Rattle.net_maker.specs.Combination.{entry_link, links, node_names, numbered, pair_name, patterns, sink_link, sink_links, sinks}
use Rattle.net_maker.specs.Fits.{Fits}
use Rattle.net_maker.specs.Names.{IsLetter}
use Rattle.net_maker.specs.Subsets.{binomial, subsets_of}
use Rattle.net_maker.proofs.NameLaws.{is_name-numbered, is_name-pair, letters-apart, numbered-apart, pairs-apart}
use Rattle.net_maker.proofs.SubsetLaws.{IsSetOf, above, binomial-some, length-subsets_of, range_of, subsets_of-each}

-- ---- letters with numbers

numbered-later : (letter a b count : ℕ) → a < b → b + count ≤ 2 ^ 64 → list_any (bytes_eq (numbered letter a)) (map (numbered letter) (range_with_len b count)) ≡ false
numbered-later letter a b zero below small = refl
numbered-later letter a b (suc count) below small =
    or_from _ _ (numbered-apart letter a b (omega arith) (omega arith) (λ same. omega (arith, same))) (numbered-later letter a (b + 1) count (omega arith) (omega arith))

numbered-distinct : (letter a count : ℕ) → a + count ≤ 2 ^ 64 → are_distinct bytes_eq (map (numbered letter) (range_with_len a count)) ≡ true
numbered-distinct letter a zero small = refl
numbered-distinct letter a (suc count) small =
    and_from _ _ (not_from_false _ (numbered-later letter a (a + 1) count (omega arith) (omega arith))) (numbered-distinct letter (a + 1) count (omega arith))

numbered-names : (letter a count : ℕ) → IsLetter letter → a + count ≤ 2 ^ 32 → list_all is_name (map (numbered letter) (range_with_len a count)) ≡ true
numbered-names letter a zero is small = refl
numbered-names letter a (suc count) is small =
    and_from _ _ (is_name-numbered letter a is (omega arith)) (numbered-names letter (a + 1) count is (omega arith))

other_letter : (x : ℕ) (text : List ℕ) (letter a count : ℕ) → (x ≡ letter → ⊥) → list_any (bytes_eq (x ∷ text)) (map (numbered letter) (range_with_len a count)) ≡ false
other_letter x text letter a zero apart = refl
other_letter x text letter a (suc count) apart =
    or_from _ _ (letters-apart x letter text (decimal a) apart) (other_letter x text letter (a + 1) count apart)

-- two kinds of names, each distinct
two_letters : (x y a count b more : ℕ) → (x ≡ y → ⊥) → a + count ≤ 2 ^ 64 → b + more ≤ 2 ^ 64
    → are_distinct bytes_eq (map (numbered x) (range_with_len a count) ++ map (numbered y) (range_with_len b more)) ≡ true
two_letters x y a zero b more apart small few = numbered-distinct y b more few
two_letters x y a (suc count) b more apart small few =
    and_from _ _
    (not_from_false _
    (list_any-append (bytes_eq (numbered x a)) (map (numbered x) (range_with_len (a + 1) count)) (map (numbered y) (range_with_len b more))
    ∙ or_from _ _ (numbered-later x a (a + 1) count (omega arith) (omega arith)) (other_letter x (decimal a) y b more apart)))
    (two_letters x y (a + 1) count b more apart (omega arith) few)

node_names-are_names : (n count : ℕ) → n < 2 ^ 32 → count < 2 ^ 32 → are_names (node_names n count) ≡ true
node_names-are_names n count small few =
    let middles = map (numbered 109) (range_with_len 1 n) in
    let sinks = map (numbered 116) (range_with_len 1 count) in
    and_from _ _
    (and_from _ _ refl
    (list_all-append is_name middles sinks
    ∙ and_from _ _ (numbered-names 109 1 n (omega arith, omega arith) (omega arith)) (numbered-names 116 1 count (omega arith, omega arith) (omega arith))))
    (and_from _ _
    (not_from_false _
    (list_any-append (bytes_eq (codes "s")) middles sinks
    ∙ or_from _ _ (other_letter 115 [] 109 1 n (λ same. omega (arith, same))) (other_letter 115 [] 116 1 count (λ same. omega (arith, same)))))
    (two_letters 109 116 1 n 1 count (λ same. omega (arith, same)) (omega arith) (omega arith)))

-- ---- links into sinks

abbrev names_of : List Link → List (List ℕ)
names_of links = map (λ link. link.name) links

-- what holds of each number of a range
pub each_of : (P : ℕ → Type 0) (first bound : ℕ) (set : List ℕ) → list_all (λ x. nat_le first x && nat_lt x bound) set ≡ true → ((m : ℕ) → first ≤ m → m < bound → P m) → AllByRecursion P set
each_of P first bound [] within holds = tt
each_of P first bound (x ∷ set) within holds =
    let parts = and_parts _ _ within in
    let ends = range_of first bound x parts.0 in
    (holds x ends.0 ends.1, each_of P first bound set parts.1 holds)

none_in_set : (text : List ℕ) (n sink : ℕ) (set : List ℕ) (rest : List Link) → AllByRecursion (λ m. bytes_eq text (pair_name sink m) ≡ false) set → list_any (bytes_eq text) (names_of rest) ≡ false
    → list_any (bytes_eq text) (names_of (map (sink_link n sink) set ++ rest)) ≡ false
none_in_set text n sink [] rest apart none = none
none_in_set text n sink (x ∷ set) rest apart none = or_from _ _ apart.0 (none_in_set text n sink set rest apart.1 none)

none_in_sets : (text : List ℕ) (n sink k bound : ℕ) (sets : List (List ℕ)) → AllByRecursion (IsSetOf 1 bound k) sets
    → ((j m : ℕ) → sink ≤ j → j < sink + length sets → m < bound → bytes_eq text (pair_name j m) ≡ false) → list_any (bytes_eq text) (names_of (sink_links n sink sets)) ≡ false
none_in_sets text n sink k bound [] are apart = refl
none_in_sets text n sink k bound (set ∷ sets) are apart =
    none_in_set text n sink set (sink_links n (sink + 1) sets)
    (each_of (λ m. bytes_eq text (pair_name sink m) ≡ false) 1 bound set are.0.within (λ m from below. apart sink m (omega arith) (omega arith) below))
    (none_in_sets text n (sink + 1) k bound sets are.1 (λ j m from below small. apart j m (omega arith) (omega arith) small))

set-distinct : (n sink first bound : ℕ) (set : List ℕ) (rest : List Link) → bound ≤ 2 ^ 64 → sink < 2 ^ 64 → is_rising set ≡ true → list_all (λ x. nat_le first x && nat_lt x bound) set ≡ true
    → ((m : ℕ) → m < bound → list_any (bytes_eq (pair_name sink m)) (names_of rest) ≡ false) → are_distinct bytes_eq (names_of rest) ≡ true
    → are_distinct bytes_eq (names_of (map (sink_link n sink) set ++ rest)) ≡ true
set-distinct n sink first bound [] rest small few rising within apart distinct = distinct
set-distinct n sink first bound (x ∷ set) rest small few rising within apart distinct =
    let ups = and_parts _ _ rising in
    let ins = and_parts _ _ within in
    let here = range_of first bound x ins.0 in
    let low : x < bound = here.1 in
    and_from _ _
    (not_from_false _
    (none_in_set (pair_name sink x) n sink set rest
    (each_of (λ m. bytes_eq (pair_name sink x) (pair_name sink m) ≡ false) (x + 1) bound set (above first bound x set ups.0 ins.1)
    (λ m from below. pairs-apart sink sink x m few few (omega arith) (omega arith) (λ same. omega (arith, from, same.1))))
    (apart x low)))
    (set-distinct n sink first bound set rest small few ups.1 ins.1 apart distinct)

sets-distinct : (n sink k bound : ℕ) (sets : List (List ℕ)) → bound ≤ 2 ^ 64 → sink + length sets ≤ 2 ^ 64 → AllByRecursion (IsSetOf 1 bound k) sets → are_distinct bytes_eq (names_of (sink_links n sink sets)) ≡ true
sets-distinct n sink k bound [] small few are = refl
sets-distinct n sink k bound (set ∷ sets) small few are =
    set-distinct n sink 1 bound set (sink_links n (sink + 1) sets) small (omega arith) are.0.rising are.0.within
    (λ m below. none_in_sets (pair_name sink m) n (sink + 1) k bound sets are.1
    (λ j i from to low. pairs-apart sink j m i (omega arith) (omega arith) (omega arith) (omega arith) (λ same. omega (arith, from, same.0))))
    (sets-distinct n (sink + 1) k bound sets small (omega arith) are.1)

set-names : (n sink bound : ℕ) (set : List ℕ) (rest : List Link) → sink < 2 ^ 32 → bound ≤ 2 ^ 32 → list_all (λ x. nat_le 1 x && nat_lt x bound) set ≡ true → list_all is_name (names_of rest) ≡ true
    → list_all is_name (names_of (map (sink_link n sink) set ++ rest)) ≡ true
set-names n sink bound [] rest few small within names = names
set-names n sink bound (x ∷ set) rest few small within names =
    let ins = and_parts _ _ within in
    let here : x < bound = (range_of 1 bound x ins.0).1 in
    and_from _ _ (is_name-pair sink x few (omega arith)) (set-names n sink bound set rest few small ins.1 names)

sets-names : (n sink k bound : ℕ) (sets : List (List ℕ)) → bound ≤ 2 ^ 32 → sink + length sets ≤ 2 ^ 32 → AllByRecursion (IsSetOf 1 bound k) sets → list_all is_name (names_of (sink_links n sink sets)) ≡ true
sets-names n sink k bound [] small few are = refl
sets-names n sink k bound (set ∷ sets) small few are =
    set-names n sink bound set (sink_links n (sink + 1) sets) (omega arith) small are.0.within (sets-names n (sink + 1) k bound sets small (omega arith) are.1)

-- a link from one node to another
link-among : (nodes : ℕ) (link : Link) → link.tail < nodes → link.head < nodes → (link.tail ≡ link.head → ⊥) → is_link_among nodes link ≡ true
link-among nodes link tail head apart =
    and_from _ _ (and_from _ _ (lt-ltb link.tail nodes tail) (lt-ltb link.head nodes head)) (not_from_false _ (ne_eqb link.tail link.head apart))

set-ends : (n sink nodes : ℕ) (set : List ℕ) (rest : List Link) → 1 ≤ sink → n + sink < nodes → list_all (λ x. nat_le 1 x && nat_lt x (n + 1)) set ≡ true → list_all (is_link_among nodes) rest ≡ true
    → list_all (is_link_among nodes) (map (sink_link n sink) set ++ rest) ≡ true
set-ends n sink nodes [] rest some low within ends = ends
set-ends n sink nodes (x ∷ set) rest some low within ends =
    let ins = and_parts _ _ within in
    let here : x < n + 1 = (range_of 1 (n + 1) x ins.0).1 in
    and_from _ _ (link-among nodes (sink_link n sink x) (omega arith) low (λ same. omega (arith, same, here))) (set-ends n sink nodes set rest some low ins.1 ends)

sets-ends : (n sink k nodes : ℕ) (sets : List (List ℕ)) → 1 ≤ sink → n + sink + length sets ≤ nodes → AllByRecursion (IsSetOf 1 (n + 1) k) sets → list_all (is_link_among nodes) (sink_links n sink sets) ≡ true
sets-ends n sink k nodes [] some low are = refl
sets-ends n sink k nodes (set ∷ sets) some low are =
    set-ends n sink nodes set (sink_links n (sink + 1) sets) some (omega arith) are.0.within (sets-ends n (sink + 1) k nodes sets (omega arith) (omega arith) are.1)

pub length-sink_links : (n sink k bound : ℕ) (sets : List (List ℕ)) → AllByRecursion (IsSetOf 1 bound k) sets → length (sink_links n sink sets) ≡ k * length sets
length-sink_links n sink k bound [] are = omega arith
length-sink_links n sink k bound (set ∷ sets) are =
    length-append (map (sink_link n sink) set) (sink_links n (sink + 1) sets)
    ∙ omega (arith, length-map set (sink_link n sink), are.0.long, length-sink_links n (sink + 1) k bound sets are.1)

-- ---- links from the source

entry-later : (a b count : ℕ) (rest : List Link) → a < b → b + count ≤ 2 ^ 64 → list_any (bytes_eq (numbered 97 a)) (names_of rest) ≡ false → list_any (bytes_eq (numbered 97 a)) (names_of (map entry_link (range_with_len b count) ++ rest)) ≡ false
entry-later a b zero rest below small none = none
entry-later a b (suc count) rest below small none =
    or_from _ _ (numbered-apart 97 a b (omega arith) (omega arith) (λ same. omega (arith, same))) (entry-later a (b + 1) count rest (omega arith) (omega arith) none)

entry-distinct : (a count : ℕ) (rest : List Link) → a + count ≤ 2 ^ 64 → ((text : List ℕ) → list_any (bytes_eq (97 ∷ text)) (names_of rest) ≡ false) → are_distinct bytes_eq (names_of rest) ≡ true
    → are_distinct bytes_eq (names_of (map entry_link (range_with_len a count) ++ rest)) ≡ true
entry-distinct a zero rest small none distinct = distinct
entry-distinct a (suc count) rest small none distinct =
    and_from _ _ (not_from_false _ (entry-later a (a + 1) count rest (omega arith) (omega arith) (none (decimal a)))) (entry-distinct (a + 1) count rest (omega arith) none distinct)

entry-names : (a count : ℕ) (rest : List Link) → a + count ≤ 2 ^ 32 → list_all is_name (names_of rest) ≡ true → list_all is_name (names_of (map entry_link (range_with_len a count) ++ rest)) ≡ true
entry-names a zero rest small names = names
entry-names a (suc count) rest small names =
    and_from _ _ (is_name-numbered 97 a (omega arith, omega arith) (omega arith)) (entry-names (a + 1) count rest (omega arith) names)

entry-ends : (a count nodes : ℕ) (rest : List Link) → 1 ≤ a → a + count ≤ nodes → list_all (is_link_among nodes) rest ≡ true → list_all (is_link_among nodes) (map entry_link (range_with_len a count) ++ rest) ≡ true
entry-ends a zero nodes rest some small ends = ends
entry-ends a (suc count) nodes rest some small ends =
    and_from _ _ (link-among nodes (entry_link a) (omega arith) (omega arith) (λ same. omega (arith, same, some))) (entry-ends (a + 1) count nodes rest (omega arith) (omega arith) ends)

-- ---- sinks

sinks-among : (a count nodes : ℕ) → 1 ≤ a → a + count ≤ nodes → list_all (is_sink_among nodes 0) (range_with_len a count) ≡ true
sinks-among a zero nodes some small = refl
sinks-among a (suc count) nodes some small =
    and_from _ _ (and_from _ _ (lt-ltb a nodes (omega arith)) (not_from_false _ (ne_eqb a 0 (λ same. omega (arith, same, some))))) (sinks-among (a + 1) count nodes (omega arith) (omega arith))

numbers-later : (a b count : ℕ) → a < b → list_any (nat_eq a) (range_with_len b count) ≡ false
numbers-later a b zero below = refl
numbers-later a b (suc count) below = or_from _ _ (ne_eqb a b (λ same. omega (arith, same, below))) (numbers-later a (b + 1) count (omega arith))

numbers-distinct : (a count : ℕ) → are_distinct nat_eq (range_with_len a count) ≡ true
numbers-distinct a zero = refl
numbers-distinct a (suc count) = and_from _ _ (not_from_false _ (numbers-later a (a + 1) count (omega arith))) (numbers-distinct (a + 1) count)

-- ---- the network

length-node_names : (n count : ℕ) → length (node_names n count) ≡ 1 + n + count
length-node_names n count =
    let middles = map (numbered 109) (range_with_len 1 n) in
    let sinks = map (numbered 116) (range_with_len 1 count) in
    omega (arith, length-append middles sinks, length-map-range_with_len (numbered 109) 1 n, length-map-range_with_len (numbered 116) 1 count)

-- there are n + k * binomial n k links
pub length-links : (n k : ℕ) → length (links n k) ≡ n + k * binomial n k
length-links n k =
    let sets = subsets_of 1 n k in
    let into = length-sink_links n 1 k (n + 1) sets (subsets_of-each 1 n k (n + 1) (omega arith)) in
    length-append (map entry_link (range_with_len 1 n)) (sink_links n 1 sets)
    ∙ ap (λ (x : ℕ). x + length (sink_links n 1 sets)) (length-map-range_with_len entry_link 1 n)
    ∙ ap (λ (x : ℕ). n + x) (into ∙ ap (λ (x : ℕ). k * x) (length-subsets_of 1 n k))

pub combination-IsNetwork : (n k : ℕ) → Fits n k → IsNetwork (node_names n (binomial n k)) (links n k) 0 (sinks n (binomial n k)) patterns
combination-IsNetwork n k fits =
    let sets = subsets_of 1 n k in
    let are = subsets_of-each 1 n k (n + 1) (omega arith) in
    let count = length-subsets_of 1 n k in
    let size = length-node_names n (binomial n k) in
    let into = sink_links n 1 sets in
    record {
      node_names = node_names-are_names n (binomial n k) (omega arith) (omega arith);
      link_names = and_from _ _ (entry-names 1 n into (omega arith) (sets-names n 1 k (n + 1) sets (omega arith) (omega arith) are))
          (entry-distinct 1 n into (omega arith)
          (λ text. none_in_sets (97 ∷ text) n 1 k (n + 1) sets are (λ j m from to below. letters-apart 97 98 text (decimal j ++ 45 ∷ decimal m) (λ same. omega (arith, same))))
          (sets-distinct n 1 k (n + 1) sets (omega arith) (omega arith) are));
      link_ends = entry-ends 1 n (length (node_names n (binomial n k))) into (omega arith) (omega arith) (sets-ends n 1 k (length (node_names n (binomial n k))) sets (omega arith) (omega arith) are);
      source_node = omega (arith, size);
      some_sink = omega (arith, length-range_with_len (n + 1) (binomial n k), binomial-some n k fits.among);
      sink_nodes = sinks-among (n + 1) (binomial n k) (length (node_names n (binomial n k))) (omega arith) (omega arith);
      distinct_sinks = numbers-distinct (n + 1) (binomial n k);
      pattern_names = refl;
      pattern_links = refl;
      few_nodes = omega (arith, size);
      few_links = omega (arith, length-links n k);
      few_patterns = omega arith;
    }

-- the parts that are made
pub network-from : (n k count : ℕ) (nodes : List (List ℕ)) (made : List Link) (numbers : List ℕ) (listed : List Pattern) → Fits n k → count ≡ binomial n k → nodes ≡ node_names n count → made ≡ links n k → numbers ≡ sinks n count
    → listed ≡ patterns → IsNetwork nodes made 0 numbers listed
network-from n k count nodes made numbers listed fits number one two three four = rw (one, two, three, four, number) (combination-IsNetwork n k fits)
