-- Numbers that are gathered from words.
use Rattle.std.specs.Prelude.{◌≡◌, ℕ, ◌+◌, ◌<◌, ◌≤◌, ◌==◌, Bool, true, false, not, nat_eq, nat_lt, List, [], ◌∷◌, ◌++◌, length, map, Some, None, All, cond, slice_get, take, drop, ◌||◌}
use Rattle.std.specs.Borrow.{Bor}
use Rattle.std.specs.List.{find, list_any, position, position_or_len, range_with_len}
use Rattle.std.specs.Option.{option_map_or}
use Rattle.std.specs.Str.{bytes_eq}
use Rattle.std.proofs.Common.{refl, sym, ap, subst, ◌∙◌, get_or, arith}
use Rattle.std.proofs.lemmas.Bool.{and_from, and_parts, false_from_ne_true, false≢true, lt-ltb, ltb-false, not-true, not_from_false, or_from, or_parts}
use Rattle.std.proofs.lemmas.List.{get_or-map, length-map, map-append, map_push, take-append-drop, take_more}
use Rattle.std.proofs.lemmas.List.Elements.{All-append}
use Rattle.std.proofs.lemmas.List.Folds.{find_at, list_any-append, list_any_at}
use Rattle.std.proofs.lemmas.List.FromFn.{get_or-range_with_len, length-range_with_len}
use Rattle.std.proofs.lemmas.List.Sums.{list_all-from_AllPass}
use Rattle.std.proofs.lemmas.Grind.{flat_map-append}
use Rattle.std.proofs.lemmas.Option.{none-some, same_Some, slice_get_past}
use Rattle.net_model.specs.Lists.{are_distinct}
use Rattle.net_model.proofs.ListLaws.{length-are_distinct}
use Rattle.net_reader.specs.Bundles.{Bundle, IsGathered, links_of_bundle, names_none, numbers_named, numbers_of_words}
use Rattle.net_reader.specs.Words.{texts_of}
use Rattle.net_reader.proofs.Pushes.{flat_map-push, list_any-push}

-- ---- what a word names

module _ {X Y : Type 0} (key : X → Y) (test : Y → Bool) where
  -- the first key that passes stands where the first item with one does
  position-keys : (xs : List X) → position_or_len test (map key xs) ≡ position_or_len (λ x. test (key x)) xs
  position-keys [] = refl
  position-keys (x ∷ xs) = ap (λ (n : ℕ). cond (not (test (key x))) (1 + n) 0) (position-keys xs)

  -- what is found by the place of its key
  pub find-place : (xs : List X) (place : ℕ) → position test (map key xs) ≡ Some place → find (λ x. test (key x)) xs ≡ slice_get xs place
  find-place xs place at = find_at (λ x. test (key x)) xs ∙ ap (slice_get xs) (sym (position-keys xs) ∙ either (nat_lt n (length (map key xs))) at)
    where
      n : ℕ
      n = position_or_len test (map key xs)

      either : (b : Bool) → cond b (Some n) None ≡ Some place → n ≡ place
      either true at = same_Some n place at
      either false at = absurd (none-some place at)

  -- nothing is found where no key passes
  pub find-nowhere : (xs : List X) → position test (map key xs) ≡ None → find (λ x. test (key x)) xs ≡ None
  find-nowhere xs at =
      find_at (λ x. test (key x)) xs ∙ slice_get_past xs (position_or_len (λ x. test (key x)) xs) (omega (arith, position-keys xs, length-map xs key, either (nat_lt n (length (map key xs))) refl at))
    where
      n : ℕ
      n = position_or_len test (map key xs)

      either : (b : Bool) → nat_lt n (length (map key xs)) ≡ b → cond b (Some n) None ≡ None → length (map key xs) ≤ n
      either true is at = absurd (none-some n (sym at))
      either false is at = ltb-false n (length (map key xs)) is

-- a word that isn't a link's name names the links of the bundle that has the name
pub numbers_named-bundle : (links : List (List ℕ)) (bundles : List Bundle) (word : List ℕ) → position (bytes_eq word) links ≡ None
    → numbers_named links bundles word ≡ option_map_or links_of_bundle (find (λ bundle. bytes_eq word bundle.name) bundles) []
numbers_named-bundle links bundles word none = rw none refl

-- ---- numbers gathered from words

-- the items of a list are distinct only where those at its front are
distinct-front : (front rest : List ℕ) → are_distinct nat_eq (front ++ rest) ≡ true → are_distinct nat_eq front ≡ true
distinct-front [] rest apart = refl
distinct-front (one ∷ front) rest apart =
    let parts = and_parts (not (list_any (nat_eq one) (front ++ rest))) (are_distinct nat_eq (front ++ rest)) apart in
    let others = or_parts (list_any (nat_eq one) front) (list_any (nat_eq one) rest) (sym (list_any-append (nat_eq one) front rest) ∙ not-true _ parts.0) in
    and_from _ _ (not_from_false _ others.0) (distinct-front front rest parts.1)

-- more numbers below a bound than the bound, the first of others
IsGathered-front : (count : ℕ) (numbers gathered rest : List ℕ) → numbers ≡ gathered ++ rest → All (λ number. number < count) gathered → count < length gathered → IsGathered numbers gathered
IsGathered-front count numbers gathered rest parts below many =
    let twice : are_distinct nat_eq gathered ≡ false = false_from_ne_true _ (λ apart. absurd (omega (
      arith,
      many,
      length-are_distinct gathered count apart (list_all-from_AllPass (λ number. nat_lt number count) gathered (λ k d inside. lt-ltb _ _ (below k d inside))),
    ))) in
    let too : are_distinct nat_eq numbers ≡ false = false_from_ne_true _ (λ apart. false≢true (sym twice ∙ distinct-front gathered rest (ap (are_distinct nat_eq) (sym parts) ∙ apart))) in
    record { alike = twice ∙ sym too; all = λ apart. absurd (false≢true (sym twice ∙ apart)) }

-- one word more
pub texts-more : (words : List (Bor (List ℕ))) (i : ℕ) (d : Bor (List ℕ)) → i < length words → texts_of (take i words) ++ (get_or words i d).now ∷ [] ≡ texts_of (take (i + 1) words)
texts-more words i d within = sym (ap texts_of (take_more words i d within) ∙ map_push (λ (word : Bor (List ℕ)). word.now) (take i words) (get_or words i d))

-- the words up to a place and those from there on
pub texts-split : (words : List (Bor (List ℕ))) (i : ℕ) → texts_of words ≡ texts_of (take i words) ++ texts_of (drop i words)
texts-split words i = ap texts_of (sym (take-append-drop i words)) ∙ map-append (λ (word : Bor (List ℕ)). word.now) (take i words) (drop i words)

-- what stands past the last word
abbrev pub no_word : Bor (List ℕ)
no_word = record { ref_ptr = (0, 0); now = [] }

-- Numbers that are gathered from words, each of which names links: all that they name.
pub record AreGathered (links : List (List ℕ)) (bundles : List Bundle) (words : List (List ℕ)) (gathered : List ℕ) : Type 0 where
  pub known : list_any (names_none links bundles) words ≡ false
  pub within : All (λ number. number < length links) gathered
  pub all : numbers_of_words links bundles words ≡ gathered

module _ (links : List (List ℕ)) (bundles : List Bundle) where
  -- numbers that follow each other are below the one after them
  range-below : (first count bound : ℕ) → first + count ≤ bound → All (λ number. number < bound) (range_with_len first count)
  range-below first count bound within k d inside =
      let less : k < count = omega (arith, inside, length-range_with_len first count) in
      omega (arith, within, less, get_or-range_with_len first count k d less)

  -- a word that names so many links names none exactly where they are none
  pub names_none-count : (word : List ℕ) (first count : ℕ) → range_with_len first count ≡ numbers_named links bundles word → names_none links bundles word ≡ (count == 0)
  names_none-count word first count named = ap (λ (n : ℕ). n == 0) (sym (ap length named) ∙ length-range_with_len first count)

  -- where one of the words is unknown, some are
  pub one_unknown : (words : List (Bor (List ℕ))) (i : ℕ) → i < length words → names_none links bundles (get_or words i no_word).now ≡ true → list_any (names_none links bundles) (texts_of words) ≡ true
  one_unknown words i within unknown =
      list_any_at (names_none links bundles) (texts_of words) i [] (omega (arith, within, length-map words (λ (word : Bor (List ℕ)). word.now)))
      (ap (names_none links bundles) (get_or-map (λ (word : Bor (List ℕ)). word.now) words i no_word [] within) ∙ unknown)

  -- known words with a known one are known
  pub known_more : (words : List (Bor (List ℕ))) (i : ℕ) → i < length words → list_any (names_none links bundles) (texts_of (take i words)) ≡ false → names_none links bundles (get_or words i no_word).now ≡ false
      → list_any (names_none links bundles) (texts_of (take (i + 1) words)) ≡ false
  known_more words i within known more =
      ap (list_any (names_none links bundles)) (sym (texts-more words i no_word within))
      ∙ list_any-push (names_none links bundles) (texts_of (take i words)) (get_or words i no_word).now ∙ or_from _ _ known more

  -- the numbers of a word more are added
  pub gathered_more : (words : List (Bor (List ℕ))) (i : ℕ) (gathered more : List ℕ) (first count : ℕ) → i < length words → AreGathered links bundles (texts_of (take i words)) gathered
      → range_with_len first count ≡ numbers_named links bundles (get_or words i no_word).now → (count == 0) ≡ false → first + count ≤ length links → more ≡ gathered ++ range_with_len first count
      → AreGathered links bundles (texts_of (take (i + 1) words)) more
  gathered_more words i gathered more first count inside are named some within pushed = record {
    known = known_more words i inside are.known (names_none-count (get_or words i no_word).now first count named ∙ some);
    within = subst (λ (list : List ℕ). All (λ number. number < length links) list) (sym pushed)
        (All-append (λ (number : ℕ). number < length links) gathered (range_with_len first count) are.within (range-below first count (length links) within));
    all = ap (numbers_of_words links bundles) (sym (texts-more words i no_word inside)) ∙ flat_map-push (numbers_named links bundles) (texts_of (take i words)) (get_or words i no_word).now
        ∙ (λ k. are.all k ++ sym named k) ∙ sym pushed;
  }

  -- what is gathered from all words
  pub IsGathered-all : (words : List (List ℕ)) (gathered : List ℕ) → AreGathered links bundles words gathered → IsGathered (numbers_of_words links bundles words) gathered
  IsGathered-all words gathered are = record { alike = ap (are_distinct nat_eq) (sym are.all); all = λ apart. sym are.all }

  -- or from the first of them, where more are gathered than there are links
  pub IsGathered-first : (words : List (Bor (List ℕ))) (i : ℕ) (gathered : List ℕ) → AreGathered links bundles (texts_of (take i words)) gathered → length links < length gathered
      → IsGathered (numbers_of_words links bundles (texts_of words)) gathered
  IsGathered-first words i gathered are many =
      let named : List (List ℕ) → List ℕ = numbers_of_words links bundles in
      IsGathered-front (length links) (named (texts_of words)) gathered (named (texts_of (drop i words)))
      (ap named (texts-split words i) ∙ flat_map-append (numbers_named links bundles) (texts_of (take i words)) (texts_of (drop i words)) ∙ ap (λ (front : List ℕ). front ++ named (texts_of (drop i words))) are.all) are.within many

  -- whether words are unknown, by those up to a place, which are known, and the others
  pub unknown_later : (words : List (Bor (List ℕ))) (i : ℕ) → list_any (names_none links bundles) (texts_of (take i words)) ≡ false
      → list_any (names_none links bundles) (texts_of (drop i words)) ≡ list_any (names_none links bundles) (texts_of words)
  unknown_later words i known =
      let unknown = names_none links bundles in
      ap (λ (front : Bool). front || list_any unknown (texts_of (drop i words))) (sym known)
      ∙ sym (ap (list_any unknown) (texts-split words i) ∙ list_any-append unknown (texts_of (take i words)) (texts_of (drop i words)))
