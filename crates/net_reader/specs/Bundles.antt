-- Bundles: links that one line names, and the numbers of the links that a word of a pattern names.
use Rattle.std.specs.Prelude.{◌≡◌, ℕ, ◌==◌, nat_eq, Bool, true, List, [], ◌∷◌, ◌++◌, decimal, filter, length, map, Option, Some, None}
use Rattle.std.specs.List.{find, flat_map, position, range_with_len}
use Rattle.std.specs.Option.{option_map_or}
use Rattle.std.specs.Str.{bytes_eq}
use Rattle.net_model.specs.Lists.{are_distinct, is_among}

-- the name of a link of a bundle: the bundle's name, a point, and the link's number in the bundle, from 1 on
abbrev pub made_name : List ℕ → ℕ → List ℕ
made_name name number = name ++ 46 ∷ decimal number

-- the names of so many
abbrev pub made_names : List ℕ → ℕ → List (List ℕ)
made_names name count = map (made_name name) (range_with_len 1 count)

-- a bundle of so many links, which follow each other from the first on
pub record Bundle : Type 0 where
  pub name : List ℕ
  pub first : ℕ
  pub count : ℕ

-- the numbers of its links
abbrev pub links_of_bundle : Bundle → List ℕ
links_of_bundle bundle = range_with_len bundle.first bundle.count

-- the numbers of the links that a word names, where these are the names of links, and bundles: that of the link with the
-- name, or else those of the bundle with the name, or none
abbrev pub numbers_named : List (List ℕ) → List Bundle → List ℕ → List ℕ
numbers_named links bundles word = named (position (bytes_eq word) links)
  where
    named : Option ℕ → List ℕ
    named (Some number) = number ∷ []
    named None = option_map_or links_of_bundle (find (λ bundle. bytes_eq word bundle.name) bundles) []

-- a word names no link
abbrev pub names_none : List (List ℕ) → List Bundle → List ℕ → Bool
names_none links bundles word = length (numbers_named links bundles word) == 0

-- those that words name, with a bundle written out
abbrev pub numbers_of_words : List (List ℕ) → List Bundle → List (List ℕ) → List ℕ
numbers_of_words links bundles words = flat_map (numbers_named links bundles) words

-- numbers in rising order, each once, of so many
abbrev pub in_rising_order : ℕ → List ℕ → List ℕ
in_rising_order count numbers = filter (is_among numbers) (range_with_len 0 count)

-- numbers that were gathered: all of these, or so many of them that one stands twice among both
pub record IsGathered (numbers gathered : List ℕ) : Type 0 where
  pub alike : are_distinct nat_eq gathered ≡ are_distinct nat_eq numbers
  pub all : are_distinct nat_eq gathered ≡ true → gathered ≡ numbers
