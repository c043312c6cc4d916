-- Sets of numbers as bits in words of 64, and the words that say which of them have any.
use Rattle.std.specs.Prelude.{◌≡◌, ◌≢◌, ◌<◌, ◌≤◌, ◌+◌, ◌*◌, ◌/◌, ◌%◌, ℕ, List, length, slice_index_or, min, bit_or}
use Rattle.std.specs.Int.{bit_at}

-- a set: the words of its bits
pub record Members : Type 0 where
  pub words : List ℕ

-- the numbers of all sets are below this
abbrev pub most : ℕ
most = 262144

-- the bit of a number
abbrev pub bit_of : List ℕ → ℕ → ℕ
bit_of words number = bit_at (slice_index_or words (number / 64) 0) (number % 64)

-- a number is in the set
abbrev pub has : Members → ℕ → Type 0
has set number = bit_of set.words number ≡ 1

-- all numbers are below this bound
abbrev pub bound : Members → ℕ
bound set = 64 * length set.words

abbrev pub HasNone : Members → Type 0
HasNone set = (number : ℕ) → bit_of set.words number ≡ 0

-- each other word is as it was
abbrev pub SameElsewhere : ℕ → List ℕ → List ℕ → Type 0
SameElsewhere word old new = (other : ℕ) → other ≢ word → slice_index_or new other 0 ≡ slice_index_or old other 0

-- a bit was set or cleared, and the others stay
pub record SetsBit (number : ℕ) (old new : List ℕ) : Type 0 where
  pub here : bit_of new number ≡ 1
  pub others : (other : ℕ) → other ≢ number → bit_of new other ≡ bit_of old other
  pub long : length new ≡ length old

pub record ClearsBit (number : ℕ) (old new : List ℕ) : Type 0 where
  pub here : bit_of new number ≡ 0
  pub others : (other : ℕ) → other ≢ number → bit_of new other ≡ bit_of old other
  pub long : length new ≡ length old

-- a number is in the set now, or no longer, and the others are as before
abbrev pub Gains : ℕ → Members → Members → Type 0
Gains number old new = SetsBit number old.words new.words

abbrev pub Loses : ℕ → Members → Members → Type 0
Loses number old new = ClearsBit number old.words new.words

-- a number from a first to a last one, of which each is eight more than the one before
pub record IsEighth (first last number : ℕ) : Type 0 where
  pub from : first ≤ number
  pub to : number ≤ last
  pub step : number % 8 ≡ first % 8

-- the bits of such numbers were set, and the others stay
pub record SetsEighths (first last : ℕ) (old new : List ℕ) : Type 0 where
  pub here : (number : ℕ) → IsEighth first last number → bit_of new number ≡ 1
  pub others : (other : ℕ) → (IsEighth first last other → ⊥) → bit_of new other ≡ bit_of old other
  pub long : length new ≡ length old

-- such numbers are in the set now, and the others are as before
abbrev pub GainsEighths : ℕ → ℕ → Members → Members → Type 0
GainsEighths first last old new = SetsEighths first last old.words new.words

-- the bits of a word were set, and the others stay
pub record SetsBits (word bits : ℕ) (old new : List ℕ) : Type 0 where
  pub here : slice_index_or new word 0 ≡ bit_or (slice_index_or old word 0) bits
  pub elsewhere : SameElsewhere word old new
  pub long : length new ≡ length old

-- the bits of such numbers in one word
pub record AreEighths (first last word bits : ℕ) : Type 0 where
  pub set : (place : ℕ) → place < 64 → IsEighth first last (word * 64 + place) → bit_at bits place ≡ 1
  pub others : (place : ℕ) → place < 64 → (IsEighth first last (word * 64 + place) → ⊥) → bit_at bits place ≡ 0

-- a number is in the set, and no smaller one is
pub record IsLeast (number : ℕ) (set : Members) : Type 0 where
  pub within : has set number
  pub least : (other : ℕ) → other < number → bit_of set.words other ≡ 0

-- the least number of a set, or where it has none, one that no number of any set reaches
pub record HasLeast (least : ℕ) (words : List ℕ) : Type 0 where
  pub some : least < most → IsLeast least (record { words = words })
  pub none : most ≤ least → HasNone (record { words = words })

-- the first bit of a word
pub record IsFirstBit (word number : ℕ) (words : List ℕ) : Type 0 where
  pub place : number / 64 ≡ word
  pub set : bit_of words number ≡ 1
  pub before : (other : ℕ) → other / 64 ≡ word → other < number → bit_of words other ≡ 0

-- a bit says of each word whether it has any
abbrev pub Tells : List ℕ → (ℕ → ℕ) → Type 0
Tells words bit = (word : ℕ) → bit word ≡ min 1 (slice_index_or words word 0)

-- the two levels over the words
pub record IsOver (words over_words : List ℕ) (over_all : ℕ) : Type 0 where
  pub first : Tells words (bit_of over_words)
  pub second : Tells over_words (bit_at over_all)
  pub room : length words ≤ 64 * length over_words
  pub few_words : length words ≤ 4096
  pub few_over : length over_words ≤ 64
