-- Sums of inputs that come in pieces, generation by generation: what has come, and which pieces of which sums are due.
use Rattle.std.specs.Prelude.{◌≡◌, ◌<◌, ◌≤◌, ◌⊎◌, ◌+◌, ◌*◌, ◌&&◌, ◌==◌, ℕ, Bool, true, false, nat_lt, not, List, [], length, slice_index_or, All, IsTrue}
use Rattle.std.specs.List.{list_all}
use Rattle.net_model.specs.Limits.{most_links}
use Rattle.generation_frame.specs.Blocks.{pieces}
use Rattle.held_rows.specs.Held.{Held, is_held, payload_of}
use Rattle.least_set.specs.Members.{Members, bit_of}
use Rattle.net_model.specs.Lists.{is_rising}

-- How many inputs there are, the inputs that each sum is of, and what has come in each generation. The pieces of sums that
-- are due have numbers: each generation has room for so many sums.
pub record Waiting : Type 0 where
  pub inputs : ℕ
  pub sums : List (List ℕ)
  pub held : List Held
  pub room : ℕ
  pub due : Members

abbrev pub held_in : Waiting → ℕ → Held
held_in waiting generation = slice_index_or waiting.held generation (record { payloads = []; marks = [] })

-- a piece of an input has come, and its bytes
abbrev pub has_input : Waiting → ℕ → ℕ → ℕ → Bool
has_input waiting generation input piece = is_held (held_in waiting generation) input piece

abbrev pub input_at : Waiting → ℕ → ℕ → ℕ → List ℕ
input_at waiting generation input piece = payload_of (held_in waiting generation) input piece

-- the inputs of a sum
abbrev pub inputs_of : Waiting → ℕ → List ℕ
inputs_of waiting sum = slice_index_or waiting.sums sum []

-- that piece of each input of a sum has come
abbrev pub is_complete : Waiting → ℕ → ℕ → ℕ → Bool
is_complete waiting generation sum piece =
    list_all (λ input. has_input waiting generation input piece) (inputs_of waiting sum)

-- the number of a piece of a sum: by sums, and in each by pieces
abbrev pub due_number : ℕ → ℕ → ℕ
due_number sum piece = sum * pieces + piece

-- a piece of a sum is due: it is complete, and wasn't taken yet
abbrev pub is_due : Waiting → ℕ → ℕ → ℕ → Bool
is_due waiting generation sum piece =
    nat_lt sum (length waiting.sums)
    && bit_of waiting.due.words (due_number (generation * waiting.room + sum) piece) == 1

-- it was taken
abbrev pub is_given : Waiting → ℕ → ℕ → ℕ → Bool
is_given waiting generation sum piece =
    is_complete waiting generation sum piece && not (is_due waiting generation sum piece)

-- sums of inputs below a number: each is of some, and names none twice
pub record AreSums (inputs : ℕ) (sums : List (List ℕ)) : Type 0 where
  pub few_sums : length sums ≤ most_links
  pub some_inputs : All (λ sum. 0 < length sum) sums
  pub rising : All (λ sum. IsTrue (is_rising sum)) sums
  pub below : All (All (λ input. input < inputs)) sums

-- nothing has come, and nothing is due
pub record HasNothing (waiting : Waiting) : Type 0 where
  pub inputs : (generation input piece : ℕ) → has_input waiting generation input piece ≡ false
  pub due : (generation sum piece : ℕ) → is_due waiting generation sum piece ≡ false

-- the inputs, the sums and the number of generations stay
pub record IsSameWork (old new : Waiting) : Type 0 where
  pub inputs : new.inputs ≡ old.inputs
  pub sums : new.sums ≡ old.sums
  pub generations : length new.held ≡ length old.held

-- A piece of an input came, with its bytes; all else that came stays, and so does what was given: what is complete with
-- it is due.
pub record Gains (generation input piece : ℕ) (payload : List ℕ) (old new : Waiting) : Type 0 where
  pub work : IsSameWork old new
  pub came : has_input new generation input piece ≡ true
  pub bytes : input_at new generation input piece ≡ payload
  pub other_inputs : (g i p : ℕ) → i < old.inputs → p < pieces → ((g ≡ generation) × (i ≡ input) × (p ≡ piece) → ⊥)
      → (has_input new g i p ≡ has_input old g i p) × (input_at new g i p ≡ input_at old g i p)
  pub given : (g s p : ℕ) → s < length old.sums → p < pieces → is_given new g s p ≡ is_given old g s p

-- one piece of a sum is at most another: by sums, and in each by pieces
abbrev pub IsAtMost : ℕ → ℕ → ℕ → ℕ → Type 0
IsAtMost sum piece s p = (sum < s) ⊎ (sum ≡ s) × (piece ≤ p)

-- The least piece of a sum that is due in so many generations was taken, by generations, sums and pieces; nothing else
-- changed.
pub record Takes (generations generation sum piece : ℕ) (old new : Waiting) : Type 0 where
  pub in_generations : generation < generations
  pub in_sums : sum < length old.sums
  pub in_pieces : piece < pieces
  pub complete : is_complete old generation sum piece ≡ true
  pub due : is_due old generation sum piece ≡ true
  pub before : (g s p : ℕ) → g < generation → p < pieces → is_due old g s p ≡ false
  pub least : (s p : ℕ) → p < pieces → is_due old generation s p ≡ true → IsAtMost sum piece s p
  pub taken : is_due new generation sum piece ≡ false
  pub others : (g s p : ℕ) → p < pieces → ((g ≡ generation) × (s ≡ sum) × (p ≡ piece) → ⊥) → is_due new g s p ≡ is_due old g s p
  pub work : IsSameWork old new
  pub inputs : (g i p : ℕ) → has_input new g i p ≡ has_input old g i p
  pub bytes : (g i p : ℕ) → input_at new g i p ≡ input_at old g i p
