-- What stands behind sums that wait: for each input the groups of sums that read it, and for each piece of each group how
-- many of its inputs are missing.
use Rattle.std.specs.Prelude.{◌≡◌, ◌≢◌, ◌<◌, ◌≤◌, ◌+◌, ◌*◌, ◌%◌, ◌^◌, ◌==◌, ℕ, not, List, [], Vec, length, map, count_by, slice_index, slice_index_or}
use Rattle.std.specs.Global.{Global}
use Rattle.net_model.specs.Limits.{most_links}
use Rattle.generation_frame.specs.Blocks.{most_blocks, pieces}
use Rattle.held_rows.specs.Held.{Held, HoldsNone, is_held, row_count}
use Rattle.least_set.specs.Members.{Members, bit_of, bound}
use Rattle.due_sums.specs.Groups.{AreGroups}
use Rattle.due_sums.specs.Waiting.{AreSums, due_number}
use Rattle.due_sums.specs.declared.due_sums.Table.{Table}

-- how often a number stands in a list
abbrev pub count_of : ℕ → List ℕ → ℕ
count_of number numbers = count_by (λ one. one == number) numbers

-- the lists of a vector of vectors
abbrev pub lists_of : List (Vec ℕ Global) → List (List ℕ)
lists_of lists = map (λ list. list.items) lists

-- the list at a place
abbrev pub list_at : List (List ℕ) → ℕ → List ℕ
list_at lists place = slice_index_or lists place []

-- for each input the groups that read it: each as often as it reads the input
pub record AreReaders (inputs : ℕ) (groups readers : List (List ℕ)) : Type 0 where
  pub count : length readers ≡ inputs
  pub each : (input group : ℕ) → input < inputs → count_of group (list_at readers input) ≡ count_of input (list_at groups group)

-- a group is added to the readers of these inputs
pub record GainReader (group : ℕ) (inputs : List ℕ) (old new : List (List ℕ)) : Type 0 where
  pub count : length new ≡ length old
  pub own : (input : ℕ) → input < length old
      → count_of group (list_at new input) ≡ count_of group (list_at old input) + count_of input inputs
  pub others : (input other : ℕ) → input < length old → other ≢ group
      → count_of other (list_at new input) ≡ count_of other (list_at old input)

-- how often these groups name a number, as that of a piece
abbrev pub reads_of : List ℕ → ℕ → ℕ → ℕ
reads_of readers piece number = count_by (λ group. due_number group piece == number) readers

-- a sum's group was counted down for a piece, and has no input missing
pub record IsDone (reads : ℕ → ℕ) (starts : List ℕ) (piece : ℕ) (counts : List ℕ) (group sum : ℕ) : Type 0 where
  pub from : slice_index starts group ≤ sum
  pub to : sum < slice_index starts (group + 1)
  pub read : 0 < reads (due_number group piece)
  pub none : slice_index counts (due_number group piece) ≡ 0

-- Each count fell by so many for its number. The sums of groups that were counted down and have none left are due now, from
-- a base on, and all others are as before.
pub record CountsDown (base : ℕ) (reads : ℕ → ℕ) (starts : List ℕ) (piece : ℕ) (old new : List ℕ) (old_due new_due : Members) : Type 0 where
  pub counts : (number : ℕ) → slice_index new number + reads number ≡ slice_index old number
  pub due : (group sum : ℕ) → IsDone reads starts piece new group sum → bit_of new_due.words (due_number (base + sum) piece) ≡ 1
  pub others : (number : ℕ)
      → ((group sum : ℕ) → number ≡ due_number (base + sum) piece → IsDone reads starts piece new group sum → ⊥)
      → bit_of new_due.words number ≡ bit_of old_due.words number
  pub room : bound new_due ≡ bound old_due

-- how many of a sum's inputs are missing for a piece
abbrev pub missing_of : Held → List ℕ → ℕ → ℕ
missing_of held inputs piece = count_by (λ input. not (is_held held input piece)) inputs

-- what has come of a generation
abbrev pub held_of : Table → Held
held_of table = table.held

-- the counts of a generation are those of what is missing, and what is due from a base on has nothing missing
pub record IsCounted (inputs : ℕ) (sums groups : List (List ℕ)) (held : Held) (counts : List ℕ) (base : ℕ) (due : Members) : Type 0 where
  pub rows : row_count held ≡ inputs
  pub whole : length counts ≡ length groups * pieces
  pub missing : (group piece : ℕ) → group < length groups → piece < pieces
      → slice_index counts (due_number group piece) ≡ missing_of held (list_at groups group) piece
  pub complete : (sum piece : ℕ) → sum < length sums → piece < pieces → bit_of due.words (due_number (base + sum) piece) ≡ 1
      → missing_of held (list_at sums sum) piece ≡ 0

abbrev pub IsTable : ℕ → List (List ℕ) → List (List ℕ) → Table → ℕ → Members → Type 0
IsTable inputs sums groups table base due = IsCounted inputs sums groups table.held table.missing.items base due

-- a generation has a row for each input, and a count for each piece of each group
pub record IsOfSize (inputs : ℕ) (groups : List (List ℕ)) (table : Table) : Type 0 where
  pub rows : row_count table.held ≡ inputs
  pub whole : length table.missing.items ≡ length groups * pieces

-- nothing has come of a generation: all inputs are missing
pub record IsFresh (inputs : ℕ) (groups : List (List ℕ)) (table : Table) : Type 0 where
  pub size : IsOfSize inputs groups table
  pub missing : (group piece : ℕ) → group < length groups → piece < pieces
      → slice_index table.missing.items (due_number group piece) ≡ missing_of table.held (list_at groups group) piece
  pub held : HoldsNone table.held

-- The sums, their groups, who reads each input, and the counts of each generation. Each generation has room for so many
-- sums, and what is due are pieces of sums.
pub record IsWaiting (inputs : ℕ) (sums groups : List (List ℕ)) (starts : List ℕ) (readers : List (List ℕ)) (tables : List Table) (room : ℕ) (due : Members) : Type 0 where
  pub work : AreSums inputs sums
  pub few_inputs : inputs < 2 ^ 32
  pub grouped : AreGroups sums groups starts
  pub read : AreReaders inputs groups readers
  pub enough : length sums ≤ room
  pub low_room : room ≤ most_links
  pub few_generations : length tables ≤ most_blocks
  pub bounded : length tables * room * pieces ≤ bound due
  pub counted : (generation : ℕ) (other : Table) → generation < length tables
      → IsTable inputs sums groups (slice_index_or tables generation other) (generation * room) due
  pub of_sums : (place piece : ℕ) → piece < pieces → bit_of due.words (due_number place piece) ≡ 1
      → place % room < length sums
