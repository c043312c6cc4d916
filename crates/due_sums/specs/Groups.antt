-- Groups of sums that follow one another and have the same inputs.
use Rattle.std.specs.Prelude.{◌≡◌, ◌<◌, ◌≤◌, ◌+◌, ◌*◌, ℕ, List, [], length, slice_index, slice_index_or}
use Rattle.net_model.specs.Limits.{most_links}
use Rattle.generation_frame.specs.Blocks.{most_blocks, pieces}
use Rattle.least_set.specs.Members.{Members, bound}

-- Groups of the first sums: the inputs of each group, and the first sum of each; behind those stands the number of sums.
pub record AreFirstGroups (first : ℕ) (sums groups : List (List ℕ)) (starts : List ℕ) : Type 0 where
  pub count : length starts ≡ length groups + 1
  pub few_groups : length groups ≤ first
  pub from : slice_index starts 0 ≡ 0
  pub to : slice_index starts (length groups) ≡ first
  pub within : (group : ℕ) → slice_index starts group ≤ first
  pub rising : (group : ℕ) → group < length groups → slice_index starts group < slice_index starts (group + 1)
  pub same : (group sum : ℕ) → group < length groups → slice_index starts group ≤ sum → sum < slice_index starts (group + 1)
      → slice_index_or sums sum [] ≡ slice_index_or groups group []

-- groups of all sums
abbrev pub AreGroups : List (List ℕ) → List (List ℕ) → List ℕ → Type 0
AreGroups sums groups starts = AreFirstGroups (length sums) sums groups starts

-- a group has sums, and from a base on there is room for the numbers of their pieces
pub record HasSums (base : ℕ) (starts : List ℕ) (group : ℕ) (due : Members) : Type 0 where
  pub stands : group + 1 < length starts
  pub some_sums : slice_index starts group < slice_index starts (group + 1)
  pub few_places : base + slice_index starts (group + 1) ≤ most_blocks * most_links
  pub room : (base + slice_index starts (group + 1)) * pieces ≤ bound due
