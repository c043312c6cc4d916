-- The links that fail in patterns.
use Rattle.std.specs.Prelude.{ℕ, Bool, List, [], length, slice_get}
use Rattle.std.specs.List.{sum_by}
use Rattle.std.specs.Option.{option_map_or}
use Rattle.net_model.specs.Lists.{is_among}
use Rattle.net_model.specs.declared.Pattern.{Pattern}

-- the links of a pattern
abbrev pub failed_links : List Pattern → ℕ → List ℕ
failed_links patterns pattern = option_map_or (λ p. p.links) (slice_get patterns pattern) []

-- whether a link fails in a pattern
abbrev pub is_failed_in : List Pattern → ℕ → ℕ → Bool
is_failed_in patterns pattern link = is_among (failed_links patterns pattern) link

-- how many links patterns have together
abbrev pub member_count : List Pattern → ℕ
member_count patterns = sum_by (λ pattern. length pattern.links) patterns
