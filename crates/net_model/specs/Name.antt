-- Names of nodes, links and patterns.
use Rattle.std.specs.Prelude.{ℕ, Bool, List, length, nat_le, ◌==◌, ◌&&◌, ◌||◌, IsTrue}
use Rattle.std.specs.List.{list_all}
use Rattle.std.specs.Char.{is_ascii_alphanumeric}
use Rattle.net_model.specs.Limits.{longest_name}

-- a letter of ASCII, a digit, `_`, `-` or `.`
abbrev pub is_name_byte : ℕ → Bool
is_name_byte b = is_ascii_alphanumeric b || (b == 95) || (b == 45) || (b == 46)

-- at least one such byte, and no more than a name may have
abbrev pub is_name : List ℕ → Bool
is_name bytes = nat_le 1 (length bytes) && nat_le (length bytes) longest_name && list_all is_name_byte bytes

abbrev pub IsName : List ℕ → Type 0
IsName bytes = IsTrue (is_name bytes)
