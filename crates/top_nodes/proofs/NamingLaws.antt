-- Whether a path is that of the code or of an input.
use Rattle.std.proofs.Common.{◌≡◌, ◌||◌, ◌∷◌, ℕ, Bool, String, List, map, sym, ap, ◌∙◌}
use Rattle.std.specs.List.{list_any}
use Rattle.std.specs.Prelude.{string_bytes}
use Rattle.std.specs.Global.{Global}
use Rattle.std.specs.Str.{bytes_eq}
use Rattle.item_list.proofs.Tests.{list_any-map}

pub is_among_inputs : (path code : List ℕ) (inputs : List (String Global)) (is_code is_input : Bool) → bytes_eq path code ≡ is_code → is_input ≡ list_any (λ (input : String Global). bytes_eq path (string_bytes input)) inputs
    → list_any (bytes_eq path) (code ∷ map string_bytes inputs) ≡ (is_code || is_input)
is_among_inputs path code inputs is_code is_input one other =
    ap (λ first. first || list_any (bytes_eq path) (map string_bytes inputs)) one ∙ ap (λ second. is_code || second) (list_any-map string_bytes (bytes_eq path) inputs ∙ sym other)
