-- The routes of demands: for each the first paths of its certificate, with the new numbers of their
-- links.
use Rattle.std.specs.Prelude.{◌≡◌, ◌<◌, ℕ, All, List, length, map, slice_index, take}
use Rattle.net_model.specs.Renumbering.{new_number}
use Rattle.lif_compiler.specs.Hops.{Routes}
use Rattle.cut_witness.specs.declared.cert.Cert.{Cert}

-- the links of paths are below a bound
abbrev pub ArePathsBelow : ℕ → List (List ℕ) → Type 0
ArePathsBelow bound paths = All (All (λ link. link < bound)) paths

-- paths with the new numbers of their links
abbrev pub renumbered_paths : List ℕ → List (List ℕ) → List (List ℕ)
renumbered_paths order paths = map (map (new_number order)) paths

-- the routes, so many of each certificate
abbrev pub routes_of_certs : List ℕ → ℕ → List Cert → Routes
routes_of_certs order rate certs = map (λ cert. renumbered_paths order (take rate cert.paths)) certs

-- a table of the new numbers of the old links
pub record IsInverse (order : List ℕ) (inverse : List ℕ) : Type 0 where
  pub whole : length inverse ≡ length order
  pub each : (link : ℕ) → link < length order → slice_index inverse link ≡ new_number order link
