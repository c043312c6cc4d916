-- The butterfly, two of whose links change places: two sinks, and two paths of each.
use Rattle.std.specs.Prelude.{ℕ, List, [], ◌∷◌}
use Rattle.cut_witness.specs.declared.cert.Cert.{Cert}

-- certificates with these paths, whose sides and cuts are left out
abbrev pub butterfly_certs : List Cert
butterfly_certs =
    record { demand = record { sink = 0; pattern = 0 }; value = 2; paths = (0 ∷ 2 ∷ []) ∷ (1 ∷ 4 ∷ 6 ∷ 7 ∷ []) ∷ []; side = []; cut = [] }
    ∷ record { demand = record { sink = 1; pattern = 0 }; value = 2; paths = (0 ∷ 3 ∷ 6 ∷ 8 ∷ []) ∷ (1 ∷ 5 ∷ []) ∷ []; side = []; cut = [] }
    ∷ []

-- links 2 and 3 change places
abbrev pub butterfly_order : List ℕ
butterfly_order = 0 ∷ 1 ∷ 3 ∷ 2 ∷ 4 ∷ 5 ∷ 6 ∷ 7 ∷ 8 ∷ []

-- the routes of the two demands, with the new numbers of the links
abbrev pub butterfly_routes : List (List (List ℕ))
butterfly_routes =
    ((0 ∷ 3 ∷ []) ∷ (1 ∷ 4 ∷ 6 ∷ 7 ∷ []) ∷ [])
    ∷ ((0 ∷ 2 ∷ 6 ∷ 8 ∷ []) ∷ (1 ∷ 5 ∷ []) ∷ [])
    ∷ []
