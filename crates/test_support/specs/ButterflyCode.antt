-- The parts of the butterfly: two rows go from the source `s` to the sinks `t1` and `t2`, on paths that share the link
-- from `c` to `d`. The pattern `cut` has the link from `s` to `a`.
use Rattle.std.specs.Prelude.{ℕ, List, [], ◌∷◌, codes}
use Rattle.net_model.specs.declared.Link.{Link}
use Rattle.net_model.specs.declared.Pattern.{Pattern}
use Rattle.node_program.specs.declared.Decoder.{Decoder}
use Rattle.node_program.specs.declared.Operand.{Operand}

abbrev pub butterfly_nodes : List (List ℕ)
butterfly_nodes = codes "s" ∷ codes "t1" ∷ codes "t2" ∷ codes "a" ∷ codes "b" ∷ codes "c" ∷ codes "d" ∷ []

abbrev pub butterfly_links : List Link
butterfly_links =
    record { name = codes "s-a"; tail = 0; head = 3 }
    ∷ record { name = codes "s-b"; tail = 0; head = 4 }
    ∷ record { name = codes "a-t1"; tail = 3; head = 1 }
    ∷ record { name = codes "b-t2"; tail = 4; head = 2 }
    ∷ record { name = codes "a-c"; tail = 3; head = 5 }
    ∷ record { name = codes "b-c"; tail = 4; head = 5 }
    ∷ record { name = codes "c-d"; tail = 5; head = 6 }
    ∷ record { name = codes "d-t1"; tail = 6; head = 1 }
    ∷ record { name = codes "d-t2"; tail = 6; head = 2 }
    ∷ []

abbrev pub butterfly_sinks : List ℕ
butterfly_sinks = 1 ∷ 2 ∷ []

abbrev pub pattern_none : Pattern
pattern_none = record { name = codes "none"; links = [] }

abbrev pub pattern_cut : Pattern
pattern_cut = record { name = codes "cut"; links = 0 ∷ [] }

-- where the link from `s` to `a` may fail
abbrev pub cut_patterns : List Pattern
cut_patterns = pattern_none ∷ pattern_cut ∷ []

-- what a link carries that passes on a row, or another link, unchanged
abbrev passed_on : ℕ → List Operand
passed_on from = record { from = from; times = 1 } ∷ []

-- the link from `c` to `d` carries a sum
abbrev pub butterfly_operands : List (List Operand)
butterfly_operands =
    passed_on 0 ∷ passed_on 1 ∷ passed_on 0 ∷ passed_on 1 ∷ passed_on 0 ∷ passed_on 1
    ∷ (record { from = 4; times = 1 } ∷ record { from = 5; times = 1 } ∷ [])
    ∷ passed_on 6 ∷ passed_on 6 ∷ []

-- `t1` has the first row, and the second in the sum
abbrev pub first_decoder : Decoder
first_decoder = record { links = 2 ∷ 7 ∷ []; entries = 1 ∷ 0 ∷ 1 ∷ 1 ∷ [] }

-- `t2` has the second row, and the first in the sum
abbrev pub second_decoder : Decoder
second_decoder = record { links = 3 ∷ 8 ∷ []; entries = 1 ∷ 1 ∷ 1 ∷ 0 ∷ [] }

-- under the pattern `cut` each sink decodes as without it
abbrev pub cut_decoders : List Decoder
cut_decoders = first_decoder ∷ first_decoder ∷ second_decoder ∷ second_decoder ∷ []
