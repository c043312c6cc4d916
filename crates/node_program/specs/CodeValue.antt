-- What the links of a code carry under the patterns of its network.
use Rattle.std.specs.Prelude.{ℕ, Bool, ◌||◌, List}
use Rattle.net_model.specs.Failed.{failed_links}
use Rattle.net_model.specs.Walks.{leaves_source}
use Rattle.node_program.specs.Value.{value, global_vector, is_live}
use Rattle.node_program.specs.declared.Operand.{Operand}
use Rattle.node_program.specs.declared.code.Code.{Code}

-- the value of a link on a block under a pattern
abbrev pub value_in : Code → ℕ → List (List ℕ) → ℕ → List ℕ
value_in code pattern block link = value code.net code.field code.operands (failed_links code.net.patterns pattern) block link

-- the global coding vector of a link under a pattern
abbrev pub vector_in : Code → ℕ → ℕ → List ℕ
vector_in code pattern link =
    global_vector code.net code.field code.operands (failed_links code.net.patterns pattern) code.rate link

-- whether a link is live under a pattern
abbrev pub is_live_in : Code → ℕ → ℕ → Bool
is_live_in code pattern link = is_live code.net code.operands (failed_links code.net.patterns pattern) link

-- whether an operand of a link is a source row or a live link under a pattern
abbrev pub reads_live_in : Code → ℕ → ℕ → Operand → Bool
reads_live_in code pattern link operand = leaves_source code.net link || is_live_in code pattern operand.from
