-- Boxes of what was opened.
use Rattle.std.specs.Prelude.{ℕ, List, Result, Ok, Err}
use Rattle.std.specs.Global.{Box}
use Rattle.node_program.specs.declared.code.Code.{Code}
use Rattle.open_nodes.specs.NodeCalls.{OpensNode}
use Rattle.open_nodes.specs.Opening.{OpensCode}
use Rattle.open_nodes.specs.SinkCalls.{OpensSink}
use Rattle.open_nodes.specs.declared.call_error.CallError.{CallError}
use Rattle.open_nodes.specs.declared.opening.OpenRefusal.{OpenRefusal}
use Rattle.lif_c.specs.declared.opened.Opened.{Opened}
use Rattle.lif_c.specs.declared.opened.Opened.TheVariants as kinds

-- what is in a box
abbrev pub unboxed : {E : Type 0} → Result (Box Opened) E → Result Opened E
unboxed (Ok opened) = Ok opened.value
unboxed (Err why) = Err why

-- a code of bytes, a node or a sink of a code, as it was opened
abbrev pub OpensBoxed : List ℕ → Result Opened OpenRefusal → Type 0
OpensBoxed bytes (Ok (kinds.Code code)) = OpensCode bytes (Ok code)
OpensBoxed bytes (Ok (kinds.Node it)) = ⊥
OpensBoxed bytes (Ok (kinds.Sink it)) = ⊥
OpensBoxed bytes (Err why) = OpensCode bytes (Err why)

abbrev pub OpensBoxedNode : Code → ℕ → ℕ → Result Opened CallError → Type 0
OpensBoxedNode code pattern number (Ok (kinds.Code it)) = ⊥
OpensBoxedNode code pattern number (Ok (kinds.Node it)) = OpensNode code pattern number (Ok it)
OpensBoxedNode code pattern number (Ok (kinds.Sink it)) = ⊥
OpensBoxedNode code pattern number (Err why) = OpensNode code pattern number (Err why)

abbrev pub OpensBoxedSink : Code → ℕ → ℕ → Result Opened CallError → Type 0
OpensBoxedSink code pattern number (Ok (kinds.Code it)) = ⊥
OpensBoxedSink code pattern number (Ok (kinds.Node it)) = ⊥
OpensBoxedSink code pattern number (Ok (kinds.Sink it)) = OpensSink code pattern number (Ok it)
OpensBoxedSink code pattern number (Err why) = OpensSink code pattern number (Err why)
