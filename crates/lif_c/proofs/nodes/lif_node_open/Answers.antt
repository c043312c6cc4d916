use Rattle.std.proofs.Common.{rules, ℕ}
use Rattle.std.specs.Prelude.{Option}
use Rattle.node_program.specs.declared.code.Code.{Code}
use Rattle.lif_c.proofs.CallLaws.{is-node, no-node, opens-of}
use Rattle.lif_c.proofs.nodes.lif_node_open.Goals.{in-Code+in-Ok, in-Code+in-Err, in_default-deref}
use Rattle.lif_c.proofs.nodes.lif_node_open.Goals as goal
use Rattle.lif_c.specs.Calls.{IsOpened}
use Rattle.lif_c.specs.Held.{held}
use Rattle.lif_c.specs.declared.opened.Opened.{Opened}
use Rattle.lif_c.specs.declared.opened.Opened.TheVariants as kinds
use Rattle.open_nodes.specs.NodeCalls.{OpensNode}

pub returns-clause-opens : goal.returns-clause-opens
returns-clause-opens c =
    let opens : Code → Option Opened → ℕ → Type 0 = λ it. IsOpened kinds.Node (OpensNode it c.args.pattern c.args.number) in let old = held c.args.node.now in let new = held c.match-deref.node in let of = held c.args.code.now in elim c.match-deref.branch [
      | in-Code+in-Ok w ↦ opens-of opens old new of c.in-Some.opened.value w.in-Code.it c.match-deref.status (search rules) (search rules) (search rules)
          (search (rules, is-node w.in-Code.it c.args.pattern c.args.number new w.in-Ok.opened.value))
      | in-Code+in-Err w ↦ opens-of opens old new of c.in-Some.opened.value w.in-Code.it c.match-deref.status (search rules) (search rules) (search rules)
          (search (rules, no-node w.in-Code.it c.args.pattern c.args.number old w.in-Err.why))
      | in_default-deref w ↦ search rules
    ]
