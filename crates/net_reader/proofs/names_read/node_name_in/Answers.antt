use Rattle.std.proofs.Common.{ℕ, List, [], Result, slice_get, ap, sym, ◌∙◌}
use Rattle.net_reader.specs.Statements.{Statement, nodes_of}
use Rattle.net_reader.specs.Text.{names_read}
use Rattle.net_reader.specs.declared.refusal.ReadRefusal.{ReadRefusal}
use Rattle.net_reader.proofs.NodeNameLaws.{node_name-valid}
use Rattle.net_reader.proofs.names_read.node_name_in.Goals as goal

pub copied-requires : goal.copied-requires
copied-requires c =
    let heard = c.in-Ok.ensures [] c.requires in
    node_name-valid c.args.text.now c.args.node c.in-Some.name.now
    (ap (λ (read : Result (List Statement) ReadRefusal). slice_get (names_read nodes_of read) c.args.node) heard.1
    ∙ ap (λ (names : List (List ℕ)). slice_get names c.args.node) (sym heard.2.nodes) ∙ sym c.in-Some.ensures)
