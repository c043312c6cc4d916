use Rattle.std.proofs.Common.{◌∙◌, ap, sym}
use Rattle.std.proofs.lemmas.Option.{get_or_from_slice_get}
use Rattle.name_texts.proofs.NameLaws.{sink_node}
use Rattle.name_texts.specs.Names.{node_name}
use Rattle.name_texts.proofs.names.sink_name.Goals as goal

pub node_name-requires : goal.node_name-requires
node_name-requires c = sink_node c.args.net.now c.args.sink c.at.result.now c.at.ensures c.requires

pub returns-clause-value : goal.returns-clause-value
returns-clause-value c =
    c.node_name.ensures.value ∙ ap (node_name c.args.net.now) (sym (get_or_from_slice_get c.args.net.now.sinks c.args.sink c.at.result.now 0 c.at.ensures))
