-- What is written of a code has the sizes that its writers ask for.
use Rattle.std.specs.Prelude.{◌≡◌, ◌≤◌, true, length}
use Rattle.std.specs.List.{list_all}
use Rattle.std.proofs.Common.{arith}
use Rattle.net_model.specs.Demands.{sinks_of_demands}
use Rattle.node_program.specs.declared.code.Code.{Code}
use Rattle.code_items.specs.Spelling.{front_of}
use Rattle.code_items.specs.Written.{has_elements, has_size}
use Rattle.code_items.proofs.Joined.{decoders_fit}
use Rattle.code_items.proofs.PartLaws.{EachFits-from_decoders_of_code, have_size-from_read, length-decoders_of_code}

module _ (code : Code) where
  -- the entries of the decoders are elements
  pub entries_fit : list_all (has_elements code.field) code.decoders ≡ true
  entries_fit = decoders_fit code.net code.rate code.field (sinks_of_demands code.net) code.decoders code.code.demand_decoders

  -- the decoders have the size that the rate asks for
  pub sizes_fit : list_all (has_size code.rate) code.decoders ≡ true
  sizes_fit =
      let sinks = sinks_of_demands code.net in
      have_size-from_read (front_of code.net code.rate code.field) sinks code.decoders
      (EachFits-from_decoders_of_code code.net code.rate code.field sinks code.decoders code.net.network.few_links code.code.demand_decoders)

  -- there are few of them
  pub few_decoders : length code.decoders ≤ 65536
  few_decoders = omega (arith, code.code.draft.few_demands, length-decoders_of_code code.net code.rate code.field code.decoders code.net.network.few_links code.code.demand_decoders)
