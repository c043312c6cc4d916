use Rattle.std.proofs.Common.{◌≡◌, ◌++◌, take}
use Rattle.std.specs.List.{concat, flat_map}
use Rattle.code_items.specs.Items.{decoder_items}
use Rattle.code_items.proofs.writing.put_decoders.Given as goal

abbrev pub invariant-loop-decoder : goal.invariant-loop-decoder
invariant-loop-decoder l = l.out.items ≡ l.fn.out.items ++ concat (flat_map (decoder_items l.fn.field) (take l.decoder-index l.decoders))
