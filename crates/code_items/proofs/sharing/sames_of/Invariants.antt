use Rattle.std.proofs.Common.{◌≡◌, ◌<◌, ◌^◌, [], length, take, drop}
use Rattle.std.specs.List.{concat}
use Rattle.code_items.specs.Items.{decoder_table_items}
use Rattle.code_items.specs.Shared.{AreSames}
use Rattle.code_items.specs.Sharing.{sames_after}
use Rattle.code_items.proofs.sharing.sames_of.Given as goal

abbrev pub invariant-loop-demand : goal.invariant-loop-demand
invariant-loop-demand l = record {
  rest : l.rest ≡ concat (decoder_table_items l.fn.field (drop l.demand l.decoders));
  small : length l.rest < 2 ^ 64;
  sames : l.sames.items ≡ sames_after [] (take l.demand l.decoders);
  are : AreSames l.fn.field l.fn.rate l.seen l.numbers.items (take l.demand l.decoders);
}
