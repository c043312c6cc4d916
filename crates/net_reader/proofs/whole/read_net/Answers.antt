use Rattle.net_reader.specs.Parts.{parts_seen}
use Rattle.net_reader.proofs.TextLaws.{IsNetwork-from_text, IsWanted-from_text}
use Rattle.net_reader.proofs.whole.read_net.Goals as goal

pub net_of-requires : goal.net_of-requires
net_of-requires c = record {
  network = IsNetwork-from_text c.args.text.now (parts_seen c.in_ok-parts.parts) c.in_ok-parts.ensures;
  wanted = IsWanted-from_text c.args.text.now (parts_seen c.in_ok-parts.parts) c.in_ok-parts.ensures;
}
