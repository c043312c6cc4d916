use Rattle.std.proofs.Common.{◌≡◌, ◌-◌, []}
use Rattle.code_items.specs.Reading.{repeated_at, decoder_link_at}
use Rattle.code_items.specs.Gives.{left_of}
use Rattle.code_items.proofs.decoders.read_links.Given as goal

abbrev pub invariant-loop : goal.invariant-loop
invariant-loop l = repeated_at (decoder_link_at l.fn.front.links l.fn.sink) (l.fn.front.rate - l.counter) l.all.items (left_of l.rest) ≡ repeated_at (decoder_link_at l.fn.front.links l.fn.sink) l.fn.front.rate [] (left_of l.fn.start)
