use Rattle.std.proofs.Common.{◌≡◌, ◌∙◌, false, sym, arith}
use Rattle.two_sources.specs.Joined.{is_taken}
use Rattle.two_sources.proofs.NetworkLaws.{IsNetwork-joined}
use Rattle.two_sources.proofs.joining.join_sources.Goals as goal

pub of-requires : goal.of-requires
of-requires c =
    let net = c.args.net.now in
    let free : is_taken net c.args.r1 c.args.r2 ≡ false = sym c.is_taken.ensures ∙ c.if-is_taken.false in
    rw (
      c.in_ok-nodes.ensures,
      c.in_ok-links.ensures,
      c.len-source.ensures,
      c.of-sinks.ensures,
      c.in_ok-from_slice.ensures.items,
      c.as_slice.ensures,
      c.in_ok-patterns.ensures,
      c.as_slice-2.ensures,
    ) (IsNetwork-joined net c.args.second c.args.r1 c.args.r2 c.requires.second c.requires.rate free (omega arith) (omega arith))
