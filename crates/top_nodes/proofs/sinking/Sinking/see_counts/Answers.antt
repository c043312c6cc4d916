use Rattle.std.specs.Prelude.{◌+◌}
use Rattle.std.proofs.Common.{◌≡◌, ◌≤◌, ℕ, Some, false, below_more, sym, ap, ◌∙◌, arith}
use Rattle.generation_frame.specs.Blocks.{capacity, count_of}
use Rattle.top_base.specs.declared.outcome.Outcome.{Outcome}
use Rattle.top_nodes.proofs.SinkingLaws.{bad_still, block_still, count_bad, counted_more, counts_good, still_then}
use Rattle.top_nodes.specs.Sink.{block_in, bytes_in, is_bad}
use Rattle.top_nodes.proofs.sinking.Sinking.see_counts.Goals as goal

pub returns-then-is_bad-clause-refused : goal.returns-then-is_bad-clause-refused
returns-then-is_bad-clause-refused g c =
    let was = c.args.self.now in
    let at = c.loop-generation in
    let now = c.count-count.new.self in
    let generation = at.generation in
    let done = c.count-count.ensures in
    let still = still_then was at.self now at.invariant.still (record { code = done.code; demand = done.demand; streams = done.streams; generations = done.generations }) in
    let count = λ (generation : ℕ). count_of (block_in was.code.now was.demand was.streams generation) in
    count_bad (capacity was.code.now.rate) was.generations count generation c.count-count.result c.loop-generation-test.true at.invariant.good
    (done.count ∙ ap count_of (block_still was at.self at.invariant.still generation))
    (sym (bad_still was now still generation c.count-count.result) ∙ sym c.is_bad.ensures ∙ c.if-is_bad.true)
    ∙ ap (λ (outcome : Outcome). Some outcome) (sym c.bad_block.ensures)

pub loop-generation-preserved : goal.loop-generation-preserved
loop-generation-preserved g c =
    let was = c.args.self.now in
    let at = c.loop-generation in
    let now = c.count-count.new.self in
    let generation = at.generation in
    let done = c.count-count.ensures in
    let still = still_then was at.self now at.invariant.still (record { code = done.code; demand = done.demand; streams = done.streams; generations = done.generations }) in
    let count = λ (generation : ℕ). count_of (block_in was.code.now was.demand was.streams generation) in
    let bad = λ (generation : ℕ). is_bad (capacity was.code.now.rate) was.generations generation (count generation) in
    let counted : c.count-count.result ≡ count generation = done.count ∙ ap count_of (block_still was at.self at.invariant.still generation) in
    record {
      still = still;
      bytes = ap (λ bytes. bytes + c.from-bytes.result) at.invariant.bytes ∙ ap (λ counted. bytes_in was.code.now was.demand was.streams generation + counted) (c.from-bytes.ensures ∙ counted)
          ∙ sym (counted_more count generation);
      low = omega (arith, at.invariant.low, c.from-bytes.ensures);
      good = below_more (λ one. bad one ≡ false) generation at.invariant.good
          (ap (is_bad (capacity was.code.now.rate) was.generations generation) (sym counted)
          ∙ sym (bad_still was now still generation c.count-count.result) ∙ sym c.is_bad.ensures ∙ c.if-is_bad.false);
    }

pub returns-clause-good : goal.returns-clause-good
returns-clause-good g c =
    let was = c.args.self.now in
    let at = c.loop-generation in
    let end : was.generations ≤ at.generation = omega arith in
    counts_good (capacity was.code.now.rate) was.generations (λ (generation : ℕ). count_of (block_in was.code.now was.demand was.streams generation))
    (λ one below. at.invariant.good one (omega (arith, below, end)))
