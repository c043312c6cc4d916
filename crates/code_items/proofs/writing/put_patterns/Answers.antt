use Rattle.code_items.specs.Items.{pattern_items}
use Rattle.code_items.proofs.Joined.{items_more}
use Rattle.code_items.proofs.writing.put_patterns.Goals as goal

pub loop-pattern-preserved : goal.loop-pattern-preserved
loop-pattern-preserved c =
    rw (c.in_ok-put_pattern.ensures, c.loop-pattern.invariant, c.pattern-item.is) (items_more c.args.patterns.now c.loop-pattern.pattern-index c.pattern-item.result c.args.out.now.items pattern_items c.loop-pattern-test.true)
