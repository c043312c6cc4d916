use Rattle.std.proofs.Common.{◌≡◌, ◌<◌, ℕ, Bool, List, [], ◌∷◌, ◌++◌, ap, arith, false, get_or, length, subst, ◌∙◌}
use Rattle.node_program.proofs.LiveTableLaws.{AreLive, AreLive-get, AreLive-more}
use Rattle.node_program.specs.LiveTable.{live_by}
use Rattle.node_program.proofs.live_table.live_where.Goals as goal

pub loop-link-preserved : goal.loop-link-preserved
loop-link-preserved c =
    let coding = c.args.coding in
    let fails = c.args.fails.now in
    let link = c.loop-link.link in
    let live = c.loop-link.live.items in
    let within : link < length coding.net.now.links = omega arith in
    AreLive-more coding.draft fails link live c.push.new.self.items within c.loop-link.invariant
    (c.in_ok-push.ensures.items
    ∙ ap (λ (is : Bool). live ++ is ∷ [])
    (c.is_live_by-is.ensures ∙ ap (λ (before : List Bool). live_by coding.net.now coding.operands.now (get_or fails link false) before link) c.as_slice.ensures.value))

pub returns-clause-entries : goal.returns-clause-entries
returns-clause-entries c =
    let net = c.args.coding.net.now in
    let operands = c.args.coding.operands.now in
    let fails = c.args.fails.now in
    let last : c.loop-link.link ≡ length net.links = omega arith in
    let Are : ℕ → Type 0 = λ links. AreLive net operands fails links c.loop-link.live.items in
    let all : AreLive net operands fails (length net.links) c.loop-link.live.items = subst Are last c.loop-link.invariant in
    λ failed table e below. rw c.of.ensures (AreLive-get net operands fails (length net.links) c.loop-link.live.items all failed table e below)
