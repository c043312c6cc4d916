use Rattle.std.proofs.Common.{[]}
use Rattle.lif_outside.proofs.CallLaws.{calls_of, calls_weaker}
use Rattle.net_reader.specs.Text.{net_limit}
use Rattle.top_base.specs.Given.{compile_given_in}
use Rattle.top_base.specs.Networks.{IsNetOf, RefusesNet}
use Rattle.top_tools.proofs.CodeWritingLaws.{makes_none, writes_all_made}
use Rattle.top_tools.proofs.compiling.compile_net.Goals as goal
use Rattle.top_tools.specs.CodeWriting.{WritesAll}
use Rattle.top_tools.specs.Compile.Command.{Compiles}
use Rattle.top_tools.specs.Compile.Made.{IsGood, IsMade, RefusesMaking}
use Rattle.top_tools.specs.Compile.Ready.{files_of}

pub returns-in-Err : goal.returns-in-Err
returns-in-Err g c =
    let given = compile_given_in c.args.words.now in
    let refused = c.in-Err.refused in
    calls_of (Compiles given c.args.net.now refused.status refused.line) [] (g.met.S.Store.no_calls c.args.store.now)
    (makes_none net_limit IsNetOf RefusesNet (IsMade given) IsGood RefusesMaking c.args.net.now
    (λ line refused. refused) (λ line refused. refused) (λ line refused. refused) refused c.in-Err.ensures.refused)

pub returns-in-Ok : goal.returns-in-Ok
returns-in-Ok g c =
    let given = compile_given_in c.args.words.now in
    let net = c.args.net.now in
    let made = c.in-Ok.made in
    let files = files_of given made.code.items made.report.items in
    let outcome = c.write_made.result in
    calls_weaker (WritesAll files made.line outcome.status outcome.line) (Compiles given net outcome.status outcome.line)
    c.write_made.ensures
    (writes_all_made net_limit IsNetOf RefusesNet (IsMade given) IsGood RefusesMaking net files made.line (c.in-Ok.ensures.ready given)
    outcome.status outcome.line)
