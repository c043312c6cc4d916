use Rattle.std.specs.Prelude.{◌≡◌, [], None, Option, Some, map, string_bytes}
use Rattle.std.specs.Option.{option_map}
use Rattle.std.proofs.Common.{refl, sym, ap, subst, ◌∙◌}
use Rattle.lif_outside.proofs.CallLaws.{both_on_links}
use Rattle.lif_outside.specs.Calls.{store_calls}
use Rattle.top_base.specs.Given.{blind_given_in, command_in, compile_given_in, demo_given_in, finish_given_in, migrate_given_in, node_given_in, twin_given_in}
use Rattle.top_base.specs.Lines.{usage_line}
use Rattle.top_base.specs.Performs.{RunsOn}
use Rattle.top_base.specs.Words.{Command, blind, check, command_of, compile, cuts, demo, finish, migrate, order, relay, sink, twin}
use Rattle.top_base.specs.declared.status.Status.TheVariants.{Usage}
use Rattle.top_runs.specs.Demo.Runs.{RunsDemo}
use Rattle.lif_top.specs.Promises.{does_form}
use Rattle.top_runs.specs.Sending.{link_calls}
use Rattle.lif_top.proofs.CommandLaws.{runs_form}
use Rattle.lif_top.proofs.program.carry_out.Goals as goal

pub returns-in_default : goal.returns-in_default
returns-in_default g c =
    let faithful = g.L.Links.faithful c.args.links.now in
    let none : command_of (map string_bytes c.args.words.now) ≡ None = sym c.command_of.ensures ∙ ap (option_map command_in) c.in_default.is in
    let usage = c.usage.ensures in
    let is : c.usage.result ≡ record { status = Usage; line = usage_line } =
    ap (λ status. record { status = status; line = c.usage.result.line }) usage.status ∙ ap (λ line. record { status = Usage; line = line }) usage.line in
    record {
      calls = store_calls [];
      on_store = g.met.S.Store.no_calls c.args.store.now;
      on_links = g.met.L.Links.no_moves c.args.links.now;
      holds = subst (λ form. (does_form faithful form).runs c.usage.result (store_calls [])) (sym none) (is, refl);
    }

pub returns-in-Order : goal.returns-in-Order
returns-in-Order g c =
    runs_form g.S.Store g.L.Links g.met.L.Links.no_moves (map string_bytes c.args.words.now) c.command_of.result c.in-Some.command (order c.in-Order.path.now)
    c.command_of.ensures c.in-Some.is (ap command_in c.in-Order.is) c.args.store.now c.order.new.store c.args.links.now c.order.result c.order.ensures

pub returns-in-Cuts : goal.returns-in-Cuts
returns-in-Cuts g c =
    runs_form g.S.Store g.L.Links g.met.L.Links.no_moves (map string_bytes c.args.words.now) c.command_of.result c.in-Some.command (cuts c.in-Cuts.path.now)
    c.command_of.ensures c.in-Some.is (ap command_in c.in-Cuts.is) c.args.store.now c.cuts.new.store c.args.links.now c.cuts.result c.cuts.ensures

pub returns-in-Compile : goal.returns-in-Compile
returns-in-Compile g c =
    runs_form g.S.Store g.L.Links g.met.L.Links.no_moves (map string_bytes c.args.words.now) c.command_of.result c.in-Some.command (compile (compile_given_in c.in-Compile.given))
    c.command_of.ensures c.in-Some.is (ap command_in c.in-Compile.is) c.args.store.now c.compile.new.store c.args.links.now c.compile.result c.compile.ensures

pub returns-in-Check : goal.returns-in-Check
returns-in-Check g c =
    runs_form g.S.Store g.L.Links g.met.L.Links.no_moves (map string_bytes c.args.words.now) c.command_of.result c.in-Some.command (check c.in-Check.path.now)
    c.command_of.ensures c.in-Some.is (ap command_in c.in-Check.is) c.args.store.now c.check.new.store c.args.links.now c.check.result c.check.ensures

pub returns-in-Demo : goal.returns-in-Demo
returns-in-Demo g c =
    let given = demo_given_in c.in-Demo.given in
    let faithful = g.L.Links.faithful c.args.links.now in
    let outcome = c.demo.result in
    let is : command_of (map string_bytes c.args.words.now) ≡ Some (demo given) =
    sym c.command_of.ensures ∙ ap (option_map command_in) c.in-Some.is ∙ ap (λ (form : Command). Some form) (ap command_in c.in-Demo.is) in
    let does : Option Command → Type 0 = λ form. RunsOn g.S.Store g.L.Links (does_form faithful form) c.args.store.now c.args.store.now c.args.links.now c.demo.new.links outcome in
    subst does (sym is)
    (both_on_links c.args.store.now (g.met.S.Store.no_calls c.args.store.now) (λ moves. RunsDemo faithful given outcome.status outcome.line (link_calls moves))
    (RunsDemo faithful given outcome.status outcome.line) c.demo.ensures (λ moves runs. runs))

pub returns-in-Migrate : goal.returns-in-Migrate
returns-in-Migrate g c =
    runs_form g.S.Store g.L.Links g.met.L.Links.no_moves (map string_bytes c.args.words.now) c.command_of.result c.in-Some.command (migrate (migrate_given_in c.in-Migrate.given))
    c.command_of.ensures c.in-Some.is (ap command_in c.in-Migrate.is) c.args.store.now c.migrate.new.store c.args.links.now c.migrate.result c.migrate.ensures

pub returns-in-Relay : goal.returns-in-Relay
returns-in-Relay g c =
    runs_form g.S.Store g.L.Links g.met.L.Links.no_moves (map string_bytes c.args.words.now) c.command_of.result c.in-Some.command (relay (node_given_in c.in-Relay.given))
    c.command_of.ensures c.in-Some.is (ap command_in c.in-Relay.is) c.args.store.now c.relay.new.store c.args.links.now c.relay.result c.relay.ensures

pub returns-in-Sink : goal.returns-in-Sink
returns-in-Sink g c =
    runs_form g.S.Store g.L.Links g.met.L.Links.no_moves (map string_bytes c.args.words.now) c.command_of.result c.in-Some.command (sink (node_given_in c.in-Sink.given))
    c.command_of.ensures c.in-Some.is (ap command_in c.in-Sink.is) c.args.store.now c.sink.new.store c.args.links.now c.sink.result c.sink.ensures

pub returns-in-Blind : goal.returns-in-Blind
returns-in-Blind g c =
    runs_form g.S.Store g.L.Links g.met.L.Links.no_moves (map string_bytes c.args.words.now) c.command_of.result c.in-Some.command (blind (blind_given_in c.in-Blind.given))
    c.command_of.ensures c.in-Some.is (ap command_in c.in-Blind.is) c.args.store.now c.blind.new.store c.args.links.now c.blind.result c.blind.ensures

pub returns-in-Finish : goal.returns-in-Finish
returns-in-Finish g c =
    runs_form g.S.Store g.L.Links g.met.L.Links.no_moves (map string_bytes c.args.words.now) c.command_of.result c.in-Some.command (finish (finish_given_in c.in-Finish.given))
    c.command_of.ensures c.in-Some.is (ap command_in c.in-Finish.is) c.args.store.now c.finish.new.store c.args.links.now c.finish.result c.finish.ensures

pub returns-in-Twin : goal.returns-in-Twin
returns-in-Twin g c =
    runs_form g.S.Store g.L.Links g.met.L.Links.no_moves (map string_bytes c.args.words.now) c.command_of.result c.in-Some.command (twin (twin_given_in c.in-Twin.given))
    c.command_of.ensures c.in-Some.is (ap command_in c.in-Twin.is) c.args.store.now c.twin.new.store c.args.links.now c.twin.result c.twin.ensures
