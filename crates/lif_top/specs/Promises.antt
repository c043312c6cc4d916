-- What the program promises, by its words.
use Rattle.std.specs.Prelude.{◌≡◌, ◌↔◌, Bool, List, ℕ, Option, None, Some}
use Rattle.lif_outside.specs.declared.links.Links.{Ghosts as LinksGhosts}
use Rattle.lif_outside.specs.declared.sink.Sink.{Ghosts as SinkGhosts}
use Rattle.lif_outside.specs.declared.store.Store.{Ghosts as StoreGhosts}
use Rattle.lif_outside.specs.Calls.{Objects, outside_after, outside_before}
use Rattle.top_tools.specs.Check.{check_command}
use Rattle.top_tools.specs.Compile.Command.{compile_command}
use Rattle.top_tools.specs.Cuts.{cuts_command}
use Rattle.top_tools.specs.Finish.{finish_command}
use Rattle.top_tools.specs.Migrate.{migrate_command}
use Rattle.top_tools.specs.Order.{order_command}
use Rattle.top_tools.specs.Twin.{twin_command}
use Rattle.top_base.specs.Lines.{usage_line}
use Rattle.top_base.specs.Performs.{Behaviour, Performs, at_once}
use Rattle.top_base.specs.Words.{AtNode, Blind, Command, blind, check, command_of, compile, cuts, demo, finish, migrate, order, relay, send, send_two, sink, twin}
use Rattle.top_base.specs.declared.outcome.Outcome.{Outcome}
use Rattle.top_base.specs.declared.status.Status.{Status}
use Rattle.top_base.specs.declared.status.Status.TheVariants.{Usage}
use Rattle.top_blind.specs.Blind.{blind_command}
use Rattle.top_blind.specs.Delivered.{BlindDelivers}
use Rattle.top_nodes.specs.Chained.{NodeRelays, SinkReceives}
use Rattle.top_nodes.specs.Relay.{relay_command}
use Rattle.top_nodes.specs.Sink.{sink_command}
use Rattle.top_runs.specs.Demo.Command.{demo_command}
use Rattle.top_runs.specs.Send.Command.{send_command}
use Rattle.top_runs.specs.SendTwo.Command.{send_two_command}

-- words that are no form come to the usage
abbrev pub misuse : Outcome
misuse = record { status = Usage; line = usage_line }

-- what is done by words that are no form, and by those of each command, by links that are faithful or not
abbrev pub does_form : Bool → Option Command → Behaviour
does_form faithful None = at_once misuse
does_form faithful (Some (order net)) = order_command net
does_form faithful (Some (cuts net)) = cuts_command net
does_form faithful (Some (compile given)) = compile_command given
does_form faithful (Some (check code)) = check_command code
does_form faithful (Some (send given)) = send_command faithful given
does_form faithful (Some (demo given)) = demo_command faithful given
does_form faithful (Some (migrate given)) = migrate_command given
does_form faithful (Some (relay given)) = relay_command given
does_form faithful (Some (sink given)) = sink_command given
does_form faithful (Some (blind given)) = blind_command given
does_form faithful (Some (finish given)) = finish_command given
does_form faithful (Some (twin given)) = twin_command given
does_form faithful (Some (send_two given)) = send_two_command faithful given

pub record Promises {S C L : Type 0} {g : StoreGhosts S} {h : SinkGhosts C} {k : LinksGhosts L} (words : List (List ℕ)) (o : Objects g h k)
    (status : Status) : Type 0 where
  -- the status of words that are no form is theirs alone
  pub usage : (status ≡ Usage) ↔ (command_of words ≡ None)
  -- what the words do is performed: its calls, what it leaves, and which status comes
  pub performed : Performs (does_form (k.faithful o.links_old) (command_of words)) o status
  -- where the files of a node's links are streams for blocks, those that it writes are the streams of its links for them
  pub relays : (given : AtNode) → command_of words ≡ Some (relay given) → NodeRelays given status (outside_before o) (outside_after o)
  -- and where those of a sink's links are, its file is the one that the blocks are of
  pub receives : (given : AtNode) → command_of words ≡ Some (sink given) → SinkReceives given status (outside_before o) (outside_after o)
  -- where words name links of a code that fail, the files of the sinks that have the rank of the code are the source
  pub delivers : (given : Blind) → command_of words ≡ Some (blind given) → BlindDelivers given status (outside_before o) (outside_after o)
