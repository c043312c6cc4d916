-- The commands that words were read as.
use Rattle.std.specs.Prelude.{map, string_bytes}
use Rattle.top_base.specs.Words.{AtNode, Blind, Compile, Demo, Finish, Migrate, Send, SendTwo, Twin, Command as Form, blind, check, compile, cuts, demo, finish, migrate, order, relay, send, send_two, sink, twin}
use Rattle.top_base.specs.declared.words.BlindWords.{BlindWords}
use Rattle.top_base.specs.declared.words.CompileWords.{CompileWords}
use Rattle.top_base.specs.declared.words.FinishWords.{FinishWords}
use Rattle.top_base.specs.declared.demo_words.DemoWords.{DemoWords}
use Rattle.top_base.specs.declared.words.MigrateWords.{MigrateWords}
use Rattle.top_base.specs.declared.words.NodeWords.{NodeWords}
use Rattle.top_base.specs.declared.words.SendWords.{SendWords}
use Rattle.top_base.specs.declared.send_two_words.SendTwoWords.{SendTwoWords}
use Rattle.top_base.specs.declared.twin_words.TwinWords.{TwinWords}
use Rattle.top_base.specs.declared.words.Command.{Command}
use Rattle.top_base.specs.declared.words.Command.TheVariants as read

-- what a command `compile` is given, by its words
abbrev pub compile_given_in : CompileWords → Compile
compile_given_in words = record { net = words.net.now; code = words.code.now; report = words.report.now }

-- what a command `migrate` is given, by its words
abbrev pub migrate_given_in : MigrateWords → Migrate
migrate_given_in words = record { old = words.old.now; new = words.new.now }

-- what a command `send` is given, by its words
abbrev pub given_in : SendWords → Send
given_in words = record { code = words.code.now; pattern = words.pattern.now; seed = words.seed; source = words.source.now; prefix = words.prefix.now }

-- what a command `relay` or `sink` is given, by its words
abbrev pub node_given_in : NodeWords → AtNode
node_given_in words = record { code = words.code.now; pattern = words.pattern.now; node = words.node.now; input = words.input.now; output = words.output.now }

-- what a command `blind` is given, by its words
abbrev pub blind_given_in : BlindWords → Blind
blind_given_in words = record { code = words.code.now; source = words.source.now; prefix = words.prefix.now; links = map string_bytes words.links.now }

-- what a command `finish` is given, by its words
abbrev pub finish_given_in : FinishWords → Finish
finish_given_in words = record { draft = words.draft.now; code = words.code.now }

-- what a command `twin` is given, by its words
abbrev pub twin_given_in : TwinWords → Twin
twin_given_in words =
    record { net = words.net.now; second = words.second.now; r1 = words.r1; r2 = words.r2; code = words.code.now; report = words.report.now }

-- what a command `sendtwo` is given, by its words
abbrev pub send_two_given_in : SendTwoWords → SendTwo
send_two_given_in words =
    record { code = words.code.now; pattern = words.pattern.now; seed = words.seed; first_rate = words.first_rate; first = words.first.now; second = words.second.now; prefix = words.prefix.now }

-- what a command `demo` is given, by its words
abbrev pub demo_given_in : DemoWords → Demo
demo_given_in words = record { n = words.n; k = words.k; bytes = words.bytes }

abbrev pub command_in : Command → Form
command_in (read.Order path) = order path.now
command_in (read.Cuts path) = cuts path.now
command_in (read.Compile words) = compile (compile_given_in words)
command_in (read.Check path) = check path.now
command_in (read.Send words) = send (given_in words)
command_in (read.Demo words) = demo (demo_given_in words)
command_in (read.Migrate words) = migrate (migrate_given_in words)
command_in (read.Relay words) = relay (node_given_in words)
command_in (read.Sink words) = sink (node_given_in words)
command_in (read.Blind words) = blind (blind_given_in words)
command_in (read.Finish words) = finish (finish_given_in words)
command_in (read.Twin words) = twin (twin_given_in words)
command_in (read.SendTwo words) = send_two (send_two_given_in words)
