use Rattle.lif_outside.specs.Calls.{MakesCalls}
use Rattle.lif_outside.specs.FileCalls.{appends_of}
use Rattle.lif_outside.specs.Sequences.{Are}
use Rattle.top_base.specs.Given.{node_given_in}
use Rattle.top_nodes.proofs.SinkingLaws.{IsStill}
use Rattle.top_nodes.specs.Sink.{sink_turns}
use Rattle.top_nodes.proofs.sinking.Sinking.write.Given as goal

-- the output has what the blocks before count
abbrev pub invariant-loop-generation : goal.invariant-loop-generation
invariant-loop-generation g l = record {
  still : IsStill l.fn.self l.self;
  made : g.S.Store.made l.store l.words.output.now;
  calls : MakesCalls g.S.Store l.initial.store l.store
      (Are (appends_of (sink_turns (node_given_in l.words) l.fn.self.code.now l.fn.self.streams l.generation)));
}
