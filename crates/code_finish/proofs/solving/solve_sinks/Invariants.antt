use Rattle.std.proofs.Common.{◌≡◌, ℕ, vec_len}
use Rattle.std.specs.Prelude.{◌≢◌, slice_get}
use Rattle.code_finish.specs.Solved.{AreSolvedAt}
use Rattle.net_model.specs.Demands.{demand_count, pattern_of_demand}
use Rattle.code_finish.proofs.solving.solve_sinks.Given as goal

-- the demands of the sinks so far have their decoders, and those of other patterns have what they had
abbrev pub invariant-loop-sink : goal.invariant-loop-sink
invariant-loop-sink g l = record {
  field : l.taken.field ≡ l.draft.field;
  rate : l.taken.rate ≡ l.draft.rate;
  count : vec_len l.decoders ≡ demand_count l.draft.net;
  others : (demand : ℕ) → pattern_of_demand l.draft.net demand ≢ l.pattern → slice_get l.decoders.items demand ≡ slice_get l.initial.decoders.items demand;
  solved : AreSolvedAt l.draft l.pattern l.begin l.sink l.decoders.items;
}
