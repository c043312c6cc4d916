use Rattle.std.proofs.Common.{◌≡◌, None, vec_len}
use Rattle.code_finish.specs.Solved.{AreSolved, IsFirstBefore}
use Rattle.net_model.specs.Demands.{demand_count}
use Rattle.code_finish.proofs.solving.solve_by_rows.Given as goal

-- the first demand of the patterns so far that doesn't decode, or all of them have their decoders
abbrev pub invariant-loop-pattern : goal.invariant-loop-pattern
invariant-loop-pattern g l = record {
  field : l.taken.field ≡ l.draft.field;
  rate : l.taken.rate ≡ l.draft.rate;
  count : vec_len l.decoders ≡ demand_count l.draft.net;
  first : IsFirstBefore l.draft l.pattern l.first;
  solved : l.first ≡ None → AreSolved l.draft l.pattern l.decoders.items;
}
