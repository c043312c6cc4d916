use Rattle.open_nodes.proofs.opening.unread.Goals as goal

pub returns-in_default : goal.returns-in_default
returns-in_default c = λ bytes fails none. record {
  refusal = fails c.in_default.not-OutOfMemory;
  no_file = λ code file. c.in_default.not-OutOfMemory (none code file);
}
