use Rattle.std.proofs.Common.{◌≡◌, take, find, None}
use Rattle.std.specs.Str.{bytes_eq}
use Rattle.net_reader.specs.Words.{texts_of}
use Rattle.top_base.proofs.paths.input_at.Given as goal

-- no input before has the path
abbrev pub invariant-loop-input : goal.invariant-loop-input
invariant-loop-input l = find (bytes_eq l.path) (take l.input-index (texts_of l.inputs)) ≡ None
