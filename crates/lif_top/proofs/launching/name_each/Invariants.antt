-- No count rises.
use Rattle.std.proofs.Common.{◌≡◌}
use Rattle.system_files.specs.Store.{read_faults_of, write_faults_of}
use Rattle.lif_top.proofs.launching.name_each.Given as goal

abbrev pub invariant-loop-word : goal.invariant-loop-word
invariant-loop-word g l = record {
  reads : read_faults_of l.store ≡ read_faults_of l.initial.store;
  writes : write_faults_of l.store ≡ write_faults_of l.initial.store;
}
