use Rattle.std.specs.Prelude.{◌≡◌, ◌<◌, ◌≤◌, ℕ, Some, slice_get}
use Rattle.cut_witness.specs.declared.cert.Cert.{Cert}
use Rattle.lif_compiler.proofs.rating.first_at_most.Given as goal

-- each earlier certificate's value is above it
abbrev pub invariant-loop-number : goal.invariant-loop-number
invariant-loop-number l = (earlier : ℕ) (cert : Cert) → earlier < l.number → slice_get l.certs earlier ≡ Some cert → ¬ (cert.value ≤ l.most)
