-- What calls account for of which only the sum of what is appended is kept: none, and one after another.
use Rattle.std.specs.Prelude.{◌≡◌, ◌+◌, ◌%◌, ◌^◌, ℕ, List, [], ◌++◌, sum_by}
use Rattle.std.proofs.Common.{sym, ap, ◌∙◌, arith}
use Rattle.std.proofs.lemmas.List.Sums.{sum_by-append}
use Rattle.lif_outside.specs.AccountLaws.{accounts_none, accounts_then}
use Rattle.lif_outside.specs.Events.{Event}
use Rattle.top_runs.specs.Demo.Tally.{Tallies, any_path, no_faults, no_files, sum_of}
use Rattle.top_runs.specs.declared.tally.Tally.{Tally}

pub tallies_none : (at : Tally) → Tallies [] at at
tallies_none at = record {
  accounts = accounts_none no_files no_faults no_faults any_path at;
  grown = let none : at.sum ≡ at.sum + 0 = omega arith in ap (λ n. n % 2 ^ 64) none;
}

-- sums in 64 bits, one after the other
sums-then : (a b c first later : ℕ) → b % 2 ^ 64 ≡ (a + first) % 2 ^ 64 → c % 2 ^ 64 ≡ (b + later) % 2 ^ 64 → c % 2 ^ 64 ≡ (a + (first + later)) % 2 ^ 64
sums-then a b c first later one other = omega (arith, one, other)

pub tallies_then : (first later : List Event) (a b c : Tally) → Tallies first a b → Tallies later b c → Tallies (first ++ later) a c
tallies_then first later a b c one other = record {
  accounts = accounts_then no_files no_faults no_faults any_path first later a b c one.accounts other.accounts;
  grown = sums-then a.sum b.sum c.sum (sum_by sum_of first) (sum_by sum_of later) one.grown other.grown
      ∙ ap (λ n. (a.sum + n) % 2 ^ 64) (sym (sum_by-append sum_of first later));
}
