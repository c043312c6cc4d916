-- A code that fails isn't accepted.
use Rattle.std.specs.Prelude.{ℕ, List}
use Rattle.std.proofs.Common.{ap, ◌∙◌}
use Rattle.node_program.specs.Decoding.{IsAccepted}
use Rattle.node_program.proofs.DecodingLaws.{IsAccepted-identity}
use Rattle.node_program.specs.declared.code.Code.{Code}
use Rattle.code_checker.specs.Checking.{FailsFirst, entry_at}

-- where a demand's product differs from the identity, its decoder doesn't give back every block
pub FailsFirst-refuses : (code : Code) (demand row column found : ℕ) → FailsFirst code demand row column found → ¬ IsAccepted code
FailsFirst-refuses code demand row column found fails accepted =
    fails.shown.differs (fails.shown.value
    ∙ ap (λ (rows : List (List ℕ)). entry_at rows row column) ((IsAccepted-identity code).0 accepted demand fails.within))
