-- A code's file in the place of another file of the same code: every command that is given an accepted code finds the same in both.
use Rattle.std.specs.Prelude.{◌≡◌, ◌<◌, ◌≤◌, ℕ, List, length, Some, Result, Ok, Err}
use Rattle.std.proofs.Common.{refl, sym, subst, arith}
use Rattle.code_file.specs.Items.{IsFileOf}
use Rattle.code_file.specs.Limits.{code_limit}
use Rattle.node_program.specs.declared.code.Code.{Code}
use Rattle.top_base.specs.Accepting.{HoldsCode, IsCodeOf, RefusesCode}
use Rattle.top_base.specs.Inputs.{HoldsNone}
use Rattle.top_base.specs.declared.outcome.Outcome.{Outcome}
use Rattle.top_base.specs.declared.status.Status.{Status}
use Rattle.top_base.specs.declared.status.Status.TheVariants.{CheckFailed, CodeRefused, TooLong}
use Rattle.top_base.proofs.CodeFileLaws.{file_apart}
use Rattle.top_base.proofs.SameCode.{same_code}

module _ (code : Code) (old new : List ℕ) (is_old : IsFileOf old code) (is_new : IsFileOf new code) (short_old : length old ≤ code_limit) (short_new : length new ≤ code_limit) where
  -- a file of a code is one of this one
  other_file : (other : Code) → IsFileOf old other → IsFileOf new other
  other_file other is = subst (IsFileOf new) (same_code old code other is_old is) is_new

  -- what refuses the one file refuses the other
  refused_too : (status : Status) (line : List ℕ) → RefusesCode old status line → RefusesCode new status line
  refused_too (CodeRefused why) line refused = absurd (file_apart old code (CodeRefused why) line is_old refused)
  refused_too (CheckFailed demand row column found) line refused = (refused.0, other_file refused.0 refused.1, refused.2, refused.3)
  refused_too status line refused = absurd refused

  -- neither is too long
  held_none : (status : Status) (line : List ℕ) → HoldsNone code_limit IsCodeOf RefusesCode (Some old) status line → HoldsNone code_limit IsCodeOf RefusesCode (Some new) status line
  held_none TooLong line long =
      let same : old ≡ long.0.0 = cc in
      absurd (omega (arith, short_old, subst (λ (bytes : List ℕ). code_limit < length bytes) (sym same) long.0.2))
  held_none status line held =
      let same : old ≡ held.0 = cc in
      (new, record { held = refl; short = short_new }, refused_too status line (subst (λ (bytes : List ℕ). RefusesCode bytes status line) (sym same) held.2))

  -- what the one holds as an accepted code, or what comes of it, the other holds
  pub same_held : (result : Result Code Outcome) → HoldsCode (Some old) result → HoldsCode (Some new) result
  same_held (Ok other) held =
      let same : old ≡ held.0 = cc in
      let spelled : IsFileOf old other = subst (λ (bytes : List ℕ). IsFileOf bytes other) (sym same) held.2.spelled in
      (new, record { held = refl; short = short_new }, record { spelled = other_file other spelled; accepted = held.2.accepted; within_cuts = held.2.within_cuts })
  same_held (Err outcome) held = held_none outcome.status outcome.line held
