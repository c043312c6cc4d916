-- What is made of an input is a code's file that is written, or files that are.
use Rattle.std.specs.Prelude.{◌≡◌, ◌⊎◌, ◌∷◌, ℕ, false, List, [], None}
use Rattle.std.specs.Str.{bytes_eq}
use Rattle.std.proofs.Common.{refl, sym, subst, inl, inr}
use Rattle.std.proofs.lemmas.Slice.Eq.{bytes_eq-Decides}
use Rattle.lif_outside.specs.Events.{Event}
use Rattle.lif_outside.specs.FileCalls.{Written}
use Rattle.node_program.specs.declared.code.Code.{Code}
use Rattle.top_base.specs.Inputs.{IsNoMemory}
use Rattle.top_base.specs.Making.{RunsMaking}
use Rattle.top_base.specs.Paths.{shared_path}
use Rattle.top_base.specs.declared.outcome.Outcome.{Outcome}
use Rattle.top_base.specs.declared.status.Status.{Status}
use Rattle.top_base.specs.declared.status.Status.TheVariants.{Done, OutOfMemory, TooLong, WriteFault}
use Rattle.top_tools.specs.CodeWriting.{DeclinesLong, IsWritten, WritesAll, WritesCode}

module _ {X : Type 0} (limit : ℕ) (Is : List ℕ → X → Type 0) (Refuses : List ℕ → Status → List ℕ → Type 0)
    (Makes : X → List Written → List ℕ → Type 0) (CanMake : X → List ℕ → Type 0) (Declines : X → Status → List ℕ → Type 0) (x : X) where
  abbrev Runs : Status → List ℕ → List Event → Type 0
  Runs = RunsMaking limit Is Refuses Makes CanMake Declines x

  -- the calls of a command that makes a code's file, by those that write it
  pub writes_made : (path said : List ℕ) (code : Code)
      → ((files : List Written) (line : List ℕ) → IsWritten path said code files line → Makes x files line)
      → ((line : List ℕ) → DeclinesLong code TooLong line → Declines x TooLong line)
      → (status : Status) (line : List ℕ) (calls : List Event) → WritesCode path said code status line calls → Runs status line calls
  writes_made path said code makes long Done line calls runs = (runs.0, makes runs.0 line runs.1, runs.2)
  writes_made path said code makes long WriteFault line calls runs = (runs.0, runs.1, makes runs.0 runs.1 runs.2, runs.3, runs.4)
  writes_made path said code makes long OutOfMemory line calls runs = runs
  writes_made path said code makes long TooLong line calls runs = (long line runs.0, runs.1)
  writes_made path said code makes long status line calls runs = absurd runs.0

  -- those of one that makes files, by those that write them
  pub writes_all_made : (files : List Written) (said : List ℕ) → Makes x files said
      → (status : Status) (line : List ℕ) (calls : List Event) → WritesAll files said status line calls → Runs status line calls
  writes_all_made files said made Done line calls runs = (files, subst (Makes x files) (sym runs.0) made, runs.1)
  writes_all_made files said made WriteFault line calls runs = (files, said, made, runs.1, runs.0)
  writes_all_made files said made status line calls runs = absurd runs

  -- what is declined makes no call, and neither does want of memory
  module _ (undone : (line : List ℕ) → ¬ Declines x Done line) (unwritten : (line : List ℕ) → ¬ Declines x WriteFault line)
      (held : (line : List ℕ) → ¬ Declines x OutOfMemory line) where
    declined_runs : (status : Status) (line : List ℕ) → Declines x status line → Runs status line []
    declined_runs Done line declined = absurd (undone line declined)
    declined_runs WriteFault line declined = absurd (unwritten line declined)
    declined_runs OutOfMemory line declined = absurd (held line declined)
    declined_runs status line declined = (declined, refl)

    pub makes_none : (outcome : Outcome) → Declines x outcome.status outcome.line ⊎ IsNoMemory outcome → Runs outcome.status outcome.line []
    makes_none outcome (inl declined) = declined_runs outcome.status outcome.line declined
    makes_none outcome (inr lost) = subst (λ status. Runs status outcome.line []) (sym lost.status) (refl, lost.line)

-- where the one path that is written isn't the one that is read, none is shared
pub none_shared : (old new : List ℕ) → bytes_eq new old ≡ false → shared_path (old ∷ []) (new ∷ []) ≡ None
none_shared old new other = rw (other, (bytes_eq-Decides new new).1 refl) refl
