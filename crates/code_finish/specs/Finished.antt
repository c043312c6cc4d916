-- A draft with decoders, or the first of its demands that doesn't decode.
use Rattle.std.specs.Prelude.{◌≡◌, ◌<◌, ℕ, Some, slice_get}
use Rattle.code_file.specs.declared.draft.Draft.{Draft}
use Rattle.code_finish.specs.Solved.{DecodesIn, IsConfused, chosen}
use Rattle.code_finish.specs.declared.finishing.FinishWhy.{FinishWhy}
use Rattle.code_finish.specs.declared.finishing.FinishWhy.TheVariants.{Confused, OutOfMemory}
use Rattle.failure_patterns.specs.First.{FailsFirstIn}
use Rattle.net_model.specs.Demands.{demand_count}
use Rattle.node_program.specs.Decoding.{IsAccepted}
use Rattle.node_program.specs.declared.Decoder.{Decoder}
use Rattle.node_program.specs.declared.code.Code.{Code}

-- the code has the draft's parts and is accepted, and of each decoder it is told which links it takes
pub record IsFinished (draft : Draft) (code : Code) : Type 0 where
  pub net : code.net ≡ draft.net
  pub rate : code.rate ≡ draft.rate
  pub field : code.field ≡ draft.field
  pub operands : code.operands ≡ draft.operands
  pub accepted : IsAccepted code
  pub links : (demand : ℕ) (decoder : Decoder) → demand < demand_count draft.net → slice_get code.decoders demand ≡ Some decoder → decoder.links ≡ chosen draft demand

-- why a draft isn't finished: the first demand that doesn't decode, with a block that it doesn't tell from zeros; or want of memory
abbrev pub IsUnfinished : Draft → FinishWhy → Type 0
IsUnfinished draft (Confused demand block) =
    FailsFirstIn (DecodesIn draft) 0 (demand_count draft.net) demand (IsConfused draft demand block)
IsUnfinished draft OutOfMemory = Unit {0}
