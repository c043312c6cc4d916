-- What has to be known of the command `blind`: it is a step, so it is known, and its words were a form.
use Rattle.std.specs.Prelude.{◌≡◌, ◌≢◌, ◌∷◌, ℕ, true, false, List, [], Option, None, Some}
use Rattle.std.specs.List.{list_any}
use Rattle.std.specs.Option.{IfSome, option_map, option_or}
use Rattle.std.specs.Str.{bytes_eq}
use Rattle.std.proofs.Common.{refl}
use Rattle.std.proofs.lemmas.Bool.{or_left, or_right}
use Rattle.std.proofs.lemmas.Slice.Eq.{bytes_eq-Decides}
use Rattle.code_file.specs.Items.{IsFileOf}
use Rattle.code_file.specs.Limits.{code_limit}
use Rattle.command_steps.proofs.RefusalLaws.{IsRefusal, either_refuses, or_refuses_step, shares_none, shares_refuses}
use Rattle.command_steps.proofs.StepLaws.{IsStep, reads_then_step, step_known}
use Rattle.lif_outside.specs.Calls.{Calls}
use Rattle.node_program.specs.declared.code.Code.{Code}
use Rattle.source_turns.proofs.RunLaws.{feeding_step}
use Rattle.source_turns.specs.Turns.{feed_turns}
use Rattle.top_base.proofs.CodeFileLaws.{file_input}
use Rattle.top_base.proofs.PerformingLaws.{IsKnown}
use Rattle.top_base.specs.CodeFiles.{RefusesFile}
use Rattle.top_base.specs.Making.{shares}
use Rattle.top_base.specs.Paths.{output_paths, shared_path}
use Rattle.top_base.specs.Words.{Blind, source_limit}
use Rattle.top_base.specs.declared.outcome.Outcome.{Outcome}
use Rattle.top_base.specs.declared.status.Status.TheVariants.{Usage}
use Rattle.top_blind.proofs.OutputLaws.{whole_apart, whole_distinct}
use Rattle.top_blind.proofs.PieceLaws.{piece_appends}
use Rattle.top_blind.specs.Blind.{blind_command, blind_feeds, blind_through, declined, delivery, failed_in, line_in, outputs_in, unknown_among, unknown_link}

-- ---- what words decline

unknown_refuses : (unknown : Option (List ℕ)) → IfSome (option_map unknown_link unknown) IsRefusal
unknown_refuses (Some word) = record { inputs = refl; used = λ is. cc }
unknown_refuses None = tt

declined_refuses : (given : Blind) (code : Code) → IfSome (declined given code) IsRefusal
declined_refuses given code =
    let shared = shared_path (given.code ∷ given.source ∷ []) (output_paths given.prefix code.net) in
    either_refuses (option_map unknown_link (unknown_among code.net given.links)) (option_map shares shared) (unknown_refuses (unknown_among code.net given.links)) (shares_refuses shared)

-- where none are declined, no output's path is shared
other_none : (unknown shared : Option Outcome) → option_or unknown shared ≡ None → shared ≡ None
other_none (Some outcome) shared none = absurd (cc)
other_none None shared none = none

pub declined_clear : (given : Blind) (code : Code) → declined given code ≡ None → shared_path (given.code ∷ given.source ∷ []) (output_paths given.prefix code.net) ≡ None
declined_clear given code none =
    let shared = shared_path (given.code ∷ given.source ∷ []) (output_paths given.prefix code.net) in
    shares_none shared (other_none (option_map unknown_link (unknown_among code.net given.links)) (option_map shares shared) none)

-- ---- the command

module _ (given : Blind) (code : Code) where
  abbrev inputs : List (List ℕ)
  inputs = given.code ∷ given.source ∷ []

  -- the source is one of the inputs
  source_among : list_any (bytes_eq given.source) inputs ≡ true
  source_among = or_right (bytes_eq given.source given.code) _ (or_left _ false ((bytes_eq-Decides given.source given.source).1 refl))

  feeds_step : shared_path inputs (output_paths given.prefix code.net) ≡ None → IsStep (blind_feeds given code)
  feeds_step clear =
      let failed = failed_in given code in
      let job = delivery code (outputs_in given code) in
      feeding_step job given.source source_limit (feed_turns job) (line_in given code) (λ ended bytes. refl)
      (whole_distinct inputs given.prefix code failed clear) (whole_apart inputs given.prefix code failed clear given.source source_among)
      (λ generation piece. piece_appends piece (outputs_in given code))

  through_step : IsStep (blind_through given code)
  through_step = or_refuses_step (declined given code) (blind_feeds given code) (declined_refuses given code) (λ none. feeds_step (declined_clear given code none))

pub blind_step : (given : Blind) → IsStep (blind_command given)
blind_step given = reads_then_step code_limit IsFileOf RefusesFile given.code (blind_through given) file_input (through_step given)

pub blind_known : (given : Blind) → IsKnown (blind_command given)
blind_known given = step_known (blind_command given) (blind_step given) tt

pub blind_used : (given : Blind) (outcome : Outcome) (calls : Calls) → (blind_command given).runs outcome calls → outcome.status ≢ Usage
blind_used given = (blind_step given).used
