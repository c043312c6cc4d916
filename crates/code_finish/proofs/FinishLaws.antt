-- A draft whose demands all have their decoders is a code, and it is accepted.
use Rattle.std.specs.Prelude.{◌≡◌, ◌<◌, ℕ, List, [], Option, Some, length, map, slice_get}
use Rattle.std.specs.Option.{option_map_or}
use Rattle.std.proofs.Common.{sym, ap, subst, ◌∙◌, arith}
use Rattle.code_file.specs.declared.draft.Draft.{Draft}
use Rattle.code_finish.proofs.DecoderLaws.{decoder_good}
use Rattle.code_finish.specs.Finished.{IsFinished}
use Rattle.code_finish.specs.Solved.{AreSolved, IsDecoderOf}
use Rattle.failure_patterns.proofs.DemandLaws.{pattern_place_within}
use Rattle.gf_tables.specs.declared.kind.FieldKind.{FieldKind}
use Rattle.linear_algebra.specs.Matrices.{identity, rows_of, times_rows}
use Rattle.net_model.specs.Demands.{demand_count, pattern_of_demand}
use Rattle.net_model.specs.Failed.{failed_links}
use Rattle.net_model.specs.declared.net.Net.{Net}
use Rattle.node_program.proofs.DecodingLaws.{IsAccepted-identity, are_decoders-demands}
use Rattle.node_program.specs.Code.{IsCode}
use Rattle.node_program.specs.Decoding.{decoder_matrix, decoder_vectors}
use Rattle.node_program.specs.Value.{global_vector}
use Rattle.node_program.specs.declared.Decoder.{Decoder}
use Rattle.node_program.specs.declared.Operand.{Operand}
use Rattle.node_program.specs.declared.code.Code.{Code}

-- what holds of the parts of a code holds of the same parts
pub by_parts : (P : Net → ℕ → FieldKind → List (List Operand) → Type 0) {net other_net : Net} {rate other_rate : ℕ} {field other_field : FieldKind} {operands other_operands : List (List Operand)}
    → net ≡ other_net → rate ≡ other_rate → field ≡ other_field → operands ≡ other_operands → P net rate field operands → P other_net other_rate other_field other_operands
by_parts P {net} {other_net} {rate} {other_rate} {field} {other_field} {operands} {other_operands} same_net same_rate same_field same_operands is =
    subst (P other_net other_rate other_field) same_operands
    (subst (λ field. P other_net other_rate field operands) same_field
    (subst (λ rate. P other_net rate field operands) same_rate
    (subst (λ net. P net rate field operands) same_net is)))

-- the product of a demand is the identity, by the parts of a code and what decoder was found
abbrev pub HasIdentity : Net → ℕ → FieldKind → List (List Operand) → Option Decoder → ℕ → Type 0
HasIdentity net rate field operands found demand =
    times_rows field rate (option_map_or (λ decoder. rows_of rate rate decoder.entries) found [])
    (option_map_or (λ decoder. map (global_vector net field operands (failed_links net.patterns (pattern_of_demand net demand)) rate) decoder.links) found [])
    ≡ identity rate

module _ (draft : Draft) (decoders : List Decoder) (solved : AreSolved draft (length draft.net.patterns) decoders) where
  -- a decoder that stands at a demand's number is that demand's
  decoder_at : (demand : ℕ) (decoder : Decoder) → demand < demand_count draft.net → slice_get decoders demand ≡ Some decoder → IsDecoderOf draft demand decoder
  decoder_at demand decoder within at =
      let found = solved demand (omega arith) within (pattern_place_within draft.net demand within) in
      let same : found.0 ≡ decoder = cc in
      subst (IsDecoderOf draft demand) same found.2

  -- so the draft and these decoders are a code
  pub IsCode-solved : length decoders ≡ demand_count draft.net → IsCode draft.net draft.rate draft.field draft.operands decoders
  IsCode-solved count = record {
    draft = draft.draft;
    demand_decoders = are_decoders-demands draft.net draft.rate draft.field decoders count
        (λ demand decoder within at. decoder_good draft demand decoder (decoder_at demand decoder within at));
  }

  -- and that code is finished
  module _ (code : Code) (net : code.net ≡ draft.net) (rate : code.rate ≡ draft.rate) (field : code.field ≡ draft.field) (operands : code.operands ≡ draft.operands) (are : code.decoders ≡ decoders) where
    identity_of : (demand : ℕ) → demand < demand_count code.net → times_rows code.field code.rate (decoder_matrix code demand) (decoder_vectors code demand) ≡ identity code.rate
    identity_of demand below =
        let within : demand < demand_count draft.net = subst (λ net. demand < demand_count net) net below in
        let found = solved demand (omega arith) within (pattern_place_within draft.net demand within) in
        let here : HasIdentity draft.net draft.rate draft.field draft.operands (slice_get decoders demand) demand = rw found.1 found.2.identity in
        by_parts (λ net rate field operands. HasIdentity net rate field operands (slice_get code.decoders demand) demand) (sym net) (sym rate) (sym field) (sym operands)
        (subst (λ decoders. HasIdentity draft.net draft.rate draft.field draft.operands (slice_get decoders demand) demand) (sym are) here)

    pub IsFinished-solved : IsFinished draft code
    IsFinished-solved = record {
      net = net;
      rate = rate;
      field = field;
      operands = operands;
      accepted = (IsAccepted-identity code).1 identity_of;
      links = λ demand decoder within at. (decoder_at demand decoder within (ap (λ all. slice_get all demand) (sym are) ∙ at)).links;
    }
