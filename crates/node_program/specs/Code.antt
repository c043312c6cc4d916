-- A code: a network, a rate, a field, the operands of each link and a decoder for each demand.
use Rattle.std.specs.Prelude.{◌≡◌, ℕ, Bool, None, true, false, not, ◌≤◌, ◌*◌, ◌&&◌, ◌==◌, nat_lt, IsTrue, List, [], ◌∷◌, length, map, slice_get, if◌then◌else◌}
use Rattle.std.specs.List.{list_all, list_any}
use Rattle.std.specs.Option.{option_map_or}
use Rattle.failure_patterns.specs.UsedField.{pair_demands}
use Rattle.net_model.specs.Limits.{highest_rate}
use Rattle.net_model.specs.Lists.{is_rising}
use Rattle.net_model.specs.declared.Link.{Link}
use Rattle.net_model.specs.declared.net.Net.{Net}
use Rattle.net_model.specs.declared.net.FieldChoice.{FieldChoice}
use Rattle.net_model.specs.declared.net.FieldChoice.TheVariants as choice
use Rattle.gf_tables.specs.declared.kind.FieldKind.{FieldKind}
use Rattle.gf_tables.specs.declared.kind.FieldKind.TheVariants.{Eight, Nine, Sixteen}
use Rattle.gf_tables.specs.Product.{size_of}
use Rattle.net_model.specs.Demands.{demand_count, sinks_of_demands}
use Rattle.node_program.specs.declared.Operand.{Operand}
use Rattle.node_program.specs.declared.Decoder.{Decoder}

-- the choice that the network of a code over a kind of field names: no network can name the field of FIPS 197
abbrev pub choice_of : FieldKind → FieldChoice
choice_of Eight = choice.Eight
choice_of Nine = choice.Any
choice_of Sixteen = choice.Sixteen

-- whether the link of a number leads into a node
abbrev pub leads_into : List Link → ℕ → ℕ → Bool
leads_into links node link = option_map_or (λ l. l.head == node) (slice_get links link) false

-- no link's head is the tail of that link or of an earlier one
abbrev pub are_in_order : List ℕ → List Link → Bool
are_in_order tails [] = true
are_in_order tails (link ∷ links) =
    not (list_any (λ tail. tail == link.head) (link.tail ∷ tails)) && are_in_order (link.tail ∷ tails) links

-- what an operand of a link names: a source row for a link that leaves the source, else a link into the link's tail
abbrev pub is_source_of : Net → ℕ → Link → ℕ → Bool
is_source_of net rate link from = if link.tail == net.source then nat_lt from rate else leads_into net.links link.tail from

-- the operands rise, each names what a link may read, and each coefficient is a nonzero element
abbrev pub are_operands : Net → ℕ → FieldKind → Link → List Operand → Bool
are_operands net rate field link operands =
    is_rising (map (λ operand. operand.from) operands)
    && list_all (λ operand. is_source_of net rate link operand.from && nat_lt 0 operand.times && nat_lt operand.times (size_of field)) operands

-- a list of operands for each link
abbrev pub are_operands_of : Net → ℕ → FieldKind → List Link → List (List Operand) → Bool
are_operands_of net rate field [] [] = true
are_operands_of net rate field (link ∷ links) (operands ∷ table) =
    are_operands net rate field link operands && are_operands_of net rate field links table
are_operands_of net rate field [] (operands ∷ table) = false
are_operands_of net rate field (link ∷ links) [] = false

-- the decoder has as many links as the rate, all into a sink and rising, and a square matrix of elements
abbrev pub is_decoder : Net → ℕ → FieldKind → ℕ → Decoder → Bool
is_decoder net rate field sink decoder =
    (length decoder.links == rate) && is_rising decoder.links && list_all (leads_into net.links sink) decoder.links
    && (length decoder.entries == rate * rate) && list_all (λ entry. nat_lt entry (size_of field)) decoder.entries

-- a decoder for each demand, which is given by its sink
abbrev pub are_decoders : Net → ℕ → FieldKind → List ℕ → List Decoder → Bool
are_decoders net rate field [] [] = true
are_decoders net rate field (sink ∷ sinks) (decoder ∷ decoders) =
    is_decoder net rate field sink decoder && are_decoders net rate field sinks decoders
are_decoders net rate field [] (decoder ∷ decoders) = false
are_decoders net rate field (sink ∷ sinks) [] = false

-- a code as far as it has no decoders yet
pub record IsDraft (net : Net) (rate : ℕ) (field : FieldKind) (operands : List (List Operand)) : Type 0 where
  pub some_rate : 1 ≤ rate
  pub low_rate : rate ≤ highest_rate
  pub few_demands : demand_count net ≤ pair_demands
  pub link_order : IsTrue (are_in_order [] net.links)
  pub link_operands : IsTrue (are_operands_of net rate field net.links operands)
  pub named_field : net.field ≡ choice_of field
  pub no_wanted : net.wanted ≡ None

-- a draft, and a decoder for each demand
pub record IsCode (net : Net) (rate : ℕ) (field : FieldKind) (operands : List (List Operand)) (decoders : List Decoder) : Type 0 where
  pub draft : IsDraft net rate field operands
  pub demand_decoders : IsTrue (are_decoders net rate field (sinks_of_demands net) decoders)
