-- One link `l` from `s` to `t`.
use Rattle.std.specs.Prelude.{ℕ, IsTrue, None, List, [], ◌∷◌, codes}
use Rattle.std.proofs.Common.{refl, lit<, lit≤}
use Rattle.std.proofs.lemmas.Option.{none-some}
use Rattle.gf_tables.specs.declared.kind.FieldKind.{FieldKind}
use Rattle.gf_tables.specs.declared.kind.FieldKind.TheVariants.{Eight, Sixteen}
use Rattle.net_model.specs.declared.Link.{Link}
use Rattle.net_model.specs.declared.Pattern.{Pattern}
use Rattle.net_model.specs.declared.net.Net.{Net}
use Rattle.net_model.specs.declared.net.FieldChoice.{FieldChoice}
use Rattle.net_model.specs.Demands.{sinks_of_demands}
use Rattle.node_program.specs.Code.{choice_of, are_operands_of, are_decoders}
use Rattle.node_program.specs.declared.Operand.{Operand}
use Rattle.node_program.specs.declared.Decoder.{Decoder}
use Rattle.node_program.specs.declared.code.Code.{Code}

abbrev links : List Link
links = record { name = codes "l"; tail = 0; head = 1 } ∷ []

abbrev patterns : List Pattern
patterns = record { name = codes "none"; links = [] } ∷ []

-- the network, whose codes are to be over a field
abbrev network : FieldChoice → Net
network field = record {
  nodes = codes "s" ∷ codes "t" ∷ [];
  links = links;
  source = 0;
  sinks = 1 ∷ [];
  patterns = patterns;
  field = field;
  wanted = None;
  network = record {
    node_names = refl;
    link_names = refl;
    link_ends = refl;
    source_node = lit< tt;
    some_sink = lit< tt;
    sink_nodes = refl;
    distinct_sinks = refl;
    pattern_names = refl;
    pattern_links = refl;
    few_nodes = lit≤ tt;
    few_links = lit≤ tt;
    few_patterns = lit≤ tt;
  };
  rate = λ rate some. absurd (none-some rate some);
}

abbrev operands : ℕ → List (List Operand)
operands times = (record { from = 0; times = times } ∷ []) ∷ []

abbrev decoders : ℕ → List Decoder
decoders entry = record { links = 0 ∷ []; entries = entry ∷ [] } ∷ []

-- the coefficient and the entry are elements of the field, and the coefficient isn't zero
record AreElements (field : FieldKind) (times entry : ℕ) : Type 0 where
  coefficient : IsTrue (are_operands_of (network (choice_of field)) 1 field links (operands times))
  decoder : IsTrue (are_decoders (network (choice_of field)) 1 field (sinks_of_demands (network (choice_of field))) (decoders entry))

-- the code over a field with a coefficient and an entry
abbrev code_with : (field : FieldKind) (times entry : ℕ) → AreElements field times entry → Code
code_with field times entry are = record {
  net = network (choice_of field);
  rate = 1;
  field = field;
  operands = operands times;
  decoders = decoders entry;
  code = record {
    draft = record {
      some_rate = lit≤ tt;
      low_rate = lit≤ tt;
      few_demands = lit≤ tt;
      link_order = refl;
      link_operands = are.coefficient;
      named_field = refl;
      no_wanted = refl;
    };
    demand_decoders = are.decoder;
  };
}

-- over the field of 256 elements
unfoldable pub one_link : Code
one_link = code_with Eight 1 1 (record { coefficient = refl; decoder = refl })

-- over the field of 65,536 elements
unfoldable pub wide_one_link : Code
wide_one_link = code_with Sixteen 1 1 (record { coefficient = refl; decoder = refl })

-- over the field of 256 elements, with the coefficient 2 and its inverse
unfoldable pub doubled_one_link : Code
doubled_one_link = code_with Eight 2 0x8E (record { coefficient = refl; decoder = refl })
