-- The items of a code file, part by part.
use Rattle.std.specs.Prelude.{ℕ, ◌==◌, List, [], ◌∷◌, ◌++◌, length, map, drop, if◌then◌else◌}
use Rattle.std.specs.List.{flat_map}
use Rattle.std.specs.Int.{to_be_bytes, w16, w32}
use Rattle.gf_tables.specs.declared.kind.FieldKind.{FieldKind}
use Rattle.gf_tables.specs.declared.kind.Width.{Width}
use Rattle.gf_tables.specs.declared.kind.Width.TheVariants.{One, Two}
use Rattle.gf_tables.specs.Product.{mark_of, width_of}
use Rattle.net_model.specs.declared.Link.{Link}
use Rattle.net_model.specs.declared.net.Net.{Net}
use Rattle.net_model.specs.declared.Pattern.{Pattern}
use Rattle.node_program.specs.declared.Operand.{Operand}
use Rattle.node_program.specs.declared.Decoder.{Decoder}
use Rattle.code_items.specs.Sharing.{same_of}

-- the bytes of an item
abbrev pub Item : Type 0
Item = List ℕ

abbrev pub byte_item : ℕ → Item
byte_item n = n ∷ []

-- a number in two bytes
abbrev pub number_item : ℕ → Item
number_item n = to_be_bytes w16 n

-- a number in four bytes
abbrev pub long_item : ℕ → Item
long_item n = to_be_bytes w32 n

-- a number of a width
abbrev pub width_item : Width → ℕ → Item
width_item One n = byte_item n
width_item Two n = number_item n

-- a name behind its length
abbrev pub name_item : List ℕ → Item
name_item name = length name ∷ name

-- the number of an element, in as many bytes as the field's elements have
abbrev pub element_item : FieldKind → ℕ → Item
element_item field n = width_item (width_of field) n

abbrev pub link_items : Link → List Item
link_items link = name_item link.name ∷ number_item link.tail ∷ number_item link.head ∷ []

-- the number of the links of a pattern, and the links
abbrev pub pattern_items : Pattern → List Item
pattern_items pattern =
    name_item pattern.name ∷ number_item (length pattern.links) ∷ map number_item pattern.links

abbrev pub operand_items : FieldKind → Operand → List Item
operand_items field operand = number_item operand.from ∷ element_item field operand.times ∷ []

abbrev pub operands_items : FieldKind → List Operand → List Item
operands_items field operands = flat_map (operand_items field) operands

-- the number of the operands of a link, and the operands
abbrev pub operand_list_items : FieldKind → List Operand → List Item
operand_list_items field operands =
    number_item (length operands) ∷ operands_items field operands

-- the links of a decoder, and its matrix row by row
abbrev pub decoder_items : FieldKind → Decoder → List Item
decoder_items field decoder =
    map number_item decoder.links ++ map (element_item field) decoder.entries

-- the mark, the version, the field and the rate
abbrev pub head_items : Item → ℕ → FieldKind → ℕ → List Item
head_items mark version field rate =
    mark ∷ byte_item version ∷ byte_item (mark_of field) ∷ byte_item rate ∷ []

-- The mark, the version, the field, the rate, the nodes, the links, the source, the sinks and the
-- listed patterns.
unfoldable pub front_items : Item → ℕ → Net → ℕ → FieldKind → List Item
front_items mark version net rate field =
    let listed = drop 1 net.patterns in
    mark ∷ byte_item version ∷ byte_item (mark_of field) ∷ byte_item rate
    ∷ number_item (length net.nodes) ∷ (map name_item net.nodes
    ++ (number_item (length net.links) ∷ (flat_map link_items net.links
    ++ (number_item net.source ∷ number_item (length net.sinks) ∷ (map number_item net.sinks
    ++ (number_item (length listed) ∷ flat_map pattern_items listed))))))

-- the operands of each link
abbrev pub operand_table_items : FieldKind → List (List Operand) → List Item
operand_table_items field operands = flat_map (operand_list_items field) operands

-- the decoder of each demand, in version 1
abbrev pub decoder_table_items : FieldKind → List Decoder → List Item
decoder_table_items field decoders = flat_map (decoder_items field) decoders

-- what stands for a demand in version 2: one more than the number of the first demand that has its decoder, or 0 and the decoder
abbrev pub demand_items : FieldKind → ℕ → Decoder → List Item
demand_items field same decoder =
    long_item same ∷ (if same == 0 then decoder_items field decoder else [])

-- what stands for each demand in version 2, behind those with earlier decoders
unfoldable pub shared_table_items : FieldKind → List Decoder → List Decoder → List Item
shared_table_items field earlier [] = []
shared_table_items field earlier (decoder ∷ decoders) =
    demand_items field (same_of earlier decoder) decoder
    ++ shared_table_items field (earlier ++ decoder ∷ []) decoders

-- the decoders of all demands, by the version
abbrev pub decoders_items : ℕ → FieldKind → List Decoder → List Item
decoders_items version field decoders =
    if version == 1 then decoder_table_items field decoders
    else shared_table_items field [] decoders
