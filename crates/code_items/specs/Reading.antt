-- Reading the parts of a code file from left to right. Which item comes next is determined by the
-- items before it. An item whose bytes aren't all there is truncated; else it is refused by the first
-- of its conditions that holds. The refusal of a part is that of the first item that isn't good.
use Rattle.std.specs.Prelude.{ℕ, zero, suc, ◌+◌, ◌-◌, ◌*◌, Bool, true, not, ◌||◌, ◌==◌, nat_lt, List, [], ◌∷◌, ◌++◌, false, length, map, take, drop, replicate, slice_index, codes, unwrap_or, Result, Ok, Err, if◌then◌else◌}
use Rattle.std.specs.Int.{w16, w32, from_be_bytes}
use Rattle.std.specs.List.{list_any, flat_map}
use Rattle.std.specs.Option.{option_map_or}
use Rattle.std.specs.Str.{bytes_eq}
use Rattle.failure_patterns.specs.UsedField.{pair_demands}
use Rattle.gf_tables.specs.declared.kind.FieldKind.{FieldKind}
use Rattle.gf_tables.specs.Product.{bytes_of_element, kind_of_mark, width_of}
use Rattle.gf_tables.specs.declared.kind.FieldKind.TheVariants.{Eight, Nine, Sixteen}
use Rattle.gf_tables.specs.declared.kind.Width.{Width}
use Rattle.gf_tables.specs.declared.kind.Width.TheVariants.{One, Two}
use Rattle.net_model.specs.Limits.{highest_rate, most_links, most_listed, most_nodes}
use Rattle.net_model.specs.Lists.{is_among}
use Rattle.net_model.specs.Name.{is_name}
use Rattle.net_model.specs.declared.Link.{Link}
use Rattle.net_model.specs.declared.Pattern.{Pattern}
use Rattle.node_program.specs.Code.{leads_into}
use Rattle.node_program.specs.declared.Operand.{Operand}
use Rattle.node_program.specs.declared.Decoder.{Decoder}
use Rattle.code_items.specs.Sharing.{decoder_of, is_shared, shares}
use Rattle.code_items.specs.declared.refusal.CodeRefusal.{CodeRefusal}
use Rattle.code_items.specs.declared.refusal.CodeRefusal.TheVariants.{BadMagic, BadVersion, Truncated, BadField, BadRate, BadName, BadIndex, OutOfOrder, NotRising, ZeroCoefficient, BadOperand, TooMany, NotFirst, Written}

-- what is left of a file, and the place of its first byte
pub record Rest : Type 0 where
  pub at : ℕ
  pub bytes : List ℕ

-- what was read and what is left, or the refusal
abbrev pub Reading : Type 0 → Type 0
Reading X = Result (X × Rest) CodeRefusal

-- what was read, or the refusal
abbrev pub Refusable : Type 0 → Type 0
Refusable A = Result A CodeRefusal

-- when an item is refused, and how
abbrev pub Conditions : Type 0
Conditions = List (Bool × CodeRefusal)

-- a part under no conditions
abbrev pub any : {X : Type 0} → (Rest → (X → Conditions) → Reading X) → Rest → Reading X
any part rest = part rest (λ _. [])

infixl 10 ◌>>=◌
abbrev pub ◌>>=◌ : {A B : Type 0} → Refusable A → (A → Refusable B) → Refusable B
(Ok x) >>= f = f x
(Err refusal) >>= f = Err refusal

-- the first refusal whose condition holds
abbrev pub refused_first : {A : Type 0} → Conditions → A → Refusable A
refused_first [] x = Ok x
refused_first (condition ∷ conditions) x =
    if condition.0 then Err condition.1 else refused_first conditions x

-- what is left behind so many bytes
abbrev pub behind : ℕ → Rest → Rest
behind size rest = record { at = rest.at + size; bytes = drop size rest.bytes }

-- the next item, of so many bytes, and the conditions under which it is refused
unfoldable pub item : ℕ → Rest → (List ℕ → Conditions) → Reading (List ℕ)
item size rest conditions =
    let bytes = take size rest.bytes in
    if nat_lt (length rest.bytes) size then Err (Truncated rest.at)
    else refused_first (conditions bytes) (bytes, behind size rest)

-- a number of one byte, of two, and of four
unfoldable pub byte_at : Rest → (ℕ → Conditions) → Reading ℕ
byte_at rest conditions = do
  it ← item 1 rest (λ bytes. conditions (slice_index bytes 0))
  Ok (slice_index it.0 0, it.1)

unfoldable pub number_at : Rest → (ℕ → Conditions) → Reading ℕ
number_at rest conditions = do
  it ← item 2 rest (λ bytes. conditions (from_be_bytes w16 bytes))
  Ok (from_be_bytes w16 it.0, it.1)

unfoldable pub long_at : Rest → (ℕ → Conditions) → Reading ℕ
long_at rest conditions = do
  it ← item 4 rest (λ bytes. conditions (from_be_bytes w32 bytes))
  Ok (from_be_bytes w32 it.0, it.1)

-- a number of a width
abbrev pub width_at : Width → Rest → (ℕ → Conditions) → Reading ℕ
width_at One = byte_at
width_at Two = number_at

-- the number of an element
abbrev pub element_at : FieldKind → Rest → (ℕ → Conditions) → Reading ℕ
element_at field = width_at (width_of field)

-- a count that has a limit
abbrev pub count_at : ℕ → Rest → Reading ℕ
count_at limit rest = number_at rest (λ n. (nat_lt limit n, TooMany rest.at) ∷ [])

-- the same, of a list that isn't empty
abbrev pub positive_count_at : ℕ → Rest → Reading ℕ
positive_count_at limit rest =
    number_at rest (λ n. (n == 0, BadIndex rest.at) ∷ (nat_lt limit n, TooMany rest.at) ∷ [])

-- a number below a limit
abbrev pub index_at : ℕ → Rest → Reading ℕ
index_at limit rest = number_at rest (λ n. (not (nat_lt n limit), BadIndex rest.at) ∷ [])

-- a name behind the byte of its length
unfoldable pub name_at : Rest → (List ℕ → Bool) → Reading (List ℕ)
name_at rest is_bad = do
  it ← item (1 + slice_index rest.bytes 0) rest (λ bytes.
      let name = drop 1 bytes in (not (is_name name) || is_bad name, BadName rest.at) ∷ [])
  Ok (drop 1 it.0, it.1)

-- a name that may be any
abbrev pub any_name_at : Rest → Reading (List ℕ)
any_name_at rest = name_at rest (λ _. false)

-- a name that is none of the earlier ones
abbrev pub other_name_at : List (List ℕ) → Rest → Reading (List ℕ)
other_name_at earlier rest = name_at rest (λ name. list_any (bytes_eq name) earlier)

-- how a part is read in view of the earlier ones
abbrev pub Part : Type 0 → Type 0
Part X = List X → Rest → Reading X

-- A part for each of these, one after another, each in view of the earlier ones: these and the parts that are read.
unfoldable pub each_after_at :
    {X Y : Type 0} → (List Y → X → Rest → Reading Y) → List Y → List X → Rest → Reading (List Y)
each_after_at part earlier [] rest = Ok (earlier, rest)
each_after_at part earlier (x ∷ xs) rest = do
  one ← part earlier x rest
  each_after_at part (earlier ++ one.0 ∷ []) xs one.1

-- so many parts one after another
abbrev pub repeated_at : {X : Type 0} → Part X → ℕ → List X → Rest → Reading (List X)
repeated_at part count earlier =
    each_after_at (λ earlier _. part earlier) earlier (replicate count (tt {0}))

-- a part for each of these, in order
abbrev pub each_at : {X Y : Type 0} → (X → Rest → Reading Y) → List X → Rest → Reading (List Y)
each_at part xs = each_after_at (λ _ x. part x) [] xs

-- a number is above the last of a list
abbrev pub is_above_last : List ℕ → ℕ → Bool
is_above_last [] number = true
is_above_last (one ∷ []) number = nat_lt one number
is_above_last (one ∷ other ∷ others) number = is_above_last (other ∷ others) number

-- what stands in a code file up to the operands
pub record Front : Type 0 where
  pub field : FieldKind
  pub rate : ℕ
  pub nodes : List (List ℕ)
  pub links : List Link
  pub source : ℕ
  pub sinks : List ℕ
  pub patterns : List Pattern

-- the mark, and a version behind it that is one of those which it allows
unfoldable pub mark_at : List ℕ → List ℕ → Rest → Reading ℕ
mark_at mark versions rest = do
  it ← item 4 rest (λ bytes. (not (bytes_eq bytes mark), BadMagic) ∷ [])
  byte_at it.1 (λ n. (not (is_among versions n), BadVersion) ∷ [])

-- a code over the field can stand in a file of the version: the field of FIPS 197 came with version 2
abbrev pub has_field : ℕ → FieldKind → Bool
has_field version Eight = true
has_field version Nine = not (version == 1)
has_field version Sixteen = true

-- a number is that of a field in files of the version
abbrev pub is_field : ℕ → ℕ → Bool
is_field version number = option_map_or (has_field version) (kind_of_mark number) false

-- the field
unfoldable pub field_at : ℕ → Rest → Reading FieldKind
field_at version rest = do
  number ← byte_at rest (λ n. (not (is_field version n), BadField) ∷ [])
  Ok (unwrap_or (kind_of_mark number.0) Eight, number.1)

-- the rate
abbrev pub rate_at : Rest → Reading ℕ
rate_at rest = byte_at rest (λ n. ((n == 0) || nat_lt highest_rate n, BadRate) ∷ [])

-- the nodes, behind their number
unfoldable pub nodes_at : Rest → Reading (List (List ℕ))
nodes_at rest = do
  count ← count_at most_nodes rest
  repeated_at other_name_at count.0 [] count.1

-- the tails of links
abbrev pub tails_of : List Link → List ℕ
tails_of links = map (λ link. link.tail) links

-- the names of links
abbrev pub names_of : List Link → List (List ℕ)
names_of links = map (λ link. link.name) links

-- the head of a link, which is neither its tail nor that of an earlier link
abbrev pub head_at : ℕ → ℕ → List Link → Rest → Reading ℕ
head_at nodes tail earlier rest = number_at rest (λ n.
    (not (nat_lt n nodes), BadIndex rest.at)
    ∷ ((n == tail) || is_among (tails_of earlier) n, OutOfOrder (length earlier)) ∷ [])

-- one link
unfoldable pub link_at : ℕ → List Link → Rest → Reading Link
link_at nodes earlier rest = do
  name ← name_at rest (λ name. list_any (λ link. bytes_eq name link.name) earlier)
  tail ← index_at nodes name.1
  head ← head_at nodes tail.0 earlier tail.1
  Ok (record { name = name.0; tail = tail.0; head = head.0 }, head.1)

-- the links, behind their number
unfoldable pub links_at : ℕ → Rest → Reading (List Link)
links_at nodes rest = do
  count ← count_at most_links rest
  repeated_at (link_at nodes) count.0 [] count.1

-- the source
abbrev pub source_at : ℕ → Rest → Reading ℕ
source_at = index_at

-- one sink, which is neither the source nor an earlier one
abbrev pub sink_at : ℕ → ℕ → List ℕ → Rest → Reading ℕ
sink_at nodes source earlier rest = number_at rest (λ n.
    (not (nat_lt n nodes) || (n == source) || is_among earlier n, BadIndex rest.at) ∷ [])

-- the sinks, behind their number
unfoldable pub sinks_at : ℕ → ℕ → Rest → Reading (List ℕ)
sinks_at nodes source rest = do
  count ← positive_count_at most_nodes rest
  repeated_at (sink_at nodes source) count.0 [] count.1

-- one link of a pattern, above the one before
abbrev pub failed_at : ℕ → List ℕ → Rest → Reading ℕ
failed_at links before rest = number_at rest (λ n.
    (not (nat_lt n links), BadIndex rest.at)
    ∷ (not (is_above_last before n), NotRising rest.at) ∷ [])

-- one listed pattern
unfoldable pub pattern_at : ℕ → List Pattern → Rest → Reading Pattern
pattern_at links earlier rest = do
  name ← name_at rest (λ name. list_any (λ pattern. bytes_eq name pattern.name) earlier)
  count ← positive_count_at links name.1
  failed ← repeated_at (failed_at links) count.0 [] count.1
  Ok (record { name = name.0; links = failed.0 }, failed.1)

-- the pattern without links
abbrev pub none_pattern : Pattern
none_pattern = record { name = codes "none"; links = [] }

-- the number of the listed patterns, which with `none` make so many demands
abbrev pub pattern_count_at : ℕ → Rest → Reading ℕ
pattern_count_at sinks rest = number_at rest (λ n.
    (nat_lt most_listed n || nat_lt pair_demands (sinks * (n + 1)), TooMany rest.at) ∷ [])

-- the pattern `none`, and so many listed ones
abbrev pub counted_patterns_at : ℕ → ℕ → Rest → Reading (List Pattern)
counted_patterns_at links count = repeated_at (pattern_at links) count (none_pattern ∷ [])

-- the pattern `none` and the listed patterns, behind the number of these
unfoldable pub patterns_at : ℕ → ℕ → Rest → Reading (List Pattern)
patterns_at links sinks rest = do
  count ← pattern_count_at sinks rest
  counted_patterns_at links count.0 count.1

-- all behind the version and up to the operands
unfoldable pub front_at : ℕ → Rest → Reading Front
front_at version rest = do
  field ← field_at version rest
  rate ← rate_at field.1
  nodes ← nodes_at rate.1
  links ← links_at (length nodes.0) nodes.1
  source ← source_at (length nodes.0) links.1
  sinks ← sinks_at (length nodes.0) source.0 source.1
  patterns ← patterns_at (length links.0) (length sinks.0) sinks.1
  let front : Front = record {
    field = field.0;
    rate = rate.0;
    nodes = nodes.0;
    links = links.0;
    source = source.0;
    sinks = sinks.0;
    patterns = patterns.0;
  } in Ok (front, patterns.1)

-- what an operand of a link may name: a source row, where the link leaves the source, else a link
-- into its tail
abbrev pub may_read : Front → Link → ℕ → Bool
may_read front link from =
    if link.tail == front.source then nat_lt from front.rate
    else leads_into front.links link.tail from

-- what operands read
abbrev pub reads_of : List Operand → List ℕ
reads_of operands = map (λ operand. operand.from) operands

-- what an operand reads, above what the one before reads
abbrev pub from_at : Front → Link → List Operand → Rest → Reading ℕ
from_at front link earlier rest = number_at rest (λ n.
    (not (is_above_last (reads_of earlier) n), NotRising rest.at)
    ∷ (not (may_read front link n), BadOperand rest.at) ∷ [])

-- a coefficient
abbrev pub coefficient_at : FieldKind → Rest → Reading ℕ
coefficient_at field rest = element_at field rest (λ n. (n == 0, ZeroCoefficient rest.at) ∷ [])

-- one operand of a link
unfoldable pub operand_at : Front → Link → List Operand → Rest → Reading Operand
operand_at front link earlier rest = do
  from ← from_at front link earlier rest
  times ← coefficient_at front.field from.1
  Ok (record { from = from.0; times = times.0 }, times.1)

-- so many operands of a link
abbrev pub operands_at : Front → Link → ℕ → Rest → Reading (List Operand)
operands_at front link count = repeated_at (operand_at front link) count []

-- the operands of a link, behind their number
unfoldable pub operands_at_link : Front → Link → Rest → Reading (List Operand)
operands_at_link front link rest = do
  count ← count_at most_links rest
  operands_at front link count.0 count.1

-- the operands of each link
abbrev pub operand_table_at : Front → Rest → Reading (List (List Operand))
operand_table_at front = each_at (operands_at_link front) front.links

-- one link of a decoder, which leads into the sink, above the one before
abbrev pub decoder_link_at : List Link → ℕ → List ℕ → Rest → Reading ℕ
decoder_link_at links sink earlier rest = number_at rest (λ n.
    (not (is_above_last earlier n), NotRising rest.at)
    ∷ (not (leads_into links sink n), BadOperand rest.at) ∷ [])

-- as many links of a decoder as the rate
abbrev pub decoder_links_at : Front → ℕ → Rest → Reading (List ℕ)
decoder_links_at front sink = repeated_at (decoder_link_at front.links sink) front.rate []

-- so many entries of a matrix
abbrev pub entries_at : FieldKind → ℕ → Rest → Reading (List ℕ)
entries_at field count = repeated_at (λ _. any (element_at field)) count []

-- the decoder of a demand, by its sink
unfoldable pub decoder_at : Front → ℕ → Rest → Reading Decoder
decoder_at front sink rest = do
  links ← decoder_links_at front sink rest
  entries ← entries_at front.field (front.rate * front.rate) links.1
  Ok (record { links = links.0; entries = entries.0 }, entries.1)

-- the sinks of all demands in order
abbrev pub demand_sinks : Front → List ℕ
demand_sinks front = flat_map (λ sink. replicate (length front.patterns) sink) front.sinks

-- a decoder for each of the sinks
abbrev pub decoders_at : Front → List ℕ → Rest → Reading (List Decoder)
decoders_at front = each_at (decoder_at front)

-- When a number that names an earlier demand is refused, where these are the sinks of the demands: it is one more than the
-- demand's number, and 0 names none.
abbrev pub same_conditions : List ℕ → List Decoder → ℕ → ℕ → ℕ → Conditions
same_conditions sinks earlier sink at zero = []
same_conditions sinks earlier sink at (suc demand) =
    (not (nat_lt demand (length earlier)), BadIndex at)
    ∷ (not (slice_index sinks demand == sink), BadOperand at)
    ∷ (shares earlier demand, NotFirst at) ∷ []

-- a decoder that no earlier demand has; the place of its last entry is that of the refusal
unfoldable pub new_decoder_at : Front → List Decoder → ℕ → Rest → Reading Decoder
new_decoder_at front earlier sink rest = do
  decoder ← decoder_at front sink rest
  refused_first ((is_shared earlier decoder.0, Written (decoder.1.at - bytes_of_element front.field)) ∷ []) decoder

-- the decoder of the demand that a number names, or the one that follows where it is 0
abbrev pub named_decoder_at : Front → List Decoder → ℕ → ℕ → Rest → Reading Decoder
named_decoder_at front earlier sink zero rest = new_decoder_at front earlier sink rest
named_decoder_at front earlier sink (suc demand) rest = Ok (decoder_of earlier demand, rest)

-- the decoder of a demand, in version 2
unfoldable pub shared_decoder_at : Front → List ℕ → List Decoder → ℕ → Rest → Reading Decoder
shared_decoder_at front sinks earlier sink rest = do
  same ← long_at rest (same_conditions sinks earlier sink rest.at)
  named_decoder_at front earlier sink same.0 same.1

-- a decoder for each of the sinks, in version 2
abbrev pub shared_decoders_at : Front → List ℕ → Rest → Reading (List Decoder)
shared_decoders_at front sinks = each_after_at (shared_decoder_at front sinks) [] sinks

-- the decoder of each demand, by the version
abbrev pub decoder_table_at : ℕ → Front → Rest → Reading (List Decoder)
decoder_table_at version front =
    if version == 1 then decoders_at front (demand_sinks front)
    else shared_decoders_at front (demand_sinks front)
