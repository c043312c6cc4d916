-- The lines said.
use Rattle.std.specs.Prelude.{◌==◌, ℕ, Bool, if◌then◌else◌, List, [], ◌∷◌, ◌++◌, codes, decimal, flat_map, length, map, unwrap_or, slice_get}
use Rattle.std.specs.Option.{option_map_or}
use Rattle.code_file.specs.declared.CodeRefusal.{CodeRefusal}
use Rattle.code_file.specs.RefusalNames as code
use Rattle.gf_tables.specs.Product.{mark_of}
use Rattle.gf_tables.specs.declared.kind.FieldKind.{FieldKind}
use Rattle.failure_patterns.specs.Demands.{demand_of}
use Rattle.generation_frame.specs.declared.stream_why.StreamWhy.{StreamWhy}
use Rattle.generation_frame.specs.declared.stream_why.StreamWhy.TheVariants as stream
use Rattle.name_texts.specs.Names.{demand_text, link_name, links_text, node_name, on_lines, side_text}
use Rattle.net_model.specs.Demands.{demand_count}
use Rattle.net_model.specs.declared.net.Net.{Net}
use Rattle.net_reader.specs.Text.{link_names_of, node_names_of}
use Rattle.net_reader.specs.declared.refusal.ReadRefusal.{ReadRefusal}
use Rattle.net_reader.specs.RefusalNames as net
use Rattle.net_reader.specs.RefusalNames.{what_name}
use Rattle.net_reader.specs.declared.refusal.ReadRefusal.TheVariants.{PatternNamed, SinkIsSource, TooMany, TooManyPatterns}
use Rattle.node_program.specs.declared.code.Code.{Code}
use Rattle.top_base.specs.Words.{Demo}
use Rattle.top_base.specs.declared.status.TwinWhy.{TwinWhy}
use Rattle.top_base.specs.declared.status.TwinWhy.TheVariants as twin

abbrev pub usage_line : List ℕ
usage_line = codes "usage: lif order NET | cuts NET | compile NET CODE REPORT | check CODE | send CODE PATTERN SEED SRC PREFIX | demo N K BYTES | migrate OLD NEW | relay CODE PATTERN NODE IN OUT | sink CODE PATTERN SINK IN DST | blind CODE SRC PREFIX LINK | finish DRAFT CODE | twin NET SECOND R1 R2 CODE REPORT | sendtwo CODE PATTERN SEED R1 SRC1 SRC2 PREFIX\n"

abbrev pub read_fault_line : List ℕ
read_fault_line = codes "read fault\n"

abbrev pub write_fault_line : List ℕ
write_fault_line = codes "write fault\n"

abbrev pub too_long_line : List ℕ
too_long_line = codes "too long\n"

abbrev pub out_of_memory_line : List ℕ
out_of_memory_line = codes "out of memory\n"

abbrev pub link_fault_line : List ℕ
link_fault_line = codes "link fault\n"

-- what stands behind the name of a refusal of a network text: of what there are too many, how many patterns there are, or the
-- name of the node or the link that it is of
abbrev pub detail_text : List ℕ → ReadRefusal → List ℕ
detail_text name (TooMany line what) = codes " " ++ what_name what
detail_text name (SinkIsSource sink) = codes " " ++ name
detail_text name (PatternNamed link) = codes " " ++ name
detail_text name (TooManyPatterns count) = codes " " ++ decimal count
detail_text name why = []

-- a refusal of a network text: its line, where it is of one, and its name
abbrev pub net_refusal_text : List ℕ → ReadRefusal → List ℕ
net_refusal_text name why =
    option_map_or (λ line. codes "line " ++ decimal line ++ codes ": ") (net.refusal_line why) []
    ++ net.refusal_name why ++ detail_text name why

-- the name of that node or link in a text
abbrev pub refused_name : List ℕ → ReadRefusal → List ℕ
refused_name text (SinkIsSource sink) = unwrap_or (slice_get (node_names_of text) sink) []
refused_name text (PatternNamed link) = unwrap_or (slice_get (link_names_of text) link) []
refused_name text why = []

abbrev pub net_refused_line : List ℕ → ReadRefusal → List ℕ
net_refused_line name why = codes "net refused: " ++ net_refusal_text name why ++ codes "\n"

abbrev pub cycle_line : Net → List ℕ → List ℕ
cycle_line net cycle = codes "net refused: cycle" ++ links_text net cycle ++ codes "\n"

-- the links in an order
abbrev pub order_text : Net → List ℕ → List ℕ
order_text net order = on_lines (map (link_name net) order)

-- a refusal of a code file by its name, and where it has a number a space and the number
abbrev pub refusal_text : CodeRefusal → List ℕ
refusal_text why =
    code.refusal_name why ++ option_map_or (λ number. 32 ∷ decimal number) (code.refusal_number why) []

abbrev pub code_refused_line : CodeRefusal → List ℕ
code_refused_line why = codes "code refused: " ++ refusal_text why ++ codes "\n"

-- the line of a code whose check fails first at this entry of a demand's product
abbrev pub check_failed_line : Net → ℕ → ℕ → ℕ → ℕ → List ℕ
check_failed_line net demand row column found =
    codes "check failed: demand " ++ demand_text net (demand_of net demand) ++ codes " row " ++ decimal row ++ codes " column " ++ decimal column
    ++ codes " found " ++ decimal found ++ codes "\n"

-- the line of a network whose rate is 0, by a demand without a path, of one whose rate is below the wanted one, and of one whose
-- rate is above 32
abbrev pub zero_rate_line : Net → ℕ → List Bool → List ℕ
zero_rate_line net demand side = codes "rate 0: demand " ++ demand_text net (demand_of net demand) ++ codes " side" ++ side_text net side ++ codes "\n"

abbrev pub rate_unmet_line : Net → ℕ → List Bool → ℕ → List ℕ
rate_unmet_line net demand side least =
    codes "rate " ++ decimal (unwrap_or net.wanted 0) ++ codes " unmet: demand " ++ demand_text net (demand_of net demand) ++ codes " cut " ++ decimal least
    ++ codes " side" ++ side_text net side ++ codes "\n"

abbrev pub rate_over_line : Net → ℕ → ℕ → List ℕ
rate_over_line net demand least = codes "rate over 32: demand " ++ demand_text net (demand_of net demand) ++ codes " cut " ++ decimal least ++ codes "\n"

abbrev pub too_many_demands_line : ℕ → List ℕ
too_many_demands_line count = codes "too many demands: " ++ decimal count ++ codes "\n"

abbrev pub unknown_pattern_line : List ℕ → List ℕ
unknown_pattern_line word = codes "unknown pattern: " ++ word ++ codes "\n"

-- no node has the name that is a word, or no sink
abbrev pub unknown_node_line : List ℕ → List ℕ
unknown_node_line word = codes "unknown node: " ++ word ++ codes "\n"

-- no link has the name that is a word
abbrev pub unknown_link_line : List ℕ → List ℕ
unknown_link_line word = codes "unknown link: " ++ word ++ codes "\n"

-- why a file isn't a stream of a link: a name, and its numbers
abbrev pub stream_why_text : StreamWhy → List ℕ
stream_why_text (stream.BadLength bytes) = codes "BadLength " ++ decimal bytes
stream_why_text (stream.BadFrame at) = codes "BadFrame " ++ decimal at
stream_why_text (stream.OtherLink at) = codes "OtherLink " ++ decimal at
stream_why_text (stream.Conflict at) = codes "Conflict " ++ decimal at
stream_why_text (stream.Missing generation piece) = codes "Missing " ++ decimal generation ++ codes " " ++ decimal piece
stream_why_text stream.OutOfMemory = codes "OutOfMemory"

abbrev pub stream_refused_line : Net → ℕ → StreamWhy → List ℕ
stream_refused_line net link why = codes "stream refused: " ++ link_name net link ++ codes " " ++ stream_why_text why ++ codes "\n"

-- a decoded block whose count is wrong
abbrev pub bad_blocks_line : ℕ → ℕ → List ℕ
bad_blocks_line generation count = codes "bad blocks: generation " ++ decimal generation ++ codes " count " ++ decimal count ++ codes "\n"

abbrev pub same_path_line : List ℕ → List ℕ
same_path_line path = codes "same path: " ++ path ++ codes "\n"

-- a field and a number of demands
abbrev pub served_text : FieldKind → ℕ → List ℕ
served_text field demands = codes " field " ++ decimal (mark_of field) ++ codes " demands " ++ decimal demands ++ codes "\n"

-- a rate and these
abbrev pub rate_text : ℕ → FieldKind → ℕ → List ℕ
rate_text rate field demands = codes "rate " ++ decimal rate ++ served_text field demands

-- those of a code
abbrev pub code_text : Code → List ℕ
code_text code = rate_text code.rate code.field (demand_count code.net)

-- the lines of a code that is accepted, and of one of this rate and field that was compiled for so many demands
abbrev pub accepted_line : Code → List ℕ
accepted_line code = codes "accepted " ++ code_text code

abbrev pub compiled_line : ℕ → FieldKind → ℕ → List ℕ
compiled_line rate field demands = codes "compiled " ++ rate_text rate field demands

-- the line of a code that was written anew
abbrev pub migrated_line : Code → List ℕ
migrated_line code = codes "migrated " ++ code_text code

-- a draft that was finished
abbrev pub finished_line : ℕ → FieldKind → ℕ → List ℕ
finished_line rate field demands = codes "finished " ++ rate_text rate field demands

-- a demand of a draft doesn't decode: its sink and its pattern, and the elements of a block
abbrev pub not_decoding_line : Net → ℕ → List ℕ → List ℕ
not_decoding_line net demand block =
    codes "not decoding: demand " ++ demand_text net (demand_of net demand) ++ codes " block" ++ flat_map (λ x. 32 ∷ decimal x) block ++ codes "\n"

-- the line of a code of two sources: their rates, its field and how many demands it serves
abbrev pub twinned_line : ℕ → ℕ → FieldKind → ℕ → List ℕ
twinned_line r1 r2 field demands = codes "twinned rate " ++ decimal r1 ++ codes " " ++ decimal r2 ++ served_text field demands

-- why a network has no second source of that name, or none that is joined
abbrev pub twin_why_name : TwinWhy → List ℕ
twin_why_name twin.UnknownSecond = codes "UnknownSecond"
twin_why_name twin.NameTaken = codes "NameTaken"
twin_why_name twin.TooMany = codes "TooMany"

abbrev pub twin_refused_line : TwinWhy → List ℕ
twin_refused_line why = codes "twin refused: " ++ twin_why_name why ++ codes "\n"

-- the rate of a code, to which a rate of the first source isn't fit
abbrev pub bad_split_line : ℕ → List ℕ
bad_split_line rate = codes "bad split: rate " ++ decimal rate ++ codes "\n"

-- the rank of a sink where links fail, and whether that is all of a rate
abbrev pub rank_line : Net → ℕ → ℕ → ℕ → List ℕ
rank_line net rate sink rank =
    node_name net sink ++ codes " rank " ++ decimal rank ++ (if rank == rate then codes " whole\n" else codes "\n")

-- the line of a source that was sent
abbrev pub sent_line : ℕ → ℕ → ℕ → List ℕ
sent_line bytes generations sinks =
    codes "sent " ++ decimal bytes ++ codes " bytes in " ++ decimal generations ++ codes " generations to " ++ decimal sinks ++ codes " sinks\n"

-- the line of two sources that were sent
abbrev pub sent_both_line : ℕ → ℕ → ℕ → ℕ → List ℕ
sent_both_line first second generations sinks =
    codes "sent " ++ decimal first ++ codes " and " ++ decimal second ++ codes " bytes in " ++ decimal generations ++ codes " generations to " ++ decimal sinks ++ codes " sinks\n"

-- the lines of a node that wrote so many frames, and of a sink that got so many bytes
abbrev pub relayed_line : ℕ → ℕ → ℕ → List ℕ
relayed_line frames links generations =
    codes "relayed " ++ decimal frames ++ codes " frames on " ++ decimal links ++ codes " links in " ++ decimal generations ++ codes " generations\n"

abbrev pub received_line : ℕ → ℕ → List ℕ
received_line bytes generations = codes "received " ++ decimal bytes ++ codes " bytes in " ++ decimal generations ++ codes " generations\n"

-- the lines of a combination network through whose code a source went: in so many generations, by so many frames, and this is the
-- sum of the bytes that came to the sinks
abbrev pub demo_lines : Demo → Code → ℕ → ℕ → ℕ → List ℕ
demo_lines demo code generations frames sum =
    codes "demo " ++ decimal demo.n ++ codes " " ++ decimal demo.k
    ++ codes "\nnodes " ++ decimal (length code.net.nodes)
    ++ codes "\nlinks " ++ decimal (length code.net.links)
    ++ codes "\ndemands " ++ decimal (demand_count code.net)
    ++ codes "\nfield " ++ decimal (mark_of code.field)
    ++ codes "\nrate " ++ decimal code.rate
    ++ codes "\ngenerations " ++ decimal generations
    ++ codes "\nframes " ++ decimal frames
    ++ codes "\nbytes " ++ decimal demo.bytes
    ++ codes "\nsinks " ++ decimal (length code.net.sinks)
    ++ codes "\nsum " ++ decimal sum ++ codes "\n"
