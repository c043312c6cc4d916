-- The visits of links in order. After each, every demand has a basis over the vectors of its own
-- pattern: each frontier link is the last visited link of its path, and its vector is what that
-- link carries.
use Rattle.std.specs.Prelude.{◌≡◌, ◌<◌, ◌≤◌, ℕ, List, [], All, Some, length, map, replicate, slice_get, slice_index_or, unwrap_or}
use Rattle.std.specs.declared.cmp.PartialEq.{Ghosts as EqualityWords}
use Rattle.gf_tables.specs.declared.field.Field.{Ghosts as FieldWords}
use Rattle.gf_tables.specs.declared.kind.FieldKind.{FieldKind}
use Rattle.failure_patterns.specs.Demands.{demand_of}
use Rattle.field_vectors.specs.Grid.{Grid, row_of}
use Rattle.linear_algebra.specs.Elements.{numbers}
use Rattle.net_model.specs.Demands.{demand_count, pattern_of_demand}
use Rattle.net_model.specs.Failed.{failed_links}
use Rattle.net_model.specs.Flows.{IsFlow, flow_network}
use Rattle.net_model.specs.declared.net.Net.{Net}
use Rattle.node_program.specs.Carried.{numbers_at}
use Rattle.node_program.specs.Code.{IsCode, IsDraft}
use Rattle.node_program.specs.Decoding.{IsAccepted}
use Rattle.node_program.specs.Value.{global_vector}
use Rattle.node_program.specs.declared.Decoder.{Decoder}
use Rattle.node_program.specs.declared.Operand.{Operand}
use Rattle.node_program.specs.declared.code.Code.{Code}
use Rattle.sink_basis.specs.declared.basis.Basis.{Basis}
use Rattle.lif_compiler.specs.Bases.{frontier_in, vectors_in}
use Rattle.lif_compiler.specs.Compiled.{marked_kind}
use Rattle.lif_compiler.specs.Drafts.{draft_of}
use Rattle.lif_compiler.specs.Frontier.{IsAtFrontier}
use Rattle.lif_compiler.specs.Hops.{AreHops, HaveHops, IsHop, Routes}
use Rattle.lif_compiler.specs.declared.hops.Hop.{Hop}
use Rattle.lif_compiler.specs.declared.partial_code.PartialCode.{PartialCode}

-- the paths of a demand
abbrev pub paths_of : Routes → ℕ → List (List ℕ)
paths_of routes demand = unwrap_or (slice_get routes demand) []

-- the paths of each demand are a flow of the network under its pattern, as many as the rate says
pub record AreRoutes (net : Net) (rate : ℕ) (routes : Routes) : Type 0 where
  pub count : length routes ≡ demand_count net
  pub flow : (demand : ℕ) → demand < demand_count net
      → IsFlow (flow_network net (demand_of net demand)) (paths_of routes demand)
  pub many : (demand : ℕ) → demand < demand_count net → length (paths_of routes demand) ≡ rate

-- what a link carries under a pattern, by the operands of the visited links
abbrev pub vector_under : Net → FieldKind → ℕ → List (List Operand) → ℕ → ℕ → List ℕ
vector_under net field rate visited pattern link =
    global_vector net field (draft_of (length net.links) visited)
    (failed_links net.patterns pattern) rate link

-- a matrix has the vectors of the visited links under a pattern, and zeros for the others
pub record HasVectors {X : Type 0} (F : FieldWords X) (net : Net) (rate : ℕ)
    (visited : List (List Operand)) (pattern : ℕ) (m : Grid X) : Type 0 where
  pub columns : m.columns ≡ rate
  pub height : length m.rows ≡ length net.links
  pub vector : (link : ℕ) → link < length visited
      → numbers_at F.number m link ≡ vector_under net (marked_kind F.MARK) rate visited pattern link
  pub zeros : (link : ℕ) → length visited ≤ link → link < length net.links
      → row_of m link ≡ replicate rate F.zero

-- an operand of a link comes from a hop over it
abbrev pub IsOfHop : Routes → ℕ → Operand → Type 0
IsOfHop routes link operand = (hop : Hop) × IsHop routes link hop × (hop.before ≡ operand.from)

-- the operands of the visited links are a draft, and come from hops
pub record AreChosen (net : Net) (field : FieldKind) (rate : ℕ) (routes : Routes)
    (visited : List (List Operand)) : Type 0 where
  pub draft : IsDraft net rate field (draft_of (length net.links) visited)
  pub few_visits : length visited ≤ length net.links
  pub of_hops : (link : ℕ) → link < length visited
      → All (IsOfHop routes link) (slice_index_or visited link [])

-- for each pattern, a matrix that has its vectors
pub record AreVectorsOf {X : Type 0} (F : FieldWords X) (net : Net) (rate : ℕ)
    (visited : List (List Operand)) (vectors : List (Grid X)) : Type 0 where
  pub each_pattern : length vectors ≡ length net.patterns
  pub at : (pattern : ℕ) (m : Grid X) → slice_get vectors pattern ≡ Some m
      → HasVectors F net rate visited pattern m

module _ {X : Type 0} {F : FieldWords X} {E : EqualityWords X} where
  -- a demand's basis stands behind the visited links
  abbrev pub Stands : Net → Routes → ℕ → List (List Operand) → List (Basis X F E) → ℕ → Type 0
  Stands net routes rate visited bases demand =
      IsAtFrontier
      (vector_under net (marked_kind F.MARK) rate visited (pattern_of_demand net demand))
      rate (paths_of routes demand) (length visited)
      (frontier_in bases demand) (map (numbers F.number) (vectors_in bases demand).rows)

  -- The links before the next one are visited: their operands are chosen, the matrices have their
  -- vectors, and each demand has a basis that stands before that link.
  pub record IsVisited (net : Net) (routes : Routes) (code : PartialCode X F E) : Type 0 where
    pub chosen : AreChosen net (marked_kind F.MARK) code.rate routes code.operands.items
    pub carried : AreVectorsOf F net code.rate code.operands.items code.vectors.items
    pub each_basis : length code.bases.items ≡ demand_count net
    pub stands : (demand : ℕ) → demand < demand_count net
        → Stands net routes code.rate code.operands.items code.bases.items demand

  -- the next link can be visited: these are the hops over it
  pub record CanVisit (net : Net) (routes : Routes) (hops : List Hop)
      (code : PartialCode X F E) : Type 0 where
    pub routes_fit : AreRoutes net code.rate routes
    pub hops_over : AreHops routes (length code.operands.items) hops
    pub before : IsVisited net routes code

-- the hops over all links are those of the routes, whose paths are flows of the network
pub record AreVisitable (net : Net) (rate : ℕ) (routes : Routes)
    (hops : List (List Hop)) : Type 0 where
  pub routes_fit : AreRoutes net rate routes
  pub each_link : length hops ≡ length net.links
  pub hops_over : HaveHops routes hops

module _ {X : Type 0} {F : FieldWords X} {E : EqualityWords X} where
  -- a code that is begun: by all routes of its rate, the links before the next one are visited
  abbrev pub IsBegun : Net → PartialCode X F E → Type 0
  IsBegun net code = (routes : Routes) → AreRoutes net code.rate routes → IsVisited net routes code

  -- what the visit of the next link makes of a code
  abbrev pub VisitsNext : Net → List Hop → PartialCode X F E → PartialCode X F E → Type 0
  VisitsNext net hops old new = (routes : Routes)
      → CanVisit net routes hops old → IsVisited net routes new

  -- what the visits of all links make of it
  abbrev pub VisitsAll : Net → List (List Hop) → PartialCode X F E → PartialCode X F E → Type 0
  VisitsAll net hops old new = (routes : Routes)
      → AreVisitable net old.rate routes hops → IsVisited net routes old → IsVisited net routes new

-- operands and decoders that are made of hops: a code, which is accepted, and whose operands come
-- from the hops
pub record IsFilled (net : Net) (field : FieldKind) (rate : ℕ) (routes : Routes)
    (operands : List (List Operand)) (decoders : List Decoder) : Type 0 where
  pub is_code : IsCode net rate field operands decoders
  pub accepted : (code : Code) → code.net ≡ net → code.rate ≡ rate → code.field ≡ field
      → code.operands ≡ operands → code.decoders ≡ decoders → IsAccepted code
  pub of_hops : (link : ℕ) → link < length net.links
      → All (IsOfHop routes link) (slice_index_or operands link [])

-- so by whatever routes the hops are of
abbrev pub IsFilledBy : Net → FieldKind → ℕ → List (List Hop)
    → List (List Operand) → List Decoder → Type 0
IsFilledBy net field rate hops operands decoders = (routes : Routes)
    → AreVisitable net rate routes hops → IsFilled net field rate routes operands decoders
