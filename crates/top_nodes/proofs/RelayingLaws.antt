-- What has to be known of a node at work on its streams.
use Rattle.std.specs.Prelude.{◌≡◌, ◌<◌, ◌≤◌, ◌+◌, ◌∷◌, ◌++◌, ◌&&◌, ◌==◌, [], ℕ, zero, suc, map, List, Some, drop, get_or, length, slice_get, string_bytes, take}
use Rattle.std.specs.List.{range_with_len}
use Rattle.std.proofs.Common.{refl, sym, ap, subst, ◌∙◌, arith, inr}
use Rattle.std.proofs.lemmas.List.{append-nil, append_assoc, map-append, take_all, take-append-drop}
use Rattle.std.proofs.lemmas.List.FromFn.{length-range_with_len}
use Rattle.command_steps.specs.Filling.{Fills, StopsFilling}
use Rattle.generation_frame.specs.declared.frame.Packet.{Packet}
use Rattle.lif_outside.proofs.SequenceLaws.{stops_behind, stops_first, stops_here}
use Rattle.lif_outside.specs.Events.{Event, append_failed}
use Rattle.lif_outside.specs.FileCalls.{StopsWithin, Written, appends_of, creates_of}
use Rattle.lif_outside.specs.Sequences.{Are}
use Rattle.link_streams.specs.Relaying.{relayed}
use Rattle.link_streams.specs.Streams.{Stream, all_packets}
use Rattle.net_model.specs.Limits.{most_links}
use Rattle.net_model.specs.Walks.{tail_of}
use Rattle.node_plans.proofs.ListLaws.{length-filter-le}
use Rattle.node_plans.specs.Plans.{ins_of, outs_of, plan_of}
use Rattle.node_plans.specs.declared.plan.Plan.{Plan}
use Rattle.node_program.specs.CodeValue.{is_live_in}
use Rattle.node_program.specs.declared.code.Code.{Code}
use Rattle.source_turns.proofs.AppendLaws.{part_call, turns_more, turns_stopped}
use Rattle.top_nodes.specs.Working.{parts_of, paths_of}
use Rattle.top_nodes.specs.declared.working.Relaying.{Relaying}

-- ---- what each path gets of a generation

-- one part more
pub parts_more : (paths frames : List (List ℕ)) (n : ℕ) (bytes : List ℕ) → n < length paths → slice_get frames n ≡ Some bytes
    → take (n + 1) (parts_of paths frames) ≡ take n (parts_of paths frames) ++ (get_or paths n [], bytes) ∷ []
parts_more [] frames n bytes within here = absurd (omega (arith, within))
parts_more (path ∷ paths) [] n bytes within here = cc
parts_more (path ∷ paths) (first ∷ frames) zero bytes within here =
    let same : first ≡ bytes = cc in
    ap (λ one. (path, one) ∷ []) same
parts_more (path ∷ paths) (first ∷ frames) (suc n) bytes within here =
    let next : suc n + 1 ≡ suc (n + 1) = omega arith in
    ap (λ k. take k ((path, first) ∷ parts_of paths frames)) next ∙ ap (λ rest. (path, first) ∷ rest) (parts_more paths frames n bytes (omega (arith, within)) here)

few_parts : (paths frames : List (List ℕ)) → length (parts_of paths frames) ≤ length paths
few_parts [] frames = omega arith
few_parts (path ∷ paths) [] = omega arith
few_parts (path ∷ paths) (first ∷ frames) = omega (arith, few_parts paths frames)

-- all parts
pub parts_all : (paths frames : List (List ℕ)) (n : ℕ) → length paths ≤ n → take n (parts_of paths frames) ≡ parts_of paths frames
parts_all paths frames n all = take_all n (parts_of paths frames) (omega (arith, all, few_parts paths frames))

-- the parts of links
pub parts_each : (path bytes : ℕ → List ℕ) (links : List ℕ) → parts_of (map path links) (map bytes links) ≡ map (λ link. (path link, bytes link)) links
parts_each path bytes [] = refl
parts_each path bytes (link ∷ links) = ap (λ rest. (path link, bytes link) ∷ rest) (parts_each path bytes links)

calls_alone : (parts : List Written) → appends_of (parts ∷ []) ≡ map part_call parts
calls_alone parts = append-nil (map part_call parts)

-- the appends of the first parts of a turn, and of one more
module _ (turn : List Written) (n : ℕ) (part : Written) (next : take (n + 1) turn ≡ take n turn ++ part ∷ []) where
  pub calls_more : appends_of (take n turn ∷ []) ++ part_call part ∷ [] ≡ appends_of (take (n + 1) turn ∷ [])
  calls_more =
      ap (λ first. first ++ part_call part ∷ []) (calls_alone (take n turn)) ∙ sym (map-append part_call (take n turn) (part ∷ []))
      ∙ ap (map part_call) (sym next) ∙ sym (calls_alone (take (n + 1) turn))

  -- and where it fails
  pub calls_stop : StopsWithin (appends_of (turn ∷ [])) (appends_of (take n turn ∷ []) ++ append_failed part.0 part.1 ∷ [])
  calls_stop =
      let front = appends_of (take n turn ∷ []) in
      let rest = map part_call (drop (n + 1) turn) in
      let around : appends_of (turn ∷ []) ≡ (front ++ part_call part ∷ []) ++ rest =
      calls_alone turn ∙ ap (map part_call) (sym (take-append-drop (n + 1) turn)) ∙ map-append part_call (take (n + 1) turn) (drop (n + 1) turn)
      ∙ ap (λ first. first ++ rest) (sym (calls_alone (take (n + 1) turn)) ∙ sym calls_more) in
      subst (λ these. StopsWithin these (front ++ append_failed part.0 part.1 ∷ [])) (sym around)
      (stops_first (front ++ part_call part ∷ []) rest (front ++ append_failed part.0 part.1 ∷ [])
      (stops_behind front (part_call part ∷ []) (append_failed part.0 part.1 ∷ []) (stops_here (part_call part) [])))

-- ---- the links of a node

pub few_outs : (code : Code) (pattern node : ℕ) → length (outs_of code pattern node) ≤ most_links
few_outs code pattern node =
    let links = code.net.links in
    let few = length-filter-le (λ (link : ℕ). is_live_in code pattern link && (tail_of links link == node)) (range_with_len 0 (length links)) in
    omega (arith, few, length-range_with_len 0 (length links), code.net.network.few_links)

plans_same : (first other : Code) (p q n m : ℕ) → first ≡ other → p ≡ q → n ≡ m → plan_of first p n ≡ plan_of other q m
plans_same first other p q n m code pattern node =
    ap (λ (code : Code). plan_of code p n) code ∙ ap (λ (k : ℕ). plan_of other k n) pattern ∙ ap (λ (k : ℕ). plan_of other q k) node

frames_same : (first other : Code) (p q n m : ℕ) (came : List Packet) (generation : ℕ) → first ≡ other → p ≡ q → n ≡ m → (relayed first p n came generation).bytes ≡ (relayed other q m came generation).bytes
frames_same first other p q n m came generation code pattern node =
    ap (λ (code : Code). (relayed code p n came generation).bytes) code ∙ ap (λ (k : ℕ). (relayed other k n came generation).bytes) pattern
    ∙ ap (λ (k : ℕ). (relayed other q k came generation).bytes) node

-- a node has the code, the pattern, its number and the paths as before
pub record IsStill {F : Type 0} (old new : Relaying F) : Type 0 where
  pub code : new.code ≡ old.code
  pub pattern : new.pattern ≡ old.pattern
  pub node : new.node ≡ old.node
  pub outputs : new.outputs ≡ old.outputs

pub still_here : {F : Type 0} (relaying : Relaying F) → IsStill relaying relaying
still_here relaying = record { code = refl; pattern = refl; node = refl; outputs = refl }

pub still_then : {F : Type 0} (old mid new : Relaying F) → IsStill old mid → IsStill mid new → IsStill old new
still_then old mid new one other = record {
  code = other.code ∙ one.code;
  pattern = other.pattern ∙ one.pattern;
  node = other.node ∙ one.node;
  outputs = other.outputs ∙ one.outputs;
}

-- what its files get of a generation
abbrev pub passed_turn : {F : Type 0} → Relaying F → List Stream → ℕ → List Written
passed_turn relaying streams generation =
    parts_of (paths_of relaying) (relayed relaying.code.now relaying.pattern relaying.node (all_packets streams) generation).bytes

module _ {F : Type 0} (old new : Relaying F) (still : IsStill old new) where
  code_still : new.code.now ≡ old.code.now
  code_still = ap (λ code. code.now) still.code

  pub plan_still : new.relay ≡ old.relay
  plan_still = new.plan ∙ plans_same new.code.now old.code.now new.pattern old.pattern new.node old.node code_still still.pattern still.node ∙ sym old.plan

  pub paths_still : paths_of new ≡ paths_of old
  paths_still = ap (λ outputs. map string_bytes outputs.items) still.outputs

  pub ins_still : ins_of new.code.now new.pattern new.node ≡ ins_of old.code.now old.pattern old.node
  ins_still = ap (λ (plan : Plan). plan.ins) (plans_same new.code.now old.code.now new.pattern old.pattern new.node old.node code_still still.pattern still.node)

  pub turn_still : (streams : List Stream) (generation : ℕ) → passed_turn new streams generation ≡ passed_turn old streams generation
  turn_still streams generation =
      let came = all_packets streams in
      ap (λ (paths : List (List ℕ)). parts_of paths (relayed new.code.now new.pattern new.node came generation).bytes) paths_still
      ∙ ap (parts_of (paths_of old)) (frames_same new.code.now old.code.now new.pattern old.pattern new.node old.node came generation code_still still.pattern still.node)

-- ---- files that are created and then filled

module _ (paths : List (List ℕ)) (turn : ℕ → List Written) where
  -- they were created
  pub fills_none : (first : List Event) → Are (creates_of paths) first → Fills paths (Are (appends_of (map turn (range_with_len 0 0)))) first
  fills_none first are = record { first = first; later = []; events_are = sym (append-nil first); holds_first = are; holds_later = refl }

  -- one turn more
  pub fills_more : (n : ℕ) (first later : List Event) → Fills paths (Are (appends_of (map turn (range_with_len 0 n)))) first → Are (appends_of (turn n ∷ [])) later
      → Fills paths (Are (appends_of (map turn (range_with_len 0 (n + 1))))) (first ++ later)
  fills_more n first later is next = record {
    first = is.first;
    later = is.later ++ later;
    events_are = ap (λ (events : List Event). events ++ later) is.events_are ∙ append_assoc is.first is.later later;
    holds_first = is.holds_first;
    holds_later = ap (λ (events : List Event). events ++ later) is.holds_later ∙ ap (λ (events : List Event). appends_of (map turn (range_with_len 0 n)) ++ events) next ∙ turns_more turn n;
  }

  -- and where it stops
  pub fills_stopped : (all n : ℕ) (first later : List Event) → n < all → Fills paths (Are (appends_of (map turn (range_with_len 0 n)))) first → StopsWithin (appends_of (turn n ∷ [])) later
      → StopsFilling paths (StopsWithin (appends_of (map turn (range_with_len 0 all)))) (first ++ later)
  fills_stopped all n first later within is stop = inr (record {
    first = is.first;
    later = is.later ++ later;
    events_are = ap (λ (events : List Event). events ++ later) is.events_are ∙ append_assoc is.first is.later later;
    holds_first = is.holds_first;
    holds_later = subst (λ (events : List Event). StopsWithin (appends_of (map turn (range_with_len 0 all))) (events ++ later)) (sym is.holds_later) (turns_stopped turn all n later within stop);
  })
