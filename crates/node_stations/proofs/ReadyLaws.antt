-- A source that was fed all blocks of a window takes in their rows, and nothing else came to it.
use Rattle.std.specs.Prelude.{◌≡◌, ◌<◌, ◌-◌, ◌*◌, ℕ, All, Contains, List, [], drop, length}
use Rattle.std.proofs.Common.{refl, sym, ap, subst, ◌∙◌, arith}
use Rattle.std.proofs.lemmas.List.{length-drop, length-take}
use Rattle.std.proofs.lemmas.List.Elements.{All-drop, All-from_get_or, All-get_or, All-take}
use Rattle.std.proofs.lemmas.List.FromFn.{get_or-map-range_with_len, length-map-range_with_len}
use Rattle.coded_traffic.specs.CodeBlocks.{IsBlockOf}
use Rattle.coded_traffic.specs.Traffic.{Window}
use Rattle.generation_frame.specs.Blocks.{row_bytes}
use Rattle.linear_algebra.specs.Elements.{AreBytes}
use Rattle.item_list.proofs.Places.{row_end}
use Rattle.item_list.proofs.Positions.{place_in-within}
use Rattle.node_plans.proofs.PlanLaws.{ins_of-source}
use Rattle.node_plans.specs.Plans.{plan_of}
use Rattle.node_plans.specs.declared.plan.Plan.{Plan}
use Rattle.node_program.specs.declared.code.Code.{Code}
use Rattle.relay_node.specs.Relay.{HasNothing, Relay}
use Rattle.node_stations.proofs.FeedingLaws.{block_of}
use Rattle.node_stations.proofs.GivingLaws.{begun_before, out_before}
use Rattle.node_stations.specs.Fed.{AreFed, window_of}
use Rattle.node_stations.specs.Shown.{IsFedAll}

-- The source was fed all blocks of the window.
pub fed_all : (code : Code) (pattern : ℕ) (window : Window) (old new : Relay) → old.plan ≡ plan_of code pattern code.net.source → old.first ≡ window.first
    → old.count ≡ length window.blocks → HasNothing old → All (IsBlockOf code) window.blocks → AreFed window old new → IsFedAll code pattern window new
fed_all code pattern window old new plan from many nothing are fed =
    record {
      takes = record {
        plan = same_plan;
        first = fed.work.first ∙ from;
        count = fed.work.count ∙ many;
        blocks = λ generation begun.
            let old_begun = begun_before old new fed.work generation begun in
            All-get_or (IsBlockOf code) window.blocks (generation - window.first) [] (omega (arith, from, many, old_begun.from_first, old_begun.to_last)) are;
        rows = λ is generation row piece begun low short came.
            fed.bytes generation row piece (begun_before old new fed.work generation begun) (low_old row low) short;
        traffic = λ generation link piece begun into short came.
            let none : Contains [] link = subst (λ (links : List ℕ). Contains links link) no_ins into in
            absurd (omega (arith, place_in-within [] link none));
      };
      fed = λ generation row piece begun low short. fed.came generation row piece (begun_before old new fed.work generation begun) (low_old row low) short;
      not_given = λ key is. let old_is = out_before old new fed.work key is in fed.given key old_is ∙ nothing.given key old_is;
    }
  where
    same_plan : new.plan ≡ plan_of code pattern code.net.source
    same_plan = fed.work.plan ∙ plan

    no_ins : new.plan.ins ≡ []
    no_ins = ap (λ (plan : Plan). plan.ins) same_plan ∙ ins_of-source code pattern

    low_old : (row : ℕ) → row < code.rate → row < old.plan.rate
    low_old row low = subst (λ (plan : Plan). row < plan.rate) (sym plan) low

-- one of so many blocks of a code, which stand one after another
one_block : (code : Code) (size count : ℕ) (bytes : List ℕ) → size ≡ code.rate * row_bytes → length bytes ≡ count * size → AreBytes bytes
    → (place : ℕ) → place < count → IsBlockOf code (block_of size bytes place)
one_block code size count bytes sized long are place below =
    record {
      size = simp (length-take, length-drop) (omega (arith, long, sized, row_end place count size below));
      bytes = All-take (λ byte. byte < 256) size (drop (place * size) bytes) (All-drop (λ byte. byte < 256) (place * size) bytes are);
    }

-- Bytes that are so many blocks of a code, one after another, are blocks of it.
pub are_blocks : (code : Code) (first count : ℕ) (bytes : List ℕ) → length bytes ≡ count * (code.rate * row_bytes) → AreBytes bytes
    → All (IsBlockOf code) (window_of first count (code.rate * row_bytes) bytes).blocks
are_blocks code first count bytes long are =
    let size = code.rate * row_bytes in
    All-from_get_or (IsBlockOf code) (window_of first count size bytes).blocks [] (λ place within.
    let below : place < count = omega (arith, within, length-map-range_with_len (block_of size bytes) 0 count) in
    subst (IsBlockOf code) (sym (get_or-map-range_with_len (block_of size bytes) 0 count place place [] below (omega arith)))
    (one_block code size count bytes refl long are place below))
