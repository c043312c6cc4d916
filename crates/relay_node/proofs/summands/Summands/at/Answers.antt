-- The part of a sum lies within the list.
use Rattle.std.proofs.Common.{◌≡◌, ◌<◌, ◌+◌, ◌-◌, ◌∙◌, [], List, ap, arith, drop, get_or, length, slice_index, slice_index_or, sym, take, ℕ}
use Rattle.relay_node.specs.Summands.{AreStarts, parts_of}
use Rattle.relay_node.specs.declared.summands.Summand.{Summand}
use Rattle.relay_node.proofs.SummandLaws.{IsPart, part-bounds, parts-at, parts-count}
use Rattle.relay_node.proofs.summands.Summands.at.Goals as goal

-- a part of the lists that are seen
stands : (all : List Summand) (starts : List ℕ) (lists : List (List Summand)) (sum : ℕ) → parts_of all starts ≡ lists → sum < length lists → sum < length (parts_of all starts)
stands all starts lists sum seen within = omega (arith, within, ap length seen)

-- its bounds
bounds : (all : List Summand) (starts : List ℕ) (lists : List (List Summand)) (sum from to : ℕ) → AreStarts all starts → parts_of all starts ≡ lists → sum < length lists
    → from ≡ get_or starts sum from → to ≡ get_or starts (sum + 1) to → IsPart all starts sum from to
bounds all starts lists sum from to are seen within = part-bounds all starts sum from to are (stands all starts lists sum seen within)

pub index-requires : goal.index-requires
index-requires c =
    let inside = c.self.inside in
    omega (arith, stands inside.all.items inside.starts.items _ c.args.sum c.self.view_is c.requires, parts-count inside.all.items inside.starts.items, inside.starts.ok)

pub index-requires-2 : goal.index-requires-2
index-requires-2 c =
    let inside = c.self.inside in
    omega (arith, stands inside.all.items inside.starts.items _ c.args.sum c.self.view_is c.requires, parts-count inside.all.items inside.starts.items, inside.starts.ok)

pub offset_bounds-deref-index : goal.offset_bounds-deref-index
offset_bounds-deref-index c =
    let inside = c.self.inside in
    let part = bounds inside.all.items inside.starts.items _ c.args.sum c.index.result.now c.index-2.result.now c.self.invariant c.self.view_is c.requires c.index.ensures c.index-2.ensures in
    omega (arith, part.within, part.rising, ap length c.deref.ensures.value, c.deref.type_inv.1)

pub slice_bounds-result-count : goal.slice_bounds-result-count
slice_bounds-result-count c =
    let inside = c.self.inside in
    (bounds inside.all.items inside.starts.items _ c.args.sum c.index.result.now c.index-2.result.now c.self.invariant c.self.view_is c.requires c.index.ensures c.index-2.ensures).rising

pub slice_bounds-result-start : goal.slice_bounds-result-start
slice_bounds-result-start c =
    let inside = c.self.inside in
    (bounds inside.all.items inside.starts.items _ c.args.sum c.index.result.now c.index-2.result.now c.self.invariant c.self.view_is c.requires c.index.ensures c.index-2.ensures).rising

pub slice_bounds-result-end : goal.slice_bounds-result-end
slice_bounds-result-end c =
    let inside = c.self.inside in
    let part = bounds inside.all.items inside.starts.items _ c.args.sum c.index.result.now c.index-2.result.now c.self.invariant c.self.view_is c.requires c.index.ensures c.index-2.ensures in
    omega (arith, part.within, part.rising, ap length c.deref.ensures.value)

pub returns : goal.returns
returns c =
    let inside = c.self.inside in
    let all = inside.all.items in
    let starts = inside.starts.items in
    let sum = c.args.sum in
    let part = bounds all starts _ sum c.index.result.now c.index-2.result.now c.self.invariant c.self.view_is c.requires c.index.ensures c.index-2.ensures in
    ap (λ (items : List Summand). take (c.index-2.result.now - c.index.result.now) (drop c.index.result.now items)) c.deref.ensures.value
    ∙ ap (λ (from : ℕ). take (c.index-2.result.now - from) (drop from all)) part.start
    ∙ ap (λ (to : ℕ). take (to - slice_index starts sum) (drop (slice_index starts sum) all)) part.end
    ∙ sym (parts-at all starts sum (stands all starts _ sum c.self.view_is c.requires))
    ∙ ap (λ (lists : List (List Summand)). slice_index_or lists sum []) c.self.view_is
