use Rattle.std.specs.Prelude.{◌≡◌, ◌<◌, ◌≤◌, ◌+◌, ◌-◌, ℕ, true, List, Option, IfSome, false, None, length, slice_index, slice_index_or, slice_set}
use Rattle.std.proofs.Common.{refl, sym, ◌∙◌, ap, subst, arith}
use Rattle.std.proofs.lemmas.Bool.{both_ways}
use Rattle.std.proofs.lemmas.List.{get_or_read, length-set}
use Rattle.link_chains.specs.declared.chains.LinkEnd.TheVariants.{Head, Tail}
use Rattle.net_model.proofs.EndLaws.{ends_apart}
use Rattle.net_model.specs.Flows.{flow_network, is_on}
use Rattle.net_model.specs.Walks.{head_of, tail_of}
use Rattle.unit_flow.specs.Searching.{ArePassed, IsEntry, IsOnChain, last_of, passed_ends, with_entry}
use Rattle.unit_flow.specs.declared.search.Entry.{Entry}
use Rattle.unit_flow.proofs.PassingSteps.{passed_moved, chain_passed, chain_passed_over, is_on-with_entry, passed_kept, steps_kept}
use Rattle.unit_flow.proofs.EnteredLaws.{nothing_entered}
use Rattle.unit_flow.proofs.SearchSteps.{counted_later, counts_marked, counts_moved, counts_unmarked, last_below, last_read, left_at, moves_both, moves_out, none_weaker, not_none, nothing, where_none}
use Rattle.unit_flow.proofs.search.Search.next_entry.Goals as goal
use Rattle.unit_flow.proofs.search.Search.next_entry.Goals.{After-pass_chain-passed}

module _ (g : _) (c : After-pass_chain-passed g) where
  -- the node that is looked at is one, and has cursors
  below : c.index-node.result.now < length c.args.net.now.nodes
  below = last_below (flow_network c.args.net.now c.args.residual.now.demand) c.args.residual.now.states c.args.self.now c.index-node.result.now c.requires.searching c.requires.on_way c.index-node.ensures

  inside : c.index-node.result.now < length c.args.self.now.from.items
  inside = omega (arith, below, c.requires.searching.way.places.from)

  inside_too : c.index-node.result.now < length c.args.self.now.into.items
  inside_too = omega (arith, below, c.requires.searching.way.places.into)

  last : c.index-node.result.now ≡ last_of c.args.self.now
  last = last_read (flow_network c.args.net.now c.args.residual.now.demand) c.args.residual.now.states c.args.self.now c.index-node.result.now c.requires.searching c.requires.on_way c.index-node.ensures

  -- it was reached
  on : is_on c.args.self.now.reached.items c.index-node.result.now ≡ true
  on = ap (is_on c.args.self.now.reached.items) last ∙ c.requires.searching.on_way (c.args.self.now.depth - 1) (omega (arith, c.requires.on_way))

  -- an entry from it is one from the last node
  entered : (entry : Option Entry) → IfSome entry (IsEntry c.args.net.now c.args.residual.now.states c.index-node.result.now c.args.self.now.reached.items)
      → IfSome entry (IsEntry c.args.net.now c.args.residual.now.states (last_of c.args.self.now) c.args.self.now.reached.items)
  entered entry is = subst (λ node. IfSome entry (IsEntry c.args.net.now c.args.residual.now.states node c.args.self.now.reached.items)) last is

  -- where the links out of the node led to nothing, all of them were passed
  past : c.pass_chain-passed.result.entry ≡ None → length c.args.net.now.links ≤ c.pass_chain-passed.result.next
  past none = where_none c.pass_chain-passed.result.entry none c.pass_chain-passed.ensures.all

  -- what is read there are the cursors
  first : c.index-first.result.now ≡ slice_index c.args.self.now.from.items c.index-node.result.now
  first = get_or_read c.args.self.now.from.items c.index-node.result.now c.index-first.result.now inside c.index-first.ensures 0

  second : (link : ℕ) → link ≡ slice_index_or c.args.self.now.into.items c.index-node.result.now link → link ≡ slice_index c.args.self.now.into.items c.index-node.result.now
  second link read = get_or_read c.args.self.now.into.items c.index-node.result.now link inside_too read 0

  -- the cursors once the links out of the node were looked at
  abbrev moved : List ℕ
  moved = slice_set c.args.self.now.from.items c.index-node.result.now c.pass_chain-passed.result.next

  -- where those led to nothing, they were passed
  over : (entry : Option Entry) → c.pass_chain-passed.result.entry ≡ None
      → ArePassed c.args.net.now.links c.args.residual.now.states (tail_of c.args.net.now.links) (length c.args.net.now.nodes) (slice_index moved) (with_entry entry c.args.self.now.reached.items)
  over entry none =
      chain_passed_over c.args.net.now c.args.residual.now.states Tail (length c.args.net.now.nodes) c.index-node.result.now c.index-first.result.now c.args.self.now.from.items moved c.args.self.now.reached.items
      c.pass_chain-passed.result c.args.steps.now c.pass_chain-passed.new.steps entry c.pass_chain-passed.ensures.passed c.requires.searching.from inside on first refl none

  -- the steps until then
  early : c.args.steps.now ≤ c.pass_chain-passed.new.steps
  early =
      steps_kept c.args.net.now c.args.residual.now.states Tail c.index-node.result.now c.index-first.result.now c.args.self.now.reached.items c.pass_chain-passed.result c.args.steps.now c.pass_chain-passed.new.steps
      c.pass_chain-passed.ensures.passed

  tails : c.pass_chain-passed.new.steps + passed_ends (tail_of c.args.net.now.links) (length c.args.net.now.links) (slice_index c.args.self.now.from.items)
      ≡ c.args.steps.now + passed_ends (tail_of c.args.net.now.links) (length c.args.net.now.links) (slice_index moved)
  tails =
      counts_moved (tail_of c.args.net.now.links) (length c.args.net.now.links) c.index-node.result.now c.index-first.result.now c.pass_chain-passed.result.next c.args.self.now.from.items moved c.args.steps.now
      c.pass_chain-passed.new.steps inside refl first c.pass_chain-passed.ensures.passed.steps

pub pass_chain-passed-requires-clause-first : goal.pass_chain-passed-requires-clause-first
pass_chain-passed-requires-clause-first g c =
    let net = c.args.net.now in
    let old = c.args.self.now in
    let node = c.index-node.result.now in
    let below = last_below (flow_network net c.args.residual.now.demand) c.args.residual.now.states old node c.requires.searching c.requires.on_way c.index-node.ensures in
    let first = get_or_read old.from.items node c.index-first.result.now (omega (arith, below, c.requires.searching.way.places.from)) c.index-first.ensures 0 in
    let Chain : ℕ → Type 0 = λ link. IsOnChain (tail_of net.links) (length net.links) node link in
    subst Chain (sym first) (c.requires.searching.from.on_chains node below)

pub index_mut-requires : goal.index_mut-requires
index_mut-requires g c =
    let s = (goal.at.index_mut-requires g c).After-pass_chain-passed in
    omega (arith, inside g s)

pub returns-then-is_some-clause-way : goal.returns-then-is_some-clause-way
returns-then-is_some-clause-way g c = record { way = refl; depth = refl; came = refl; reached = refl }

pub returns-then-is_some-clause-moved : goal.returns-then-is_some-clause-moved
returns-then-is_some-clause-moved g c =
    let s = (goal.at.returns-then-is_some-clause-moved g c).After-pass_chain-passed in
    moves_out c.args.self.now _ c.index-node.result.now c.pass_chain-passed.result.next (last g s) (inside g s) refl refl

pub returns-then-is_some-clause-entry : goal.returns-then-is_some-clause-entry
returns-then-is_some-clause-entry g c = entered g (goal.at.returns-then-is_some-clause-entry g c).After-pass_chain-passed c.pass_chain-passed.result.entry c.pass_chain-passed.ensures.entry

pub returns-then-is_some-clause-left : goal.returns-then-is_some-clause-left
returns-then-is_some-clause-left g c = not_none _ c.pass_chain-passed.result.entry (sym c.is_some.ensures ∙ c.if-is_some.true)

pub returns-then-is_some-clause-looked : goal.returns-then-is_some-clause-looked
returns-then-is_some-clause-looked g c = c.pass_chain-passed.ensures.looked

pub returns-then-is_some-clause-led : goal.returns-then-is_some-clause-led
returns-then-is_some-clause-led g c =
    let s = (goal.at.returns-then-is_some-clause-led g c).After-pass_chain-passed in
    let net = c.args.net.now in
    let states = c.args.residual.now.states in
    let old = c.args.self.now in
    let passed = c.pass_chain-passed.result in
    record {
      from = chain_passed net states Tail (length net.nodes) c.index-node.result.now c.index-first.result.now old.from.items _ old.reached.items passed c.args.steps.now c.pass_chain-passed.new.steps
          c.pass_chain-passed.ensures.passed c.requires.searching.from (inside g s) (on g s) (first g s) refl;
      into = passed_kept net.links states (head_of net.links) (length net.nodes) (slice_index old.into.items) old.reached.items (with_entry passed.entry old.reached.items) c.requires.searching.into
          (is_on-with_entry passed.entry old.reached.items);
    }

pub returns-then-is_some-clause-ticks : goal.returns-then-is_some-clause-ticks
returns-then-is_some-clause-ticks g c =
    let s = (goal.at.returns-then-is_some-clause-ticks g c).After-pass_chain-passed in
    record { not_back = early g s; counted = omega (arith, tails g s) }

pub bounds-entered-node : goal.bounds-entered-node
bounds-entered-node g c =
    let s = (goal.at.bounds-entered-node g c).After-pass_chain-passed in
    omega (arith, below g s, c.requires.entered.each_node)

pub index_mut-requires-then-not-entered-node : goal.index_mut-requires-then-not-entered-node
index_mut-requires-then-not-entered-node g c =
    let s = (goal.at.index_mut-requires-then-not-entered-node g c).After-pass_chain-passed in
    omega (arith, inside_too g s)

pub returns-then-not-entered-node-clause-way : goal.returns-then-not-entered-node-clause-way
returns-then-not-entered-node-clause-way g c = record { way = refl; depth = refl; came = refl; reached = refl }

pub returns-then-not-entered-node-clause-moved : goal.returns-then-not-entered-node-clause-moved
returns-then-not-entered-node-clause-moved g c =
    let s = (goal.at.returns-then-not-entered-node-clause-moved g c).After-pass_chain-passed in
    moves_both c.args.self.now _ c.index-node.result.now c.pass_chain-passed.result.next _ (last g s) (inside g s) (inside_too g s) refl refl

pub returns-then-not-entered-node-clause-left : goal.returns-then-not-entered-node-clause-left
returns-then-not-entered-node-clause-left g c =
    let s = (goal.at.returns-then-not-entered-node-clause-left g c).After-pass_chain-passed in
    left_at (length c.args.net.now.links) c.args.self.now _ c.index-node.result.now c.pass_chain-passed.result.next _ (last g s) (inside g s) (inside_too g s) refl refl (past g s (nothing _ (sym c.is_some.ensures ∙ c.if-is_some.false)))
    (omega (arith, c.len.ensures))

pub returns-then-not-entered-node-clause-led : goal.returns-then-not-entered-node-clause-led
returns-then-not-entered-node-clause-led g c =
    let s = (goal.at.returns-then-not-entered-node-clause-led g c).After-pass_chain-passed in
    let net = c.args.net.now in
    let states = c.args.residual.now.states in
    let old = c.args.self.now in
    let node = c.index-node.result.now in
    let unmarked : is_on c.args.entered.now node ≡ false = c.if-not-entered-node.true in
    record {
      from = over g s None (nothing _ (sym c.is_some.ensures ∙ c.if-is_some.false));
      into = passed_moved net.links states (head_of net.links) (length net.nodes) node c.len.result old.into.items _ old.reached.items old.reached.items c.requires.searching.into (inside_too g s) (on g s) refl
          (record { within = omega (arith, c.len.ensures); ends = λ past. absurd (omega (arith, c.len.ensures)) })
          (λ link to late early here leads.
          let within : link < length net.links = omega (arith, c.len.ensures) in
          absurd (both_ways _ unmarked
          (nothing_entered net.links (length net.nodes) states c.args.entered.now node link to c.requires.entered unmarked here (ends_apart net.links (length net.nodes) link net.network.link_ends within) leads)))
          (λ other there. there);
    }

pub returns-then-not-entered-node-clause-ticks : goal.returns-then-not-entered-node-clause-ticks
returns-then-not-entered-node-clause-ticks g c =
    let s = (goal.at.returns-then-not-entered-node-clause-ticks g c).After-pass_chain-passed in
    let net = c.args.net.now in
    let node = c.index-node.result.now in
    let heads = counts_unmarked (head_of net.links) (length net.links) node c.len.result c.args.entered.now c.args.self.now.into.items _ c.if-not-entered-node.true refl in
    record { not_back = early g s; counted = omega (arith, tails g s, heads) }

pub index-first-requires-2 : goal.index-first-requires-2
index-first-requires-2 g c =
    let s = (goal.at.index-first-requires-2 g c).After-pass_chain-passed in
    omega (arith, inside_too g s)

pub pass_chain-passed-requires-2-clause-wiring : goal.pass_chain-passed-requires-2-clause-wiring
pass_chain-passed-requires-2-clause-wiring g c = c.requires.wiring

pub pass_chain-passed-requires-2-clause-first : goal.pass_chain-passed-requires-2-clause-first
pass_chain-passed-requires-2-clause-first g c =
    let s = (goal.at.pass_chain-passed-requires-2-clause-first g c).After-pass_chain-passed in
    let net = c.args.net.now in
    let node = c.index-node.result.now in
    let Chain : ℕ → Type 0 = λ link. IsOnChain (head_of net.links) (length net.links) node link in
    subst Chain (sym (second g s c.index-first-2.result.now c.index-first-2.ensures)) (c.requires.searching.into.on_chains node (below g s))

pub pass_chain-passed-requires-2-clause-places : goal.pass_chain-passed-requires-2-clause-places
pass_chain-passed-requires-2-clause-places g c =
    let places = c.requires.searching.way.places in
    record {
      way = places.way;
      came = places.came;
      reached = places.reached;
      from = length-set c.args.self.now.from.items c.index-node.result.now c.pass_chain-passed.result.next ∙ places.from;
      into = places.into;
    }

pub index_mut-requires-2 : goal.index_mut-requires-2
index_mut-requires-2 g c =
    let s = (goal.at.index_mut-requires-2 g c).After-pass_chain-passed in
    omega (arith, inside_too g s)

pub returns-clause-way : goal.returns-clause-way
returns-clause-way g c = record { way = refl; depth = refl; came = refl; reached = refl }

pub returns-clause-moved : goal.returns-clause-moved
returns-clause-moved g c =
    let s = (goal.at.returns-clause-moved g c).After-pass_chain-passed in
    moves_both c.args.self.now _ c.index-node.result.now c.pass_chain-passed.result.next c.pass_chain-passed-2.result.next (last g s) (inside g s) (inside_too g s) refl refl

pub returns-clause-entry : goal.returns-clause-entry
returns-clause-entry g c = entered g (goal.at.returns-clause-entry g c).After-pass_chain-passed c.pass_chain-passed-2.result.entry c.pass_chain-passed-2.ensures.entry

pub returns-clause-left : goal.returns-clause-left
returns-clause-left g c =
    let s = (goal.at.returns-clause-left g c).After-pass_chain-passed in
    let two = c.pass_chain-passed-2.result in
    none_weaker two.entry
    (λ all. left_at (length c.args.net.now.links) c.args.self.now _ c.index-node.result.now c.pass_chain-passed.result.next two.next (last g s) (inside g s) (inside_too g s) refl refl (past g s (nothing _ (sym c.is_some.ensures ∙ c.if-is_some.false))) all)
    c.pass_chain-passed-2.ensures.all

pub returns-clause-led : goal.returns-clause-led
returns-clause-led g c =
    let s = (goal.at.returns-clause-led g c).After-pass_chain-passed in
    let old = c.args.self.now in
    let two = c.pass_chain-passed-2 in
    record {
      from = over g s two.result.entry (nothing _ (sym c.is_some.ensures ∙ c.if-is_some.false));
      into = chain_passed c.args.net.now c.args.residual.now.states Head (length c.args.net.now.nodes) c.index-node.result.now c.index-first-2.result.now old.into.items _ old.reached.items two.result
          c.pass_chain-passed.new.steps two.new.steps two.ensures.passed c.requires.searching.into (inside_too g s) (on g s) (second g s c.index-first-2.result.now c.index-first-2.ensures) refl;
    }

pub returns-clause-looked : goal.returns-clause-looked
returns-clause-looked g c =
    let s = (goal.at.returns-clause-looked g c).After-pass_chain-passed in
    counted_later c.pass_chain-passed-2.result.entry c.args.steps.now c.pass_chain-passed.new.steps c.pass_chain-passed-2.new.steps (early g s) c.pass_chain-passed-2.ensures.looked

pub returns-clause-ticks : goal.returns-clause-ticks
returns-clause-ticks g c =
    let s = (goal.at.returns-clause-ticks g c).After-pass_chain-passed in
    let net = c.args.net.now in
    let old = c.args.self.now in
    let node = c.index-node.result.now in
    let first = c.index-first-2.result.now in
    let before = c.pass_chain-passed.new.steps in
    let two = c.pass_chain-passed-2 in
    let heads = counts_marked (head_of net.links) (length net.links) node first two.result.next c.args.entered.now old.into.items _ before two.new.steps c.if-not-entered-node.false (inside_too g s) refl (second g s first c.index-first-2.ensures) two.ensures.passed.steps in
    let late = steps_kept net c.args.residual.now.states Head node first old.reached.items two.result before two.new.steps two.ensures.passed in
    record { not_back = omega (arith, early g s, late); counted = omega (arith, tails g s, heads) }
