use Rattle.std.proofs.Common.{◌≡◌, ◌∙◌, ◌+◌, ◌++◌, List, ℕ, [], ap, cond, drop, length, map, refl, sym, subst, take, arith}
use Rattle.std.proofs.lemmas.List.{append_assoc, append-nil, drop_all, take_at}
use Rattle.std.proofs.lemmas.List.FromFn.{length-range_with_len}
use Rattle.net_model.specs.declared.Link.{Link}
use Rattle.net_maker.specs.Combination.{sink_link, sink_links}
use Rattle.net_maker.specs.Subsets.{HasRoom, subsets_from, subsets_of}
use Rattle.net_maker.proofs.SubsetLaws.{HasRoom-first, length-subsets_of, step, subsets_of-from}
use Rattle.net_maker.proofs.maker.push_all_sink_links.Goals as goal

pub loop-before-init : goal.loop-before-init
loop-before-init c =
    let n = c.args.n in
    let k = c.args.k in
    let first = c.in_ok-subset.ensures in
    record {
      made = refl;
      next = λ some. ap (subsets_from (n + 1)) first ∙ sym (subsets_of-from 1 n k (n + 1) c.requires.fits.among (omega arith));
      size = ap length first ∙ length-range_with_len 1 k;
      room = subst (λ (set : List ℕ). HasRoom n set) (sym first) (HasRoom-first n k c.requires.fits.among);
    }

pub loop-before-preserved : goal.loop-before-preserved
loop-before-preserved c =
    let n = c.args.n in
    let before = c.loop-before.before in
    let sets = subsets_of 1 n c.args.k in
    let set = c.loop-before.subset.items in
    let next = c.advance.new.subset in
    let rest = cond c.advance.result (subsets_from (n + 1) next) [] in
    let count : length sets ≡ c.args.count = length-subsets_of 1 n c.args.k ∙ sym c.requires.count in
    let stepped = rw c.deref_mut.ensures.value at c.advance.ensures.next in
    let parts = step sets (subsets_from (n + 1) set) (subsets_from (n + 1) next) set c.advance.result before (c.loop-before.invariant.next c.loop-before-test.true) stepped in
    let kept : take c.loop-before.subset.len (next ++ drop (length next) set) ≡ next = take_at next (drop (length next) set) c.loop-before.subset.len (omega arith) in
    let links = c.loop-before.links.items in
    let new = map (sink_link n (before + 1)) set in
    let there = sym (c.loop-before.invariant.next c.loop-before-test.true) ∙ stepped in
    let pushed = c.in_ok-push_sink_links.ensures ∙ ap (λ (l : List ℕ). links ++ map (sink_link n (before + 1)) l) c.deref.ensures.value in
    rw kept (record {
      made = ap (λ (l : List Link). l ++ sink_links n (before + 1 + 1) (drop (before + 1) sets)) pushed ∙ append_assoc links new (sink_links n (before + 1 + 1) (drop (before + 1) sets))
          ∙ ap (λ (l : List (List ℕ)). links ++ (new ++ sink_links n (before + 1 + 1) l)) parts.0 ∙ ap (λ (l : List (List ℕ)). links ++ sink_links n (before + 1) l) (sym there) ∙ c.loop-before.invariant.made;
      next = λ more. parts.1 (omega (arith, count));
      size = omega arith;
      room = c.advance.ensures.room;
    })

pub returns : goal.returns
returns c =
    let links = c.loop-before.links.items in
    let sets = subsets_of 1 c.args.n c.args.k in
    let before = c.loop-before.before in
    let count : length sets ≡ c.args.count = length-subsets_of 1 c.args.n c.args.k ∙ sym c.requires.count in
    sym (append-nil links) ∙ ap (λ (l : List (List ℕ)). links ++ sink_links c.args.n (before + 1) l) (sym (drop_all before sets (omega (arith, count)))) ∙ c.loop-before.invariant.made
