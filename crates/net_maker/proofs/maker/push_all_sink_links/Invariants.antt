use Rattle.std.proofs.Common.{◌≡◌, ◌+◌, ◌++◌, ◌<◌, length, drop}
use Rattle.net_maker.specs.Combination.{sink_links}
use Rattle.net_maker.specs.Subsets.{HasRoom, subsets_from, subsets_of}
use Rattle.net_maker.proofs.maker.push_all_sink_links.Given as goal

abbrev pub invariant-loop-before : goal.invariant-loop-before
invariant-loop-before l = record {
  made : l.links.items ++ sink_links l.n (l.before + 1) (drop l.before (subsets_of 1 l.n l.k)) ≡ l.initial.links.items ++ sink_links l.n 1 (subsets_of 1 l.n l.k);
  next : l.before < l.count → subsets_from (l.n + 1) l.subset.items ≡ drop l.before (subsets_of 1 l.n l.k);
  size : length l.subset.items ≡ l.k;
  room : HasRoom l.n l.subset.items;
}
