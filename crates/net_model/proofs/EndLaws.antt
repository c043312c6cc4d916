-- The ends of a network's links are nodes, and the tail of a link tells whether it leaves the source.
use Rattle.std.specs.Prelude.{◌≡◌, ◌≢◌, ◌<◌, ◌==◌, ℕ, zero, suc, true, false, not, List, [], ◌∷◌, length, slice_get}
use Rattle.std.specs.List.{list_all}
use Rattle.std.specs.Option.{option_map_or}
use Rattle.std.proofs.Common.{refl, arith}
use Rattle.std.proofs.lemmas.Bool.{and_parts, eq-eqb, eqb-true, false≢true, ltb-true}
use Rattle.std.proofs.lemmas.Option.{slice_get-get_or}
use Rattle.net_model.specs.Network.{is_link_among}
use Rattle.net_model.specs.Walks.{head_of, leaves_source, tail_of}
use Rattle.net_model.specs.declared.Link.{Link}
use Rattle.net_model.specs.declared.net.Net.{Net}

-- both ends of a link are among so many nodes
pub ends_below : (links : List Link) (nodes l : ℕ) → list_all (is_link_among nodes) links ≡ true → l < length links → (tail_of links l < nodes) × (head_of links l < nodes)
ends_below [] nodes l all within = absurd (omega arith)
ends_below (link ∷ links) nodes zero all within =
    let here = and_parts _ _ (and_parts _ _ all).0 in
    let ends = and_parts _ _ here.0 in
    (ltb-true _ _ ends.0, ltb-true _ _ ends.1)
ends_below (link ∷ links) nodes (suc l) all within = ends_below links nodes l (and_parts _ _ all).1 (omega arith)

-- and they differ
pub ends_apart : (links : List Link) (nodes l : ℕ) → list_all (is_link_among nodes) links ≡ true → l < length links → tail_of links l ≢ head_of links l
ends_apart [] nodes l all within = absurd (omega arith)
ends_apart (link ∷ links) nodes zero all within = λ same.
    let test = eq-eqb link.tail link.head same in
    let apart : not (link.tail == link.head) ≡ true = (and_parts _ _ (and_parts _ _ all).0).1 in
    let alike : not true ≡ true = rw test at apart in
    cc
ends_apart (link ∷ links) nodes (suc l) all within = ends_apart links nodes l (and_parts _ _ all).1 (omega arith)

-- a link of the network leaves the source exactly where its tail is the source
pub leaves_source-tail : (net : Net) (link : ℕ) → link < length net.links → leaves_source net link ≡ (tail_of net.links link == net.source)
leaves_source-tail net link within =
    let none : Link = record { name = []; tail = 0; head = 0 } in
    rw (slice_get-get_or net.links link none within) refl

-- a link that leads out of a node is one of the links, and has it for its tail
tail_of-out : (links : List Link) (node link : ℕ) → option_map_or (λ l. l.tail == node) (slice_get links link) false ≡ true
    → (link < length links) × (tail_of links link ≡ node)
tail_of-out [] node link out = absurd (false≢true out)
tail_of-out (first ∷ links) node zero out = (omega arith, eqb-true first.tail node out)
tail_of-out (first ∷ links) node (suc link) out = let later = tail_of-out links node link out in (omega arith, later.1)

-- a link that leaves the source is one of the network's, and the source is its tail
pub tail_of-leaves_source : (net : Net) (link : ℕ) → leaves_source net link ≡ true → (link < length net.links) × (tail_of net.links link ≡ net.source)
tail_of-leaves_source net link leaves = tail_of-out net.links net.source link leaves
