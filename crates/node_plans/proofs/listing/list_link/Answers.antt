use Rattle.std.proofs.Common.{◌≡◌, ℕ, length, ◌∙◌, ap, arith}
use Rattle.std.proofs.lemmas.List.{length-set}
use Rattle.net_model.specs.Walks.{head_of, tail_of}
use Rattle.node_plans.proofs.ListedLaws.{AreEnds-dead, AreEnds-live, AreEnds-read, length-ending_at, places-dead, places-more}
use Rattle.node_plans.specs.Listed.{ending_at}
use Rattle.node_plans.proofs.listing.list_link.Goals as goal

pub overflow_cast-len : goal.overflow_cast-len
overflow_cast-len c =
    let code = c.args.code.now in
    let found = AreEnds-read c.args.live.now (head_of code.net.links) (length code.net.nodes) c.args.link c.args.listed.now.ins.items c.requires.listed.ins
    c.head-head.result c.head-head.ensures.below c.index.result.now c.index.ensures in
    omega (arith, ap (length {A = ℕ}) found, length-ending_at c.args.live.now (head_of code.net.links) c.args.link c.head-head.result, c.index.result.now.ok.0, code.net.network.few_links)

pub returns-in_ok-push-2 : goal.returns-in_ok-push-2
returns-in_ok-push-2 c =
    let code = c.args.code.now in
    let live = c.args.live.now in
    let listed = c.args.listed.now in
    let heads = head_of code.net.links in
    let tails = tail_of code.net.links in
    let nodes = length code.net.nodes in
    let was = c.requires.listed in
    let found = AreEnds-read live heads nodes c.args.link listed.ins.items was.ins c.head-head.result c.head-head.ensures.below c.index.result.now c.index.ensures in
    let place : c.len.result ≡ length (ending_at live heads c.args.link (heads c.args.link)) =
    c.len.ensures ∙ c.index.result.now.ok.0 ∙ ap (length {A = ℕ}) found ∙ ap (λ node. length (ending_at live heads c.args.link node)) c.head-head.ensures.value in
    record {
      ins = AreEnds-live live heads nodes c.args.link listed.ins.items was.ins c.head-head.result c.head-head.ensures.below
          c.index_mut-then-live-link.result.now c.index_mut-then-live-link.ensures.value c.push.new.self c.if-live-link.true c.head-head.ensures.value c.in_ok-push.ensures.items;
      outs = AreEnds-live live tails nodes c.args.link listed.outs.items was.outs c.tail-tail.result c.tail-tail.ensures.below
          c.index_mut-then-live-link-2.result.now c.index_mut-then-live-link-2.ensures.value c.push-then-live-link.new.self c.if-live-link.true c.tail-tail.ensures.value c.in_ok-push-2.ensures.items;
      place_count = length-set listed.places.items c.args.link c.len.result ∙ was.place_count;
      place = places-more live heads c.args.link c.len.result listed.places.items (omega (arith, was.place_count)) was.place place;
    }

pub returns-else-live-link : goal.returns-else-live-link
returns-else-live-link c =
    let code = c.args.code.now in
    let was = c.requires.listed in
    record {
      ins = AreEnds-dead c.args.live.now (head_of code.net.links) (length code.net.nodes) c.args.link _ was.ins c.if-live-link.false;
      outs = AreEnds-dead c.args.live.now (tail_of code.net.links) (length code.net.nodes) c.args.link _ was.outs c.if-live-link.false;
      place_count = was.place_count;
      place = places-dead c.args.live.now (head_of code.net.links) c.args.link c.args.listed.now.places.items was.place c.if-live-link.false;
    }
