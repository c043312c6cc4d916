use Rattle.std.proofs.Common.{[], ◌∷◌, ◌++◌, List, refl, subst}
use Rattle.item_list.proofs.Results.{on_err}
use Rattle.lif_outside.specs.Moves.{Move, put_failed}
use Rattle.node_stations.proofs.PuttingLaws.{failed_of, gives_more, has_room, less_room, put_of, puts_more}
use Rattle.node_stations.proofs.putting.put_due.Goals as goal
use Rattle.node_stations.specs.Putting.{StopsPutting, flight_of, puts_of}

pub due-init : goal.due-init
due-init g c = record { packets = []; given = refl; calls = g.met.K.Links.no_moves c.args.links.now }

pub put-requires : goal.put-requires
put-requires g c =
    let packets = c.due.invariant.packets in
    let packet = c.in-Some.packet in
    let given = gives_more packets packet c.args.node.now c.due.node c.next_out.new.self c.due.invariant.given c.in-Some.ensures.given in
    has_room (g.K.Links.faithful c.args.links.now) packets packet _ _ (g.met.K.Links.accounts (puts_of packets) c.args.links.now c.due.links c.due.invariant.calls).follows
    (c.requires (packets ++ packet ∷ []) c.next_out.new.self given)

pub due-smaller : goal.due-smaller
due-smaller g c =
    let packets = c.due.invariant.packets in
    let packet = c.in-Some.packet in
    let given = gives_more packets packet c.args.node.now c.due.node c.next_out.new.self c.due.invariant.given c.in-Some.ensures.given in
    let room = has_room (g.K.Links.faithful c.args.links.now) packets packet _ _ (g.met.K.Links.accounts (puts_of packets) c.args.links.now c.due.links c.due.invariant.calls).follows
    (c.requires (packets ++ packet ∷ []) c.next_out.new.self given) in
    let made = put_of (λ (move : Move). g.K.Links.moves (move ∷ []) c.due.links c.put.new.self) packet c.frame_of.result c.frame_of.ensures.value c.in_ok-put.ensures in
    less_room (g.K.Links.faithful c.due.links) packet _ _ (g.met.K.Links.accounts (puts_of (packet ∷ [])) c.due.links c.put.new.self made).follows room

pub due-preserved : goal.due-preserved
due-preserved g c =
    let packets = c.due.invariant.packets in
    let packet = c.in-Some.packet in
    let made = put_of (λ (move : Move). g.K.Links.moves (move ∷ []) c.due.links c.put.new.self) packet c.frame_of.result c.frame_of.ensures.value c.in_ok-put.ensures in
    let calls = g.met.K.Links.more_moves (puts_of packets) (puts_of (packet ∷ [])) c.args.links.now c.due.links c.put.new.self c.due.invariant.calls made in
    record {
      packets = packets ++ packet ∷ [];
      given = gives_more packets packet c.args.node.now c.due.node c.next_out.new.self c.due.invariant.given c.in-Some.ensures.given;
      calls = subst (λ (moves : List Move). g.K.Links.moves moves c.args.links.now c.put.new.self) (puts_more packets packet) calls;
    }

pub returns-in_err-put-clause-failed : goal.returns-in_err-put-clause-failed
returns-in_err-put-clause-failed g c =
    let packets = c.due.invariant.packets in
    let packet = c.in-Some.packet in
    let failed = failed_of (λ (move : Move). g.K.Links.moves (move ∷ []) c.due.links c.put.new.self) packet c.frame_of.result c.frame_of.ensures.value c.in_err-put.ensures in
    on_err {P = StopsPutting g.K.Links c.args.links.now c.put.new.self c.args.node.now c.next_out.new.self} c.from_residual.result (record {
      packets = packets;
      last = packet;
      given = gives_more packets packet c.args.node.now c.due.node c.next_out.new.self c.due.invariant.given c.in-Some.ensures.given;
      calls = g.met.K.Links.more_moves (puts_of packets) (put_failed (flight_of packet) ∷ []) c.args.links.now c.due.links c.put.new.self c.due.invariant.calls failed;
    })
