use Rattle.std.proofs.Common.{rules, ◌≡◌, ◌<◌, ℕ, Some, Ok, List, length, ap, sym, subst, ◌∙◌}
use Rattle.std.proofs.Math.Path.{ap₂}
use Rattle.generation_frame.specs.declared.frame.Packet.{Packet}
use Rattle.coded_traffic.specs.Traffic.{payload_where}
use Rattle.generation_frame.specs.Blocks.{piece_of_row}
use Rattle.linear_algebra.specs.Elements.{bytes_of_row, elements_of}
use Rattle.coded_traffic.specs.CodeBlocks.{IsBlockOf}
use Rattle.vector_headers.specs.Fabric.{Carried, Carrying, packet_at}
use Rattle.vector_headers.specs.Heads.{head_read}
use Rattle.vector_headers.proofs.fabric.Fabric.frame.Goals as goal

-- a block that was carried is one of the code
abbrev Whole : Carrying → Type 0
Whole fabric = (one : Carried) → fabric.carried ≡ Some one → IsBlockOf fabric.code one.block

pub returns-then-not-at-clause-block : goal.returns-then-not-at-clause-block
returns-then-not-at-clause-block g c = subst Whole c.self.view_is c.self.invariant.whole_block

pub returns-clause-block : goal.returns-clause-block
returns-clause-block g c = subst Whole c.self.view_is c.self.invariant.whole_block

pub returns-clause-back : goal.returns-clause-back
returns-clause-back g c = λ live one is.
    let fabric = c.args.self.now in
    let into = c.write_head.new.into in
    let packet : Packet = record { link = c.args.link; generation = c.unwrap.result; piece = c.args.piece; payload = c.piece_at.result } in
    let generation : c.unwrap.result ≡ one.generation = search rules in
    let piece = c.args.piece in
    let link = c.args.link in
    let field = c.self.inside.code.now.field in
    let Shown : Carrying → Type 0 = λ fabric. link < length fabric.code.net.links → (one : Carried) → fabric.carried ≡ Some one
    → c.piece_at.result ≡ payload_where fabric.code fabric.failed one.block piece link
    in
    let shown : Shown fabric = subst Shown c.self.view_is (λ below one found.
    c.piece_at.ensures field
    ∙ ap (λ (row : List ℕ). piece_of_row (bytes_of_row field (elements_of field row)) piece) c.row.ensures
    ∙ ap (λ (v : List ℕ). piece_of_row (bytes_of_row field v) piece) ((c.self.invariant.link_rows one found).value link below))
    in
    let payload = shown c.requires.link one is in
    let same : packet ≡ packet_at fabric one c.args.link c.args.piece =
    ap₂ (λ (n : ℕ) (bytes : List ℕ). let p : Packet = record { link = c.args.link; generation = n; piece = c.args.piece; payload = bytes } in p) generation payload
    in
    ap (λ (n : ℕ). head_read g.F.Field.BYTES n into) (sym c.vector.ensures.count) ∙ c.write_head.ensures.back ∙ ap Ok same
