use Rattle.std.proofs.Common.{◌≡◌, ℕ, Some, Ok, ap, ◌∙◌}
use Rattle.std.specs.Prelude.{true}
use Rattle.generation_frame.specs.declared.frame.Packet.{Packet}
use Rattle.linear_algebra.specs.Elements.{numbers}
use Rattle.vector_headers.specs.Fabric.{Carried, packet_at, vector_at}
use Rattle.vector_headers.specs.Heads.{head_read, vector_in}
use Rattle.vector_headers.specs.Rows.{Holding, rows_of_piece}
use Rattle.vector_headers.proofs.ReceivingLaws.{IsReceived-came, some_carried}
use Rattle.vector_headers.proofs.receiving.take_piece.Goals as goal
use Rattle.vector_headers.proofs.receiving.take_piece.Goals.{After-read_head}

-- what is read is the packet of the link
read : (g : _) (c : After-read_head g) (one : Carried) → c.args.fabric.now.carried ≡ Some one → c.read_head.result ≡ Ok (packet_at c.args.fabric.now one c.args.link c.args.piece)
read g c one is =
    let live : c.frame.result ≡ true = c.frame.ensures.live ∙ c.requires.link.live in
    c.read_head.ensures.value ∙ ap (λ (n : ℕ). head_read g.F.Field.BYTES n c.frame.new.into) c.requires.vector ∙ c.frame.ensures.back live one is

pub returns-in-Ok-clause-received : goal.returns-in-Ok-clause-received
returns-in-Ok-clause-received g c = λ one is links received.
    let at = (goal.at.returns-in-Ok-clause-received g c).After-read_head in
    let fabric = c.args.fabric.now in
    let live : c.frame.result ≡ true = c.frame.ensures.live ∙ c.requires.link.live in
    let came : c.in-Ok.packet ≡ packet_at fabric one c.args.link c.args.piece =
    let same = read g at one is in let found = c.in-Ok.is in cc
    in
    let vector : numbers g.F.Field.number c.read_head.new.vector ≡ vector_at fabric c.args.link =
    c.in-Ok.ensures.vector ∙ ap (λ (n : ℕ). vector_in g.F.Field.BYTES n c.frame.new.into) c.requires.vector ∙ c.frame.ensures.vector_back live
    in
    let told = c.accept.ensures in
    IsReceived-came fabric one (c.frame.ensures.block one is) links c.args.link c.args.piece c.requires.piece c.args.blind.now c.accept.new.self c.accept.result
    c.in-Ok.packet (numbers g.F.Field.number c.read_head.new.vector) c.requires.field c.requires.rate came vector
    (record { raised = told.raised; spans = told.spans; same = λ e. ap (λ (held : Holding). rows_of_piece held c.in-Ok.packet.piece) (told.same e); count = told.count })
    told.admits received

pub returns-in-Ok-clause-others : goal.returns-in-Ok-clause-others
returns-in-Ok-clause-others g c = λ other apart.
    let at = (goal.at.returns-in-Ok-clause-others g c).After-read_head in
    let fabric = c.args.fabric.now in
    let some = some_carried fabric.carried c.requires.carried in
    let came : c.in-Ok.packet ≡ packet_at fabric some.0 c.args.link c.args.piece =
    let same = read g at some.0 some.1 in let found = c.in-Ok.is in cc
    in
    c.accept.ensures.others other (λ e. apart (e ∙ ap (λ (p : Packet). p.piece) came))

pub returns-in_default-clause-received : goal.returns-in_default-clause-received
returns-in_default-clause-received g c = λ one is links received.
    let at = (goal.at.returns-in_default-clause-received g c).After-read_head in
    absurd (c.in_default.not-Ok (packet_at c.args.fabric.now one c.args.link c.args.piece) (read g at one is))
