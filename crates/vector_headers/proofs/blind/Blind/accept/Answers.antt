use Rattle.std.proofs.Common.{◌∙◌, ap, subst, set}
use Rattle.std.proofs.lemmas.List.{set-get_or}
use Rattle.linear_algebra.specs.Elements.{numbers}
use Rattle.vector_headers.proofs.HeldLaws.{IsTaken-piece, rows_of_piece-others}
use Rattle.vector_headers.specs.Held.{IsTaken, holding_of}
use Rattle.vector_headers.specs.Rows.{Holding, row_of_bytes, rows_of_piece}
use Rattle.vector_headers.proofs.blind.Blind.accept.Goals as goal

pub returns : goal.returns
returns g c =
    let field = c.self.inside.field in
    let rate = c.self.inside.rate in
    let spans = c.self.inside.spans.items in
    let piece = c.args.packet.now.piece in
    let span = c.index_mut-span.result.now in
    let new = c.take_in.new.span in
    let vector = numbers g.F.Field.number c.args.vector.now in
    let payload = c.args.packet.now.payload in
    let gain = c.take_in.result in
    let after = holding_of field rate (set spans piece new) in
    let law =
    IsTaken-piece g.F.Field.BYTES field rate spans piece span new vector payload gain c.self.invariant c.requires.piece c.index_mut-span.ensures.value c.take_in.ensures.held c.take_in.ensures.taken
    in
    let Taken : Holding → Type 0 = λ held. IsTaken held.field held.rate (rows_of_piece held piece) (rows_of_piece after piece) (row_of_bytes held.field vector payload) gain in
    let taken : Taken c.args.self.now = subst Taken c.self.view_is law in
    record {
      raised = taken.raised;
      spans = taken.spans;
      same = λ e.
          ap (holding_of field rate) (ap (set spans piece) (c.take_in.ensures.same e ∙ c.index_mut-span.ensures.value) ∙ set-get_or spans piece span) ∙ c.self.view_is;
      others = λ other apart. rows_of_piece-others field rate spans piece new other apart ∙ ap (λ (held : Holding). rows_of_piece held other) c.self.view_is;
      count = taken.count;
      admits = taken.admits;
      field = ap (λ (held : Holding). held.field) c.self.view_is;
      rate = ap (λ (held : Holding). held.rate) c.self.view_is;
    }
