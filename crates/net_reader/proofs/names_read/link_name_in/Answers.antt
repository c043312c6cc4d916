use Rattle.std.proofs.Common.{ℕ, List, [], Result, slice_get, ap, sym, ◌∙◌}
use Rattle.net_reader.specs.Statements.{Statement, link_names}
use Rattle.net_reader.specs.Text.{names_read}
use Rattle.net_reader.specs.declared.refusal.ReadRefusal.{ReadRefusal}
use Rattle.net_reader.proofs.NodeNameLaws.{link_name-valid}
use Rattle.net_reader.proofs.names_read.link_name_in.Goals as goal

pub copied-requires : goal.copied-requires
copied-requires c =
    let heard = c.in-Ok.ensures [] c.requires in
    link_name-valid c.args.text.now c.args.link c.in-Some.name.now
    (ap (λ (read : Result (List Statement) ReadRefusal). slice_get (names_read link_names read) c.args.link) heard.1
    ∙ ap (λ (names : List (List ℕ)). slice_get names c.args.link) (sym heard.2.link_names) ∙ sym c.in-Some.ensures)
