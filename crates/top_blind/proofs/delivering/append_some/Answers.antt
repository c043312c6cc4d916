use Rattle.std.proofs.Common.{◌∷◌, [], sym, ◌∙◌}
use Rattle.lif_outside.specs.FileCalls.{appends_of}
use Rattle.source_turns.proofs.AppendLaws.{append_stopped}
use Rattle.top_blind.proofs.PieceLaws.{calls-some}
use Rattle.top_blind.specs.Blind.{piece_turn}
use Rattle.top_blind.proofs.delivering.append_some.Goals as goal

pub returns-clause-failed : goal.returns-clause-failed
returns-clause-failed g c =
    let path = c.args.path.now in
    let bytes = c.args.bytes.now in
    append_stopped g.S.Store.calls c.args.store.now c.append.new.self path bytes (appends_of (piece_turn (path ∷ []) bytes ∷ []))
    (calls-some bytes path (sym c.is_empty.ensures ∙ c.if-is_empty.false)) c.append.result c.append.ensures
