use Rattle.std.proofs.Common.{◌≡◌, ◌++◌, ◌∷◌, [], ℕ, List, Option, None, Some, IfNone, IfSome, sym, subst}
use denote.Ref.{Bor}
use Rattle.item_list.proofs.Results.{on_err}
use Rattle.lif_outside.specs.Calls.{ByCalls}
use Rattle.lif_outside.specs.Puts.{Put, SaysAll, SaysPart}
use Rattle.top_base.proofs.SayingLaws.{put_all, put_part, part_of_front, all_then_all, all_then_part}
use Rattle.top_base.proofs.outcome.say_line.Goals as goal

-- a line whose first text was put in part
part_of_line : {C : Type 0} {puts : List Put → C → C → Type 0} {a b : C} (line text : List ℕ) (quoted : Option (Bor (List ℕ)))
    → IfNone quoted (line ≡ text) → IfSome quoted (λ more. line ≡ text ++ more.now ++ 10 ∷ []) → ByCalls puts a b (SaysPart text) → ByCalls puts a b (SaysPart line)
part_of_line {puts = puts} {a = a} {b = b} line text None alone behind by = subst (λ whole. ByCalls puts a b (SaysPart whole)) (sym alone) by
part_of_line {puts = puts} {a = a} {b = b} line text (Some more) alone behind by =
    subst (λ whole. ByCalls puts a b (SaysPart whole)) (sym behind) (part_of_front (text ++ more.now) (10 ∷ []) (part_of_front text more.now by))

pub returns-in_err-put-clause-part : goal.returns-in_err-put-clause-part
returns-in_err-put-clause-part g c =
    let text = c.pieces.result.0.now in
    on_err c.from_residual.result (part_of_line c.args.line.now text c.pieces.result.1 c.pieces.ensures.none c.pieces.ensures.some (put_part text c.in_err-put.field-0.0 c.in_err-put.ensures))

pub returns-in_err-put-2-clause-part : goal.returns-in_err-put-2-clause-part
returns-in_err-put-2-clause-part g c =
    let text = c.pieces.result.0.now in
    let quoted = c.in-Some.quoted.now in
    let whole = subst (λ more. IfSome more (λ quote. c.args.line.now ≡ text ++ quote.now ++ 10 ∷ [])) c.in-Some.is c.pieces.ensures.some in
    on_err c.from_residual-in_err-put-2.result (subst (λ line. ByCalls g.C.Sink.puts c.args.say.now c.put-in-Some.new.self (SaysPart line)) (sym whole)
    (part_of_front (text ++ quoted) (10 ∷ []) (all_then_part g.met.C.Sink.more_puts text quoted (put_all text c.in_ok-put.ensures) (put_part quoted c.in_err-put-2.field-0.0 c.in_err-put-2.ensures))))

pub returns-in_err-put-3-clause-part : goal.returns-in_err-put-3-clause-part
returns-in_err-put-3-clause-part g c =
    let text = c.pieces.result.0.now in
    let quoted = c.in-Some.quoted.now in
    let whole = subst (λ more. IfSome more (λ quote. c.args.line.now ≡ text ++ quote.now ++ 10 ∷ [])) c.in-Some.is c.pieces.ensures.some in
    let before = all_then_all g.met.C.Sink.more_puts text quoted (put_all text c.in_ok-put.ensures) (put_all quoted c.in_ok-put-2.ensures) in
    on_err c.from_residual-in_err-put-3.result (subst (λ line. ByCalls g.C.Sink.puts c.args.say.now c.put-in-Some-2.new.self (SaysPart line)) (sym whole)
    (all_then_part g.met.C.Sink.more_puts (text ++ quoted) (10 ∷ []) before (put_part (10 ∷ []) c.in_err-put-3.field-0.0 c.in_err-put-3.ensures)))

pub returns-in_ok-put-3-clause-all : goal.returns-in_ok-put-3-clause-all
returns-in_ok-put-3-clause-all g c =
    let text = c.pieces.result.0.now in
    let quoted = c.in-Some.quoted.now in
    let whole = subst (λ more. IfSome more (λ quote. c.args.line.now ≡ text ++ quote.now ++ 10 ∷ [])) c.in-Some.is c.pieces.ensures.some in
    let before = all_then_all g.met.C.Sink.more_puts text quoted (put_all text c.in_ok-put.ensures) (put_all quoted c.in_ok-put-2.ensures) in
    subst (λ line. ByCalls g.C.Sink.puts c.args.say.now c.put-in-Some-2.new.self (SaysAll line)) (sym whole)
    (all_then_all g.met.C.Sink.more_puts (text ++ quoted) (10 ∷ []) before (put_all (10 ∷ []) c.in_ok-put-3.ensures))
