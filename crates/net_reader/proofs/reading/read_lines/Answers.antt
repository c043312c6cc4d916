use Rattle.std.proofs.Common.{◌≡◌, ◌∷◌, ◌+◌, [], ℕ, List, Bor, drop, get_or, refl, ap, ◌∙◌, arith}
use Rattle.std.proofs.lemmas.List.{drop_all, drop_more}
use Rattle.std.proofs.lemmas.Result.{err_from_is_err_and}
use Rattle.net_reader.specs.Statements.{Statement}
use Rattle.net_reader.specs.Text.{read_lines}
use Rattle.net_reader.specs.Words.{texts_of}
use Rattle.net_reader.proofs.EachLine.{line_good, line_bad}
use Rattle.net_reader.proofs.reading.read_lines.Goals as goal

abbrev nothing : Bor (List ℕ)
nothing = record { ref_ptr = (0, 0); now = [] }

-- what lines say after statements, by lines that are the same
same_lines : (said : List Statement) (number : ℕ) (xs ys : List (Bor (List ℕ))) → xs ≡ ys → read_lines said number (texts_of xs) ≡ read_lines said number (texts_of ys)
same_lines said number xs ys same = ap (λ (lines : List (Bor (List ℕ))). read_lines said number (texts_of lines)) same

pub loop-i-init : goal.loop-i-init
loop-i-init c = λ earlier tables. (earlier, refl, tables)

pub returns-in_err-read_line : goal.returns-in_err-read_line
returns-in_err-read_line c = λ earlier tables.
    let i = c.loop-i.i in
    let lines = c.args.lines.now in
    let here = c.loop-i.invariant earlier tables in
    let more : drop i lines ≡ get_or lines i nothing ∷ drop (i + 1) lines = drop_more lines i nothing (omega arith) in
    let p = err_from_is_err_and c.from_residual.result c.from_residual.ensures.1 in
    rw (p.1, p.2) (λ other. here.1 ∙ same_lines here.0 (i + 1) _ _ more
    ∙ line_bad here.0 (i + 1) (get_or lines i nothing).now (texts_of (drop (i + 1) lines)) _ (c.in_err-read_line.ensures here.0 here.2 other))

pub loop-i-preserved : goal.loop-i-preserved
loop-i-preserved c = λ earlier tables.
    let i = c.loop-i.i in
    let lines = c.args.lines.now in
    let here = c.loop-i.invariant earlier tables in
    let next = c.in_ok-read_line.ensures here.0 here.2 in
    let more : drop i lines ≡ get_or lines i nothing ∷ drop (i + 1) lines = drop_more lines i nothing (omega arith) in
    (next.0, here.1 ∙ same_lines here.0 (i + 1) _ _ more ∙ line_good here.0 (i + 1) (get_or lines i nothing).now (texts_of (drop (i + 1) lines)) next.0 next.1, next.2)

pub returns : goal.returns
returns c = λ earlier tables.
    let here = c.loop-i.invariant earlier tables in
    let end : drop c.loop-i.i c.args.lines.now ≡ [] = drop_all c.loop-i.i c.args.lines.now (omega arith) in
    (here.0, here.1 ∙ same_lines here.0 (c.loop-i.i + 1) _ _ end, here.2)

pub read_line-requires : goal.read_line-requires
read_line-requires c =
    let here = c.loop-i.invariant c.requires.0 c.requires.1 in
    (here.0, here.2)
