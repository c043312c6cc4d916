use Rattle.std.proofs.Common.{◌≡◌, ◌≤◌, ℕ, List, Bool, true, false, find, length, map, string_bytes, sym, ap, ◌∙◌, arith}
use Rattle.std.specs.Prelude.{not}
use Rattle.std.specs.Option.{is_none}
use Rattle.std.proofs.lemmas.List.{length-map, take_all}
use Rattle.net_model.specs.declared.net.Net.{Net}
use Rattle.top_base.proofs.OutputLaws.{find_here, find_later}
use Rattle.top_base.specs.Named.{link_named}
use Rattle.top_base.specs.declared.outcome.Outcome.{Outcome}
use Rattle.top_base.specs.declared.status.Status.TheVariants.{UnknownLink}
use Rattle.top_blind.specs.Blind.{unknown_link}
use Rattle.top_blind.proofs.naming.see_known.Goals as goal

-- no link has the name that is a word
abbrev is_unknown : Net → List ℕ → Bool
is_unknown net word = is_none (link_named net word)

-- the outcome of a line
abbrev said : List ℕ → Outcome
said line = record { status = UnknownLink; line = line }

pub returns-then-is_none-clause-unknown : goal.returns-then-is_none-clause-unknown
returns-then-is_none-clause-unknown c =
    let net = c.args.net.now in
    let words = c.args.words.now.links.now in
    let passes : is_unknown net (string_bytes c.word-item.result) ≡ true =
    ap (is_unknown net) (sym c.as_bytes.ensures.value) ∙ ap is_none (sym c.link_named.ensures) ∙ ap not c.is_none.ensures ∙ ap (λ (b : Bool). not (not b)) c.if-is_none.true in (
      string_bytes c.word-item.result,
      find_here string_bytes (is_unknown net) words c.loop-word.word-index c.word-item.result c.loop-word-test.true c.loop-word.invariant c.word-item.is passes,
      ap said c.unknown_link.ensures ∙ ap unknown_link c.as_str.ensures.value,
    )

pub loop-word-preserved : goal.loop-word-preserved
loop-word-preserved c =
    let net = c.args.net.now in
    let words = c.args.words.now.links.now in
    let fails : is_unknown net (string_bytes c.word-item.result) ≡ false =
    ap (is_unknown net) (sym c.as_bytes.ensures.value) ∙ ap is_none (sym c.link_named.ensures) ∙ ap not c.is_none.ensures ∙ ap (λ (b : Bool). not (not b)) c.if-is_none.false in
    find_later string_bytes (is_unknown net) words c.loop-word.word-index c.word-item.result c.loop-word-test.true c.loop-word.invariant c.word-item.is fails

pub returns-clause-known : goal.returns-clause-known
returns-clause-known c =
    let words = map string_bytes c.args.words.now.links.now in
    let all : length words ≤ c.loop-word.word-index = omega (arith, length-map c.args.words.now.links.now string_bytes) in
    ap (find (is_unknown c.args.net.now)) (sym (take_all c.loop-word.word-index words all)) ∙ c.loop-word.invariant
