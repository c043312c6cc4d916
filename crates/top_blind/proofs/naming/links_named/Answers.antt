use Rattle.std.proofs.Common.{◌≡◌, ◌<◌, ℕ, Bool, All, List, Vec, Global, filter, length, map, string_bytes, sym, ap, subst, ◌∙◌, arith}
use Rattle.std.specs.List.{list_any, range_with_len}
use Rattle.std.specs.Str.{bytes_eq}
use Rattle.std.proofs.lemmas.List.Elements.{All-filter, All-same}
use Rattle.std.proofs.lemmas.List.FromFn.{get_or-range_with_len, length-range_with_len}
use Rattle.name_texts.specs.Names.{link_name}
use Rattle.net_model.specs.declared.net.Net.{Net}
use Rattle.vector_headers.proofs.ReceivingLaws.{fails_more, passes_more}
use Rattle.top_blind.proofs.naming.links_named.Goals as goal
use Rattle.top_blind.proofs.naming.links_named.Goals.{then-is_named+in_ok-push, else-is_named}

-- a link is named by one of the words
abbrev is_named : Net → List (List ℕ) → ℕ → Bool
is_named net words link = list_any (bytes_eq (link_name net link)) words

pub loop-link-preserved : goal.loop-link-preserved
loop-link-preserved c =
    let test = is_named c.args.net.now (map string_bytes c.args.words.now) in
    elim c.if-is_named.branch [
      | then-is_named+in_ok-push w ↦
          ap (λ (links : Vec ℕ Global). links.items) w.links-is ∙ w.in_ok-push.ensures.items
          ∙ passes_more test c.loop-link.link c.loop-link.links.items (sym c.is_named.ensures ∙ w.if-is_named.true) c.loop-link.invariant
      | else-is_named w ↦
          ap (λ (links : Vec ℕ Global). links.items) w.links-is
          ∙ fails_more test c.loop-link.link c.loop-link.links.items (sym c.is_named.ensures ∙ w.if-is_named.false) c.loop-link.invariant
    ]

pub returns-clause-named : goal.returns-clause-named
returns-clause-named c =
    let test = is_named c.args.net.now (map string_bytes c.args.words.now) in
    let all : c.loop-link.link ≡ length c.args.net.now.links = omega (arith, c.loop-link.auto.link-end, c.loop-link-test.false, c.len-link-end.ensures) in
    c.loop-link.invariant ∙ ap (λ n. filter test (range_with_len 0 n)) all

pub returns-clause-within : goal.returns-clause-within
returns-clause-within c =
    let test = is_named c.args.net.now (map string_bytes c.args.words.now) in
    let Low : ℕ → Type 0 = λ link. link < length c.args.net.now.links in
    let lower : All Low (range_with_len 0 c.loop-link.link) = λ k d inside.
    let low : k < c.loop-link.link = omega (arith, inside, length-range_with_len 0 c.loop-link.link) in
    subst Low (sym (get_or-range_with_len 0 c.loop-link.link k d low)) (omega (arith, low, c.loop-link.auto.link-end, c.len-link-end.ensures))
    in
    All-same Low c.loop-link.links.items (filter test (range_with_len 0 c.loop-link.link)) c.loop-link.invariant (All-filter test Low (range_with_len 0 c.loop-link.link) lower)
