use Rattle.std.proofs.Common.{◌≡◌, ◌∙◌, ℕ, arith, inl, inr, length, nat_lt, subst, sym}
use Rattle.std.proofs.lemmas.Bool.{cases_Bool, cases_lt, false_from_ne_true, false≢true, le-ltb, leb-true}
use Rattle.net_model.proofs.EndLaws.{tail_of-leaves_source}
use Rattle.net_model.specs.Walks.{leaves_source}
use Rattle.worked_rows.proofs.tests.joined_sources.has_first_links.Goals as goal

pub loop-link-init : goal.loop-link-init
loop-link-init c = λ one below. absurd (omega arith)

pub loop-link-preserved : goal.loop-link-preserved
loop-link-preserved c = λ one below.
    let net = c.args.code.now.net in
    let rate = c.args.code.now.rate in
    let link = c.loop-link.link in
    let test = c.if-leaves_source-link.false in
    let same : c.leaves_source.result ≡ nat_lt link rate =
    elim (cases_Bool c.leaves_source.result) [
      | inl leaves ↦ elim (cases_Bool (nat_lt link rate)) [
        | inl less ↦ leaves ∙ sym less
        | inr more ↦ absurd (false≢true (sym (rw (leaves, more) at test)))
      ]
      | inr inner ↦ elim (cases_Bool (nat_lt link rate)) [
        | inl less ↦ absurd (false≢true (sym (rw (inner, less) at test)))
        | inr more ↦ inner ∙ sym more
      ]
    ] in
    elim (cases_lt one link) [
      | inl before ↦ c.loop-link.invariant one before
      | inr last ↦ subst (λ (l : ℕ). leaves_source net l ≡ nat_lt l rate) (omega arith) (sym c.leaves_source.ensures ∙ same)
    ]

pub returns : goal.returns
returns c = λ few link.
    let net = c.args.code.now.net in
    let rate = c.args.code.now.rate in
    elim (cases_lt link (length net.links)) [
      | inl inside ↦ c.loop-link.invariant link (omega (arith, inside, c.len-link-end.ensures, c.loop-link-test.false))
      | inr beyond ↦
          false_from_ne_true _ (λ leaves. omega (arith, beyond, (tail_of-leaves_source net link leaves).0))
          ∙ sym (le-ltb link rate (omega (arith, beyond, leb-true _ _ few, c.len.ensures)))
    ]
