use Rattle.std.specs.Prelude.{List, Some}
use Rattle.std.proofs.Common.{refl, sym, ap, ◌∙◌, inl, inr}
use Rattle.std.proofs.lemmas.Result.{IfOk-weaker}
use Rattle.cut_witness.specs.declared.cert.Cert.{Cert}
use Rattle.gf_tables.specs.declared.kind.FieldKind.TheVariants as kind
use Rattle.gf_tables.specs.Product.{product}
use Rattle.lif_compiler.specs.Compiled.{IsCompiled}
use Rattle.top_tools.proofs.CombiningLaws.{combination-good, field-used, of-combination}
use Rattle.top_tools.proofs.combining.combination_code.Goals.{in-None-1, in-Some+in-Any-1}
use Rattle.top_tools.proofs.combining.combination_code.Goals as goal
use Rattle.top_tools.specs.Combining.{IsCombinationCode}
use Rattle.top_tools.specs.Compile.Made.{IsServedBy}

pub code_over-requires-clause-field : goal.code_over-requires-clause-field
unfolding product
code_over-requires-clause-field g c κs within = record { size = refl; bytes = refl; mark = refl; product_at = λ a b h k. refl }

pub code_over-requires-in-Some-Sixteen-clause-field : goal.code_over-requires-in-Some-Sixteen-clause-field
unfolding product
code_over-requires-in-Some-Sixteen-clause-field g c κs within = record { size = refl; bytes = refl; mark = refl; product_at = λ a b h k. refl }

pub code_over-requires-clause-rate : goal.code_over-requires-clause-rate
code_over-requires-clause-rate g c κs within = (c.args.k, combination-good c.args.n c.args.k c.requires c.in_ok-net.net c.in_ok-net.ensures)

pub code_over-requires-in-Some-Sixteen-clause-rate : goal.code_over-requires-in-Some-Sixteen-clause-rate
code_over-requires-in-Some-Sixteen-clause-rate g c κs within = (c.args.k, combination-good c.args.n c.args.k c.requires c.in_ok-net.net c.in_ok-net.ensures)

pub returns-in-Some-Eight : goal.returns-in-Some-Eight
returns-in-Some-Eight g c =
    let net = c.in_ok-net.net in
    let served : IsServedBy net kind.Eight = sym c.used_field.ensures.value ∙ c.in-Some-Eight.is ∙ ap (λ choice. Some choice) c.in-Some-Eight.field-0-is in
    IfOk-weaker c.code_over.result (λ code. (certs : List Cert) × IsCompiled net kind.Eight code certs) (IsCombinationCode c.args.n c.args.k)
    (λ code made. of-combination c.args.n c.args.k c.requires net c.in_ok-net.ensures kind.Eight code served made.0 made.1) c.code_over.ensures

pub returns-in-Some-Sixteen : goal.returns-in-Some-Sixteen
returns-in-Some-Sixteen g c =
    let net = c.in_ok-net.net in
    let served : IsServedBy net kind.Sixteen = sym c.used_field.ensures.value ∙ c.in-Some-Sixteen.is ∙ ap (λ choice. Some choice) c.in-Some-Sixteen.field-0-is in
    IfOk-weaker c.code_over-in-Some-Sixteen.result (λ code. (certs : List Cert) × IsCompiled net kind.Sixteen code certs) (IsCombinationCode c.args.n c.args.k)
    (λ code made. of-combination c.args.n c.args.k c.requires net c.in_ok-net.ensures kind.Sixteen code served made.0 made.1) c.code_over-in-Some-Sixteen.ensures

pub unreachable-requires : goal.unreachable-requires
unreachable-requires g c =
    let value = c.used_field.ensures.value in
    elim (field-used c.args.n c.args.k c.requires c.in_ok-net.net c.in_ok-net.ensures) [
      | inl eight ↦
          let is = eight.0 in
          elim c.in-Some-Any-1.branch [
            | in-Some+in-Any-1 w ↦ absurd (cc)
            | in-None-1 w ↦ absurd (cc)
          ]
      | inr sixteen ↦
          elim c.in-Some-Any-1.branch [
            | in-Some+in-Any-1 w ↦ absurd (cc)
            | in-None-1 w ↦ absurd (cc)
          ]
    ]
