use Rattle.std.proofs.Common.{◌≡◌, ◌≤◌, ◌-◌, Some, length, slice_get, refl, sym, arith, subst}
use Rattle.std.proofs.lemmas.Option.{slice_get_read}
use Rattle.failure_patterns.specs.Rate.{rate_used}
use Rattle.lif_compiler.specs.Rating.{IsFirstOf}
use Rattle.lif_compiler.specs.Refused.{IsRateUnmet, IsZeroRate}
use Rattle.lif_compiler.proofs.RatingLaws.{IsFirstOf-small, IsFirstOf-within, IsRateOver-first, IsRateUnmet-first, IsZeroRate-first, some_certificate}
use Rattle.lif_compiler.proofs.rating.bounded_rate.Goals as goal

pub rate-least-requires : goal.rate-least-requires
rate-least-requires c = some_certificate c.args.net.now c.args.certs.now c.requires

pub overflow_cast-result : goal.overflow_cast-result
overflow_cast-result c = omega (arith, IsFirstOf-small c.args.net.now c.args.certs.now c.requires (λ value. value ≤ 0) c.first_at_most-number.result c.first_at_most-number.ensures)

pub returns-then-least-eq0-clause-refused : goal.returns-then-least-eq0-clause-refused
returns-then-least-eq0-clause-refused c =
    let net = c.args.net.now in
    let certs = c.args.certs.now in
    let number = c.first_at_most-number.result in
    let cert = c.index-certs-number.result in
    let is = c.first_at_most-number.ensures in
    let there : slice_get certs number ≡ Some cert =
    slice_get_read certs (length certs) number cert refl (IsFirstOf-within (λ value. value ≤ 0) certs number is) c.index-certs-number.is in
    subst (IsZeroRate net number) (sym c.in_ok-side.ensures) (IsZeroRate-first net certs c.requires number cert is there)

pub offset_bounds-certs-number-then-used-least : goal.offset_bounds-certs-number-then-used-least
offset_bounds-certs-number-then-used-least c =
    omega (arith, IsFirstOf-small c.args.net.now c.args.certs.now c.requires (λ value. value ≤ c.unwrap_or-used.result - 1) c.first_at_most-number-then-used-least.result c.first_at_most-number-then-used-least.ensures)

pub bounds-certs-number-then-used-least : goal.bounds-certs-number-then-used-least
bounds-certs-number-then-used-least c =
    IsFirstOf-within (λ value. value ≤ c.unwrap_or-used.result - 1) c.args.certs.now c.first_at_most-number-then-used-least.result c.first_at_most-number-then-used-least.ensures

pub overflow_cast-result-then-used-least : goal.overflow_cast-result-then-used-least
overflow_cast-result-then-used-least c =
    omega (arith, IsFirstOf-small c.args.net.now c.args.certs.now c.requires (λ value. value ≤ c.unwrap_or-used.result - 1) c.first_at_most-number-then-used-least.result c.first_at_most-number-then-used-least.ensures)

pub returns-then-used-least-clause-refused : goal.returns-then-used-least-clause-refused
returns-then-used-least-clause-refused c =
    let net = c.args.net.now in
    let certs = c.args.certs.now in
    let least = c.rate-least.result in
    let number = c.first_at_most-number-then-used-least.result in
    let cert = c.index-certs-number-then-used-least.result in
    let used : c.unwrap_or-used.result ≡ rate_used net least = c.unwrap_or-used.ensures in
    let is : IsFirstOf (λ value. value ≤ rate_used net least - 1) certs number =
    subst (λ used. IsFirstOf (λ value. value ≤ used - 1) certs number) used c.first_at_most-number-then-used-least.ensures in
    let there : slice_get certs number ≡ Some cert =
    slice_get_read certs (length certs) number cert refl (IsFirstOf-within (λ value. value ≤ rate_used net least - 1) certs number is) c.index-certs-number-then-used-least.is in
    subst (λ side. IsRateUnmet net number side cert.value) (sym c.in_ok-side-2.ensures)
    (IsRateUnmet-first net certs c.requires number least cert c.rate-least.ensures (omega (arith, c.if-least-eq0.false)) (omega (arith, used, c.if-used-least.true)) is there)

pub overflow_cast-demand : goal.overflow_cast-demand
overflow_cast-demand c = omega (arith, IsFirstOf-small c.args.net.now c.args.certs.now c.requires (λ value. value ≤ c.rate-least.result) c.first_at_most-demand.result c.first_at_most-demand.ensures)

pub returns-then-used-gt-HIGHEST_RATE-clause-refused : goal.returns-then-used-gt-HIGHEST_RATE-clause-refused
returns-then-used-gt-HIGHEST_RATE-clause-refused c =
    let net = c.args.net.now in
    let least = c.rate-least.result in
    let used : c.unwrap_or-used.result ≡ rate_used net least = c.unwrap_or-used.ensures in
    IsRateOver-first net c.args.certs.now c.requires c.first_at_most-demand.result least (omega (arith, used, c.if-used-gt-HIGHEST_RATE.true)) (omega (arith, used, c.if-used-least.false)) c.rate-least.ensures c.first_at_most-demand.ensures
