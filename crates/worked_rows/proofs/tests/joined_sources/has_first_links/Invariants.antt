use Rattle.std.proofs.Common.{◌≡◌, ◌<◌, ℕ, nat_lt}
use Rattle.net_model.specs.Walks.{leaves_source}
use Rattle.worked_rows.proofs.tests.joined_sources.has_first_links.Given as goal

-- of the links so far those leave the source that are below the rate
abbrev pub invariant-loop-link : goal.invariant-loop-link
invariant-loop-link l = (one : ℕ) → one < l.link → leaves_source l.code.net one ≡ nat_lt one l.code.rate
