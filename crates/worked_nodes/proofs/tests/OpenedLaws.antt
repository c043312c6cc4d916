-- Links that were just opened.
use Rattle.std.specs.Prelude.{◌≡◌, ◌≤◌, ◌∷◌, ℕ, []}
use Rattle.std.proofs.Common.{subst, sym}
use Rattle.lif_outside.specs.Moves.{IsOpened, opened}
use Rattle.lif_outside.specs.declared.links.Links.{Ghosts as LinksGhosts}
use Rattle.relay_runner.proofs.MeasureLaws.{Account}

-- nothing flies on them, and they have the room that was asked for
pub just_opened : {L : Type 0} (g : LinksGhosts L) (seed most : ℕ) (old new : L)
    → Account g → g.moves (opened seed most ∷ []) old new
    → (g.flying new ≡ []) × (most ≤ g.room new)
just_opened g seed most old new accounts moved =
    let follows = (accounts (opened seed most ∷ []) old new moved).follows in
    let after = subst (IsOpened seed most) (sym follows.2) follows.1 in
    (after.nothing_flies, after.has_room)
