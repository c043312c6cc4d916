-- What stays as long as links aren't opened again, and what calls leave.
use Rattle.std.specs.Prelude.{◌≡◌, ◌||◌, ◌++◌, ℕ, Bool, false, List, [], ◌∷◌}
use Rattle.std.specs.List.{list_any}
use Rattle.std.proofs.Common.{ap, refl, ◌∙◌}
use Rattle.std.proofs.lemmas.Bool.{or_parts, true≢false}
use Rattle.std.proofs.lemmas.List.Folds.{list_any-append}
use Rattle.lif_outside.specs.Moves.{FollowMoves, InFlight, IsOpenAsBefore, Move, Moves, is_open, open_refused, opened, put, put_failed, take_failed, took, took_none}

-- one call keeps the room and the number
as_before-move : (faithful : Bool) (move : Move) (old new : InFlight) → is_open move ≡ false → Moves faithful move old new → IsOpenAsBefore old new
as_before-move faithful (opened seed most) old new closed is = absurd (true≢false closed)
as_before-move faithful (open_refused seed most) old new closed is = absurd (true≢false closed)
as_before-move faithful (put pair) old new closed is = is.as_opened
as_before-move faithful (put_failed pair) old new closed is = record { same_room = ap (λ (held : InFlight). held.room) is; same_seed = ap (λ (held : InFlight). held.seed) is }
as_before-move faithful (took flight) old new closed is = is.as_opened
as_before-move faithful took_none old new closed is = is.1.as_opened
as_before-move faithful take_failed old new closed is = is.as_opened

-- and so do many
pub as_before : (faithful : Bool) (moves : List Move) (old new : InFlight) → list_any is_open moves ≡ false → FollowMoves faithful moves old new → IsOpenAsBefore old new
as_before faithful [] old new closed is = record { same_room = ap (λ (held : InFlight). held.room) is; same_seed = ap (λ (held : InFlight). held.seed) is }
as_before faithful (move ∷ moves) old new closed is =
    let parts = or_parts (is_open move) (list_any is_open moves) closed in
    let first = as_before-move faithful move old is.0 parts.0 is.1 in
    let later = as_before faithful moves is.0 new parts.1 is.2 in
    record { same_room = later.same_room ∙ first.same_room; same_seed = later.same_seed ∙ first.same_seed }

-- calls that open nothing, and then others
pub still-closed : (moves later : List Move) → list_any is_open moves ≡ false → list_any is_open later ≡ false → list_any is_open (moves ++ later) ≡ false
still-closed moves later first then = list_any-append is_open moves later ∙ ap (λ b. b || list_any is_open later) first ∙ then

-- what flies follows the first calls, and then the others
pub follow_moves-split : (faithful : Bool) (first later : List Move) (old new : InFlight) → FollowMoves faithful (first ++ later) old new
    → (mid : InFlight) × FollowMoves faithful first old mid × FollowMoves faithful later mid new
follow_moves-split faithful [] later old new is = (old, refl, is)
follow_moves-split faithful (move ∷ first) later old new is =
    let rest = follow_moves-split faithful first later is.0 new is.2 in
    (rest.0, (is.0, is.1, rest.1), rest.2)

-- where the last call found nothing to take, nothing flies
pub quiet-after : (faithful : Bool) (front : List Move) (old new : InFlight) → FollowMoves faithful (front ++ took_none ∷ []) old new → new.flying ≡ []
quiet-after faithful front old new is =
    let last = (follow_moves-split faithful front (took_none ∷ []) old new is).2 in
    ap (λ (held : InFlight). held.flying) last.2 ∙ last.1.1.same_flying ∙ last.1.0

-- links that were opened, and not again, keep the number
pub seed-after : (faithful : Bool) (seed most : ℕ) (moves : List Move) (old new : InFlight) → FollowMoves faithful (opened seed most ∷ moves) old new
    → list_any is_open moves ≡ false → new.seed ≡ seed
seed-after faithful seed most moves old new is closed = (as_before faithful moves is.0 new closed is.2).same_seed ∙ is.1.has_seed
