-- Calls on links with their answers, and what they do to the pairs that fly.
use Rattle.std.specs.Prelude.{◌≡◌, ◌⊎◌, ◌≤◌, ◌<◌, ℕ, List, [], ◌∷◌, Option, Some, None, Result, Ok, Err, take, Bool, true, false, Contains, IsPermutation}
use Rattle.std.specs.declared.alloc.AllocError.{AllocError}
use Rattle.lif_outside.specs.declared.Failed.{Failed}
use Rattle.lif_outside.specs.declared.links.Flight.{Flight}

-- A call on links, with its answer.
pub data Move : Type 0 where
  opened : (seed : ℕ) → (most : ℕ) → Move
  open_refused : (seed : ℕ) → (most : ℕ) → Move
  put : (pair : Flight) → Move
  put_failed : (pair : Flight) → Move
  took : (flight : Flight) → Move
  took_none : Move
  take_failed : Move

-- the move of a call by its answer
abbrev pub open_move : ℕ → ℕ → Result Unit AllocError → Move
open_move seed most (Ok done) = opened seed most
open_move seed most (Err why) = open_refused seed most

abbrev pub put_move : ℕ → List ℕ → Result Unit Failed → Move
put_move link frame (Ok done) = put (record { link = link; frame = frame })
put_move link frame (Err why) = put_failed (record { link = link; frame = frame })

abbrev pub take_move : Result (Option Flight) Failed → Move
take_move (Ok (Some flight)) = took flight
take_move (Ok None) = took_none
take_move (Err why) = take_failed

-- a put or a take that failed
abbrev pub is_fault : Move → Bool
is_fault (put_failed pair) = true
is_fault take_failed = true
is_fault move = false

-- a call that opens
abbrev pub is_open : Move → Bool
is_open (opened seed most) = true
is_open (open_refused seed most) = true
is_open move = false

-- the pairs put, and those that a take gave
abbrev pub pairs_put : List Move → List Flight
pairs_put [] = []
pairs_put (put pair ∷ moves) = pair ∷ pairs_put moves
pairs_put (move ∷ moves) = pairs_put moves

abbrev pub flights_given : List Move → List Flight
flights_given [] = []
flights_given (took flight ∷ moves) = flight ∷ flights_given moves
flights_given (move ∷ moves) = flights_given moves

-- The pairs that fly, how many may, the number that the links were opened with, and how often a pair may still be
-- given and kept.
pub record InFlight : Type 0 where
  pub flying : List Flight
  pub room : ℕ
  pub seed : ℕ
  pub repeats : ℕ

-- how many bytes at the front of a frame say whose it is: links never change them
abbrev pub address_bytes : ℕ
address_bytes = 12

-- the links were opened: they have the room that was asked for, the number given, and nothing flies
pub record IsOpened (seed most : ℕ) (new : InFlight) : Type 0 where
  pub nothing_flies : new.flying ≡ []
  pub has_room : most ≤ new.room
  pub has_seed : new.seed ≡ seed

-- the room and the number stay
pub record IsOpenAsBefore (old new : InFlight) : Type 0 where
  pub same_room : new.room ≡ old.room
  pub same_seed : new.seed ≡ old.seed

-- a pair flies besides what flew
pub record IsPut (pair : Flight) (old new : InFlight) : Type 0 where
  pub flying : IsPermutation (pair ∷ old.flying) new.flying
  pub same_repeats : new.repeats ≡ old.repeats
  pub as_opened : IsOpenAsBefore old new

-- a flying pair leaves, or all that flies stays and one repeat is used up
pub record Leaves (pair : Flight) (old new : InFlight) : Type 0 where
  pub flying : IsPermutation old.flying (pair ∷ new.flying)
  pub repeats : new.repeats ≤ old.repeats

pub record Stays (old new : InFlight) : Type 0 where
  pub same_flying : new.flying ≡ old.flying
  pub repeats : new.repeats < old.repeats

-- A flying pair was given, with its link and the front of its frame, and by faithful links as it was put.
pub record IsTaken (faithful : Bool) (flight : Flight) (old new : InFlight) : Type 0 where
  pub pair : Flight
  pub flew : Contains old.flying pair
  pub same_link : flight.link ≡ pair.link
  pub same_address : take address_bytes flight.frame ≡ take address_bytes pair.frame
  pub as_put : faithful ≡ true → flight ≡ pair
  pub after : Leaves pair old new ⊎ Stays old new
  pub as_opened : IsOpenAsBefore old new

-- nothing was taken: what flies stays, and no repeats are added
pub record IsUntaken (old new : InFlight) : Type 0 where
  pub same_flying : new.flying ≡ old.flying
  pub repeats : new.repeats ≤ old.repeats
  pub as_opened : IsOpenAsBefore old new

-- What a call does to what flies. Nothing is taken exactly where nothing flies.
abbrev pub Moves : Bool → Move → InFlight → InFlight → Type 0
Moves faithful (opened seed most) old new = IsOpened seed most new
Moves faithful (open_refused seed most) old new = new ≡ old
Moves faithful (put pair) old new = IsPut pair old new
Moves faithful (put_failed pair) old new = new ≡ old
Moves faithful (took flight) old new = IsTaken faithful flight old new
Moves faithful took_none old new = (old.flying ≡ []) × IsUntaken old new
Moves faithful take_failed old new = IsUntaken old new

-- what flies follows these calls, one after another
abbrev pub FollowMoves : Bool → List Move → InFlight → InFlight → Type 0
FollowMoves faithful [] old new = new ≡ old
FollowMoves faithful (move ∷ moves) old new =
    (mid : InFlight) × Moves faithful move old mid × FollowMoves faithful moves mid new
