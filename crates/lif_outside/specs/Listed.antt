-- Links in memory that give what flies as lists say, and fail where they are told to.
use Rattle.std.specs.Prelude.{◌≡◌, ◌<◌, ◌==◌, ◌&&◌, ◌+◌, ◌-◌, ◌^◌, ℕ, nat_lt, List, Option, Some, Bool, length, count_by, slice_get, remove, if◌then◌else◌}
use Rattle.std.specs.List.{list_any}
use Rattle.std.specs.Vec.{vec_len, vec_capacity}
use Rattle.lif_outside.specs.Counts.{one_more}
use Rattle.lif_outside.specs.LinksAccounts.{LinksAccounts}
use Rattle.lif_outside.specs.Moves.{InFlight, Move}
use Rattle.lif_outside.specs.Picks.{place_of}
use Rattle.lif_outside.specs.Spoils.{spoiled}
use Rattle.lif_outside.specs.declared.links.Flight.{Flight}
use Rattle.lif_outside.specs.declared.listed.ListLinks.{ListLinks}
use Rattle.lif_outside.specs.declared.listed.spoils.Spoil.{Spoil}

-- how many numbers of a list are above one
abbrev pub count_above : ℕ → List ℕ → ℕ
count_above least numbers = count_by (nat_lt least) numbers

-- what flies on the links: a pair is kept by each listed take that is still to come
abbrev pub held_in : ListLinks → InFlight
held_in links = record {
  flying = links.flying.items;
  room = links.room;
  seed = links.seed;
  repeats = count_above links.takes links.keeps.items;
}

-- all pairs put, and all that were given
abbrev pub sent_in : ListLinks → Option (List Flight)
sent_in links = Some links.sent.items

abbrev pub given_in : ListLinks → Option (List Flight)
given_in links = Some links.given.items

-- how many calls have failed
abbrev pub faults_in : ListLinks → ℕ
faults_in links = links.faults

-- the places that the takes pick, the takes that keep what they give, and those that change it
abbrev pub picks_in : ListLinks → List ℕ
picks_in links = links.picks.items

abbrev pub keeps_in : ListLinks → List ℕ
keeps_in links = links.keeps.items

abbrev pub spoils_in : ListLinks → List Spoil
spoils_in links = links.spoils.items

-- they are faithful where no take changes what it gives
abbrev pub faithful_ones : ListLinks → Bool
faithful_ones links = length (spoils_in links) == 0

-- the puts and the takes that are to fail
abbrev pub put_fails_in : ListLinks → List ℕ
put_fails_in links = links.put_fails.items

abbrev pub take_fails_in : ListLinks → List ℕ
take_fails_in links = links.take_fails.items

-- how many puts there were, and how many takes
abbrev pub puts_in : ListLinks → ℕ
puts_in links = links.puts

abbrev pub takes_in : ListLinks → ℕ
takes_in links = links.takes

-- calls lead from one state to another where they account for it
abbrev pub moves_in : List Move → ListLinks → ListLinks → Type 0
moves_in moves old new =
    LinksAccounts held_in faithful_ones faults_in sent_in given_in moves old new

-- the list of the pairs put has room for one more, and that of the pairs given
abbrev pub has_room_to_tell_put : ListLinks → Type 0
has_room_to_tell_put links = vec_len links.sent < vec_capacity links.sent

abbrev pub has_room_to_tell_take : ListLinks → Type 0
has_room_to_tell_take links = vec_len links.given < vec_capacity links.given

-- what the lists say stays
pub record SameLists (old new : ListLinks) : Type 0 where
  pub picks : picks_in new ≡ picks_in old
  pub keeps : keeps_in new ≡ keeps_in old
  pub spoils : spoils_in new ≡ spoils_in old
  pub put_fails : put_fails_in new ≡ put_fails_in old
  pub take_fails : take_fails_in new ≡ take_fails_in old

-- a put was counted, or a take, or neither
pub record CountsPut (old new : ListLinks) : Type 0 where
  pub puts : puts_in new ≡ one_more (puts_in old)
  pub takes : takes_in new ≡ takes_in old
  pub lists : SameLists old new

pub record CountsTake (old new : ListLinks) : Type 0 where
  pub puts : puts_in new ≡ puts_in old
  pub takes : takes_in new ≡ one_more (takes_in old)
  pub lists : SameLists old new

pub record CountsNothing (old new : ListLinks) : Type 0 where
  pub puts : puts_in new ≡ puts_in old
  pub takes : takes_in new ≡ takes_in old
  pub lists : SameLists old new

-- the take that comes is listed to keep the pair that it gives
abbrev pub keeps_next : ListLinks → Bool
keeps_next links =
    nat_lt (takes_in links) (2 ^ 64 - 1) && list_any (λ nth. nth == takes_in links + 1) (keeps_in links)

-- the place of the pair that the take that comes gives
abbrev pub place_to_take : ListLinks → ℕ
place_to_take links = place_of (picks_in links) (takes_in links) (length (held_in links).flying)

-- The pair at the place that the list says was given, with those bytes of its payload changed that are listed. It stays
-- where the take is listed for that, and else leaves, and the others keep their order.
pub record IsListed (flight : Flight) (old new : ListLinks) : Type 0 where
  pub pair : Flight
  pub flew : slice_get (held_in old).flying (place_to_take old) ≡ Some pair
  pub same_link : flight.link ≡ pair.link
  pub frame : flight.frame ≡ spoiled (spoils_in old) (one_more (takes_in old)) pair.frame
  pub after : (held_in new).flying
      ≡ (if keeps_next old then (held_in old).flying else remove (held_in old).flying (place_to_take old))
