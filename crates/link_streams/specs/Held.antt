-- How a stream lies in memory: the packets in the order in which they came, and for each place that came the number of its packet.
use Rattle.std.specs.Prelude.{◌≡◌, ◌<◌, ℕ, All, Contains, List, [], ◌∷◌, get_or, if◌then◌else◌, length, nat_lt, Option, None, Some}
use Rattle.std.specs.BTreeMap.{is_at}
use Rattle.std.specs.Map.{lookup}
use Rattle.std.specs.Option.{IsSome}
use Rattle.std.specs.Ordering.{nat_cmp}
use Rattle.generation_frame.specs.Frames.{Fits}
use Rattle.generation_frame.specs.declared.frame.Packet.{Packet}
use Rattle.link_streams.specs.Streams.{generation_count, place_of, put_in}

-- packets with others put in, one after another
abbrev pub put_all : List Packet → List Packet → List Packet
put_all held [] = held
put_all held (packet ∷ packets) = put_all (put_in packet held) packets

-- packets that came, by rising place
abbrev pub packets_held : List Packet → List Packet
packets_held packets = put_all [] packets

-- the number of the packet of a place, by a table of the early places and a map of the others
abbrev pub number_at : List (Option ℕ) → List (ℕ × ℕ) → ℕ → Option ℕ
number_at early late place = if nat_lt place (length early) then get_or early place None else lookup (is_at (nat_cmp place)) late

-- a number is that of a packet of a place
abbrev pub IsNumberOf : List Packet → ℕ → ℕ → Type 0
IsNumberOf packets place number = (number < length packets) × ((d : Packet) → place_of (get_or packets number d) ≡ place)

-- packets of a link came, each place once, with their numbers and how many generations they have
pub record AreHeld (link : ℕ) (packets : List Packet) (early : List (Option ℕ)) (late : List (ℕ × ℕ)) (generations : ℕ) : Type 0 where
  pub fit : All Fits packets
  pub of_link : All (λ packet. packet.link ≡ link) packets
  pub held : All (Contains (packets_held packets)) packets
  pub found : All (λ packet. IsSome (number_at early late (place_of packet))) packets
  pub numbers : (place number : ℕ) → number_at early late place ≡ Some number → IsNumberOf packets place number
  pub counted : generations ≡ generation_count (packets_held packets)
