-- The words that the program is called with.
use Rattle.std.specs.Prelude.{ℕ, ◌+◌, Bool, ◌&&◌, nat_le, if◌then◌else◌, List, [], ◌∷◌, Option, Some, None, codes}
use Rattle.std.specs.Option.{option_map}
use Rattle.std.specs.Str.{bytes_eq}
use Rattle.net_maker.specs.Fits.{fits}
use Rattle.net_model.specs.Limits.{highest_rate}
use Rattle.net_reader.specs.Digits.{number_of}

-- what a command `compile` is given
pub record Compile : Type 0 where
  pub net : List ℕ
  pub code : List ℕ
  pub report : List ℕ

-- what a command `migrate` is given
pub record Migrate : Type 0 where
  pub old : List ℕ
  pub new : List ℕ

-- what a command `finish` is given
pub record Finish : Type 0 where
  pub draft : List ℕ
  pub code : List ℕ

-- what a command `twin` is given: a network, the name of the node of a second source, the rates of both, and what is written
pub record Twin : Type 0 where
  pub net : List ℕ
  pub second : List ℕ
  pub r1 : ℕ
  pub r2 : ℕ
  pub code : List ℕ
  pub report : List ℕ

-- what a command `relay` or `sink` is given: a code, a pattern, a node, and what is read and written
pub record AtNode : Type 0 where
  pub code : List ℕ
  pub pattern : List ℕ
  pub node : List ℕ
  pub input : List ℕ
  pub output : List ℕ

-- what a command `blind` is given: a code, a source, what the paths of the sinks' files begin with, and the links that fail
pub record Blind : Type 0 where
  pub code : List ℕ
  pub source : List ℕ
  pub prefix : List ℕ
  pub links : List (List ℕ)

-- what a command `send` is given
pub record Send : Type 0 where
  pub code : List ℕ
  pub pattern : List ℕ
  pub seed : ℕ
  pub source : List ℕ
  pub prefix : List ℕ

-- what a command `sendtwo` is given: the rate of the first source is any number
pub record SendTwo : Type 0 where
  pub code : List ℕ
  pub pattern : List ℕ
  pub seed : ℕ
  pub first_rate : ℕ
  pub first : List ℕ
  pub second : List ℕ
  pub prefix : List ℕ

-- the greatest length of a source that is sent
abbrev pub source_limit : ℕ
source_limit = 1099511627776

-- the greatest length of a source that is made
abbrev pub demo_limit : ℕ
demo_limit = 67108864

-- what a command `demo` is given: the network that is made, and the length of its source
pub record Demo : Type 0 where
  pub n : ℕ
  pub k : ℕ
  pub bytes : ℕ

-- A command with what it is given.
pub data Command : Type 0 where
  order : (net : List ℕ) → Command
  cuts : (net : List ℕ) → Command
  compile : (given : Compile) → Command
  check : (code : List ℕ) → Command
  send : (given : Send) → Command
  demo : (given : Demo) → Command
  migrate : (given : Migrate) → Command
  relay : (given : AtNode) → Command
  sink : (given : AtNode) → Command
  blind : (given : Blind) → Command
  finish : (given : Finish) → Command
  twin : (given : Twin) → Command
  send_two : (given : SendTwo) → Command

-- `order NET`
abbrev pub order_of : List (List ℕ) → Option Command
order_of (net ∷ []) = Some (order net)
order_of _ = None

-- `cuts NET`
abbrev pub cuts_of : List (List ℕ) → Option Command
cuts_of (net ∷ []) = Some (cuts net)
cuts_of _ = None

-- `compile NET CODE REPORT`
abbrev pub compile_of : List (List ℕ) → Option Command
compile_of (net ∷ code ∷ report ∷ []) = Some (compile (record { net = net; code = code; report = report }))
compile_of _ = None

-- `check CODE`
abbrev pub check_of : List (List ℕ) → Option Command
check_of (code ∷ []) = Some (check code)
check_of _ = None

-- `send CODE PATTERN SEED SRC PREFIX`
abbrev pub send_of : List (List ℕ) → Option Command
send_of (code ∷ pattern ∷ seed ∷ source ∷ prefix ∷ []) =
    option_map (λ number. send (record { code = code; pattern = pattern; seed = number; source = source; prefix = prefix })) (number_of seed)
send_of _ = None

-- `demo N K BYTES`, where the network is one that is made, and the source within its limit
abbrev pub demo_with : Option ℕ → Option ℕ → Option ℕ → Option Command
demo_with (Some n) (Some k) (Some bytes) =
    if fits n k && nat_le bytes demo_limit then Some (demo (record { n = n; k = k; bytes = bytes })) else None
demo_with _ _ _ = None

abbrev pub demo_of : List (List ℕ) → Option Command
demo_of (n ∷ k ∷ bytes ∷ []) = demo_with (number_of n) (number_of k) (number_of bytes)
demo_of _ = None

-- `migrate OLD NEW`
abbrev pub migrate_of : List (List ℕ) → Option Command
migrate_of (old ∷ new ∷ []) = Some (migrate (record { old = old; new = new }))
migrate_of _ = None

-- `relay CODE PATTERN NODE IN OUT`
abbrev pub relay_of : List (List ℕ) → Option Command
relay_of (code ∷ pattern ∷ node ∷ input ∷ output ∷ []) =
    Some (relay (record { code = code; pattern = pattern; node = node; input = input; output = output }))
relay_of _ = None

-- `sink CODE PATTERN SINK IN DST`
abbrev pub sink_of : List (List ℕ) → Option Command
sink_of (code ∷ pattern ∷ node ∷ input ∷ output ∷ []) =
    Some (sink (record { code = code; pattern = pattern; node = node; input = input; output = output }))
sink_of _ = None

-- `blind CODE SRC PREFIX LINK`, with any number of links
abbrev pub blind_of : List (List ℕ) → Option Command
blind_of (code ∷ source ∷ prefix ∷ links) =
    Some (blind (record { code = code; source = source; prefix = prefix; links = links }))
blind_of _ = None

-- `finish DRAFT CODE`
abbrev pub finish_of : List (List ℕ) → Option Command
finish_of (draft ∷ code ∷ []) = Some (finish (record { draft = draft; code = code }))
finish_of _ = None

-- `twin NET SECOND R1 R2 CODE REPORT`, where both rates are at least 1, and together at most the highest rate
abbrev pub are_rates : ℕ → ℕ → Bool
are_rates r1 r2 = nat_le 1 r1 && nat_le 1 r2 && nat_le (r1 + r2) highest_rate

abbrev pub twin_with : List ℕ → List ℕ → Option ℕ → Option ℕ → List ℕ → List ℕ → Option Command
twin_with net second (Some r1) (Some r2) code report =
    if are_rates r1 r2 then Some (twin (record { net = net; second = second; r1 = r1; r2 = r2; code = code; report = report })) else None
twin_with net second _ _ code report = None

abbrev pub twin_of : List (List ℕ) → Option Command
twin_of (net ∷ second ∷ r1 ∷ r2 ∷ code ∷ report ∷ []) = twin_with net second (number_of r1) (number_of r2) code report
twin_of _ = None

-- `sendtwo CODE PATTERN SEED R1 SRC1 SRC2 PREFIX`
abbrev pub send_two_with : List ℕ → List ℕ → Option ℕ → Option ℕ → List ℕ → List ℕ → List ℕ → Option Command
send_two_with code pattern (Some seed) (Some first_rate) first second prefix =
    Some (send_two (record { code = code; pattern = pattern; seed = seed; first_rate = first_rate; first = first; second = second; prefix = prefix }))
send_two_with code pattern _ _ first second prefix = None

abbrev pub send_two_of : List (List ℕ) → Option Command
send_two_of (code ∷ pattern ∷ seed ∷ first_rate ∷ first ∷ second ∷ prefix ∷ []) =
    send_two_with code pattern (number_of seed) (number_of first_rate) first second prefix
send_two_of _ = None

-- the command that words are
abbrev pub command_of : List (List ℕ) → Option Command
command_of [] = None
command_of (name ∷ given) =
    if bytes_eq name (codes "order") then order_of given
    else if bytes_eq name (codes "cuts") then cuts_of given
    else if bytes_eq name (codes "compile") then compile_of given
    else if bytes_eq name (codes "check") then check_of given
    else if bytes_eq name (codes "send") then send_of given
    else if bytes_eq name (codes "demo") then demo_of given
    else if bytes_eq name (codes "migrate") then migrate_of given
    else if bytes_eq name (codes "relay") then relay_of given
    else if bytes_eq name (codes "sink") then sink_of given
    else if bytes_eq name (codes "blind") then blind_of given
    else if bytes_eq name (codes "finish") then finish_of given
    else if bytes_eq name (codes "twin") then twin_of given
    else if bytes_eq name (codes "sendtwo") then send_two_of given
    else None
