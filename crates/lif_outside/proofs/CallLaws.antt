-- Calls of which something holds, none and one after another.
use Rattle.std.specs.Prelude.{List, [], ◌∷◌, ◌++◌}
use Rattle.lif_outside.specs.declared.links.Links.{Ghosts as LinksGhosts}
use Rattle.lif_outside.specs.declared.store.Store.{Ghosts as StoreGhosts}
use Rattle.lif_outside.specs.Calls.{ByCalls, Calls, MakesBoth}
use Rattle.lif_outside.specs.Events.{Event}
use Rattle.lif_outside.specs.Moves.{Move}

module _ {S E : Type 0} {calls : List E → S → S → Type 0} where
  -- something weaker
  pub calls_weaker : {a b : S} (P Q : List E → Type 0) → ByCalls calls a b P → ((made : List E) → P made → Q made) → ByCalls calls a b Q
  calls_weaker P Q by weaker = record { made = by.made; lead = by.lead; holds = weaker by.made by.holds }

  -- calls, and then more
  pub calls_then : ((first later : List E) (a b c : S) → calls first a b → calls later b c → calls (first ++ later) a c)
      → {a b c : S} (P Q R : List E → Type 0) → ByCalls calls a b P → ByCalls calls b c Q → ((first later : List E) → P first → Q later → R (first ++ later)) → ByCalls calls a c R
  calls_then more P Q R one other join = record {
    made = one.made ++ other.made;
    lead = more one.made other.made _ _ _ one.lead other.lead;
    holds = join one.made other.made one.holds other.holds;
  }

  -- calls of which this holds
  pub calls_of : {a b : S} (P : List E → Type 0) (made : List E) → calls made a b → P made → ByCalls calls a b P
  calls_of P made lead holds = record { made = made; lead = lead; holds = holds }

-- calls on a store and on links
module _ {S L : Type 0} {g : StoreGhosts S} {k : LinksGhosts L} where
  -- something weaker
  pub both_weaker : {a b : S} {at now : L} (P Q : Calls → Type 0) → MakesBoth g k a b at now P → ((calls : Calls) → P calls → Q calls)
      → MakesBoth g k a b at now Q
  both_weaker P Q both weaker =
      record { calls = both.calls; on_store = both.on_store; on_links = both.on_links; holds = weaker both.calls both.holds }

  -- calls on the store alone, and on the links alone
  pub both_on_store : {a b : S} (at : L) → k.moves [] at at → (P : List Event → Type 0) (Q : Calls → Type 0) → ByCalls g.calls a b P
      → ((events : List Event) → P events → Q (record { on_store = events; on_links = [] })) → MakesBoth g k a b at at Q
  both_on_store at none P Q by holds =
      record { calls = record { on_store = by.made; on_links = [] }; on_store = by.lead; on_links = none; holds = holds by.made by.holds }

  pub both_on_links : {at now : L} (a : S) → g.calls [] a a → (P : List Move → Type 0) (Q : Calls → Type 0) → ByCalls k.moves at now P
      → ((moves : List Move) → P moves → Q (record { on_store = []; on_links = moves })) → MakesBoth g k a a at now Q
  both_on_links a none P Q by holds =
      record { calls = record { on_store = []; on_links = by.made }; on_store = none; on_links = by.lead; holds = holds by.made by.holds }

  -- calls on both, and then more
  pub both_then : ((first later : List Event) (a b c : S) → g.calls first a b → g.calls later b c → g.calls (first ++ later) a c)
      → ((first later : List Move) (a b c : L) → k.moves first a b → k.moves later b c → k.moves (first ++ later) a c)
      → {a b c : S} {at mid now : L} (P Q R : Calls → Type 0) → MakesBoth g k a b at mid P → MakesBoth g k b c mid now Q
      → ((first later : Calls) → P first → Q later → R (record { on_store = first.on_store ++ later.on_store; on_links = first.on_links ++ later.on_links }))
      → MakesBoth g k a c at now R
  both_then more_calls more_moves P Q R one other join = record {
    calls = record {
      on_store = one.calls.on_store ++ other.calls.on_store;
      on_links = one.calls.on_links ++ other.calls.on_links;
    };
    on_store = more_calls one.calls.on_store other.calls.on_store _ _ _ one.on_store other.on_store;
    on_links = more_moves one.calls.on_links other.calls.on_links _ _ _ one.on_links other.on_links;
    holds = join one.calls other.calls one.holds other.holds;
  }

  -- calls on the store, and then on both
  pub both_behind : ((first later : List Event) (a b c : S) → g.calls first a b → g.calls later b c → g.calls (first ++ later) a c)
      → {a b c : S} {at now : L} (P : List Event → Type 0) (Q R : Calls → Type 0) → ByCalls g.calls a b P → MakesBoth g k b c at now Q
      → ((first : List Event) (calls : Calls) → P first → Q calls → R (record { on_store = first ++ calls.on_store; on_links = calls.on_links }))
      → MakesBoth g k a c at now R
  both_behind more P Q R one other join = record {
    calls = record { on_store = one.made ++ other.calls.on_store; on_links = other.calls.on_links };
    on_store = more one.made other.calls.on_store _ _ _ one.lead other.on_store;
    on_links = other.on_links;
    holds = join one.made other.calls one.holds other.holds;
  }

  -- a call on the links, and then calls on both
  pub both_behind_move : ((first later : List Move) (a b c : L) → k.moves first a b → k.moves later b c → k.moves (first ++ later) a c)
      → {a b : S} {at mid now : L} (P Q : Calls → Type 0) (move : Move) → k.moves (move ∷ []) at mid → MakesBoth g k a b mid now P
      → ((calls : Calls) → P calls → Q (record { on_store = calls.on_store; on_links = move ∷ calls.on_links })) → MakesBoth g k a b at now Q
  both_behind_move more P Q move one other join = record {
    calls = record { on_store = other.calls.on_store; on_links = move ∷ other.calls.on_links };
    on_store = other.on_store;
    on_links = more (move ∷ []) other.calls.on_links _ _ _ one other.on_links;
    holds = join other.calls other.holds;
  }
