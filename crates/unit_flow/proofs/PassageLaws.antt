-- Laws of the states of links: each link is free, used or failed, and may be passed as its state says.
use Rattle.std.specs.Prelude.{◌≡◌, ◌<◌, ℕ, Bool, true, false, ◌&&◌, ◌==◌, cond, List, length, slice_get, Option, Some, None}
use Rattle.std.specs.Option.{option_map_or}
use Rattle.std.proofs.Common.{refl, inl, inr, ◌⊎◌}
use Rattle.std.proofs.lemmas.Bool.{and_parts, eqb-true, eq-eqb}
use Rattle.std.proofs.lemmas.Option.{slice_get_within, slice_get-get_or}
use Rattle.net_model.specs.Walks.{head_of, tail_of}
use Rattle.net_model.specs.declared.Link.{Link}
use Rattle.unit_flow.specs.Residual.{is_free_state, is_used_state, is_failed_state, is_free, is_used, is_failed, passage}
use Rattle.unit_flow.specs.declared.residual.LinkState.{LinkState}
use Rattle.unit_flow.specs.declared.residual.LinkState.TheVariants.{Free, Used, Failed}

-- a free link isn't used and didn't fail
pub free_alone : (states : List LinkState) (link : ℕ) → is_free states link ≡ true → (is_used states link ≡ false) × (is_failed states link ≡ false)
free_alone states link = at (slice_get states link)
  where
    at : (state : Option LinkState) → option_map_or is_free_state state false ≡ true → (option_map_or is_used_state state false ≡ false) × (option_map_or is_failed_state state false ≡ false)
    at None free = cc
    at (Some Free) free = (refl, refl)
    at (Some Used) free = cc
    at (Some Failed) free = cc

-- a used link isn't free and didn't fail
pub used_alone : (states : List LinkState) (link : ℕ) → is_used states link ≡ true → (is_free states link ≡ false) × (is_failed states link ≡ false)
used_alone states link = at (slice_get states link)
  where
    at : (state : Option LinkState) → option_map_or is_used_state state false ≡ true → (option_map_or is_free_state state false ≡ false) × (option_map_or is_failed_state state false ≡ false)
    at None used = cc
    at (Some Free) used = cc
    at (Some Used) used = (refl, refl)
    at (Some Failed) used = cc

-- a link that didn't fail is free or used
pub free_or_used : (states : List LinkState) (link : ℕ) → link < length states → is_failed states link ≡ false → (is_free states link ≡ true) ⊎ (is_used states link ≡ true)
free_or_used states link within = at (slice_get states link) (slice_get-get_or states link Free within)
  where
    at : {x : LinkState} (state : Option LinkState) → state ≡ Some x → option_map_or is_failed_state state false ≡ false
        → (option_map_or is_free_state state false ≡ true) ⊎ (option_map_or is_used_state state false ≡ true)
    at None some working = cc
    at (Some Free) some working = inl refl
    at (Some Used) some working = inr refl
    at (Some Failed) some working = cc

-- only a link of the network is used
pub is_used-within : (states : List LinkState) (link : ℕ) → is_used states link ≡ true → link < length states
is_used-within states link = at (slice_get states link) refl
  where
    at : (state : Option LinkState) → slice_get states link ≡ state → option_map_or is_used_state state false ≡ true → link < length states
    at None is used = cc
    at (Some state) is used = slice_get_within states link state is

-- a free link leads from its tail to its head
pub passage-free : (links : List Link) (states : List LinkState) (link : ℕ) → is_free states link ≡ true → passage links states link (tail_of links link) ≡ Some (head_of links link)
passage-free links states link free = rw (free, eq-eqb (tail_of links link) (tail_of links link) refl) refl

-- a used one from its head to its tail
pub passage-used : (links : List Link) (states : List LinkState) (link : ℕ) → is_used states link ≡ true → passage links states link (head_of links link) ≡ Some (tail_of links link)
passage-used links states link used = rw ((used_alone states link used).0, used, eq-eqb (head_of links link) (head_of links link) refl) refl

-- and there is no other passage
pub passage_cases : (links : List Link) (states : List LinkState) (link from next : ℕ) → passage links states link from ≡ Some next
    → ((is_free states link ≡ true) × (from ≡ tail_of links link) × (next ≡ head_of links link)) ⊎ ((is_used states link ≡ true) × (from ≡ head_of links link) × (next ≡ tail_of links link))
passage_cases links states link from next = at (is_free states link && (from == tail_of links link)) (is_used states link && (from == head_of links link)) refl refl
  where
    at : (forward back : Bool) → (is_free states link && (from == tail_of links link)) ≡ forward → (is_used states link && (from == head_of links link)) ≡ back
        → cond forward (Some (head_of links link)) (cond back (Some (tail_of links link)) None) ≡ Some next
        → ((is_free states link ≡ true) × (from ≡ tail_of links link) × (next ≡ head_of links link)) ⊎ ((is_used states link ≡ true) × (from ≡ head_of links link) × (next ≡ tail_of links link))
    at true back is other leads = let parts = and_parts _ _ is in inl (parts.0, eqb-true _ _ parts.1, cc)
    at false true other is leads = let parts = and_parts _ _ is in inr (parts.0, eqb-true _ _ parts.1, cc)
    at false false other is leads = cc
