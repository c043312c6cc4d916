-- An item under conditions is the item without, and then the conditions.
use Rattle.std.proofs.Common.{◌≡◌, ℕ, ◌+◌, Bool, true, false, not, ◌||◌, cond, ltb, List, [], ◌∷◌, length, take, drop, slice_index, Ok, Err, refl}
use Rattle.std.specs.Int.{w16, w32, from_be_bytes}
use Rattle.gf_tables.specs.declared.kind.FieldKind.{FieldKind}
use Rattle.gf_tables.specs.Product.{width_of}
use Rattle.gf_tables.specs.declared.kind.Width.{Width}
use Rattle.gf_tables.specs.declared.kind.Width.TheVariants.{One, Two}
use Rattle.net_model.specs.Name.{is_name}
use Rattle.code_items.specs.declared.refusal.CodeRefusal.TheVariants.{BadName, Truncated}
use Rattle.code_items.specs.Reading.{Rest, Reading, ◌>>=◌, refused_first, item, byte_at, number_at, long_at, width_at, element_at, name_at, Conditions}

-- by whether the bytes are all there
item_by : (b : Bool) (at : ℕ) (x : List ℕ × Rest) (conditions : List ℕ → Conditions)
    → cond b (Err (Truncated at)) (refused_first (conditions x.0) x) ≡ (cond b (Err (Truncated at)) (Ok x) >>= λ it. refused_first (conditions it.0) it)
item_by true at x conditions = refl
item_by false at x conditions = refl

-- an item
pub item_checked : (size : ℕ) (rest : Rest) (conditions : List ℕ → Conditions) → item size rest conditions ≡ (item size rest (λ _. []) >>= λ it. refused_first (conditions it.0) it)
unfolding item
item_checked size rest conditions =
    item_by (ltb (length rest.bytes) size) rest.at (take size rest.bytes, record { at = rest.at + size; bytes = drop size rest.bytes }) conditions

-- what is made of an item
abbrev seen : {X Y : Type 0} → (X × Rest → Y) → X × Rest → Reading Y
seen f x = Ok (f x, x.1)

-- what is made of an item doesn't matter for its conditions
made : {X Y : Type 0} (conditions : Conditions) (f : X × Rest → Y) (x : X × Rest) → (refused_first conditions x >>= seen f) ≡ refused_first conditions (f x, x.1)
made [] f x = refl
made {Y = Y} (condition ∷ conditions) f x =
    elim condition.0 as (λ (b : Bool). (cond b (Err condition.1) (refused_first conditions x) >>= seen f) ≡ cond b (Err condition.1) (refused_first conditions (f x, x.1))) [ true ↦ refl | false ↦ made conditions f x ]

-- so it may be made before or after the conditions
made_of : {X Y : Type 0} (it : Reading X) (f : X × Rest → Y) (conditions : Y → Conditions)
    → ((it >>= λ x. refused_first (conditions (f x)) x) >>= seen f) ≡ ((it >>= seen f) >>= λ y. refused_first (conditions y.0) y)
made_of (Ok x) f conditions = made (conditions (f x)) f x
made_of (Err refusal) f conditions = refl

-- a number of one byte
pub byte_checked : (rest : Rest) (conditions : ℕ → Conditions) → byte_at rest conditions ≡ (byte_at rest (λ _. []) >>= λ n. refused_first (conditions n.0) n)
unfolding byte_at
byte_checked rest conditions =
    rw (item_checked 1 rest (λ bytes. conditions (slice_index bytes 0))) (made_of (item 1 rest (λ _. [])) (λ it. slice_index it.0 0) conditions)

-- of two
pub number_checked : (rest : Rest) (conditions : ℕ → Conditions) → number_at rest conditions ≡ (number_at rest (λ _. []) >>= λ n. refused_first (conditions n.0) n)
unfolding number_at
number_checked rest conditions =
    rw (item_checked 2 rest (λ bytes. conditions (from_be_bytes w16 bytes))) (made_of (item 2 rest (λ _. [])) (λ it. from_be_bytes w16 it.0) conditions)

-- of four
pub long_checked : (rest : Rest) (conditions : ℕ → Conditions) → long_at rest conditions ≡ (long_at rest (λ _. []) >>= λ n. refused_first (conditions n.0) n)
unfolding long_at
long_checked rest conditions =
    rw (item_checked 4 rest (λ bytes. conditions (from_be_bytes w32 bytes))) (made_of (item 4 rest (λ _. [])) (λ it. from_be_bytes w32 it.0) conditions)

-- of a width
width_checked : (width : Width) (rest : Rest) (conditions : ℕ → Conditions) → width_at width rest conditions ≡ (width_at width rest (λ _. []) >>= λ n. refused_first (conditions n.0) n)
width_checked One rest conditions = byte_checked rest conditions
width_checked Two rest conditions = number_checked rest conditions

-- the number of an element
pub element_checked : (field : FieldKind) (rest : Rest) (conditions : ℕ → Conditions) → element_at field rest conditions ≡ (element_at field rest (λ _. []) >>= λ n. refused_first (conditions n.0) n)
element_checked field = width_checked (width_of field)

-- the bytes of a name
abbrev name_in : List ℕ × Rest → List ℕ
name_in it = drop 1 it.0

-- by whether the item is refused
name_plain_by : (it : Reading (List ℕ)) (at : ℕ)
    → ((it >>= λ x. refused_first ((not (is_name (name_in x)) || false, BadName at) ∷ []) x) >>= seen name_in)
    ≡ (it >>= λ x. refused_first ((not (is_name (name_in x)), BadName at) ∷ []) (name_in x, x.1))
name_plain_by (Err refusal) at = refl
name_plain_by (Ok x) at =
    elim (is_name (name_in x)) as (λ b. (refused_first ((not b || false, BadName at) ∷ []) x >>= seen name_in) ≡ refused_first ((not b, BadName at) ∷ []) (name_in x, x.1)) [ true ↦ refl | false ↦ refl ]

-- a name is its item, if its bytes are a name
pub name_plain : (rest : Rest) → name_at rest (λ _. false) ≡ (item (1 + slice_index rest.bytes 0) rest (λ _. []) >>= λ x. refused_first ((not (is_name (drop 1 x.0)), BadName rest.at) ∷ []) (drop 1 x.0, x.1))
unfolding name_at
name_plain rest =
    rw (item_checked (1 + slice_index rest.bytes 0) rest (λ bytes. (not (is_name (drop 1 bytes)) || false, BadName rest.at) ∷ [])) (name_plain_by (item (1 + slice_index rest.bytes 0) rest (λ _. [])) rest.at)

-- a name that is bad for a further reason
name_by : (it : Reading (List ℕ)) (at : ℕ) (is_bad : List ℕ → Bool)
    → ((it >>= λ x. refused_first ((not (is_name (name_in x)) || is_bad (name_in x), BadName at) ∷ []) x) >>= seen name_in)
    ≡ (((it >>= λ x. refused_first ((not (is_name (name_in x)) || false, BadName at) ∷ []) x) >>= seen name_in) >>= λ name. refused_first ((is_bad name.0, BadName at) ∷ []) name)
name_by (Err refusal) at is_bad = refl
name_by (Ok x) at is_bad =
    elim (is_name (name_in x)) as (λ b. (refused_first ((not b || is_bad (name_in x), BadName at) ∷ []) x >>= seen name_in)
    ≡ ((refused_first ((not b || false, BadName at) ∷ []) x >>= seen name_in) >>= λ name. refused_first ((is_bad name.0, BadName at) ∷ []) name)) [ true ↦ made ((is_bad (name_in x), BadName at) ∷ []) name_in x | false ↦ refl ]

-- and with a further condition
pub name_checked : (rest : Rest) (is_bad : List ℕ → Bool) → name_at rest is_bad ≡ (name_at rest (λ _. false) >>= λ name. refused_first ((is_bad name.0, BadName rest.at) ∷ []) name)
unfolding name_at
name_checked rest is_bad =
    rw (item_checked (1 + slice_index rest.bytes 0) rest (λ bytes. (not (is_name (drop 1 bytes)) || is_bad (drop 1 bytes), BadName rest.at) ∷ []), item_checked (1 + slice_index rest.bytes 0) rest (λ bytes. (not (is_name (drop 1 bytes)) || false, BadName rest.at) ∷ []))
    (name_by (item (1 + slice_index rest.bytes 0) rest (λ _. [])) rest.at is_bad)
