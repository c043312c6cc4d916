-- Maps from paths, after a handle was set or taken.
use Rattle.std.proofs.Common.{◌≡◌, ◌≢◌, ◌⊎◌, ℕ, List, Bool, true, false, cond, ◌∙◌, sym, subst, inl, inr, refl, string_bytes}
use Rattle.std.specs.Prelude.{Option, Some, None, Result, Ok, Err, OnOk, OnErr, IfOk, IfSome, IfNone}
use Rattle.std.specs.HashMap.{HashMap, UpdatesBy, Updates, IsUnchanged, get_by_text}
use Rattle.std.specs.Str.{bytes_eq}
use Rattle.std.specs.String.{string_eq}
use Rattle.std.specs.declared.string.String.{String}
use Rattle.std.proofs.lemmas.Bool.{cond-false, false_from_ne_true}
use Rattle.std.proofs.lemmas.Map.Text.{hash_map_updates_text}
use Rattle.std.proofs.lemmas.Slice.Eq.{bytes_eq-Decides}

-- as it was, or none
abbrev pub SameOrNone : {X : Type 0} → Option X → Option X → Type 0
SameOrNone old new = (new ≡ old) ⊎ (new ≡ None)

pub same_or_none : {X : Type 0} (b : Bool) (old : Option X) → SameOrNone old (cond b None old)
same_or_none true old = inr refl
same_or_none false old = inl refl

pub then_same : {X : Type 0} {old mid new : Option X} → SameOrNone old mid → new ≡ mid → SameOrNone old new
then_same {old = old} first same = subst (SameOrNone old) (sym same) first

pub if_ok_then : {T E : Type 0} {P Q : T → Type 0} (r : Result T E) → IfOk r P → ((x : T) → P x → Q x) → IfOk r Q
if_ok_then (Ok x) p on = on x p
if_ok_then (Err e) p on = tt

-- none stays none
pub none_stays : {X : Type 0} {old new : Option X} → old ≡ None → SameOrNone old new → new ≡ None
none_stays none (inl same) = same ∙ none
none_stays none (inr is) = is

module _ {Y X S : Type 0} (old new : HashMap (String Y) X S) where
  -- the handles of other paths stay
  pub others_stay : (path : List ℕ) (handle : Option X) → UpdatesBy string_eq (λ k. bytes_eq path (string_bytes k)) old new handle
      → (other : List ℕ) → other ≢ path → get_by_text new other ≡ get_by_text old other
  others_stay path handle h other apart =
      hash_map_updates_text path old new handle h other
      ∙ cond-false (bytes_eq path other) handle (get_by_text old other) (false_from_ne_true (bytes_eq path other) (λ same. apart (sym ((bytes_eq-Decides path other).0 same))))

  -- where an entry was taken, the others stay
  pub one_taken : (taken : Option (String Y × X)) → IfSome taken (λ p. Updates string_eq old new p.0 None) → IfNone taken (IsUnchanged old new)
      → (path : List ℕ) → SameOrNone (get_by_text old path) (get_by_text new path)
  one_taken None updates unchanged path = inl (cc)
  one_taken (Some p) updates unchanged path =
      then_same (same_or_none (bytes_eq (string_bytes p.0) path) (get_by_text old path)) (hash_map_updates_text (string_bytes p.0) old new None updates path)

  -- where there was memory, the handle is set
  pub one_set : {E : Type 0} (result : Result (Option X) E) (key : String Y) (handle : X) → OnOk result (Updates string_eq old new key (Some handle)) → OnErr result (IsUnchanged old new)
      → get_by_text old (string_bytes key) ≡ None → (get_by_text new (string_bytes key) ≡ Some handle) ⊎ (get_by_text new (string_bytes key) ≡ None)
  one_set (Ok before) key handle updates unchanged none = inl updates.1
  one_set (Err why) key handle updates unchanged none = inr (let same : get_by_text new (string_bytes key) ≡ get_by_text old (string_bytes key) = cc in same ∙ none)

  pub others_set : {E : Type 0} (result : Result (Option X) E) (key : String Y) (handle : X) → OnOk result (Updates string_eq old new key (Some handle)) → OnErr result (IsUnchanged old new)
      → (other : List ℕ) → other ≢ string_bytes key → get_by_text new other ≡ get_by_text old other
  others_set (Ok before) key handle updates unchanged other apart = others_stay (string_bytes key) (Some handle) updates other apart
  others_set (Err why) key handle updates unchanged other apart = cc
