-- The text of a side, and one more node.
use Rattle.std.proofs.Common.{◌≡◌, ◌+◌, ℕ, Bool, true, false, cond, List, [], ◌∷◌, ◌++◌, filter, map, append_assoc, arith}
use Rattle.std.specs.List.{range_with_len}
use Rattle.std.proofs.lemmas.List.{map-append, map-id, append-nil}
use Rattle.std.proofs.lemmas.List.Concat.{flat_map-append}
use Rattle.std.proofs.lemmas.List.FromFn.{filter_of_map_range_with_len_more}
use Rattle.name_texts.specs.Names.{with_spaces}

module _ (keeps : ℕ → Bool) (name : ℕ → List ℕ) (before : List ℕ) (count : ℕ) where
  -- the numbers that are kept, and one more
  abbrev kept : ℕ → List ℕ
  kept n = filter keeps (range_with_len 0 n)

  kept_more : kept (count + 1) ≡ kept count ++ cond (keeps count) (count ∷ []) []
  kept_more = simp map-id at (filter_of_map_range_with_len_more keeps (λ k. k) 0 count count (omega arith))

  pub one_named_more : (text : List ℕ) → keeps count ≡ true → text ≡ before ++ with_spaces (map name (kept count)) → (text ++ 32 ∷ []) ++ name count ≡ before ++ with_spaces (map name (kept (count + 1)))
  one_named_more text is_kept so_far =
      rw (so_far, kept_more, is_kept) (simp (map-append, flat_map-append, append_assoc, append-nil))

  pub none_named_more : (text : List ℕ) → keeps count ≡ false → text ≡ before ++ with_spaces (map name (kept count)) → text ≡ before ++ with_spaces (map name (kept (count + 1)))
  none_named_more text not_kept so_far = rw (kept_more, not_kept, append-nil) so_far
