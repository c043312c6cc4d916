-- Reading parts one after another, as a loop does.
use Rattle.std.proofs.Common.{◌≡◌, ℕ, suc, ◌-◌, ◌+◌, ◌≤◌, ◌<◌, List, [], ◌∷◌, ◌++◌, length, get_or, drop, replicate, Ok, Err, refl, sym, ap, ◌∙◌, arith}
use Rattle.std.proofs.lemmas.List.{drop_more, drop_all}
use Rattle.code_items.specs.declared.refusal.CodeRefusal.{CodeRefusal}
use Rattle.code_items.specs.Reading.{Rest, Reading, each_after_at, repeated_at}
use Rattle.code_items.specs.Gives.{Fails}

module _ {X Y : Type 0} (part : List Y → X → Rest → Reading Y) (xs : List X) (earlier : List Y) (rest : Rest) (total : Reading (List Y)) where
  -- after one more part
  step : (x : X) (later : List X) (one : Y) (after : Rest) → xs ≡ x ∷ later → part earlier x rest ≡ Ok (one, after)
      → each_after_at part earlier xs rest ≡ total → each_after_at part (earlier ++ one ∷ []) later after ≡ total
  unfolding each_after_at
  step x later one after next read so_far =
      let this : each_after_at part earlier xs rest ≡ each_after_at part (earlier ++ one ∷ []) later after = rw (next, read) refl in
      sym this ∙ so_far

  -- where a part is refused
  stop : (x : X) (later : List X) (refusal : CodeRefusal) → xs ≡ x ∷ later → Fails refusal (part earlier x rest) → each_after_at part earlier xs rest ≡ total → Fails refusal total
  unfolding each_after_at
  stop x later refusal next fails so_far other =
      let this : each_after_at part earlier xs rest ≡ Err refusal = rw (next, fails other) refl in
      sym so_far ∙ this

  -- after the last part
  finish : xs ≡ [] → each_after_at part earlier xs rest ≡ total → total ≡ Ok (earlier, rest)
  unfolding each_after_at
  finish none so_far =
      let this : each_after_at part earlier xs rest ≡ Ok (earlier, rest) = rw none refl in
      sym so_far ∙ this

-- ---- a loop over a list

module _ {X Y : Type 0} (part : List Y → X → Rest → Reading Y) (xs : List X) (i : ℕ) (earlier : List Y) (rest : Rest) (total : Reading (List Y)) where
  -- after one more part
  pub each_goes_on : (d : X) (one : Y) (after : Rest) → i < length xs → part earlier (get_or xs i d) rest ≡ Ok (one, after)
      → each_after_at part earlier (drop i xs) rest ≡ total → each_after_at part (earlier ++ one ∷ []) (drop (i + 1) xs) after ≡ total
  each_goes_on d one after more = step part (drop i xs) earlier rest total (get_or xs i d) (drop (i + 1) xs) one after (drop_more xs i d more)

  -- where a part is refused
  pub each_ends : (d : X) (refusal : CodeRefusal) → i < length xs → Fails refusal (part earlier (get_or xs i d) rest)
      → each_after_at part earlier (drop i xs) rest ≡ total → Fails refusal total
  each_ends d refusal more = stop part (drop i xs) earlier rest total (get_or xs i d) (drop (i + 1) xs) refusal (drop_more xs i d more)

  -- after the last part
  pub each_is_done : length xs ≤ i → each_after_at part earlier (drop i xs) rest ≡ total → total ≡ Ok (earlier, rest)
  each_is_done none = finish part (drop i xs) earlier rest total (drop_all i xs none)

-- ---- a loop that counts

module _ {X : Type 0} (part : List X → Rest → Reading X) (count i : ℕ) (earlier : List X) (rest : Rest) (total : Reading (List X)) where
  -- after one more part
  pub goes_on : (one : X) (after : Rest) → i < count → part earlier rest ≡ Ok (one, after)
      → repeated_at part (count - i) earlier rest ≡ total → repeated_at part (count - (i + 1)) (earlier ++ one ∷ []) after ≡ total
  goes_on one after more =
      let left : count - i ≡ suc (count - (i + 1)) = omega arith in
      step (λ earlier _. part earlier) (replicate (count - i) (tt {0})) earlier rest total (tt {0}) (replicate (count - (i + 1)) (tt {0})) one after (ap (λ n. replicate n (tt {0})) left)

  -- where a part is refused
  pub ends : (refusal : CodeRefusal) → i < count → Fails refusal (part earlier rest) → repeated_at part (count - i) earlier rest ≡ total → Fails refusal total
  ends refusal more =
      let left : count - i ≡ suc (count - (i + 1)) = omega arith in
      stop (λ earlier _. part earlier) (replicate (count - i) (tt {0})) earlier rest total (tt {0}) (replicate (count - (i + 1)) (tt {0})) refusal (ap (λ n. replicate n (tt {0})) left)

  -- after the last part
  pub is_done : count ≤ i → repeated_at part (count - i) earlier rest ≡ total → total ≡ Ok (earlier, rest)
  is_done none =
      let left : count - i ≡ 0 = omega arith in
      finish (λ earlier _. part earlier) (replicate (count - i) (tt {0})) earlier rest total (ap (λ n. replicate n (tt {0})) left)
