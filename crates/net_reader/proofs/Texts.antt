-- Ends of lines and of texts.
use Rattle.std.proofs.Common.{◌≡◌, ℕ, Bool, true, false, not, ◌==◌, nat_lt, List, [], ◌∷◌, ◌++◌, length, map, filter, refl, ap, sym, ◌∙◌, rules, tests}
use Rattle.std.specs.List.{slice_split}
use Rattle.std.proofs.lemmas.List.{map_push}
use Rattle.net_reader.specs.Lines.{without_return, without_empty_end, lines_of}

pub return_dropped : (front : List ℕ) (last : ℕ) → (last == 13) ≡ true → without_return (front ++ last ∷ []) ≡ front
return_dropped [] last e = rw e refl
return_dropped (x ∷ []) last e = rw e refl
return_dropped (x ∷ y ∷ front) last e = ap (λ l. x ∷ l) (return_dropped (y ∷ front) last e)

pub return_kept : (front : List ℕ) (last : ℕ) → (last == 13) ≡ false → without_return (front ++ last ∷ []) ≡ front ++ last ∷ []
return_kept [] last e = rw e refl
return_kept (x ∷ []) last e = rw e refl
return_kept (x ∷ y ∷ front) last e = ap (λ l. x ∷ l) (return_kept (y ∷ front) last e)

pub end_dropped : (front : List (List ℕ)) (last : List ℕ) → (length last == 0) ≡ true → without_empty_end (front ++ last ∷ []) ≡ front
end_dropped [] last e = rw e refl
end_dropped (x ∷ []) last e = rw e refl
end_dropped (x ∷ y ∷ front) last e = ap (λ l. x ∷ l) (end_dropped (y ∷ front) last e)

pub end_kept : (front : List (List ℕ)) (last : List ℕ) → (length last == 0) ≡ false → without_empty_end (front ++ last ∷ []) ≡ front ++ last ∷ []
end_kept [] last e = rw e refl
end_kept (x ∷ []) last e = rw e refl
end_kept (x ∷ y ∷ front) last e = ap (λ l. x ∷ l) (end_kept (y ∷ front) last e)

not_empty : (n : ℕ) → not (n == 0) ≡ nat_lt 0 n
not_empty n = search (rules, tests)

pub filter_not_empty : (words : List (List ℕ)) → filter (λ word. not (length word == 0)) words ≡ filter (λ word. nat_lt 0 (length word)) words
filter_not_empty words = ap (λ (p : List ℕ → Bool). filter p words) (λ j word. not_empty (length word) j)

module _ {X : Type 0} (f : X → List ℕ) (all front : List X) (last : X) (text : List ℕ) where
  pub lines_kept : map f all ≡ slice_split (λ byte. byte == 10) text → all ≡ front ++ last ∷ [] → (length (f last) == 0) ≡ false → map f (front ++ last ∷ []) ≡ lines_of text
  lines_kept whole parts kept =
      map_push f front last ∙ sym (end_kept (map f front) (f last) kept) ∙ ap without_empty_end (sym (map_push f front last) ∙ ap (map f) (sym parts) ∙ whole)

  pub lines_dropped : map f all ≡ slice_split (λ byte. byte == 10) text → all ≡ front ++ last ∷ [] → (length (f last) == 0) ≡ true → map f front ≡ lines_of text
  lines_dropped whole parts empty =
      sym (end_dropped (map f front) (f last) empty) ∙ ap without_empty_end (sym (map_push f front last) ∙ ap (map f) (sym parts) ∙ whole)
