-- The steps of adding links of names that are new.
use Rattle.std.specs.Prelude.{◌≡◌, ℕ, ◌+◌, true, false, List, [], ◌∷◌, ◌++◌, Vec, length, map, if◌then◌else◌}
use Rattle.std.specs.Global.{Global}
use Rattle.std.proofs.Common.{sym, ◌∙◌, ap, append-nil, append_assoc, arith}
use Rattle.std.proofs.lemmas.Bool.{and_parts, not-true}
use Rattle.std.proofs.lemmas.List.{map_push}
use Rattle.name_index.specs.Seen.{has, distinct_from}
use Rattle.net_model.specs.declared.Link.{Link}
use Rattle.net_reader.specs.Fresh.{are_fresh}
use Rattle.net_reader.proofs.Distinct.{left_more}

-- the texts of names, and the links between two nodes that have them
abbrev pub texts : List (Vec ℕ Global) → List (List ℕ)
texts names = map (λ name. name.items) names

abbrev pub links_between : ℕ → ℕ → List (Vec ℕ Global) → List Link
links_between tail head names = map (λ name. record { name = name.items; tail = tail; head = head }) names

-- Names and links with those of the front, behind which so many names are left, which are new.
pub record AreAdded (tail head : ℕ) (seen : List (List ℕ)) (links : List Link) (names front rest : List (Vec ℕ Global)) (left : ℕ) (seen_now : List (List ℕ)) (links_now : List Link) : Type 0 where
  pub parts : names ≡ front ++ rest
  pub count : length rest ≡ left
  pub fresh : are_fresh seen_now (texts rest) ≡ true
  pub names_added : seen_now ≡ seen ++ texts front
  pub links_added : links_now ≡ links ++ links_between tail head front

module _ (tail head : ℕ) (seen : List (List ℕ)) (links : List Link) (names : List (Vec ℕ Global)) where
  -- none yet
  pub added_none : (rest : List (Vec ℕ Global)) (left : ℕ) → are_fresh seen (texts names) ≡ true → rest ≡ names → left ≡ length names → AreAdded tail head seen links names [] rest left seen links
  added_none rest left fresh same all = record {
    parts = sym same;
    count = ap length same ∙ sym all;
    fresh = ap (λ (list : List (Vec ℕ Global)). are_fresh seen (texts list)) same ∙ fresh;
    names_added = sym (append-nil seen);
    links_added = sym (append-nil links);
  }

  -- one more
  pub added_more : (front rest further : List (Vec ℕ Global)) (left fewer : ℕ) (one : Vec ℕ Global) (seen_now seen_next : List (List ℕ)) (links_now links_next : List Link)
      → AreAdded tail head seen links names front rest left seen_now links_now → rest ≡ one ∷ further → fewer + 1 ≡ left
      → seen_next ≡ distinct_from seen_now (one.items ∷ []) → links_next ≡ links_now ++ record { name = one.items; tail = tail; head = head } ∷ []
      → AreAdded tail head seen links names (front ++ one ∷ []) further fewer seen_next links_next
  added_more front rest further left fewer one seen_now seen_next links_now links_next are next less added linked =
      let fresh : are_fresh seen_now (one.items ∷ texts further) ≡ true = ap (λ (list : List (Vec ℕ Global)). are_fresh seen_now (texts list)) (sym next) ∙ are.fresh in
      let new : has seen_now one.items ≡ false = not-true _ (and_parts _ _ (and_parts _ _ fresh).0).0 in
      let pushed : seen_next ≡ seen_now ++ one.items ∷ [] = added ∙ ap (λ b. if b then seen_now else seen_now ++ one.items ∷ []) new in
      record {
        parts = are.parts ∙ ap (λ (list : List (Vec ℕ Global)). front ++ list) next ∙ sym (append_assoc front (one ∷ []) further);
        count = omega (arith, are.count, less, ap length next);
        fresh = ap (λ (list : List (List ℕ)). are_fresh list (texts further)) pushed ∙ sym (left_more seen_now one.items (texts further) new) ∙ fresh;
        names_added = pushed ∙ ap (λ (list : List (List ℕ)). list ++ one.items ∷ []) are.names_added ∙ append_assoc seen (texts front) (one.items ∷ [])
            ∙ ap (λ (list : List (List ℕ)). seen ++ list) (sym (map_push (λ name. name.items) front one));
        links_added = linked ∙ ap (λ (list : List Link). list ++ record { name = one.items; tail = tail; head = head } ∷ []) are.links_added ∙ append_assoc links (links_between tail head front) _
            ∙ ap (λ (list : List Link). links ++ list) (sym (map_push (λ name. record { name = name.items; tail = tail; head = head }) front one));
      }

  -- all
  pub all_front : (front rest : List (Vec ℕ Global)) (left : ℕ) (seen_now : List (List ℕ)) (links_now : List Link) → AreAdded tail head seen links names front rest left seen_now links_now → left ≡ 0 → front ≡ names
  all_front front [] left seen_now links_now are none = sym (are.parts ∙ append-nil front)
  all_front front (one ∷ rest) left seen_now links_now are none = absurd (omega (arith, are.count))
