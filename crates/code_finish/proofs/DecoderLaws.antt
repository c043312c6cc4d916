-- Laws of a demand's decoder: the demand decodes, and the decoder is one for its sink.
use Rattle.std.specs.Prelude.{◌≡◌, ◌<◌, ◌≤◌, ◌+◌, ◌∷◌, ℕ, zero, suc, Bool, cond, true, IsTrue, List, [], filter, get_or, length, map, nat_lt, reverse}
use Rattle.std.specs.List.{Contains, list_all, range_with_len}
use Rattle.std.proofs.Common.{arith, refl, sym, ap, inl, inr, subst, ◌∙◌}
use Rattle.std.proofs.lemmas.Bool.{and_from, cases_eq, cond_both, eq-eqb, lt-ltb}
use Rattle.std.proofs.lemmas.List.{get_or-map, length-map, reverse-append, reverse-reverse}
use Rattle.std.proofs.lemmas.List.Elements.{All-contains, All-contains_itself, All-from_recursion, All-get_or, All-weaker, Contains-append_cases, Contains-append_left, Contains-append_right, filter_passes}
use Rattle.std.proofs.lemmas.List.FromFn.{get_or-map-range_with_len}
use Rattle.std.proofs.lemmas.List.Sums.{list_all-from_AllPass}
use Rattle.code_file.specs.declared.draft.Draft.{Draft}
use Rattle.gf_tables.specs.Product.{size_of}
use Rattle.linear_algebra.proofs.EntryLaws.{rows_of-AreRows}
use Rattle.linear_algebra.proofs.MatrixLaws.{length-rows_of}
use Rattle.linear_algebra.specs.Matrices.{rows_of}
use Rattle.linear_algebra.specs.Rows.{IsRow, combination, unit_row}
use Rattle.net_model.specs.Demands.{pattern_of_demand, sink_of_demand}
use Rattle.net_model.specs.Lists.{is_rising}
use Rattle.net_model.specs.declared.net.Net.{Net}
use Rattle.node_program.proofs.DecodingLaws.{link_within}
use Rattle.node_program.specs.Code.{is_decoder, leads_into}
use Rattle.node_program.specs.declared.Decoder.{Decoder}
use Rattle.code_finish.proofs.DecodesLaws.{spans_decode}
use Rattle.code_finish.proofs.TakenLaws.{is_rising-raising, raising_within}
use Rattle.code_finish.specs.Solved.{DecodesIn, IsDecoderOf, ins_to, vectors_under}

-- numbers of a range that pass a test are at least its first, and rise
rising-range : (test : ℕ → Bool) (a n : ℕ)
    → ((below : ℕ) → below < a → list_all (nat_lt below) (filter test (range_with_len a n)) ≡ true) × (is_rising (filter test (range_with_len a n)) ≡ true)
rising-range test a zero = ((λ below under. refl), refl)
rising-range test a (suc n) =
    let later = rising-range test (a + 1) n in
    let rest = filter test (range_with_len (a + 1) n) in
    cond_both (test a) (a ∷ rest) rest (λ numbers. ((below : ℕ) → below < a → list_all (nat_lt below) numbers ≡ true) × (is_rising numbers ≡ true))
    (λ _. ((λ below under. and_from _ _ (lt-ltb below a under) (later.0 below (omega arith))), and_from _ _ (later.0 a (omega arith)) later.1))
    (λ _. ((λ below under. later.0 below (omega arith)), later.1))

-- a number of a range that passes a test is among those that do
Contains-range : (test : ℕ → Bool) (a n number : ℕ) → a ≤ number → number < a + n → test number ≡ true → Contains (filter test (range_with_len a n)) number
Contains-range test a zero number from within passes = absurd (omega arith)
Contains-range test a (suc n) number from within passes =
    let rest = filter test (range_with_len (a + 1) n) in
    elim (cases_eq a number) [
      | inl same ↦
          subst (λ b. Contains (cond b (a ∷ rest) rest) number) (sym (ap test same ∙ passes)) (0, omega arith, same)
      | inr other ↦
          let later = Contains-range test (a + 1) n number (omega arith) (omega arith) passes in
          cond_both (test a) (a ∷ rest) rest (λ numbers. Contains numbers number) (λ _. Contains-append_right (a ∷ []) rest number later) (λ _. later)
    ]

-- what is in a list is in it from its end
pub Contains-reverse : (xs : List ℕ) (x : ℕ) → Contains xs x → Contains (reverse xs) x
Contains-reverse [] x has = absurd (omega (arith, has.1))
Contains-reverse (first ∷ rest) x has =
    subst (λ xs. Contains xs x) (sym (reverse-append (first ∷ []) rest))
    (elim (Contains-append_cases (first ∷ []) rest x has) [
      | inl one ↦ Contains-append_right (reverse rest) (first ∷ []) x one
      | inr later ↦ Contains-append_left (reverse rest) (first ∷ []) x (Contains-reverse rest x later)
    ])

-- a link into a node is among those
pub Contains-ins_to : (net : Net) (node link : ℕ) → IsTrue (leads_into net.links node link) → Contains (ins_to net node) link
Contains-ins_to net node link into =
    let within = link_within net.links node link into in
    Contains-range (leads_into net.links node) 0 (length net.links) link (omega arith) (omega (arith, within)) into

module _ (draft : Draft) (demand : ℕ) (decoder : Decoder) (is : IsDecoderOf draft demand decoder) where
  abbrev sink : ℕ
  sink = sink_of_demand draft.net demand

  abbrev ins : List ℕ
  ins = ins_to draft.net sink

  abbrev vector : ℕ → List ℕ
  vector = vectors_under draft (pattern_of_demand draft.net demand)

  abbrev matrix : List (List ℕ)
  matrix = rows_of draft.rate draft.rate decoder.entries

  -- its links lead into the sink
  decoder_into : (link : ℕ) → Contains decoder.links link → IsTrue (leads_into draft.net.links sink link)
  decoder_into link has =
      let came : Contains (reverse ins) link = raising_within draft.field draft.rate vector (reverse ins) link (subst (λ links. Contains links link) is.links has) in
      All-contains (λ one. leads_into draft.net.links sink one ≡ true) ins link (filter_passes (leads_into draft.net.links sink) (range_with_len 0 (length draft.net.links)))
      (subst (λ links. Contains links link) (reverse-reverse ins) (Contains-reverse (reverse ins) link came))

  -- the demand decodes, since the rows of the matrix have the unit rows as the sums of the vectors
  pub decoder_decodes : DecodesIn draft demand
  decoder_decodes =
      spans_decode draft.draft demand decoder.links decoder_into
      (λ k below.
      let rows = rows_of-AreRows draft.field draft.rate draft.rate decoder.entries (omega (arith, is.count)) is.elements in
      let inside : k < length matrix = omega (arith, below, length-rows_of draft.rate draft.rate decoder.entries) in
      let row : IsRow draft.field draft.rate (get_or matrix k []) = All-get_or (IsRow draft.field draft.rate) matrix k [] inside (All-from_recursion (IsRow draft.field draft.rate) matrix rows) in
      record {
        coefficients = get_or matrix k [];
        elements = row.elements;
        count = row.width ∙ sym (length-map decoder.links vector ∙ is.full);
        sum = sym (get_or-map (λ (times : List ℕ). combination draft.field draft.rate times (map vector decoder.links)) matrix k [] [] inside)
            ∙ ap (λ (product : List (List ℕ)). get_or product k []) is.identity
            ∙ get_or-map-range_with_len (unit_row draft.rate) 0 draft.rate k k [] below (omega arith);
      })

  -- it has the shape of a decoder for the sink
  pub decoder_good : IsTrue (is_decoder draft.net draft.rate draft.field (sink_of_demand draft.net demand) decoder)
  decoder_good =
      let rising : is_rising decoder.links ≡ true =
      ap is_rising is.links
      ∙ is_rising-raising draft.field draft.rate vector (reverse ins)
      (ap is_rising (reverse-reverse ins) ∙ (rising-range (leads_into draft.net.links sink) 0 (length draft.net.links)).1)
      in
      let into : list_all (leads_into draft.net.links sink) decoder.links ≡ true =
      list_all-from_AllPass (leads_into draft.net.links sink) decoder.links
      (All-weaker (Contains decoder.links) (λ link. leads_into draft.net.links sink link ≡ true) decoder_into decoder.links (All-contains_itself decoder.links))
      in
      let few : list_all (λ entry. nat_lt entry (size_of draft.field)) decoder.entries ≡ true =
      list_all-from_AllPass (λ entry. nat_lt entry (size_of draft.field)) decoder.entries
      (All-weaker (λ entry. entry < size_of draft.field) (λ entry. nat_lt entry (size_of draft.field) ≡ true) (λ entry. lt-ltb entry (size_of draft.field)) decoder.entries is.elements)
      in
      and_from _ _ (and_from _ _ (and_from _ _ (and_from _ _ (eq-eqb _ _ is.full) rising) into) (eq-eqb _ _ is.count)) few
