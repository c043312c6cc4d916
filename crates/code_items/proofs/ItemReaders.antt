-- Readers of single items: numbers, elements and names.
use Rattle.std.specs.Prelude.{◌≡◌, ℕ, ◌+◌, ◌<◌, Bool, true, false, not, ◌||◌, List, [], ◌∷◌, ◌++◌, length, drop, slice_index, Ok}
use Rattle.std.specs.Int.{w16, w32, from_be_bytes}
use Rattle.std.proofs.Common.{refl, sym, subst, ap, ◌∙◌, arith}
use Rattle.std.proofs.lemmas.Bool.{or_parts, or_from, not-false, not_from_true}
use Rattle.std.proofs.lemmas.Nat.{be_bytes_2, be_bytes_4, from_be_bytes-to_be_bytes_2, from_be_bytes-to_be_bytes_4}
use Rattle.gf_tables.specs.Product.{size_of, size_of_width, width_of}
use Rattle.gf_tables.specs.declared.kind.FieldKind.{FieldKind}
use Rattle.gf_tables.specs.declared.kind.Width.TheVariants.{One, Two}
use Rattle.net_model.specs.Name.{is_name}
use Rattle.code_items.specs.Items.{byte_item, number_item, long_item, width_item, element_item, name_item}
use Rattle.code_items.specs.Reading.{Rest, Reading, ◌>>=◌, refused_first, item, byte_at, number_at, long_at, width_at, element_at, name_at, Conditions}
use Rattle.code_items.proofs.Readers.{ok_of, IsBytes, IsReader, Takes, NoneHolds, AreNotMemory, bind_ok, bind_not_memory, ok_is, refused_first_takes, refused_first_again, refused_first_not_memory, item_takes, item_again, item_not_memory}
use Rattle.code_items.specs.declared.refusal.CodeRefusal.TheVariants.{BadName}

-- the conditions of a number in view of what is left, and what their absence says of it
pub record AreConditions {X : Type 0} (conditions : Rest → X → Conditions) (Fits : X → Type 0) : Type 0 where
  pub to : (rest : Rest) (x : X) → NoneHolds (conditions rest x) → Fits x
  pub from : (rest : Rest) (x : X) → Fits x → NoneHolds (conditions rest x)
  pub not_memory : (rest : Rest) (x : X) → AreNotMemory (conditions rest x)

-- a reader whose part has to pass conditions, in view of what is left behind it
pub checked_reader : {X : Type 0} {read : Rest → Reading X} {spell : X → List ℕ} {Fits FitsToo : X → Type 0} {conditions : Rest → X → Conditions} → IsReader read spell Fits → AreConditions conditions FitsToo
    → IsReader (λ rest. read rest >>= λ x. refused_first (conditions x.1 x.0) x) spell (λ x. Fits x × FitsToo x)
checked_reader {X} {read} {spell} {Fits} {FitsToo} {conditions} reader are = record {
  takes = λ rest x left fits e.
      let b = bind_ok (read rest) (λ x. refused_first (conditions x.1 x.0) x) (x, left) e in
      let t = reader.takes rest b.0.0 b.0.1 fits b.1 in
      let c = refused_first_takes (conditions b.0.1 b.0.0) b.0 (x, left) b.2 in
      subst (λ (p : X × Rest). Takes rest (spell p.0) p.1 × (Fits p.0 × FitsToo p.0)) c.1 (t.0, (t.1, are.to b.0.1 b.0.0 c.0));
  again = λ at more x fits.
      let left : Rest = record { at = at + length (spell x); bytes = more } in
      ap (λ (r : Reading X). r >>= λ x. refused_first (conditions x.1 x.0) x) (reader.again at more x fits.0)
      ∙ refused_first_again (conditions left x) (x, left) (are.from left x fits.1);
  not_memory = λ rest.
      bind_not_memory (read rest) (λ x. refused_first (conditions x.1 x.0) x) (reader.not_memory rest) (λ x. refused_first_not_memory (conditions x.1 x.0) x (are.not_memory x.1 x.0));
}

-- numbers below a bound are spelled in so many bytes, and those are parsed
record Spells (size bound : ℕ) (parse : List ℕ → ℕ) (spell : ℕ → List ℕ) : Type 0 where
  size_is : (n : ℕ) → length (spell n) ≡ size
  spelled : (text : List ℕ) → length text ≡ size → IsBytes text → text ≡ spell (parse text)
  small : (text : List ℕ) → length text ≡ size → IsBytes text → parse text < bound
  back : (n : ℕ) → n < bound → parse (spell n) ≡ n

-- a number that is spelled so
spelled_reader : {size bound : ℕ} {parse : List ℕ → ℕ} {spell : ℕ → List ℕ} {conditions : Rest → ℕ → Conditions} {Fits : ℕ → Type 0} → Spells size bound parse spell → AreConditions conditions Fits
    → IsReader (λ rest. item size rest (λ text. conditions rest (parse text)) >>= λ it. Ok (parse it.0, it.1)) spell (λ n. (n < bound) × Fits n)
spelled_reader {size} {bound} {parse} {spell} {conditions} {Fits} spells are = record {
  takes = λ rest n left fits e.
      let within = λ (text : List ℕ). conditions rest (parse text) in
      let b = bind_ok (item size rest within) (λ it. Ok (parse it.0, it.1)) (n, left) e in
      let t = item_takes size rest within b.0.0 b.0.1 fits b.1 in
      subst (λ (p : ℕ × Rest). Takes rest (spell p.0) p.1 × ((p.0 < bound) × Fits p.0)) (ok_is (parse b.0.0, b.0.1) (n, left) b.2)
      (subst (λ (text : List ℕ). Takes rest text b.0.1) (spells.spelled b.0.0 t.size_is t.text_fits) t.takes, (spells.small b.0.0 t.size_is t.text_fits, are.to rest (parse b.0.0) t.none_holds));
  again = λ at more n fits.
      let rest : Rest = record { at = at; bytes = spell n ++ more } in
      let back : parse (spell n) ≡ n = spells.back n fits.0 in
      let none : NoneHolds (conditions rest (parse (spell n))) = subst (λ (m : ℕ). NoneHolds (conditions rest m)) (sym back) (are.from rest n fits.1) in
      let read = item_again size at (spell n) more (λ text. conditions rest (parse text)) (spells.size_is n) none in
      ap (λ (r : Reading (List ℕ)). r >>= λ it. Ok (parse it.0, it.1)) read
      ∙ ap (λ (m : ℕ). ok_of (m, record { at = at + size; bytes = more })) back
      ∙ ap (λ (k : ℕ). ok_of (n, record { at = at + k; bytes = more })) (sym (spells.size_is n));
  not_memory = λ rest.
      bind_not_memory (item size rest (λ text. conditions rest (parse text))) (λ it. Ok (parse it.0, it.1))
      (item_not_memory size rest (λ text. conditions rest (parse text)) (λ text. are.not_memory rest (parse text))) (λ it. refl);
}

-- a text of one byte is that byte
one_byte : (text : List ℕ) → length text ≡ 1 → text ≡ byte_item (slice_index text 0)
one_byte [] h = absurd (omega arith)
one_byte (b ∷ []) h = refl
one_byte (b ∷ c ∷ text) h = absurd (omega arith)

-- one byte
byte_spells : Spells 1 256 (λ text. slice_index text 0) byte_item
byte_spells = record {
  size_is = λ n. refl;
  spelled = λ text size fits. one_byte text size;
  small = λ text size fits. fits 0;
  back = λ n small. refl;
}

-- two bytes
number_spells : Spells 2 65536 (from_be_bytes w16) number_item
number_spells = record {
  size_is = λ n. refl;
  spelled = λ text size fits. sym (be_bytes_2 text (from_be_bytes w16 text) size fits refl);
  small = λ text size fits. omega (arith, fits 0, fits 1);
  back = from_be_bytes-to_be_bytes_2;
}

-- four bytes
long_spells : Spells 4 4294967296 (from_be_bytes w32) long_item
long_spells = record {
  size_is = λ n. refl;
  spelled = λ text size fits. sym (be_bytes_4 text (from_be_bytes w32 text) size fits refl);
  small = λ text size fits. omega (arith, fits 0, fits 1, fits 2, fits 3);
  back = from_be_bytes-to_be_bytes_4;
}

-- a number of one byte
pub byte_reader : {conditions : Rest → ℕ → Conditions} {Fits : ℕ → Type 0} → AreConditions conditions Fits
    → IsReader (λ rest. byte_at rest (conditions rest)) byte_item (λ n. (n < 256) × Fits n)
unfolding byte_at
byte_reader are = spelled_reader byte_spells are

-- a number of two
pub number_reader : {conditions : Rest → ℕ → Conditions} {Fits : ℕ → Type 0} → AreConditions conditions Fits
    → IsReader (λ rest. number_at rest (conditions rest)) number_item (λ n. (n < 65536) × Fits n)
unfolding number_at
number_reader are = spelled_reader number_spells are

-- a number of four
pub long_reader : {conditions : Rest → ℕ → Conditions} {Fits : ℕ → Type 0} → AreConditions conditions Fits
    → IsReader (λ rest. long_at rest (conditions rest)) long_item (λ n. (n < 4294967296) × Fits n)
unfolding long_at
long_reader are = spelled_reader long_spells are

-- the number of an element
pub element_reader : (field : FieldKind) {conditions : Rest → ℕ → Conditions} {Fits : ℕ → Type 0} → AreConditions conditions Fits
    → IsReader (λ rest. element_at field rest (conditions rest)) (element_item field) (λ n. (n < size_of field) × Fits n)
element_reader field {conditions} {Fits} are =
    elim (width_of field) as (λ width. IsReader (λ rest. width_at width rest (conditions rest)) (width_item width) (λ n. (n < size_of_width width) × Fits n)) [
      | One ↦ byte_reader are
      | Two ↦ number_reader are
    ]

-- a name behind the byte of its length
name_text : (rest : Rest) (text : List ℕ) (left : Rest) → length text ≡ 1 + slice_index rest.bytes 0 → rest.bytes ≡ text ++ left.bytes → text ≡ name_item (drop 1 text)
name_text rest [] left size parts = absurd (omega arith)
name_text rest (b ∷ text) left size parts =
    let first : slice_index rest.bytes 0 ≡ b = ap (λ (bytes : List ℕ). slice_index bytes 0) parts in
    let same : b ≡ length text = omega arith in
    ap (λ (n : ℕ). n ∷ text) same

-- when a name is refused
abbrev name_conditions : (List ℕ → Bool) → Rest → List ℕ → Conditions
name_conditions is_bad rest text = (not (is_name (drop 1 text)) || is_bad (drop 1 text), BadName rest.at) ∷ []

-- a name that passes a further test
pub name_reader : (is_bad : List ℕ → Bool) → IsReader (λ rest. name_at rest is_bad) name_item (λ name. (is_name name ≡ true) × (is_bad name ≡ false))
unfolding name_at
name_reader is_bad = record {
  takes = λ rest name left fits e.
      let b = bind_ok (item (1 + slice_index rest.bytes 0) rest (name_conditions is_bad rest)) (λ it. Ok (drop 1 it.0, it.1)) (name, left) e in
      let t = item_takes (1 + slice_index rest.bytes 0) rest (name_conditions is_bad rest) b.0.0 b.0.1 fits b.1 in
      let fit = or_parts (not (is_name (drop 1 b.0.0))) (is_bad (drop 1 b.0.0)) t.none_holds.0 in
      subst (λ (p : List ℕ × Rest). Takes rest (name_item p.0) p.1 × ((is_name p.0 ≡ true) × (is_bad p.0 ≡ false))) (ok_is (drop 1 b.0.0, b.0.1) (name, left) b.2)
      (subst (λ (text : List ℕ). Takes rest text b.0.1) (name_text rest b.0.0 b.0.1 t.size_is t.takes.parts) t.takes, (not-false _ fit.0, fit.1));
  again = λ at more name fit.
      let rest : Rest = record { at = at; bytes = name_item name ++ more } in
      let size : length (name_item name) ≡ 1 + length name = omega arith in
      let none : NoneHolds (name_conditions is_bad rest (name_item name)) = (or_from _ _ (not_from_true _ fit.0) fit.1, tt) in
      let read = item_again (1 + length name) at (name_item name) more (name_conditions is_bad rest) size none in
      ap (λ (r : Reading (List ℕ)). r >>= λ it. Ok (drop 1 it.0, it.1)) read
      ∙ ap (λ (n : ℕ). ok_of (name, record { at = at + n; bytes = more })) (sym size);
  not_memory = λ rest.
      bind_not_memory (item (1 + slice_index rest.bytes 0) rest (name_conditions is_bad rest)) (λ it. Ok (drop 1 it.0, it.1))
      (item_not_memory (1 + slice_index rest.bytes 0) rest (name_conditions is_bad rest) (λ text. (refl, tt))) (λ it. refl);
}
