-- Readers: a part of a file is read exactly from its one spelling.
use Rattle.std.specs.Prelude.{◌≡◌, ℕ, zero, suc, ◌+◌, ◌<◌, Bool, true, false, nat_lt, List, [], ◌∷◌, ◌++◌, length, take, drop, replicate, Result, Ok, Err, if◌then◌else◌}
use Rattle.std.proofs.Common.{refl, sym, subst, ap, ◌∙◌, get_or, append_assoc, append-nil, add-zero, arith, inl, inr}
use Rattle.std.specs.List.{flat_map}
use Rattle.std.proofs.lemmas.Bool.{cases_lt, ltb-false, le-ltb}
use Rattle.std.proofs.lemmas.List.{take_at, drop_at, take-append-drop, length-append, length-take, get_or-drop, get_or-take, get_or_past}
use Rattle.code_items.specs.declared.refusal.CodeRefusal.{CodeRefusal}
use Rattle.code_items.specs.declared.refusal.CodeRefusal.TheVariants.{Truncated, OutOfMemory}
use Rattle.code_items.specs.Reading.{Rest, Reading, ◌>>=◌, refused_first, item, each_after_at, repeated_at, each_at, Conditions}

-- each byte is one
abbrev pub IsBytes : List ℕ → Type 0
IsBytes bytes = (i : ℕ) → get_or bytes i 0 < 256

-- so is each byte behind a place
pub IsBytes-drop : (n : ℕ) (bytes : List ℕ) → IsBytes bytes → IsBytes (drop n bytes)
IsBytes-drop n bytes h i = rw get_or-drop (h (n + i))

-- and each before it
pub IsBytes-take : (n : ℕ) (bytes : List ℕ) → IsBytes bytes → IsBytes (take n bytes)
IsBytes-take n bytes h i =
    elim (cases_lt i n) [
      | inl lt ↦ rw (get_or-take n bytes i 0 lt) (h i)
      | inr le ↦ rw (get_or_past (take n bytes) i 0 (omega (arith, length-take n bytes))) (omega arith)
    ]

-- a refusal for want of memory
abbrev pub is_memory_refusal : CodeRefusal → Bool
is_memory_refusal OutOfMemory = true
is_memory_refusal _ = false

-- a result that is that refusal
abbrev pub is_memory : {X : Type 0} → Result X CodeRefusal → Bool
is_memory (Ok x) = false
is_memory (Err refusal) = is_memory_refusal refusal

-- no condition holds
abbrev pub NoneHolds : Conditions → Type 0
NoneHolds [] = Unit {0}
NoneHolds (condition ∷ conditions) = (condition.0 ≡ false) × NoneHolds conditions

-- no condition is refused for want of memory
abbrev pub AreNotMemory : Conditions → Type 0
AreNotMemory [] = Unit {0}
AreNotMemory (condition ∷ conditions) = (is_memory_refusal condition.1 ≡ false) × AreNotMemory conditions

-- text was takes from the front
pub record Takes (rest : Rest) (text : List ℕ) (left : Rest) : Type 0 where
  pub parts : rest.bytes ≡ text ++ left.bytes
  pub place : left.at ≡ rest.at + length text
  pub left_fits : IsBytes left.bytes

-- What is read is spelled so, and fits; what fits and is spelled so is read; no refusal is for want of memory.
pub record IsReader {X : Type 0} (read : Rest → Reading X) (spell : X → List ℕ) (Fits : X → Type 0) : Type 0 where
  pub takes : (rest : Rest) (x : X) (left : Rest) → IsBytes rest.bytes → read rest ≡ Ok (x, left) → Takes rest (spell x) left × Fits x
  pub again : (at : ℕ) (more : List ℕ) (x : X) → Fits x → read (record { at = at; bytes = spell x ++ more }) ≡ Ok (x, record { at = at + length (spell x); bytes = more })
  pub not_memory : (rest : Rest) → is_memory (read rest) ≡ false

-- nothing is taken
pub Takes-none : (rest : Rest) → IsBytes rest.bytes → Takes rest [] rest
Takes-none rest fits = record { parts = refl; place = omega arith; left_fits = fits }

-- what is taken after something is taken behind it
pub Takes-then : (a : Rest) (x : List ℕ) (b : Rest) (y : List ℕ) (c : Rest) → Takes a x b → Takes b y c → Takes a (x ++ y) c
Takes-then a x b y c p q = record {
  parts = p.parts ∙ ap (λ (t : List ℕ). x ++ t) q.parts ∙ sym (append_assoc x y c.bytes);
  place = omega (arith, p.place, q.place, length-append x y);
  left_fits = q.left_fits;
}

-- the value of a step that did not fail
pub bind_ok : {A B : Type 0} (r : Result A CodeRefusal) (f : A → Result B CodeRefusal) (y : B) → (r >>= f) ≡ Ok y → (x : A) × (r ≡ Ok x) × (f x ≡ Ok y)
bind_ok (Ok x) f y e = (x, refl, e)
bind_ok (Err d) f y e = absurd cc

-- two steps neither of which wants memory
pub bind_not_memory : {A B : Type 0} (r : Result A CodeRefusal) (f : A → Result B CodeRefusal) → is_memory r ≡ false → ((x : A) → is_memory (f x) ≡ false) → is_memory (r >>= f) ≡ false
bind_not_memory (Ok x) f h k = k x
bind_not_memory (Err d) f h k = h

-- a test that did not fail
pub else_ok : {A : Type 0} (b : Bool) (d : CodeRefusal) (r : Result A CodeRefusal) (y : A) → (if b then Err d else r) ≡ Ok y → (b ≡ false) × (r ≡ Ok y)
else_ok true d r y e = absurd cc
else_ok false d r y e = (refl, e)

-- a result that is no refusal
abbrev pub ok_of : {A : Type 0} → A → Result A CodeRefusal
ok_of x = Ok x

-- two results are one where what they give is
pub ok_is : {A : Type 0} (x y : A) → ok_of x ≡ ok_of y → x ≡ y
ok_is x y e = cc

-- ---- conditions

-- where no refusal comes, no condition holds
pub refused_first_takes : {A : Type 0} (conditions : Conditions) (x y : A) → refused_first conditions x ≡ Ok y → NoneHolds conditions × (x ≡ y)
refused_first_takes [] x y e = (tt, ok_is x y e)
refused_first_takes (condition ∷ conditions) x y e =
    let g = else_ok condition.0 condition.1 (refused_first conditions x) y e in
    let t = refused_first_takes conditions x y g.1 in
    ((g.0, t.0), t.1)

-- where no condition holds, no refusal comes
pub refused_first_again : {A : Type 0} (conditions : Conditions) (x : A) → NoneHolds conditions → refused_first conditions x ≡ Ok x
refused_first_again [] x none = refl
refused_first_again (condition ∷ conditions) x none = rw (none.0, refused_first_again conditions x none.1) refl

-- a refusal is that of one of the conditions
pub refused_first_not_memory : {A : Type 0} (conditions : Conditions) (x : A) → AreNotMemory conditions → is_memory (refused_first conditions x) ≡ false
refused_first_not_memory [] x not_memory = refl
refused_first_not_memory (condition ∷ conditions) x not_memory = either condition.0 condition.1 (refused_first conditions x) not_memory.0 (refused_first_not_memory conditions x not_memory.1)
  where
    either : {A : Type 0} (b : Bool) (d : CodeRefusal) (r : Result A CodeRefusal) → is_memory_refusal d ≡ false → is_memory r ≡ false → is_memory (if b then Err d else r) ≡ false
    either true d r h k = h
    either false d r h k = k

-- ---- one item

-- an item of a size, of which no condition holds
pub record TakesItem (size : ℕ) (rest : Rest) (conditions : List ℕ → Conditions) (text : List ℕ) (left : Rest) : Type 0 where
  pub size_is : length text ≡ size
  pub none_holds : NoneHolds (conditions text)
  pub takes : Takes rest text left
  pub text_fits : IsBytes text

-- what is read as an item was taken from the front
pub item_takes : (size : ℕ) (rest : Rest) (conditions : List ℕ → Conditions) (text : List ℕ) (left : Rest) → IsBytes rest.bytes
    → item size rest conditions ≡ Ok (text, left) → TakesItem size rest conditions text left
unfolding item
item_takes size rest conditions text left fits e =
    let after : Rest = record { at = rest.at + size; bytes = drop size rest.bytes } in
    let g = else_ok (nat_lt (length rest.bytes) size) (Truncated rest.at) (refused_first (conditions (take size rest.bytes)) (take size rest.bytes, after)) (text, left) e in
    let t = refused_first_takes (conditions (take size rest.bytes)) (take size rest.bytes, after) (text, left) g.1 in
    let size_is : length (take size rest.bytes) ≡ size = omega (arith, length-take size rest.bytes, ltb-false _ _ g.0) in
    let here : TakesItem size rest conditions (take size rest.bytes) after = record {
      size_is = size_is;
      none_holds = t.0;
      takes = record { parts = sym (take-append-drop size rest.bytes); place = omega (arith, size_is); left_fits = IsBytes-drop size rest.bytes fits };
      text_fits = IsBytes-take size rest.bytes fits;
    } in
    subst (λ (p : List ℕ × Rest). TakesItem size rest conditions p.0 p.1) t.1 here

-- an item that stands at the front is read
pub item_again : (size at : ℕ) (text more : List ℕ) (conditions : List ℕ → Conditions) → length text ≡ size → NoneHolds (conditions text)
    → item size (record { at = at; bytes = text ++ more }) conditions ≡ Ok (text, record { at = at + size; bytes = more })
unfolding item
item_again size at text more conditions size_is none =
    let long : nat_lt (length (text ++ more)) size ≡ false = le-ltb _ _ (omega (arith, length-append text more)) in
    rw (long, take_at text more size size_is, drop_at text more size size_is) (refused_first_again (conditions text) (text, record { at = at + size; bytes = more }) none)

-- the refusal of an item is that of its end or of a condition
pub item_not_memory : (size : ℕ) (rest : Rest) (conditions : List ℕ → Conditions) → ((text : List ℕ) → AreNotMemory (conditions text)) → is_memory (item size rest conditions) ≡ false
unfolding item
item_not_memory size rest conditions not_memory =
    either (nat_lt (length rest.bytes) size) _ (refused_first_not_memory (conditions (take size rest.bytes)) (take size rest.bytes, record { at = rest.at + size; bytes = drop size rest.bytes }) (not_memory (take size rest.bytes)))
  where
    either : {A : Type 0} (b : Bool) (r : Result A CodeRefusal) → is_memory r ≡ false → is_memory (if b then Err (Truncated rest.at) else r) ≡ false
    either true r h = refl
    either false r h = h

-- ---- readers one after another

-- nothing is read
pub empty_reader : {Z : Type 0} (z : Z) → IsReader (λ rest. Ok (z, rest)) (λ x. []) (λ x. x ≡ z)
empty_reader {Z} z = record {
  takes = λ rest x left fits e.
      let same = ok_is (z, rest) (x, left) e in
      subst (λ (p : Z × Rest). Takes rest [] p.1 × (p.0 ≡ z)) same (Takes-none rest fits, refl);
  again = λ at more x is. rw (is, add-zero) refl;
  not_memory = λ rest. refl;
}

-- one reader and then another, in view of what the first one read
pub then_reader : {X Z : Type 0} {read : Rest → Reading X} {spell : X → List ℕ} {Fits : X → Type 0} {read_more : X → Rest → Reading Z} {spell_more : X → Z → List ℕ} {FitsMore : X → Z → Type 0}
    (first : Z → X) → IsReader read spell Fits → ((x : X) → IsReader (read_more x) (spell_more x) (FitsMore x)) → ((x : X) (z : Z) → Fits x → FitsMore x z → first z ≡ x)
    → IsReader (λ rest. read rest >>= λ x. read_more x.0 x.1) (λ z. spell (first z) ++ spell_more (first z) z) (λ z. Fits (first z) × FitsMore (first z) z)
then_reader {X} {Z} {read} {spell} {Fits} {read_more} {spell_more} {FitsMore} first one other first_is = record {
  takes = λ rest z left fits e.
      let b = bind_ok (read rest) (λ x. read_more x.0 x.1) (z, left) e in
      let t = one.takes rest b.0.0 b.0.1 fits b.1 in
      let u = (other b.0.0).takes b.0.1 z left t.0.left_fits b.2 in
      subst (λ (x : X). Takes rest (spell x ++ spell_more x z) left × (Fits x × FitsMore x z)) (sym (first_is b.0.0 z t.1 u.1))
      (Takes-then rest (spell b.0.0) b.0.1 (spell_more b.0.0 z) left t.0 u.0, (t.1, u.1));
  again = λ at more z fits.
      let x = first z in
      let regrouped : (spell x ++ spell_more x z) ++ more ≡ spell x ++ (spell_more x z ++ more) = append_assoc (spell x) (spell_more x z) more in
      let begins = one.again at (spell_more x z ++ more) x fits.0 in
      let ends = (other x).again (at + length (spell x)) more z fits.1 in
      let place : (at + length (spell x)) + length (spell_more x z) ≡ at + length (spell x ++ spell_more x z) = omega (arith, length-append (spell x) (spell_more x z)) in
      ap (λ (bytes : List ℕ). read (record { at = at; bytes = bytes }) >>= λ x. read_more x.0 x.1) regrouped
      ∙ ap (λ (r : Reading X). r >>= λ x. read_more x.0 x.1) begins
      ∙ ends
      ∙ ap (λ (n : ℕ). ok_of (z, record { at = n; bytes = more })) place;
  not_memory = λ rest. bind_not_memory (read rest) (λ x. read_more x.0 x.1) (one.not_memory rest) (λ x. (other x.0).not_memory x.1);
}

-- the same reader, in other words
pub same_reader : {X : Type 0} {read : Rest → Reading X} {spell spell' : X → List ℕ} {Fits Fits' : X → Type 0} → IsReader read spell Fits
    → ((x : X) → Fits x → spell x ≡ spell' x) → ((x : X) → Fits x → Fits' x) → ((x : X) → Fits' x → Fits x) → IsReader read spell' Fits'
same_reader {X} {read} {spell} {spell'} {Fits} {Fits'} reader same_text to from = record {
  takes = λ rest x left fits e.
      let t = reader.takes rest x left fits e in
      (subst (λ (text : List ℕ). Takes rest text left) (same_text x t.1) t.0, to x t.1);
  again = λ at more x fits.
      subst (λ (text : List ℕ). read (record { at = at; bytes = text ++ more }) ≡ Ok (x, record { at = at + length text; bytes = more }))
      (same_text x (from x fits)) (reader.again at more x (from x fits));
  not_memory = reader.not_memory;
}

-- ---- a part for each, in view of the earlier ones

-- what each part has to be, for each of these in view of the earlier parts
abbrev pub FitsAfter : {X Y : Type 0} → (List Y → X → Y → Type 0) → List Y → List X → List Y → Type 0
FitsAfter Fits earlier [] [] = Unit {0}
FitsAfter Fits earlier (x ∷ xs) (y ∷ ys) = Fits earlier x y × FitsAfter Fits (earlier ++ y ∷ []) xs ys
FitsAfter Fits earlier [] (y ∷ ys) = ⊥
FitsAfter Fits earlier (x ∷ xs) [] = ⊥

-- parts as a text, each spelled in view of the earlier ones
abbrev pub spelled_after : {Y : Type 0} → (List Y → Y → List ℕ) → List Y → List Y → List ℕ
spelled_after spell earlier [] = []
spelled_after spell earlier (y ∷ ys) = spell earlier y ++ spelled_after spell (earlier ++ y ∷ []) ys

-- a further part for each of these was read
pub record TakesEach {X Y : Type 0} (spell : List Y → Y → List ℕ) (Fits : List Y → X → Y → Type 0) (xs : List X) (earlier : List Y) (rest : Rest) (all : List Y) (left : Rest) : Type 0 where
  pub further : List Y
  pub whole : all ≡ earlier ++ further
  pub fit : FitsAfter Fits earlier xs further
  pub takes : Takes rest (spelled_after spell earlier further) left

module _ {X Y : Type 0} (part : List Y → X → Rest → Reading Y) (spell : List Y → Y → List ℕ) (Fits : List Y → X → Y → Type 0) (each : (earlier : List Y) (x : X) → IsReader (part earlier x) (spell earlier) (Fits earlier x)) where
  -- parts that were read were taken from the front
  each_after_takes : (xs : List X) (earlier : List Y) (rest : Rest) (all : List Y) (left : Rest) → IsBytes rest.bytes
      → each_after_at part earlier xs rest ≡ Ok (all, left) → TakesEach spell Fits xs earlier rest all left
  unfolding each_after_at
  each_after_takes [] earlier rest all left fits e =
      let same = ok_is (earlier, rest) (all, left) e in
      let here : TakesEach spell Fits [] earlier rest earlier rest = record {
        further = [];
        whole = sym (append-nil earlier);
        fit = tt;
        takes = Takes-none rest fits;
      } in
      subst (λ (p : List Y × Rest). TakesEach spell Fits [] earlier rest p.0 p.1) same here
  each_after_takes (x ∷ xs) earlier rest all left fits e =
      let b = bind_ok (part earlier x rest) (λ one. each_after_at part (earlier ++ one.0 ∷ []) xs one.1) (all, left) e in
      let t = (each earlier x).takes rest b.0.0 b.0.1 fits b.1 in
      let u = each_after_takes xs (earlier ++ b.0.0 ∷ []) b.0.1 all left t.0.left_fits b.2 in
      record {
        further = b.0.0 ∷ u.further;
        whole = u.whole ∙ append_assoc earlier (b.0.0 ∷ []) u.further;
        fit = (t.1, u.fit);
        takes = Takes-then rest (spell earlier b.0.0) b.0.1 (spelled_after spell (earlier ++ b.0.0 ∷ []) u.further) left t.0 u.takes;
      }

  -- parts that stand at the front are read
  each_after_again : (xs : List X) (further earlier : List Y) (at : ℕ) (more : List ℕ) → FitsAfter Fits earlier xs further
      → each_after_at part earlier xs (record { at = at; bytes = spelled_after spell earlier further ++ more }) ≡ Ok (earlier ++ further, record { at = at + length (spelled_after spell earlier further); bytes = more })
  unfolding each_after_at
  each_after_again [] [] earlier at more fit = rw (append-nil earlier, add-zero) refl
  each_after_again [] (y ∷ further) earlier at more fit = absurd fit
  each_after_again (x ∷ xs) [] earlier at more fit = absurd fit
  each_after_again (x ∷ xs) (y ∷ further) earlier at more fit =
      let others = spelled_after spell (earlier ++ y ∷ []) further in
      let regrouped : (spell earlier y ++ others) ++ more ≡ spell earlier y ++ (others ++ more) = append_assoc (spell earlier y) others more in
      let begins = (each earlier x).again at (others ++ more) y fit.0 in
      let ends = each_after_again xs further (earlier ++ y ∷ []) (at + length (spell earlier y)) more fit.1 in
      let place : (at + length (spell earlier y)) + length others ≡ at + length (spell earlier y ++ others) = omega (arith, length-append (spell earlier y) others) in
      ap (λ (bytes : List ℕ). part earlier x (record { at = at; bytes = bytes }) >>= λ one. each_after_at part (earlier ++ one.0 ∷ []) xs one.1) regrouped
      ∙ ap (λ (r : Reading Y). r >>= λ one. each_after_at part (earlier ++ one.0 ∷ []) xs one.1) begins
      ∙ ends
      ∙ ap (λ (n : ℕ). ok_of ((earlier ++ y ∷ []) ++ further, record { at = n; bytes = more })) place
      ∙ ap (λ (all : List Y). ok_of (all, record { at = at + length (spell earlier y ++ others); bytes = more })) (append_assoc earlier (y ∷ []) further)

  -- the refusal of parts is that of one of them
  each_after_not_memory : (xs : List X) (earlier : List Y) (rest : Rest) → is_memory (each_after_at part earlier xs rest) ≡ false
  unfolding each_after_at
  each_after_not_memory [] earlier rest = refl
  each_after_not_memory (x ∷ xs) earlier rest =
      bind_not_memory (part earlier x rest) (λ one. each_after_at part (earlier ++ one.0 ∷ []) xs one.1) ((each earlier x).not_memory rest) (λ one. each_after_not_memory xs (earlier ++ one.0 ∷ []) one.1)

  -- a part for each of these behind the earlier ones
  pub each_after_reader : (xs : List X) (earlier : List Y) → IsReader (each_after_at part earlier xs) (λ all. spelled_after spell earlier (drop (length earlier) all))
      (λ all. (all ≡ earlier ++ drop (length earlier) all) × FitsAfter Fits earlier xs (drop (length earlier) all))
  each_after_reader xs earlier = record {
    takes = λ rest all left fits e.
        let t = each_after_takes xs earlier rest all left fits e in
        let behind : t.further ≡ drop (length earlier) all = sym (drop_at earlier t.further (length earlier) refl) ∙ ap (λ (ys : List Y). drop (length earlier) ys) (sym t.whole) in
        subst (λ (ys : List Y). Takes rest (spelled_after spell earlier ys) left × ((all ≡ earlier ++ ys) × FitsAfter Fits earlier xs ys)) behind (t.takes, (t.whole, t.fit));
    again = λ at more all fit.
        let further = drop (length earlier) all in
        each_after_again xs further earlier at more fit.1 ∙ ap (λ (ys : List Y). ok_of (ys, record { at = at + length (spelled_after spell earlier further); bytes = more })) (sym fit.0);
    not_memory = each_after_not_memory xs earlier;
  }

-- parts that are spelled alike behind any others
spelled_alike : {Y : Type 0} (spell : Y → List ℕ) (earlier ys : List Y) → spelled_after (λ _. spell) earlier ys ≡ flat_map spell ys
spelled_alike spell earlier [] = refl
spelled_alike spell earlier (y ∷ ys) = ap (λ (t : List ℕ). spell y ++ t) (spelled_alike spell (earlier ++ y ∷ []) ys)

-- ---- so many parts

-- what each item has to be in view of the earlier ones
abbrev pub AllAfter : {X : Type 0} → (List X → X → Type 0) → List X → List X → Type 0
AllAfter Fits earlier [] = Unit {0}
AllAfter Fits earlier (x ∷ xs) = Fits earlier x × AllAfter Fits (earlier ++ x ∷ []) xs

module _ {X : Type 0} (Fits : List X → X → Type 0) where
  -- items that are parts for so many nothings
  AllAfter-from_fits : (count : ℕ) (earlier further : List X) → FitsAfter (λ earlier (nothing : Unit {0}). Fits earlier) earlier (replicate count tt) further → (length further ≡ count) × AllAfter Fits earlier further
  AllAfter-from_fits zero earlier [] fit = (refl, tt)
  AllAfter-from_fits zero earlier (x ∷ further) fit = absurd fit
  AllAfter-from_fits (suc count) earlier [] fit = absurd fit
  AllAfter-from_fits (suc count) earlier (x ∷ further) fit =
      let others = AllAfter-from_fits count (earlier ++ x ∷ []) further fit.1 in
      (ap suc others.0, (fit.0, others.1))

  -- and the other way round
  FitsAfter-from_all : (earlier further : List X) → AllAfter Fits earlier further → FitsAfter (λ earlier (nothing : Unit {0}). Fits earlier) earlier (replicate (length further) tt) further
  FitsAfter-from_all earlier [] fit = tt
  FitsAfter-from_all earlier (x ∷ further) fit = (fit.0, FitsAfter-from_all (earlier ++ x ∷ []) further fit.1)

-- so many items behind the earlier ones
pub repeated_reader : {X : Type 0} (part : List X → Rest → Reading X) (spell : X → List ℕ) (Fits : List X → X → Type 0) → ((earlier : List X) → IsReader (part earlier) spell (Fits earlier)) → (count : ℕ) (earlier : List X)
    → IsReader (repeated_at part count earlier) (λ all. flat_map spell (drop (length earlier) all))
    (λ all. (length (drop (length earlier) all) ≡ count) × ((all ≡ earlier ++ drop (length earlier) all) × AllAfter Fits earlier (drop (length earlier) all)))
repeated_reader {X} part spell Fits each count earlier =
    same_reader (each_after_reader (λ earlier _. part earlier) (λ _. spell) (λ earlier (nothing : Unit {0}). Fits earlier) (λ earlier _. each earlier) (replicate count tt) earlier)
    (λ all fit. spelled_alike spell earlier (drop (length earlier) all))
    (λ all fit.
    let are = AllAfter-from_fits Fits count earlier (drop (length earlier) all) fit.1 in
    (are.0, (fit.0, are.1)))
    (λ all fit. (fit.1.0, subst (λ (n : ℕ). FitsAfter (λ earlier (nothing : Unit {0}). Fits earlier) earlier (replicate n tt) (drop (length earlier) all)) fit.0 (FitsAfter-from_all Fits earlier (drop (length earlier) all) fit.1.1)))

-- ---- a part for each

-- each item of the second list fits that of the first
abbrev pub EachFits : {X Y : Type 0} → (X → Y → Type 0) → List X → List Y → Type 0
EachFits Fits [] [] = Unit {0}
EachFits Fits (x ∷ xs) (y ∷ ys) = Fits x y × EachFits Fits xs ys
EachFits Fits [] (y ∷ ys) = ⊥
EachFits Fits (x ∷ xs) [] = ⊥

module _ {X Y : Type 0} (Fits : X → Y → Type 0) where
  -- parts that fit whatever stands before them
  EachFits-from_after : (earlier : List Y) (xs : List X) (ys : List Y) → FitsAfter (λ _. Fits) earlier xs ys → EachFits Fits xs ys
  EachFits-from_after earlier [] [] fit = tt
  EachFits-from_after earlier [] (y ∷ ys) fit = absurd fit
  EachFits-from_after earlier (x ∷ xs) [] fit = absurd fit
  EachFits-from_after earlier (x ∷ xs) (y ∷ ys) fit = (fit.0, EachFits-from_after (earlier ++ y ∷ []) xs ys fit.1)

  -- and the other way round
  FitsAfter-from_each : (earlier : List Y) (xs : List X) (ys : List Y) → EachFits Fits xs ys → FitsAfter (λ _. Fits) earlier xs ys
  FitsAfter-from_each earlier [] [] fit = tt
  FitsAfter-from_each earlier [] (y ∷ ys) fit = absurd fit
  FitsAfter-from_each earlier (x ∷ xs) [] fit = absurd fit
  FitsAfter-from_each earlier (x ∷ xs) (y ∷ ys) fit = (fit.0, FitsAfter-from_each (earlier ++ y ∷ []) xs ys fit.1)

-- a part for each of these
pub each_reader : {X Y : Type 0} (part : X → Rest → Reading Y) (spell : Y → List ℕ) (Fits : X → Y → Type 0) → ((x : X) → IsReader (part x) spell (Fits x)) → (xs : List X) → IsReader (each_at part xs) (flat_map spell) (EachFits Fits xs)
each_reader part spell Fits each xs =
    same_reader (each_after_reader (λ _. part) (λ _. spell) (λ _. Fits) (λ _. each) xs [])
    (λ ys fit. spelled_alike spell [] ys)
    (λ ys fit. EachFits-from_after Fits [] xs ys fit.1)
    (λ ys fit. (refl, FitsAfter-from_each Fits [] xs ys fit))
