use Rattle.std.proofs.Common.{◌≡◌, ℕ, true, false, ◌&&◌, List, [], ◌∷◌, drop, length, take, sym, ap, ◌∙◌}
use Rattle.std.specs.Prelude.{decimal}
use Rattle.std.specs.Str.{bytes_eq}
use Rattle.std.proofs.lemmas.Bool.{and_left, and_right}
use Rattle.net_reader.specs.Bundles.{made_name}
use Rattle.two_sources.proofs.NameLaws.{made_name-told}
use Rattle.two_sources.proofs.names.is_made_name.Goals as goal

-- where no point stands behind the bundle's name, the text is no made name
no_point : (text bundle behind : List ℕ) (number : ℕ) → behind ≡ drop (length bundle) text
    → bytes_eq (take 1 behind) (46 ∷ []) ≡ false → bytes_eq text (made_name bundle number) ≡ false
no_point text bundle behind number is other =
    made_name-told text bundle number
    ∙ and_right _ _ (and_left _ _ (ap (λ (l : List ℕ). bytes_eq (take 1 l) (46 ∷ [])) (sym is) ∙ other))

-- where one does, what stands behind it decides
by_digits : (text bundle behind last written : List ℕ) (number : ℕ) → bytes_eq (take (length bundle) text) bundle ≡ true
    → behind ≡ drop (length bundle) text → bytes_eq (take 1 behind) (46 ∷ []) ≡ true → last ≡ drop 1 behind
    → written ≡ decimal number → bytes_eq last written ≡ bytes_eq text (made_name bundle number)
by_digits text bundle behind last written number begins is point rest digits =
    (λ i. bytes_eq (rest i) (digits i))
    ∙ (λ i. sym begins i && (sym point i && bytes_eq (drop 1 behind) (decimal number)))
    ∙ (λ i. bytes_eq (take (length bundle) text) bundle
    && (bytes_eq (take 1 (is i)) (46 ∷ []) && bytes_eq (drop 1 (is i)) (decimal number)))
    ∙ sym (made_name-told text bundle number)

pub returns-in_default : goal.returns-in_default
returns-in_default c =
    sym (made_name-told c.args.name.now c.args.bundle.now c.args.number ∙ and_left _ _ c.in_default.ensures.cases)

pub returns-in_default-strip_prefix : goal.returns-in_default-strip_prefix
returns-in_default-strip_prefix c =
    let behind = c.in-Some.behind.now in
    sym (no_point c.args.name.now c.args.bundle.now behind c.args.number c.in-Some.ensures.cases.1 c.in_default-strip_prefix.ensures.cases)

pub returns : goal.returns
returns c =
    let begins = c.in-Some.ensures.cases in
    let point = c.in-Some-strip_prefix.ensures.cases in
    c.eq.ensures
    ∙ by_digits c.args.name.now c.args.bundle.now c.in-Some.behind.now _ _ c.args.number begins.0 begins.1 point.0 point.1
    (c.as_bytes-digits.ensures.value ∙ c.format.ensures.text)
