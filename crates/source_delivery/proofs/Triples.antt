-- What holds of three things, by what they are.
use Rattle.std.proofs.Common.{◌≡◌, subst}

-- what holds of three things holds of those that they are
pub subst-three : {A B C : Type 0} (D : A → B → C → Type 0) {a a' : A} {b b' : B} {c c' : C} → a ≡ a' → b ≡ b' → c ≡ c' → D a b c → D a' b' c'
subst-three D {a' = a'} {b = b} {b' = b'} {c = c} one two three holds =
    subst (λ c. D a' b' c) three (subst (λ b. D a' b c) two (subst (λ a. D a b c) one holds))
