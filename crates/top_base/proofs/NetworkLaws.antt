-- Networks as inputs: a text is that of one network without a cycle, or is refused in one way.
use Rattle.std.specs.Prelude.{◌≡◌, ℕ, List, IsTrue}
use Rattle.std.proofs.Common.{refl, sym, ap, subst, ◌∙◌}
use Rattle.net_model.specs.Walks.{IsAcyclic}
use Rattle.net_model.specs.declared.net.Net.{Net}
use Rattle.top_base.proofs.InputLaws.{IsInput}
use Rattle.top_base.specs.Inputs.{is_refusal}
use Rattle.net_reader.specs.Text.{net_limit}
use Rattle.top_base.specs.Networks.{IsNetOf, RefusesNet}
use Rattle.top_base.specs.Outcome.{AreAlike}
use Rattle.net_reader.proofs.SameNet.{same_net}
use Rattle.top_base.specs.declared.status.NetWhy.TheVariants.{Text, Cycle}
use Rattle.top_base.specs.declared.status.Status.{Status}
use Rattle.top_base.specs.declared.status.Status.TheVariants.{NetRefused}

-- texts are refused by a refusal
kind : (text : List ℕ) (status : Status) (line : List ℕ) → RefusesNet text status line → IsTrue (is_refusal status)
kind text (NetRefused (Text why)) line refused = refl
kind text (NetRefused (Cycle cycle)) line refused = refl
kind text status line refused = absurd refused

-- a text stands for one network
same : (text : List ℕ) (one other : Net) → IsNetOf text one → IsNetOf text other → one ≡ other
same text one other is_one is_other =
    let says = sym is_one.stands_for ∙ is_other.stands_for in
    same_net one other (cc)

-- the text of a network without a cycle isn't refused
apart : (text : List ℕ) (net : Net) (status : Status) (line : List ℕ) → IsNetOf text net → RefusesNet text status line → ⊥
apart text net (NetRefused (Text why)) line is refused = let says = sym is.stands_for ∙ refused.0 in cc
apart text net (NetRefused (Cycle cycle)) line is refused =
    let says = sym is.stands_for ∙ refused.1 in
    let one : net ≡ refused.0 = same_net net refused.0 (cc) in
    subst (λ (n : Net). IsAcyclic n.links) one is.acyclic cycle refused.2.is_cycle
apart text net status line is refused = absurd refused

-- texts are refused in one way
alike : (text : List ℕ) (status : Status) (line : List ℕ) (status' : Status) (line' : List ℕ) → RefusesNet text status line → RefusesNet text status' line' → AreAlike status status'
alike text (NetRefused (Text why)) line (NetRefused (Text why')) line' one other =
    let says = sym one.0 ∙ other.0 in
    let same : why ≡ why' = cc in
    ap (λ w. NetRefused (Text w)) same
alike text (NetRefused (Text why)) line (NetRefused (Cycle cycle)) line' one other = let says = sym one.0 ∙ other.1 in absurd (cc)
alike text (NetRefused (Cycle cycle)) line (NetRefused (Text why)) line' one other = let says = sym one.1 ∙ other.0 in absurd (cc)
alike text (NetRefused (Cycle cycle)) line (NetRefused (Cycle cycle')) line' one other = refl
alike text (NetRefused why) line status' line' one other = absurd other
alike text status line status' line' one other = absurd one

-- what has to be known of a network as an input
pub net_input : IsInput net_limit IsNetOf RefusesNet
net_input = record { kind = kind; same = same; apart = apart; alike = alike }
