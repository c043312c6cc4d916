-- Texts that are put one after another, all of them or in part.
use Rattle.std.proofs.Common.{◌++◌, ◌∷◌, [], ℕ, List, Ok, Err}
use Rattle.lif_outside.specs.Calls.{ByCalls}
use Rattle.lif_outside.proofs.CallLaws.{calls_of, calls_then, calls_weaker}
use Rattle.lif_outside.specs.Puts.{Put, said, put_failed, SaysAll, SaysPart}
use Rattle.lif_outside.proofs.PutLaws.{says_all-once, says_all-append, says_part-once, says_part-append, says_part-more}
use Rattle.lif_outside.specs.declared.Failed.{Failed}

module _ {C : Type 0} {puts : List Put → C → C → Type 0} where
  -- one put
  pub put_all : {a b : C} (text : List ℕ) → puts (said text ∷ []) a b → ByCalls puts a b (SaysAll text)
  put_all text put = calls_of (SaysAll text) (said text ∷ []) put (says_all-once text (Ok tt))

  pub put_part : {a b : C} (text : List ℕ) (why : Failed) → puts (put_failed text ∷ []) a b → ByCalls puts a b (SaysPart text)
  put_part text why put = calls_of (SaysPart text) (put_failed text ∷ []) put (says_part-once text (Err why))

  -- a text of which a part was put is a front
  pub part_of_front : {a b : C} (front back : List ℕ) → ByCalls puts a b (SaysPart front) → ByCalls puts a b (SaysPart (front ++ back))
  part_of_front front back by = calls_weaker (SaysPart front) (SaysPart (front ++ back)) by (λ made says. says_part-more front back made says)

  -- one text, and then another
  pub all_then_all : ((first later : List Put) (a b c : C) → puts first a b → puts later b c → puts (first ++ later) a c)
      → {a b c : C} (front back : List ℕ) → ByCalls puts a b (SaysAll front) → ByCalls puts b c (SaysAll back) → ByCalls puts a c (SaysAll (front ++ back))
  all_then_all more front back one other = calls_then more (SaysAll front) (SaysAll back) (SaysAll (front ++ back)) one other (λ first later. says_all-append front back first later)

  pub all_then_part : ((first later : List Put) (a b c : C) → puts first a b → puts later b c → puts (first ++ later) a c)
      → {a b c : C} (front back : List ℕ) → ByCalls puts a b (SaysAll front) → ByCalls puts b c (SaysPart back) → ByCalls puts a c (SaysPart (front ++ back))
  all_then_part more front back one other = calls_then more (SaysAll front) (SaysPart back) (SaysPart (front ++ back)) one other (λ first later. says_part-append front back first later)
