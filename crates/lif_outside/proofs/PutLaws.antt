-- What follows of a text that was put, all of it or a part.
use Rattle.std.specs.Prelude.{◌≡◌, ◌+◌, ◌||◌, ℕ, List, [], ◌∷◌, ◌++◌, Result, Ok, Err, OnOk, OnErr, min, length, take, true, false, Contains}
use Rattle.std.specs.List.{list_any}
use Rattle.std.proofs.Common.{refl, sym, ap, subst, ◌∙◌, arith}
use Rattle.std.proofs.Math.Seq.{take-append-add}
use Rattle.std.proofs.lemmas.Bool.{false≢true}
use Rattle.std.proofs.lemmas.List.{append-nil, append_assoc, take_min, take-append-le}
use Rattle.std.proofs.lemmas.List.Elements.{Contains-push}
use Rattle.std.proofs.lemmas.List.Folds.{list_any-append}
use Rattle.lif_outside.specs.declared.Failed.{Failed}
use Rattle.lif_outside.specs.Puts.{Put, said, put_failed, put_event, is_failed_put, Grow, bytes_said, SaysAll, SaysPart}

-- one put, by its answer
pub says_all-once : (line : List ℕ) (result : Result Unit Failed) → OnOk result (SaysAll line (put_event line result ∷ []))
says_all-once line (Ok done) = record { done = refl; all = append-nil line }
says_all-once line (Err why) = tt

pub says_part-once : (line : List ℕ) (result : Result Unit Failed) → OnErr result (SaysPart line (put_event line result ∷ []))
says_part-once line (Ok done) = tt
says_part-once line (Err why) = record { front = []; piece = line; rest = []; puts_are = refl; done = refl; part = append-nil line }

-- what was said by puts, and then by more
pub bytes_said-append : (first later : List Put) → bytes_said (first ++ later) ≡ bytes_said first ++ bytes_said later
bytes_said-append [] later = refl
bytes_said-append (said bytes ∷ first) later = ap (λ rest. bytes ++ rest) (bytes_said-append first later) ∙ sym (append_assoc bytes (bytes_said first) (bytes_said later))
bytes_said-append (put_failed bytes ∷ first) later = bytes_said-append first later

-- puts that were all done, and then more
failed_behind : (first later : List Put) → list_any is_failed_put first ≡ false → list_any is_failed_put (first ++ later) ≡ list_any is_failed_put later
failed_behind first later done = list_any-append is_failed_put first later ∙ ap (λ failed. failed || list_any is_failed_put later) done

-- one text, and then another
pub says_all-append : (a b : List ℕ) (first later : List Put) → SaysAll a first → SaysAll b later → SaysAll (a ++ b) (first ++ later)
says_all-append a b first later one other = record {
  done = failed_behind first later one.done ∙ other.done;
  all = bytes_said-append first later ∙ ap (λ front. front ++ bytes_said later) one.all ∙ ap (λ rest. a ++ rest) other.all;
}

-- a text that was put in part, where another should follow
pub says_part-more : (a b : List ℕ) (puts : List Put) → SaysPart a puts → SaysPart (a ++ b) puts
says_part-more a b puts says = record {
  front = says.front;
  piece = says.piece;
  rest = says.rest ++ b;
  puts_are = says.puts_are;
  done = says.done;
  part = ap (λ behind. bytes_said says.front ++ behind) (sym (append_assoc says.piece says.rest b)) ∙ sym (append_assoc (bytes_said says.front) (says.piece ++ says.rest) b) ∙ ap (λ text. text ++ b) says.part;
}

-- one text, and then another in part
pub says_part-append : (a b : List ℕ) (first later : List Put) → SaysAll a first → SaysPart b later → SaysPart (a ++ b) (first ++ later)
says_part-append a b first later one other = record {
  front = first ++ other.front;
  piece = other.piece;
  rest = other.rest;
  puts_are = ap (λ puts. first ++ puts) other.puts_are ∙ sym (append_assoc first other.front (put_failed other.piece ∷ []));
  done = failed_behind first other.front one.done ∙ other.done;
  part = let behind = other.piece ++ other.rest in
      ap (λ front. front ++ behind) (bytes_said-append first other.front) ∙ append_assoc (bytes_said first) (bytes_said other.front) behind ∙ ap (λ front. front ++ (bytes_said other.front ++ behind)) one.all ∙ ap (λ rest. a ++ rest) other.part;
}

-- the puts of two lists are those of the first, and then those of the other
pub grow-split : (first later : List Put) (a c : List ℕ) → Grow (first ++ later) a c → (b : List ℕ) × Grow first a b × Grow later b c
grow-split [] later a c h = (a, refl, h)
grow-split (said bytes ∷ first) later a c h = grow-split first later (a ++ bytes) c h
grow-split (put_failed bytes ∷ first) later a c h = let rest = grow-split first later (a ++ take h.0 bytes) c h.1 in (rest.0, (h.0, rest.1), rest.2)

-- puts that were all done add what they said
grow_done : (puts : List Put) (old new : List ℕ) → list_any is_failed_put puts ≡ false → Grow puts old new → new ≡ old ++ bytes_said puts
grow_done [] old new done h = h ∙ sym (append-nil old)
grow_done (said bytes ∷ puts) old new done h = grow_done puts (old ++ bytes) new done h ∙ append_assoc old bytes (bytes_said puts)
grow_done (put_failed bytes ∷ puts) old new done h = absurd (false≢true (sym done))

-- a text that was put is added
pub says_all-grow : (text : List ℕ) (puts : List Put) (old new : List ℕ) → SaysAll text puts → Grow puts old new → new ≡ old ++ text
says_all-grow text puts old new says h = grow_done puts old new says.done h ∙ ap (λ bytes. old ++ bytes) says.all

-- a front of a list and a prefix of what follows are a prefix of the list
pub take-behind : (front piece rest : List ℕ) (kept : ℕ) → front ++ take kept piece ≡ take (length front + min kept (length piece)) (front ++ (piece ++ rest))
take-behind front piece rest kept =
    let least : ℕ = min kept (length piece) in
    let cut : take kept piece ≡ take least piece = sym (take_min kept piece) in
    let within : take least (piece ++ rest) ≡ take least piece = take-append-le least piece rest (omega arith) in
    ap (λ more. front ++ more) (cut ∙ sym within) ∙ sym (take-append-add front (piece ++ rest) least)

-- a text that was put in part adds a prefix
pub says_part-grow : (text : List ℕ) (puts : List Put) (old new : List ℕ) → SaysPart text puts → Grow puts old new → (kept : ℕ) × (new ≡ old ++ take kept text)
says_part-grow text puts old new says h =
    let parts = grow-split says.front (put_failed says.piece ∷ []) old new (subst (λ these. Grow these old new) says.puts_are h) in
    let front = bytes_said says.front in
    let kept = length front + min parts.2.0 (length says.piece) in
    let part : front ++ take parts.2.0 says.piece ≡ take kept text = take-behind front says.piece says.rest parts.2.0 ∙ ap (take kept) says.part in
    (kept, parts.2.1 ∙ ap (λ bytes. bytes ++ take parts.2.0 says.piece) (grow_done says.front old parts.0 says.done parts.1) ∙ append_assoc old front (take parts.2.0 says.piece) ∙ ap (λ bytes. old ++ bytes) part)

pub says_part-failed : (text : List ℕ) (puts : List Put) → SaysPart text puts → list_any is_failed_put puts ≡ true
says_part-failed text puts says = ap (list_any is_failed_put) says.puts_are ∙ failed_behind says.front _ says.done

-- the put that failed is among the puts
pub says_part-there : (text : List ℕ) (puts : List Put) → (says : SaysPart text puts) → Contains puts (put_failed says.piece)
says_part-there text puts says = subst (λ these. Contains these (put_failed says.piece)) (sym says.puts_are) (Contains-push says.front (put_failed says.piece))
