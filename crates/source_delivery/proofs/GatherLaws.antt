-- Bytes that are gathered and carried window by window: what is left of them, and what was delivered.
use Rattle.std.specs.Prelude.{◌≡◌, ◌<◌, ◌≤◌, ◌+◌, ◌-◌, ◌*◌, ◌/◌, ℕ, Bool, List, [], ◌++◌, drop, length, slice_range, take, Result, Ok, Err, OnOk}
use Rattle.std.proofs.Common.{sym, ap, ◌∙◌, subst, arith}
use Rattle.std.proofs.Math.Nat.{add-mul, add-mul-div_right}
use Rattle.std.proofs.lemmas.Nat.{le-div}
use Rattle.std.proofs.Math.Seq.{take-add}
use Rattle.std.proofs.lemmas.List.{append_assoc, drop-append-le, drop-drop, drop_all, length-append, length-drop, take-append-drop}
use Rattle.generation_frame.specs.Blocks.{block_count, capacity}
use Rattle.lif_outside.specs.Calls.{Calls}
use Rattle.lif_outside.specs.Sequences.{Are}
use Rattle.node_program.specs.declared.code.Code.{Code}
use Rattle.source_delivery.proofs.CarriedLaws.{blocks_from-behind, blocks_from-front}
use Rattle.source_delivery.proofs.DeliveryLaws.{delivers-bytes, interrupts-bytes}
use Rattle.source_delivery.specs.Carried.{blocks_from}
use Rattle.source_delivery.specs.Delivering.{DeliversBlocks, InterruptsBlocks, InterruptsBytes, IsBehind, calls_join}
use Rattle.source_delivery.specs.Turns.{Outputs}
use Rattle.source_delivery.specs.declared.delivery.DeliveryFault.{DeliveryFault}

-- nothing was carried of bytes that are left
pub behind-none : (rate : ℕ) (bytes : List ℕ) → IsBehind rate 0 bytes bytes
behind-none rate bytes =
    let none : 0 * capacity rate ≡ 0 = omega arith in
    record { whole = omega (arith, none); left_is = sym (ap (λ n. drop n bytes) none) }

-- bytes that come are left too
pub behind-more : (rate blocks : ℕ) (bytes left more : List ℕ) → IsBehind rate blocks bytes left → IsBehind rate blocks (bytes ++ more) (left ++ more)
behind-more rate blocks bytes left more is = record {
  whole = omega (arith, is.whole, length-append bytes more);
  left_is = ap (λ left. left ++ more) is.left_is ∙ sym (drop-append-le (blocks * capacity rate) bytes more is.whole);
}

-- and where some blocks more were carried, what is left of what was left
pub behind-then : (rate blocks others : ℕ) (bytes left rest : List ℕ) → IsBehind rate blocks bytes left → IsBehind rate others left rest → IsBehind rate (blocks + others) bytes rest
behind-then rate blocks others bytes left rest is other =
    let size = capacity rate in
    let sum : (blocks + others) * size ≡ blocks * size + others * size = add-mul blocks others size in
    let long : length left ≡ length bytes - blocks * size = ap length is.left_is ∙ length-drop (blocks * size) bytes in
    record {
      whole = omega (arith, is.whole, other.whole, sum, long);
      left_is = other.left_is ∙ ap (drop (others * size)) is.left_is ∙ drop-drop (others * size) (blocks * size) bytes ∙ ap (λ n. drop n bytes) (sym sum);
    }

-- where all were carried, nothing is
pub behind-all : (rate blocks : ℕ) (bytes : List ℕ) → length bytes ≡ blocks * capacity rate → IsBehind rate blocks bytes []
behind-all rate blocks bytes all = record { whole = omega (arith, all); left_is = sym (drop_all (blocks * capacity rate) bytes (omega (arith, all))) }

-- the blocks of what is left are those behind the blocks that were carried
pub left-blocks : (rate blocks count : ℕ) (bytes left : List ℕ) → IsBehind rate blocks bytes left → blocks_from left rate 0 count ≡ blocks_from bytes rate blocks count
left-blocks rate blocks count bytes left is =
    let start : blocks + 0 ≡ blocks = omega arith in
    ap (λ left. blocks_from left rate 0 count) is.left_is ∙ blocks_from-behind bytes rate blocks 0 count ∙ ap (λ n. blocks_from bytes rate n count) start

-- the blocks that were carried don't change by the bytes that come
pub same-blocks : (rate blocks : ℕ) (bytes left more : List ℕ) → IsBehind rate blocks bytes left → blocks_from (bytes ++ more) rate 0 blocks ≡ blocks_from bytes rate 0 blocks
same-blocks rate blocks bytes left more is =
    let start : (0 + blocks) * capacity rate ≡ blocks * capacity rate = ap (λ n. n * capacity rate) (omega arith) in
    blocks_from-front bytes more rate 0 blocks (omega (arith, start, is.whole))

module _ (faithful : Bool) (code : Code) (pattern : ℕ) (outputs : Outputs) (known : pattern < length code.net.patterns) (first blocks count : ℕ) (bytes left : List ℕ)
    (is : IsBehind code.rate blocks bytes left) (front later : Calls)
    (some : DeliversBlocks faithful code pattern outputs first (blocks_from bytes code.rate 0 blocks) Are front) where
  -- blocks of what was left were delivered
  pub left-delivered : DeliversBlocks faithful code pattern outputs (first + blocks) (blocks_from left code.rate 0 count) Are later
      → DeliversBlocks faithful code pattern outputs first (blocks_from bytes code.rate 0 (blocks + count)) Are (calls_join front later)
  left-delivered more =
      delivers-bytes faithful code pattern outputs known first bytes blocks count front later some
      (subst (λ those. DeliversBlocks faithful code pattern outputs (first + blocks) those Are later) (left-blocks code.rate blocks count bytes left is) more)

  -- or they weren't
  pub left-interrupted : (all : ℕ) → blocks + count ≤ all → (why : DeliveryFault)
      → InterruptsBlocks faithful code pattern outputs (first + blocks) (blocks_from left code.rate 0 count) why later
      → InterruptsBytes faithful code pattern outputs first bytes all why (calls_join front later)
  left-interrupted all within why broken =
      interrupts-bytes faithful code pattern outputs known first bytes blocks count front later some all within why
      (subst (λ those. InterruptsBlocks faithful code pattern outputs (first + blocks) those why later) (left-blocks code.rate blocks count bytes left is) broken)

-- ---- the bytes so far

-- bytes up to a place, and then on to another
pub range-behind : (front bytes : List ℕ) (from end : ℕ) → from ≤ end → front ++ take end bytes ≡ (front ++ take from bytes) ++ slice_range bytes from end
range-behind front bytes from end on =
    let sum : end ≡ from + (end - from) = omega arith in
    ap (λ n. front ++ take n bytes) sum ∙ ap (λ some. front ++ some) (take-add from (end - from) bytes) ∙ sym (append_assoc front (take from bytes) (slice_range bytes from end))

-- and up to the end
pub rest-behind : (front bytes : List ℕ) (from : ℕ) → front ++ bytes ≡ (front ++ take from bytes) ++ drop from bytes
rest-behind front bytes from =
    ap (λ bytes. front ++ bytes) (sym (take-append-drop from bytes)) ∙ sym (append_assoc front (take from bytes) (drop from bytes))

-- where blocks of what is left aren't delivered, whatever bytes follow
pub rest-interrupted : (faithful : Bool) (code : Code) (pattern : ℕ) (outputs : Outputs) → pattern < length code.net.patterns → (first blocks count : ℕ) (bytes left rest : List ℕ)
    → IsBehind code.rate blocks bytes left → count * capacity code.rate ≤ length left → (front later : Calls) (why : DeliveryFault)
    → DeliversBlocks faithful code pattern outputs first (blocks_from bytes code.rate 0 blocks) Are front
    → InterruptsBlocks faithful code pattern outputs (first + blocks) (blocks_from left code.rate 0 count) why later
    → InterruptsBytes faithful code pattern outputs first (bytes ++ rest) (length (bytes ++ rest) / capacity code.rate) why (calls_join front later)
rest-interrupted faithful code pattern outputs known first blocks count bytes left rest is full front later why some broken =
    let rate = code.rate in
    let size = capacity rate in
    let some_rate : 1 ≤ rate = code.code.draft.some_rate in
    let start : (0 + count) * size ≡ count * size = ap (λ n. n * size) (omega arith) in
    let sum : (blocks + count) * size ≡ blocks * size + count * size = add-mul blocks count size in
    let long : length left ≡ length bytes - blocks * size = ap length is.left_is ∙ length-drop (blocks * size) bytes in
    let within : blocks + count ≤ length (bytes ++ rest) / size =
    le-div (blocks + count) (length (bytes ++ rest)) size (omega (arith, some_rate)) (omega (arith, sum, long, is.whole, full, length-append bytes rest)) in
    left-interrupted faithful code pattern outputs known first blocks count (bytes ++ rest) (left ++ rest) (behind-more rate blocks bytes left rest is) front later
    (subst (λ those. DeliversBlocks faithful code pattern outputs first those Are front) (sym (same-blocks rate blocks bytes left rest is)) some)
    (length (bytes ++ rest) / size) within why
    (subst (λ those. InterruptsBlocks faithful code pattern outputs (first + blocks) those why later) (sym (blocks_from-front left rest rate 0 count (omega (arith, start, full)))) broken)

-- the blocks of the bytes, where the last ones aren't whole, are those that were carried and those of what is left
pub count-left : (code : Code) (blocks : ℕ) (bytes left : List ℕ) → IsBehind code.rate blocks bytes left → blocks + block_count left code.rate ≡ block_count bytes code.rate
count-left code blocks bytes left is =
    let size = capacity code.rate in
    let some_rate : 1 ≤ code.rate = code.code.draft.some_rate in
    let some : 0 < size = omega (arith, some_rate) in
    let long : length left ≡ length bytes - blocks * size = ap length is.left_is ∙ length-drop (blocks * size) bytes in
    let all : length bytes ≡ length left + blocks * size = omega (arith, long, is.whole) in
    let whole : length bytes / size ≡ length left / size + blocks = ap (λ n. n / size) all ∙ add-mul-div_right (length left) blocks some in
    omega (arith, whole)

-- all blocks of the bytes may have been meant
pub interrupts-more : (faithful : Bool) (code : Code) (pattern : ℕ) (outputs : Outputs) (first : ℕ) (bytes : List ℕ) (few all : ℕ) → few ≤ all → (why : DeliveryFault) (calls : Calls)
    → InterruptsBytes faithful code pattern outputs first bytes few why calls → InterruptsBytes faithful code pattern outputs first bytes all why calls
interrupts-more faithful code pattern outputs first bytes few all more why calls is = record {
  before = is.before;
  more = is.more;
  within = omega (arith, more, is.within);
  front = is.front;
  later = is.later;
  joined = is.joined;
  delivered = is.delivered;
  interrupted = is.interrupted;
}

-- two facts of a call that was done
pub on_ok_both : {T E : Type 0} {P Q R : Type 0} (r : Result T E) → (P → Q → R) → OnOk r P → OnOk r Q → OnOk r R
on_ok_both (Ok x) join p q = join p q
on_ok_both (Err e) join p q = tt
