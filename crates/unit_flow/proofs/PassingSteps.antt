-- Passing the links at one node, along their chain.
use Rattle.std.specs.Prelude.{◌≡◌, ◌≢◌, ◌⊎◌, ◌<◌, ◌≤◌, ◌+◌, ℕ, Bool, true, false, ◌&&◌, ◌==◌, nat_lt, cond, List, length, slice_index, slice_index_or, slice_set, Option, Some, None}
use Rattle.std.specs.List.{range_with_len}
use Rattle.std.proofs.Common.{refl, sym, ◌∙◌, ap, subst, arith, inl, inr}
use Rattle.std.proofs.lemmas.Bool.{and_from, and_parts, both_ways, cases_lt, cases_eq, eq-eqb, le-ltb, lt-ltb, ltb-true, ne_eqb}
use Rattle.std.proofs.lemmas.List.{get_or-set_other, get_or-set_same, get_or_past, get_or_read}
use Rattle.std.proofs.lemmas.List.FromFn.{length-range_with_len}
use Rattle.std.proofs.lemmas.List.Sums.{count_by-le-length}
use Rattle.item_list.proofs.Tests.{count_by-none}
use Rattle.link_chains.specs.Chains.{AreFirsts, AreNexts, IsNextAt, end_of}
use Rattle.link_chains.specs.Wiring.{IsWiring, chains_at}
use Rattle.link_chains.specs.declared.chains.Chains.{Chains}
use Rattle.link_chains.specs.declared.wiring.Wiring.{Wiring}
use Rattle.link_chains.proofs.WiringLaws.{AreNexts-wiring}
use Rattle.link_chains.specs.declared.chains.LinkEnd.{LinkEnd}
use Rattle.net_model.specs.Flows.{is_on}
use Rattle.net_model.specs.declared.Link.{Link}
use Rattle.net_model.specs.declared.net.Net.{Net}
use Rattle.unit_flow.proofs.CountLaws.{All-range, count_by-implied, count_by-one, sum_by-add, sum_by-same}
use Rattle.unit_flow.specs.Residual.{passage}
use Rattle.unit_flow.specs.Searching.{ArePassed, HasPassed, IsOnChain, ends_below, marked_ends, passed_ends, with_entry}
use Rattle.unit_flow.specs.declared.residual.LinkState.{LinkState}
use Rattle.unit_flow.specs.declared.search.Entry.{Entry}
use Rattle.unit_flow.specs.declared.search.Passed.{Passed}

-- what was reached stays so where a node more is
pub is_on-set : (side : List Bool) (node other : ℕ) → is_on side other ≡ true → is_on (slice_set side node true) other ≡ true
is_on-set side node other on = elim (cases_eq other node) [
  | inl same ↦ elim (cases_lt node (length side)) [
    | inl inside ↦ ap (is_on (slice_set side node true)) same ∙ get_or-set_same side node true false inside
    | inr past ↦ absurd (both_ways _ (ap (is_on side) same ∙ get_or_past side node false past) on)
  ]
  | inr apart ↦ get_or-set_other side node other true false apart ∙ on
]

pub is_on-with_entry : (entry : Option Entry) (side : List Bool) (other : ℕ) → is_on side other ≡ true → is_on (with_entry entry side) other ≡ true
is_on-with_entry None side other on = on
is_on-with_entry (Some entry) side other on = is_on-set side entry.node other on

-- the next link at a node is one more
pub ends_below-next : (end : ℕ → ℕ) (count node link next : ℕ) → link < count → end link ≡ node → IsNextAt end count node (link + 1) next → ends_below end count node next ≡ ends_below end count node link + 1
ends_below-next end count node link next inside ends is =
    count_by-one (λ l. (end l == node) && nat_lt l link) (λ l. (end l == node) && nat_lt l next) count link inside
    (rw (eq-eqb _ _ ends, le-ltb link link (omega arith)) refl)
    (and_from _ _ (eq-eqb _ _ ends) (lt-ltb link next (omega (arith, is.not_before))))
    (λ l apart. by_end l apart (cases_eq (end l) node))
  where
    by_end : (l : ℕ) → l ≢ link → (end l ≡ node) ⊎ (end l ≢ node) → ((end l == node) && nat_lt l next) ≡ ((end l == node) && nat_lt l link)
    by_end l apart (inr other) = rw (ne_eqb _ _ other) refl
    by_end l apart (inl here) = elim (cases_lt l link) [
      | inl early ↦ rw (lt-ltb l next (omega (arith, is.not_before)), lt-ltb l link early) refl
      | inr late ↦ elim (cases_lt l next) [
        | inl before ↦ absurd (is.before l (omega (arith, apart)) before here)
        | inr after ↦ rw (le-ltb l next after, le-ltb l link late) refl
      ]
    ]

-- no fewer links are below a greater bound
pub ends_below-le : (end : ℕ → ℕ) (count node less more : ℕ) → less ≤ more → ends_below end count node less ≤ ends_below end count node more
ends_below-le end count node less more within =
    let implied = count_by-implied (λ l. (end l == node) && nat_lt l less) (λ l. (end l == node) && nat_lt l more) (range_with_len 0 count) (λ l below.
    let parts = and_parts _ _ below in
    and_from _ _ parts.0 (lt-ltb l more (omega (arith, ltb-true _ _ parts.1)))) in
    omega (arith, implied)

-- where the cursor of one node alone moves, as many links more are before the cursors as there are at the node
pub passed_ends-moved : (end : ℕ → ℕ) (count node : ℕ) (old new : ℕ → ℕ) → ((other : ℕ) → other ≢ node → new other ≡ old other)
    → passed_ends end count new + ends_below end count node (old node) ≡ passed_ends end count old + ends_below end count node (new node)
passed_ends-moved end count node old new same =
    let range = range_with_len 0 count in
    sym (sum_by-add (λ l. cond (nat_lt l (new (end l))) 1 0) (λ l. cond ((end l == node) && nat_lt l (old node)) 1 0) range)
    ∙ sum_by-same (λ l. cond (nat_lt l (new (end l))) 1 0 + cond ((end l == node) && nat_lt l (old node)) 1 0)
    (λ l. cond (nat_lt l (old (end l))) 1 0 + cond ((end l == node) && nat_lt l (new node)) 1 0) range (λ l. by_end l (end l) (cases_eq (end l) node))
    ∙ sum_by-add (λ l. cond (nat_lt l (old (end l))) 1 0) (λ l. cond ((end l == node) && nat_lt l (new node)) 1 0) range
  where
    by_end : (l e : ℕ) → (e ≡ node) ⊎ (e ≢ node) → cond {A = ℕ} (nat_lt l (new e)) 1 0 + cond ((e == node) && nat_lt l (old node)) 1 0 ≡ cond (nat_lt l (old e)) 1 0 + cond ((e == node) && nat_lt l (new node)) 1 0
    by_end l e (inr apart) = rw (ne_eqb _ _ apart, same e apart) refl
    by_end l e (inl here) =
        let Same : ℕ → Type 0 = λ n. cond {A = ℕ} (nat_lt l (new n)) 1 0 + cond ((n == node) && nat_lt l (old node)) 1 0 ≡ cond (nat_lt l (old n)) 1 0 + cond ((n == node) && nat_lt l (new node)) 1 0 in
        subst Same (sym here) (rw (eq-eqb node node refl) (omega arith))

-- the links at marked nodes are those before cursors that stay at zero elsewhere
marked_cursor : List Bool → (ℕ → ℕ) → ℕ → ℕ
marked_cursor marks cursors node = cond (is_on marks node) (cursors node) 0

marked_ends-is : (end : ℕ → ℕ) (count : ℕ) (marks : List Bool) (cursors : ℕ → ℕ) → marked_ends end count marks cursors ≡ passed_ends end count (marked_cursor marks cursors)
unfolding marked_cursor
marked_ends-is end count marks cursors =
    sum_by-same (λ l. cond (is_on marks (end l) && nat_lt l (cursors (end l))) 1 0) (λ l. cond (nat_lt l (marked_cursor marks cursors (end l))) 1 0) (range_with_len 0 count)
    (λ l. by_mark (is_on marks (end l)) l (cursors (end l)))
  where
    by_mark : (mark : Bool) (l cursor : ℕ) → cond {A = ℕ} (mark && nat_lt l cursor) 1 0 ≡ cond (nat_lt l (cond mark cursor 0)) 1 0
    by_mark true l cursor = refl
    by_mark false l cursor = rw (le-ltb l 0 (omega arith)) refl

-- where the cursor of one node alone moves, as many more are as there are at the node, if that is marked
pub marked_ends-moved : (end : ℕ → ℕ) (count node : ℕ) (marks : List Bool) (old new : ℕ → ℕ) → is_on marks node ≡ true → ((other : ℕ) → other ≢ node → new other ≡ old other)
    → marked_ends end count marks new + ends_below end count node (old node) ≡ marked_ends end count marks old + ends_below end count node (new node)
unfolding marked_cursor
marked_ends-moved end count node marks old new marked same =
    let moved = passed_ends-moved end count node (marked_cursor marks old) (marked_cursor marks new) (λ other apart. ap (λ n. cond (is_on marks other) n 0) (same other apart)) in
    let before = ap (λ mark. ends_below end count node (cond mark (old node) 0)) marked in
    let after = ap (λ mark. ends_below end count node (cond mark (new node) 0)) marked in
    omega (arith, moved, before, after, marked_ends-is end count marks old, marked_ends-is end count marks new)

-- and else as many as before
pub marked_ends-unmarked : (end : ℕ → ℕ) (count node : ℕ) (marks : List Bool) (old new : ℕ → ℕ) → is_on marks node ≡ false → ((other : ℕ) → other ≢ node → new other ≡ old other)
    → marked_ends end count marks new ≡ marked_ends end count marks old
unfolding marked_cursor
marked_ends-unmarked end count node marks old new unmarked same =
    let moved = passed_ends-moved end count node (marked_cursor marks old) (marked_cursor marks new) (λ other apart. ap (λ n. cond (is_on marks other) n 0) (same other apart)) in
    let before = ap (λ mark. ends_below end count node (cond mark (old node) 0)) unmarked in
    let after = ap (λ mark. ends_below end count node (cond mark (new node) 0)) unmarked in
    omega (arith, moved, before, after, marked_ends-is end count marks old, marked_ends-is end count marks new)

-- no more of them are at marked nodes than there are
pub marked_ends-le : (end : ℕ → ℕ) (count : ℕ) (marks : List Bool) (cursors : ℕ → ℕ) → marked_ends end count marks cursors ≤ passed_ends end count cursors
marked_ends-le end count marks cursors =
    omega (arith, count_by-implied (λ link. is_on marks (end link) && nat_lt link (cursors (end link))) (λ link. nat_lt link (cursors (end link))) (range_with_len 0 count) (λ link looked. (and_parts _ _ looked).1))

-- no link is before the first one at its node, and no more links than there are are before cursors
pub passed_ends-firsts : (end : ℕ → ℕ) (count nodes : ℕ) (firsts : List ℕ) → AreFirsts end count nodes 0 firsts → ((link : ℕ) → link < count → end link < nodes) → passed_ends end count (slice_index firsts) ≡ 0
passed_ends-firsts end count nodes firsts are below =
    count_by-none (λ link. nat_lt link (slice_index firsts (end link))) (range_with_len 0 count)
    (All-range (λ link. nat_lt link (slice_index firsts (end link)) ≡ false) count (λ link inside.
    le-ltb _ _ (elim (cases_lt link (slice_index firsts (end link))) [
      | inl before ↦ absurd ((are.first (end link) (below link inside)).before link (omega arith) before refl)
      | inr late ↦ late
    ])))

pub passed_ends-le : (end : ℕ → ℕ) (count : ℕ) (cursors : ℕ → ℕ) → passed_ends end count cursors ≤ count
passed_ends-le end count cursors = omega (arith, count_by-le-length (λ link. nat_lt link (cursors (end link))) (range_with_len 0 count), length-range_with_len 0 count)

-- no link was passed yet
pub passed_first : (links : List Link) (states : List LinkState) (end : ℕ → ℕ) (nodes : ℕ) (firsts : List ℕ) (reached : List Bool) → AreFirsts end (length links) nodes 0 firsts
    → ((link : ℕ) → link < length links → end link < nodes) → ArePassed links states end nodes (slice_index firsts) reached
passed_first links states end nodes firsts reached are below = record {
  on_chains = λ node inside. let at = are.first node inside in record { within = at.within; ends = at.ends };
  at_reached = λ link within before. absurd ((are.first (end link) (below link within)).before link (omega arith) before refl);
  led = λ link next within before leads. absurd ((are.first (end link) (below link within)).before link (omega arith) before refl);
}

-- the links at a node from its cursor on were passed
pub passed_moved : (links : List Link) (states : List LinkState) (end : ℕ → ℕ) (nodes node next : ℕ) (old new : List ℕ) (before after : List Bool) → ArePassed links states end nodes (slice_index old) before
    → node < length old → is_on before node ≡ true → new ≡ slice_set old node next → IsOnChain end (length links) node next
    → ((link to : ℕ) → slice_index old node ≤ link → link < next → end link ≡ node → passage links states link node ≡ Some to → is_on after to ≡ true)
    → ((other : ℕ) → is_on before other ≡ true → is_on after other ≡ true) → ArePassed links states end nodes (slice_index new) after
passed_moved links states end nodes node next old new before after are inside on new_is chain led kept = record {
  on_chains = λ n below. elim (cases_eq n node) [
    | inl same ↦
        let Chain : ℕ → ℕ → Type 0 = λ k link. IsOnChain end (length links) k link in
        subst (λ k. Chain k (slice_index new k)) (sym same) (subst (Chain node) (sym here) chain)
    | inr apart ↦ let Chain : ℕ → Type 0 = λ link. IsOnChain end (length links) n link in subst Chain (sym (there n apart)) (are.on_chains n below)
  ];
  at_reached = λ link within before_cursor. elim (cases_eq (end link) node) [
    | inl same ↦ kept (end link) (ap (is_on before) same ∙ on)
    | inr apart ↦ kept (end link) (are.at_reached link within (omega (arith, there (end link) apart)))
  ];
  led = λ link to within before_cursor leads. elim (cases_eq (end link) node) [
    | inl same ↦ elim (cases_lt link (slice_index old node)) [
      | inl early ↦ kept to (are.led link to within (rw same early) leads)
      | inr late ↦
          let From : ℕ → Type 0 = λ n. passage links states link n ≡ Some to in
          let Before : ℕ → Type 0 = λ n. link < slice_index new n in
          led link to late (omega (arith, here, subst Before same before_cursor)) same (subst From same leads)
    ]
    | inr apart ↦ kept to (are.led link to within (omega (arith, there (end link) apart)) leads)
  ];
}
  where
    here : slice_index new node ≡ next
    here = ap (λ xs. slice_index xs node) new_is ∙ get_or-set_same old node next 0 inside

    there : (n : ℕ) → n ≢ node → slice_index new n ≡ slice_index old n
    there n apart = ap (λ xs. slice_index xs n) new_is ∙ get_or-set_other old node n next 0 apart

-- more was reached
pub passed_kept : (links : List Link) (states : List LinkState) (end : ℕ → ℕ) (nodes : ℕ) (cursors : ℕ → ℕ) (before after : List Bool) → ArePassed links states end nodes cursors before
    → ((other : ℕ) → is_on before other ≡ true → is_on after other ≡ true) → ArePassed links states end nodes cursors after
passed_kept links states end nodes cursors before after are kept = record {
  on_chains = are.on_chains;
  at_reached = λ link within early. kept (end link) (are.at_reached link within early);
  led = λ link next within early leads. kept next (are.led link next within early leads);
}

-- the link that is read from a chain is the next one at its node
pub IsNextAt-read : (links : List Link) (nodes : ℕ) (wiring : Wiring) (chains : Chains) (end : LinkEnd) (link next : ℕ) → IsWiring links nodes wiring → chains ≡ chains_at end wiring → link < length links
    → next ≡ slice_index_or chains.nexts.items link next → IsNextAt (end_of links end) (length links) (end_of links end link) (link + 1) next
IsNextAt-read links nodes wiring chains end link next is same within read =
    let Nexts : Chains → Type 0 = λ some. AreNexts (end_of links end) (length links) 0 some.nexts.items in
    let nexts : Nexts chains = subst Nexts (sym same) (AreNexts-wiring links nodes wiring end is) in
    let inside : link < length chains.nexts.items = omega (arith, nexts.each_link) in
    let Next : ℕ → Type 0 = λ to. IsNextAt (end_of links end) (length links) (end_of links end link) (link + 1) to in
    subst Next (sym (get_or_read chains.nexts.items link next inside read 0)) (nexts.next link (omega arith) within)

-- before the first link
pub passing_none : (net : Net) (states : List LinkState) (end : LinkEnd) (node first : ℕ) (reached : List Bool) (steps : ℕ) → IsOnChain (end_of net.links end) (length net.links) node first
    → HasPassed net states end node first reached (record { next = first; entry = None }) steps steps
passing_none net states end node first reached steps chain = record {
  on_chain = record { within = chain.within; ends = chain.ends };
  led = λ link next above below ends leads. absurd (omega arith);
  steps = refl;
  not_back = omega arith;
}

-- one link more
pub passing_more : (net : Net) (states : List LinkState) (end : LinkEnd) (node first link next : ℕ) (reached : List Bool) (entry : Option Entry) (before after : ℕ)
    → HasPassed net states end node first reached (record { next = link; entry = None }) before after → link < length net.links → IsNextAt (end_of net.links end) (length net.links) (end_of net.links end link) (link + 1) next
    → ((to : ℕ) → passage net.links states link node ≡ Some to → is_on (with_entry entry reached) to ≡ true)
    → HasPassed net states end node first reached (record { next = next; entry = entry }) before (after + 1)
passing_more net states end node first link next reached entry before after is inside at leads =
    let ends = end_of net.links end in
    let count = length net.links in
    let here : ends link ≡ node = is.on_chain.ends inside in
    let At : ℕ → Type 0 = λ n. IsNextAt ends count n (link + 1) next in
    let next_at : At node = subst At here at in
    let more = ends_below-next ends count node link next inside here next_at in
    record {
      on_chain = record { within = next_at.within; ends = next_at.ends };
      led = λ l to above below at_node passes. elim (cases_eq l link) [
        | inl same ↦ let From : ℕ → Type 0 = λ n. passage net.links states n node ≡ Some to in leads to (subst From same passes)
        | inr apart ↦ elim (cases_lt l link) [
          | inl early ↦ is_on-with_entry entry reached to (is.led l to above early at_node passes)
          | inr late ↦ absurd (next_at.before l (omega (arith, apart)) below at_node)
        ]
      ];
      steps = omega (arith, is.steps, more);
      not_back = omega (arith, is.not_back, next_at.not_before);
    }

-- no step is taken back
pub steps_kept : (net : Net) (states : List LinkState) (end : LinkEnd) (node first : ℕ) (reached : List Bool) (passed : Passed) (before after : ℕ) → HasPassed net states end node first reached passed before after → before ≤ after
steps_kept net states end node first reached passed before after is =
    let most = ends_below-le (end_of net.links end) (length net.links) node first passed.next is.not_back in
    omega (arith, is.steps, most)

-- the links at a node from its cursor on were passed, along their chain
pub chain_passed : (net : Net) (states : List LinkState) (end : LinkEnd) (nodes node first : ℕ) (old new : List ℕ) (reached : List Bool) (passed : Passed) (before after : ℕ)
    → HasPassed net states end node first reached passed before after → ArePassed net.links states (end_of net.links end) nodes (slice_index old) reached → node < length old → is_on reached node ≡ true
    → first ≡ slice_index old node → new ≡ slice_set old node passed.next → ArePassed net.links states (end_of net.links end) nodes (slice_index new) (with_entry passed.entry reached)
chain_passed net states end nodes node first old new reached passed before after is are inside on first_is new_is =
    passed_moved net.links states (end_of net.links end) nodes node passed.next old new reached (with_entry passed.entry reached) are inside on new_is is.on_chain
    (λ link to above below ends leads. is.led link to (omega (arith, first_is)) below ends leads)
    (λ other on. is_on-with_entry passed.entry reached other on)

-- and led to nothing new, so that whatever was reached since, they were passed
pub chain_passed_over : (net : Net) (states : List LinkState) (end : LinkEnd) (nodes node first : ℕ) (old new : List ℕ) (reached : List Bool) (passed : Passed) (before after : ℕ) (entry : Option Entry)
    → HasPassed net states end node first reached passed before after → ArePassed net.links states (end_of net.links end) nodes (slice_index old) reached → node < length old → is_on reached node ≡ true
    → first ≡ slice_index old node → new ≡ slice_set old node passed.next → passed.entry ≡ None → ArePassed net.links states (end_of net.links end) nodes (slice_index new) (with_entry entry reached)
chain_passed_over net states end nodes node first old new reached passed before after entry is are inside on first_is new_is none =
    let Led : Option Entry → Type 0 = λ one. ArePassed net.links states (end_of net.links end) nodes (slice_index new) (with_entry one reached) in
    passed_kept net.links states (end_of net.links end) nodes (slice_index new) reached (with_entry entry reached)
    (subst Led none (chain_passed net states end nodes node first old new reached passed before after is are inside on first_is new_is))
    (is_on-with_entry entry reached)
