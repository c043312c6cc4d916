-- What the operands of a code's links name: rows below the rate at the source, and else links into the link's tail.
use Rattle.std.specs.Prelude.{◌≡◌, ℕ, zero, suc, ◌<◌, ◌==◌, ◌&&◌, Bool, true, false, nat_lt, if◌then◌else◌, Option, Some, List, [], ◌∷◌, All, length, map, slice_get}
use Rattle.std.specs.Option.{option_map_or}
use Rattle.std.proofs.Common.{sym, ◌∙◌, ap, subst, get_or}
use Rattle.std.proofs.lemmas.Bool.{and_parts, false≢true, ltb-true}
use Rattle.std.proofs.lemmas.List.Elements.{All-filter, filter_passes}
use Rattle.std.proofs.lemmas.List.Sums.{AllPass-from_list_all}
use Rattle.std.proofs.lemmas.Option.{none-some, same_Some, slice_get-get_or}
use Rattle.gf_tables.specs.Product.{size_of}
use Rattle.gf_tables.specs.declared.kind.FieldKind.{FieldKind}
use Rattle.net_model.proofs.EndLaws.{leaves_source-tail}
use Rattle.net_model.proofs.ListLaws.{is_rising-filter}
use Rattle.net_model.specs.Lists.{is_rising}
use Rattle.net_model.specs.Walks.{head_of, leaves_source, tail_of}
use Rattle.net_model.specs.declared.Link.{Link}
use Rattle.net_model.specs.declared.net.Net.{Net}
use Rattle.node_program.proofs.LinkLaws.{head_of-leads_into}
use Rattle.node_program.specs.Code.{are_operands, are_operands_of, is_source_of, leads_into}
use Rattle.node_program.specs.CodeValue.{is_live_in, reads_live_in}
use Rattle.node_program.specs.Value.{operands_at}
use Rattle.node_program.specs.declared.Operand.{Operand}
use Rattle.node_program.specs.declared.code.Code.{Code}
use Rattle.coded_traffic.specs.Traffic.{live_operands}
use Rattle.node_plans.proofs.ListLaws.{map-filter}

-- what a node may read: at the source a row below the rate, and else a live link into it
pub record IsInput (code : Code) (pattern node from : ℕ) : Type 0 where
  pub row : (node == code.net.source) ≡ true → from < code.rate
  pub live : (node == code.net.source) ≡ false → is_live_in code pattern from ≡ true
  pub leads : (node == code.net.source) ≡ false → head_of code.net.links from ≡ node

-- the operands of a link fit it
operands_fit : (net : Net) (rate : ℕ) (field : FieldKind) (links : List Link) (operands : List (List Operand)) (link : ℕ) (l : Link)
    → are_operands_of net rate field links operands ≡ true → slice_get links link ≡ Some l → are_operands net rate field l (operands_at operands link) ≡ true
operands_fit net rate field [] operands link l are found = absurd (none-some l found)
operands_fit net rate field (first ∷ links) [] link l are found = absurd (false≢true are)
operands_fit net rate field (first ∷ links) (own ∷ operands) zero l are found =
    subst (λ l. are_operands net rate field l own ≡ true) (same_Some first l found) (and_parts _ _ are).0
operands_fit net rate field (first ∷ links) (own ∷ operands) (suc link) l are found =
    operands_fit net rate field links operands link l (and_parts _ _ are).1 found

module _ (code : Code) (pattern link : ℕ) (within : link < length code.net.links) where
  abbrev own : List Operand
  own = operands_at code.operands link

  abbrev own_link : Link
  own_link = get_or code.net.links link (record { name = []; tail = 0; head = 0 })

  found : slice_get code.net.links link ≡ Some own_link
  found = slice_get-get_or code.net.links link (record { name = []; tail = 0; head = 0 }) within

  fit : are_operands code.net code.rate code.field own_link own ≡ true
  fit = operands_fit code.net code.rate code.field code.net.links code.operands link own_link code.code.draft.link_operands found

  -- the live operands of a link rise
  pub live_operands-rise : is_rising (map (λ operand. operand.from) (live_operands code pattern link)) ≡ true
  live_operands-rise =
      let from : Operand → ℕ = λ operand. operand.from in
      let reads : ℕ → Bool = λ from. reads_live_in code pattern link (record { from = from; times = 0 }) in
      ap is_rising (map-filter from reads own) ∙ is_rising-filter reads (map from own) (and_parts _ _ fit).0

  module _ (node : ℕ) (at : tail_of code.net.links link ≡ node) where
    tail_at : own_link.tail ≡ node
    tail_at = sym (ap (λ (l : Option Link). option_map_or (λ l. l.tail) l 0) found) ∙ at

    one_input : (operand : Operand) → is_source_of code.net code.rate own_link operand.from ≡ true → reads_live_in code pattern link operand ≡ true
        → IsInput code pattern node operand.from
    one_input operand names reads =
        let Names : ℕ → Type 0 = λ tail. (if tail == code.net.source then nat_lt operand.from code.rate else leads_into code.net.links tail operand.from) ≡ true in
        let from : Names node = subst Names tail_at names in
        let leaves : leaves_source code.net link ≡ (node == code.net.source) = leaves_source-tail code.net link within ∙ ap (λ tail. tail == code.net.source) at in
        record {
          row = λ is. ltb-true operand.from code.rate (rw is at from);
          live = λ is. rw (leaves ∙ is) at reads;
          leads = λ is. head_of-leads_into code.net.links node operand.from (rw is at from);
        }

    -- each live operand of a link out of a node names what the node may read
    pub live_operands-inputs : All (λ operand. IsInput code pattern node operand.from) (live_operands code pattern link)
    live_operands-inputs =
        let Names : Operand → Type 0 = λ operand. is_source_of code.net code.rate own_link operand.from ≡ true in
        let test : Operand → Bool = λ operand. is_source_of code.net code.rate own_link operand.from && nat_lt 0 operand.times && nat_lt operand.times (size_of code.field) in
        let all : All Names own = λ k d inside. (and_parts _ _ (and_parts _ _ (AllPass-from_list_all test own (and_parts _ _ fit).1 k d inside)).0).0 in
        λ k d inside.
        one_input (get_or (live_operands code pattern link) k d)
        (All-filter (reads_live_in code pattern link) Names own all k d inside)
        (filter_passes (reads_live_in code pattern link) own k d inside)
