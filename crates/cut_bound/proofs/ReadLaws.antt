-- What the operands of a link read, by the ends of the links.
use Rattle.std.proofs.lemmas.Option.{slice_get_within}
use Rattle.std.specs.Prelude.{◌≡◌, ℕ, zero, suc, ◌<◌, true, false, ◌&&◌, ◌==◌, nat_lt, Some, List, [], ◌∷◌, length, slice_get}
use Rattle.std.specs.List.{All, list_all}
use Rattle.std.proofs.Common.{refl, sym, ◌∙◌}
use Rattle.std.proofs.lemmas.Bool.{false≢true, and_parts}
use Rattle.std.proofs.lemmas.List.Elements.{All-nil, All-cons, All-weaker}
use Rattle.gf_tables.specs.Product.{size_of}
use Rattle.gf_tables.specs.declared.kind.FieldKind.{FieldKind}
use Rattle.net_model.specs.Walks.{head_of, tail_of, leaves_source}
use Rattle.net_model.specs.declared.Link.{Link}
use Rattle.net_model.specs.declared.net.Net.{Net}
use Rattle.node_program.proofs.LinkLaws.{head_of-leads_into}
use Rattle.node_program.specs.Code.{IsDraft, leads_into, is_source_of, are_operands_of}
use Rattle.node_program.specs.Value.{operands_at}
use Rattle.node_program.specs.declared.Operand.{Operand}

-- a link that stands at a place, and an operand that names what it may read
record IsRead (net : Net) (rate : ℕ) (links : List Link) (link : ℕ) (operand : Operand) : Type 0 where
  at : Link
  found : slice_get links link ≡ Some at
  reads : is_source_of net rate at operand.from ≡ true

-- operands of one link
each_read : (net : Net) (rate : ℕ) (field : FieldKind) (links : List Link) (link : ℕ) (at : Link) (operands : List Operand) → slice_get links link ≡ Some at
    → list_all (λ operand. is_source_of net rate at operand.from && nat_lt 0 operand.times && nat_lt operand.times (size_of field)) operands ≡ true
    → All (IsRead net rate links link) operands
each_read net rate field links link at [] found fit = All-nil (IsRead net rate links link)
each_read net rate field links link at (operand ∷ operands) found fit =
    let both = and_parts _ _ fit in
    let lower = and_parts (is_source_of net rate at operand.from && nat_lt 0 operand.times) (nat_lt operand.times (size_of field)) both.0 in
    All-cons (IsRead net rate links link) operand operands
    (record { at = at; found = found; reads = (and_parts (is_source_of net rate at operand.from) (nat_lt 0 operand.times) lower.0).0 })
    (each_read net rate field links link at operands found both.1)

-- operands of all
all_read : (net : Net) (rate : ℕ) (field : FieldKind) (links : List Link) (table : List (List Operand)) (link : ℕ) → are_operands_of net rate field links table ≡ true
    → All (IsRead net rate links link) (operands_at table link)
all_read net rate field [] [] link are = All-nil (IsRead net rate [] link)
all_read net rate field [] (operands ∷ table) link are = absurd (false≢true are)
all_read net rate field (at ∷ links) [] link are = absurd (false≢true are)
all_read net rate field (at ∷ links) (operands ∷ table) zero are =
    each_read net rate field (at ∷ links) 0 at operands refl (and_parts _ _ (and_parts _ _ are).0).1
all_read net rate field (at ∷ links) (operands ∷ table) (suc link) are =
    All-weaker (IsRead net rate links link) (IsRead net rate (at ∷ links) (suc link)) (λ operand is. record { at = is.at; found = is.found; reads = is.reads })
    (operands_at table link) (all_read net rate field links table link (and_parts _ _ are).1)

-- an operand of a link that doesn't leave the source: the link is one of the network's, and the operand's leads into its tail
pub record IsInner (net : Net) (link : ℕ) (operand : Operand) : Type 0 where
  pub within : link < length net.links
  pub on : tail_of net.links link ≡ head_of net.links operand.from

IsInner-read : (net : Net) (rate link : ℕ) (operand : Operand) → leaves_source net link ≡ false → IsRead net rate net.links link operand → IsInner net link operand
IsInner-read net rate link operand inner is =
    let here : (is.at.tail == net.source) ≡ false = rw is.found at inner in
    let into : leads_into net.links is.at.tail operand.from ≡ true = rw here at is.reads in
    let tail : tail_of net.links link ≡ is.at.tail = rw is.found refl in
    record {
      within = slice_get_within net.links link is.at is.found;
      on = tail ∙ sym (head_of-leads_into net.links is.at.tail operand.from into);
    }

-- each operand of a link of a draft that doesn't leave the source
pub inner_operands : {net : Net} {rate : ℕ} {field : FieldKind} {operands : List (List Operand)} → IsDraft net rate field operands
    → (link : ℕ) → leaves_source net link ≡ false → All (IsInner net link) (operands_at operands link)
inner_operands {net} {rate} {field} {operands} draft link inner =
    All-weaker (IsRead net rate net.links link) (IsInner net link) (λ operand is. IsInner-read net rate link operand inner is)
    (operands_at operands link) (all_read net rate field net.links operands link draft.link_operands)
