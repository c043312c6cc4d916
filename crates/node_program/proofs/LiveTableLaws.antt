-- How the table of live links is made, one link after another, by a table of those that fail.
use Rattle.std.specs.Prelude.{◌≡◌, ℕ, ◌<◌, ◌+◌, ◌-◌, Bool, false, not, ◌&&◌, List, [], ◌∷◌, ◌++◌, Some, length, slice_get}
use Rattle.std.specs.List.{list_any}
use Rattle.std.proofs.Common.{sym, ap, subst, ◌∙◌, get_or, arith, inl, inr}
use Rattle.std.proofs.lemmas.Bool.{cases_lt}
use Rattle.std.proofs.lemmas.List.{get_or-append_right, get_or_append_left, length-append}
use Rattle.std.proofs.lemmas.Option.{slice_get-get_or}
use Rattle.gf_tables.specs.declared.kind.FieldKind.{FieldKind}
use Rattle.net_model.specs.Lists.{is_among}
use Rattle.net_model.specs.declared.net.Net.{Net}
use Rattle.node_program.proofs.ValueLaws.{is_live-equation, is_live_from-agree}
use Rattle.node_program.specs.Code.{IsDraft}
use Rattle.node_program.specs.LiveTable.{IsFailTable, live_by, reads_before}
use Rattle.node_program.specs.Value.{is_live, operands_at}
use Rattle.node_program.specs.declared.Operand.{Operand}

-- the entries for the first links say whether these are live
pub record AreLive (net : Net) (operands : List (List Operand)) (fails : List Bool) (links : ℕ) (live : List Bool) : Type 0 where
  pub count : length live ≡ links
  pub entry : (failed : List ℕ) → IsFailTable failed (length net.links) fails → (e : ℕ) → e < links → get_or live e false ≡ is_live net operands failed e

module _ {net : Net} {rate : ℕ} {field : FieldKind} {operands : List (List Operand)} (draft : IsDraft net rate field operands) where
  -- a link is live exactly where it is by the entries before it
  live_by-is_live : (failed : List ℕ) (link : ℕ) (fails : Bool) (before : List Bool) → fails ≡ is_among failed link
      → ((e : ℕ) → e < link → get_or before e false ≡ is_live net operands failed e)
      → live_by net operands fails before link ≡ is_live net operands failed link
  live_by-is_live failed link fails before named are =
      ap (λ (test : Bool). not test && list_any (reads_before net before link) (operands_at operands link)) named
      ∙ is_live_from-agree draft failed (λ from. get_or before from false) (λ from. is_live net operands failed from) link are
      ∙ sym (is_live-equation draft failed link)

  -- one more entry
  pub AreLive-more : (fails : List Bool) (links : ℕ) (live more : List Bool) → links < length net.links → AreLive net operands fails links live
      → more ≡ live ++ live_by net operands (get_or fails links false) live links ∷ []
      → AreLive net operands fails (links + 1) more
  AreLive-more fails links live more within are made =
      let last = live_by net operands (get_or fails links false) live links in
      let Live : List Bool → Type 0 = AreLive net operands fails (links + 1) in
      subst Live (sym made) (record {
        count = length-append live (last ∷ []) ∙ omega (arith, are.count);
        entry = λ failed table e below. elim (cases_lt e links) [
          | inl earlier ↦ get_or_append_left live (last ∷ []) false e (omega (arith, earlier, are.count)) ∙ are.entry failed table e earlier
          | inr late ↦
              let this : links ≡ e = omega (arith, below, late) in
              let At : ℕ → Type 0 = λ n. get_or (live ++ last ∷ []) n false ≡ is_live net operands failed n in
              let first : links - links ≡ 0 = omega arith in
              subst At this (get_or-append_right live (last ∷ []) links links false are.count (omega arith)
              ∙ ap (λ (n : ℕ). get_or (last ∷ []) n false) first
              ∙ live_by-is_live failed links (get_or fails links false) live (table.link links within) (are.entry failed table))
        ];
      })

-- an entry by `get`
pub AreLive-get : (net : Net) (operands : List (List Operand)) (fails : List Bool) (links : ℕ) (live : List Bool) → AreLive net operands fails links live
    → (failed : List ℕ) → IsFailTable failed (length net.links) fails → (e : ℕ) → e < links → slice_get live e ≡ Some (is_live net operands failed e)
AreLive-get net operands fails links live are failed table e below =
    slice_get-get_or live e false (omega (arith, below, are.count)) ∙ ap Some (are.entry failed table e below)
