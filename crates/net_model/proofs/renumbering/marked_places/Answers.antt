use Rattle.std.proofs.Common.{◌++◌, ◌∷◌, ℕ, List, [], Bool, false, Vec, Global, cond, filter, slice_index, slice_index_or, ap, sym, ◌∙◌}
use Rattle.std.specs.List.{range_with_len}
use Rattle.std.proofs.lemmas.List.{append-nil}
use Rattle.item_list.proofs.Ranges.{filter-range_more}
use Rattle.net_model.proofs.renumbering.marked_places.Goals as goal
use Rattle.net_model.proofs.renumbering.marked_places.Goals.{then-marks-old+in_ok-push, else-marks-old}

pub loop-place-preserved : goal.loop-place-preserved
loop-place-preserved c =
    let place = c.loop-place.place in
    let is_marked : ℕ → Bool = λ new. slice_index_or c.args.marks.now (slice_index c.args.order.now new) false in
    let before : List ℕ = filter is_marked (range_with_len 0 place) in
    let items : Vec ℕ Global → List ℕ = λ places. places.items in
    let more : Bool → List ℕ = λ is. before ++ cond is (place ∷ []) [] in
    elim c.if-marks-old.branch [
      | then-marks-old+in_ok-push w ↦
          ap items w.places-is ∙ w.in_ok-push.ensures.items ∙ ap (λ (places : List ℕ). places ++ place ∷ []) c.loop-place.invariant
          ∙ sym (filter-range_more is_marked place ∙ ap more w.if-marks-old.true)
      | else-marks-old w ↦ ap items w.places-is ∙ c.loop-place.invariant ∙ sym (filter-range_more is_marked place ∙ ap more w.if-marks-old.false ∙ append-nil before)
    ]
