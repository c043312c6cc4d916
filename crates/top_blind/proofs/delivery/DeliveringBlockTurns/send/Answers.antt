use Rattle.std.proofs.Common.{◌≡◌, ◌≤◌, ◌<◌, ◌*◌, ◌∷◌, ◌++◌, [], ℕ, List, Some, Contains, get_or, length, map, string_bytes, take, vec_len, refl, sym, ap, subst, ◌∙◌, arith}
use Rattle.std.proofs.lemmas.List.{length-map}
use Rattle.generation_frame.specs.Blocks.{block_of, row_bytes}
use Rattle.item_list.proofs.Results.{on_err}
use Rattle.lif_outside.proofs.CallLaws.{calls_then}
use Rattle.lif_outside.specs.Calls.{MakesCalls}
use Rattle.lif_outside.specs.FileCalls.{StopsWithin, appends_of}
use Rattle.node_program.specs.declared.code.Code.{Code}
use Rattle.top_blind.proofs.PieceLaws.{calls-more, calls-stopped}
use Rattle.top_blind.specs.Blind.{piece_turn}
use Rattle.vector_headers.specs.Fabric.{Carried, Carrying}
use Rattle.top_blind.proofs.delivery.DeliveringBlockTurns.send.Given as given
use Rattle.top_blind.proofs.delivery.DeliveringBlockTurns.send.Goals as goal
use Rattle.top_blind.proofs.delivery.DeliveringBlockTurns.send.Goals.{After-deliver}

-- what was carried, as it stands at the place
abbrev one : (g : given.Over) (c : After-deliver g) → Carried
one g c = record { generation = c.args.generation; block = c.args.block.now }

carried : (g : given.Over) (c : After-deliver g) → c.loop-place.self.fabric.carried ≡ Some (one g c)
carried g c = ap (λ (fabric : Carrying). fabric.carried) c.loop-place.invariant.fabric ∙ c.carry.ensures.carried

-- its code is that of the beginning
same_code : (g : given.Over) (c : After-deliver g) → c.loop-place.self.fabric.code ≡ c.args.self.now.fabric.code
same_code g c = ap (λ (fabric : Carrying). fabric.code) c.loop-place.invariant.fabric ∙ c.carry.ensures.code

-- the paths, and that of the place
abbrev paths : (g : given.Over) (c : After-deliver g) → List (List ℕ)
paths g c = map string_bytes c.args.self.now.paths.items

abbrev path : (g : given.Over) (c : After-deliver g) → List ℕ
path g c = get_or (map string_bytes c.loop-place.self.paths.items) c.loop-place.place []

path_is : (g : given.Over) (c : After-deliver g) → path g c ≡ get_or (paths g c) c.loop-place.place []
path_is g c = ap (λ paths. get_or (map string_bytes paths.items) c.loop-place.place []) c.loop-place.invariant.paths

within : (g : given.Over) (c : After-deliver g) → c.loop-place.place < length (paths g c)
within g c = omega (arith, c.loop-place-test.true, length-map c.args.self.now.paths.items string_bytes)

-- the block is that of a piece, and is as long as a block
module _ (g : given.Over) (c : After-deliver g) (piece : List ℕ) (is : c.args.block.now ≡ block_of c.args.self.now.fabric.code.rate piece) where
  block_is : c.args.block.now ≡ block_of c.loop-place.self.fabric.code.rate piece
  block_is = is ∙ ap (λ (code : Code). block_of code.rate piece) (sym (same_code g c))

  long : length c.args.block.now ≡ c.loop-place.self.fabric.code.rate * row_bytes
  long = c.requires.block ∙ ap (λ (code : Code). code.rate * row_bytes) (sym (same_code g c))

pub returns-in_err-deliver-clause-failed : goal.returns-in_err-deliver-clause-failed
returns-in_err-deliver-clause-failed g c = λ piece is.
    let at = (goal.at.returns-in_err-deliver-clause-failed g c).After-deliver in
    let whole = appends_of (piece_turn (paths g at) piece ∷ []) in
    let before = c.loop-place.invariant.calls piece (is ∙ ap (λ (code : Code). block_of code.rate piece) (sym c.carry.ensures.code)) in
    on_err c.from_residual.result (calls_then g.met.S.Store.more_calls _ _ (StopsWithin whole) before
    (c.in_err-deliver.ensures.failed (one g at) piece (carried g at) (block_is g at piece is) (long g at piece is))
    (λ first later first_is stop. subst (λ first. StopsWithin whole (first ++ later)) (sym first_is) (calls-stopped piece (paths g at) c.loop-place.place (path g at) later (within g at) (path_is g at) stop)))

pub loop-place-preserved : goal.loop-place-preserved
loop-place-preserved g c =
    let at = (goal.at.loop-place-preserved g c).After-deliver in
    record {
      fabric = c.deliver.ensures.fabric ∙ c.loop-place.invariant.fabric;
      paths = c.deliver.ensures.paths ∙ c.loop-place.invariant.paths;
      made = λ path there. c.deliver.ensures.made path (c.loop-place.invariant.made path there);
      calls = λ piece is.
          let from = is ∙ ap (λ (code : Code). block_of code.rate piece) c.carry.ensures.code in
          calls_then g.met.S.Store.more_calls _ _ _ (c.loop-place.invariant.calls piece is)
          (c.in_ok-deliver.ensures.appended (one g at) piece (carried g at) (block_is g at piece from) (long g at piece from))
          (λ first later first_is later_is. ap (λ calls. calls ++ later) first_is ∙ ap (λ calls. appends_of (piece_turn (take c.loop-place.place (paths g at)) piece ∷ []) ++ calls) later_is
          ∙ calls-more piece (paths g at) c.loop-place.place (path g at) (within g at) (path_is g at));
    }
