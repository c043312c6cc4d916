-- What a sink at work keeps, and what it gains by a packet.
use Rattle.std.specs.Prelude.{◌≡◌, ◌≢◌, ◌<◌, ◌≤◌, ◌-◌, ◌==◌, ℕ, true, List, [], length, map}
use Rattle.std.proofs.Common.{arith, refl, sym, ap, ◌∙◌, get_or, get_or-set_other, get_or-set_same, inl, inr}
use Rattle.std.proofs.Math.ListN.{set}
use Rattle.std.proofs.lemmas.Bool.{cases_Bool, eqb-false, eqb-true}
use Rattle.std.proofs.lemmas.List.{get_or-map, length-map}
use Rattle.std.proofs.lemmas.List.Elements.{All-get_or}
use Rattle.generation_frame.specs.Blocks.{most_blocks, pieces}
use Rattle.held_rows.specs.Held as rows
use Rattle.held_rows.specs.Held.{Held, Holds, is_held, payload_of, row_count}
use Rattle.sink_decoder.proofs.PlaceLaws.{at-place_of, wanted-place}
use Rattle.sink_decoder.specs.Receiving.{Gains, IsBegun, IsReceiver, Receiver, came_of, place_of, wants}

-- nothing held
abbrev pub nothing : Held
nothing = record { payloads = []; marks = [] }

-- the place of a generation that was begun
pub begun-place : (receiver : Receiver) (generation : ℕ) → IsReceiver receiver → IsBegun receiver generation → generation - receiver.first < length receiver.came
begun-place receiver generation keeps begun = omega (arith, keeps.few_generations, keeps.windows, begun.from_first, begun.to_last)

-- it has rows for all links
pub begun-rows : (receiver : Receiver) (generation : ℕ) → IsReceiver receiver → IsBegun receiver generation → row_count (came_of receiver generation) ≡ receiver.plan.rate
begun-rows receiver generation keeps begun =
    All-get_or (λ held. row_count held ≡ receiver.plan.rate) receiver.came (generation - receiver.first) nothing (begun-place receiver generation keeps begun) keeps.rows

-- generations begun anew, where what came was forgotten
pub IsReceiver-begun : (receiver : Receiver) (first count : ℕ) (came : List Held) → IsReceiver receiver → count ≤ most_blocks → map row_count came ≡ map row_count receiver.came
    → IsReceiver (record receiver { first = first; count = count; came = came })
IsReceiver-begun receiver first count came keeps few same =
    let long : length came ≡ length receiver.came = sym (length-map came row_count) ∙ ap (length {A = ℕ}) same ∙ length-map receiver.came row_count in
    record {
      low_rate = keeps.low_rate;
      link_count = keeps.link_count;
      rising = keeps.rising;
      live_count = keeps.live_count;
      entry_count = keeps.entry_count;
      elements = keeps.elements;
      few_generations = few;
      windows = long ∙ keeps.windows;
      rows = λ k d within.
          let inside : k < length receiver.came = omega (arith, within, long) in
          sym (get_or-map row_count came k d 0 within) ∙ ap (λ (counts : List ℕ). get_or counts k 0) same ∙ get_or-map row_count receiver.came k d 0 inside
          ∙ keeps.rows k d inside;
    }

module _ (receiver : Receiver) (keeps : IsReceiver receiver) (generation link piece : ℕ) (payload : List ℕ) (now : Held) (begun : IsBegun receiver generation)
    (wanted : wants receiver.plan link ≡ true) (low : piece < pieces) (holds : Holds (place_of receiver.plan link) piece payload (came_of receiver generation) now) where
  abbrev next : Receiver
  next = record receiver { came = set receiver.came (generation - receiver.first) now }

  here : came_of next generation ≡ now
  here = get_or-set_same receiver.came (generation - receiver.first) now nothing (begun-place receiver generation keeps begun)

  elsewhere : (g : ℕ) → IsBegun receiver g → g ≢ generation → came_of next g ≡ came_of receiver g
  elsewhere g is apart =
      let others : g - receiver.first ≢ generation - receiver.first = omega (arith, apart, is.from_first, begun.from_first) in
      get_or-set_other receiver.came (generation - receiver.first) (g - receiver.first) now nothing others

  -- a link that is wanted stands at its place
  stands : (l : ℕ) → wants receiver.plan l ≡ true → get_or receiver.plan.links (place_of receiver.plan l) 0 ≡ l
  stands l want = at-place_of receiver.plan l (omega (arith, wanted-place receiver.plan l want, keeps.live_count, keeps.link_count))

  -- another piece, or a piece of another link, has another place
  other_place : (l p : ℕ) → wants receiver.plan l ≡ true → p < pieces → ((l ≡ link) × (p ≡ piece) → ⊥)
      → rows.place (place_of receiver.plan l) p ≢ rows.place (place_of receiver.plan link) piece
  other_place l p want below apart same =
      let places : place_of receiver.plan l ≡ place_of receiver.plan link = omega (arith, same, low, below) in
      let piece_same : p ≡ piece = omega (arith, same, low, below) in
      apart (sym (stands l want) ∙ ap (λ (n : ℕ). get_or receiver.plan.links n 0) places ∙ stands link wanted, piece_same)

  pub gains : Gains generation link piece payload receiver next
  gains = record {
    same_plan = refl;
    same_first = refl;
    same_count = refl;
    came = ap (λ (held : Held). is_held held (place_of receiver.plan link) piece) here ∙ holds.held;
    bytes = ap (λ (held : Held). payload_of held (place_of receiver.plan link) piece) here ∙ holds.bytes;
    others = λ g l p is want below apart. elim (cases_Bool (g == generation)) [
      | inl same_test ↦
          let same : g ≡ generation = eqb-true g generation same_test in
          let place = place_of receiver.plan l in
          let differs = other_place l p want below (λ both. apart (same, both.0, both.1)) in
          let after : came_of next g ≡ now = ap (came_of next) same ∙ here in
          let before : came_of receiver generation ≡ came_of receiver g = ap (came_of receiver) (sym same) in (
            ap (λ (held : Held). is_held held place p) after ∙ holds.same_marks (rows.place place p) differs ∙ ap (λ (held : Held). is_held held place p) before,
            ap (λ (held : Held). payload_of held place p) after ∙ holds.same_payloads (rows.place place p) differs ∙ ap (λ (held : Held). payload_of held place p) before,
          )
      | inr other_test ↦
          let stay = elsewhere g is (eqb-false g generation other_test) in (
            ap (λ (held : Held). is_held held (place_of receiver.plan l) p) stay,
            ap (λ (held : Held). payload_of held (place_of receiver.plan l) p) stay,
          )
    ];
  }
