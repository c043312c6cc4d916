-- All nodes show a state of the core after a step, where the node at the link's head does.
use Rattle.std.proofs.lemmas.Option.{same_Some}
use Rattle.std.specs.Prelude.{◌≡◌, ◌≢◌, ◌==◌, ◌++◌, ◌∷◌, ℕ, Contains, IsPermutation, List, Some, if◌then◌else◌, slice_get}
use Rattle.std.proofs.Common.{inl, inr, refl, sym, ap, subst, ◌∙◌}
use Rattle.std.proofs.lemmas.Bool.{cases_Bool, eqb-false, eqb-true}
use Rattle.std.proofs.lemmas.List.Sorted.{IsPermutation-refl}
use Rattle.coded_traffic.specs.Traffic.{Window}
use Rattle.generation_frame.specs.declared.frame.Packet.{Packet}
use Rattle.net_model.specs.Walks.{head_of}
use Rattle.node_program.specs.declared.code.Code.{Code}
use Rattle.relay_core.specs.Core.{AreSent, Delivery, IsStep, held_after}
use Rattle.relay_node.specs.Relay.{Relay}
use Rattle.node_stations.proofs.DeliveryLaws.{shows-elsewhere}
use Rattle.node_stations.proofs.GivingLaws.{sent-elsewhere}
use Rattle.node_stations.specs.Shown.{IsReplaced, Shows, ShowsHeld, ShowsSent}

module _ (code : Code) (pattern : ℕ) (window : Window) (delivery : Delivery) (held sent more : List Packet) (node : ℕ) (to_node : head_of code.net.links delivery.pair.link ≡ node)
    (sends : AreSent code pattern node (held_after delivery held) sent more) where
  -- the nodes that it doesn't come to stay as they were
  module _ (before after : List Relay) (new : Relay) (all : Shows code pattern window before held sent) (replaced : IsReplaced node new before after)
      (shows : ShowsHeld code pattern node window new (held_after delivery held)) (shown : ShowsSent new (more ++ sent)) where
    pub shows-after : Shows code pattern window after (held_after delivery held) (more ++ sent)
    shows-after =
        record {
          count = replaced.count ∙ all.count;
          shows = λ other relay at. elim (cases_Bool (other == node)) [
            | inl same ↦
                let is : other ≡ node = eqb-true other node same in
                let found : new ≡ relay = same_Some new relay (sym replaced.at ∙ ap (slice_get after) (sym is) ∙ at) in
                subst (λ (r : Relay). ShowsHeld code pattern other window r (held_after delivery held)) found
                (subst (λ n. ShowsHeld code pattern n window new (held_after delivery held)) (sym is) shows)
            | inr apart ↦
                let differs : other ≢ node = eqb-false other node apart in
                let was = all.shows other relay (sym (replaced.others other differs) ∙ at) in
                shows-elsewhere code pattern other window delivery held relay was (λ into. differs (sym into ∙ to_node))
          ];
          shown = λ other relay at. elim (cases_Bool (other == node)) [
            | inl same ↦
                let is : other ≡ node = eqb-true other node same in
                let found : new ≡ relay = same_Some new relay (sym replaced.at ∙ ap (slice_get after) (sym is) ∙ at) in
                subst (λ (r : Relay). ShowsSent r (more ++ sent)) found shown
            | inr apart ↦
                let differs : other ≢ node = eqb-false other node apart in
                let old : slice_get before other ≡ Some relay = sym (replaced.others other differs) ∙ at in
                sent-elsewhere code pattern other node window relay sent more (all.shows other relay old).works (λ is. differs (sym is))
                (λ key has. ((sends.keys key).0 has).from_node) (all.shown other relay old)
          ];
        }

  -- a pair that flew was given, and what is sent flies besides
  pub step-made : (flying after : List Packet) → Contains flying delivery.pair
      → IsPermutation (more ++ flying) (if delivery.stays then after else delivery.pair ∷ after)
      → IsStep code pattern delivery (record { flying = flying; held = held; sent = sent }) (record { flying = after; held = held_after delivery held; sent = more ++ sent })
  step-made flying after flew flies =
      record {
        flew = flew;
        held = refl;
        more = more;
        sends = subst (λ n. AreSent code pattern n (held_after delivery held) sent more) (sym to_node) sends;
        sent = IsPermutation-refl (more ++ sent);
        flying = flies;
      }
