-- What a node gives once a packet came, until nothing is due, is what the core says that it sends.
use Rattle.std.specs.Prelude.{◌≡◌, ◌≢◌, ◌<◌, ◌≤◌, ◌+◌, ◌||◌, ◌++◌, ℕ, Bool, true, false, All, Contains, List, [], ◌∷◌, length}
use Rattle.std.specs.List.{list_all}
use Rattle.std.proofs.Common.{refl, sym, ap, subst, ◌∙◌, arith, get_or, inl, inr}
use Rattle.std.proofs.lemmas.Bool.{cases_Bool, false_from_ne_true, false≢true, ne_eqb}
use Rattle.std.proofs.lemmas.List.Elements.{All-cons, All-head, All-nil, All-tail}
use Rattle.std.proofs.lemmas.List.Sums.{AllPass-from_list_all}
use Rattle.coded_traffic.proofs.SumLaws.{sum_of-agree}
use Rattle.coded_traffic.specs.Traffic.{Key, Window, is_same_key, key_of, live_operands, sum_of}
use Rattle.generation_frame.specs.Blocks.{pieces}
use Rattle.generation_frame.specs.declared.frame.Packet.{Packet}
use Rattle.net_model.specs.Walks.{head_of, leaves_source}
use Rattle.node_plans.proofs.PlanLaws.{ins-contains, outs-contains}
use Rattle.node_plans.specs.Plans.{ins_of, operands_of, outs_of}
use Rattle.node_plans.specs.declared.plan.Plan.{Plan}
use Rattle.node_program.proofs.LiveLaws.{live-below}
use Rattle.node_program.specs.CodeValue.{is_live_in}
use Rattle.node_program.specs.declared.Operand.{Operand}
use Rattle.node_program.specs.declared.code.Code.{Code}
use Rattle.relay_core.proofs.LinkLaws.{live_operands-into}
use Rattle.relay_core.proofs.ListLaws.{or_turned}
use Rattle.relay_core.proofs.PacketLaws.{has_key-append, same_key}
use Rattle.relay_core.specs.Core.{AreSent, MaySend, has_key, has_operands, key_on, payload_of, summed, times_of}
use Rattle.relay_node.proofs.TrafficLaws.{leaves_source-out, live_out, operands_of-plan, out}
use Rattle.relay_node.specs.Relay.{Gives, IsDue, IsOut, Relay, has_input, input_at, is_complete}
use Rattle.node_stations.proofs.GivingLaws.{or_none, shown_after, times_more}
use Rattle.node_stations.specs.Shown.{GivesEach, IsInto, ShowsHeld, ShowsSent}

-- tests that agree on each item agree on all
list_all-agree : {X : Type 0} (p q : X → Bool) (xs : List X) → All (λ x. p x ≡ q x) xs → list_all p xs ≡ list_all q xs
list_all-agree p q [] same = refl
list_all-agree p q (x ∷ xs) same =
    rw (All-head (λ x. p x ≡ q x) x xs same, list_all-agree p q xs (All-tail (λ x. p x ≡ q x) x xs same)) refl

module _ (code : Code) (pattern node : ℕ) (window : Window) (other : node ≢ code.net.source) where
  -- a key of the window that the node can give
  record IsFrom (key : Key) : Type 0 where
    pub leaves : Contains (outs_of code pattern node) key.link
    pub begun : window.first ≤ key.generation
    pub numbered : key.generation < window.first + length window.blocks
    pub of_piece : key.piece < pieces

  module _ (relay : Relay) (held : List Packet) (shows : ShowsHeld code pattern node window relay held) where
    from_out : (key : Key) → IsOut relay key → IsFrom key
    from_out key is =
        record {
          leaves = subst (λ (plan : Plan). Contains plan.outs key.link) shows.works.plan is.leaves;
          begun = omega (arith, shows.works.first, is.begun.from_first);
          numbered = omega (arith, shows.works.first, shows.works.count, is.begun.to_last);
          of_piece = is.of_piece;
        }

    out_from : (key : Key) → IsFrom key → IsOut relay key
    out_from key is =
        record {
          leaves = subst (λ (plan : Plan). Contains plan.outs key.link) (sym shows.works.plan) is.leaves;
          begun = record { from_first = omega (arith, shows.works.first, is.begun); to_last = omega (arith, shows.works.first, shows.works.count, is.numbered) };
          of_piece = is.of_piece;
        }

    module _ (key : Key) (from : IsFrom key) where
      inner : leaves_source code.net key.link ≡ false
      inner = leaves_source-out code pattern node key.link from.leaves ∙ ne_eqb node code.net.source other

      live : is_live_in code pattern key.link ≡ true
      live = live_out code pattern node key.link from.leaves

      operands : operands_of relay.plan key.link ≡ live_operands code pattern key.link
      operands = ap (λ (plan : Plan). operands_of plan key.link) shows.works.plan ∙ operands_of-plan code pattern node key.link from.leaves

      -- each operand is a live link into the node
      into : All (λ operand. IsInto code pattern node window (key_on operand.from key)) (live_operands code pattern key.link)
      into k d within =
          let is = live_operands-into code pattern key.link (live-below code pattern key.link live) inner k d within in
          let at : head_of code.net.links (get_or (live_operands code pattern key.link) k d).from ≡ node = is.into_tail ∙ (out code pattern node key.link from.leaves).1 in
          record {
            into = subst (λ n. Contains (ins_of code pattern n) (get_or (live_operands code pattern key.link) k d).from) at (ins-contains code pattern (get_or (live_operands code pattern key.link) k d).from is.live);
            begun = from.begun;
            numbered = from.numbered;
            of_piece = from.of_piece;
          }

      -- a packet is complete where its operands are held
      complete-held : is_complete relay key ≡ has_operands code pattern held key
      complete-held =
          ap (list_all (λ (operand : Operand). has_input relay key.generation operand.from key.piece)) operands
          ∙ list_all-agree (λ (operand : Operand). has_input relay key.generation operand.from key.piece) (λ operand. has_key (key_on operand.from key) held)
          (live_operands code pattern key.link) (λ k d within. shows.has (key_on (get_or (live_operands code pattern key.link) k d).from key) (into k d within))

      -- its payload is the sum of what is held
      summed-held : has_operands code pattern held key ≡ true
          → sum_of relay.plan.field (operands_of relay.plan key.link) (λ operand. input_at relay key.generation operand.from key.piece) ≡ summed code pattern held key
      summed-held has =
          ap (λ (plan : Plan). sum_of plan.field (operands_of relay.plan key.link) (λ operand. input_at relay key.generation operand.from key.piece)) shows.works.plan
          ∙ ap (λ (os : List Operand). sum_of code.field os (λ operand. input_at relay key.generation operand.from key.piece)) operands
          ∙ sum_of-agree code.field (live_operands code pattern key.link) (λ operand. input_at relay key.generation operand.from key.piece) (λ operand. payload_of held (key_on operand.from key))
          (λ k d within.
          shows.bytes (key_on (get_or (live_operands code pattern key.link) k d).from key) (into k d within)
          (AllPass-from_list_all (λ (operand : Operand). has_key (key_on operand.from key) held) (live_operands code pattern key.link) has k d within))

    -- what is due may be sent
    pub due-may : (sent : List Packet) → ShowsSent relay sent → (key : Key) → IsDue relay key → MaySend code pattern node held sent key
    due-may sent shown key due =
        let from = from_out key due.out in
        record {
          live = live key from;
          from_node = (out code pattern node key.link from.leaves).1;
          not_source = inner key from;
          operands = sym (complete-held key from) ∙ due.complete;
          unsent = sym (shown key due.out) ∙ due.not_given;
        }

    -- what may be sent, of a generation of the window and a piece, is due
    pub may-due : (sent : List Packet) → ShowsSent relay sent → (key : Key) → window.first ≤ key.generation → key.generation < window.first + length window.blocks → key.piece < pieces
        → MaySend code pattern node held sent key → IsDue relay key
    may-due sent shown key begun numbered low may =
        let leaves : Contains (outs_of code pattern node) key.link = subst (λ n. Contains (outs_of code pattern n) key.link) may.from_node (outs-contains code pattern key.link may.live) in
        let from : IsFrom key = record { leaves = leaves; begun = begun; numbered = numbered; of_piece = low } in
        record {
          out = out_from key from;
          complete = complete-held key from ∙ may.operands;
          not_given = shown key (out_from key from) ∙ may.unsent;
        }

module _ (code : Code) (pattern node : ℕ) (window : Window) (other : node ≢ code.net.source) (held : List Packet) where
  -- what was given so far: each packet might be sent, with the sum of what is held, and no key stands twice
  pub record AreGiven (relay new : Relay) (sent more : List Packet) : Type 0 where
    pub shows : ShowsHeld code pattern node window new held
    pub sends : ShowsSent new (more ++ sent)
    pub may : (key : Key) → has_key key more ≡ true → MaySend code pattern node held sent key
    pub once : (key : Key) → times_of key more ≤ 1
    pub payloads : All (λ packet. packet.payload ≡ summed code pattern held (key_of packet)) more

  -- after one packet
  module _ (packet : Packet) (relay mid : Relay) (sent : List Packet) (shows : ShowsHeld code pattern node window relay held) (shown : ShowsSent relay sent) (gives : Gives packet relay mid) where
    shows-mid : ShowsHeld code pattern node window mid held
    shows-mid =
        record {
          works = record { plan = gives.work.plan ∙ shows.works.plan; first = gives.work.first ∙ shows.works.first; count = gives.work.count ∙ shows.works.count };
          has = λ key into. (gives.inputs key.generation key.link key.piece).has ∙ shows.has key into;
          bytes = λ key into has. (gives.inputs key.generation key.link key.piece).bytes ∙ shows.bytes key into has;
        }

    shown-mid : ShowsSent mid (packet ∷ sent)
    shown-mid = shown_after packet relay mid sent gives shown

    first-may : MaySend code pattern node held sent (key_of packet)
    first-may = due-may code pattern node window other relay held shows sent shown (key_of packet) gives.due

    first-payload : packet.payload ≡ summed code pattern held (key_of packet)
    first-payload =
        gives.payload ∙ summed-held code pattern node window other relay held shows (key_of packet) (from_out code pattern node window other relay held shows (key_of packet) gives.due.out) first-may.operands

  -- packets that are given one after another
  pub given-each : (more : List Packet) (relay new : Relay) (sent : List Packet) → ShowsHeld code pattern node window relay held → ShowsSent relay sent
      → GivesEach relay more new → AreGiven relay new sent more
  given-each [] relay new sent shows shown is =
      record {
        shows = subst (λ (r : Relay). ShowsHeld code pattern node window r held) (sym is) shows;
        sends = subst (λ (r : Relay). ShowsSent r sent) (sym is) shown;
        may = λ key has. absurd (false≢true has);
        once = λ key. omega arith;
        payloads = All-nil (λ packet. packet.payload ≡ summed code pattern held (key_of packet));
      }
  given-each (packet ∷ more) relay new sent shows shown (mid, gives, rest) =
      of_rest (given-each more mid new (packet ∷ sent) (shows-mid packet relay mid sent shows shown gives) (shown-mid packet relay mid sent shows shown gives) rest)
    where
      of_rest : AreGiven mid new (packet ∷ sent) more → AreGiven relay new sent (packet ∷ more)
      of_rest given =
          record {
            shows = given.shows;
            sends = λ key is. given.sends key is ∙ has_key-append key more (packet ∷ sent)
                ∙ or_turned (has_key key more) (is_same_key (key_of packet) key) (has_key key sent)
                ∙ sym (has_key-append key (packet ∷ more) sent);
            may = may;
            once = once;
            payloads = All-cons (λ p. p.payload ≡ summed code pattern held (key_of p)) packet more (first-payload packet relay mid sent shows shown gives) given.payloads;
          }
        where
          later : (key : Key) → has_key key more ≡ true → MaySend code pattern node held sent key
          later key has =
              let may = given.may key has in
              record { live = may.live; from_node = may.from_node; not_source = may.not_source; operands = may.operands; unsent = or_none (is_same_key (key_of packet) key) (has_key key sent) may.unsent }

          may : (key : Key) → has_key key (packet ∷ more) ≡ true → MaySend code pattern node held sent key
          may key has = by (is_same_key (key_of packet) key) refl has
            where
              by : (b : Bool) → is_same_key (key_of packet) key ≡ b → (b || has_key key more) ≡ true → MaySend code pattern node held sent key
              by true same here = subst (MaySend code pattern node held sent) (same_key (key_of packet) key same) (first-may packet relay mid sent shows shown gives)
              by false apart there = later key there

          once : (key : Key) → times_of key (packet ∷ more) ≤ 1
          once key =
              times_more key packet more (given.once key) (λ same. false_from_ne_true (has_key key more) (λ has.
              false≢true (sym (given.may key has).unsent ∙ ap (λ b. b || has_key key sent) same)))

  -- Where nothing is due any more, they are all that may be sent, if that is of the window.
  pub given-all : (more : List Packet) (relay new : Relay) (sent : List Packet) → ShowsHeld code pattern node window relay held → ShowsSent relay sent
      → GivesEach relay more new → ((key : Key) → IsDue new key → ⊥)
      → ((key : Key) → MaySend code pattern node held sent key → (window.first ≤ key.generation) × (key.generation < window.first + length window.blocks) × (key.piece < pieces))
      → AreSent code pattern node held sent more
  given-all more relay new sent shows shown each none bounds =
      of_given (given-each more relay new sent shows shown each)
    where
      of_given : AreGiven relay new sent more → AreSent code pattern node held sent more
      of_given given = record { once = given.once; keys = λ key. (given.may key, all key); payloads = given.payloads }
        where
          all : (key : Key) → MaySend code pattern node held sent key → has_key key more ≡ true
          all key may = elim (cases_Bool (has_key key more)) [
            | inl has ↦ has
            | inr lacks ↦
                let unsent : has_key key (more ++ sent) ≡ false = has_key-append key more sent ∙ ap (λ b. b || has_key key sent) lacks ∙ may.unsent in
                let now : MaySend code pattern node held (more ++ sent) key = record { live = may.live; from_node = may.from_node; not_source = may.not_source; operands = may.operands; unsent = unsent } in
                let in_window = bounds key may in
                absurd (none key (may-due code pattern node window other new held given.shows (more ++ sent) given.sends key in_window.0 in_window.1 in_window.2 now))
          ]
