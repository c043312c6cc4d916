-- All that the program promises, by the command that its words are, and by its deeds.
use Rattle.std.specs.Prelude.{◌≡◌, ◌≢◌, ◌↔◌, ℕ, Bool, List, Option, Some, None}
use Rattle.lif_outside.specs.declared.links.Links.{Ghosts as LinksGhosts}
use Rattle.std.proofs.Common.{refl, sym, ap, subst, ◌∙◌, ⊎_elim}
use Rattle.std.proofs.lemmas.Bool.{false≢true}
use Rattle.lif_outside.specs.declared.sink.Sink.{Ghosts as SinkGhosts}
use Rattle.lif_outside.specs.declared.store.Store.{Ghosts as StoreGhosts}
use Rattle.lif_outside.specs.Accounts.{SinkAccounts, StoreAccounts}
use Rattle.lif_outside.specs.Calls.{Calls, MakesPuts, Objects}
use Rattle.lif_outside.specs.Events.{Event}
use Rattle.lif_outside.specs.LinksAccounts.{LinksAccounts, holding}
use Rattle.lif_outside.specs.Moves.{Move}
use Rattle.lif_outside.specs.Puts.{Put}
use Rattle.top_base.specs.Outcome.{SaysOutcome, status_unsaid}
use Rattle.top_base.specs.Performs.{Performs, RunsOn}
use Rattle.top_base.proofs.PerformingLaws.{IsKnown, at_once_known, performs_said}
use Rattle.top_base.specs.Words.{Command, blind, check, command_of, compile, cuts, demo, finish, migrate, order, relay, send, send_two, sink, twin}
use Rattle.top_base.specs.declared.outcome.Outcome.{Outcome}
use Rattle.top_base.specs.declared.status.Status.{Status}
use Rattle.top_base.specs.declared.status.Status.TheVariants.{Done, Usage}
use Rattle.top_tools.proofs.FinishLaws.{finish_known, finish_used}
use Rattle.top_tools.proofs.ToolLaws.{check_known, check_used, compile_known, compile_used, cuts_known, cuts_used, migrate_known, migrate_used, order_known, order_used}
use Rattle.top_tools.proofs.TwinLaws.{twin_known, twin_used}
use Rattle.lif_top.specs.Promises.{Promises, does_form, misuse}
use Rattle.top_blind.proofs.BlindDelivered.{blind-delivers}
use Rattle.top_blind.proofs.BlindLaws.{blind_known, blind_used}
use Rattle.top_nodes.proofs.RelayChained.{node-relays}
use Rattle.top_nodes.proofs.RelayLaws.{relay_known, relay_used}
use Rattle.top_nodes.proofs.SinkChained.{sink-receives}
use Rattle.top_nodes.proofs.SinkLaws.{sink_known, sink_used}
use Rattle.top_runs.proofs.DemoPerforms.{demo_known, demo_used}
use Rattle.top_runs.proofs.SendPerforms.{send_known, send_used}
use Rattle.top_runs.proofs.SendTwoPerforms.{send_two_known, send_two_used}

-- a status is that of words that are no form where the outcome's is, and nowhere else
unsaid_used : (status : Status) → status ≢ Usage → status_unsaid status ≢ Usage
unsaid_used Done used e = cc
unsaid_used status used e = used e

said_used : (outcome : Outcome) (status : Status) (puts : List Put) → outcome.status ≢ Usage → SaysOutcome outcome status puts → status ≢ Usage
said_used outcome status puts used says is = ⊎_elim
    (λ all. used (sym all.0 ∙ is))
    (λ part. unsaid_used outcome.status used (sym part.0 ∙ is))
    says

said_usage : (outcome : Outcome) (status : Status) (puts : List Put) → outcome.status ≡ Usage → SaysOutcome outcome status puts → status ≡ Usage
said_usage outcome status puts is says = ⊎_elim
    (λ all. all.0 ∙ is)
    (λ part. part.0 ∙ ap status_unsaid is)
    says

-- what has to be known of each command, and of words that are none
form_known : (faithful : Bool) (form : Option Command) → IsKnown (does_form faithful form)
form_known faithful None = at_once_known misuse refl (λ not. absurd (false≢true (sym not)))
form_known faithful (Some (order net)) = order_known net
form_known faithful (Some (cuts net)) = cuts_known net
form_known faithful (Some (compile given)) = compile_known given
form_known faithful (Some (check code)) = check_known code
form_known faithful (Some (send given)) = send_known faithful given
form_known faithful (Some (demo given)) = demo_known faithful given
form_known faithful (Some (migrate given)) = migrate_known given
form_known faithful (Some (relay given)) = relay_known given
form_known faithful (Some (sink given)) = sink_known given
form_known faithful (Some (blind given)) = blind_known given
form_known faithful (Some (finish given)) = finish_known given
form_known faithful (Some (twin given)) = twin_known given
form_known faithful (Some (send_two given)) = send_two_known faithful given

command_used : (faithful : Bool) (command : Command) (outcome : Outcome) (calls : Calls) → (does_form faithful (Some command)).runs outcome calls → outcome.status ≢ Usage
command_used faithful (order net) = order_used net
command_used faithful (cuts net) = cuts_used net
command_used faithful (compile given) = compile_used given
command_used faithful (check code) = check_used code
command_used faithful (send given) = send_used faithful given
command_used faithful (demo given) = demo_used faithful given
command_used faithful (migrate given) = migrate_used given
command_used faithful (relay given) = relay_used given
command_used faithful (sink given) = sink_used given
command_used faithful (blind given) = blind_used given
command_used faithful (finish given) = finish_used given
command_used faithful (twin given) = twin_used given
command_used faithful (send_two given) = send_two_used faithful given

-- the usage comes of words that are no form
usage_of : (faithful : Bool) (form : Option Command) (outcome : Outcome) (status : Status) (calls : Calls) (puts : List Put) → (does_form faithful form).runs outcome calls → SaysOutcome outcome status puts → (status ≡ Usage) ↔ (form ≡ None)
usage_of faithful None outcome status calls puts runs says = ((λ is. refl), (λ none. said_usage outcome status puts (ap (λ (o : Outcome). o.status) runs.0) says))
usage_of faithful (Some command) outcome status calls puts runs says =
    ((λ is. absurd (said_used outcome status puts (command_used faithful command outcome calls runs) says is)), (λ none. absurd (cc)))

-- what is promised of the words, by the calls and the puts of their line
pub promises : {S C L : Type 0} {g : StoreGhosts S} {h : SinkGhosts C} {k : LinksGhosts L} (words : List (List ℕ)) (o : Objects g h k) (status : Status)
    → ((events : List Event) → g.calls events o.store_old o.store_new → StoreAccounts g.files g.read_faults g.write_faults g.made events o.store_old o.store_new)
    → ((puts : List Put) → h.puts puts o.say_old o.say_new → SinkAccounts h.written h.faults puts o.say_old o.say_new)
    → ((made : List Move) → k.moves made o.links_old o.links_new
    → LinksAccounts (holding k.flying k.room k.opened_with k.repeats) k.faithful k.faults k.sent k.given made o.links_old o.links_new)
    → (outcome : Outcome) → RunsOn g k (does_form (k.faithful o.links_old) (command_of words)) o.store_old o.store_new o.links_old o.links_new outcome
    → MakesPuts h o.say_old o.say_new (SaysOutcome outcome status) → Promises words o status
promises {k = k} words o status store_accounts say_accounts links_accounts outcome runs puts =
    let faithful = k.faithful o.links_old in
    let performed = performs_said o status store_accounts say_accounts links_accounts (does_form faithful (command_of words)) (form_known faithful (command_of words)) outcome runs puts in
    record {
      usage = usage_of faithful (command_of words) outcome status runs.calls puts.made runs.holds puts.holds;
      performed = performed;
      relays = λ given is. node-relays o given status (subst (λ form. Performs (does_form faithful form) o status) is performed);
      receives = λ given is. sink-receives o given status (subst (λ form. Performs (does_form faithful form) o status) is performed);
      delivers = λ given is. blind-delivers o given status (subst (λ form. Performs (does_form faithful form) o status) is performed);
    }
