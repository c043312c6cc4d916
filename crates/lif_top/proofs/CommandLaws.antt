-- What is done by words, by the command that they were read as.
use Rattle.std.specs.Prelude.{◌≡◌, [], List, ℕ, Option, Some}
use Rattle.std.specs.Option.{option_map}
use Rattle.std.proofs.Common.{sym, ap, subst, ◌∙◌}
use Rattle.lif_outside.specs.declared.links.Links.{Ghosts as LinksGhosts}
use Rattle.lif_outside.specs.declared.store.Store.{Ghosts as StoreGhosts}
use Rattle.top_base.proofs.PerformingLaws.{runs_on-store}
use Rattle.top_base.specs.Given.{command_in}
use Rattle.top_base.specs.Performs.{RunsOn, RunsOnStore}
use Rattle.top_base.specs.Words.{Command, command_of}
use Rattle.top_base.specs.declared.outcome.Outcome.{Outcome}
use Rattle.top_base.specs.declared.words.Command.{Command as Given}
use Rattle.lif_top.specs.Promises.{does_form}

-- a command that makes no call on the links does what the form of its words does
pub runs_form : {S L : Type 0} (s : StoreGhosts S) (l : LinksGhosts L) → ((at : L) → l.moves [] at at)
    → (words : List (List ℕ)) (read : Option Given) (command : Given) (form : Command)
    → option_map command_in read ≡ command_of words → read ≡ Some command → command_in command ≡ form
    → (old new : S) (at : L) (outcome : Outcome) → RunsOnStore s (does_form (l.faithful at) (Some form)) old new outcome
    → RunsOn s l (does_form (l.faithful at) (command_of words)) old new at at outcome
runs_form s l no_moves words read command form made is same old new at outcome runs =
    let does : Option Command → Type 0 = λ form. RunsOn s l (does_form (l.faithful at) form) old new at at outcome in
    let words_are : command_of words ≡ Some form = sym made ∙ ap (option_map command_in) is ∙ ap (λ (form : Command). Some form) same in
    subst does (sym words_are) (runs_on-store at no_moves (does_form (l.faithful at) (Some form)) outcome runs)
