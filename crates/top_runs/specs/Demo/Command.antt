-- What the command `demo` does, by links that are faithful or not. It makes no call on the store.
use Rattle.std.specs.Prelude.{◌≡◌, Bool}
use Rattle.top_base.specs.Performs.{Behaviour, by_words}
use Rattle.top_base.specs.Words.{Demo}
use Rattle.top_base.specs.declared.status.Status.TheVariants.{Done}
use Rattle.top_runs.specs.Demo.Due.{ChangesTo, DueOf, LinksWork}
use Rattle.top_runs.specs.Demo.Runs.{RunsDemo}

abbrev pub demo_command : Bool → Demo → Behaviour
demo_command faithful demo = record {
  runs = λ outcome. RunsDemo faithful demo outcome.status outcome.line;
  changes = λ outcome. ChangesTo outcome.status;
  due = by_words (λ status. status ≡ Done) (DueOf faithful demo);
  no_fault = LinksWork;
}
