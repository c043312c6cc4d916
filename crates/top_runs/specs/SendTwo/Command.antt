-- What the command `sendtwo` does, by links that are faithful or not.
use Rattle.std.specs.Prelude.{Bool}
use Rattle.code_file.specs.Limits.{code_limit}
use Rattle.top_base.specs.Accepting.{IsCodeOf, RefusesCode}
use Rattle.top_base.specs.Acting.{Due, Owed, Runs}
use Rattle.top_base.specs.Performs.{Behaviour, by_files}
use Rattle.top_base.specs.Words.{SendTwo}
use Rattle.top_runs.specs.SendTwo.Changes.{Changes}
use Rattle.top_runs.specs.SendTwo.Due.{DueOf, NoFault, OwedOf}
use Rattle.top_runs.specs.SendTwo.Runs.{SendsTwo}

-- CODE is read and checked, and SRC1 and SRC2 are sent through it
abbrev pub send_two_command : Bool → SendTwo → Behaviour
send_two_command faithful send = record {
  runs = Runs code_limit IsCodeOf RefusesCode (SendsTwo faithful send) send.code;
  changes = Changes faithful send;
  due = by_files (Owed code_limit IsCodeOf RefusesCode (OwedOf send) send.code) (Due code_limit IsCodeOf RefusesCode (DueOf send) send.code);
  no_fault = NoFault send;
}
