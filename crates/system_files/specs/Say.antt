-- What a sink over a writer shows.
use Rattle.std.specs.Prelude.{ℕ, List, Option}
use Rattle.lif_outside.specs.Accounts.{SinkAccounts}
use Rattle.lif_outside.specs.Puts.{Put}
use Rattle.system_files.specs.declared.say.WriterSay.{WriterSay}

module _ {W : Type 0} where
  -- where the bytes go
  abbrev pub writer_of : WriterSay W → W
  writer_of say = say.to

  -- how often a put has failed
  abbrev pub faults_of : WriterSay W → ℕ
  faults_of say = say.faults

  module _ (contents : W → Option (List ℕ)) where
    -- what the writer holds, where it tells that
    abbrev pub bytes_of : WriterSay W → Option (List ℕ)
    bytes_of say = contents (writer_of say)

    -- puts lead from one state to another where the bytes and the count account for them
    abbrev pub puts_on_writer : List Put → WriterSay W → WriterSay W → Type 0
    puts_on_writer puts old new = SinkAccounts bytes_of faults_of puts old new
