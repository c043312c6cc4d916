use Rattle.std.proofs.Common.{inl, inr}
use Rattle.std.proofs.lemmas.Result.{on_ok_weaker}
use Rattle.item_list.proofs.Results.{on_err}
use Rattle.system_files.proofs.Handles.{none_stays}
use Rattle.system_files.proofs.files.append_to.Goals as goal

-- a file that wasn't open isn't after others were closed
pub keep-requires : goal.keep-requires
keep-requires g c = none_stays c.in_default.ensures.still (c.reopen_sink.ensures.1 c.args.path.now)

pub returns-in_err-sink-clause-closes : goal.returns-in_err-sink-clause-closes
returns-in_err-sink-clause-closes g c = on_err c.from_residual.result (none_stays c.in_default.ensures.still (c.reopen_sink.ensures.1 c.args.path.now))

pub returns-in_err-append-clause-closes : goal.returns-in_err-append-clause-closes
returns-in_err-append-clause-closes g c = on_err c.from_residual-in_err-append.result (none_stays c.in_default.ensures.still (c.reopen_sink.ensures.1 c.args.path.now))

-- that which was open gained the bytes
pub returns-in-Some-clause-gains : goal.returns-in-Some-clause-gains
returns-in-Some-clause-gains g c = on_ok_weaker c.in-Some.outcome (λ gains. record {
  before = gains.before;
  after = gains.after;
  was = inl gains.was;
  is = inl gains.is;
  gained = gains.gained;
}) c.in-Some.ensures.gains

-- one that was opened did
pub returns-clause-gains : goal.returns-clause-gains
returns-clause-gains g c = record {
  before = c.in_ok-sink.sink;
  after = c.append-2.new.self;
  was = inr c.in_default.ensures.absent;
  is = c.keep.ensures.kept;
  gained = c.in_ok-append.ensures.ok;
}
