use Rattle.std.proofs.Common.{inl, inr, length, take, subst}
use Rattle.system_files.specs.Handle.{GivesFrom}
use Rattle.system_files.proofs.Handles.{if_ok_then}
use Rattle.system_files.proofs.files.read_at.Goals as goal

-- that which was open gave the bytes
pub returns-in-Some-clause-bytes : goal.returns-in-Some-clause-bytes
returns-in-Some-clause-bytes g c = if_ok_then c.in-Some.outcome c.in-Some.ensures.gives (λ n gives. record {
  before = gives.before;
  after = gives.after;
  was = inl gives.was;
  is = inl gives.is;
  gave = gives.gave;
})

-- one that was opened did
pub returns-clause-bytes : goal.returns-clause-bytes
returns-clause-bytes g c = record {
  before = c.in_ok-source.source;
  after = c.read_from-2.new.self;
  was = inr (c.in_default.ensures.absent, c.in_ok-source.ensures.start);
  is = c.keep.ensures.kept;
  gave = subst (λ into. GivesFrom g.R.File.Seek g.R.File.Read c.args.at (length into) (take c.in_ok-count.count c.read_from-2.new.into) c.in_ok-source.source c.read_from-2.new.self) c.in_default.ensures.idle c.in_ok-count.ensures.bytes;
}
