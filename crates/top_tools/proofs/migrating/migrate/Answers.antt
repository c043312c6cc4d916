use Rattle.std.proofs.Common.{[], ◌∷◌, refl, sym, subst, ◌∙◌}
use Rattle.code_file.specs.Items.{IsFileOf}
use Rattle.code_file.specs.Limits.{code_limit}
use Rattle.lif_outside.proofs.CallLaws.{calls_weaker}
use Rattle.lif_outside.specs.Calls.{MakesCalls, store_calls}
use Rattle.top_base.proofs.ActingLaws.{runs_had, runs_lost}
use Rattle.top_base.proofs.MakingLaws.{runs_apart}
use Rattle.top_base.specs.CodeFiles.{RefusesFile}
use Rattle.top_base.specs.Given.{migrate_given_in}
use Rattle.top_base.specs.Making.{Writes}
use Rattle.top_tools.proofs.migrating.migrate.Goals as goal
use Rattle.top_base.specs.Lines.{migrated_line}
use Rattle.top_tools.proofs.CodeWritingLaws.{none_shared, writes_made}
use Rattle.top_tools.specs.CodeWriting.{DeclinesLong, WritesCode}
use Rattle.top_tools.specs.Migrate.{CanMigrate, IsMigrated}

pub returns-in-Ok : goal.returns-in-Ok
returns-in-Ok g c =
    let given = migrate_given_in c.args.words.now in
    let code = c.in-Ok.code in
    let outcome = c.write_code_file.result in
    let written = subst (λ said. MakesCalls g.S.Store c.read_file_of_code.new.store c.write_code_file.new.store (WritesCode given.new said code outcome.status outcome.line)) c.migrated.ensures c.write_code_file.ensures in
    let apart = none_shared given.old given.new (sym c.eq.ensures ∙ c.if-eq.false) in
    let writes = Writes code_limit IsFileOf RefusesFile (IsMigrated given) CanMigrate DeclinesLong in
    runs_apart code_limit IsFileOf RefusesFile (IsMigrated given) CanMigrate DeclinesLong given.old (given.new ∷ []) outcome apart
    (runs_had code_limit IsFileOf RefusesFile given.old g.met.S.Store.more_calls writes code outcome c.in-Ok.ensures.had
    (calls_weaker (WritesCode given.new (migrated_line code) code outcome.status outcome.line) (λ events. writes code outcome (store_calls events)) written
    (λ made is. (
      writes_made code_limit IsFileOf RefusesFile (IsMigrated given) CanMigrate DeclinesLong code given.new (migrated_line code) code
          (λ files line is. is) (λ line long. long) outcome.status outcome.line made is,
      refl,
    ))))

pub returns-in-Err : goal.returns-in-Err
returns-in-Err g c =
    let given = migrate_given_in c.args.words.now in
    let apart = none_shared given.old given.new (sym c.eq.ensures ∙ c.if-eq.false) in
    let writes = Writes code_limit IsFileOf RefusesFile (IsMigrated given) CanMigrate DeclinesLong in
    runs_apart code_limit IsFileOf RefusesFile (IsMigrated given) CanMigrate DeclinesLong given.old (given.new ∷ []) c.in-Err.refused apart
    (runs_lost code_limit IsFileOf RefusesFile given.old writes c.in-Err.refused c.in-Err.ensures.lost)
