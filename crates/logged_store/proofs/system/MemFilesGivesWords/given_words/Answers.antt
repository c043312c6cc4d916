use Rattle.std.proofs.Common.{string_bytes}
use Rattle.logged_store.proofs.WordLaws.{same_views}
use Rattle.logged_store.proofs.system.MemFilesGivesWords.given_words.Goals as goal

pub returns-in-Ok : goal.returns-in-Ok
returns-in-Ok c = same_views string_bytes c.args.self.now.words.items c.in-Ok.words.items c.in-Ok.ensures.cases.0
