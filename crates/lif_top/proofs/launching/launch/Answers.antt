use Rattle.std.proofs.Common.{◌∙◌}
use Rattle.lif_top.proofs.WordLaws.{gives-named}
use Rattle.lif_top.proofs.launching.launch.Goals as goal

pub returns : goal.returns
returns g c =
    let ran = c.run.ensures.status in (
      c.named-words.result,
      gives-named _ c.given_words.result c.named-words.result c.given_words.ensures c.named-words.ensures.words,
      record {
        store_old = c.named-words.new.store;
        store_new = c.run.new.store;
        say_old = c.new-say.result;
        say_new = c.run.new.say;
        links_old = c.new-links.result;
        links_new = c.run.new.links;
      },
      record {
        status = ran.0;
        ends = ran.1;
        read_faults = λ path. c.named-words.ensures.reads ∙ c.new-store.ensures.reads;
        write_faults = λ path. c.named-words.ensures.writes ∙ c.new-store.ensures.writes;
        say_faults = c.new-say.ensures.faults;
        flying = c.new-links.ensures.empty;
        runs = ran.2;
      },
    )
