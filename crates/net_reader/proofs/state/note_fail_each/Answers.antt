use Rattle.std.proofs.Common.{refl, sym, ◌∙◌, arith}
use Rattle.std.proofs.Math.Bool.{or-true}
use Rattle.std.proofs.lemmas.List.{append-nil}
use Rattle.net_reader.specs.Statements.{fail_each_is}
use Rattle.net_reader.proofs.Tables.{Hears-said}
use Rattle.net_reader.proofs.state.note_fail_each.Goals as goal

pub returns : goal.returns
returns c = λ earlier tables.
    Hears-said earlier c.args.line fail_each_is c.args.state.now _ tables
    (sym tables.fails_each ∙ (cc), tt)
    (record {
      nodes = refl;
      link_names = sym (append-nil _);
      links = sym (append-nil _);
      bundle_names = sym (append-nil _);
      bundles = sym (append-nil _);
      pattern_names = sym (append-nil _);
      patterns = sym (append-nil _);
      members = omega arith;
      sinks = sym (append-nil _);
      source = sym (append-nil _);
      field = sym (append-nil _);
      rate = sym (append-nil _);
      fails_each = sym (or-true _);
      few_nodes = tables.few_nodes;
      few_links = tables.few_links;
      few_patterns = tables.few_patterns;
      few_members = tables.few_members;
    })
