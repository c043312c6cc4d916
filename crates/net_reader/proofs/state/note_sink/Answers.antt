use Rattle.std.proofs.Common.{◌≡◌, ℕ, List, false, nat_lt, not, refl, sym, ap, ◌∙◌, arith, rules, tests}
use Rattle.std.proofs.Math.Bool.{or-false}
use Rattle.std.proofs.lemmas.Bool.{le-ltb, lt-ltb, not-true}
use Rattle.std.proofs.lemmas.List.{append-nil}
use Rattle.name_index.specs.Seen.{has}
use Rattle.net_model.specs.Name.{is_name}
use Rattle.net_model.specs.Limits.{most_nodes}
use Rattle.net_reader.specs.declared.refusal.ReadRefusal.TheVariants.{TooMany}
use Rattle.net_reader.specs.declared.refusal.What.TheVariants.{Nodes}
use Rattle.net_reader.specs.State.{AreTables}
use Rattle.net_reader.specs.Statements.{Statement, sink_names, sink_is, too_many_nodes}
use Rattle.net_reader.proofs.Tables.{Hears-said, with_statement-refused, too_many_nodes-is}
use Rattle.net_reader.proofs.state.note_sink.Goals as goal
use Rattle.net_reader.proofs.state.note_sink.Goals.{After-len}

module _ (c : After-len) (earlier : List Statement) (tables : AreTables earlier c.args.state.now) where
  named : not (is_name c.args.node.now) ≡ false
  named = search (rules, tests)

  -- the sink is none yet
  fresh : has (sink_names earlier) c.args.node.now ≡ false
  fresh = ap (λ (names : List (List ℕ)). has names c.args.node.now) (sym tables.sinks) ∙ not-true _ (sym c.in_ok-is_fresh.ensures.fresh ∙ (cc))

  -- whether there are too many nodes
  many : too_many_nodes earlier (sink_is c.args.node.now) ≡ nat_lt most_nodes c.len.result
  many = too_many_nodes-is earlier (sink_is c.args.node.now) c.args.state.now tables c.add-2.new.self c.in_ok-add.ensures.names ∙ ap (nat_lt most_nodes) (sym c.len.ensures.len)

pub returns-then-len-gt-MOST_NODES : goal.returns-then-len-gt-MOST_NODES
returns-then-len-gt-MOST_NODES c = λ earlier tables memory.
    let at = (goal.at.returns-then-len-gt-MOST_NODES c).After-len in
    with_statement-refused earlier c.args.line (sink_is c.args.node.now) 2 (TooMany c.args.line Nodes)
    (named at earlier tables, (fresh at earlier tables, (many at earlier tables ∙ lt-ltb _ _ c.if-len-gt-MOST_NODES.true, refl)))

pub returns : goal.returns
returns c = λ earlier tables.
    let at = (goal.at.returns c).After-len in
    Hears-said earlier c.args.line (sink_is c.args.node.now) c.args.state.now _ tables
    (named at earlier tables, (fresh at earlier tables, (many at earlier tables ∙ le-ltb _ _ c.if-len-gt-MOST_NODES.false, tt)))
    (record {
      nodes = c.in_ok-add.ensures.names;
      link_names = sym (append-nil _);
      links = sym (append-nil _);
      bundle_names = sym (append-nil _);
      bundles = sym (append-nil _);
      pattern_names = sym (append-nil _);
      patterns = sym (append-nil _);
      members = omega arith;
      sinks = c.in_ok-is_fresh.ensures.added (cc);
      source = sym (append-nil _);
      field = sym (append-nil _);
      rate = sym (append-nil _);
      fails_each = sym (or-false _);
      few_nodes = rw (← c.len.ensures.len) c.if-len-gt-MOST_NODES.false;
      few_links = tables.few_links;
      few_patterns = tables.few_patterns;
      few_members = tables.few_members;
    })
