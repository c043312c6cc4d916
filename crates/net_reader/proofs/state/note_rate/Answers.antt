use Rattle.std.proofs.Common.{◌∷◌, ◌++◌, [], ℕ, List, length, nat_lt, refl, sym, ap, ◌∙◌, arith}
use Rattle.std.proofs.Math.Bool.{or-false}
use Rattle.std.proofs.lemmas.List.{append-nil}
use Rattle.net_reader.specs.Statements.{rate_is}
use Rattle.net_reader.proofs.Tables.{Hears-said, none_listed}
use Rattle.net_reader.proofs.state.note_rate.Goals as goal

pub returns : goal.returns
returns c = λ earlier tables.
    let none = none_listed c.args.state.now.rate (cc) in
    Hears-said earlier c.args.line (rate_is c.args.rate) c.args.state.now _ tables
    (ap (λ (rates : List ℕ). nat_lt 0 (length rates)) (sym tables.rate ∙ none), tt)
    (record {
      nodes = refl;
      link_names = sym (append-nil _);
      links = sym (append-nil _);
      bundle_names = sym (append-nil _);
      bundles = sym (append-nil _);
      pattern_names = sym (append-nil _);
      patterns = sym (append-nil _);
      members = omega arith;
      sinks = sym (append-nil _);
      source = sym (append-nil _);
      field = sym (append-nil _);
      rate = ap (λ (rates : List ℕ). rates ++ c.args.rate ∷ []) (sym none);
      fails_each = sym (or-false _);
      few_nodes = tables.few_nodes;
      few_links = tables.few_links;
      few_patterns = tables.few_patterns;
      few_members = tables.few_members;
    })
