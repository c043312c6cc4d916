use Rattle.std.proofs.Common.{◌∷◌, ◌++◌, [], ℕ, List, Vec, ap, ◌∙◌}
use Rattle.std.specs.Global.{Global}
use Rattle.net_reader.proofs.AddedLinks.{added_more, added_none, all_front, links_between, texts}
use Rattle.net_reader.proofs.state.add_links.Goals as goal

pub loop-name-init : goal.loop-name-init
loop-name-init c =
    let from = c.into_iter-name-iterator.ensures.into_iter_gives in
    added_none c.args.tail c.args.head c.args.link_names.now c.args.links.now.items c.args.names.items _ _ c.requires from.0 (from.1 ∙ c.args.names.ok.0)

pub loop-name-preserved : goal.loop-name-preserved
loop-name-preserved c =
    added_more c.args.tail c.args.head c.args.link_names.now c.args.links.now.items c.args.names.items c.loop-name.yielded _ _ _ _ c.in-Some.name c.loop-name.link_names _ c.loop-name.links.items _ c.loop-name.invariant
    c.in-Some.ensures.steps.0 c.in-Some.ensures.steps.1 c.in_ok-add.ensures.names
    (c.in_ok-push.ensures.items ∙ ap (λ (name : List ℕ). c.loop-name.links.items ++ record { name = name; tail = c.args.tail; head = c.args.head } ∷ []) (c.in_ok-name_of.ensures.gives ∙ c.as_slice-bytes.ensures.value))

pub returns-clause-names : goal.returns-clause-names
returns-clause-names c =
    c.loop-name.invariant.names_added ∙ ap (λ (front : List (Vec ℕ Global)). c.args.link_names.now ++ texts front) (all_front c.args.tail c.args.head _ _ _ c.loop-name.yielded _ _ _ _ c.loop-name.invariant c.in-None.ensures.steps.0)

pub returns-clause-links : goal.returns-clause-links
returns-clause-links c =
    c.loop-name.invariant.links_added
    ∙ ap (λ (front : List (Vec ℕ Global)). c.args.links.now.items ++ links_between c.args.tail c.args.head front) (all_front c.args.tail c.args.head _ _ _ c.loop-name.yielded _ _ _ _ c.loop-name.invariant c.in-None.ensures.steps.0)
