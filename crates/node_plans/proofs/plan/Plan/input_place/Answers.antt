use Rattle.node_plans.proofs.plan.Plan.input_place.Goals as goal

pub bounds-places-from : goal.bounds-places-from
bounds-places-from c = c.requires.places.within c.if-self.false c.args.from (c.requires.link c.if-self.false)
