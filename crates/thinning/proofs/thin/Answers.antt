use Rattle.std.proofs.Common.{◌≡◌, length, take, sym, ◌∙◌, subst, arith}
use Rattle.std.proofs.lemmas.List.{take-map}
use Rattle.block_records.specs.declared.Link.{Link}
use Rattle.graphs.specs.Graph.{In}
use Rattle.graphs.specs.Forest.{ordered}
use Rattle.graphs.proofs.Lists.{ordered-in, filtered-sub}
use Rattle.plans.specs.Places.{place_before}
use Rattle.plans.proofs.Orders.{strict-places}
use Rattle.block_records.specs.Words.{link_of, links_in}
use Rattle.thinning.specs.Marks.{unmarked, Under}
use Rattle.thinning.proofs.thin.Goals as goal
use Rattle.thinning.proofs.thin.Goals.{After-order_others-r}

-- The others in their order, as a table,
front : (c : After-order_others-r) → links_in (take c.order_others-r.result c.order_others-r.new.others)
    ≡ ordered (place_before c.args.places.now) (unmarked c.args.named.now (links_in c.args.links.now))
front c = sym (take-map link_of c.order_others-r.result c.order_others-r.new.others) ∙ c.order_others-r.ensures.ordered

-- and each of them is one of the links.
sub : (c : After-order_others-r) (f : Link) → In f (links_in (take c.order_others-r.result c.order_others-r.new.others)) → In f (links_in c.args.links.now)
sub c f i = filtered-sub _ (links_in c.args.links.now) f (ordered-in (place_before c.args.places.now) _ f (subst (In f) (front c) i))

pub thin_ordered-requires-clause-chosen : goal.thin_ordered-requires-clause-chosen
thin_ordered-requires-clause-chosen c =
    let u : Under (length c.args.chosen.now) (links_in c.args.links.now) = λ f i. let n = c.requires.numbers f i in omega (arith, n.1, c.requires.tables.1) in
    (u, λ f i. u f (sub (goal.at.thin_ordered-requires-clause-chosen c).After-order_others-r f i))

pub thin_ordered-requires-clause-ends : goal.thin_ordered-requires-clause-ends
thin_ordered-requires-clause-ends c = (c.requires.ends, λ f i. c.requires.ends f (sub (goal.at.thin_ordered-requires-clause-ends c).After-order_others-r f i))

pub returns-clause-thinned : goal.returns-clause-thinned
returns-clause-thinned c =
    c.thin_ordered.ensures.thinned (place_before c.args.places.now) (strict-places c.args.places.now) c.requires.ascends (front (goal.at.returns-clause-thinned c).After-order_others-r)
