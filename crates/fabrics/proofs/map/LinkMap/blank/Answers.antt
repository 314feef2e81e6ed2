use Rattle.std.proofs.Common.{◌≡◌, ◌++◌, drop, replicate, ap, rules}
use Rattle.fabrics.proofs.Blanks.{granted, begins-blank}
use Rattle.fabrics.proofs.map.LinkMap.blank.Goals as goal

pub returns-clause-outcome : goal.returns-clause-outcome
returns-clause-outcome c =
    let m = c.args.m in
    let bs = c.args.bytes.now in
    let zeros : c.fill.new.self ≡ replicate m 0 = search rules in
    begins-blank m bs (granted _ tt c.in_default.ensures) _ (ap (λ l. l ++ drop m bs) zeros)
