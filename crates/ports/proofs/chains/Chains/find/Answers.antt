use Rattle.std.proofs.Common.{◌≡◌, suc, ◌+◌, ◌-◌, ◌≤◌, sym, ap, ◌∙◌, arith}
use Rattle.port_layout.specs.Chains.{cell, found}
use Rattle.port_layout.specs.Words.{word}
use Rattle.port_layout.proofs.Walks.{found_here, found-step}
use Rattle.ports.proofs.chains.Chains.find.Goals as goal

pub returns-in_default-clause-value : goal.returns-in_default-clause-value
returns-in_default-clause-value c =
    let w = word c.args.bytes.now in
    let at = c.loop-step.at in
    let u : c.args.self.records - c.loop-step._step ≡ suc (c.args.self.records - (c.loop-step._step + 1)) = omega arith in
    let e : w at ≡ c.args.r = sym c.read.ensures.value ∙ c.if-next-r.true in
    sym (found_here c.args.self.heads w c.args.r c.requires.named _ _ at u e) ∙ c.loop-step.invariant.1

pub loop-step-preserved : goal.loop-step-preserved
loop-step-preserved c =
    let n = c.args.self.heads in
    let m = c.args.self.records in
    let w = word c.args.bytes.now in
    let at = c.loop-step.at in
    let is : c.read.result ≡ w at = c.read.ensures.value in
    let le : w at ≤ m = c.requires.small at c.loop-step.invariant.0 in
    let u : m - c.loop-step._step ≡ suc (m - (c.loop-step._step + 1)) = omega arith in
    let s = found-step n w c.args.r c.requires.named _ _ at u (λ e. c.if-next-r.false (is ∙ e)) (λ e. omega (arith, is, e)) in (
      omega (arith, le, is),
      ap (λ z. found n w (m - (c.loop-step._step + 1)) (cell n z) c.args.r) is ∙ sym s ∙ c.loop-step.invariant.1,
    )
