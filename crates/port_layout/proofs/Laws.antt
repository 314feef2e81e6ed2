-- The laws of the port table above its bytes.
use Rattle.std.proofs.Common.{◌≡◌, ℕ, ◌<◌, Bool, true, false, List, length, get_or, set, sym, ap, ◌∙◌}
use Rattle.network.specs.declared.types.Ends.{Ends}
use Rattle.port_layout.specs.Laws.{EnablePutsInFront, DisableTakesOut, OrderDoesNotMatter}
use Rattle.port_layout.specs.Ports.{flags, linked}
use Rattle.port_layout.proofs.Tables.{flag_at}
use Rattle.port_layout.proofs.Turns.{enabled-chains, disabled-chains, enabled-flags, disabled-flags}

pub puts-in-front : EnablePutsInFront
puts-in-front n es bs t i h f v l = enabled-chains n es bs t i h f v l

pub takes_out : DisableTakesOut
takes_out n es bs t i h f v l = disabled-chains n es bs t i h f v l

-- Equal flags say the same of each link.
same-link : (n : ℕ) (es : List Ends) (bs cs : List ℕ) → flags n es bs ≡ flags n es cs → (i : ℕ) → i < length es → (b : Bool) → linked n es bs i ≡ b → linked n es cs i ≡ b
same-link n es bs cs e i h b f = sym (flag_at n es cs i h) ∙ sym (ap (λ c. get_or c i false) e) ∙ flag_at n es bs i h ∙ f

pub order-free : OrderDoesNotMatter
order-free n es bs cs t u e i h = (
  λ f. enabled-flags n es bs t i h f ∙ ap (λ c. set c i true) e ∙ sym (enabled-flags n es cs u i h (same-link n es bs cs e i h false f)),
  λ f. disabled-flags n es bs t i h f ∙ ap (λ c. set c i false) e ∙ sym (disabled-flags n es cs u i h (same-link n es bs cs e i h true f)),
)
