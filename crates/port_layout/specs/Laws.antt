-- Laws of the port table above its bytes: what a call leaves of the chains and of the carrying links.
use Rattle.std.specs.Prelude.{◌≡◌, ℕ, ◌+◌, ◌*◌, ◌<◌, true, false, List, length}
use Rattle.network.specs.declared.types.Ends.{Ends}
use Rattle.port_layout.specs.Ports.{Table, chain_of, first_head, second_head, flags, linked, enabled, disabled, front, back}

-- Enabling the link at place i puts its two records at the front of its ends' chains; every other chain stands.
abbrev pub EnablePutsInFront : Type 0
EnablePutsInFront =
    (n : ℕ) (es : List Ends) (bs : List ℕ) → Table n es bs → (i : ℕ) → i < length es → linked n es bs i ≡ false → (v : ℕ) → v < n →
    chain_of n es (enabled n es bs i) v ≡ front (2 * i + 2) (second_head es i) (front (2 * i + 1) (first_head es i) (chain_of n es bs)) v

-- Disabling it takes both out and keeps the order of the rest, wherever in their chains they stood.
abbrev pub DisableTakesOut : Type 0
DisableTakesOut =
    (n : ℕ) (es : List Ends) (bs : List ℕ) → Table n es bs → (i : ℕ) → i < length es → linked n es bs i ≡ true → (v : ℕ) → v < n →
    chain_of n es (disabled n es bs i) v ≡ back (2 * i + 2) (second_head es i) (back (2 * i + 1) (first_head es i) (chain_of n es bs)) v

-- The links that carry after a call depend on those that carried before it, and not on the order of the chains.
abbrev pub OrderDoesNotMatter : Type 0
OrderDoesNotMatter =
    (n : ℕ) (es : List Ends) (bs cs : List ℕ) → Table n es bs → Table n es cs → flags n es bs ≡ flags n es cs → (i : ℕ) → i < length es →
    (linked n es bs i ≡ false → flags n es (enabled n es bs i) ≡ flags n es (enabled n es cs i))
    × (linked n es bs i ≡ true → flags n es (disabled n es bs i) ≡ flags n es (disabled n es cs i))
