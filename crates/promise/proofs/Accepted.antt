-- Networks that can be opened, and that batches keep so.
use Rattle.std.proofs.Common.{◌≡◌, ℕ, zero, suc, ◌≤◌, true, List, [], ◌∷◌, length, take, None, arith}
use Rattle.std.proofs.lemmas.List.{take_all}
use Rattle.std.proofs.lemmas.Bool.{cond_both}
use Rattle.std.proofs.lemmas.Bool.Decides.{nat_tests}
use Rattle.network.specs.declared.types.Ends.{Ends}
use Rattle.network.specs.declared.types.LinkState.{LinkState}
use Rattle.network.specs.declared.types.Change.{Change}
use Rattle.graphs.specs.Spanning.{Within, AllJoined, all_joined}
use Rattle.graphs.proofs.Trees.{all-joined}
use Rattle.plans.specs.Network.{graph_of, present_links, changed, changed_by, parted_from, parted_at}
use Rattle.plans.proofs.Standings.{faultless-within}
use Rattle.planner.specs.Open.{tables_fault, open_fault, joined}
use Rattle.planner.specs.Draw.{draw_fault}
use Rattle.drawing.proofs.Fits.{fits}
use Rattle.promise.specs.Installation.{Network, after}
use Rattle.promise.specs.Promise.{present}

pub record Accepted {W : Type 0} (g : Network W) : Type 0 where
  pub some : 1 ≤ g.n
  pub within : Within g.n (graph_of g.ends)
  pub all : AllJoined g.n (present g)

pub open-accepts : {W : Type 0} (g : Network W) (t w : ℕ) → open_fault g.n g.ends g.links t w ≡ None → Accepted g
open-accepts g t w e =
    let r : tables_fault g.n g.ends (length g.links) t w ≡ None = grind arith in
    let j : joined g.n g.ends g.links ≡ true = grind arith in
    let f = fits g.n g.ends (length g.links) t w r in
    record { some = f.some; within = faultless-within g.n 1 g.ends f.ends; all = (all-joined g.n (present g) f.some).0 j }

-- Where no change parts the network, it is joined at each moment.
never-parted : {W : Type 0} (k n : ℕ) (ends : List Ends) (links : List (LinkState W)) (batch : List (Change W)) → 1 ≤ k
    → parted_from k n ends links batch ≡ 0 → all_joined n (present_links links (graph_of ends)) ≡ true
    → (t : ℕ) → all_joined n (present_links (changed_by links (take t batch)) (graph_of ends)) ≡ true
unfolding parted_from changed_by
never-parted k n ends links [] some e j zero = j
never-parted k n ends links [] some e j (suc t) = j
never-parted k n ends links (c ∷ cs) some e j zero = j
never-parted k n ends links (c ∷ cs) some e j (suc t) =
    cond_both (all_joined n (present_links (changed links c) (graph_of ends))) (parted_from (suc k) n ends (changed links c) cs) k
    (λ x. x ≡ 0 → all_joined n (present_links (changed_by (changed links c) (take t cs)) (graph_of ends)) ≡ true)
    (λ q x. never-parted (suc k) n ends (changed links c) cs (omega arith) x q t) (λ q x. absurd (omega arith)) e

pub draw-accepts : {W : Type 0} (g : Network W) → Accepted g → (batch : List (Change W)) (s e w : ℕ)
    → draw_fault None g.n g.ends g.links batch s e w ≡ None → (t : ℕ) → Accepted (after g (take t batch))
draw-accepts g a batch s e w h t =
    let z : parted_at g.n g.ends g.links batch ≡ 0 = grind (arith, nat_tests) in
    record {
      some = a.some;
      within = a.within;
      all = (all-joined g.n (present (after g (take t batch))) a.some).0
          (never-parted 1 g.n g.ends g.links batch (omega arith) z ((all-joined g.n (present g) a.some).1 a.all) t);
    }

pub all-accepted : {W : Type 0} (g : Network W) → Accepted g → (batch : List (Change W)) (s e w : ℕ)
    → draw_fault None g.n g.ends g.links batch s e w ≡ None → Accepted (after g batch)
all-accepted g a batch s e w h = rw (take_all (length batch) batch (omega arith)) at (draw-accepts g a batch s e w h (length batch))
