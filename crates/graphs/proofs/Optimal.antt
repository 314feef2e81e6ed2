-- The greedy forest is the least: what it joins, and how it stands against other loop-free links.
use Rattle.std.proofs.Common.{◌≡◌, ℕ, ◌≤◌, Bool, true, List, length}
use Rattle.block_records.specs.declared.Link.{Link}
use Rattle.graphs.specs.Graph.{joins}
use Rattle.graphs.specs.Forest.{Strict, Distinct, LoopFree, filtered, forest, upto, uptos}
use Rattle.graphs.proofs.Joined.{◌⊆◌, joined_in, joins-spans}
use Rattle.graphs.proofs.Lists.{filtered-sub, filtered-mono, filtered-distinct}
use Rattle.graphs.proofs.Loops.{loopfree-sub}
use Rattle.graphs.proofs.Rank.{rank}
use Rattle.graphs.proofs.Kruskal.{forest-sub, forest-spans, forest-spans-part, upto-down}

module _ (lt : ℕ → ℕ → Bool) (o : Strict lt) (es : List Link) (d : Distinct es) where
  -- The forest joins the same nodes as all the links.
  pub forest-joins : (x y : ℕ) → joins (forest lt es) x y ≡ joins es x y
  forest-joins = joins-spans (λ e i. joined_in (forest-sub lt es e i)) (forest-spans lt o es d)

  module _ (A : List Link) (u : Distinct A) (l : LoopFree A) (s : A ⊆ es) where
    -- Of each part with all that comes before, so up to each link, the forest has at least as many links as any loop-free ones.
    pub forest-most-part : (P : Link → Bool) → ((e f : Link) → lt e.number f.number ≡ true → P f ≡ true → P e ≡ true)
        → length (filtered P A) ≤ length (filtered P (forest lt es))
    forest-most-part P down =
        rank (filtered P A) (filtered P (forest lt es))
        (filtered-distinct P A u) (loopfree-sub (filtered-sub P A) l)
        (λ e i. forest-spans-part lt o es d P down e (filtered-mono P s e i))

    pub forest-most : (z : Link) → length (uptos lt z A) ≤ length (uptos lt z (forest lt es))
    forest-most z = forest-most-part (upto lt z) (upto-down lt o z)
