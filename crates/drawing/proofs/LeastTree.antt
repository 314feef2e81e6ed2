-- The least tree of sound tables: whether the present links join all nodes, told by counting, and the tree table.
use Rattle.std.proofs.Common.{◌≡◌, ℕ, suc, ◌≤◌, true, false, List, ◌++◌, length, take, drop, sym, ap, ◌∙◌, ap₂, inl, inr, arith}
use Rattle.std.proofs.lemmas.Bool.{cases_Bool}
use Rattle.std.proofs.lemmas.List.{length-map, length-take-le, take-map}
use Rattle.weights.specs.declared.order.Side.{Side}
use Rattle.network.specs.declared.types.Ends.{Ends}
use Rattle.network.specs.declared.types.LinkState.{LinkState}
use Rattle.block_records.specs.declared.Link.{Link}
use Rattle.graphs.specs.Forest.{Distinct}
use Rattle.graphs.specs.Spanning.{Within, all_joined}
use Rattle.graphs.proofs.Lists.{filtered-sub}
use Rattle.graphs.proofs.Kruskal.{forest-distinct}
use Rattle.graphs.proofs.Trees.{joined_length, all-joined}
use Rattle.plans.specs.Plan.{numbers}
use Rattle.plans.specs.Network.{Sided, graph_of, link_before, present_links, least_forest, least_tree}
use Rattle.plans.proofs.Numbers.{numbers-length}
use Rattle.block_records.specs.Words.{link_of, links_in}
use Rattle.drawing.specs.Tables.{fronted, joined}
use Rattle.drawing.specs.Ranks.{strict-links}
use Rattle.drawing.proofs.Present.{present-distinct}

module _ {W : Type 0} (side : W → W → Side) (laws : Sided side) (n : ℕ) (ends : List Ends) (links : List (LinkState W)) where
  abbrev L : List Link
  L = present_links links (graph_of ends)

  pub present-within : Within n (graph_of ends) → Within n L
  present-within w e i = w e (filtered-sub _ (graph_of ends) e i)

  pub forest-apart : Distinct (least_forest side ends links)
  forest-apart = forest-distinct (link_before side links) (strict-links side laws links) L (present-distinct ends links)

  -- The forest has n - 1 links exactly if the present links join all nodes.
  pub counted : 1 ≤ n → Within n (graph_of ends) → (suc (length (least_forest side ends links)) ≡ n → joined n ends links ≡ true)
      × ((suc (length (least_forest side ends links)) ≡ n → ⊥) → joined n ends links ≡ false)
  counted s w =
      let j = joined_length n L (present-within w) (present-distinct ends links) (link_before side links) (strict-links side laws links) s in
      let a = all-joined n L s in (
        λ e. a.1 (j.1 e),
        λ h. elim (cases_Bool (all_joined n L)) [ inl t ↦ absurd (h (j.0 (a.0 t))) | inr f ↦ f ],
      )

  -- A table's front of k links is the forest: so many, and their numbers ascending.
  module _ (t : List (List ℕ)) (k : ℕ) (room : k ≤ length t) (e : take k (links_in t) ≡ least_forest side ends links) where
    pub front-forest : links_in (take k t) ≡ least_forest side ends links
    front-forest = sym (take-map link_of k t) ∙ e

    pub forest-length : length (least_forest side ends links) ≡ k
    forest-length = ap length (sym e) ∙ length-take-le k (links_in t) (omega (arith, length-map t link_of))

    pub table_filled : (tree out : List ℕ) → out ≡ numbers (links_in (take k t)) → out ++ drop k tree ≡ fronted (least_tree side ends links) tree
    table_filled tree out h =
        let o : out ≡ least_tree side ends links = h ∙ ap numbers front-forest in
        let d : k ≡ length (least_tree side ends links) = sym (numbers-length (least_forest side ends links) ∙ forest-length) in
        ap₂ (λ (xs : List ℕ) (q : ℕ). xs ++ drop q tree) o d
