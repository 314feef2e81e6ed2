-- Links of the last values: whether the others join all nodes shows in the least forest of all.
use Rattle.std.proofs.Common.{◌≡◌, ℕ, Bool, true, ◌&&◌, ◌||◌, ltb, ◌↔◌, List, inl, inr}
use Rattle.std.proofs.lemmas.Bool.{cases_Bool, both_ways, and_parts, or_cases, or_left, or_right}
use Rattle.block_records.specs.declared.Link.{Link}
use Rattle.graphs.specs.Graph.{In}
use Rattle.graphs.specs.Forest.{Distinct, filtered, forest}
use Rattle.graphs.specs.Spanning.{Within, AllJoined}
use Rattle.graphs.proofs.Joined.{joined-mono, joined-spans, joins-joined, joined-joins}
use Rattle.graphs.proofs.Lists.{filtered-sub, filtered-test, in-sift, in-others}
use Rattle.graphs.proofs.Loops.{unjoined}
use Rattle.graphs.proofs.Kruskal.{forest-sub, forest-loopfree, forest-spans, forest-spans-part}
use Rattle.graphs.proofs.Parts.{part_same}
pub use Rattle.graphs.proofs.Parts.{sorted-same}
use Rattle.plans.specs.Places.{Scale, Lawful, value_of, before_by}
use Rattle.plans.specs.Plan.{forest_by}
use Rattle.plans.proofs.Orders.{strict-by}

-- A test that no value passes which is ahead of, or level with, one that does not.
module _ {V : Type 0} (s : Scale V) (l : Lawful s) (test : V → Bool)
    (first : (u v : V) → (s.ahead u v || s.level u v) ≡ true → test v ≡ true → test u ≡ true) (table : List V) (es : List Link) (d : Distinct es) where
  abbrev passes : Link → Bool
  passes e = test (value_of s.none table e.number)

  -- All links of the least forest pass.
  abbrev AllPass : Type 0
  AllPass = (f : Link) → In f (forest_by s table es) → passes f ≡ true

  is_down : (e f : Link) → before_by s table e.number f.number ≡ true → passes f ≡ true → passes e ≡ true
  is_down e f h k =
      let u = value_of s.none table e.number in
      let v = value_of s.none table f.number in
      first u v
      (elim (or_cases (s.ahead u v) (s.level u v && ltb e.number f.number) h) [
        | inl a ↦ or_left (s.ahead u v) (s.level u v) a
        | inr a ↦ or_right (s.ahead u v) (s.level u v) (and_parts (s.level u v) (ltb e.number f.number) a).0
      ]) k

  pub all_pass : (n : ℕ) → Within n es → AllJoined n (filtered passes es) → AllPass
  all_pass n w a f i =
      let lt = before_by s table in
      let v = w f (forest-sub lt es f i) in
      elim (cases_Bool (passes f)) [
        | inl h ↦ h
        | inr h ↦
            absurd (unjoined (forest-loopfree lt es f i) (joined-mono
            (λ g j. in-others f (filtered-sub passes (forest lt es) g j) (λ e. both_ways (passes f) h (rw e at (filtered-test passes (forest lt es) g j))))
            (joined-spans (forest-spans-part lt (strict-by s l table) es d passes is_down)
            (joins-joined (a f.a.0 f.b.0 v.0 v.1 v.2 v.3)))))
      ]

  pub passing-joined : (n : ℕ) → AllJoined n es → AllPass → AllJoined n (filtered passes es)
  passing-joined n a h x y p q r t =
      let lt = before_by s table in
      joined-joins (joined-mono (λ f i. in-sift passes (forest-sub lt es f i) (h f i))
      (joined-spans (forest-spans lt (strict-by s l table) es d) (joins-joined (a x y p q r t))))

  -- Where all links join all nodes, the passing ones do exactly if all of the least forest pass; it is then theirs.
  pub passing-joined-iff : (n : ℕ) → Within n es → AllJoined n es → AllJoined n (filtered passes es) ↔ AllPass
  passing-joined-iff n w a = (all_pass n w, passing-joined n a)

  pub passing-forest : AllPass → forest_by s table es ≡ forest_by s table (filtered passes es)
  passing-forest h = part_same (before_by s table) (strict-by s l table) passes is_down es d h
