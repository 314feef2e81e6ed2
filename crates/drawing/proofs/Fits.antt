-- What sound tables give: counts, lengths and ends in range.
use Rattle.std.proofs.Common.{◌≡◌, ℕ, zero, suc, ◌+◌, ◌-◌, ◌*◌, ◌≤◌, cond, ◌||◌, eqb, ltb, List, [], ◌∷◌, length, Some, None, arith}
use Rattle.std.proofs.lemmas.Bool.Decides.{nat_tests}
use Rattle.std.specs.Option.{option_map}
use Rattle.network.specs.declared.types.Ends.{Ends}
use Rattle.network.specs.declared.types.EndFault.TheVariants.{Outside, Same}
use Rattle.faults.specs.declared.OpenFault.TheVariants.{NodeCount, LinkCount, ShortTables}
use Rattle.network.specs.Ends.{no_node, end_fault, first_end_fault, no_open}
use Rattle.places.proofs.Refusals.{cond-none, or_else-none, mapped-none}
use Rattle.drawing.specs.Tables.{misfit, tables_fault}
use Rattle.drawing.specs.Tree.{EndsUnder}

-- Tables in which a network can be worked out.
pub record Fit (n : ℕ) (es : List Ends) (l t w : ℕ) : Type 0 where
  pub some : 1 ≤ n
  pub nodes : n ≤ 4096
  pub links : length es ≤ 16384
  pub same : length es ≡ l
  pub tree : n - 1 ≤ t
  pub work : 64 * (n + length es) ≤ w
  pub ends : first_end_fault n 1 es ≡ None

pub fits : (n : ℕ) (es : List Ends) (l t w : ℕ) → tables_fault n es l t w ≡ None → Fit n es l t w
fits n es l t w e =
    let last = option_map no_open (first_end_fault n 1 es) in
    let third = cond (misfit n (length es) l t w) (Some ShortTables) last in
    let second = cond (ltb 16384 (length es)) (Some LinkCount) third in
    let a = cond-none (eqb n 0 || ltb 4096 n) NodeCount second e in
    let b = cond-none (ltb 16384 (length es)) LinkCount third a.1 in
    let c = cond-none (misfit n (length es) l t w) ShortTables last b.1 in
    let m = mapped-none no_open (first_end_fault n 1 es) c.1 in
    let u = a.0 in
    let v = b.0 in
    let x = c.0 in
    record {
      some = grind (arith, nat_tests);
      nodes = grind (arith, nat_tests);
      links = grind (arith, nat_tests);
      same = grind (arith, nat_tests);
      tree = grind (arith, nat_tests);
      work = grind (arith, nat_tests);
      ends = m;
    }

-- The two ends of a link that has no fault.
end-sound : (n k : ℕ) (e : Ends) → end_fault n k e ≡ None → (1 ≤ e.a.0) × (e.a.0 ≤ n) × (1 ≤ e.b.0) × (e.b.0 ≤ n)
end-sound n k e h =
    let last = cond (eqb e.a.0 e.b.0) (Some (Same k)) None in
    let a = cond-none (no_node n e.a) (Outside k) (cond (no_node n e.b) (Some (Outside k)) last) h in
    let b = cond-none (no_node n e.b) (Outside k) last a.1 in
    let u = a.0 in
    let v = b.0 in
    (grind (arith, nat_tests), grind (arith, nat_tests), grind (arith, nat_tests), grind (arith, nat_tests))

pub ends-between : (n k : ℕ) (es : List Ends) → first_end_fault n k es ≡ None → EndsUnder (suc n) es
ends-between n k [] h i l = absurd (omega arith)
ends-between n k (e ∷ es) h zero l =
    let s = end-sound n k e (or_else-none (end_fault n k e) (first_end_fault n (k + 1) es) h).0 in (omega (arith, s.1), omega (arith, s.3))
ends-between n k (e ∷ es) h (suc i) l = ends-between n (k + 1) es (or_else-none (end_fault n k e) (first_end_fault n (k + 1) es) h).1 i (omega arith)
