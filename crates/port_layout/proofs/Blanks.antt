-- Blank memory is a port table in which no link carries.
use Rattle.std.proofs.Common.{◌≡◌, ℕ, zero, suc, ◌+◌, ◌*◌, ◌<◌, ◌≤◌, false, List, [], ◌∷◌, length, Some, None, Option, sym, refl, ap, ◌∙◌, subst, arith}
use Rattle.std.proofs.lemmas.Bool.{both_ways}
use Rattle.std.proofs.lemmas.Bool.Decides.{nat_tests}
use Rattle.fabrics.specs.Blank.{blanked, Begins}
use Rattle.fabrics.proofs.Blanks.{blank-at, length-blanked, begins}
use Rattle.network.specs.Ends.{no_node, end_fault, or_else, first_end_fault}
use Rattle.network.specs.declared.types.Node.{Node}
use Rattle.network.specs.declared.types.Ends.{Ends}
use Rattle.network.specs.declared.types.EndFault.{EndFault}
use Rattle.port_layout.specs.Chains.{cell, has, Kept}
use Rattle.port_layout.specs.Makes.{of_ends, table_size, table_fault, Wired}
use Rattle.port_layout.specs.Ports.{ends_of, first_head, second_head, owner, chain_of, linked, flags, Joins, Table}
use Rattle.port_layout.specs.Words.{word}
use Rattle.port_layout.proofs.Kept.{settled, lists}
use Rattle.port_layout.proofs.Tables.{length_flags, flag_at, owned_by}

is-node : (n : ℕ) (v : Node) → no_node n v ≡ false → (0 < v.0) × (v.0 ≤ n)
is-node n v e = (grind (arith, nat_tests), grind (arith, nat_tests))

first-none : {X : Type 0} (a b : Option X) → or_else a b ≡ None → (a ≡ None) × (b ≡ None)
first-none None b e = (refl, e)
first-none (Some f) b e = cc

no-end-fault : (o : Option EndFault) → of_ends o ≡ None → o ≡ None
no-end-fault None e = refl
no-end-fault (Some f) e = cc

joins_of : (n k : ℕ) (e : Ends) → end_fault n k e ≡ None → Joins n e
joins_of n k e h = record { first-is = grind (arith, nat_tests); first-in = grind (arith, nat_tests); second-is = grind (arith, nat_tests); second-in = grind (arith, nat_tests); apart = λ s. grind (arith, nat_tests) }

all_join : (n k : ℕ) (es : List Ends) → first_end_fault n k es ≡ None → (i : ℕ) → i < length es → Joins n (ends_of es i)
all_join n k [] h i l = absurd (omega arith)
all_join n k (e ∷ es) h zero l = joins_of n k e (first-none (end_fault n k e) (first_end_fault n (k + 1) es) h).0
all_join n k (e ∷ es) h (suc i) l = all_join n (k + 1) es (first-none (end_fault n k e) (first_end_fault n (k + 1) es) h).1 i (omega arith)

-- What a granted table's tests say.
pub record Granted (n : ℕ) (es : List Ends) (len : ℕ) : Type 0 where
  pub nodes : n ≤ 4096
  pub links : length es ≤ 16384
  pub room : table_size n (length es) ≤ len
  pub joins : (i : ℕ) → i < length es → Joins n (ends_of es i)

pub granted : (n : ℕ) (es : List Ends) (len : ℕ) → table_fault n es len ≡ None → Granted n es len
granted n es len e = record {
  nodes = grind (arith, nat_tests);
  links = grind (arith, nat_tests);
  room = grind (arith, nat_tests);
  joins = all_join n 1 es (grind (arith, nat_tests, no-end-fault (first_end_fault n 1 es)));
}

module _ (n : ℕ) (es : List Ends) (bs : List ℕ) (g : Granted n es (length bs)) where
  js : (i : ℕ) → i < length es → Joins n (ends_of es i)
  js = g.joins

  clean-word : (c : ℕ) → c < n + 2 * length es → word (blanked (table_size n (length es)) bs) c ≡ 0
  clean-word c h =
      let a = blank-at (table_size n (length es)) bs (2 * c) (omega arith) in
      let b = blank-at (table_size n (length es)) bs (2 * c + 1) (omega arith) in
      omega (arith, a, b)

  clean-kept : Kept n (2 * length es) (owner es) (word (blanked (table_size n (length es)) bs)) (λ _. [])
  clean-kept = record {
    small = λ c h. omega (arith, clean-word c h);
    spelled = λ v h. clean-word v (omega arith);
    once = λ v h. tt;
    own = λ v r h t. absurd (both_ways false refl t);
    loose = λ r r0 rm f. clean-word (cell n r) (omega arith);
  }

  clean-chain : (v : ℕ) → v < n → chain_of n es (blanked (table_size n (length es)) bs) v ≡ []
  clean-chain v h = lists n (2 * length es) (owner es) (word (blanked (table_size n (length es)) bs)) (λ _. []) clean-kept v h

  clean-first : (i : ℕ) → i < length es → linked n es (blanked (table_size n (length es)) bs) i ≡ false
  clean-first i h = let j = js i h in ap (has (2 * i + 1)) (clean-chain (first_head es i) (omega (arith, j.first-is, j.first-in)))

  blank-is-table : Table n es (blanked (table_size n (length es)) bs)
  blank-is-table = record {
    nodes = g.nodes;
    links = g.links;
    room = omega (arith, g.room, length-blanked (table_size n (length es)) bs g.room);
    joins = js;
    sound = settled n (2 * length es) (owner es) (word (blanked (table_size n (length es)) bs)) (λ _. []) clean-kept (owned_by n es js);
    paired = λ i h. clean-first i h ∙ sym (let j = js i h in ap (has (2 * i + 2)) (clean-chain (second_head es i) (omega (arith, j.second-is, j.second-in))));
  }

  pub wired : table_fault n es (length bs) ≡ None → Wired (table_fault n es (length bs)) n es n es
  wired none = subst (λ o. Wired o n es n es) (sym none) (refl, refl)

  pub begins-table : (after : List ℕ) → after ≡ blanked (table_size n (length es)) bs → Table n es after
  begins-table after e = subst (Table n es) (sym e) blank-is-table

  pub begins-blank : table_fault n es (length bs) ≡ None → (after : List ℕ) → after ≡ blanked (table_size n (length es)) bs →
      Begins (table_fault n es (length bs)) (length es) (table_size n (length es)) bs after (flags n es after)
  begins-blank none after e =
      let k = table_size n (length es) in
      let zs = blanked k bs in
      subst (λ a. Begins (table_fault n es (length bs)) (length es) k bs a (flags n es a)) (sym e)
      (begins _ (length es) k bs (flags n es zs) none (length_flags n es zs) (λ i h. flag_at n es zs i h ∙ clean-first i h))

-- Any memory is a port table of no node and no link.
pub empty-table : (bs : List ℕ) → Table 0 [] bs
empty-table bs = record {
  nodes = omega arith;
  links = omega arith;
  room = omega arith;
  joins = λ i h. absurd (omega arith);
  sound = record {
    small = λ c h. absurd (omega arith);
    spelled = λ v h. absurd (omega arith);
    once = λ v h. absurd (omega arith);
    own = λ v r h t. absurd (omega arith);
    loose = λ r p l f. absurd (omega arith);
  };
  paired = λ i h. absurd (omega arith);
}
