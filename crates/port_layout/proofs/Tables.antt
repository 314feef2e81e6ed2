-- A port table stays one as a link's two records are put into their chains or taken out.
use Rattle.std.proofs.Common.{◌≡◌, ℕ, ◌+◌, ◌-◌, ◌*◌, ◌/◌, ◌%◌, ◌<◌, ◌≤◌, Bool, true, false, cond, eqb, List, ◌∷◌, length, get_or, set, sym, refl, ap, ◌∙◌, inl, inr, arith}
use Rattle.std.proofs.lemmas.Bool.{eq-eqb, ne_eqb, cases_eq}
use Rattle.std.proofs.lemmas.List.{length-set, get_or-set_same, get_or-set_other, ext_get_or}
use Rattle.std.proofs.lemmas.List.FromFn.{length-map-range_with_len, get_or-map-range_with_len}
use Rattle.std.proofs.lemmas.Bool.Decides.{nat_tests}
use Rattle.port_layout.specs.Chains.{cell, has, without, holder, Kept}
use Rattle.port_layout.specs.Words.{word, pushed, unlinked}
use Rattle.port_layout.specs.Ports.{ends_of, first_head, second_head, owner, chain_of, linked, flags, Joins, Table, front, back}
use Rattle.network.specs.declared.types.Ends.{Ends}
use Rattle.port_layout.proofs.Kept.{lists, settled, push_kept, push-has, push-has-it, unlink-kept, unlink-has, unlink-has-it, holder-is, holder_in, above}
use Rattle.port_layout.proofs.Puts.{pushed-rest, pushed-cell, pushed-head, unlinked-rest, unlinked-cell, unlinked-holder}

pub length_flags : (n : ℕ) (es : List Ends) (bs : List ℕ) → length (flags n es bs) ≡ length es
length_flags n es bs = length-map-range_with_len (linked n es bs) 0 (length es)

pub flag_at : (n : ℕ) (es : List Ends) (bs : List ℕ) (i : ℕ) → i < length es → get_or (flags n es bs) i false ≡ linked n es bs i
flag_at n es bs i h = get_or-map-range_with_len (linked n es bs) 0 (length es) i i false h (omega arith)

-- Whose a record is.
module _ (es : List Ends) where
  pub owner-first : (i : ℕ) → owner es (2 * i + 1) ≡ first_head es i
  owner-first i = grind (arith, nat_tests)

  pub owner-second : (i : ℕ) → owner es (2 * i + 2) ≡ second_head es i
  owner-second i = grind (arith, nat_tests)

-- One step: record r comes to be in its chain, or not, and the others stay.
pub record Step (n m : ℕ) (own : ℕ → ℕ) (w' : ℕ → ℕ) (K K' : ℕ → List ℕ) (r : ℕ) (b : Bool) : Type 0 where
  pub kept : Kept n m own w' K'
  pub it : has r (K' (own r)) ≡ b
  pub others : (y u : ℕ) → (y ≡ r → ⊥) → has y (K' u) ≡ has y (K u)

-- A record's chain is a node's, where each link joins two nodes.
pub owned_by : (n : ℕ) (es : List Ends) → ((i : ℕ) → i < length es → Joins n (ends_of es i)) → (r : ℕ) → 0 < r → r ≤ 2 * length es → owner es r < n
owned_by n es js r r0 rm =
    let i : (r - 1) / 2 < length es = omega arith in
    let j = js ((r - 1) / 2) i in
    let a : first_head es ((r - 1) / 2) < n = omega (arith, j.first-is, j.first-in) in
    let b : second_head es ((r - 1) / 2) < n = omega (arith, j.second-is, j.second-in) in
    elim (eqb (r % 2) 1) as (λ c. cond c (first_head es ((r - 1) / 2)) (second_head es ((r - 1) / 2)) < n) [ true ↦ a | false ↦ b ]

module _ (n : ℕ) (es : List Ends) (bs : List ℕ) (t : Table n es bs) where
  pub owned : (r : ℕ) → 0 < r → r ≤ 2 * length es → owner es r < n
  owned = owned_by n es t.joins

  -- A push is a step, and so is an unlinking.
  module _ (zs : List ℕ) (len : length zs ≡ length bs) (K : ℕ → List ℕ) (s : Kept n (2 * length es) (owner es) (word zs) K) (r : ℕ) (r0 : 0 < r) (rm : r ≤ 2 * length es) where
    pub push_step : has r (K (owner es r)) ≡ false → Step n (2 * length es) (owner es) (word (pushed n zs r (owner es r))) K (front r (owner es r) K) r true
    push_step absent =
        let v = owner es r in
        let vn : owner es r < n = owned r r0 rm in
        let room : 2 * n + 4 * length es ≤ length zs = omega (arith, len, t.room) in
        let ne : cell n r ≡ owner es r → ⊥ = λ e. omega arith in
        let cr : 2 * cell n r + 1 < length zs = omega arith in
        let hr : 2 * owner es r + 1 < length zs = omega arith in
        let w' = word (pushed n zs r v) in
        let on : front r v K v ≡ r ∷ K v = ap (λ b. cond b (r ∷ K v) (K v)) (eq-eqb v v refl) in
        let off : (u : ℕ) → (u ≡ v → ⊥) → front r v K u ≡ K u = λ u d. ap (λ b. cond b (r ∷ K u) (K u)) (ne_eqb u v d) in
        let hd = pushed-head n zs r v cr ne hr in
        let cl = pushed-cell n zs r v cr ne in
        let rest = pushed-rest n zs r v in
        record {
          kept = push_kept n (2 * length es) (owner es) (word zs) w' K (front r v K) s r r0 rm vn absent hd cl rest on off;
          it = push-has-it n (2 * length es) (owner es) (word zs) w' K (front r v K) s r r0 rm vn absent hd cl rest on off;
          others = push-has n (2 * length es) (owner es) (word zs) w' K (front r v K) s r r0 rm vn absent hd cl rest on off;
        }

    pub unlink-step : has r (K (owner es r)) ≡ true → (p : ℕ) → holder n r (owner es r) (K (owner es r)) ≡ p → Step n (2 * length es) (owner es) (word (unlinked n zs r p)) K (back r (owner es r) K) r false
    unlink-step there p holds =
        let v = owner es r in
        let vn : owner es r < n = owned r r0 rm in
        let room : 2 * n + 4 * length es ≤ length zs = omega (arith, len, t.room) in
        let cr : 2 * cell n r + 1 < length zs = omega arith in
        let w' = word (unlinked n zs r p) in
        let on : back r v K v ≡ without r (K v) = ap (λ b. cond b (without r (K v)) (K v)) (eq-eqb v v refl) in
        let off : (u : ℕ) → (u ≡ v → ⊥) → back r v K u ≡ K u = λ u d. ap (λ b. cond b (without r (K u)) (K u)) (ne_eqb u v d) in
        let pin : p < n + 2 * length es = holder_in n (2 * length es) (owner es) (word zs) K s r vn there p holds in
        let ne : p ≡ cell n r → ⊥ = λ e. elim (holder-is n (2 * length es) (owner es) (word zs) K s r vn there p holds) [
          | inl a ↦ omega (arith, a, e)
          | inr q ↦ q.3 (let y0 : 0 < q.0 = above n (2 * length es) (owner es) (word zs) K s v vn q.0 q.1 in omega (arith, e, q.2))
        ] in
        let pr : 2 * p + 1 < length zs = omega arith in
        let hd = unlinked-holder n zs r p pr ne in
        let cl = unlinked-cell n zs r p cr in
        let rest = unlinked-rest n zs r p in
        record {
          kept = unlink-kept n (2 * length es) (owner es) (word zs) w' K (back r v K) s r r0 rm vn there p holds hd cl rest on off;
          it = unlink-has-it n (2 * length es) (owner es) (word zs) w' K (back r v K) s r r0 rm vn there p holds hd cl rest on off;
          others = unlink-has n (2 * length es) (owner es) (word zs) w' K (back r v K) s r r0 rm vn there p holds hd cl rest on off;
        }

  -- Two steps, of a link's first record and then its second, turn its flag.
  module _ (cs : List ℕ) (len : length cs ≡ length bs) (i : ℕ) (h : i < length es) (b : Bool) (w1 : ℕ → ℕ) (C1 C2 : ℕ → List ℕ)
      (s1 : Step n (2 * length es) (owner es) w1 (chain_of n es bs) C1 (2 * i + 1) b)
      (s2 : Step n (2 * length es) (owner es) (word cs) C1 C2 (2 * i + 2) b) where
    pub met : (v : ℕ) → v < n → chain_of n es cs v ≡ C2 v
    met v l = lists n (2 * length es) (owner es) (word cs) C2 s2.kept v l

    first_under : (j : ℕ) → j < length es → first_head es j < n
    first_under j l = let g = t.joins j l in omega (arith, g.first-is, g.first-in)

    second-under : (j : ℕ) → j < length es → second_head es j < n
    second-under j l = let g = t.joins j l in omega (arith, g.second-is, g.second-in)

    pub turned : linked n es cs i ≡ b
    turned =
        ap (has (2 * i + 1)) (met (first_head es i) (first_under i h))
        ∙ s2.others (2 * i + 1) (first_head es i) (λ e. omega arith)
        ∙ ap (λ v. has (2 * i + 1) (C1 v)) (sym (owner-first es i)) ∙ s1.it

    turned-second : has (2 * i + 2) (chain_of n es cs (second_head es i)) ≡ b
    turned-second =
        ap (has (2 * i + 2)) (met (second_head es i) (second-under i h))
        ∙ ap (λ v. has (2 * i + 2) (C2 v)) (sym (owner-second es i)) ∙ s2.it

    stays : (y v : ℕ) → v < n → (y ≡ 2 * i + 1 → ⊥) → (y ≡ 2 * i + 2 → ⊥) → has y (chain_of n es cs v) ≡ has y (chain_of n es bs v)
    stays y v l a c = ap (has y) (met v l) ∙ s2.others y v c ∙ s1.others y v a

    pub turned-flags : flags n es cs ≡ set (flags n es bs) i b
    turned-flags =
        let lf : length (flags n es bs) ≡ length es = length_flags n es bs in
        ext_get_or false (flags n es cs) (set (flags n es bs) i b)
        (length_flags n es cs ∙ sym (length-set (flags n es bs) i b ∙ lf))
        (λ j l.
        let jl : j < length es = omega (arith, length_flags n es cs) in
        flag_at n es cs j jl
        ∙ elim (cases_eq j i) [
          | inl e ↦ ap (linked n es cs) e ∙ turned ∙ sym (ap (λ z. get_or (set (flags n es bs) i b) z false) e ∙ get_or-set_same (flags n es bs) i b false (omega arith))
          | inr d ↦ stays (2 * j + 1) (first_head es j) (first_under j jl) (λ e. d (omega arith)) (λ e. omega arith)
              ∙ sym (get_or-set_other (flags n es bs) i j b false d ∙ flag_at n es bs j jl)
        ])

    pub turned-table : Table n es cs
    turned-table = record {
      nodes = t.nodes;
      links = t.links;
      room = omega (arith, len, t.room);
      joins = t.joins;
      sound = settled n (2 * length es) (owner es) (word cs) C2 s2.kept owned;
      paired = λ j jl. elim (cases_eq j i) [
        | inl e ↦ ap (linked n es cs) e ∙ turned ∙ sym (ap (λ z. has (2 * z + 2) (chain_of n es cs (second_head es z))) e ∙ turned-second)
        | inr d ↦ stays (2 * j + 1) (first_head es j) (first_under j jl) (λ e. d (omega arith)) (λ e. omega arith)
            ∙ t.paired j jl ∙ sym (stays (2 * j + 2) (second_head es j) (second-under j jl) (λ e. omega arith) (λ e. d (omega arith)))
      ];
    }
