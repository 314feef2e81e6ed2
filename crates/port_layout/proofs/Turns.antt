-- What enabling and disabling a link leave of a port table.
use Rattle.std.proofs.Common.{◌≡◌, ℕ, ◌+◌, ◌*◌, ◌<◌, ◌≤◌, Bool, true, false, List, length, set, sym, refl, ap, ◌∙◌, subst, arith}
use Rattle.port_layout.specs.Chains.{chain, has, holder}
use Rattle.port_layout.specs.Words.{word, pushed}
use Rattle.port_layout.specs.Ports.{first_head, second_head, owner, chain_of, linked, flags, Table, enabled, taken, disabled, front, back}
use Rattle.network.specs.declared.types.Ends.{Ends}
use Rattle.port_layout.proofs.Kept.{lists}
use Rattle.port_layout.proofs.Puts.{length-pushed, length-unlinked}
use Rattle.port_layout.proofs.Tables.{owner-first, owner-second, Step, owned, push_step, unlink-step, met, turned-flags, turned-table}

module _ (n : ℕ) (es : List Ends) (bs : List ℕ) (t : Table n es bs) (i : ℕ) (h : i < length es) where
  pub odd-in : 2 * i + 1 ≤ 2 * length es
  odd-in = omega arith

  pub even-in : 2 * i + 2 ≤ 2 * length es
  even-in = omega arith

  odd_is : 0 < 2 * i + 1
  odd_is = omega arith

  even_is : 0 < 2 * i + 2
  even_is = omega arith

  apart : 2 * i + 2 ≡ 2 * i + 1 → ⊥
  apart e = omega arith

  -- The first record's chain, by its owner.
  first-at : (b : Bool) → linked n es bs i ≡ b → has (2 * i + 1) (chain_of n es bs (owner es (2 * i + 1))) ≡ b
  first-at b f = ap (λ v. has (2 * i + 1) (chain_of n es bs v)) (owner-first es i) ∙ f

  second_at : (b : Bool) → linked n es bs i ≡ b → has (2 * i + 2) (chain_of n es bs (owner es (2 * i + 2))) ≡ b
  second_at b f = ap (λ v. has (2 * i + 2) (chain_of n es bs v)) (owner-second es i) ∙ sym (t.paired i h) ∙ f

  -- Enabling.
  module _ (f : linked n es bs i ≡ false) where
    up1 : Step n (2 * length es) (owner es) (word (pushed n bs (2 * i + 1) (owner es (2 * i + 1)))) (chain_of n es bs)
        (front (2 * i + 1) (owner es (2 * i + 1)) (chain_of n es bs)) (2 * i + 1) true
    up1 = push_step n es bs t bs refl (chain_of n es bs) t.sound (2 * i + 1) odd_is odd-in (first-at false f)

    up2 : Step n (2 * length es) (owner es) (word (pushed n (pushed n bs (2 * i + 1) (owner es (2 * i + 1))) (2 * i + 2) (owner es (2 * i + 2))))
        (front (2 * i + 1) (owner es (2 * i + 1)) (chain_of n es bs))
        (front (2 * i + 2) (owner es (2 * i + 2)) (front (2 * i + 1) (owner es (2 * i + 1)) (chain_of n es bs))) (2 * i + 2) true
    up2 =
        push_step n es bs t (pushed n bs (2 * i + 1) (owner es (2 * i + 1))) (length-pushed n bs (2 * i + 1) (owner es (2 * i + 1)))
        (front (2 * i + 1) (owner es (2 * i + 1)) (chain_of n es bs)) up1.kept (2 * i + 2) even_is even-in
        (up1.others (2 * i + 2) (owner es (2 * i + 2)) apart ∙ second_at false f)

    up_is : pushed n (pushed n bs (2 * i + 1) (owner es (2 * i + 1))) (2 * i + 2) (owner es (2 * i + 2)) ≡ enabled n es bs i
    up_is =
        ap (pushed n (pushed n bs (2 * i + 1) (owner es (2 * i + 1))) (2 * i + 2)) (owner-second es i)
        ∙ ap (λ v. pushed n (pushed n bs (2 * i + 1) v) (2 * i + 2) (second_head es i)) (owner-first es i)

    up-length : length (pushed n (pushed n bs (2 * i + 1) (owner es (2 * i + 1))) (2 * i + 2) (owner es (2 * i + 2))) ≡ length bs
    up-length =
        length-pushed n (pushed n bs (2 * i + 1) (owner es (2 * i + 1))) (2 * i + 2) (owner es (2 * i + 2))
        ∙ length-pushed n bs (2 * i + 1) (owner es (2 * i + 1))

    pub enabled-flags : flags n es (enabled n es bs i) ≡ set (flags n es bs) i true
    enabled-flags = ap (flags n es) (sym up_is) ∙ turned-flags n es bs t _ up-length i h true _ _ _ up1 up2

    pub enabled-table : Table n es (enabled n es bs i)
    enabled-table = subst (Table n es) up_is (turned-table n es bs t _ up-length i h true _ _ _ up1 up2)

    pub enabled-chains : (v : ℕ) → v < n → chain_of n es (enabled n es bs i) v ≡ front (2 * i + 2) (second_head es i) (front (2 * i + 1) (first_head es i) (chain_of n es bs)) v
    enabled-chains v l =
        ap (λ z. chain_of n es z v) (sym up_is) ∙ met n es bs t _ up-length i h true _ _ _ up1 up2 v l
        ∙ ap (λ u. front (2 * i + 2) u (front (2 * i + 1) (owner es (2 * i + 1)) (chain_of n es bs)) v) (owner-second es i)
        ∙ ap (λ u. front (2 * i + 2) (second_head es i) (front (2 * i + 1) u (chain_of n es bs)) v) (owner-first es i)

  -- Disabling.
  module _ (f : linked n es bs i ≡ true) where
    down1 : Step n (2 * length es) (owner es) (word (taken n (2 * length es) bs (2 * i + 1) (owner es (2 * i + 1)))) (chain_of n es bs)
        (back (2 * i + 1) (owner es (2 * i + 1)) (chain_of n es bs)) (2 * i + 1) false
    down1 = unlink-step n es bs t bs refl (chain_of n es bs) t.sound (2 * i + 1) odd_is odd-in (first-at true f)
        (holder n (2 * i + 1) (owner es (2 * i + 1)) (chain_of n es bs (owner es (2 * i + 1)))) refl

    -- Half way the chains are those without the first record.
    half : (v : ℕ) → v < n → chain n (word (taken n (2 * length es) bs (2 * i + 1) (owner es (2 * i + 1)))) (2 * length es) v ≡ back (2 * i + 1) (owner es (2 * i + 1)) (chain_of n es bs) v
    half v l = lists n (2 * length es) (owner es) (word (taken n (2 * length es) bs (2 * i + 1) (owner es (2 * i + 1)))) (back (2 * i + 1) (owner es (2 * i + 1)) (chain_of n es bs)) down1.kept v l

    second-stays : has (2 * i + 2) (back (2 * i + 1) (owner es (2 * i + 1)) (chain_of n es bs) (owner es (2 * i + 2))) ≡ true
    second-stays = down1.others (2 * i + 2) (owner es (2 * i + 2)) apart ∙ second_at true f

    second-owned : owner es (2 * i + 2) < n
    second-owned = owned n es bs t (2 * i + 2) even_is even-in

    down2 : Step n (2 * length es) (owner es) (word (taken n (2 * length es) (taken n (2 * length es) bs (2 * i + 1) (owner es (2 * i + 1))) (2 * i + 2) (owner es (2 * i + 2))))
        (back (2 * i + 1) (owner es (2 * i + 1)) (chain_of n es bs))
        (back (2 * i + 2) (owner es (2 * i + 2)) (back (2 * i + 1) (owner es (2 * i + 1)) (chain_of n es bs))) (2 * i + 2) false
    down2 =
        unlink-step n es bs t (taken n (2 * length es) bs (2 * i + 1) (owner es (2 * i + 1)))
        (length-unlinked n bs (2 * i + 1) (holder n (2 * i + 1) (owner es (2 * i + 1)) (chain_of n es bs (owner es (2 * i + 1)))))
        (back (2 * i + 1) (owner es (2 * i + 1)) (chain_of n es bs)) down1.kept (2 * i + 2) even_is even-in second-stays _
        (ap (holder n (2 * i + 2) (owner es (2 * i + 2))) (sym (half (owner es (2 * i + 2)) second-owned)))

    down_is : taken n (2 * length es) (taken n (2 * length es) bs (2 * i + 1) (owner es (2 * i + 1))) (2 * i + 2) (owner es (2 * i + 2)) ≡ disabled n es bs i
    down_is =
        ap (taken n (2 * length es) (taken n (2 * length es) bs (2 * i + 1) (owner es (2 * i + 1))) (2 * i + 2)) (owner-second es i)
        ∙ ap (λ v. taken n (2 * length es) (taken n (2 * length es) bs (2 * i + 1) v) (2 * i + 2) (second_head es i)) (owner-first es i)

    length_taken : (m : ℕ) (zs : List ℕ) (r v : ℕ) → length (taken n m zs r v) ≡ length zs
    length_taken m zs r v = length-unlinked n zs r (holder n r v (chain n (word zs) m v))

    down-length : length (taken n (2 * length es) (taken n (2 * length es) bs (2 * i + 1) (owner es (2 * i + 1))) (2 * i + 2) (owner es (2 * i + 2))) ≡ length bs
    down-length =
        length_taken (2 * length es) (taken n (2 * length es) bs (2 * i + 1) (owner es (2 * i + 1))) (2 * i + 2) (owner es (2 * i + 2))
        ∙ length_taken (2 * length es) bs (2 * i + 1) (owner es (2 * i + 1))

    pub disabled-flags : flags n es (disabled n es bs i) ≡ set (flags n es bs) i false
    disabled-flags = ap (flags n es) (sym down_is) ∙ turned-flags n es bs t _ down-length i h false _ _ _ down1 down2

    pub disabled-table : Table n es (disabled n es bs i)
    disabled-table = subst (Table n es) down_is (turned-table n es bs t _ down-length i h false _ _ _ down1 down2)

    pub disabled-chains : (v : ℕ) → v < n → chain_of n es (disabled n es bs i) v ≡ back (2 * i + 2) (second_head es i) (back (2 * i + 1) (first_head es i) (chain_of n es bs)) v
    disabled-chains v l =
        ap (λ z. chain_of n es z v) (sym down_is) ∙ met n es bs t _ down-length i h false _ _ _ down1 down2 v l
        ∙ ap (λ u. back (2 * i + 2) u (back (2 * i + 1) (owner es (2 * i + 1)) (chain_of n es bs)) v) (owner-second es i)
        ∙ ap (λ u. back (2 * i + 2) (second_head es i) (back (2 * i + 1) u (chain_of n es bs)) v) (owner-first es i)

    -- Half way the second record can be taken out.
    pub half-small : (c : ℕ) → c < n + 2 * length es → word (taken n (2 * length es) bs (2 * i + 1) (first_head es i)) c ≤ 2 * length es
    half-small = subst (λ v. (c : ℕ) → c < n + 2 * length es → word (taken n (2 * length es) bs (2 * i + 1) v) c ≤ 2 * length es) (owner-first es i) down1.kept.small

    pub half-holds : has (2 * i + 2) (chain n (word (taken n (2 * length es) bs (2 * i + 1) (first_head es i))) (2 * length es) (second_head es i)) ≡ true
    half-holds =
        subst (λ v. has (2 * i + 2) (chain n (word (taken n (2 * length es) bs (2 * i + 1) v)) (2 * length es) (second_head es i)) ≡ true) (owner-first es i)
        (subst (λ u. has (2 * i + 2) (chain n (word (taken n (2 * length es) bs (2 * i + 1) (owner es (2 * i + 1)))) (2 * length es) u) ≡ true) (owner-second es i)
        (ap (has (2 * i + 2)) (half (owner es (2 * i + 2)) second-owned) ∙ second-stays))
