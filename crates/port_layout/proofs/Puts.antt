-- Memory as cells of two bytes.
use Rattle.std.proofs.Common.{◌≡◌, ℕ, ◌+◌, ◌*◌, ◌<◌, List, length, sym, ◌∙◌, subst, arith}
use Rattle.std.proofs.lemmas.Grind.{common_steps}
use Rattle.port_layout.specs.Chains.{cell}
use Rattle.port_layout.specs.Words.{word, put, pushed, unlinked}

pub length-put : (bs : List ℕ) (c x : ℕ) → length (put bs c x) ≡ length bs
length-put bs c x = grind (arith, common_steps)

pub word-put-other : (bs : List ℕ) (c x d : ℕ) → (d ≡ c → ⊥) → word (put bs c x) d ≡ word bs d
word-put-other bs c x d ne = grind (arith, common_steps)

pub word-put : (bs : List ℕ) (c x : ℕ) → 2 * c + 1 < length bs → word (put bs c x) c ≡ x
word-put bs c x h = grind (arith, common_steps)

module _ (n : ℕ) (bs : List ℕ) (r v : ℕ) where
  pub length-pushed : length (pushed n bs r v) ≡ length bs
  length-pushed = grind (arith, length-put)

  pub pushed-rest : (c : ℕ) → (c ≡ v → ⊥) → (c ≡ cell n r → ⊥) → word (pushed n bs r v) c ≡ word bs c
  pushed-rest c a b = grind (arith, word-put-other)

  module _ (room : 2 * cell n r + 1 < length bs) (ne : cell n r ≡ v → ⊥) where
    pub pushed-cell : word (pushed n bs r v) (cell n r) ≡ word bs v
    pushed-cell = grind (arith, word-put, word-put-other)

    pub pushed-head : 2 * v + 1 < length bs → word (pushed n bs r v) v ≡ r
    pushed-head h = grind (arith, word-put, length-put)

module _ (n : ℕ) (bs : List ℕ) (r p : ℕ) where
  pub length-unlinked : length (unlinked n bs r p) ≡ length bs
  length-unlinked = simp length-put

  pub unlinked-rest : (c : ℕ) → (c ≡ p → ⊥) → (c ≡ cell n r → ⊥) → word (unlinked n bs r p) c ≡ word bs c
  unlinked-rest c a b = word-put-other (put bs p (word bs (cell n r))) (cell n r) 0 c b ∙ word-put-other bs p (word bs (cell n r)) c a

  pub unlinked-cell : 2 * cell n r + 1 < length bs → word (unlinked n bs r p) (cell n r) ≡ 0
  unlinked-cell h = word-put (put bs p (word bs (cell n r))) (cell n r) 0 (subst (λ l. 2 * cell n r + 1 < l) (sym (length-put bs p (word bs (cell n r)))) h)

  pub unlinked-holder : 2 * p + 1 < length bs → (p ≡ cell n r → ⊥) → word (unlinked n bs r p) p ≡ word bs (cell n r)
  unlinked-holder h ne = word-put-other (put bs p (word bs (cell n r))) (cell n r) 0 p ne ∙ word-put bs p (word bs (cell n r)) h
