-- Numbers that are written one after the other.
use Rattle.std.proofs.Common.{◌≡◌, ℕ, ◌+◌, ◌<◌, List, [], ◌∷◌, ◌++◌, length, get_or, take, codes, decimal, sym, ap, ◌∙◌}
use Rattle.std.proofs.lemmas.List.{take_more, append-nil, append_assoc}
use Rattle.plan_lines.specs.Output.{spaced}

spaced-push : (ns : List ℕ) (n : ℕ) → spaced (ns ++ n ∷ []) ≡ spaced ns ++ (codes " " ++ decimal n)
spaced-push [] n = ap (λ bs. codes " " ++ bs) (append-nil (decimal n))
spaced-push (m ∷ ns) n =
    ap (λ bs. codes " " ++ (decimal m ++ bs)) (spaced-push ns n) ∙ ap (λ bs. codes " " ++ bs) (sym (append_assoc (decimal m) (spaced ns) (codes " " ++ decimal n)))

pub spaced-more : (ns : List ℕ) (i : ℕ) → i < length ns → spaced (take i ns) ++ (codes " " ++ decimal (get_or ns i 0)) ≡ spaced (take (i + 1) ns)
spaced-more ns i h = sym (ap spaced (take_more ns i 0 h) ∙ spaced-push (take i ns) (get_or ns i 0))
