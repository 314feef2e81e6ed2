-- The lines after the first.
use Rattle.std.proofs.Common.{◌≡◌, ℕ, suc, ◌+◌, ◌<◌, List, [], ◌∷◌, length, Ok, Err, Option, sym, ap, ◌∙◌, arith}
use Rattle.faults.specs.declared.TextFault.{TextFault}
use Rattle.faults.specs.declared.TextFault.TheVariants.{Malformed}
use Rattle.plant_lines.specs.declared.item.Item.{Item}
use Rattle.plant_tables.specs.File.{File, then, placed}
use Rattle.plant_text.specs.Body.{body}
use Rattle.plant_lines.specs.Line.{line_at}
use Rattle.text_words.specs.Split.{parts, Cut}
use Rattle.text_words.proofs.Cutting.{parts-some}

module _ {W : Type 0} (made : List ℕ → Option W) where
  body-two : (f : File W) (i : ℕ) (l p : List ℕ) (ls ps : List (List ℕ)) → ls ≡ p ∷ ps → body made f i (l ∷ ls) ≡ then (then (line_at made i l) (placed f i)) (λ g. body made g (suc i) ls)
  unfolding body
  body-two f i l p ls ps e =
      ap (λ r. body made f i (l ∷ r)) e ∙ ap (λ r. then (then (line_at made i l) (placed f i)) (λ g. body made g (suc i) r)) (sym e)

  -- One line, and the bytes after it.
  module _ (f : File W) (i : ℕ) (rest l after : List ℕ) (cut : Cut 10 rest l after) where
    body-step : body made f i (parts 10 rest) ≡ then (then (line_at made i l) (placed f i)) (λ g. body made g (suc i) (parts 10 after))
    body-step =
        let s = parts-some 10 after in
        ap (body made f i) cut.split ∙ body-two f i l s.0 (parts 10 after) s.1 s.2

    pub body-line : (e : TextFault) → Err e ≡ line_at made i l → Err e ≡ body made f i (parts 10 rest)
    body-line e h = sym (body-step ∙ ap (λ o. then (then o (placed f i)) (λ g. body made g (suc i) (parts 10 after))) (sym h))

    pub body-place : (x : Item W) (e : TextFault) → Ok x ≡ line_at made i l → Err e ≡ placed f i x → Err e ≡ body made f i (parts 10 rest)
    body-place x e h k =
        sym (body-step ∙ ap (λ o. then (then o (placed f i)) (λ g. body made g (suc i) (parts 10 after))) (sym h) ∙ ap (λ o. then o (λ g. body made g (suc i) (parts 10 after))) (sym k))

    pub body_more : (x : Item W) (g : File W) → Ok x ≡ line_at made i l → Ok g ≡ placed f i x → body made g (i + 1) (parts 10 after) ≡ body made f i (parts 10 rest)
    body_more x g h k =
        let next : i + 1 ≡ suc i = omega arith in
        ap (λ j. body made g j (parts 10 after)) next ∙ sym (body-step ∙ ap (λ o. then (then o (placed f i)) (λ g. body made g (suc i) (parts 10 after))) (sym h) ∙ ap (λ o. then o (λ g. body made g (suc i) (parts 10 after))) (sym k))

  pub body_end : (f : File W) (i : ℕ) (rest : List ℕ) → parts 10 rest ≡ rest ∷ [] → length rest ≡ 0 → Ok f ≡ body made f i (parts 10 rest)
  unfolding body
  body_end f i [] h l = sym (ap (body made f i) h)
  body_end f i (b ∷ rest) h l = absurd (omega arith)

  pub body_open : (f : File W) (i : ℕ) (rest : List ℕ) → parts 10 rest ≡ rest ∷ [] → 0 < length rest → Err (Malformed i) ≡ body made f i (parts 10 rest)
  unfolding body
  body_open f i [] h l = absurd (omega arith)
  body_open f i (b ∷ rest) h l = sym (ap (body made f i) h)
