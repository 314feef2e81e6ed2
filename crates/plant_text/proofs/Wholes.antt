-- The whole text.
use Rattle.std.proofs.Common.{◌≡◌, ℕ, ◌≤◌, false, List, ◌∷◌, length, Ok, sym, ap, ◌∙◌}
use Rattle.std.proofs.lemmas.Bool.{cond-false, le-ltb}
use Rattle.weights.specs.declared.cost.Cost.{Cost}
use Rattle.weights.specs.Made.{cost_from}
use Rattle.plant_lines.specs.declared.item.Item.{Item}
use Rattle.plant_lines.specs.Line.{line_at}
use Rattle.plant_tables.specs.File.{then}
use Rattle.plant_text.specs.Plant.{file_of, lines, opened, lacks_head}
use Rattle.text_words.specs.Split.{parts, Cut}
use Rattle.text_words.proofs.Cutting.{parts-some}

-- a text whose first line is l, and what that line tells
pub whole_item : (bs l after : List ℕ) → length bs ≤ 4096 → false ≡ lacks_head bs → Cut 10 bs l after → (x : Item Cost) → Ok x ≡ line_at cost_from 1 l → file_of bs ≡ opened (parts 10 after) x
whole_item bs l after few has cut x h =
    let s = parts-some 10 after in
    cond-false _ _ _ (le-ltb 4096 (length bs) few) ∙ cond-false _ _ _ (sym has) ∙ ap lines cut.split ∙ ap (λ ps. lines (l ∷ ps)) s.2
    ∙ ap (λ ps. then (line_at cost_from 1 l) (opened ps)) (sym s.2) ∙ ap (λ o. then o (opened (parts 10 after))) (sym h)
