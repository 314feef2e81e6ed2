use Rattle.std.proofs.Common.{◌≡◌, ℕ, ◌+◌, ◌<◌, List, [], cond, length, get_or, take, set, sym, refl, ap, ◌∙◌, subst, arith}
use Rattle.std.proofs.lemmas.List.{length-map, get_or-map, get_or_default, map_more}
use Rattle.plans.specs.Plan.{among}
use Rattle.block_records.specs.Words.{numbers_in}
use Rattle.thinning.proofs.Marking.{number_of, filled_more}
use Rattle.thinning.proofs.marks.fill_at.Goals as goal

pub loop-words-init : goal.loop-words-init
unfolding among
loop-words-init g c = λ k. refl

pub bounds-marks-words : goal.bounds-marks-words
bounds-marks-words g c =
    let i = c.loop-words.words-index in
    let n = length-map c.args.records.now number_of in
    let m = get_or-map number_of c.args.records.now i [] 0 (omega arith) in
    let r = ap number_of (c.words-item.is ∙ get_or_default c.args.records.now i c.words-item.result [] (omega arith)) in
    omega (arith, c.requires.under i (omega arith))

pub loop-words-preserved : goal.loop-words-preserved
loop-words-preserved g c =
    let rs = c.args.records.now in
    let ms = c.loop-words.marks in
    let os = c.args.marks.now in
    let v = c.args.word in
    let i = c.loop-words.words-index in
    let x = number_of (get_or rs i []) in
    let r : number_of c.words-item.result ≡ x = ap number_of (c.words-item.is ∙ get_or_default rs i c.words-item.result [] (omega arith)) in
    let n = length-map rs number_of in
    let m = get_or-map number_of rs i [] 0 (omega arith) in
    let u : x < length ms = omega (arith, c.requires.under i (omega arith)) in
    let f : (k : ℕ) → get_or (set ms x v) k 0 ≡ cond (among k (numbers_in (take (i + 1) rs))) v (get_or os k 0) =
    subst (λ (xs : List ℕ). (k : ℕ) → get_or (set ms x v) k 0 ≡ cond (among k xs) v (get_or os k 0)) (sym (map_more number_of rs i [] (omega arith)))
    (filled_more ms os (numbers_in (take i rs)) x v u c.loop-words.invariant) in
    rw r f
