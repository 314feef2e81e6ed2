-- Writing answers down in a log.
use Rattle.std.proofs.Common.{◌≡◌, ℕ, ◌+◌, ◌<◌, ◌≤◌, List, [], ◌∷◌, ◌++◌, length, get_or, take, drop, set, sym, ap, ◌∙◌, append_assoc, append-nil, arith}
use borrow.Rule.Slice.PartMut.{put_mid}
use Rattle.std.proofs.lemmas.List.{map-append, map-set, set-get_or, get_or-map, length-map, length-drop, take_more, take_more_set, take-map, take_all, drop_all, take-append-drop}
use Rattle.promise.specs.declared.answer.Answer.{Answer}
use Rattle.promise.specs.declared.answer.Answer.TheVariants.{NotMade}
use Rattle.installation.specs.declared.call.Call.TheVariants.{Open}
use Rattle.installation.specs.declared.call.Line.{Line}
use Rattle.installation.specs.Perform.{calls, answers}

abbrev pub blank : Line
blank = record { call = Open; answer = NotMade }

-- A log in whose line i an answer was written.
abbrev pub noted : List Line → ℕ → Answer → List Line
noted log i a = set log i (record { call = (get_or log i blank).call; answer = a })

pub calls-noted : (log : List Line) (i : ℕ) (a : Answer) → i < length log → calls (noted log i a) ≡ calls log
calls-noted log i a h =
    map-set (λ (x : Line). x.call) log i (record { call = (get_or log i blank).call; answer = a })
    ∙ ap (set (calls log) i) (sym (get_or-map (λ (x : Line). x.call) log i blank Open h)) ∙ set-get_or (calls log) i Open

pub answers-noted : (log : List Line) (i : ℕ) (a : Answer) → i < length log → take (i + 1) (answers (noted log i a)) ≡ take i (answers log) ++ a ∷ []
answers-noted log i a h =
    ap (take (i + 1)) (map-set (λ (x : Line). x.answer) log i (record { call = (get_or log i blank).call; answer = a }))
    ∙ take_more_set (answers log) i a (let e = length-map log (λ (x : Line). x.answer) in omega arith)

pub call-is : (log old : List Line) (i : ℕ) → i < length log → calls log ≡ calls old → (get_or log i blank).call ≡ get_or (calls old) i Open
call-is log old i h e = sym (get_or-map (λ (x : Line). x.call) log i blank Open h) ∙ ap (λ cs. get_or cs i Open) e

pub calls-on : (log old : List Line) (i : ℕ) → i < length log → calls log ≡ calls old → take i (calls old) ++ (get_or log i blank).call ∷ [] ≡ take (i + 1) (calls old)
calls-on log old i h e =
    ap (λ c. take i (calls old) ++ c ∷ []) (call-is log old i h e)
    ∙ sym (take_more (calls old) i Open (let a = length-map log (λ (x : Line). x.call) in let b = ap length e in omega arith))

-- A log whose first lines are of one log and whose rest is another.
pub log-joined : (n k : ℕ) (log tail : List Line) → length log ≤ n + k → put_mid n k log tail ≡ take n log ++ tail
log-joined n k log tail h =
    ap (λ z. take n log ++ (tail ++ z)) (drop_all k (drop n log) (let e = length-drop n log in omega arith))
    ∙ ap (λ z. take n log ++ z) (append-nil tail)

pub answers-joined : (i : ℕ) (log tail : List Line) (a : Answer) → i < length log → answers (take (i + 1) (noted log i a) ++ tail) ≡ take i (answers log) ++ a ∷ answers tail
answers-joined i log tail a h =
    map-append (λ (x : Line). x.answer) (take (i + 1) (noted log i a)) tail
    ∙ ap (λ z. z ++ answers tail) (sym (take-map (λ (x : Line). x.answer) (i + 1) (noted log i a)) ∙ answers-noted log i a h)
    ∙ append_assoc (take i (answers log)) (a ∷ []) (answers tail)

pub calls-joined : (n : ℕ) (log tail : List Line) → calls tail ≡ drop n (calls log) → calls (take n log ++ tail) ≡ calls log
calls-joined n log tail e =
    map-append (λ (x : Line). x.call) (take n log) tail ∙ ap (λ z. calls (take n log) ++ z) e
    ∙ ap (λ z. z ++ drop n (calls log)) (sym (take-map (λ (x : Line). x.call) n log)) ∙ take-append-drop n (calls log)

-- A log has no calls or answers beyond its lines.
pub whole-log : (i : ℕ) (log : List Line) → length log ≤ i → (take i (calls log) ≡ calls log) × (take i (answers log) ≡ answers log)
whole-log i log h = (
  take_all i (calls log) (let e = length-map log (λ (x : Line). x.call) in omega arith),
  take_all i (answers log) (let e = length-map log (λ (x : Line). x.answer) in omega arith),
)
