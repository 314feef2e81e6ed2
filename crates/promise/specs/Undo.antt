-- What a change does to the carrying links, and that it can be taken back, while nothing else touches the fabric.
use Rattle.std.specs.Prelude.{◌≡◌, ℕ, ◌≤◌, Bool, true, false, ◌⊎◌, List, length, Ok, Err, Result, ◌≢◌}
use Rattle.fabrics.specs.Meaning.{carries}
use Rattle.player.specs.declared.states.Steady.{Steady}
use Rattle.player.specs.declared.states.Between.{Between}
use Rattle.player.specs.declared.states.Kept.{Kept}
use Rattle.player.specs.Plan.{Sheet}
use Rattle.player.specs.States.{Rest, rest, way}
use Rattle.player.specs.Moves.{Forwards, Backwards, Joins, Cancels}

-- A call was granted, and its answer is such.
abbrev pub Granted : {X Y : Type 0} → Result X Y → (X → Type 0) → Type 0
Granted (Ok x) P = P x
Granted (Err y) P = ⊥

-- A granted forward or backward, which leads from the steady player p to the player b between.
abbrev pub Departs : Rest → Sheet → List Bool → Between → List Bool → Type 0
Departs p s c b d = Forwards p s c (Ok b) d ⊎ Backwards p s c (Ok b) d

-- From the carrying links c to d exactly link l has gone out and exactly link e has come in; 0 stands for none.
pub record Exchanged (l e : ℕ) (c d : List Bool) : Type 0 where
  pub size : length d ≡ length c
  pub out : (l ≢ 0) → (carries c l ≡ true) × (carries d l ≡ false)
  pub into : (e ≢ 0) → (carries c e ≡ false) × (carries d e ≡ true)
  pub others : (k : ℕ) → 1 ≤ k → (k ≢ l) → (k ≢ e) → carries d k ≡ carries c k

-- Join is granted, and the leaving and the coming link are exchanged.
abbrev pub JoinsExchange : Type 0
JoinsExchange =
    (p : Rest) (s : Sheet) (c : List Bool) (b : Between) (d : List Bool) → Departs p s c b d
    → (r : Result Steady (Kept Between)) (e : List Bool) → Joins (way b) d r e
    → Granted r (λ q. (rest q).t ≡ (way b).to) × Exchanged (way b).leaving (way b).coming c e

-- Between, at most the leaving link has gone out.
abbrev pub DeparturesPart : Type 0
DeparturesPart =
    (p : Rest) (s : Sheet) (c : List Bool) (b : Between) (d : List Bool) → Departs p s c b d → Exchanged (way b).leaving 0 c d

-- Cancel is granted, and the player and what carries are as they were.
abbrev pub CancelsUndo : Type 0
CancelsUndo =
    (p : Rest) (s : Sheet) (c : List Bool) (b : Between) (d : List Bool) → Departs p s c b d
    → (r : Result Steady (Kept Between)) (e : List Bool) → Cancels (way b) d r e
    → Granted r (λ q. rest q ≡ p) × (e ≡ c)

-- After forward and join, backward and join are granted, and the player and what carries are as they were.
abbrev pub BackwardsUndo : Type 0
BackwardsUndo =
    (p : Rest) (s : Sheet) (c : List Bool) (b : Between) (d : List Bool) → Forwards p s c (Ok b) d
    → (q : Steady) (e : List Bool) → Joins (way b) d (Ok q) e
    → (r : Result Between (Kept Steady)) (f : List Bool) → Backwards (rest q) s e r f
    → Granted r (λ a. (o : Result Steady (Kept Between)) (g : List Bool) → Joins (way a) f o g → Granted o (λ z. rest z ≡ p) × (g ≡ c))

abbrev pub ChangesUndone : Type 0
ChangesUndone = DeparturesPart × JoinsExchange × CancelsUndo × BackwardsUndo
