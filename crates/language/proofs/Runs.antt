-- Runs through sets: wider sets, joins and cuts.
use Rattle.std.proofs.Common.{ℕ, List, [], ◌∷◌, ◌++◌}
use Rattle.language.specs.Sets.{Run}

-- wider sets allow more
pub run_wider : (F G : ℕ → ℕ → Type 0) (L M : ℕ → Type 0)
    → ((x y : ℕ) → F x y → G x y) → ((x : ℕ) → L x → M x)
    → (x : ℕ) (w : List ℕ) → Run F L x w → Run G M x w
run_wider F G L M f m x [] h = m x h
run_wider F G L M f m x (y ∷ w) h = (f x y h.0, run_wider F G L M f m y w h.1)

-- a run, and then another that begins at y
pub run_join : (F : ℕ → ℕ → Type 0) (L M : ℕ → Type 0) (y : ℕ) (v : List ℕ)
    → ((x : ℕ) → L x → F x y) → Run F M y v
    → (x : ℕ) (u : List ℕ) → Run F L x u → Run F M x (u ++ (y ∷ v))
run_join F L M y v step rest x [] h = (step x h, rest)
run_join F L M y v step rest x (z ∷ u) h = (h.0, run_join F L M y v step rest z u h.1)

-- the last of a run is in L
pub run_last : (F : ℕ → ℕ → Type 0) (L : ℕ → Type 0) (x : ℕ) (u : List ℕ) (z : ℕ)
    → Run F L z (u ++ (x ∷ [])) → L x
run_last F L x [] z h = h.1
run_last F L x (y ∷ u) z h = run_last F L x u y h.1

-- what a run goes through is a run
pub run_rest : (F : ℕ → ℕ → Type 0) (L : ℕ → Type 0) (x : ℕ) (v : List ℕ) (u : List ℕ) (z : ℕ)
    → Run F L z (u ++ (x ∷ v)) → Run F L x v
run_rest F L x v [] z h = h.1
run_rest F L x v (y ∷ u) z h = run_rest F L x v u y h.1

-- what comes after x can be put in place of what comes after x elsewhere
pub run_swap : (F : ℕ → ℕ → Type 0) (L : ℕ → Type 0) (x : ℕ) (v v' : List ℕ) (u : List ℕ) (z : ℕ)
    → Run F L z (u ++ (x ∷ v)) → Run F L x v' → Run F L z (u ++ (x ∷ v'))
run_swap F L x v v' [] z h k = (h.0, k)
run_swap F L x v v' (y ∷ u) z h k = (h.0, run_swap F L x v v' u y h.1 k)

-- a run that begins in I stays in I, where it goes through narrower sets
pub run_stays : (F G : ℕ → ℕ → Type 0) (L M I : ℕ → Type 0)
    → ((x y : ℕ) → I x → F x y → G x y × I y) → ((x : ℕ) → I x → L x → M x)
    → (x : ℕ) (w : List ℕ) → I x → Run F L x w → Run G M x w
run_stays F G L M I f m x [] i h = m x i h
run_stays F G L M I f m x (y ∷ w) i h =
    let p = f x y i h.0 in (p.0, run_stays F G L M I f m y w p.1 h.1)
