-- Arrays, of numbers or of anything else that has bytes.
use Rattle.std.specs.Prelude.{ℕ, zero, suc, List, [], ◌∷◌, ◌++◌}

-- the bytes of each of xs, one after another
unfoldable pub each : {A : Type 0} → (A → List ℕ) → List A → List ℕ
each f [] = []
each f (x ∷ xs) = f x ++ each f xs

-- f 0, f 1, .. f (n - 1)
unfoldable pub tab : {A : Type 0} → (ℕ → A) → ℕ → List A
tab f zero = []
tab f (suc n) = tab f n ++ (f n ∷ [])
