-- Document 01: a record begins with its magic.
use Rattle.std.specs.Prelude.{ℕ, Bool, true, false, ◌&&◌, List, [], ◌∷◌, eqb}

-- s starts with the bytes m
unfoldable pub starts_with : List ℕ → List ℕ → Bool
starts_with s [] = true
starts_with [] (b ∷ m) = false
starts_with (a ∷ s) (b ∷ m) = eqb a b && starts_with s m
